use Rattle.holding.specs.Holding.{Shut}
use Prim.Native.Nat.{◌*◌}
use Rattle.holding.proofs.leads_out.Given as goal

abbrev pub invariant-loop-a : goal.invariant-loop-a
invariant-loop-a l = Shut l.k l.g.targets.now l.g.priorities.now l.marks (l.s * l.g.letters) l.a
