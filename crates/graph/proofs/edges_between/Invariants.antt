-- `graph::edges_between` meets its contract. The invariant: a and b have the sets of the two tables at the members of s passed. Assumes nothing.
use mathlib.Core.Path.{◌≡◌, sym, ◌∙◌}
use mathlib.Core.Logic.{⊎_elim}
use Prim.Native.Nat.{◌-◌, ◌≤◌}
use native.Mathlib.Nat.{le_antisymm}
use native.Mathlib.Omega.{arith}
use borrow.Author.Rules.{rules}
use Rattle.graph.specs.Through.{union, between}
use Rattle.graph.proofs.OnCycle.{union-none, union-in, union-out}
use Rattle.graph.proofs.edges_between.Given as goal

abbrev pub invariant-loop-v : goal.invariant-loop-v
invariant-loop-v l = (l.v ≤ l.states) × (l.a ≡ union l.out l.s l.v) × (l.b ≡ union l.into l.s l.v)

abbrev pub decreases-loop-v : goal.decreases-loop-v
decreases-loop-v l = l.states - l.v
