use mathlib.Core.Path.{◌≡◌, sym, ◌∙◌}
use mathlib.Core.Logic.{⊎_elim}
use Prim.Native.Nat.{◌-◌, ◌≤◌}
use native.Mathlib.Nat.{le_antisymm}
use native.Mathlib.Omega.{arith}
use borrow.Author.Rules.{rules}
use Rattle.graph.specs.Through.{union, between}
use Rattle.graph.proofs.OnCycle.{union-none, union-in, union-out}
use Rattle.graph.proofs.edges_between.Goals as goal
use Rattle.graph.proofs.edges_between.Goals.{then-has, else-has}

pub loop-v-init : goal.loop-v-init
loop-v-init c = (omega arith, sym (union-none _ _), sym (union-none _ _))

pub loop-v-preserved : goal.loop-v-preserved
loop-v-preserved c =
    let at = c.loop-v in
    let a = c.args in
    let is = c.has.ensures in (
      omega arith,
      elim c.if-has.branch [
        | then-has w ↦ cc (w.a-is, at.invariant.1, union-in a.out.now a.s at.v (sym is ∙ w.if-has.true))
        | else-has w ↦ cc (w.a-is, at.invariant.1, union-out a.out.now a.s at.v (sym is ∙ w.if-has.false))
      ],
      elim c.if-has.branch [
        | then-has w ↦ cc (w.b-is, at.invariant.2, union-in a.into.now a.s at.v (sym is ∙ w.if-has.true))
        | else-has w ↦ cc (w.b-is, at.invariant.2, union-out a.into.now a.s at.v (sym is ∙ w.if-has.false))
      ],
    )

pub returns : goal.returns
unfolding between
returns c =
    let i = c.loop-v.invariant in
    cc (c.both-2.ensures, c.both.ensures, i.1, i.2, le_antisymm i.0 c.loop-v-test.false)
