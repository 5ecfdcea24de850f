use Rattle.looks.proofs.Spans.{past_next}
use Rattle.candidates.specs.Candidates.{wanted}
use Rattle.policy.specs.ByColour.{table_colours}
use lib.ListN.{get_or}
use mathlib.Core.Bool.{false}
use mathlib.Core.Path.{◌≡◌}
use Prim.Native.Nat.{ℕ}
use native.Mathlib.Omega.{arith}
use Rattle.looks.proofs.past_all.Goals as goal

pub loop-x-init : goal.loop-x-init
loop-x-init c = (omega arith, c.requires.1, λ l j b. absurd (omega (arith, b)))

pub past_wanted-left-requires : goal.past_wanted-left-requires
past_wanted-left-requires c = (c.requires.0, c.loop-x.invariant.1)

pub loop-x-preserved : goal.loop-x-preserved
loop-x-preserved c =
    let a = c.args in
    let at = c.loop-x in
    let o = c.past_wanted-left.ensures in (
      omega (arith, at.invariant.0, o.0),
      o.1,
      past_next (λ (j : ℕ). table_colours a.by.now (get_or a.cycles.now j 0)) (λ (j : ℕ). wanted (table_colours a.by.now (get_or a.cycles.now j 0)) (get_or a.cycles.now j 0) a.other.now a.hues.now a.same.now ≡ false) at.x-index at.left c.past_wanted-left.result a.c o.0 at.invariant.2 o.2,
    )

pub returns : goal.returns
returns c = let i = c.loop-x.invariant in (i.0, i.1, λ l j b. i.2 l j (omega (arith, b, c.loop-x-test.false)))
