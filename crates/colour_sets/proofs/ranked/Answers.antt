use Prim.Native.Nat.{ℕ, ◌+◌, ◌-◌, ◌≤◌}
use native.Mathlib.Nat.{le_antisymm}
use native.Mathlib.Omega.{arith}
use mathlib.Core.Path.{◌≡◌, sym, ap, ◌∙◌}
use mathlib.Core.Logic.{⊎_elim}
use lib.ListN.{length}
use borrow.Author.Rules.{rules}
use borrow.Author.Tests.{eq-eqb, ne_eqb}
use Rattle.colour_sets.proofs.Counting.{sized_to, count-with, count-without, count-all, found}
use Rattle.colour_sets.proofs.ranked.Goals as goal
use Rattle.colour_sets.proofs.ranked.Goals.{then-members-c+else-left-le1, else-members-c}

pub loop-s-init : goal.loop-s-init
loop-s-init c = (omega arith, c.requires.0, omega arith)

pub returns-then-left-le1 : goal.returns-then-left-le1
returns-then-left-le1 c =
    let l = c.loop-s in
    let a = c.args in
    found a.c l.s (a.rank - 1) (omega arith) (eq-eqb _ _ (sym c.members.ensures ∙ c.if-members-c.true)) (omega (arith, l.invariant.1, l.invariant.2, c.if-left-le1.true))

pub loop-s-preserved : goal.loop-s-preserved
loop-s-preserved c =
    let l = c.loop-s in
    let k = c.args.c in
    let t = c.members.ensures in
    elim c.if-members-c.branch [
      | then-members-c+else-left-le1 w ↦
          (omega arith, omega arith, omega (arith, count-with k l.s (eq-eqb _ _ (sym t ∙ w.if-members-c.true))))
      | else-members-c w ↦
          (omega arith, omega arith, omega (arith, count-without k l.s (ne_eqb _ _ (λ z. w.if-members-c.false (t ∙ z)))))
    ]

-- all masks were passed, and so the set
pub returns : goal.returns
returns c =
    let l = c.loop-s in
    let s = c.before.before in
    let all = ap (λ (n : ℕ). length (sized_to s.args.c n)) (le_antisymm l.invariant.0 c.loop-s-test.false) ∙ count-all s.args.c in
    absurd (omega (arith, l.invariant.1, l.invariant.2, all, s.requires.1))
