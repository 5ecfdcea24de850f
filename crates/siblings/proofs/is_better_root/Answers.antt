-- `is_better_root` meets its contract. Assumes nothing.
use Prim.Native.Nat.{ℕ, ◌≤◌, ◌<◌}
use mathlib.Core.Path.{◌≡◌, refl, ◌∙◌}
use mathlib.Core.Logic.{◌⊎◌, inl, inr, ◌≢◌}
use mathlib.Core.Bool.{true, false}
use borrow.Author.Tests.{lt-ltb, le-ltb}
use Rattle.lists.proofs.Bools.{≡eqb, neqb}
use Rattle.forest.specs.Forest.{before}
use Rattle.siblings.specs.NextRoot.{stands_after, better, root_better}
use Rattle.siblings.proofs.is_better_root.Goals.{then-after-eq0, else-after-eq0}
use Rattle.siblings.proofs.is_better_root.Goals as goal

passes : (a m : ℕ) → (a ≡ 0) ⊎ ((a ≢ 0) × (a < m)) → stands_after a m ≡ true
unfolding stands_after before
passes a m (inl e) = rw (≡eqb a 0 e) refl
passes a m (inr q) = rw (neqb a 0 q.0) (lt-ltb a m q.1)

fails : (a m : ℕ) → (a ≢ 0) × (m ≤ a) → stands_after a m ≡ false
unfolding stands_after before
fails a m q = rw (neqb a 0 q.0) (le-ltb a m q.1)

pub returns-then-best-eq0 : goal.returns-then-best-eq0
unfolding root_better better
returns-then-best-eq0 c = rw (passes c.args.after c.args.m c.if-after-m.either) (rw (≡eqb c.args.best 0 c.if-best-eq0.true) refl)

pub returns-else-best-eq0 : goal.returns-else-best-eq0
unfolding root_better better before
returns-else-best-eq0 c = rw (passes c.args.after c.args.m c.if-after-m.either) (rw (neqb c.args.best 0 c.if-best-eq0.false) refl)

pub returns-else-after-m : goal.returns-else-after-m
unfolding root_better
returns-else-after-m c =
    let q = c.if-after-m.false in
    rw (fails c.args.after c.args.m q)
    (elim c.if-after-eq0.branch [ then-after-eq0 w ↦ absurd (q.0 w.if-after-eq0.true) | else-after-eq0 w ↦ w.t-5-is ∙ le-ltb c.args.after c.args.m q.1 ])
