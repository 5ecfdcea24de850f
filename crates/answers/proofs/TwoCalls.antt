-- The number and the offset of a call that asks the questions of two: after the first refused, and after it passed. Assumes nothing.
use Prim.Native.Nat.{ℕ}
use mathlib.Core.Path.{◌≡◌, ◌∙◌}
use mathlib.Core.Logic.{◌≢◌}
use mathlib.Core.Bool.{cond}
use lib.Dec.{eqb}
use borrow.Author.Tests.{eq-eqb, ne_eqb}
use Rattle.answers.specs.Answers.{first_of, offset_after}

module _ (a b n o : ℕ) where
  pub first-refused : n ≡ a → n ≢ 0 → n ≡ first_of a b
  unfolding first_of
  first-refused e z = rw (ne_eqb a 0 (λ x. z (e ∙ x))) e

  pub offset-refused : n ≡ a → n ≢ 0 → o ≡ offset_after a b o
  unfolding offset_after
  offset-refused e z = rw (ne_eqb a 0 (λ x. z (e ∙ x)))

  pub first-passed : a ≡ 0 → n ≡ b → n ≡ first_of a b
  unfolding first_of
  first-passed z e = rw (eq-eqb a 0 z) e

  pub offset-passed : a ≡ 0 → n ≡ b → cond (eqb n 0) o 0 ≡ offset_after a b o
  unfolding offset_after
  offset-passed z e = rw (eq-eqb a 0 z, e)
