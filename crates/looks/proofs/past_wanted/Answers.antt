use Rattle.candidates.specs.Candidates.{wanted}
use mathlib.Core.Logic.{inl, inr}
use mathlib.Core.Path.{sym, ap, ◌∙◌}
use Prim.Native.Nat.{ℕ}
use native.Mathlib.Omega.{arith}
use Rattle.looks.proofs.past_wanted.Goals as goal

pub returns-then-c-hue : goal.returns-then-c-hue
returns-then-c-hue c = (c.requires.1, omega arith, λ l. absurd (omega (arith, l)))

pub returns-then-left-hue : goal.returns-then-left-hue
returns-then-left-hue c = (omega (arith, c.if-left-hue.true), omega (arith, c.if-c-hue.false), λ _. inl (omega (arith, c.colours_in-hue.ensures)))

pub returns-else-left-hue : goal.returns-else-left-hue
returns-else-left-hue c = (omega arith, c.requires.1, λ _. inl (omega (arith, c.colours_in-hue.ensures, c.if-left-hue.false)))

pub returns-else-is_wanted : goal.returns-else-is_wanted
returns-else-is_wanted c = let a = c.args in (omega arith, c.requires.1, λ _. inr (ap (λ (h : ℕ). wanted h a.x a.other.now a.hues.now a.same.now) (sym c.colours_in-hue.ensures) ∙ sym c.is_wanted.ensures ∙ c.if-is_wanted.false))
