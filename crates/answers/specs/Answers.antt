-- What one call answers that asks the questions of two.
use Rattle.std.specs.Prelude.{ℕ, cond, eqb}

-- of two numbers of refusals, one after the other: the first that is not 0
unfoldable pub first_of : ℕ → ℕ → ℕ
first_of first second = cond (eqb first 0) second first

-- the offset: where the refused command begins, if the first of the two refused; 0 if the second did; else where what follows begins
unfoldable pub offset_after : ℕ → ℕ → ℕ → ℕ
offset_after first second offset = cond (eqb first 0) (cond (eqb second 0) offset 0) offset
