-- Rounds without end: a round takes x to f x and meets `out x`.
use Rattle.std.specs.Prelude.{ℕ, zero, suc, List, [], ◌++◌}

-- where n rounds lead
unfoldable pub iter {ℓ} : {A : Type ℓ} → (A → A) → ℕ → A → A
iter f zero x = x
iter f (suc n) x = f (iter f n x)

module _ {A B : Type 0} (f : A → A) (out : A → List B) (x : A) where
  -- all that the k rounds from round i on meet
  unfoldable pub rounds : ℕ → ℕ → List B
  rounds i zero = []
  rounds i (suc k) = out (iter f i x) ++ rounds (suc i) k
