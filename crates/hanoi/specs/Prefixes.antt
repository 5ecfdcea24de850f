-- Digits of n that begin those of k, by numbers: k without its last digits, while it is greater than n.
use Rattle.std.specs.Prelude.{ℕ, zero, suc, ◌/◌, Bool, ◌&&◌, ◌||◌, cond, eqb, ltb}

unfoldable pub cut : ℕ → ℕ → ℕ → ℕ
cut zero n k = k
cut (suc i) n k = let r = cut i n (k / 10) in cond (ltb n k) r k

unfoldable pub prefix_of : ℕ → ℕ → Bool
prefix_of n k = (ltb 0 n || eqb k 0) && eqb n (cut 10 n k)
