-- The laws of a padded table: its length, its places and its beginning. Assumes nothing.
use Prim.Native.Nat.{ℕ, zero, suc, ◌+◌, ◌-◌, ◌≤◌, ◌<◌}
use native.Mathlib.Omega.{arith}
use mathlib.Core.Path.{◌≡◌, refl, ap, ◌∙◌}
use mathlib.Core.List.{List, ◌++◌}
use lib.ListN.{length, get_or, take, replicate, length-append, length-replicate, get_or-append}
use lib.Seq.{length-take-le, take_at, get_or-append-add}
use Rattle.tables.specs.Tables.{padded, zeros}

pub length-zeros : (t : List ℕ) → length (zeros t) ≡ length t
unfolding zeros
length-zeros t = length-replicate (length t) 0

-- clearing looks at the length alone
pub zeros-same : (t u : List ℕ) → length t ≡ length u → zeros t ≡ zeros u
unfolding zeros
zeros-same t u e = ap (λ (n : ℕ). replicate n 0) e

pub length-padded : (n : ℕ) (l : List ℕ) → length l ≤ n → length (padded n l) ≡ n
unfolding padded
length-padded n l h = simp (length-append, length-replicate) (omega arith)

pub get_or-padded : (n : ℕ) (l : List ℕ) (i : ℕ) → i < length l → get_or (padded n l) i 0 ≡ get_or l i 0
unfolding padded
get_or-padded n l i h = get_or-append l (replicate (n - length l) 0) 0 i h

zero-at : (n i : ℕ) → get_or {A = ℕ} (replicate n 0) i 0 ≡ 0
zero-at zero i = refl
zero-at (suc n) zero = refl
zero-at (suc n) (suc i) = zero-at n i

pub padded-past : (n : ℕ) (l : List ℕ) (i : ℕ) → length l ≤ i → get_or (padded n l) i 0 ≡ 0
unfolding padded
padded-past n l i h =
    let e : i ≡ length l + (i - length l) = omega arith in
    ap (λ (j : ℕ). get_or (l ++ replicate (n - length l) 0) j 0) e ∙ get_or-append-add l (replicate (n - length l) 0) (i - length l) 0 ∙ zero-at (n - length l) (i - length l)

-- its beginning
pub take-padded : (n k : ℕ) (t : List ℕ) → k ≤ length t → take k (padded n (take k t)) ≡ take k t
unfolding padded
take-padded n k t h = take_at (take k t) (replicate (n - length (take k t)) 0) k (length-take-le k t h)
