-- Runs of stores: one after the other, what they leave as it was, one number again and again, and a list stored into a table of zeros. Assumes nothing.
use Prim.Native.Nat.{ℕ, zero, suc, ◌+◌, ◌-◌, ◌≤◌, ◌<◌}
use native.Mathlib.Omega.{arith}
use native.Mathlib.Nat.{add-zero, add-suc, suc-add}
use native.Mathlib.Numerals.{add-one}
use mathlib.Core.Path.{◌≡◌, refl, sym, ap, ◌∙◌}
use mathlib.Core.List.{List, [], ◌∷◌, ◌++◌}
use lib.ListN.{length, get_or, set, take, drop, replicate, length-append, length-replicate, replicate-append-replicate}
use lib.Seq.{sets, length-sets, sets-eq, set-set, set_comm, get_or-set_other, take_at, length-take-le}
use Rattle.tables.specs.Tables.{padded, zeros, Stored}

module _ {A : Type 0} where
  -- ---- one run after the other
  pub sets-append : (xs ys l : List A) (i : ℕ) → sets l i (xs ++ ys) ≡ sets (sets l i xs) (i + length xs) ys
  sets-append [] ys l i = ap (λ (k : ℕ). sets l k ys) (sym (add-zero i))
  sets-append (x ∷ xs) ys l i =
      sets-append xs ys (set l i x) (suc i) ∙ ap (λ (k : ℕ). sets (sets (set l i x) (suc i) xs) k ys) (suc-add i (length xs) ∙ sym (add-suc i (length xs)))

  -- the first is stored after the others
  pub sets_first : (x : A) (xs l : List A) (i : ℕ) → sets (set l i x) (i + 1) xs ≡ sets l i (x ∷ xs)
  sets_first x xs l i = ap (λ (k : ℕ). sets (set l i x) k xs) (add-one i)

  -- a store before them
  pub set-sets : (xs l : List A) (i k : ℕ) (y : A) → k < i → set (sets l i xs) k y ≡ sets (set l k y) i xs
  set-sets [] l i k y h = refl
  set-sets (x ∷ xs) l i k y h = set-sets xs (set l i x) (suc i) k y (omega arith) ∙ ap (λ (t : List A). sets t (suc i) xs) (set_comm l i k x y (λ e. omega arith))

  -- the first stored again
  pub sets-head : (x y : A) (xs l : List A) (i : ℕ) → set (sets l i (x ∷ xs)) i y ≡ sets l i (y ∷ xs)
  sets-head x y xs l i = set-sets xs (set l i x) (suc i) i y (omega arith) ∙ ap (λ (t : List A). sets t (suc i) xs) (set-set l i x y)

  -- ---- what is left as it was, and what stands at the front
  pub sets-before : (xs l : List A) (i k : ℕ) (d : A) → k < i → get_or (sets l i xs) k d ≡ get_or l k d
  sets-before [] l i k d h = refl
  sets-before (x ∷ xs) l i k d h = sets-before xs (set l i x) (suc i) k d (omega arith) ∙ get_or-set_other l i k x d (λ e. omega arith)

  pub front-more : (t vs : List A) (i n : ℕ) → length vs ≡ n → i + n ≤ length t → take (i + n) (sets t i vs) ≡ take i t ++ vs
  front-more t vs i n e h =
      let l : i + length vs ≤ length t = omega arith in
      rw (sets-eq vs t i l)
      (take_at (take i t ++ vs) _ (i + n) (length-append (take i t) vs ∙ omega (arith, length-take-le i t (omega arith))))

  -- ---- the same again and again
  pub drop-replicate : (k n : ℕ) (x : A) → drop k (replicate n x) ≡ replicate (n - k) x
  drop-replicate zero n x = let e : n ≡ n - 0 = omega arith in ap (λ (j : ℕ). replicate j x) e
  drop-replicate (suc k) zero x = let e : 0 ≡ 0 - suc k = omega arith in ap (λ (j : ℕ). replicate j x) e
  drop-replicate (suc k) (suc n) x = let e : n - k ≡ suc n - suc k = omega arith in drop-replicate k n x ∙ ap (λ (j : ℕ). replicate j x) e

-- ---- a run, and the place after it
pub stored-none : (t : List ℕ) (at : ℕ) → Stored t t at at []
stored-none t at = record { now_is = refl; next_is = omega arith }

pub stored-length : {t₀ t : List ℕ} {at next : ℕ} {xs : List ℕ} → Stored t₀ t at next xs → length t ≡ length t₀
stored-length {t₀} {t} {at} {next} {xs} s = ap length s.now_is ∙ length-sets t₀ at xs

pub stored-join : {t₀ t₁ t₂ : List ℕ} {at i j : ℕ} {xs ys : List ℕ} → Stored t₀ t₁ at i xs → Stored t₁ t₂ i j ys → Stored t₀ t₂ at j (xs ++ ys)
stored-join {t₀} {t₁} {t₂} {at} {i} {j} {xs} {ys} a b = record {
  now_is = b.now_is ∙ ap (λ (k : ℕ). sets t₁ k ys) a.next_is ∙ ap (λ (l : List ℕ). sets l (at + length xs) ys) a.now_is ∙ sym (sets-append xs ys t₀ at);
  next_is = omega (arith, a.next_is, b.next_is, length-append xs ys);
}

pub stored_one : (t : List ℕ) (at x : ℕ) → Stored t (set t at x) at (at + 1) (x ∷ [])
stored_one t at x = record { now_is = refl; next_is = omega arith }

pub stored_more : {t₀ t : List ℕ} {at next : ℕ} {xs : List ℕ} → Stored t₀ t at next xs → (x : ℕ) → Stored t₀ (set t next x) at (next + 1) (xs ++ (x ∷ []))
stored_more {t₀} {t} {at} {next} {xs} s x = stored-join s (stored_one t next x)

-- one number, again and again
pub replicate-none : (t : List ℕ) (from v : ℕ) → t ≡ sets t from (replicate (from - from) v)
replicate-none t from v = let e : 0 ≡ from - from = omega arith in ap (λ (k : ℕ). sets t from (replicate k v)) e

pub replicate_more : (t₀ t : List ℕ) (from i v : ℕ) → from ≤ i → t ≡ sets t₀ from (replicate (i - from) v) → set t i v ≡ sets t₀ from (replicate (i + 1 - from) v)
replicate_more t₀ t from i v h e =
    let k : ℕ = i - from in
    let e₁ : i + 1 - from ≡ k + 1 = omega arith in
    let s : Stored t₀ t from i (replicate k v) = record { now_is = e; next_is = omega (arith, length-replicate k v) } in
    (stored_more s v).now_is ∙ ap (sets t₀ from) (replicate-append-replicate k 1 v ∙ ap (λ (j : ℕ). replicate j v) (sym e₁))

-- a list into a table of zeros
pub sets-padded : (t xs : List ℕ) → t ≡ zeros t → length xs ≤ length t → sets t 0 xs ≡ padded (length t) xs
unfolding zeros padded
sets-padded t xs z h =
    let e : 0 + length xs ≡ length xs = omega arith in
    let l : 0 + length xs ≤ length t = omega arith in
    sets-eq xs t 0 l ∙ ap (λ (n : ℕ). xs ++ drop n t) e ∙ ap (λ (r : List ℕ). xs ++ drop (length xs) r) z ∙ ap (λ (r : List ℕ). xs ++ r) (drop-replicate (length xs) (length t) 0)
