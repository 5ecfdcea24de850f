-- Copies within a table: what stores past a part leave as it was, what they leave, and a copy place by place. Assumes nothing.
use Prim.Native.Nat.{ℕ, zero, suc, ◌+◌, ◌-◌, ◌≤◌, ◌<◌}
use native.Mathlib.Omega.{arith}
use native.Mathlib.Numerals.{add-one}
use mathlib.Core.Path.{◌≡◌, refl, sym, ap, ap₂, ◌∙◌}
use mathlib.Core.List.{List, [], ◌∷◌, ◌++◌, append_assoc}
use lib.ListN.{length, get_or, take, drop, set, length-drop, length-map}
use lib.Seq.{sets, paste, length-sets, sets-eq, take-suc, take-set-le, take_at, drop_at, drop-set-add, get_or-take, get_or-drop, length-take-le, take_all}
use Rattle.std.specs.List.{copy_within}
use Rattle.tables.specs.Copies.{part, moved}
use Rattle.tables.proofs.Stores.{sets-append, sets-before}

-- ---- what is left as it was
part-set : (s k : ℕ) (l : List ℕ) (i x : ℕ) → k + s ≤ i → part s k (set l i x) ≡ part s k l
part-set s k l i x h =
    let e : k + (i - k) ≡ i = omega arith in
    ap (λ (j : ℕ). part s k (set l j x)) (sym e) ∙ ap (take s) (drop-set-add k l (i - k) x) ∙ take-set-le s (drop k l) (i - k) x (omega arith)

pub part-sets : (s k : ℕ) (xs l : List ℕ) (i : ℕ) → k + s ≤ i → part s k (sets l i xs) ≡ part s k l
part-sets s k [] l i h = refl
part-sets s k (x ∷ xs) l i h = part-sets s k xs (set l i x) (suc i) (omega arith) ∙ part-set s k l i x h

-- ---- what is left
pub part_at : (xs l : List ℕ) (i : ℕ) → i + length xs ≤ length l → part (length xs) i (sets l i xs) ≡ xs
part_at xs l i h =
    ap (part (length xs) i) (sets-eq xs l i h ∙ append_assoc (take i l) xs (drop (i + length xs) l)) ∙ ap (take (length xs)) (drop_at (take i l) (xs ++ drop (i + length xs) l) i (length-take-le i l (omega arith))) ∙ take_at xs (drop (i + length xs) l) (length xs) refl

pub length_part : (s k : ℕ) (l : List ℕ) → k + s ≤ length l → length (part s k l) ≡ s
length_part s k l h = length-take-le s (drop k l) (omega (arith, length-drop k l))

pub length_moved : (d : ℕ) (l : List ℕ) → length (moved d l) ≡ length l
unfolding moved
length_moved d l = length-map l (λ (x : ℕ). x + d)

-- ---- a copy: the first j of xs are stored from place `at` on
pub record Copying (xs t₀ : List ℕ) (at : ℕ) (t : List ℕ) (j : ℕ) : Type 0 where
  pub at_most : j ≤ length xs
  pub is : t ≡ sets t₀ at (take j xs)

pub copying-none : (xs t : List ℕ) (at : ℕ) → Copying xs t at t 0
copying-none xs t at = record { at_most = omega arith; is = refl }

module _ {xs t₀ : List ℕ} {at : ℕ} {t : List ℕ} {j : ℕ} (v : Copying xs t₀ at t j) where
  pub copying-long : length t ≡ length t₀
  copying-long = ap length v.is ∙ length-sets t₀ at (take j xs)

  pub copying-more : j < length xs → (x : ℕ) → x ≡ get_or xs j 0 → Copying xs t₀ at (set t (at + j) x) (j + 1)
  copying-more h x e = record {
    at_most = omega arith;
    is = ap₂ (λ (u : List ℕ) (y : ℕ). set u (at + j) y) v.is e ∙ ap (λ (k : ℕ). set (sets t₀ at (take j xs)) (at + k) (get_or xs j 0)) (sym (length-take-le j xs v.at_most))
        ∙ sym (sets-append (take j xs) (get_or xs j 0 ∷ []) t₀ at) ∙ ap (sets t₀ at) (sym (take-suc xs j 0 h) ∙ ap (λ (k : ℕ). take k xs) (sym (add-one j)));
  }

  pub copying-all : length xs ≤ j → t ≡ sets t₀ at xs
  copying-all h = v.is ∙ ap (sets t₀ at) (take_all j xs h)

  -- what stands before is still there to be read
  pub copying-read : (s from : ℕ) → from + s ≤ at → j < s → get_or t (from + j) 0 ≡ get_or (part s from t₀) j 0
  copying-read s from h k =
      ap (λ (u : List ℕ). get_or u (from + j) 0) v.is ∙ sets-before (take j xs) t₀ at (from + j) 0 (omega arith) ∙ sym (get_or-take s (drop from t₀) j 0 k ∙ get_or-drop from t₀ j 0)

pub get_d_moved : (d : ℕ) (l : List ℕ) (j : ℕ) → j < length l → get_or (moved d l) j 0 ≡ get_or l j 0 + d
unfolding moved
get_d_moved d [] j h = absurd (omega arith)
get_d_moved d (x ∷ l) zero h = refl
get_d_moved d (x ∷ l) (suc j) h = get_d_moved d l j (omega arith)

-- the library's copy within a slice
pub copy_within-sets : (s from at : ℕ) (t : List ℕ) → from + s ≤ at → at + s ≤ length t → copy_within t from (from + s) at ≡ sets t at (part s from t)
copy_within-sets s from at t h l =
    let e : from + s - from ≡ s = omega arith in
    let k : length (part s from t) ≡ s = length_part s from t (omega arith) in
    let m : at + length (part s from t) ≤ length t = omega (arith, k) in
    ap (paste t at (drop from t)) e ∙ sym (sets-eq (part s from t) t at m ∙ ap (λ (n : ℕ). take at t ++ part s from t ++ drop (at + n) t) k)
