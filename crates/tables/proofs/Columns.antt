-- The laws of a table that begins with a list: a padded table does, and one into which the list was stored; what clearing past it leaves; and the places of a list made of
-- others. Assumes nothing.
use Prim.Native.Nat.{ℕ, zero, suc, ◌+◌, ◌-◌, ◌≤◌, ◌<◌}
use native.Mathlib.Omega.{arith}
use native.Mathlib.Decide.{dec_lt}
use mathlib.Core.Path.{◌≡◌, refl, sym, ap, ◌∙◌, subst}
use mathlib.Core.List.{List, [], ◌∷◌, ◌++◌, map}
use lib.ListN.{length, get_or, take, drop, set, replicate, length-map, get_or-append}
use lib.Seq.{sets, length-sets, sets-eq, length-take-le, get_or-take, get_or-drop, get_or-append-add, drop-append_seam, ext_get_or}
use Rattle.tables.specs.Tables.{padded, Column}
use Rattle.tables.proofs.Tables.{length-padded, get_or-padded}
use Rattle.tables.proofs.Copies.{Copying, copying-more}

pub column-padded : (n : ℕ) (l : List ℕ) → length l ≤ n → Column l (padded n l)
column-padded n l h = record { long = omega (arith, length-padded n l h); each = λ i q. get_or-padded n l i q }

-- ---- a list stored from the front
module _ (t l : List ℕ) (h : length l ≤ length t) where
  sets-is : sets t 0 l ≡ l ++ drop (length l) t
  sets-is =
      let e : 0 + length l ≡ length l = omega arith in
      sets-eq l t 0 (omega arith) ∙ ap (λ (n : ℕ). l ++ drop n t) e

  pub column-sets : Column l (sets t 0 l)
  column-sets = record { long = omega (arith, length-sets t 0 l); each = λ i q. ap (λ (u : List ℕ). get_or u i 0) sets-is ∙ get_or-append l (drop (length l) t) 0 i q }

  -- the places past it are as they were
  pub sets-past : (i : ℕ) → length l ≤ i → get_or (sets t 0 l) i 0 ≡ get_or t i 0
  sets-past i q =
      let e : i ≡ length l + (i - length l) = omega arith in
      ap (λ (j : ℕ). get_or (sets t 0 l) j 0) e ∙ ap (λ (u : List ℕ). get_or u (length l + (i - length l)) 0) sets-is
      ∙ get_or-append-add l (drop (length l) t) (i - length l) 0 ∙ get_or-drop (length l) t (i - length l) 0 ∙ ap (λ (j : ℕ). get_or t j 0) (sym e)

  -- a table with these places is that table
  pub sets-ext : (u : List ℕ) → Column l u → length u ≡ length t → ((i : ℕ) → length l ≤ i → get_or u i 0 ≡ get_or t i 0) → u ≡ sets t 0 l
  sets-ext u c e past = ext_get_or 0 u (sets t 0 l) (e ∙ sym (length-sets t 0 l)) (λ i q. go i (dec_lt i (length l)))
    where
      go : (i : ℕ) → Dec (i < length l) → get_or u i 0 ≡ get_or (sets t 0 l) i 0
      go i (yes k) = c.each i k ∙ sym (column-sets.each i k)
      go i (no k) = past i (omega arith) ∙ sym (sets-past i (omega arith))

-- ---- cleared past a list of n that it begins with
pub column-cleared : {l t : List ℕ} {n : ℕ} → Column l t → length l ≡ n → padded (length t) (take n t) ≡ padded (length t) l
column-cleared {l} {t} {n} c e =
    let long : length (take n t) ≡ n = length-take-le n t (omega (arith, e, c.long)) in
    ap (padded (length t)) (ext_get_or 0 (take n t) l (long ∙ sym e) (λ i h. get_or-take n t i 0 (omega (arith, h, long)) ∙ c.each i (omega (arith, h, long, e))))

-- the same of a list that was stored
pub sets-cleared : (t₀ l : List ℕ) {t u : List ℕ} {n : ℕ} → t ≡ sets t₀ 0 l → length l ≡ n → length l ≤ length t₀ → u ≡ padded (length t) (take n t) → u ≡ padded (length t₀) l
sets-cleared t₀ l {t} {u} {n} e k h c = c ∙ column-cleared (subst (Column l) (sym e) (column-sets t₀ l h)) k ∙ ap (λ (i : ℕ). padded i l) (ap length e ∙ length-sets t₀ 0 l)

-- a copy from the front: a place more, and what was copied
module _ {xs t₀ t : List ℕ} {j : ℕ} (v : Copying xs t₀ 0 t j) where
  pub copying-next : j < length xs → (x : ℕ) → x ≡ get_or xs j 0 → Copying xs t₀ 0 (set t j x) (j + 1)
  copying-next h x e = let z : 0 + j ≡ j = omega arith in subst (λ (k : ℕ). Copying xs t₀ 0 (set t k x) (j + 1)) z (copying-more v h x e)

  pub copying-at : length xs ≤ length t₀ → (i : ℕ) → i < j → get_or t i 0 ≡ get_or xs i 0
  copying-at h i l =
      let long = length-take-le j xs v.at_most in
      ap (λ (u : List ℕ). get_or u i 0) v.is ∙ (column-sets t₀ (take j xs) (omega (arith, long, v.at_most))).each i (omega (arith, long)) ∙ get_or-take j xs i 0 l

-- stored over another list of its length
pub sets_over : (n : ℕ) (k l : List ℕ) → length l ≡ length k → length k ≤ n → sets (padded n k) 0 l ≡ padded n l
unfolding padded
sets_over n k l e h =
    sets-is (padded n k) l (omega (arith, e, length-padded n k h)) ∙ ap (λ (i : ℕ). l ++ drop i (k ++ replicate (n - length k) 0)) e ∙ ap (λ (r : List ℕ). l ++ r) (drop-append_seam k (replicate (n - length k) 0))
    ∙ ap (λ (i : ℕ). l ++ replicate (n - i) 0) (sym e)

-- ---- a number of each member of a list
module _ {A : Type 0} (f : A → ℕ) where
  pub map_at : (l : List A) (d : A) (i : ℕ) → i < length l → get_or (map f l) i 0 ≡ f (get_or l i d)
  map_at [] d i h = absurd (omega arith)
  map_at (x ∷ l) d zero h = refl
  map_at (x ∷ l) d (suc i) h = map_at l d i (omega arith)

  module _ (l : List A) {t : List ℕ} (c : Column (map f l) t) where
    pub column-at : (d : A) (i : ℕ) → i < length l → get_or t i 0 ≡ f (get_or l i d)
    column-at d i h = c.each i (omega (arith, length-map l f)) ∙ map_at l d i h
