-- A position put in its place among others that stand in sibling order: what is carried on, place by place; the masks and the positions that this leaves, and the
-- places past them, which stay. Assumes nothing.
use Prim.Native.Nat.{ℕ, zero, suc, ◌+◌, ◌-◌, ◌≤◌, ◌<◌}
use native.Mathlib.Omega.{arith}
use native.Mathlib.Decide.{ℕ_discrete}
use native.Mathlib.Numerals.{add-one}
use mathlib.Core.Path.{◌≡◌, refl, sym, ap, ap₂, ◌∙◌, subst}
use mathlib.Core.Logic.{◌⊎◌, inl, inr}
use mathlib.Core.Bool.{Bool, true, false, cond}
use mathlib.Core.List.Memᴰ
use mathlib.Core.List.{List, [], ◌∷◌, ◌++◌, append_assoc, Memᴰ}
use lib.ListN.{length, get_or, take, drop, set, length-set}
use lib.Seq.{get_or-set_same, get_or-set_other, take-suc, drop-cons, set_split, drop-set-lt, take-suc-set}
use Rattle.lists.proofs.Bools.{test}
use Rattle.forest.specs.Forest.{before, place}
use Rattle.forest.specs.Laws.{Ordered}
use Rattle.siblings.specs.Positions.{masks_at, Positions, carried}

module _ (l : List ℕ) where
  pub carried-length : (n i : ℕ) (ks : List ℕ) → length (carried l n i ks) ≡ length ks
  unfolding carried
  carried-length n i [] = refl
  carried-length zero i (k ∷ ks) = refl
  carried-length (suc n) i (k ∷ ks) = go (before (get_or l i 0) (get_or l k 0)) (carried-length n k ks) (carried-length n i ks)
    where
      go : (b : Bool) → length (carried l n k ks) ≡ length ks → length (carried l n i ks) ≡ length ks → length (cond b (i ∷ carried l n k ks) (k ∷ carried l n i ks)) ≡ suc (length ks)
      go true r s = ap suc r
      go false r s = ap suc s

  -- the places past them stay
  pub carried-past : (n i : ℕ) (ks : List ℕ) (j : ℕ) → n < j → get_or (carried l n i ks) j 0 ≡ get_or ks j 0
  unfolding carried
  carried-past n i [] j h = refl
  carried-past n i (k ∷ ks) zero h = absurd (omega arith)
  carried-past zero i (k ∷ ks) (suc j) h = refl
  carried-past (suc n) i (k ∷ ks) (suc j) h = go (before (get_or l i 0) (get_or l k 0)) (carried-past n k ks j (omega arith)) (carried-past n i ks j (omega arith))
    where
      go : (b : Bool) → get_or (carried l n k ks) j 0 ≡ get_or ks j 0 → get_or (carried l n i ks) j 0 ≡ get_or ks j 0 → get_or (cond b (i ∷ carried l n k ks) (k ∷ carried l n i ks)) (suc j) 0 ≡ get_or ks j 0
      go true r s = r
      go false r s = s

  -- ---- one turn: the first j places are done, and `carry` is carried on
  pub record Carrying (n i : ℕ) (ks₀ ks : List ℕ) (carry j : ℕ) : Type 0 where
    pub at_most : j ≤ n
    pub long : length ks ≡ length ks₀
    pub is : carried l n i ks₀ ≡ take j ks ++ carried l (n - j) carry (drop j ks)
    pub each : (k : ℕ) → k < n → get_or ks k 0 < length l
    pub carry_in : carry < length l

  pub carrying-none : (n i : ℕ) (ks : List ℕ) → Positions l ks n → i < length l → Carrying n i ks ks i 0
  carrying-none n i ks v h = let e : n - 0 ≡ n = omega arith in record { at_most = omega arith; long = refl; is = ap (λ (k : ℕ). carried l k i ks) (sym e); each = v.each; carry_in = h }

  carried_step : (n i : ℕ) (ks : List ℕ) (j : ℕ) → j < n → j < length ks
      → carried l (n - j) i (drop j ks) ≡ cond (before (get_or l i 0) (get_or l (get_or ks j 0) 0)) (i ∷ carried l (n - (j + 1)) (get_or ks j 0) (drop (j + 1) ks)) (get_or ks j 0 ∷ carried l (n - (j + 1)) i (drop (j + 1) ks))
  unfolding carried
  carried_step n i ks j h k =
      let e : n - j ≡ suc (n - (j + 1)) = omega arith in
      ap₂ (λ (a : ℕ) (b : List ℕ). carried l a i b) e (drop-cons ks j 0 k ∙ ap (λ (a : ℕ). get_or ks j 0 ∷ drop a ks) (sym (add-one j)))

  module _ {n i : ℕ} {ks₀ ks : List ℕ} {carry j : ℕ} (v : Carrying n i ks₀ ks carry j) (h : j < n) (room : n < length ks₀) where
    -- the mask at j stands after that carried
    pub carrying-put : before (get_or l carry 0) (get_or l (get_or ks j 0) 0) ≡ true → Carrying n i ks₀ (set ks j carry) (get_or ks j 0) (j + 1)
    carrying-put t =
        let k : j < length ks = omega (arith, v.long) in
        record {
          at_most = omega arith;
          long = length-set ks j carry ∙ v.long;
          is = v.is ∙ ap (λ (z : List ℕ). take j ks ++ z) (carried_step n carry ks j h k ∙ ap (λ (b : Bool). cond b (carry ∷ carried l (n - (j + 1)) (get_or ks j 0) (drop (j + 1) ks)) (get_or ks j 0 ∷ carried l (n - (j + 1)) carry (drop (j + 1) ks))) t)
              ∙ sym (append_assoc (take j ks) (carry ∷ []) (carried l (n - (j + 1)) (get_or ks j 0) (drop (j + 1) ks)))
              ∙ sym (ap₂ (λ (a b : List ℕ). a ++ carried l (n - (j + 1)) (get_or ks j 0) b) (ap (λ (a : ℕ). take a (set ks j carry)) (add-one j) ∙ take-suc-set ks j carry k) (drop-set-lt (j + 1) ks j carry (omega arith)));
          each = λ a b. put a b (ℕ_discrete a j);
          carry_in = v.each j h;
        }
      where
        put : (a : ℕ) → a < n → Dec (a ≡ j) → get_or (set ks j carry) a 0 < length l
        put a b (yes e) = subst (λ (z : ℕ). z < length l) (sym (ap (λ (z : ℕ). get_or (set ks j carry) z 0) e ∙ get_or-set_same ks j carry 0 (omega (arith, v.long)))) v.carry_in
        put a b (no e) = subst (λ (z : ℕ). z < length l) (sym (get_or-set_other ks j a carry 0 e)) (v.each a b)

    -- it stands before
    pub carrying-past : before (get_or l carry 0) (get_or l (get_or ks j 0) 0) ≡ false → Carrying n i ks₀ ks carry (j + 1)
    carrying-past f =
        let k : j < length ks = omega (arith, v.long) in
        record {
          at_most = omega arith;
          long = v.long;
          is = v.is ∙ ap (λ (z : List ℕ). take j ks ++ z) (carried_step n carry ks j h k ∙ ap (λ (b : Bool). cond b (carry ∷ carried l (n - (j + 1)) (get_or ks j 0) (drop (j + 1) ks)) (get_or ks j 0 ∷ carried l (n - (j + 1)) carry (drop (j + 1) ks))) f)
              ∙ sym (append_assoc (take j ks) (get_or ks j 0 ∷ []) (carried l (n - (j + 1)) carry (drop (j + 1) ks)))
              ∙ sym (ap (λ (a : List ℕ). a ++ carried l (n - (j + 1)) carry (drop (j + 1) ks)) (ap (λ (a : ℕ). take a ks) (add-one j) ∙ take-suc ks j 0 k));
          each = v.each;
          carry_in = v.carry_in;
        }

  pub carrying-all : {n i : ℕ} {ks₀ ks : List ℕ} {carry j : ℕ} → Carrying n i ks₀ ks carry j → n ≤ j → n < length ks₀ → set ks n carry ≡ carried l n i ks₀
  unfolding carried
  carrying-all {n} {i} {ks₀} {ks} {carry} {j} v h room =
      let e : j ≡ n = omega (arith, v.at_most) in
      let z : n - j ≡ 0 = omega arith in
      let k : n < length ks = omega (arith, v.long) in
      set_split ks n carry k
      ∙ sym (v.is ∙ ap₂ (λ (a b : ℕ). take a ks ++ carried l b carry (drop a ks)) e z ∙ ap (λ (b : List ℕ). take n ks ++ carried l 0 carry b) (drop-cons ks n 0 k))

  -- in an ordered list what is carried on stands before all that follow
  carry-first : (n i : ℕ) (ks : List ℕ) → n < length ks → ((y : ℕ) → Memᴰ y (masks_at l (take n ks)) → before (get_or l i 0) y ≡ true) → Ordered (masks_at l (take n ks))
      → take (suc n) (carried l n i ks) ≡ i ∷ take n ks
  unfolding carried
  carry-first zero i [] h f o = absurd (omega arith)
  carry-first zero i (k ∷ ks) h f o = refl
  carry-first (suc n) i [] h f o = absurd (omega arith)
  carry-first (suc n) i (k ∷ ks) h f o = rw (f (get_or l k 0) (Memᴰ.head refl)) (ap {B = List ℕ} (λ z. i ∷ z) (carry-first n k ks (omega arith) o.0 o.1))

  -- the masks: that of i, put in its place
  pub carried-place : (n i : ℕ) (ks : List ℕ) → n < length ks → Ordered (masks_at l (take n ks)) → masks_at l (take (suc n) (carried l n i ks)) ≡ place (get_or l i 0) (masks_at l (take n ks))
  unfolding carried place
  carried-place zero i [] h o = absurd (omega arith)
  carried-place zero i (k ∷ ks) h o = refl
  carried-place (suc n) i [] h o = absurd (omega arith)
  carried-place (suc n) i (k ∷ ks) h o = go (test (before (get_or l i 0) (get_or l k 0))) (carried-place n i ks (omega arith) o.1)
    where
      go : (before (get_or l i 0) (get_or l k 0) ≡ true) ⊎ (before (get_or l i 0) (get_or l k 0) ≡ false) → masks_at l (take (suc n) (carried l n i ks)) ≡ place (get_or l i 0) (masks_at l (take n ks))
          → masks_at l (take (suc (suc n)) (cond (before (get_or l i 0) (get_or l k 0)) (i ∷ carried l n k ks) (k ∷ carried l n i ks))) ≡ cond (before (get_or l i 0) (get_or l k 0)) (get_or l i 0 ∷ get_or l k 0 ∷ masks_at l (take n ks)) (get_or l k 0 ∷ place (get_or l i 0) (masks_at l (take n ks)))
      go (inl t) ih = rw t (ap (λ (z : List ℕ). get_or l i 0 ∷ masks_at l z) (carry-first n k ks (omega arith) o.0 o.1))
      go (inr f) ih = rw f (ap {B = List ℕ} (λ z. get_or l k 0 ∷ z) ih)

  -- the positions: i and those that were there
  pub carried-in : (n i : ℕ) (ks : List ℕ) → (x : ℕ) → Memᴰ x (take (suc n) (carried l n i ks)) → (x ≡ i) ⊎ Memᴰ x (take n ks)
  unfolding carried
  carried-in n i [] x m = absurd (Memᴰ.not-nil m)
  carried-in zero i (k ∷ ks) x m = inl (Memᴰ.eq_of_singleton m)
  carried-in (suc n) i (k ∷ ks) x m = go (before (get_or l i 0) (get_or l k 0)) (carried-in n k ks x) (carried-in n i ks x) m
    where
      later : (x ≡ i) ⊎ Memᴰ x (take n ks) → (x ≡ i) ⊎ Memᴰ x (k ∷ take n ks)
      later (inl e) = inl e
      later (inr z) = inr (Memᴰ.tail z)

      passed : (x ≡ k) ⊎ Memᴰ x (take n ks) → (x ≡ i) ⊎ Memᴰ x (k ∷ take n ks)
      passed (inl e) = inr (Memᴰ.head e)
      passed (inr z) = inr (Memᴰ.tail z)

      first : (x ≡ i) ⊎ Memᴰ x (take (suc n) (carried l n k ks)) → (Memᴰ x (take (suc n) (carried l n k ks)) → (x ≡ k) ⊎ Memᴰ x (take n ks)) → (x ≡ i) ⊎ Memᴰ x (k ∷ take n ks)
      first (inl e) r = inl e
      first (inr z) r = passed (r z)

      second : (x ≡ k) ⊎ Memᴰ x (take (suc n) (carried l n i ks)) → (Memᴰ x (take (suc n) (carried l n i ks)) → (x ≡ i) ⊎ Memᴰ x (take n ks)) → (x ≡ i) ⊎ Memᴰ x (k ∷ take n ks)
      second (inl e) r = inr (Memᴰ.head e)
      second (inr z) r = later (r z)

      go : (b : Bool) → (Memᴰ x (take (suc n) (carried l n k ks)) → (x ≡ k) ⊎ Memᴰ x (take n ks)) → (Memᴰ x (take (suc n) (carried l n i ks)) → (x ≡ i) ⊎ Memᴰ x (take n ks))
          → Memᴰ x (take (suc (suc n)) (cond b (i ∷ carried l n k ks) (k ∷ carried l n i ks))) → (x ≡ i) ⊎ Memᴰ x (k ∷ take n ks)
      go true r s z = first (Memᴰ.cases_cons z) r
      go false r s z = second (Memᴰ.cases_cons z) s
