-- The members of `submasks k m` are the masks whose bits are bits of m below k; they ascend. Assumes nothing.
use Prim.Native.Nat.{ℕ, zero, suc, ◌+◌, ◌%◌, ◌^◌, ◌<◌}
use native.Mathlib.Omega.{arith}
use native.Mathlib.Nat.{mod-lt}
use native.Mathlib.Decide.{ℕ_discrete, dec_lt}
use mathlib.Core.Path.{◌≡◌, sym, ap, ◌∙◌, subst}
use mathlib.Core.Logic.{◌⊎◌, inl, inr}
use mathlib.Core.Bool.{Bool, true, false, ◌||◌, cond, true≢false, false≢true, or-true, or-false}
use mathlib.Core.List.Memᴰ
use mathlib.Core.List.{List, [], ◌∷◌, ◌++◌, map, Memᴰ}
use lib.Dec.{eqb}
use lib.Pow.{pow_pos}
use Rattle.lists.specs.Lists.{Ascending}
use Rattle.lists.proofs.Bools.{test, or_cases, eqb≡, ≡eqb, neqb}
use Rattle.lists.proofs.Lists.{map-mem, mem-map, ascending-append}
use Rattle.masks.specs.Masks.{has, submasks}
use Rattle.masks.proofs.Bits.{has-none, mask-ext, has-mod, has-high, lt-of-bits, has-top}

Part : ℕ → ℕ → ℕ → Type 0
Part k m x = (e : ℕ) → has x e ≡ true → (has m e ≡ true) × (e < k)

pub submasks-part : (k m x : ℕ) → Memᴰ x (submasks k m) → (e : ℕ) → has x e ≡ true → (has m e ≡ true) × (e < k)
unfolding submasks Part
submasks-part zero m x q = λ e t. absurd (false≢true (sym (has-none e) ∙ ap (λ (y : ℕ). has y e) (sym (mathlib.Core.List.Memᴰ.eq_of_singleton q)) ∙ t))
submasks-part (suc k) m x q = go (test (has m k)) (submasks-part k m)
  where
    low : Part k m x → Part (suc k) m x
    low h e t = ((h e t).0, omega (arith, (h e t).1))

    high : has m k ≡ true → ((y : ℕ) → Memᴰ y (submasks k m) → Part k m y) → ((y : ℕ) × Memᴰ y (submasks k m) × (x ≡ y + 2 ^ k)) → Part (suc k) m x
    high h ih r e t = pick (or_cases (has r.0 e) (eqb k e) (sym (has-top k e r.0 (lt-of-bits k r.0 (λ e u. (ih r.0 r.1 e u).1))) ∙ ap (λ (y : ℕ). has y e) (sym r.2) ∙ t))
      where
        pick : (has r.0 e ≡ true) ⊎ (eqb k e ≡ true) → (has m e ≡ true) × (e < suc k)
        pick (inl u) = let w = ih r.0 r.1 e u in (w.0, omega (arith, w.1))
        pick (inr u) = let w : k ≡ e = eqb≡ k e u in (subst (λ (y : ℕ). has m y ≡ true) w h, omega arith)

    both : has m k ≡ true → ((y : ℕ) → Memᴰ y (submasks k m) → Part k m y) → Memᴰ x (submasks k m) ⊎ Memᴰ x (map (λ (y : ℕ). y + 2 ^ k) (submasks k m)) → Part (suc k) m x
    both h ih (inl a) = low (ih x a)
    both h ih (inr a) = high h ih (map-mem (λ (y : ℕ). y + 2 ^ k) (submasks k m) x a)

    go : (has m k ≡ true) ⊎ (has m k ≡ false) → ((y : ℕ) → Memᴰ y (submasks k m) → Part k m y) → Part (suc k) m x
    go (inl h) ih = both h ih (Memᴰ.append_cases (submasks k m) (rw h at q))
    go (inr h) ih = low (ih x (rw h at q))

pub part-submasks : (k m x : ℕ) → ((e : ℕ) → has x e ≡ true → (has m e ≡ true) × (e < k)) → Memᴰ x (submasks k m)
unfolding submasks Part
part-submasks zero m x h = Memᴰ.head (mask-ext x 0 (λ e. off e (test (has x e))))
  where
    off : (e : ℕ) → (has x e ≡ true) ⊎ (has x e ≡ false) → has x e ≡ has 0 e
    off e (inl t) = absurd (omega (arith, (h e t).1))
    off e (inr f) = f ∙ sym (has-none e)
part-submasks (suc k) m x h = go (test (has x k)) (test (has m k)) (part-submasks k m)
  where
    drop-top : has x k ≡ false → Part k m x
    drop-top f e t = ((h e t).0, pick (ℕ_discrete e k))
      where
        pick : Dec (e ≡ k) → e < k
        pick (yes q) = absurd (true≢false (sym t ∙ ap (has x) q ∙ f))
        pick (no n) = omega (arith, (h e t).1)

    y : ℕ
    y = x % 2 ^ k

    y-bit : (e : ℕ) → has y e ≡ true → (e < k) × (has x e ≡ true)
    y-bit e t = pick (dec_lt e k)
      where
        pick : Dec (e < k) → (e < k) × (has x e ≡ true)
        pick (yes l) = (l, sym (has-mod k e x l) ∙ t)
        pick (no n) = absurd (false≢true (sym (has-high k e (x % 2 ^ k) (mod-lt x (pow_pos k)) (omega arith)) ∙ t))

    y-part : Part k m y
    y-part e t = let r = y-bit e t in ((h e r.1).0, r.0)

    whole : has x k ≡ true → x ≡ y + 2 ^ k
    whole t = mask-ext x (x % 2 ^ k + 2 ^ k) (λ e. cmp e (dec_lt e k) (ℕ_discrete k e) ∙ sym (has-top k e (x % 2 ^ k) (mod-lt x (pow_pos k))))
      where
        cmp : (e : ℕ) → Dec (e < k) → Dec (k ≡ e) → has x e ≡ has (x % 2 ^ k) e || eqb k e
        cmp e (yes l) (yes q) = absurd (omega arith)
        cmp e (yes l) (no q) = rw (has-mod k e x l) (rw (neqb k e q) (sym (or-false (has x e))))
        cmp e (no l) (yes q) = subst (λ (z : ℕ). has x z ≡ true) q t ∙ sym (ap (λ (b : Bool). has (x % 2 ^ k) e || b) (≡eqb k e q) ∙ or-true (has (x % 2 ^ k) e))
        cmp e (no l) (no q) = off (test (has x e)) ∙ sym (ap (λ (b : Bool). b || eqb k e) (has-high k e (x % 2 ^ k) (mod-lt x (pow_pos k)) (omega arith)) ∙ neqb k e q)
          where
            off : (has x e ≡ true) ⊎ (has x e ≡ false) → has x e ≡ false
            off (inl u) = absurd (omega (arith, (h e u).1))
            off (inr u) = u

    go : (has x k ≡ true) ⊎ (has x k ≡ false) → (has m k ≡ true) ⊎ (has m k ≡ false) → ((z : ℕ) → Part k m z → Memᴰ z (submasks k m)) → Memᴰ x (submasks (suc k) m)
    go (inl t) (inl u) ih = rw u (Memᴰ.append_right (submasks k m) (Memᴰ.cast (whole t) (mem-map (λ (y : ℕ). y + 2 ^ k) (submasks k m) y (ih y y-part))))
    go (inl t) (inr u) ih = absurd (true≢false (sym (h k t).0 ∙ u))
    go (inr f) (inl u) ih = rw u (Memᴰ.append_left (map (λ (y : ℕ). y + 2 ^ k) (submasks k m)) (ih x (drop-top f)))
    go (inr f) (inr u) ih = rw u (ih x (drop-top f))

-- ---- they ascend
ascending-map : (k : ℕ) (l : List ℕ) → Ascending l → Ascending (map (λ (y : ℕ). y + 2 ^ k) l)
ascending-map k [] s = tt
ascending-map k (x ∷ l) s = (λ y m. go y (map-mem (λ (y : ℕ). y + 2 ^ k) l y m), ascending-map k l s.1)
  where
    go : (y : ℕ) → ((z : ℕ) × Memᴰ z l × (y ≡ z + 2 ^ k)) → x + 2 ^ k < y
    go y r = omega (arith, s.0 r.0 r.1, r.2)

pub ascending-submasks : (k m : ℕ) → Ascending (submasks k m)
unfolding submasks
ascending-submasks zero m = (λ y q. absurd (mathlib.Core.List.Memᴰ.not-nil q), tt)
ascending-submasks (suc k) m = go (has m k) (ascending-submasks k m)
  where
    go : (b : Bool) → Ascending (submasks k m) → Ascending (cond b (submasks k m ++ map (λ (y : ℕ). y + 2 ^ k) (submasks k m)) (submasks k m))
    go true s = ascending-append (submasks k m) (map (λ (y : ℕ). y + 2 ^ k) (submasks k m)) s (ascending-map k (submasks k m) s) (λ x y a b. low x y a (map-mem (λ (y : ℕ). y + 2 ^ k) (submasks k m) y b))
      where
        low : (x y : ℕ) → Memᴰ x (submasks k m) → ((z : ℕ) × Memᴰ z (submasks k m) × (y ≡ z + 2 ^ k)) → x < y
        low x y a r = omega (arith, lt-of-bits k x (λ e t. (submasks-part k m x a e t).1), r.2)
    go false s = s
