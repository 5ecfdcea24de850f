-- That the digits of one number begin those of another, asked by numbers.
use Prim.Native.Nat.{ℕ, zero, suc, ◌+◌, ◌-◌, ◌*◌, ◌/◌, ◌%◌, ◌^◌, ◌≤◌, ◌<◌}
use native.Mathlib.Omega.{arith}
use mathlib.Core.Path.{◌≡◌, refl, sym, ap, ap₂, ◌∙◌, subst}
use mathlib.Core.Logic.{◌⊎◌, inl, inr}
use mathlib.Core.Bool.{true, false, ◌&&◌, ◌||◌, false≢true}
use mathlib.Core.List.{List, [], ◌∷◌, ◌++◌}
use lib.Dec.{eqb, ltb}
use Rattle.lists.proofs.Bools.{test, and_l, and_r, both, or_cases, or_left, or_right, bool-ext, eqb≡, ≡eqb, lt-true, lt-false}
use Rattle.hanoi.specs.Texts.{number, decimal_in, decimal}
use Rattle.hanoi.specs.Offers.{starts_with}
use Rattle.hanoi.specs.Prefixes.{cut, prefix_of}
use Rattle.hanoi.proofs.Digits.{lt_yes, lt_no, small, large, under-ten, decimal-off, bytes-some, starts-all}

-- ---- a list of digits as a number
abbrev value_of : List ℕ → ℕ → ℕ
value_of [] a = a
value_of (b ∷ bs) a = value_of bs (a * 10 + (b - 48))

value-snoc : (xs : List ℕ) (c a : ℕ) → value_of (xs ++ (c ∷ [])) a ≡ value_of xs a * 10 + (c - 48)
value-snoc [] c a = refl
value-snoc (x ∷ xs) c a = value-snoc xs c (a * 10 + (x - 48))

value_in : (k n : ℕ) → n < 10 ^ suc k → value_of (decimal_in (suc k) n) 0 ≡ n
value_in zero n h = ap (λ (l : List ℕ). value_of l 0) (small 0 n (omega arith)) ∙ omega arith
value_in (suc k) n h = step (under-ten n) (value_in k (n / 10) (omega arith))
  where
    step : (n < 10) ⊎ (10 ≤ n) → value_of (decimal_in (suc k) (n / 10)) 0 ≡ n / 10 → value_of (decimal_in (suc (suc k)) n) 0 ≡ n
    step (inl l) ih = ap (λ (x : List ℕ). value_of x 0) (small (suc k) n l) ∙ omega arith
    step (inr g) ih =
        ap (λ (x : List ℕ). value_of x 0) (large (suc k) n g) ∙
        (value-snoc (decimal_in (suc k) (n / 10)) (48 + n % 10) 0 ∙ omega (arith, ih))

value-decimal : (n : ℕ) → n < 2147483648 → value_of (decimal n) 0 ≡ n
unfolding decimal
value-decimal n h = value_in 9 n (omega arith)

decimal-same : (n k : ℕ) → n < 2147483648 → k < 2147483648 → decimal n ≡ decimal k → n ≡ k
decimal-same n k h g e = sym (value-decimal n h) ∙ (ap (λ (l : List ℕ). value_of l 0) e ∙ value-decimal k g)

-- ---- lists
starts-snoc : (xs ys : List ℕ) (c : ℕ) → starts_with xs (ys ++ (c ∷ [])) ≡ true → (starts_with xs ys ≡ true) ⊎ (xs ≡ ys ++ (c ∷ []))
starts-snoc [] ys c h = inl refl
starts-snoc (x ∷ []) [] c h = inr (ap (λ (b : ℕ). b ∷ []) (eqb≡ x c (and_l (eqb x c) true h)))
starts-snoc (x ∷ y ∷ xs) [] c h = absurd (false≢true (and_r (eqb x c) false h))
starts-snoc (x ∷ xs) (y ∷ ys) c h = step (starts-snoc xs ys c (and_r (eqb x y) (starts_with xs (ys ++ (c ∷ []))) h))
  where
    e : eqb x y ≡ true
    e = and_l (eqb x y) (starts_with xs (ys ++ (c ∷ []))) h

    step : (starts_with xs ys ≡ true) ⊎ (xs ≡ ys ++ (c ∷ [])) → (starts_with (x ∷ xs) (y ∷ ys) ≡ true) ⊎ (x ∷ xs ≡ y ∷ (ys ++ (c ∷ [])))
    step (inl s) = inl (both (eqb x y) (starts_with xs ys) e s)
    step (inr s) = inr (ap₂ ◌∷◌ (eqb≡ x y e) s)

starts_more : (xs ys zs : List ℕ) → starts_with xs ys ≡ true → starts_with xs (ys ++ zs) ≡ true
starts_more [] ys zs h = refl
starts_more (x ∷ xs) [] zs h = absurd (false≢true h)
starts_more (x ∷ xs) (y ∷ ys) zs h = both (eqb x y) (starts_with xs (ys ++ zs)) (and_l (eqb x y) (starts_with xs ys) h) (starts_more xs ys zs (and_r (eqb x y) (starts_with xs ys) h))

-- ---- cutting
pub cut_on : (i n k : ℕ) → n < k → cut (suc i) n k ≡ cut i n (k / 10)
unfolding cut
cut_on i n k h = rw (lt_yes n k h) refl

pub cut-stop : (i n k : ℕ) → k ≤ n → cut i n k ≡ k
unfolding cut
cut-stop zero n k h = refl
cut-stop (suc i) n k h = rw (lt_no n k h) refl

cut-none : (n k : ℕ) → cut 0 n k ≡ k
unfolding cut
cut-none n k = refl

cut-le : (i n k : ℕ) → cut i n k ≤ k
cut-le zero n k = omega (arith, cut-none n k)
cut-le (suc i) n k = step (test (ltb n k)) (cut-le i n (k / 10))
  where
    step : (ltb n k ≡ true) ⊎ (ltb n k ≡ false) → cut i n (k / 10) ≤ k / 10 → cut (suc i) n k ≤ k
    step (inl t) ih = omega (arith, ih, cut_on i n k (lt-true n k t))
    step (inr f) ih = omega (arith, cut-stop (suc i) n k (lt-false n k f))

module _ (n : ℕ) (h : n < 2147483648) where
  equal-cut : (i k : ℕ) → n ≡ k → (n ≡ cut i n k) × ((0 < n) ⊎ (k ≡ 0))
  equal-cut i k e = (e ∙ sym (cut-stop i n k (omega (arith, e))), sign (test (ltb 0 n)))
    where
      sign : (ltb 0 n ≡ true) ⊎ (ltb 0 n ≡ false) → (0 < n) ⊎ (k ≡ 0)
      sign (inl t) = inl (lt-true 0 n t)
      sign (inr f) = inr (omega (arith, e, lt-false 0 n f))

  one-digit : (k : ℕ) → k < 10 → decimal k ≡ (48 + k) ∷ []
  unfolding decimal
  one-digit k l = small 9 k l

  some-digit : starts_with (decimal n) [] ≡ true → ⊥
  some-digit s = false≢true (subst (λ (l : List ℕ). starts_with l [] ≡ true) (bytes-some (number n)) s)

  low-cut : (i k : ℕ) → k < 10 → starts_with (decimal n) (decimal k) ≡ true → (n ≡ cut i n k) × ((0 < n) ⊎ (k ≡ 0))
  low-cut i k l s = step (starts-snoc (decimal n) [] (48 + k) (subst (λ (x : List ℕ). starts_with (decimal n) x ≡ true) (one-digit k l) s))
    where
      step : (starts_with (decimal n) [] ≡ true) ⊎ (decimal n ≡ (48 + k) ∷ []) → (n ≡ cut i n k) × ((0 < n) ⊎ (k ≡ 0))
      step (inl x) = absurd (some-digit x)
      step (inr e) = equal-cut i k (decimal-same n k h (omega arith) (e ∙ sym (one-digit k l)))

  begun-cut : (i k : ℕ) → k < 10 ^ suc i → k < 2147483648 → starts_with (decimal n) (decimal k) ≡ true → (n ≡ cut (suc i) n k) × ((0 < n) ⊎ (k ≡ 0))
  begun-cut zero k b g s = low-cut 1 k (omega arith) s
  begun-cut (suc i) k b g s = step (under-ten k) (λ x. begun-cut i (k / 10) (omega arith) (omega arith) x)
    where
      on-it : 10 ≤ k → (n ≡ cut (suc i) n (k / 10)) × ((0 < n) ⊎ (k / 10 ≡ 0)) → (n ≡ cut (suc (suc i)) n k) × ((0 < n) ⊎ (k ≡ 0))
      on-it l (e, inl p) = (e ∙ sym (cut_on (suc i) n k (omega (arith, e, cut-le (suc i) n (k / 10)))), inl p)
      on-it l (e, inr z) = absurd (omega (arith, z))

      later : 10 ≤ k → (starts_with (decimal n) (decimal (k / 10)) ≡ true) ⊎ (decimal n ≡ decimal (k / 10) ++ ((48 + k % 10) ∷ []))
          → (starts_with (decimal n) (decimal (k / 10)) ≡ true → (n ≡ cut (suc i) n (k / 10)) × ((0 < n) ⊎ (k / 10 ≡ 0))) → (n ≡ cut (suc (suc i)) n k) × ((0 < n) ⊎ (k ≡ 0))
      later l (inl x) ih = on-it l (ih x)
      later l (inr e) ih = equal-cut (suc (suc i)) k (decimal-same n k h g (e ∙ sym (decimal-off k l g)))

      step : (k < 10) ⊎ (10 ≤ k) → (starts_with (decimal n) (decimal (k / 10)) ≡ true → (n ≡ cut (suc i) n (k / 10)) × ((0 < n) ⊎ (k / 10 ≡ 0))) → (n ≡ cut (suc (suc i)) n k) × ((0 < n) ⊎ (k ≡ 0))
      step (inl l) ih = low-cut (suc (suc i)) k l s
      step (inr l) ih = later l (starts-snoc (decimal n) (decimal (k / 10)) (48 + k % 10) (subst (λ (x : List ℕ). starts_with (decimal n) x ≡ true) (decimal-off k l g) s)) ih

  same-begun : (k : ℕ) → n ≡ k → starts_with (decimal n) (decimal k) ≡ true
  same-begun k e = subst (λ (x : ℕ). starts_with (decimal n) (decimal x) ≡ true) e (starts-all (decimal n))

  cut-begun : (i k : ℕ) → k < 2147483648 → (0 < n) ⊎ (k ≡ 0) → n ≡ cut i n k → starts_with (decimal n) (decimal k) ≡ true
  cut-begun zero k g p e = same-begun k (e ∙ cut-none n k)
  cut-begun (suc i) k g p e = step (test (ltb n k)) (under-ten k) (λ q x. cut-begun i (k / 10) (omega arith) q x)
    where
      some : n < k → (0 < n) ⊎ (k ≡ 0) → 0 < n
      some l (inl q) = q
      some l (inr z) = absurd (omega (arith, l, z))

      step : (ltb n k ≡ true) ⊎ (ltb n k ≡ false) → (k < 10) ⊎ (10 ≤ k) → ((0 < n) ⊎ (k / 10 ≡ 0) → n ≡ cut i n (k / 10) → starts_with (decimal n) (decimal (k / 10)) ≡ true) → starts_with (decimal n) (decimal k) ≡ true
      step (inr f) t ih = same-begun k (e ∙ cut-stop (suc i) n k (lt-false n k f))
      step (inl t) (inl l) ih =
          absurd (omega (arith, some (lt-true n k t) p, e, cut_on i n k (lt-true n k t), cut-le i n (k / 10)))
      step (inl t) (inr l) ih =
          subst (λ (x : List ℕ). starts_with (decimal n) x ≡ true) (sym (decimal-off k l g))
          (starts_more (decimal n) (decimal (k / 10)) ((48 + k % 10) ∷ []) (ih (inl (some (lt-true n k t) p)) (e ∙ cut_on i n k (lt-true n k t))))

  pub prefix-is : (k : ℕ) → k < 2147483648 → starts_with (decimal n) (decimal k) ≡ prefix_of n k
  unfolding prefix_of
  prefix-is k g = bool-ext (starts_with (decimal n) (decimal k)) ((ltb 0 n || eqb k 0) && eqb n (cut 10 n k)) there back
    where
      sign : (0 < n) ⊎ (k ≡ 0) → (ltb 0 n || eqb k 0) ≡ true
      sign (inl p) = or_left (ltb 0 n) (eqb k 0) (lt_yes 0 n p)
      sign (inr z) = or_right (ltb 0 n) (eqb k 0) (≡eqb k 0 z)

      unsign : (ltb 0 n ≡ true) ⊎ (eqb k 0 ≡ true) → (0 < n) ⊎ (k ≡ 0)
      unsign (inl t) = inl (lt-true 0 n t)
      unsign (inr t) = inr (eqb≡ k 0 t)

      there : starts_with (decimal n) (decimal k) ≡ true → (ltb 0 n || eqb k 0) && eqb n (cut 10 n k) ≡ true
      there s = let r = begun-cut 9 k (omega arith) g s in both (ltb 0 n || eqb k 0) (eqb n (cut 10 n k)) (sign r.1) (≡eqb n (cut 10 n k) r.0)

      back : (ltb 0 n || eqb k 0) && eqb n (cut 10 n k) ≡ true → starts_with (decimal n) (decimal k) ≡ true
      back t = cut-begun 10 k g (unsign (or_cases (ltb 0 n) (eqb k 0) (and_l (ltb 0 n || eqb k 0) (eqb n (cut 10 n k)) t))) (eqb≡ n (cut 10 n k) (and_r (ltb 0 n || eqb k 0) (eqb n (cut 10 n k)) t))
