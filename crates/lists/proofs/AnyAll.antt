-- A test of every member, or of some: one member more at the end, one that passes or fails. Assumes nothing.
use Prim.Native.Nat.{ℕ, ◌+◌, ◌<◌}
use native.Mathlib.Numerals.{add-one}
use mathlib.Core.Path.{◌≡◌, refl, sym, ap, ap₂, ◌∙◌}
use mathlib.Core.Logic.{◌⊎◌, inl, inr}
use mathlib.Core.Bool.{Bool, true, false, ◌&&◌, ◌||◌, true≢false, and-true, or-false}
use mathlib.Core.List.{List, [], ◌∷◌, ◌++◌}
use lib.ListN.{length, get_or}
use Rattle.lists.specs.Lists.{any, all, below}
use Rattle.lists.proofs.Bools.{test}
use Rattle.lists.proofs.Lists.{get_or-mem, some-any, all-each, mem_below}

module _ {A : Type 0} (t : A → Bool) where
  pub all_snoc : (l : List A) (x : A) → all t (l ++ (x ∷ [])) ≡ all t l && t x
  all_snoc [] x = and-true (t x)
  all_snoc (y ∷ l) x = ap (λ (b : Bool). t y && b) (all_snoc l x) ∙ go (t y) (all t l) (t x)
    where
      go : (a b c : Bool) → a && (b && c) ≡ a && b && c
      go true b c = refl
      go false b c = refl

  pub any_snoc : (l : List A) (x : A) → any t (l ++ (x ∷ [])) ≡ any t l || t x
  any_snoc [] x = or-false (t x)
  any_snoc (y ∷ l) x = ap (λ (b : Bool). t y || b) (any_snoc l x) ∙ go (t y) (any t l) (t x)
    where
      go : (a b c : Bool) → a || (b || c) ≡ a || b || c
      go true b c = refl
      go false b c = refl

  pub any-more : (l : List A) (x : A) → any t l ≡ false → t x ≡ false → any t (l ++ (x ∷ [])) ≡ false
  any-more l x a b = any_snoc l x ∙ ap₂ ◌||◌ a b

  pub any_at : (l : List A) (j : ℕ) (d : A) → j < length l → t (get_or l j d) ≡ true → any t l ≡ true
  any_at l j d h u = some-any t l (get_or l j d) (get_or-mem l j d h) u

-- ---- every number below n
module _ (t : ℕ → Bool) where
  -- one number more
  pub all-turn : (n : ℕ) (a b : Bool) → a ≡ all t (below n) → b ≡ t n → a && b ≡ all t (below (n + 1))
  all-turn n a b p q = ap₂ ◌&&◌ p q ∙ sym (all_snoc t (below n) n) ∙ ap (λ (k : ℕ). all t (below k)) (sym (add-one n))

  -- and two tests of it
  pub all-turn-both : (n : ℕ) (a b c : Bool) → a ≡ all t (below n) → b && c ≡ t n → a && b && c ≡ all t (below (n + 1))
  all-turn-both n a b c p q = go a b c ∙ all-turn n a (b && c) p q
    where
      go : (a b c : Bool) → a && b && c ≡ a && (b && c)
      go true b c = refl
      go false b c = refl

  -- one more that passes
  pub all_more : (i : ℕ) → all t (below i) ≡ true → t i ≡ true → all t (below (i + 1)) ≡ true
  all_more i h g = sym (all-turn i true true (sym h) (sym g))

  -- one fails
  pub all-not : (n i : ℕ) → i < n → t i ≡ false → all t (below n) ≡ false
  all-not n i l f = go (test (all t (below n)))
    where
      go : (all t (below n) ≡ true) ⊎ (all t (below n) ≡ false) → all t (below n) ≡ false
      go (inl h) = absurd (true≢false (sym (all-each t (below n) h i (mem_below n i l)) ∙ f))
      go (inr h) = h
