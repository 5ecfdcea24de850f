-- The chain of a node, from itself up to its root, over any numbered nodes in which a parent has a smaller number and a level one less.
-- Assumes nothing.
use Prim.Native.Nat.{ℕ, zero, suc, ◌+◌, ◌≤◌, ◌<◌}
use native.Mathlib.Omega.{arith}
use native.Mathlib.Numerals.{add-one}
use mathlib.Core.Path.{◌≡◌, refl, sym, ap, ◌∙◌, subst}
use mathlib.Core.Logic.{◌⊎◌, inl, inr}
use mathlib.Core.Bool.{true, false}
use mathlib.Core.List.Memᴰ
use mathlib.Core.List.{List, [], ◌∷◌, Memᴰ}
use lib.ListN.{length}
use Rattle.lists.proofs.Bools.{test, eqb≡, ≡eqb, neqb}
use Rattle.forest.specs.Forest.{Node, node, up_from, chain}
use Rattle.forest.specs.Laws.{parent_at, root_at}

module _ (ns : List Node) where
  pub chain-self : (n : ℕ) → Memᴰ n (chain ns n)
  unfolding chain up_from
  chain-self n = go (node ns n).level
    where
      go : (k : ℕ) → Memᴰ n (up_from ns k n)
      go zero = Memᴰ.head refl
      go (suc k) = Memᴰ.head refl

  pub chain-root : (n : ℕ) → root_at ns n ≡ true → chain ns n ≡ n ∷ []
  unfolding chain up_from
  chain-root n r = ap (λ (k : ℕ). up_from ns k n) (eqb≡ (node ns n).level 0 r)

  -- one link, where the level of n is known to be one more than its parent's
  pub chain_link : (n : ℕ) → (node ns n).level ≡ (node ns (parent_at ns n)).level + 1 → chain ns n ≡ n ∷ chain ns (parent_at ns n)
  unfolding chain up_from
  chain_link n e = ap (λ (k : ℕ). up_from ns k n) (e ∙ add-one (node ns (parent_at ns n)).level)

module _ (ns : List Node)
    (parent_lt : (n : ℕ) → n < length ns → root_at ns n ≡ false → parent_at ns n < n)
    (level_up : (n : ℕ) → n < length ns → root_at ns n ≡ false → (node ns n).level ≡ (node ns (parent_at ns n)).level + 1) where
  pub chain-child : (n : ℕ) → n < length ns → root_at ns n ≡ false → chain ns n ≡ n ∷ chain ns (parent_at ns n)
  chain-child n l r = chain_link ns n (level_up n l r)

  -- induction from the roots down
  pub by-parent : (P : ℕ → Type 0) → ((n : ℕ) → n < length ns → root_at ns n ≡ true → P n) → ((n : ℕ) → n < length ns → root_at ns n ≡ false → P (parent_at ns n) → P n)
      → (n : ℕ) → n < length ns → P n
  by-parent P base more n l = go (node ns n).level n l refl
    where
      go : (k n : ℕ) → n < length ns → (node ns n).level ≡ k → P n
      go zero n l e = base n l (≡eqb (node ns n).level 0 e)
      go (suc k) n l e =
          let r : root_at ns n ≡ false = neqb (node ns n).level 0 (λ z. omega (arith, z, e)) in
          more n l r (go k (parent_at ns n) (omega (arith, parent_lt n l r)) (omega (arith, level_up n l r)))

  -- a member of the chain of n is n, or in the chain of its parent
  pub chain-cases : (n m : ℕ) → n < length ns → Memᴰ m (chain ns n) → (m ≡ n) ⊎ ((root_at ns n ≡ false) × Memᴰ m (chain ns (parent_at ns n)))
  chain-cases n m l k = go (test (root_at ns n))
    where
      at-child : root_at ns n ≡ false → (m ≡ n) ⊎ Memᴰ m (chain ns (parent_at ns n)) → (m ≡ n) ⊎ ((root_at ns n ≡ false) × Memᴰ m (chain ns (parent_at ns n)))
      at-child f (inl e) = inl e
      at-child f (inr u) = inr (f, u)

      go : (root_at ns n ≡ true) ⊎ (root_at ns n ≡ false) → (m ≡ n) ⊎ ((root_at ns n ≡ false) × Memᴰ m (chain ns (parent_at ns n)))
      go (inl t) = inl (Memᴰ.eq_of_singleton (subst (λ (c : List ℕ). Memᴰ m c) (chain-root ns n t) k))
      go (inr f) = at-child f (Memᴰ.cases_cons (subst (λ (c : List ℕ). Memᴰ m c) (chain-child n l f) k))

  -- what is in the chain of the parent of n is in that of n
  pub chain-up : (n m : ℕ) → n < length ns → root_at ns n ≡ false → Memᴰ m (chain ns (parent_at ns n)) → Memᴰ m (chain ns n)
  chain-up n m l f k = subst (λ (c : List ℕ). Memᴰ m c) (sym (chain-child n l f)) (Memᴰ.tail k)

  pub chain-parent : (n : ℕ) → n < length ns → root_at ns n ≡ false → Memᴰ (parent_at ns n) (chain ns n)
  chain-parent n l f = chain-up n (parent_at ns n) l f (chain-self ns (parent_at ns n))

  pub chain-le : (n m : ℕ) → n < length ns → Memᴰ m (chain ns n) → m ≤ n
  chain-le n m l k = by-parent (λ n. Memᴰ m (chain ns n) → m ≤ n) base more n l k
    where
      base : (n : ℕ) → n < length ns → root_at ns n ≡ true → Memᴰ m (chain ns n) → m ≤ n
      base n l t k = omega (arith, Memᴰ.eq_of_singleton (subst (λ (c : List ℕ). Memᴰ m c) (chain-root ns n t) k))

      more : (n : ℕ) → n < length ns → root_at ns n ≡ false → (Memᴰ m (chain ns (parent_at ns n)) → m ≤ parent_at ns n) → Memᴰ m (chain ns n) → m ≤ n
      more n l f ih k = go (chain-cases n m l k)
        where
          go : (m ≡ n) ⊎ ((root_at ns n ≡ false) × Memᴰ m (chain ns (parent_at ns n))) → m ≤ n
          go (inl e) = omega (arith, e)
          go (inr u) = omega (arith, ih u.1, parent_lt n l f)

  pub chain-lt : (n m : ℕ) → n < length ns → Memᴰ m (chain ns n) → m < length ns
  chain-lt n m l k = omega (arith, chain-le n m l k)

  -- a member other than n has a smaller level
  pub chain-level : (n m : ℕ) → n < length ns → Memᴰ m (chain ns n) → (m ≡ n) ⊎ ((node ns m).level < (node ns n).level)
  chain-level n m l k = by-parent (λ n. Memᴰ m (chain ns n) → (m ≡ n) ⊎ ((node ns m).level < (node ns n).level)) base more n l k
    where
      base : (n : ℕ) → n < length ns → root_at ns n ≡ true → Memᴰ m (chain ns n) → (m ≡ n) ⊎ ((node ns m).level < (node ns n).level)
      base n l t k = inl (Memᴰ.eq_of_singleton (subst (λ (c : List ℕ). Memᴰ m c) (chain-root ns n t) k))

      more : (n : ℕ) → n < length ns → root_at ns n ≡ false → (Memᴰ m (chain ns (parent_at ns n)) → (m ≡ parent_at ns n) ⊎ ((node ns m).level < (node ns (parent_at ns n)).level))
          → Memᴰ m (chain ns n) → (m ≡ n) ⊎ ((node ns m).level < (node ns n).level)
      more n l f ih k = go (chain-cases n m l k)
        where
          up : (m ≡ parent_at ns n) ⊎ ((node ns m).level < (node ns (parent_at ns n)).level) → (node ns m).level < (node ns n).level
          up (inl e) = omega (arith, ap (λ (j : ℕ). (node ns j).level) e, level_up n l f)
          up (inr h) = omega (arith, level_up n l f)

          go : (m ≡ n) ⊎ ((root_at ns n ≡ false) × Memᴰ m (chain ns (parent_at ns n))) → (m ≡ n) ⊎ ((node ns m).level < (node ns n).level)
          go (inl e) = inl e
          go (inr u) = inr (up (ih u.1))

  pub chain-trans : (n m k : ℕ) → n < length ns → Memᴰ m (chain ns n) → Memᴰ k (chain ns m) → Memᴰ k (chain ns n)
  chain-trans n m k l a b = by-parent (λ n. Memᴰ m (chain ns n) → Memᴰ k (chain ns n)) base more n l a
    where
      same : (n : ℕ) → m ≡ n → Memᴰ k (chain ns n)
      same n e = subst (λ (j : ℕ). Memᴰ k (chain ns j)) e b

      base : (n : ℕ) → n < length ns → root_at ns n ≡ true → Memᴰ m (chain ns n) → Memᴰ k (chain ns n)
      base n l t a = same n (Memᴰ.eq_of_singleton (subst (λ (c : List ℕ). Memᴰ m c) (chain-root ns n t) a))

      more : (n : ℕ) → n < length ns → root_at ns n ≡ false → (Memᴰ m (chain ns (parent_at ns n)) → Memᴰ k (chain ns (parent_at ns n))) → Memᴰ m (chain ns n) → Memᴰ k (chain ns n)
      more n l f ih a = go (chain-cases n m l a)
        where
          go : (m ≡ n) ⊎ ((root_at ns n ≡ false) × Memᴰ m (chain ns (parent_at ns n))) → Memᴰ k (chain ns n)
          go (inl e) = same n e
          go (inr u) = chain-up n k l f (ih u.1)

  -- of two members of one chain, the one of no greater level is in the chain of the other
  pub chain-linear : (n a b : ℕ) → n < length ns → Memᴰ a (chain ns n) → Memᴰ b (chain ns n) → (node ns a).level ≤ (node ns b).level → Memᴰ a (chain ns b)
  chain-linear n a b l i j h = by-parent (λ n. Memᴰ a (chain ns n) → Memᴰ b (chain ns n) → Memᴰ a (chain ns b)) base more n l i j
    where
      In : ℕ → ℕ → Type 0
      In n m = (m ≡ n) ⊎ ((root_at ns n ≡ false) × Memᴰ m (chain ns (parent_at ns n)))

      -- where one of them is n
      meets : (n : ℕ) → n < length ns → Memᴰ a (chain ns n) → Memᴰ b (chain ns n) → (b ≡ n) ⊎ (a ≡ n) → Memᴰ a (chain ns b)
      meets n l i j (inl e) = subst (λ (c : ℕ). Memᴰ a (chain ns c)) (sym e) i
      meets n l i j (inr e) = go (chain-level n b l j)
        where
          go : (b ≡ n) ⊎ ((node ns b).level < (node ns n).level) → Memᴰ a (chain ns b)
          go (inl d) = subst (λ (c : ℕ). Memᴰ c (chain ns b)) (d ∙ sym e) (chain-self ns b)
          go (inr g) = absurd (omega (arith, ap (λ (j : ℕ). (node ns j).level) e))

      base : (n : ℕ) → n < length ns → root_at ns n ≡ true → Memᴰ a (chain ns n) → Memᴰ b (chain ns n) → Memᴰ a (chain ns b)
      base n l t i j = meets n l i j (inr (Memᴰ.eq_of_singleton (subst (λ (c : List ℕ). Memᴰ a c) (chain-root ns n t) i)))

      more : (n : ℕ) → n < length ns → root_at ns n ≡ false → (Memᴰ a (chain ns (parent_at ns n)) → Memᴰ b (chain ns (parent_at ns n)) → Memᴰ a (chain ns b))
          → Memᴰ a (chain ns n) → Memᴰ b (chain ns n) → Memᴰ a (chain ns b)
      more n l f ih i j = go (chain-cases n a l i) (chain-cases n b l j)
        where
          go : In n a → In n b → Memᴰ a (chain ns b)
          go (inl e) s = meets n l i j (inr e)
          go (inr u) (inl e) = meets n l i j (inl e)
          go (inr u) (inr w) = ih u.1 w.1

  pub chain-same-level : (n a b : ℕ) → n < length ns → Memᴰ a (chain ns n) → Memᴰ b (chain ns n) → (node ns a).level ≡ (node ns b).level → a ≡ b
  chain-same-level n a b l i j e = go (chain-level b a (chain-lt n b l j) (chain-linear n a b l i j (omega (arith, e))))
    where
      go : (a ≡ b) ⊎ ((node ns a).level < (node ns b).level) → a ≡ b
      go (inl d) = d
      go (inr h) = absurd (omega (arith, e))

  -- the root of n
  pub chain-top : (n : ℕ) → n < length ns → (r : ℕ) × Memᴰ r (chain ns n) × (root_at ns r ≡ true)
  chain-top n l = by-parent (λ n. (r : ℕ) × Memᴰ r (chain ns n) × (root_at ns r ≡ true)) (λ n l t. (n, chain-self ns n, t)) (λ n l f ih. (ih.0, chain-up n ih.0 l f ih.1, ih.2)) n l
