-- Branches of the forest: what a node has at or below it, the deepest node with an edge, the child that leads to a leaf. Over any nodes with
-- the forest's laws. Assumes nothing.
use Prim.Native.Nat.{ℕ, zero, suc, ◌+◌, ◌≤◌, ◌<◌}
use native.Mathlib.Omega.{arith}
use native.Mathlib.Nat.{le_refl}
use native.Mathlib.Decide.{dec_le}
use mathlib.Core.Path.{◌≡◌, refl, sym, ap, ◌∙◌, subst}
use mathlib.Core.Logic.{◌⊎◌, inl, inr}
use mathlib.Core.Bool.{true, false, not, true≢false}
use mathlib.Core.List.Memᴰ
use mathlib.Core.List.{List, [], ◌∷◌, Memᴰ}
use lib.Dec.{eqb}
use lib.ListN.{length}
use Rattle.lists.specs.Lists.{filter, first_or}
use Rattle.lists.proofs.Bools.{test, eqb≡, ≡eqb, and_l, and_r, both, not-true}
use Rattle.lists.proofs.Lists.{filter-mem, mem-filter, first-cases, first-mem}
use Rattle.masks.specs.Masks.{has, inside, properly}
use Rattle.masks.proofs.Bits.{inside-all, inside-refl, inside-trans}
use Rattle.policy.specs.declared.Policy.{Policy}
use Rattle.forest.specs.Forest.{Node, node, up_from, chain, child_of, priority}
use Rattle.forest.specs.Laws.{ForestLaws, mask_at, parent_at, root_at}
use Rattle.forest.proofs.Chains.{chain-self, chain-root, chain-child, by-parent, chain-cases, chain-up, chain-parent, chain-lt, chain-trans, chain-linear, chain-same-level}
use Rattle.automaton.specs.Automaton.{deepest, lead}

-- ---- children
module _ (ns : List Node) where
  pub child-of : (n j : ℕ) → child_of ns n j ≡ true → (root_at ns j ≡ false) × (parent_at ns j ≡ n)
  unfolding child_of
  child-of n j t = (not-true (root_at ns j) (and_l (not (root_at ns j)) (eqb (parent_at ns j) n) t), eqb≡ (parent_at ns j) n (and_r (not (root_at ns j)) (eqb (parent_at ns j) n) t))

  pub of-child : (n j : ℕ) → root_at ns j ≡ false → parent_at ns j ≡ n → child_of ns n j ≡ true
  unfolding child_of
  of-child n j f e = both (not (root_at ns j)) (eqb (parent_at ns j) n) (ap not f) (≡eqb (parent_at ns j) n e)

  -- a chain begins with its node
  chain_head : (n : ℕ) → (ms : List ℕ) × (chain ns n ≡ n ∷ ms)
  unfolding chain up_from
  chain_head n = go (node ns n).level
    where
      go : (k : ℕ) → (ms : List ℕ) × (up_from ns k n ≡ n ∷ ms)
      go zero = ([], refl)
      go (suc k) = (up_from ns k (parent_at ns n), refl)

module _ (p : Policy) (ns : List Node) (laws : ForestLaws p ns) where
  open laws use {parent_lt, level_up}

  -- ---- from a node down
  -- what holds of a and passes from parent to child holds of each node at or below a
  down : (a : ℕ) (Q : ℕ → Type 0) → Q a → ((n : ℕ) → n < length ns → root_at ns n ≡ false → Memᴰ a (chain ns n) → Q (parent_at ns n) → Q n)
      → (n : ℕ) → n < length ns → Memᴰ a (chain ns n) → Q n
  down a Q q c =
      by-parent ns parent_lt level_up (λ n. Memᴰ a (chain ns n) → Q n) (λ n h t m. subst Q (Memᴰ.eq_of_singleton (subst (Memᴰ a) (chain-root ns n t) m)) q)
      (λ n h f ih m. go n h f ih m (chain-cases ns parent_lt level_up n a h m))
    where
      go : (n : ℕ) → n < length ns → root_at ns n ≡ false → (Memᴰ a (chain ns (parent_at ns n)) → Q (parent_at ns n)) → Memᴰ a (chain ns n)
          → (a ≡ n) ⊎ ((root_at ns n ≡ false) × Memᴰ a (chain ns (parent_at ns n))) → Q n
      go n h f ih m (inl e) = subst Q e q
      go n h f ih m (inr k) = c n h f m (ih k.1)

  level-le : (a n : ℕ) → n < length ns → Memᴰ a (chain ns n) → (node ns a).level ≤ (node ns n).level
  level-le a = down a (λ n. (node ns a).level ≤ (node ns n).level) (le_refl (node ns a).level) (λ n h f _ l. omega (arith, level_up n h f, l))

  pub chain-inside : (a n : ℕ) → n < length ns → Memᴰ a (chain ns n) → inside (mask_at ns n) (mask_at ns a) ≡ true
  unfolding properly
  chain-inside a =
      down a (λ n. inside (mask_at ns n) (mask_at ns a) ≡ true) (inside-refl (mask_at ns a))
      (λ n h f _ l. inside-trans (mask_at ns n) (mask_at ns (parent_at ns n)) (mask_at ns a) (and_l (inside (mask_at ns n) (mask_at ns (parent_at ns n))) (not (eqb (mask_at ns n) (mask_at ns (parent_at ns n)))) (laws.within n h f)) l)

  pub chain-priority : (a n : ℕ) → n < length ns → Memᴰ a (chain ns n) → priority p (node ns a) ≤ priority p (node ns n)
  chain-priority a = down a (λ n. priority p (node ns a) ≤ priority p (node ns n)) (le_refl (priority p (node ns a))) (λ n h f _ l. omega (arith, laws.priority_grows n h f, l))

  -- ---- the child of n on a branch
  pub child-above : (n j : ℕ) → j < length ns → child_of ns n j ≡ true → Memᴰ n (chain ns j)
  child-above n j h t = let r = child-of ns n j t in Memᴰ.cast (sym r.1) (chain-parent ns parent_lt level_up j h r.0)

  pub child-lt : (n j : ℕ) → j < length ns → child_of ns n j ≡ true → n < j
  child-lt n j h t = let r = child-of ns n j t in omega (arith, parent_lt j h r.0, r.1)

  child-level : (n j : ℕ) → j < length ns → child_of ns n j ≡ true → (node ns j).level ≡ (node ns n).level + 1
  child-level n j h t = let r = child-of ns n j t in level_up j h r.0 ∙ ap (λ (x : ℕ). (node ns x).level + 1) r.1

  -- between n and a node below it there is a child of n
  pub child-between : (n l : ℕ) → l < length ns → Memᴰ n (chain ns l) → (n ≡ l) ⊎ ((d : ℕ) × (child_of ns n d ≡ true) × Memᴰ d (chain ns l))
  child-between n = down n (λ l. (n ≡ l) ⊎ ((d : ℕ) × (child_of ns n d ≡ true) × Memᴰ d (chain ns l))) (inl refl) go
    where
      go : (l : ℕ) → l < length ns → root_at ns l ≡ false → Memᴰ n (chain ns l) → (n ≡ parent_at ns l) ⊎ ((d : ℕ) × (child_of ns n d ≡ true) × Memᴰ d (chain ns (parent_at ns l)))
          → (n ≡ l) ⊎ ((d : ℕ) × (child_of ns n d ≡ true) × Memᴰ d (chain ns l))
      go l h f m (inl e) = inr (l, of-child ns n l f (sym e), chain-self ns l)
      go l h f m (inr q) = inr (q.0, q.1, chain-up ns parent_lt level_up l q.0 h f q.2)

  -- only one
  pub child-unique : (n d c l : ℕ) → l < length ns → child_of ns n d ≡ true → child_of ns n c ≡ true → Memᴰ d (chain ns l) → Memᴰ c (chain ns l) → d ≡ c
  child-unique n d c l h t u m k =
      chain-same-level ns parent_lt level_up l d c h m k
      (child-level n d (chain-lt ns parent_lt level_up l d h m) t ∙ sym (child-level n c (chain-lt ns parent_lt level_up l c h k) u))

  pub lead_is : (n d l : ℕ) → l < length ns → child_of ns n d ≡ true → Memᴰ d (chain ns l) → lead ns n l ≡ d
  unfolding lead
  lead_is n d l h t m =
      let f = filter-mem (child_of ns n) (chain ns l) (first_or n (filter (child_of ns n) (chain ns l))) (first-mem n (filter (child_of ns n) (chain ns l)) d (mem-filter (child_of ns n) (chain ns l) d m t)) in
      child-unique n (first_or n (filter (child_of ns n) (chain ns l))) d l h f.1 t f.0 m

  -- ---- the deepest node with an edge
  -- the nodes of the branch of l that have e
  abbrev having : ℕ → ℕ → List ℕ
  having e l = filter (λ n. has (mask_at ns n) e) (chain ns l)

  pub deepest-mem : (e l : ℕ) → Memᴰ (deepest ns e l) (chain ns l)
  unfolding deepest
  deepest-mem e l = go (first-cases l (having e l))
    where
      go : (having e l ≡ []) ⊎ Memᴰ (first_or l (having e l)) (having e l) → Memᴰ (first_or l (having e l)) (chain ns l)
      go (inl q) = Memᴰ.cast (ap (first_or l) q) (chain-self ns l)
      go (inr m) = (filter-mem (λ n. has (mask_at ns n) e) (chain ns l) (first_or l (having e l)) m).0

  pub deepest-has : (e l a : ℕ) → Memᴰ a (chain ns l) → has (mask_at ns a) e ≡ true → has (mask_at ns (deepest ns e l)) e ≡ true
  unfolding deepest
  deepest-has e l a m t = (filter-mem (λ n. has (mask_at ns n) e) (chain ns l) (first_or l (having e l)) (first-mem l (having e l) a (mem-filter (λ n. has (mask_at ns n) e) (chain ns l) a m t))).1

  -- where l has e, it is l
  having-self : (e d l : ℕ) → has (mask_at ns l) e ≡ true → first_or d (having e l) ≡ l
  having-self e d l t = let r = chain_head ns l in subst (λ (x : List ℕ). first_or d (filter (λ n. has (mask_at ns n) e) x) ≡ l) (sym r.1) (rw t refl)

  having-under : (e a d : ℕ) → has (mask_at ns a) e ≡ true → (l : ℕ) → l < length ns → Memᴰ a (chain ns l) → Memᴰ a (chain ns (first_or d (having e l)))
  having-under e a d t = down a (λ l. Memᴰ a (chain ns (first_or d (having e l)))) (rw (having-self e d a t) (chain-self ns a)) (λ l h f m ih. go l h f m ih (test (has (mask_at ns l) e)))
    where
      go : (l : ℕ) → l < length ns → root_at ns l ≡ false → Memᴰ a (chain ns l) → Memᴰ a (chain ns (first_or d (having e (parent_at ns l)))) → (has (mask_at ns l) e ≡ true) ⊎ (has (mask_at ns l) e ≡ false) → Memᴰ a (chain ns (first_or d (having e l)))
      go l h f m ih (inl u) = rw (having-self e d l u) m
      go l h f m ih (inr u) = subst (λ (x : List ℕ). Memᴰ a (chain ns (first_or d (filter (λ n. has (mask_at ns n) e) x)))) (sym (chain-child ns parent_lt level_up l h f)) (rw u ih)

  -- a node of the branch that has e is the deepest one, or above it
  pub deepest-under : (e a l : ℕ) → l < length ns → has (mask_at ns a) e ≡ true → Memᴰ a (chain ns l) → Memᴰ a (chain ns (deepest ns e l))
  unfolding deepest
  deepest-under e a l h t m = having-under e a l t l h m

  -- where the child d of n on the branch lacks e and n has it, n is the deepest one
  pub deepest-at : (e n d l : ℕ) → l < length ns → child_of ns n d ≡ true → Memᴰ d (chain ns l) → has (mask_at ns d) e ≡ false → has (mask_at ns n) e ≡ true → deepest ns e l ≡ n
  deepest-at e n d l h c m f t = go (dec_le (node ns d).level (node ns x).level)
    where
      x : ℕ
      x = deepest ns e l

      hd : d < length ns
      hd = chain-lt ns parent_lt level_up l d h m

      hx : x < length ns
      hx = chain-lt ns parent_lt level_up l x h (deepest-mem e l)

      mn : Memᴰ n (chain ns l)
      mn = chain-trans ns parent_lt level_up l d n h m (child-above n d hd c)

      go : Dec ((node ns d).level ≤ (node ns x).level) → x ≡ n
      go (yes q) =
          let k = chain-linear ns parent_lt level_up l d x h m (deepest-mem e l) q in
          absurd (true≢false (sym (inside-all (mask_at ns x) (mask_at ns d) (chain-inside d x hx k) e (deepest-has e l n mn t)) ∙ f))
      go (no q) = chain-same-level ns parent_lt level_up l x n h (deepest-mem e l) mn (omega (arith, child-level n d hd c, level-le n x hx (deepest-under e n l h t mn)))
