-- The tree of a mask goes by the mask alone, but for where it stands: its masks are the same everywhere, and its parents are shifted with its number. The columns
-- of the forest are those of the trees of the roots. Assumes nothing.
use Prim.Native.Nat.{ℕ, zero, suc, ◌+◌, ◌≤◌, ◌<◌}
use native.Mathlib.Omega.{arith}
use native.Mathlib.Nat.{add-zero, add_assoc}
use native.Mathlib.Numerals.{add-one}
use mathlib.Core.Path.{◌≡◌, refl, sym, ap, ap₂, ◌∙◌, subst}
use mathlib.Core.Logic.{◌⊎◌, inl, inr}
use mathlib.Core.Bool.{Bool, true}
use mathlib.Core.List.Memᴰ
use mathlib.Core.List.{List, [], ◌∷◌, ◌++◌, map, append_assoc, append-nil, Memᴰ}
use lib.Count.{ones}
use lib.ListN.{length, length-append, length-map}
use Rattle.lists.specs.Lists.{flat}
use Rattle.policy.specs.declared.Policy.{Policy}
use Rattle.policy.specs.Policies.{edges, accepting}
use Rattle.forest.specs.Forest.{Node, trees, tree, forest, children, roots, node_masks, node_parents}
use Rattle.forest.specs.Subtrees.{tree_at, tree_masks, tree_parents, tree_size, row_masks, row_parents}
use Rattle.forest.proofs.Children.{child-fewer}
use Rattle.forest.proofs.Planted.{pending, trees-same, tree-enough}

abbrev pub mask_of : Node → ℕ
mask_of x = x.mask

abbrev pub parent_of : Node → ℕ
parent_of x = x.parent

map-append : (f : Node → ℕ) (l r : List Node) → map f (l ++ r) ≡ map f l ++ map f r
map-append f [] r = refl
map-append f (x ∷ l) r = ap {B = List ℕ} (λ z. f x ∷ z) (map-append f l r)

map-plus : (d : ℕ) (l r : List ℕ) → map (λ (x : ℕ). x + d) (l ++ r) ≡ map (λ (x : ℕ). x + d) l ++ map (λ (x : ℕ). x + d) r
map-plus d [] r = refl
map-plus d (x ∷ l) r = ap {B = List ℕ} (λ z. (x + d) ∷ z) (map-plus d l r)

-- ---- trees in a row, by any two ways to make a tree
-- the masks are the same where those of each tree are
same-masks : (s t : ℕ → ℕ → List Node) (ms : List ℕ) → ((m : ℕ) → Memᴰ m ms → (i j : ℕ) → map mask_of (s i m) ≡ map mask_of (t j m)) → (i j : ℕ) → map mask_of (trees s i ms) ≡ map mask_of (trees t j ms)
unfolding trees
same-masks s t [] h i j = refl
same-masks s t (m ∷ ms) h i j =
    map-append mask_of (s i m) (trees s (i + length (s i m)) ms)
    ∙ ap₂ (λ (x y : List ℕ). x ++ y) (h m (Memᴰ.head refl) i j) (same-masks s t ms (λ c k. h c (Memᴰ.tail k)) (i + length (s i m)) (j + length (t j m)))
    ∙ sym (map-append mask_of (t j m) (trees t (j + length (t j m)) ms))

same_length : (a b : List Node) → map mask_of a ≡ map mask_of b → length a ≡ length b
same_length a b e = sym (length-map a mask_of) ∙ ap length e ∙ length-map b mask_of

-- the parents are shifted by d where those of each tree are
shifted : (d : ℕ) (s t : ℕ → ℕ → List Node) (ms : List ℕ) → ((m : ℕ) → Memᴰ m ms → (i : ℕ) → (map parent_of (t (i + d) m) ≡ map (λ (x : ℕ). x + d) (map parent_of (s i m))) × (length (t (i + d) m) ≡ length (s i m)))
    → (i : ℕ) → map parent_of (trees t (i + d) ms) ≡ map (λ (x : ℕ). x + d) (map parent_of (trees s i ms))
unfolding trees
shifted d s t [] h i = refl
shifted d s t (m ∷ ms) h i =
    let e = h m (Memᴰ.head refl) i in
    let n : i + d + length (t (i + d) m) ≡ i + length (s i m) + d = omega (arith, e.1) in
    map-append parent_of (t (i + d) m) (trees t (i + d + length (t (i + d) m)) ms)
    ∙ ap₂ (λ (x y : List ℕ). x ++ y) e.0 (ap (λ (k : ℕ). map parent_of (trees t k ms)) n ∙ shifted d s t ms (λ c k. h c (Memᴰ.tail k)) (i + length (s i m)))
    ∙ sym (map-plus d (map parent_of (s i m)) (map parent_of (trees s (i + length (s i m)) ms)))
    ∙ ap (map (λ (x : ℕ). x + d)) (sym (map-append parent_of (s i m) (trees s (i + length (s i m)) ms)))

-- and the same where those of each tree are
same-parents : (s t : ℕ → ℕ → List Node) (ms : List ℕ) → ((m : ℕ) → Memᴰ m ms → (i : ℕ) → (map parent_of (s i m) ≡ map parent_of (t i m)) × (length (s i m) ≡ length (t i m)))
    → (i : ℕ) → map parent_of (trees s i ms) ≡ map parent_of (trees t i ms)
unfolding trees
same-parents s t [] h i = refl
same-parents s t (m ∷ ms) h i =
    let e = h m (Memᴰ.head refl) i in
    map-append parent_of (s i m) (trees s (i + length (s i m)) ms)
    ∙ ap₂ (λ (x y : List ℕ). x ++ y) e.0 (ap (λ (k : ℕ). map parent_of (trees s (i + k) ms)) e.1 ∙ same-parents s t ms (λ c k. h c (Memᴰ.tail k)) (i + length (t i m)))
    ∙ sym (map-append parent_of (t i m) (trees t (i + length (t i m)) ms))

-- one more tree
trees-more : (t : ℕ → ℕ → List Node) (n : ℕ) (ms : List ℕ) (m : ℕ) → trees t n (ms ++ (m ∷ [])) ≡ trees t n ms ++ t (n + length (trees t n ms)) m
unfolding trees
trees-more t n [] m = append-nil (t n m) ∙ ap (λ (k : ℕ). t k m) (sym (add-zero n))
trees-more t n (x ∷ ms) m =
    let a : List Node = t n x in
    let b : List Node = trees t (n + length a) ms in
    let e : n + length a + length b ≡ n + length (a ++ b) = add_assoc n (length a) (length b) ∙ ap (λ (k : ℕ). n + k) (sym (length-append a b)) in
    ap (λ (z : List Node). a ++ z) (trees-more t (n + length a) ms m) ∙ sym (append_assoc a b (t (n + length a + length b) m)) ∙ ap (λ (k : ℕ). (a ++ b) ++ t k m) e

module _ (p : Policy) where
  -- ---- one tree, in two places
  masks_same : (k q q' l l' : ℕ) (a a' : Bool) (i j m : ℕ) → map mask_of (tree p k q l a i m) ≡ map mask_of (tree p k q' l' a' j m)
  unfolding tree
  masks_same zero q q' l l' a a' i j m = refl
  masks_same (suc k) q q' l l' a a' i j m =
      ap {B = List ℕ} (λ z. m ∷ z)
      (same-masks (tree p k i (l + 1) a) (tree p k j (l' + 1) a') (children p m) (λ c _ s t. masks_same k i j (l + 1) (l' + 1) a a' s t c) (i + 1) (j + 1))

  size_same : (k q q' l l' : ℕ) (a a' : Bool) (i j m : ℕ) → length (tree p k q l a i m) ≡ length (tree p k q' l' a' j m)
  size_same k q q' l l' a a' i j m = same_length (tree p k q l a i m) (tree p k q' l' a' j m) (masks_same k q q' l l' a a' i j m)

  parents-shifted : (d k q l l' : ℕ) (a a' : Bool) (n m : ℕ) → map parent_of (tree p k (q + d) l' a' (n + d) m) ≡ map (λ (x : ℕ). x + d) (map parent_of (tree p k q l a n m))
  unfolding tree
  parents-shifted d zero q l l' a a' n m = refl
  parents-shifted d (suc k) q l l' a a' n m =
      let e : n + d + 1 ≡ n + 1 + d = omega arith in
      ap {B = List ℕ} (λ z. (q + d) ∷ z)
      (ap (λ (i : ℕ). map parent_of (trees (tree p k (n + d) (l' + 1) a') i (children p m))) e
      ∙ shifted d (tree p k n (l + 1) a) (tree p k (n + d) (l' + 1) a') (children p m)
      (λ c _ i. (parents-shifted d k n (l + 1) (l' + 1) a a' i c, size_same k (n + d) n (l' + 1) (l + 1) a' a (i + d) i c)) (n + 1))

  map-zero : (l : List ℕ) → map (λ (x : ℕ). x + 0) l ≡ l
  map-zero [] = refl
  map-zero (x ∷ l) = ap₂ {C = List ℕ} (λ z w. z ∷ w) (add-zero x) (map-zero l)

  -- the level and the verdict do not matter
  parents_same : (k q l l' : ℕ) (a a' : Bool) (n m : ℕ) → map parent_of (tree p k q l' a' n m) ≡ map parent_of (tree p k q l a n m)
  parents_same k q l l' a a' n m =
      sym (ap₂ (λ (x y : ℕ). map parent_of (tree p k x l' a' y m)) (add-zero q) (add-zero n)) ∙ parents-shifted 0 k q l l' a a' n m ∙ map-zero (map parent_of (tree p k q l a n m))

  -- ---- the columns of a tree
  masks-at : (q n m : ℕ) → map mask_of (tree_at p q n m) ≡ tree_masks p m
  unfolding tree_masks tree_at
  masks-at q n m = masks_same (edges p + 1) q 0 0 0 true true n 0 m

  size-at : (q n m : ℕ) → length (tree_at p q n m) ≡ tree_size p m
  unfolding tree_size
  size-at q n m = sym (length-map (tree_at p q n m) mask_of) ∙ ap length (masks-at q n m)

  pub length-parents : (q n m : ℕ) → length (tree_parents p q n m) ≡ tree_size p m
  unfolding tree_parents
  length-parents q n m = length-map (tree_at p q n m) parent_of ∙ size-at q n m

  pub parents-moved : (d q n m : ℕ) → tree_parents p (q + d) (n + d) m ≡ map (λ (x : ℕ). x + d) (tree_parents p q n m)
  unfolding tree_parents tree_at
  parents-moved d q n m = parents-shifted d (edges p + 1) q 0 0 true true n m

  -- ---- a row of trees
  pub row-none-masks : row_masks p [] ≡ []
  unfolding row_masks
  row-none-masks = refl

  pub row-none-parents : (q n : ℕ) → row_parents p q n [] ≡ []
  unfolding row_parents trees
  row-none-parents q n = refl

  flat-more : (l : List ℕ) (m : ℕ) → flat (map (tree_masks p) (l ++ (m ∷ []))) ≡ flat (map (tree_masks p) l) ++ tree_masks p m
  flat-more [] m = append-nil (tree_masks p m)
  flat-more (x ∷ l) m = ap (λ (z : List ℕ). tree_masks p x ++ z) (flat-more l m) ∙ sym (append_assoc (tree_masks p x) (flat (map (tree_masks p) l)) (tree_masks p m))

  pub row-more-masks : (ms : List ℕ) (m : ℕ) → row_masks p (ms ++ (m ∷ [])) ≡ row_masks p ms ++ tree_masks p m
  unfolding row_masks
  row-more-masks ms m = flat-more ms m

  trees-masks : (q n : ℕ) (ms : List ℕ) → map mask_of (trees (tree_at p q) n ms) ≡ row_masks p ms
  unfolding row_masks trees
  trees-masks q n [] = refl
  trees-masks q n (m ∷ ms) =
      map-append mask_of (tree_at p q n m) (trees (tree_at p q) (n + length (tree_at p q n m)) ms) ∙ ap₂ (λ (x y : List ℕ). x ++ y) (masks-at q n m) (trees-masks q (n + length (tree_at p q n m)) ms)

  trees-length : (q n : ℕ) (ms : List ℕ) → length (trees (tree_at p q) n ms) ≡ length (row_masks p ms)
  trees-length q n ms = sym (length-map (trees (tree_at p q) n ms) mask_of) ∙ ap length (trees-masks q n ms)

  pub length-row : (q n : ℕ) (ms : List ℕ) → length (row_parents p q n ms) ≡ length (row_masks p ms)
  unfolding row_parents
  length-row q n ms = length-map (trees (tree_at p q) n ms) parent_of ∙ trees-length q n ms

  pub row-more-parents : (q n : ℕ) (ms : List ℕ) (m : ℕ) → row_parents p q n (ms ++ (m ∷ [])) ≡ row_parents p q n ms ++ tree_parents p q (n + length (row_masks p ms)) m
  unfolding row_parents tree_parents
  row-more-parents q n ms m =
      ap (map parent_of) (trees-more (tree_at p q) n ms m) ∙ map-append parent_of (trees (tree_at p q) n ms) (tree_at p q (n + length (trees (tree_at p q) n ms)) m)
      ∙ ap (λ (k : ℕ). map parent_of (trees (tree_at p q) n ms) ++ map parent_of (tree_at p q (n + k) m)) (trees-length q n ms)

  -- ---- a tree is its root and the trees of its children
  fewer : (m c : ℕ) → Memᴰ c (children p m) → ones c < ones m
  fewer = child-fewer p

  one-level : (q n m : ℕ) → ones m ≤ edges p → tree_at p q n m ≡ pending q 0 true m ∷ trees (tree p (edges p + 1) n 1 true) (n + 1) (children p m)
  unfolding tree_at tree
  one-level q n m h =
      ap (λ (k : ℕ). tree p k q 0 true n m) (add-one (edges p))
      ∙ ap {B = List Node} (λ z. pending q 0 true m ∷ z)
      (trees-same (tree p (edges p) n (0 + 1) true) (tree p (edges p + 1) n 1 true) (children p m)
      (λ c k i. sym (ap (λ (j : ℕ). tree p j n 1 true i c) (add-one (edges p)) ∙ tree-enough p fewer (edges p) n 1 true i c (omega (arith, fewer m c k)))) (n + 1))

  pub tree-masks : (m : ℕ) → ones m ≤ edges p → tree_masks p m ≡ m ∷ row_masks p (children p m)
  unfolding tree_at
  tree-masks m h =
      sym (masks-at 0 0 m) ∙ ap (map mask_of) (one-level 0 0 m h)
      ∙ ap {B = List ℕ} (λ z. m ∷ z) (below ∙ trees-masks 0 1 (children p m))
    where
      below : map mask_of (trees (tree p (edges p + 1) 0 1 true) 1 (children p m)) ≡ map mask_of (trees (tree_at p 0) 1 (children p m))
      below = same-masks (tree p (edges p + 1) 0 1 true) (tree_at p 0) (children p m) (λ c _ i j. masks_same (edges p + 1) 0 0 1 0 true true i j c) 1 1

  pub tree-parents : (q n m : ℕ) → ones m ≤ edges p → tree_parents p q n m ≡ q ∷ row_parents p n (n + 1) (children p m)
  unfolding tree_parents row_parents tree_at
  tree-parents q n m h =
      ap (map parent_of) (one-level q n m h)
      ∙ ap {B = List ℕ} (λ z. q ∷ z) (same-parents (tree p (edges p + 1) n 1 true) (tree_at p n) (children p m) (λ c _ i. (parents_same (edges p + 1) n 0 1 true true i c, size_same (edges p + 1) n n 1 0 true true i i c)) (n + 1))

  -- ---- the columns of the forest
  pub forest-masks : node_masks p ≡ row_masks p (roots p)
  unfolding node_masks forest tree_at
  forest-masks =
      same-masks (λ n m. tree p (edges p + 1) 65535 0 (accepting p m) n m) (tree_at p 65535) (roots p) (λ m _ i j. masks_same (edges p + 1) 65535 65535 0 0 (accepting p m) true i j m) 0 0
      ∙ trees-masks 65535 0 (roots p)

  pub forest-parents : node_parents p ≡ row_parents p 65535 0 (roots p)
  unfolding node_parents forest row_parents tree_at
  forest-parents =
      same-parents (λ n m. tree p (edges p + 1) 65535 0 (accepting p m) n m) (tree_at p 65535) (roots p)
      (λ m _ i. (parents_same (edges p + 1) 65535 0 0 true (accepting p m) i m, size_same (edges p + 1) 65535 65535 0 0 (accepting p m) true i i m)) 0

  -- ---- a parent's number is that of a node of the tree
  -- the parents of the nodes are q or from n up to below n + the size
  Within : ℕ → ℕ → ℕ → List ℕ → Type 0
  Within q n s l = (x : ℕ) → Memᴰ x l → (x ≡ q) ⊎ (x < n + s)

  row_within : (q : ℕ) (t : ℕ → ℕ → List Node) (ms : List ℕ) → ((m : ℕ) (i : ℕ) → Within q i (length (t i m)) (map parent_of (t i m))) → (i : ℕ) → Within q i (length (trees t i ms)) (map parent_of (trees t i ms))
  unfolding trees Within
  row_within q t [] h i x k = absurd (Memᴰ.not-nil k)
  row_within q t (m ∷ ms) h i x k = go (Memᴰ.append_cases (map parent_of (t i m)) (subst (λ (l : List ℕ). Memᴰ x l) (map-append parent_of (t i m) (trees t (i + length (t i m)) ms)) k))
      (λ z. row_within q t ms h (i + length (t i m)) x z)
    where
      size : length (t i m ++ trees t (i + length (t i m)) ms) ≡ length (t i m) + length (trees t (i + length (t i m)) ms)
      size = length-append (t i m) (trees t (i + length (t i m)) ms)

      near : (x ≡ q) ⊎ (x < i + length (t i m)) → (x ≡ q) ⊎ (x < i + length (t i m ++ trees t (i + length (t i m)) ms))
      near (inl e) = inl e
      near (inr l) = inr (omega (arith, size))

      far : (x ≡ q) ⊎ (x < i + length (t i m) + length (trees t (i + length (t i m)) ms)) → (x ≡ q) ⊎ (x < i + length (t i m ++ trees t (i + length (t i m)) ms))
      far (inl e) = inl e
      far (inr l) = inr (omega (arith, size))

      go : Memᴰ x (map parent_of (t i m)) ⊎ Memᴰ x (map parent_of (trees t (i + length (t i m)) ms))
          → (Memᴰ x (map parent_of (trees t (i + length (t i m)) ms)) → (x ≡ q) ⊎ (x < i + length (t i m) + length (trees t (i + length (t i m)) ms)))
          → (x ≡ q) ⊎ (x < i + length (t i m ++ trees t (i + length (t i m)) ms))
      go (inl z) ih = near (h m i x z)
      go (inr z) ih = far (ih z)

  tree-within : (k q l : ℕ) (a : Bool) (n m : ℕ) → Within q n (length (tree p k q l a n m)) (map parent_of (tree p k q l a n m))
  unfolding tree Within
  tree-within zero q l a n m x z = absurd (Memᴰ.not-nil z)
  tree-within (suc k) q l a n m x z = go (Memᴰ.cases_cons z) (λ w. row_within n (tree p k n (l + 1) a) (children p m) (λ c i. tree-within k n (l + 1) a i c) (n + 1) x w)
    where
      rest : List Node
      rest = trees (tree p k n (l + 1) a) (n + 1) (children p m)

      lower : (x ≡ n) ⊎ (x < n + 1 + length rest) → (x ≡ q) ⊎ (x < n + suc (length rest))
      lower (inl e) = inr (omega arith)
      lower (inr w) = inr (omega arith)

      go : (x ≡ q) ⊎ Memᴰ x (map parent_of rest) → (Memᴰ x (map parent_of rest) → (x ≡ n) ⊎ (x < n + 1 + length rest)) → (x ≡ q) ⊎ (x < n + suc (length rest))
      go (inl e) ih = inl e
      go (inr w) ih = lower (ih w)

  pub parents-few : (q n m x : ℕ) → q < n → Memᴰ x (tree_parents p q n m) → x < n + tree_size p m
  unfolding tree_parents tree_at Within
  parents-few q n m x h z = go (tree-within (edges p + 1) q 0 true n m x z)
    where
      go : (x ≡ q) ⊎ (x < n + length (tree p (edges p + 1) q 0 true n m)) → x < n + tree_size p m
      go (inl e) = omega arith
      go (inr l) = omega (arith, size-at q n m)
