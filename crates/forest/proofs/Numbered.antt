-- The laws of the depth_first numbering of the forest, whatever the roots and the children are, given that a child has fewer edges and that
-- roots and children are listed in sibling order. Assumes nothing.
use Prim.Native.Nat.{ℕ, zero, suc, ◌+◌, ◌≤◌, ◌<◌}
use native.Mathlib.Omega.{arith}
use native.Mathlib.Numerals.{add-one}
use mathlib.Core.Path.{◌≡◌, refl, sym, ap, ◌∙◌, subst}
use mathlib.Core.Logic.{◌⊎◌, inl, inr}
use mathlib.Core.Bool.{Bool, true, false, not, ◌&&◌, cond, true≢false}
use mathlib.Core.List.Memᴰ
use mathlib.Core.List.{List, [], ◌∷◌, ◌++◌, map, append_assoc, append-nil, Memᴰ}
use lib.Count.{ones}
use lib.Dec.{eqb}
use lib.ListN.{length, get_or, length-append}
use Rattle.lists.proofs.Bools.{both, ≡eqb}
use Rattle.lists.proofs.Lists.{get_or-mem, mem-at, map-mem, mem-map}
use Rattle.lists.proofs.Numbers.{below_suc, not-zero}
use Rattle.policy.specs.declared.Policy.{Policy}
use Rattle.policy.specs.Policies.{edges, accepting}
use Rattle.forest.specs.Forest.{Node, is_root, before, node, chain, child_of, forest, roots, children}
use Rattle.forest.specs.Laws.{Ordered, Siblings, mask_at, parent_at, root_at}
use Rattle.forest.proofs.Chains.{chain-self, chain_link}
use Rattle.forest.proofs.Planted.{pending, pending_children, pending_roots, planted, planted-turn, forest-planted}

pub record Numbered (p : Policy) (ns : List Node) : Type 0 where
  pub parent_lt : (n : ℕ) → n < length ns → root_at ns n ≡ false → parent_at ns n < n
  pub level_up : (n : ℕ) → n < length ns → root_at ns n ≡ false → (node ns n).level ≡ (node ns (parent_at ns n)).level + 1
  pub ordered : (i j : ℕ) → i < j → j < length ns → Siblings ns i j → before (mask_at ns i) (mask_at ns j) ≡ true
  pub depth_first : (n : ℕ) → n + 1 < length ns → (root_at ns (n + 1) ≡ true) ⊎ Memᴰ (parent_at ns (n + 1)) (chain ns n)
  pub root_mask : (n : ℕ) → n < length ns → root_at ns n ≡ true → Memᴰ (mask_at ns n) (roots p)
  pub mask_root : (m : ℕ) → Memᴰ m (roots p) → (n : ℕ) × (n < length ns) × (root_at ns n ≡ true) × (mask_at ns n ≡ m)
  pub child_mask : (n : ℕ) → n < length ns → root_at ns n ≡ false → Memᴰ (mask_at ns n) (children p (mask_at ns (parent_at ns n)))
  pub mask_child : (n : ℕ) → n < length ns → (m : ℕ) → Memᴰ m (children p (mask_at ns n)) → (j : ℕ) × (j < length ns) × (child_of ns n j ≡ true) × (mask_at ns j ≡ m)
  -- a tree has the verdict of its root
  pub accepted_root : (n : ℕ) → n < length ns → root_at ns n ≡ true → (node ns n).accepted ≡ accepting p (mask_at ns n)
  pub accepted_child : (n : ℕ) → n < length ns → root_at ns n ≡ false → (node ns n).accepted ≡ (node ns (parent_at ns n)).accepted
  pub root_parent : (n : ℕ) → n < length ns → root_at ns n ≡ true → parent_at ns n ≡ 65535

-- ---- a list put into a list
module _ {A : Type 0} where
  mem-insert : (a new xs : List A) {z : A} → Memᴰ z (a ++ xs) → Memᴰ z (a ++ (new ++ xs))
  mem-insert a new xs {z} m = go (Memᴰ.append_cases a m)
    where
      go : Memᴰ z a ⊎ Memᴰ z xs → Memᴰ z (a ++ (new ++ xs))
      go (inl k) = Memᴰ.append_left (new ++ xs) k
      go (inr k) = Memᴰ.append_right a (Memᴰ.append_right new k)

  insert-cases : (a new xs : List A) {z : A} → Memᴰ z (a ++ (new ++ xs)) → Memᴰ z (a ++ xs) ⊎ Memᴰ z new
  insert-cases a new xs {z} m = go (Memᴰ.append_cases a m)
    where
      next : Memᴰ z new ⊎ Memᴰ z xs → Memᴰ z (a ++ xs) ⊎ Memᴰ z new
      next (inl k) = inr k
      next (inr k) = inl (Memᴰ.append_right a k)

      go : Memᴰ z a ⊎ Memᴰ z (new ++ xs) → Memᴰ z (a ++ xs) ⊎ Memᴰ z new
      go (inl k) = inl (Memᴰ.append_left xs k)
      go (inr k) = next (Memᴰ.append_cases new k)

  -- what stands after a list
  get_d_after : (l : List A) (x : A) (r : List A) (d : A) → get_or (l ++ (x ∷ r)) (length l) d ≡ x
  get_d_after [] x r d = refl
  get_d_after (y ∷ l) x r d = get_d_after l x r d

-- ---- siblings in order
-- two roots, or two children of one node
abbrev Sib : Node → Node → Type 0
Sib x y = ((is_root x ≡ true) × (is_root y ≡ true)) ⊎ ((is_root x ≡ false) × (is_root y ≡ false) × (x.parent ≡ y.parent))

sib-sym : (x y : Node) → Sib x y → Sib y x
sib-sym x y (inl s) = inl (s.1, s.0)
sib-sym x y (inr s) = inr (s.1, s.0, sym s.2)

abbrev InOrder : List Node → Type 0
InOrder [] = Unit {0}
InOrder (x ∷ xs) = ((y : Node) → Memᴰ y xs → Sib x y → before x.mask y.mask ≡ true) × InOrder xs

order-append : (l r : List Node) → InOrder l → InOrder r → ((x y : Node) → Memᴰ x l → Memᴰ y r → Sib x y → before x.mask y.mask ≡ true) → InOrder (l ++ r)
order-append [] r a b h = b
order-append (x ∷ l) r a b h = (λ y m. go y (Memᴰ.append_cases l m), order-append l r a.1 b (λ x y m n. h x y (Memᴰ.tail m) n))
  where
    go : (y : Node) → Memᴰ y l ⊎ Memᴰ y r → Sib x y → before x.mask y.mask ≡ true
    go y (inl m) = a.0 y m
    go y (inr m) = h x y (Memᴰ.head refl) m

order-insert : (a new xs : List Node) → InOrder (a ++ xs) → InOrder new → ((x c : Node) → Memᴰ x (a ++ xs) → Memᴰ c new → Sib x c → ⊥) → InOrder (a ++ (new ++ xs))
order-insert [] new xs o n h = order-append new xs n o (λ c x k m s. absurd (h x c m k (sib-sym c x s)))
order-insert (z ∷ a) new xs o n h = (λ y m. go y (insert-cases a new xs m), order-insert a new xs o.1 n (λ x c m k. h x c (Memᴰ.tail m) k))
  where
    go : (y : Node) → Memᴰ y (a ++ xs) ⊎ Memᴰ y new → Sib z y → before z.mask y.mask ≡ true
    go y (inl m) s = o.0 y m s
    go y (inr k) s = absurd (h z y (Memᴰ.head refl) k s)

order-pending : (parent level : ℕ) (a : ℕ → Bool) (ms : List ℕ) → Ordered ms → InOrder (map (λ (m : ℕ). pending parent level (a m) m) ms)
order-pending parent level a [] o = tt
order-pending parent level a (m ∷ ms) o = (λ y k s. go y (map-mem (λ (m : ℕ). pending parent level (a m) m) ms y k), order-pending parent level a ms o.1)
  where
    go : (y : Node) → (c : ℕ) × Memᴰ c ms × (y ≡ pending parent level (a c) c) → before m y.mask ≡ true
    go y r = subst (λ (z : Node). before m z.mask ≡ true) (sym r.2) (o.0 r.0 r.1)

order-at : (l : List Node) (d : Node) → InOrder l → (i j : ℕ) → i < j → j < length l → Sib (get_or l i d) (get_or l j d) → before (get_or l i d).mask (get_or l j d).mask ≡ true
order-at [] d o i j h g s = absurd (omega arith)
order-at (x ∷ l) d o i zero h g s = absurd (omega arith)
order-at (x ∷ l) d o zero (suc j) h g s = o.0 (get_or l j d) (get_or-mem l j d (omega arith)) s
order-at (x ∷ l) d o (suc i) (suc j) h g s = order-at l d o.1 i j (omega arith) (omega arith) s

-- ---- the loop
module _ (p : Policy) (ns : List Node) where
  -- a root
  record Top (x : Node) : Type 0 where
    is-root : is_root x ≡ true
    of_roots : Memᴰ x.mask (roots p)
    no_parent : x.parent ≡ 65535
    verdict : x.accepted ≡ accepting p x.mask

  -- a child of a node numbered below i
  record Under (i : ℕ) (x : Node) : Type 0 where
    not_root : is_root x ≡ false
    parent_below : x.parent < i
    level_next : x.level ≡ (node ns x.parent).level + 1
    same_verdict : x.accepted ≡ (node ns x.parent).accepted
    of_children : Memᴰ x.mask (children p (node ns x.parent).mask)

  abbrev Known : ℕ → Node → Type 0
  Known i x = Top x ⊎ Under i x

  -- the chain of the node before n
  abbrev prior : ℕ → List ℕ
  prior zero = []
  prior (suc n) = chain ns n

  -- the chain of the parent of x
  abbrev above : Node → List ℕ
  above x = cond (is_root x) [] (chain ns x.parent)

  -- a stack: the parent of the first is in the chain c, and that of each next one in the chain of the parent of the one before
  abbrev Hangs : List ℕ → List Node → Type 0
  Hangs c [] = Unit {0}
  Hangs c (x ∷ xs) = ((is_root x ≡ true) ⊎ Memᴰ x.parent c) × Hangs (above x) xs

  -- x is a child of n
  abbrev child_node : ℕ → Node → Bool
  child_node n x = not (is_root x) && eqb x.parent n

  -- i nodes are placed, the list s; those of `pend` are pending
  record Placing (i : ℕ) (s pend : List Node) : Type 0 where
    known : (x : Node) → Memᴰ x (s ++ pend) → Known i x × (ones x.mask ≤ edges p)
    back : (n : ℕ) → n < i → root_at ns n ≡ false → parent_at ns n < n
    deep : (n : ℕ) → n < i → (root_at ns n ≡ true) ⊎ Memᴰ (parent_at ns n) (prior n)
    hangs : Hangs (prior i) pend
    in-order : InOrder (s ++ pend)
    all_roots : (m : ℕ) → Memᴰ m (roots p) → (x : Node) × Memᴰ x (s ++ pend) × (is_root x ≡ true) × (x.mask ≡ m)
    all_children : (n : ℕ) → n < i → (m : ℕ) → Memᴰ m (children p (mask_at ns n)) → (x : Node) × Memᴰ x (s ++ pend) × (child_node n x ≡ true) × (x.mask ≡ m)

  -- at the start the roots are pending
  start : ((r : ℕ) → Memᴰ r (roots p) → ones r ≤ edges p) → Ordered (roots p) → Placing 0 [] (pending_roots p)
  start few o = record {
    known = λ x m. is_known x (map-mem root (roots p) x m);
    back = λ n h. absurd (omega arith);
    deep = λ n h. absurd (omega arith);
    hangs = hang (roots p);
    in-order = order-pending 65535 0 (accepting p) (roots p) o;
    all_roots = λ m k. (root m, mem-map root (roots p) m k, refl, refl);
    all_children = λ n h. absurd (omega arith);
  }
    where
      root : ℕ → Node
      root m = pending 65535 0 (accepting p m) m

      is_known : (x : Node) → (m : ℕ) × Memᴰ m (roots p) × (x ≡ root m) → Known 0 x × (ones x.mask ≤ edges p)
      is_known x r = subst (λ (x : Node). Known 0 x × (ones x.mask ≤ edges p)) (sym r.2) (inl (record { is-root = refl; of_roots = r.1; no_parent = refl; verdict = refl }), few r.0 r.1)

      hang : (ms : List ℕ) → Hangs [] (map root ms)
      hang [] = tt
      hang (m ∷ ms) = (inl refl, hang ms)

  hangs-grow : (c d : List ℕ) (xs : List Node) → ((m : ℕ) → Memᴰ m c → Memᴰ m d) → Hangs c xs → Hangs d xs
  hangs-grow c d [] g h = tt
  hangs-grow c d (x ∷ xs) g h = (go h.0, h.1)
    where
      go : (is_root x ≡ true) ⊎ Memᴰ x.parent c → (is_root x ≡ true) ⊎ Memᴰ x.parent d
      go (inl t) = inl t
      go (inr m) = inr (g x.parent m)

  hangs-children : (i l : ℕ) (a : Bool) (cs : List ℕ) (xs : List Node) → Hangs (chain ns i) xs → Hangs (chain ns i) (map (pending i (l + 1) a) cs ++ xs)
  hangs-children i l a [] xs h = h
  hangs-children i l a (c ∷ cs) xs h = (inr (chain-self ns i), rw (not-zero l) (hangs-children i l a cs xs h))

  raise : (i : ℕ) (x : Node) → Known i x → Known (suc i) x
  raise i x (inl t) = inl t
  raise i x (inr u) = inr (record { not_root = u.not_root; parent_below = omega (arith, u.parent_below); level_next = u.level_next; same_verdict = u.same_verdict; of_children = u.of_children })

  -- one turn: node i, the first pending one, is placed, and its children are pending in its stead
  turn : ((m c : ℕ) → Memᴰ c (children p m) → ones c < ones m) → ((m : ℕ) → Ordered (children p m))
      → (i : ℕ) (s xs : List Node) → Placing i s (node ns i ∷ xs) → Placing (suc i) (s ++ (node ns i ∷ [])) (pending_children p i (node ns i) ++ xs)
  turn fewer o i s xs v = record {
    known = λ z m. now-known z (cases m);
    back = λ n h. now-back n (below_suc n i h);
    deep = λ n h. now-deep n (below_suc n i h);
    hangs = hangs-children i x.level x.accepted (children p x.mask) xs (hangs-grow (above x) (chain ns i) xs (above_in x-known.0) v.hangs.1);
    in-order = order-insert a new xs (subst (λ (l : List Node). InOrder l) (sym assoc) v.in-order) (order-pending i (x.level + 1) (λ _. x.accepted) (children p x.mask) (o x.mask)) apart;
    all_roots = λ m k. let r = v.all_roots m k in (r.0, keep r.1, r.2, r.3);
    all_children = λ n h. now-children n (below_suc n i h);
  }
    where
      x : Node
      x = node ns i

      new : List Node
      new = pending_children p i x

      a : List Node
      a = s ++ (x ∷ [])

      assoc : a ++ xs ≡ s ++ (x ∷ xs)
      assoc = append_assoc s (x ∷ []) xs

      keep : {z : Node} → Memᴰ z (s ++ (x ∷ xs)) → Memᴰ z (a ++ (new ++ xs))
      keep {z} m = mem-insert a new xs (subst (λ (l : List Node). Memᴰ z l) (sym assoc) m)

      back_to : {z : Node} → Memᴰ z (a ++ xs) → Memᴰ z (s ++ (x ∷ xs))
      back_to {z} m = subst (λ (l : List Node). Memᴰ z l) assoc m

      cases : {z : Node} → Memᴰ z (a ++ (new ++ xs)) → Memᴰ z (a ++ xs) ⊎ Memᴰ z new
      cases m = insert-cases a new xs m

      x-known : Known i x × (ones x.mask ≤ edges p)
      x-known = v.known x (Memᴰ.append_right s (Memᴰ.head refl))

      child : ℕ → Node
      child m = pending i (x.level + 1) x.accepted m

      child-known : (c : ℕ) → Memᴰ c (children p x.mask) → Known (suc i) (child c) × (ones c ≤ edges p)
      child-known c k = (inr (record { not_root = not-zero x.level; parent_below = omega arith; level_next = refl; same_verdict = refl; of_children = k }), omega (arith, fewer x.mask c k, x-known.1))

      new-known : (z : Node) → (c : ℕ) × Memᴰ c (children p x.mask) × (z ≡ child c) → Known (suc i) z × (ones z.mask ≤ edges p)
      new-known z r = subst (λ (z : Node). Known (suc i) z × (ones z.mask ≤ edges p)) (sym r.2) (child-known r.0 r.1)

      now-known : (z : Node) → Memᴰ z (a ++ xs) ⊎ Memᴰ z new → Known (suc i) z × (ones z.mask ≤ edges p)
      now-known z (inl m) = let r = v.known z (back_to m) in (raise i z r.0, r.1)
      now-known z (inr m) = new-known z (map-mem child (children p x.mask) z m)

      parent_of : Known i x → is_root x ≡ false → x.parent < i
      parent_of (inl t) f = absurd (true≢false (sym t.is-root ∙ f))
      parent_of (inr u) f = u.parent_below

      now-back : (n : ℕ) → (n < i) ⊎ (n ≡ i) → root_at ns n ≡ false → parent_at ns n < n
      now-back n (inl h) = v.back n h
      now-back n (inr e) = subst (λ (n : ℕ). root_at ns n ≡ false → parent_at ns n < n) (sym e) (parent_of x-known.0)

      now-deep : (n : ℕ) → (n < i) ⊎ (n ≡ i) → (root_at ns n ≡ true) ⊎ Memᴰ (parent_at ns n) (prior n)
      now-deep n (inl h) = v.deep n h
      now-deep n (inr e) = subst (λ (n : ℕ). (root_at ns n ≡ true) ⊎ Memᴰ (parent_at ns n) (prior n)) (sym e) v.hangs.0

      above_in : Known i x → (m : ℕ) → Memᴰ m (above x) → Memᴰ m (chain ns i)
      above_in (inl t) m k = absurd (Memᴰ.not-nil (subst (λ (b : Bool). Memᴰ m (cond b [] (chain ns x.parent))) t.is-root k))
      above_in (inr u) m k = subst (λ (c : List ℕ). Memᴰ m c) (sym (chain_link ns i u.level_next)) (Memᴰ.tail (subst (λ (b : Bool). Memᴰ m (cond b [] (chain ns x.parent))) u.not_root k))

      -- a child of i is no sibling of what was there before
      clash : (z : Node) (c : ℕ) → Known i z → Sib z (child c) → ⊥
      clash z c k (inl e) = true≢false (sym e.1 ∙ not-zero x.level)
      clash z c (inl t) (inr e) = true≢false (sym t.is-root ∙ e.0)
      clash z c (inr u) (inr e) = omega (arith, u.parent_below, e.2)

      apart : (z c : Node) → Memᴰ z (a ++ xs) → Memᴰ c new → Sib z c → ⊥
      apart z c m k e =
          let r = map-mem child (children p x.mask) c k in
          clash z r.0 (v.known z (back_to m)).0 (subst (λ (y : Node). Sib z y) r.2 e)

      now-children : (n : ℕ) → (n < i) ⊎ (n ≡ i) → (m : ℕ) → Memᴰ m (children p (mask_at ns n)) → (z : Node) × Memᴰ z (a ++ (new ++ xs)) × (child_node n z ≡ true) × (z.mask ≡ m)
      now-children n (inl h) m k = let r = v.all_children n h m k in (r.0, keep r.1, r.2, r.3)
      now-children n (inr e) m k = (
        child m,
        Memᴰ.append_right a (Memᴰ.append_left xs (mem-map child (children p x.mask) m (subst (λ (n : ℕ). Memᴰ m (children p (mask_at ns n))) e k))),
        both (not (eqb (x.level + 1) 0)) (eqb i n) (ap not (not-zero x.level)) (≡eqb i n (sym e)),
        refl,
      )

  all_placed : (i : ℕ) (s : List Node) → ns ≡ s ++ [] → length s ≡ i → Placing i s [] → Placing (length ns) ns []
  all_placed i s e l v =
      let d : s ≡ ns = sym (e ∙ append-nil s) in
      subst (λ (s : List Node). Placing (length s) s []) d (subst (λ (i : ℕ). Placing i s []) (sym l) v)

  -- to the end, where all nodes are placed
  run : ((m c : ℕ) → Memᴰ c (children p m) → ones c < ones m) → ((m : ℕ) → Ordered (children p m))
      → (f i : ℕ) (s pend : List Node) → length (planted p (suc (edges p)) i pend) ≤ f → ns ≡ s ++ planted p (suc (edges p)) i pend → length s ≡ i → Placing i s pend → Placing (length ns) ns []
  unfolding planted node
  run fewer o zero i s [] h e l v = all_placed i s e l v
  run fewer o (suc f) i s [] h e l v = all_placed i s e l v
  run fewer o zero i s (x ∷ xs) h e l v =
      let few = (v.known x (Memᴰ.append_right s (Memᴰ.head refl))).1 in
      absurd (omega (arith, ap length (planted-turn p fewer (edges p) i x xs (omega arith))))
  run fewer o (suc f) i s (x ∷ xs) h e l v =
      let few = (v.known x (Memᴰ.append_right s (Memᴰ.head refl))).1 in
      let pend : List Node = pending_children p i x ++ xs in
      let t : planted p (suc (edges p)) i (x ∷ xs) ≡ x ∷ planted p (suc (edges p)) (suc i) pend
      = planted-turn p fewer (edges p) i x xs (omega arith) ∙ ap (λ (j : ℕ). x ∷ planted p (suc (edges p)) j pend) (add-one i) in
      let r : List Node = planted p (suc (edges p)) (suc i) pend in
      let whole : ns ≡ s ++ (x ∷ r) = e ∙ ap (λ (z : List Node). s ++ z) t in
      let here : node ns i ≡ x = ap (λ (l : List Node). node l i) whole ∙ ap (λ (j : ℕ). node (s ++ (x ∷ r)) j) (sym l) ∙ get_d_after s x r (record { mask = 0; parent = 0; level = 0; accepted = false }) in
      run fewer o f (suc i) (s ++ (x ∷ [])) pend (omega (arith, ap length t)) (whole ∙ sym (append_assoc s (x ∷ []) r)) (length-append s (x ∷ []) ∙ ap (λ (j : ℕ). j + 1) l ∙ add-one i)
      (subst (λ (y : Node). Placing (suc i) (s ++ (y ∷ [])) (pending_children p i y ++ xs)) here (turn fewer o i s xs (subst (λ (y : Node). Placing i s (y ∷ xs)) (sym here) v)))

  placed-numbered : Placing (length ns) ns [] → Numbered p ns
  unfolding node child_of
  placed-numbered v = record {
    parent_lt = v.back;
    level_up = λ n l f. (under n l f).level_next;
    ordered = order-at ns none (subst (λ (l : List Node). InOrder l) (append-nil ns) v.in-order);
    depth_first = λ n l. subst (λ (j : ℕ). (root_at ns j ≡ true) ⊎ Memᴰ (parent_at ns j) (chain ns n)) (sym (add-one n)) (v.deep (suc n) (omega arith));
    root_mask = λ n l t. (top n l t).of_roots;
    mask_root = λ m k. let r = v.all_roots m k in numbered-as (λ x. is_root x) m r.0 r.1 r.2 r.3;
    child_mask = λ n l f. (under n l f).of_children;
    mask_child = λ n l m k. let r = v.all_children n l m k in numbered-as (child_node n) m r.0 r.1 r.2 r.3;
    accepted_root = λ n l t. (top n l t).verdict;
    accepted_child = λ n l f. (under n l f).same_verdict;
    root_parent = λ n l t. (top n l t).no_parent;
  }
    where
      none : Node
      none = record { mask = 0; parent = 0; level = 0; accepted = false }

      of_number : (n : ℕ) → n < length ns → Known (length ns) (node ns n)
      of_number n l = (v.known (node ns n) (Memᴰ.append_left [] (get_or-mem ns n none l))).0

      under : (n : ℕ) → n < length ns → root_at ns n ≡ false → Under (length ns) (node ns n)
      under n l f = go (of_number n l)
        where
          go : Known (length ns) (node ns n) → Under (length ns) (node ns n)
          go (inl t) = absurd (true≢false (sym t.is-root ∙ f))
          go (inr u) = u

      top : (n : ℕ) → n < length ns → root_at ns n ≡ true → Top (node ns n)
      top n l t = go (of_number n l)
        where
          go : Known (length ns) (node ns n) → Top (node ns n)
          go (inl k) = k
          go (inr u) = absurd (true≢false (sym t ∙ u.not_root))

      -- the number of a node that passes
      numbered-as : (t : Node → Bool) (m : ℕ) (x : Node) → Memᴰ x (ns ++ []) → t x ≡ true → x.mask ≡ m → (j : ℕ) × (j < length ns) × (t (node ns j) ≡ true) × (mask_at ns j ≡ m)
      numbered-as t m x k e is =
          let r = mem-at ns none x (subst (λ (l : List Node). Memᴰ x l) (append-nil ns) k) in
          (r.0, r.1, ap t r.2 ∙ e, ap (λ (y : Node). y.mask) r.2 ∙ is)

pub numbered : (p : Policy) → (fewer : (m c : ℕ) → Memᴰ c (children p m) → ones c < ones m) → (few : (r : ℕ) → Memᴰ r (roots p) → ones r ≤ edges p)
    → (ordered-children : (m : ℕ) → Ordered (children p m)) → (ordered-roots : Ordered (roots p)) → Numbered p (forest p)
numbered p fewer few ordered-children ordered-roots =
    placed-numbered p (forest p)
    (run p (forest p) fewer ordered-children (length (planted p (suc (edges p)) 0 (pending_roots p))) 0 [] (pending_roots p) (omega arith) (forest-planted p) refl (start p (forest p) few ordered-roots))
