-- What growing a tree rests on: the trees recorded so far stay where they stand, a copy of one is the tree in its new place, and the trees of the children, one after
-- the other, are the rest of the tree. Assumes nothing.
use Prim.Native.Nat.{ℕ, ◌+◌, ◌-◌, ◌*◌, ◌≤◌, ◌<◌, max}
use native.Mathlib.Omega.{arith}
use native.Mathlib.Decide.{ℕ_discrete}
use native.Mathlib.Nat.{suc-mul, mul-le-mul_right}
use native.Mathlib.Numerals.{add-one}
use mathlib.Core.Path.{◌≡◌, refl, sym, ap, ap₂, ◌∙◌, subst}
use mathlib.Core.Logic.{◌≢◌}
use mathlib.Core.Bool.{Bool, true, false, not, cond}
use mathlib.Core.List.{List, [], ◌∷◌, ◌++◌, map, Memᴰ}
use lib.Count.{ones, ones-le}
use lib.ListN.{length, get_or, take, drop, set, length-append, length-set, get_or-append, take-append-drop}
use lib.Seq.{sets, length-sets, get_or-append-add, get_or-set_same, get_or-set_other, take-suc, take_all, drop_at, get_or-drop, length-take-le}
use borrow.Rule.Slice.PartMut.{put_mid, post_of}
use Rattle.lists.specs.Lists.{Distinct, flat}
use Rattle.lists.proofs.Lists.{get_or-mem}
use Rattle.tables.specs.Tables.{Column, Stored}
use Rattle.tables.specs.Copies.{part, moved}
use Rattle.tables.proofs.Stores.{sets-append, sets_first, sets-head, stored-length}
use Rattle.tables.proofs.Columns.{column-sets}
use Rattle.tables.proofs.Copies.{part-sets, part_at}
use Rattle.policy.specs.declared.Policy.{Policy}
use Rattle.policy.specs.Policies.{edges}
use Rattle.graph.proofs.Cycles.{cycle-lt}
use Rattle.forest.specs.Forest.{children, levels_left}
use Rattle.forest.specs.Subtrees.{tree_masks, tree_parents, tree_size, row_masks, row_parents}
use Rattle.forest.proofs.Children.{child-fewer}
use Rattle.forest.proofs.Levels.{levels-some, levels-child}
use Rattle.forest.proofs.Subtrees.{length-parents, parents-moved, parents-few, row-none-masks, row-none-parents, row-more-masks, row-more-parents, length-row, tree-masks, tree-parents}
use Rattle.candidates.specs.Candidates.{children_in, LargerFirst, Candidates}
use Rattle.candidates.proofs.Candidates.{children-are}
use Rattle.siblings.specs.Positions.{child_positions}
use Rattle.siblings.proofs.Positions.{length-positions, positions-few, child-position}
use Rattle.trees.specs.Growing.{StandsAt, Recorded, Places, TreeRoot, TreeToWrite, TreeWritten}

-- ---- the positions of the children of x in l stand in the scratch from place `free` on, n of them
pub record ChildrenAt (l : List ℕ) (x : ℕ) (scratch : List ℕ) (free n : ℕ) : Type 0 where
  pub many : length (child_positions l x) ≡ n
  pub are : (j : ℕ) → j < n → get_or scratch (free + j) 0 ≡ get_or (child_positions l x) j 0

-- found in the part of the scratch that is free, which is put back
pub children-found : {l : List ℕ} {x : ℕ} {ks₀ ks : List ℕ} {n : ℕ} (scratch : List ℕ) (free k : ℕ) → Stored ks₀ ks 0 n (child_positions l x) → length l ≤ length ks → free ≤ length scratch → ChildrenAt l x (put_mid free k scratch ks) free n
children-found {l} {x} {ks₀} {ks} {n} scratch free k f h le = record { many = omega (arith, f.next_is); are = λ j b. here j b ∙ ap (λ (t : List ℕ). get_or t j 0) f.now_is ∙ stored.each j (omega (arith, f.next_is)) }
  where
    here : (j : ℕ) → j < n → get_or (put_mid free k scratch ks) (free + j) 0 ≡ get_or ks j 0
    here j b =
        sym (get_or-drop free (put_mid free k scratch ks) j 0) ∙ ap (λ (t : List ℕ). get_or t j 0) (drop_at (take free scratch) (ks ++ post_of free k scratch) free (length-take-le free scratch le))
        ∙ get_or-append ks (post_of free k scratch) 0 j (omega (arith, f.next_is, positions-few l x))

    stored : Column (child_positions l x) (sets ks₀ 0 (child_positions l x))
    stored = column-sets ks₀ (child_positions l x) (omega (arith, positions-few l x, stored-length f))

module _ {l : List ℕ} {x : ℕ} {s : List ℕ} {free n : ℕ} (f : ChildrenAt l x s free n) where
  -- they stay where the scratch does
  pub children-kept : {s' : List ℕ} → ((j : ℕ) → free ≤ j → j < free + n → get_or s' j 0 ≡ get_or s j 0) → ChildrenAt l x s' free n
  children-kept e = record { many = f.many; are = λ j b. e (free + j) (omega arith) (omega arith) ∙ f.are j b }

  pub children-few : n ≤ length l
  children-few = omega (arith, f.many, positions-few l x)

  children-at : {j : ℕ} → j < n → (get_or s (free + j) 0 < length l) × (get_or l (get_or s (free + j) 0) 0 ≡ get_or (children_in l x) j 0)
  children-at {j} b = rw (f.are j b) (child-position l x j (omega (arith, f.many)))

-- ---- the lists
module _ {p : Policy} {a r : List ℕ} (g : Candidates p a r) where
  pub lists-few : length a + length r ≤ 4096
  lists-few = g.few

  pub lists-searchable : (Distinct a × LargerFirst a) × (Distinct r × LargerFirst r)
  lists-searchable = (g.ordered true, g.ordered false)

  pub other-few : (v : Bool) → length (cond v r a) ≤ max (length a) (length r)
  other-few true = omega arith
  other-few false = omega arith

  -- its positions in the two lists, one after the other
  other_at : (v : Bool) (k : ℕ) → k < length (cond v r a) → (cond v (length a) 0 + k < length (a ++ r)) × (get_or (a ++ r) (cond v (length a) 0 + k) 0 ≡ get_or (cond v r a) k 0)
  other_at true k h = (omega (arith, length-append a r), get_or-append-add a r k 0)
  other_at false k h = let e : 0 + k ≡ k = omega arith in (omega (arith, length-append a r), ap (λ (i : ℕ). get_or (a ++ r) i 0) e ∙ get_or-append a r 0 k h)

  few_edges : (v : Bool) (m : ℕ) → Memᴰ m (cond v a r) → ones m ≤ edges p
  few_edges v m k = ones-le (edges p) m (cycle-lt p m (g.are v m k).0)

  -- the other list, by the other verdict
  other-list : (v : Bool) → cond v r a ≡ cond (not v) a r
  other-list true = refl
  other-list false = refl

  -- ---- a node and its children
  module _ {m : ℕ} {v : Bool} {s₀ : List ℕ} {free : ℕ} (t : TreeRoot p a r m v s₀ free) where
    pub root-masks : tree_masks p m ≡ m ∷ row_masks p (children p m)
    root-masks = tree-masks p m (few_edges v m t.candidate)

    pub root-parents : (q n : ℕ) → tree_parents p q n m ≡ q ∷ row_parents p n (n + 1) (children p m)
    root-parents q n = tree-parents p q n m (few_edges v m t.candidate)

    pub root-size : tree_size p m ≡ 1 + length (row_masks p (children p m))
    unfolding tree_size
    root-size = ap length root-masks ∙ omega arith

    -- there is room for the children of one node
    pub root-room : free + max (length a) (length r) ≤ length s₀
    root-room =
        let k : 1 ≤ levels_left p m = levels-some p m (g.are v m t.candidate).0 in
        omega (arith, mul-le-mul_right (max (length a) (length r)) k, t.room)

    -- the children, by the positions found
    module _ {s : List ℕ} {count : ℕ} (f : ChildrenAt (cond v r a) m s free count) where
      children-list : children_in (cond v r a) m ≡ children p m
      children-list = children-are g v m t.candidate

      pub found-count : length (children p m) ≡ count
      found-count = sym (ap length children-list) ∙ sym (length-positions (cond v r a) m) ∙ f.many

      pub found-few : count ≤ max (length a) (length r)
      found-few = omega (arith, children-few f, other-few v)

      pub found-small : (count ≤ 4096) × ((j : ℕ) → j < count → get_or s (free + j) 0 < 4096) × (cond v (length a) 0 ≤ 4096)
      found-small = (omega (arith, found-few, lists-few), λ j h. omega (arith, (children-at f h).0, other-few v, lists-few), first v)
        where
          first : (b : Bool) → cond b (length a) 0 ≤ 4096
          first true = omega (arith, lists-few)
          first false = omega arith

      -- the child at place j
      module _ {j : ℕ} (h : j < count) where
        child-mem : Memᴰ (get_or (children p m) j 0) (children p m)
        child-mem = get_or-mem (children p m) j 0 (omega (arith, found-count))

        pub found_at : (first : ℕ) → first ≡ cond v (length a) 0 → (first + get_or s (free + j) 0 < length (a ++ r)) × (get_or (a ++ r) (first + get_or s (free + j) 0) 0 ≡ get_or (children p m) j 0)
        found_at first e =
            let q = children-at f h in
            let o = other_at v (get_or s (free + j) 0) q.0 in
            rw e (o.0, o.1 ∙ q.1 ∙ ap (λ (l : List ℕ). get_or l j 0) children-list)

        pub found-fewer : (i : ℕ) → get_or (a ++ r) i 0 ≡ get_or (children p m) j 0 → ones (get_or (a ++ r) i 0) < ones m
        found-fewer i e = subst (λ (x : ℕ). ones x < ones m) (sym e) (child-fewer p m (get_or (children p m) j 0) child-mem)

        found-root : (i : ℕ) → get_or (a ++ r) i 0 ≡ get_or (children p m) j 0 → length s ≡ length s₀ → TreeRoot p a r (get_or (a ++ r) i 0) (not v) s (free + count)
        found-root i e l = record {
          candidate = subst (λ (x : ℕ). Memᴰ x (cond (not v) a r)) (sym e) (subst (Memᴰ (get_or (children p m) j 0)) (other-list v) (g.closed v m (get_or (children p m) j 0) t.candidate child-mem));
          past_records = omega (arith, t.past_records);
          room = subst (λ (x : ℕ). free + count + levels_left p x * max (length a) (length r) ≤ length s) (sym e)
              (omega (arith, mul-le-mul_right (max (length a) (length r)) (levels-child p m (get_or (children p m) j 0) child-mem), suc-mul (levels_left p (get_or (children p m) j 0)) (max (length a) (length r)), t.room, found-few));
        }

-- ---- the trees recorded
module _ {p : Policy} {masks parents : List ℕ} {end m k : ℕ} (s : StandsAt p masks parents end m k) where
  -- stores past them leave them where they stand
  stands-still : (n end' : ℕ) (xs ys : List ℕ) → end ≤ n → end ≤ end' → StandsAt p (sets masks n xs) (sets parents n ys) end' m k
  stands-still n end' xs ys h l = record {
    before = omega (arith, s.before);
    masks_are = part-sets (tree_size p m) k xs masks n (omega (arith, s.before)) ∙ s.masks_are;
    parent = s.parent;
    parent_before = s.parent_before;
    parents_are = part-sets (tree_size p m) k ys parents n (omega (arith, s.before)) ∙ s.parents_are;
  }

module _ {p : Policy} {list masks parents scratch : List ℕ} {n : ℕ} (s : Recorded p list masks parents scratch n) where
  recorded-still : (at end : ℕ) (xs ys : List ℕ) {masks' parents' : List ℕ} → masks' ≡ sets masks at xs → parents' ≡ sets parents at ys → n ≤ at → n ≤ end → Recorded p list masks' parents' scratch end
  recorded-still at end xs ys {masks'} {parents'} em ep h l = record {
    size_is = s.size_is;
    stands = λ i b z. subst (λ (t : List ℕ). StandsAt p t parents' end (get_or list i 0) (get_or scratch (2 * i) 0)) (sym em)
        (subst (λ (t : List ℕ). StandsAt p (sets masks at xs) t end (get_or list i 0) (get_or scratch (2 * i) 0)) (sym ep) (stands-still (s.stands i b z) at end xs ys h l));
  }

  -- the records stay where the scratch does
  recorded-kept : {scratch' : List ℕ} → ((j : ℕ) → j < 2 * length list → get_or scratch' j 0 ≡ get_or scratch j 0) → Recorded p list masks parents scratch' n
  recorded-kept {scratch'} e = record {
    size_is = λ i b z. let q = e (2 * i + 1) (omega arith) in q ∙ s.size_is i b (λ y. z (q ∙ y));
    stands = λ i b z. subst (λ (k : ℕ). StandsAt p masks parents n (get_or list i 0) k) (sym (e (2 * i) (omega arith))) (s.stands i b (λ y. z (e (2 * i + 1) (omega arith) ∙ y)));
  }

-- a tree just written is recorded
pub recorded_more : {p : Policy} {list : List ℕ} (i : ℕ) {places q n next : ℕ} {masks₀ parents₀ masks parents scratch : List ℕ} → TreeWritten p list places (get_or list i 0) q n next masks₀ parents₀ masks parents scratch
    → next ≤ places → places ≤ length masks₀ → places ≤ length parents₀ → q < n → 2 * i + 1 < length scratch → Recorded p list masks parents (set (set scratch (2 * i) n) (2 * i + 1) (next - n)) next
unfolding tree_size
recorded_more {p} {list} i {places} {q} {n} {next} {masks₀} {parents₀} {masks} {parents} {scratch} w fits lm lp before h = record {
  size_is = λ k b z. size_of k b z (ℕ_discrete k i);
  stands = λ k b z. stands_at k b z (ℕ_discrete k i);
}
  where
    recs : List ℕ
    recs = set (set scratch (2 * i) n) (2 * i + 1) (next - n)

    size : tree_size p (get_or list i 0) ≡ next - n
    size = omega (arith, w.next_is)

    number-here : {k : ℕ} → k ≡ i → get_or recs (2 * k) 0 ≡ n
    number-here {k} d =
        let e : 2 * k ≡ 2 * i = omega arith in
        ap (λ (x : ℕ). get_or recs x 0) e ∙ get_or-set_other (set scratch (2 * i) n) (2 * i + 1) (2 * i) (next - n) 0 (λ z. omega arith) ∙ get_or-set_same scratch (2 * i) n 0 (omega arith)

    size-here : {k : ℕ} → k ≡ i → get_or recs (2 * k + 1) 0 ≡ next - n
    size-here {k} d =
        let e : 2 * k + 1 ≡ 2 * i + 1 = omega arith in
        ap (λ (x : ℕ). get_or recs x 0) e ∙ get_or-set_same (set scratch (2 * i) n) (2 * i + 1) (next - n) 0 (omega (arith, length-set scratch (2 * i) n))

    there : (x : ℕ) → x ≢ 2 * i → x ≢ 2 * i + 1 → get_or recs x 0 ≡ get_or scratch x 0
    there x a b = get_or-set_other (set scratch (2 * i) n) (2 * i + 1) x (next - n) 0 b ∙ get_or-set_other scratch (2 * i) x n 0 a

    number-there : {k : ℕ} → k ≢ i → get_or recs (2 * k) 0 ≡ get_or scratch (2 * k) 0
    number-there {k} d = there (2 * k) (λ z. d (omega arith)) (λ z. omega arith)

    size-there : {k : ℕ} → k ≢ i → get_or recs (2 * k + 1) 0 ≡ get_or scratch (2 * k + 1) 0
    size-there {k} d = there (2 * k + 1) (λ z. omega arith) (λ z. d (omega arith))

    written : StandsAt p masks parents next (get_or list i 0) n
    written = record {
      before = omega (arith, size, w.next_is);
      masks_are = ap (part (tree_size p (get_or list i 0)) n) (w.masks_are fits) ∙ part_at (tree_masks p (get_or list i 0)) masks₀ n (omega (arith, size, w.next_is));
      parent = q;
      parent_before = before;
      parents_are = ap (part (tree_size p (get_or list i 0)) n) (w.parents_are fits)
          ∙ subst (λ (l : ℕ). part l n (sets parents₀ n (tree_parents p q n (get_or list i 0))) ≡ tree_parents p q n (get_or list i 0)) (length-parents p q n (get_or list i 0))
          (part_at (tree_parents p q n (get_or list i 0)) parents₀ n (omega (arith, length-parents p q n (get_or list i 0), size, w.next_is)));
    }

    size_of : (k : ℕ) → k < length list → get_or recs (2 * k + 1) 0 ≢ 0 → Dec (k ≡ i) → get_or recs (2 * k + 1) 0 ≡ tree_size p (get_or list k 0)
    size_of k b z (yes d) = size-here d ∙ sym size ∙ ap (λ (x : ℕ). tree_size p (get_or list x 0)) (sym d)
    size_of k b z (no d) = size-there d ∙ (w.recorded fits).size_is k b (λ y. z (size-there d ∙ y))

    stands_at : (k : ℕ) → k < length list → get_or recs (2 * k + 1) 0 ≢ 0 → Dec (k ≡ i) → StandsAt p masks parents next (get_or list k 0) (get_or recs (2 * k) 0)
    stands_at k b z (yes d) =
        subst (λ (x : ℕ). StandsAt p masks parents next x (get_or recs (2 * k) 0)) (ap (λ (x : ℕ). get_or list x 0) (sym d)) (subst (λ (x : ℕ). StandsAt p masks parents next (get_or list i 0) x) (sym (number-here d)) written)
    stands_at k b z (no d) = subst (λ (x : ℕ). StandsAt p masks parents next (get_or list k 0) x) (sym (number-there d)) ((w.recorded fits).stands k b (λ y. z (size-there d ∙ y)))

-- ---- a copy of a tree
module _ {p : Policy} {masks parents : List ℕ} {n m k : ℕ} (s : StandsAt p masks parents n m k) where
  -- its parents can be moved
  pub copy-fits : (size places : ℕ) → size ≡ tree_size p m → n + size ≤ places → places ≤ 65535 → (x : ℕ) → Memᴰ x (part size k parents) → x + (n - k) < 65536
  copy-fits size places e h few x z =
      omega (arith, s.before, parents-few p s.parent k m x s.parent_before (subst (λ (l : List ℕ). Memᴰ x l) (ap (λ (w : ℕ). part w k parents) e ∙ s.parents_are) z))

  pub copy-masks : (size : ℕ) → size ≡ tree_size p m → sets masks n (part size k masks) ≡ sets masks n (tree_masks p m)
  copy-masks size e = ap (sets masks n) (ap (λ (w : ℕ). part w k masks) e ∙ s.masks_are)

  pub copy-parents : (size q : ℕ) → size ≡ tree_size p m → ((q n : ℕ) → tree_parents p q n m ≡ q ∷ row_parents p n (n + 1) (children p m))
      → set (sets parents n (moved (n - k) (part size k parents))) n q ≡ sets parents n (tree_parents p q n m)
  unfolding moved
  copy-parents size q e root =
      let d : k + (n - k) ≡ n = omega (arith, s.before) in
      let there : moved (n - k) (part size k parents) ≡ (s.parent + (n - k)) ∷ row_parents p n (n + 1) (children p m) =
      ap (moved (n - k)) (ap (λ (w : ℕ). part w k parents) e ∙ s.parents_are) ∙ sym (parents-moved p (n - k) s.parent k m)
      ∙ ap (λ (w : ℕ). tree_parents p (s.parent + (n - k)) w m) d ∙ root (s.parent + (n - k)) n in
      ap (λ (l : List ℕ). set (sets parents n l) n q) there ∙ sets-head (s.parent + (n - k)) q (row_parents p n (n + 1) (children p m)) parents n ∙ ap (sets parents n) (sym (root q n))

-- ---- what growing gives
module _ {p : Policy} {list masks parents scratch : List ℕ} {places n : ℕ} (tables : Places p list masks parents scratch places n) (m q : ℕ) where
  -- it does not fit
  pub written_none : {masks' parents' scratch' : List ℕ} → places < n + tree_size p m → TreeWritten p list places m q n (places + 1) masks parents masks' parents' scratch'
  written_none h = record {
    next_is = omega arith;
    masks_are = λ l. absurd (omega arith);
    parents_are = λ l. absurd (omega arith);
    recorded = λ l. absurd (omega arith);
  }

  -- it is copied
  pub written-copy : {masks' parents' : List ℕ} (size : ℕ) → size ≡ tree_size p m → n + size ≤ places → masks' ≡ sets masks n (tree_masks p m) → parents' ≡ sets parents n (tree_parents p q n m)
      → TreeWritten p list places m q n (n + size) masks parents masks' parents' scratch
  written-copy size e h em ep = record {
    next_is = omega (arith, e);
    masks_are = λ _. em;
    parents_are = λ _. ep;
    recorded = λ _. recorded-still tables.recorded n (n + size) (tree_masks p m) (tree_parents p q n m) em ep (omega arith) (omega arith);
  }

-- the first of some trees are not more than all
row-part : (p : Policy) (j : ℕ) (cs : List ℕ) → length (row_masks p (take j cs)) ≤ length (row_masks p cs)
unfolding row_masks
row-part p j cs = omega (arith, joined (take j cs) (drop j cs), ap (λ (l : List ℕ). length (flat (map (tree_masks p) l))) (take-append-drop j cs))
  where
    joined : (xs ys : List ℕ) → length (flat (map (tree_masks p) (xs ++ ys))) ≡ length (flat (map (tree_masks p) xs)) + length (flat (map (tree_masks p) ys))
    joined [] ys = omega arith
    joined (x ∷ xs) ys = length-append (tree_masks p x) (flat (map (tree_masks p) (xs ++ ys))) ∙ omega (arith, joined xs ys, length-append (tree_masks p x) (flat (map (tree_masks p) xs)))

-- ---- the trees of the first j of some siblings are written, from number n on
pub record RowWritten (p : Policy) (list : List ℕ) (places q n : ℕ) (cs masks₀ parents₀ masks parents scratch : List ℕ) (next j : ℕ) : Type 0 where
  pub at_most : j ≤ length cs
  pub next_is : next ≡ n + length (row_masks p (take j cs))
  pub masks_are : masks ≡ sets masks₀ n (row_masks p (take j cs))
  pub parents_are : parents ≡ sets parents₀ n (row_parents p q n (take j cs))
  pub tables : Places p list masks parents scratch places next

pub row-none : {p : Policy} {list masks parents scratch : List ℕ} {places n : ℕ} (q : ℕ) (cs : List ℕ) → Places p list masks parents scratch places n → RowWritten p list places q n cs masks parents masks parents scratch n 0
row-none {p} {list} {masks} {parents} {scratch} {places} {n} q cs r = record {
  at_most = omega arith;
  next_is = omega (arith, ap length (row-none-masks p));
  masks_are = sym (ap (sets masks n) (row-none-masks p));
  parents_are = sym (ap (sets parents n) (row-none-parents p q n));
  tables = r;
}

module _ {p : Policy} {list : List ℕ} {places q n : ℕ} {cs masks₀ parents₀ masks parents scratch : List ℕ} {next j : ℕ} (v : RowWritten p list places q n cs masks₀ parents₀ masks parents scratch next j) where
  pub row-long : (length masks ≡ length masks₀) × (length parents ≡ length parents₀)
  row-long = (ap length v.masks_are ∙ length-sets masks₀ n (row_masks p (take j cs)), ap length v.parents_are ∙ length-sets parents₀ n (row_parents p q n (take j cs)))

  one_more : j < length cs → take (j + 1) cs ≡ take j cs ++ (get_or cs j 0 ∷ [])
  one_more h = ap (λ (i : ℕ). take i cs) (add-one j) ∙ take-suc cs j 0 h

  module _ {c next' : ℕ} {masks' parents' scratch' : List ℕ} (h : j < length cs) (e : c ≡ get_or cs j 0) (w : TreeWritten p list places c q next next' masks parents masks' parents' scratch') where
    more-masks : row_masks p (take (j + 1) cs) ≡ row_masks p (take j cs) ++ tree_masks p c
    more-masks = ap (row_masks p) (one_more h) ∙ row-more-masks p (take j cs) (get_or cs j 0) ∙ ap (λ (x : ℕ). row_masks p (take j cs) ++ tree_masks p x) (sym e)

    more-parents : row_parents p q n (take (j + 1) cs) ≡ row_parents p q n (take j cs) ++ tree_parents p q next c
    more-parents =
        ap (row_parents p q n) (one_more h) ∙ row-more-parents p q n (take j cs) (get_or cs j 0) ∙ ap₂ (λ (k x : ℕ). row_parents p q n (take j cs) ++ tree_parents p q k x) (sym v.next_is) (sym e)

    more-size : length (row_masks p (take (j + 1) cs)) ≡ length (row_masks p (take j cs)) + tree_size p c
    unfolding tree_size
    more-size = ap length more-masks ∙ length-append (row_masks p (take j cs)) (tree_masks p c)

    pub row_more : next' ≤ places → RowWritten p list places q n cs masks₀ parents₀ masks' parents' scratch' next' (j + 1)
    row_more l = record {
      at_most = omega arith;
      next_is = omega (arith, v.next_is, w.next_is, more-size);
      masks_are = w.masks_are l ∙ ap₂ (λ (t : List ℕ) (k : ℕ). sets t k (tree_masks p c)) v.masks_are v.next_is ∙ sym (sets-append (row_masks p (take j cs)) (tree_masks p c) masks₀ n) ∙ ap (sets masks₀ n) (sym more-masks);
      parents_are = w.parents_are l
          ∙ ap₂ (λ (t : List ℕ) (k : ℕ). sets t k (tree_parents p q next c)) v.parents_are (v.next_is ∙ ap (λ (k : ℕ). n + k) (sym (length-row p q n (take j cs))))
          ∙ sym (sets-append (row_parents p q n (take j cs)) (tree_parents p q next c) parents₀ n) ∙ ap (sets parents₀ n) (sym more-parents);
      tables = record {
        few = v.tables.few;
        at_most = l;
        masks_long = omega (arith, v.tables.masks_long, ap length (w.masks_are l), length-sets masks next (tree_masks p c));
        parents_long = omega (arith, v.tables.parents_long, ap length (w.parents_are l), length-sets parents next (tree_parents p q next c));
        recorded = w.recorded l;
      };
    }

    -- one tree too many
    pub row-over : places < next' → (next' ≡ places + 1) × (places < n + length (row_masks p cs))
    row-over l = (omega (arith, w.next_is), omega (arith, w.next_is, v.next_is, more-size, row-part p (j + 1) cs))

-- ---- a tree to be written
module _ {p : Policy} {a r : List ℕ} {m : ℕ} {verdict : Bool} {places n : ℕ} {masks₀ parents₀ scratch₀ : List ℕ} {free : ℕ} (w : TreeToWrite p a r m verdict places n masks₀ parents₀ scratch₀ free) where
  pub to-write-is : {m' : ℕ} → m' ≡ m → TreeToWrite p a r m' verdict places n masks₀ parents₀ scratch₀ free
  to-write-is {m'} e = subst (λ (x : ℕ). TreeToWrite p a r x verdict places n masks₀ parents₀ scratch₀ free) (sym e) w

  -- its root is written, and the positions of the children are found in the part of the scratch that was free
  pub to-write-root : {scratch : List ℕ} (q : ℕ) → n < places → length scratch ≡ length scratch₀ → ((j : ℕ) → j < free → get_or scratch j 0 ≡ get_or scratch₀ j 0)
      → TreeToWrite p a r m verdict places (n + 1) (set masks₀ n m) (set parents₀ n q) scratch free
  to-write-root q h l e = record {
    lists = w.lists;
    tables = record {
      few = w.tables.few;
      at_most = omega arith;
      masks_long = omega (arith, w.tables.masks_long, length-set masks₀ n m);
      parents_long = omega (arith, w.tables.parents_long, length-set parents₀ n q);
      recorded = recorded-kept (recorded-still w.tables.recorded n (n + 1) (m ∷ []) (q ∷ []) refl refl (omega arith) (omega arith)) (λ j b. e j (omega (arith, w.root.past_records)));
    };
    root = record { candidate = w.root.candidate; past_records = w.root.past_records; room = omega (arith, w.root.room) };
  }

  -- the trees of the first j children are written: the next one
  pub to-write-child : {q n₁ next j count first : ℕ} {masks parents scratch : List ℕ} → RowWritten p (a ++ r) places q n₁ (children p m) masks₀ parents₀ masks parents scratch next j
      → ChildrenAt (cond verdict r a) m scratch free count → j < count → first ≡ cond verdict (length a) 0 → length scratch ≡ length scratch₀
      → TreeToWrite p a r (get_or (a ++ r) (first + get_or scratch (free + j) 0) 0) (not verdict) places next masks parents scratch (free + count)
  to-write-child {j = j} {first = first} {scratch = scratch} v f h e l = record {
    lists = w.lists;
    tables = v.tables;
    root = found-root w.lists w.root f h (first + get_or scratch (free + j) 0) (found_at w.lists w.root f h first e).1 l;
  }

-- ---- a root and the trees of its children
module _ {p : Policy} {a r : List ℕ} {m : ℕ} {verdict : Bool} {scratch₀ : List ℕ} {free : ℕ} (g : Candidates p a r) (t : TreeRoot p a r m verdict scratch₀ free) where
  module _ {list masks₀ parents₀ : List ℕ} {places n next j : ℕ} (q : ℕ) {masks parents scratch : List ℕ} (v : RowWritten p list places n (n + 1) (children p m) (set masks₀ n m) (set parents₀ n q) masks parents scratch next j) where
    -- and all of them
    pub written-whole : length (children p m) ≤ j → TreeWritten p list places m q n next masks₀ parents₀ masks parents scratch
    written-whole h =
        let all : take j (children p m) ≡ children p m = take_all j (children p m) h in
        record {
          next_is = omega (arith, v.next_is, ap (λ (l : List ℕ). length (row_masks p l)) all, root-size g t, v.tables.at_most);
          masks_are = λ _. v.masks_are ∙ ap (λ (l : List ℕ). sets (set masks₀ n m) (n + 1) (row_masks p l)) all ∙ sets_first m (row_masks p (children p m)) masks₀ n ∙ ap (sets masks₀ n) (sym (root-masks g t));
          parents_are = λ _. v.parents_are ∙ ap (λ (l : List ℕ). sets (set parents₀ n q) (n + 1) (row_parents p n (n + 1) l)) all ∙ sets_first q (row_parents p n (n + 1) (children p m)) parents₀ n
              ∙ ap (sets parents₀ n) (sym (root-parents g t q n));
          recorded = λ _. v.tables.recorded;
        }

    -- one of them does not fit
    pub written_over : {c next' : ℕ} {masks' parents' scratch' : List ℕ} → j < length (children p m) → c ≡ get_or (children p m) j 0 → TreeWritten p list places c n next next' masks parents masks' parents' scratch' → places < next'
        → TreeWritten p list places m q n next' masks₀ parents₀ masks' parents' scratch'
    written_over h e w l = let o = row-over v h e w l in record {
      next_is = omega (arith, o.0, o.1, root-size g t);
      masks_are = λ k. absurd (omega arith);
      parents_are = λ k. absurd (omega arith);
      recorded = λ k. absurd (omega arith);
    }

-- ---- the tree of the mask at position i
pub written_is : {p : Policy} {list : List ℕ} {places m m' q n next : ℕ} {masks₀ parents₀ masks parents scratch : List ℕ} → m ≡ m'
    → TreeWritten p list places m q n next masks₀ parents₀ masks parents scratch → TreeWritten p list places m' q n next masks₀ parents₀ masks parents scratch
written_is {p} {list} {places} {m} {m'} {q} {n} {next} {masks₀} {parents₀} {masks} {parents} {scratch} e w = subst (λ (x : ℕ). TreeWritten p list places x q n next masks₀ parents₀ masks parents scratch) e w

-- written for the first time, and recorded
pub written-recorded : {p : Policy} {list : List ℕ} (i : ℕ) {places q n next : ℕ} {masks₀ parents₀ masks parents scratch scratch₀ scratch' : List ℕ} → Places p list masks₀ parents₀ scratch₀ places n → q < n → 2 * i + 1 < length scratch
    → next ≤ places → TreeWritten p list places (get_or list i 0) q n next masks₀ parents₀ masks parents scratch → scratch' ≡ set (set scratch (2 * i) n) (2 * i + 1) (next - n)
    → TreeWritten p list places (get_or list i 0) q n next masks₀ parents₀ masks parents scratch'
written-recorded {p} {list} i {places} {q} {n} {next} {masks₀} {parents₀} {masks} {parents} tables before h fits w e = record {
  next_is = w.next_is;
  masks_are = w.masks_are;
  parents_are = w.parents_are;
  recorded = λ l. subst (λ (t : List ℕ). Recorded p list masks parents t next) (sym e) (recorded_more i w fits tables.masks_long tables.parents_long before h);
}

-- a record lies before the places that are kept
pub record-kept : (scratch : List ℕ) (i x y j n : ℕ) → i < n → 2 * n ≤ j → get_or (set (set scratch (2 * i) x) (2 * i + 1) y) j 0 ≡ get_or scratch j 0
record-kept scratch i x y j n b h = get_or-set_other (set scratch (2 * i) x) (2 * i + 1) j y 0 (λ z. omega arith) ∙ get_or-set_other scratch (2 * i) j x 0 (λ z. omega arith)
