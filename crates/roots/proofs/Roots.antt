-- What growing the trees of all roots rests on: a tree is grown from the candidates that are listed, the search for the next root finds the roots in their order, and their
-- trees, one after the other, are the forest. Assumes nothing.
use Prim.Native.Nat.{ℕ, ◌+◌, ◌*◌, ◌≤◌, ◌<◌, min, max}
use native.Mathlib.Omega.{arith}
use native.Mathlib.Decide.{dec_lt}
use native.Mathlib.Nat.{mul-le-mul_left, mul-le-mul_right}
use mathlib.Core.Path.{◌≡◌, refl, sym, ap, ap₂, ◌∙◌, subst}
use mathlib.Core.Logic.{◌≢◌}
use mathlib.Core.Bool.{Bool, true, false, cond}
use mathlib.Core.List.{List, [], Memᴰ}
use lib.ListN.{length, get_or, take, length-append, get_or-eq_default}
use lib.Seq.{sets, take_all, length-take-le, length-sets}
use borrow.Author.Tests.{le-leb, lt-leb}
use Rattle.lists.specs.Lists.{Distinct}
use Rattle.lists.proofs.Lists.{get_or-mem}
use Rattle.tables.specs.Tables.{zeros, places}
use Rattle.tables.proofs.Tables.{zeros-same}
use Rattle.policy.specs.declared.Policy.{Policy}
use Rattle.policy.specs.Policies.{in_family, accepting, legal}
use Rattle.policy.specs.ByColour.{table_colours}
use Rattle.policy.proofs.Laws.{accepting-is}
use Rattle.graph.proofs.Cycles.{cycle-some}
use Rattle.forest.specs.Forest.{forest, in_order, roots, forest_fits}
use Rattle.forest.specs.Subtrees.{tree_size, row_masks, row_parents}
use Rattle.forest.proofs.Levels.{most-levels-few}
use Rattle.forest.proofs.Children.{root-cycle, root_few, ordered-roots}
use Rattle.forest.proofs.Columns.{length-masks}
use Rattle.forest.proofs.Subtrees.{tree-masks, forest-masks, forest-parents}
use Rattle.candidates.specs.Candidates.{candidates, root_candidates, Candidates}
use Rattle.candidates.proofs.Candidates.{candidates-are, root-listed}
use Rattle.candidates.proofs.Roots.{roots-are, root-candidates-cycle, root-candidates-distinct}
use Rattle.siblings.specs.NextRoot.{next_in}
use Rattle.siblings.proofs.NextRoot.{next-first, next-at}
use Rattle.listing.specs.declared.Counts.{Counts}
use Rattle.listing.specs.Listing.{PartsOf, Outcome}
use Rattle.listing.proofs.Appending.{hue-is}
use Rattle.trees.specs.Growing.{Places, TreeWritten, RootToWrite, RootWritten}
use Rattle.trees.proofs.Growing.{RowWritten, row-none, row_more, row-over, row-long}
use Rattle.std.specs.Prelude.{Ok, Err}
use Rattle.roots.specs.declared.Progress.{Progress}
use Rattle.roots.specs.Roots.{Space, RootsWritten, ForestWritten, TreesGrown}

-- ---- the tree of one root
pub verdict_is : {p : Policy} {states letters : ℕ} {heads out into by : List ℕ} → PartsOf p states letters heads out into by → (family : List Bool) → family ≡ p.family → (m used : ℕ) → used ≡ table_colours by m
    → get_or family used false ≡ accepting p m
unfolding in_family
verdict_is {p} t family e m used u = ap₂ (λ (l : List Bool) (c : ℕ). get_or l c false) e (u ∙ ap (λ (h : ℕ → ℕ). h m) (hue-is t)) ∙ sym (accepting-is p m)

pub outcome-is : {p : Policy} {m : ℕ} {a r : List ℕ} {w b : Bool} {k : Counts} → w ≡ b → Outcome p m a r w k → Outcome p m a r b k
outcome-is {p} {m} {a} {r} {w} {b} {k} e o = subst (λ (x : Bool). Outcome p m a r x k) e o

module _ {p : Policy} (lawful : legal p ≡ true) {m : ℕ} (root : Memᴰ m (roots p)) {accepting₁ rejecting₁ : List ℕ} {k : Counts} (o : Outcome p m accepting₁ rejecting₁ true k) where
  listed : Candidates p (take k.accepting accepting₁) (take k.rejecting rejecting₁)
  listed =
      subst (λ (l : List ℕ). Candidates p l (take k.rejecting rejecting₁)) (sym (o.accepting_are refl))
      (subst (Candidates p (candidates p m true)) (sym (o.rejecting_are refl)) (candidates-are p lawful m root))

  pub root-to-write : {accepting₀ accepted₀ rejecting₀ rejected₀ scratch masks parents : List ℕ} {n : ℕ} → Space accepting₀ accepted₀ rejecting₀ rejected₀ scratch
      → length accepting₁ ≡ length accepting₀ → length rejecting₁ ≡ length rejecting₀ → length parents ≡ length masks → n ≤ places masks → (v : Bool) → v ≡ accepting p m
      → RootToWrite p (take k.accepting accepting₁) (take k.rejecting rejecting₁) m v n masks parents scratch
  root-to-write {accepting₀} {scratch = scratch} s ea er l h v e = record {
    lists = listed;
    candidate = subst (λ (t : List ℕ). Memᴰ m (cond v t (take k.rejecting rejecting₁))) (sym (o.accepting_are refl))
        (subst (λ (t : List ℕ). Memᴰ m (cond v (candidates p m true) t)) (sym (o.rejecting_are refl)) (root-listed p lawful m root v e));
    one_length = l;
    at_most = h;
    room =
        let x = length (take k.accepting accepting₁) in
        let y = length (take k.rejecting rejecting₁) in
        let a : x ≤ length accepting₀ = omega (arith, length-take-le k.accepting accepting₁ o.accepting_long, o.accepting_long) in
        let b : y ≤ length accepting₀ = omega (arith, length-take-le k.rejecting rejecting₁ o.rejecting_long, o.rejecting_long, s.rejecting_long) in
        let c : max x y ≤ length accepting₀ = omega arith in
        omega (arith, length-append (take k.accepting accepting₁) (take k.rejecting rejecting₁), listed.few, s.scratch_long, mul-le-mul_right (max x y) (most-levels-few p lawful), mul-le-mul_left 9 c);
  }

-- ---- the trees of the first roots
roots-row : {p : Policy} {masks₀ parents₀ masks parents : List ℕ} {next after : ℕ} (v : RootsWritten p masks₀ parents₀ masks parents next after) → RowWritten p [] (places masks₀) 65535 0 (roots p) masks₀ parents₀ masks parents [] next v.count
unfolding places
roots-row {p} {masks₀} {parents₀} {masks} {parents} v = record {
  at_most = v.at_most;
  next_is = omega (arith, v.next_is);
  masks_are = v.masks_are;
  parents_are = v.parents_are;
  tables = record {
    few = omega arith;
    at_most = v.fits;
    masks_long = omega (arith, ap length v.masks_are, length-sets masks₀ 0 (row_masks p (take v.count (roots p))));
    parents_long = omega (arith, ap length v.parents_are, length-sets parents₀ 0 (row_parents p 65535 0 (take v.count (roots p))), v.one_length);
    recorded = record { size_is = λ i b z. absurd (omega arith); stands = λ i b z. absurd (omega arith) };
  };
}

-- none yet
pub roots-none : (p : Policy) (masks parents : List ℕ) → length parents ≡ length masks → RootsWritten p masks parents masks parents 0 0
unfolding places
roots-none p masks parents l =
    let r : RowWritten p [] (places masks) 65535 0 (roots p) masks parents masks parents [] 0 0 = row-none 65535 (roots p) start in record {
      one_length = l;
      count = 0;
      at_most = r.at_most;
      next_is = omega (arith, r.next_is);
      fits = omega arith;
      masks_are = r.masks_are;
      parents_are = r.parents_are;
      search = next-first (roots p);
    }
  where
    start : Places p [] masks parents [] (places masks) 0
    start = record {
      few = omega arith;
      at_most = omega arith;
      masks_long = omega arith;
      parents_long = omega arith;
      recorded = record { size_is = λ i b z. absurd (omega arith); stands = λ i b z. absurd (omega arith) };
    }

module _ {p : Policy} (lawful : legal p ≡ true) {rs : List ℕ} (er : rs ≡ root_candidates p) {masks₀ parents₀ masks parents : List ℕ} {next after m : ℕ} (v : RootsWritten p masks₀ parents₀ masks parents next after) (em : m ≡ next_in after (in_order rs)) where
  root-some : (x : ℕ) → Memᴰ x (roots p) → x ≢ 0
  root-some x k = cycle-some p x (root-cycle p x k)

  root_is : m ≡ get_or (roots p) v.count 0
  root_is = em ∙ ap (λ (l : List ℕ). next_in after (in_order l)) er ∙ ap (next_in after) (sym (roots-are p lawful)) ∙ v.search

  root_below : m ≢ 0 → v.count < length (roots p)
  root_below z = go (dec_lt v.count (length (roots p)))
    where
      go : Dec (v.count < length (roots p)) → v.count < length (roots p)
      go (yes l) = l
      go (no n) = absurd (z (root_is ∙ get_or-eq_default (roots p) 0 (omega arith)))

  -- the next root
  pub root-mem : m ≢ 0 → Memᴰ m (roots p)
  root-mem z = subst (λ (x : ℕ). Memᴰ x (roots p)) (sym root_is) (get_or-mem (roots p) v.count 0 (root_below z))

  module _ {next' : ℕ} {masks' parents' : List ℕ} (z : m ≢ 0) (w : RootWritten p m next next' masks parents masks' parents') where
    -- its tree, in tables as long as those at the beginning
    tree : TreeWritten p [] (places masks₀) m 65535 next next' masks parents masks' parents' []
    unfolding places
    tree = subst (λ (k : ℕ). TreeWritten p [] (min k 65535) m 65535 next next' masks parents masks' parents' []) (row-long (roots-row v)).0 w

    pub roots-more : next' ≤ places masks₀ → RootsWritten p masks₀ parents₀ masks' parents' next' m
    roots-more l =
        let r = row_more (roots-row v) (root_below z) root_is tree l in record {
          one_length = v.one_length;
          count = v.count + 1;
          at_most = r.at_most;
          next_is = omega (arith, r.next_is);
          fits = l;
          masks_are = r.masks_are;
          parents_are = r.parents_are;
          search = subst (λ (x : ℕ). next_in x (roots p) ≡ get_or (roots p) (v.count + 1) 0) (sym root_is)
              (next-at (roots p) (ordered-roots p) v.count (root_below z) (root-some (get_or (roots p) v.count 0) (get_or-mem (roots p) v.count 0 (root_below z))));
        }

    -- a tree has a node
    pub roots-grow : next' ≤ places masks₀ → next < next'
    unfolding tree_size
    roots-grow l = omega (arith, tree.next_is, ap length (tree-masks p m (root_few p m (root-mem z))))

    -- one tree too many: the tables, as long as they were, are cleared
    pub roots-over : places masks₀ < next' → (masks₁ parents₁ : List ℕ) {masks₂ parents₂ : List ℕ} → length masks₁ ≡ length masks₀ → length parents₁ ≡ length parents₀ → masks₂ ≡ zeros masks₁ → parents₂ ≡ zeros parents₁
        → ForestWritten p masks₀ parents₀ masks₂ parents₂ next'
    unfolding forest_fits places
    roots-over l masks₁ parents₁ lm lp em' ep =
        let o = row-over (roots-row v) (root_below z) root_is tree l in
        let many : min (length masks₀) 65535 < length (forest p) = omega (arith, o.1, ap length (forest-masks p), length-masks p) in
        record {
          count_is = omega (arith, o.0);
          masks_are = rw (lt-leb (length (forest p)) (min (length masks₀) 65535) many) (em' ∙ zeros-same masks₁ masks₀ lm);
          parents_are = rw (lt-leb (length (forest p)) (min (length masks₀) 65535) many) (ep ∙ zeros-same parents₁ parents₀ lp);
        }

  -- there are no more
  pub roots-all : m ≡ 0 → ForestWritten p masks₀ parents₀ masks parents next
  unfolding forest_fits places
  roots-all z =
      let all : take v.count (roots p) ≡ roots p = take_all v.count (roots p) none_left in
      let many : next ≡ length (forest p) = omega (arith, v.next_is, ap (λ (l : List ℕ). length (row_masks p l)) all, ap length (forest-masks p), length-masks p) in
      let fits : length (forest p) ≤ min (length masks₀) 65535 = omega (arith, v.fits) in
      record {
        count_is = omega arith;
        masks_are = rw (le-leb (length (forest p)) (min (length masks₀) 65535) fits) (v.masks_are ∙ ap (λ (l : List ℕ). sets masks₀ 0 (row_masks p l)) all ∙ ap (sets masks₀ 0) (sym (forest-masks p)));
        parents_are = rw (le-leb (length (forest p)) (min (length masks₀) 65535) fits) (v.parents_are ∙ ap (λ (l : List ℕ). sets parents₀ 0 (row_parents p 65535 0 l)) all ∙ ap (sets parents₀ 0) (sym (forest-parents p)));
      }
    where
      none_left : length (roots p) ≤ v.count
      none_left = go (dec_lt v.count (length (roots p)))
        where
          go : Dec (v.count < length (roots p)) → length (roots p) ≤ v.count
          go (yes l) = absurd (root-some (get_or (roots p) v.count 0) (get_or-mem (roots p) v.count 0 l) (sym root_is ∙ z))
          go (no n) = omega arith

-- tables keep their length
pub roots-long : {p : Policy} {masks₀ parents₀ masks parents : List ℕ} {next after : ℕ} → RootsWritten p masks₀ parents₀ masks parents next after → (length masks ≡ length masks₀) × (length parents ≡ length parents₀)
roots-long v = row-long (roots-row v)

-- the list that is searched
pub roots-searched : (p : Policy) → legal p ≡ true → {l : List ℕ} → l ≡ root_candidates p → Distinct l × ((x : ℕ) → Memᴰ x l → x ≢ 0)
roots-searched p lawful {l} e = rw e (root-candidates-distinct p lawful, λ x k. cycle-some p x (root-candidates-cycle p lawful x k))

-- ---- the same, of tables and space as long
pub places-still : (masks₀ masks : List ℕ) {n : ℕ} → length masks ≡ length masks₀ → n ≤ places masks₀ → n ≤ places masks
unfolding places
places-still masks₀ masks e h = omega arith

pub roots-still : {p : Policy} {masks₀ parents₀ masks parents masks' parents' : List ℕ} {next after : ℕ} → RootsWritten p masks₀ parents₀ masks parents next after → masks' ≡ masks → parents' ≡ parents
    → RootsWritten p masks₀ parents₀ masks' parents' next after
roots-still {p} {masks₀} {parents₀} {next = next} {after = after} v em ep = rw (em, ep) v

pub space-still : {a ah r rh s a' ah' r' rh' s' : List ℕ} → Space a ah r rh s → length a' ≡ length a → length ah' ≡ length ah → length r' ≡ length r → length rh' ≡ length rh → length s' ≡ length s → Space a' ah' r' rh' s'
space-still q ea eah er erh es = record {
  some = omega (arith, q.some);
  accepted_long = eah ∙ q.accepted_long ∙ sym ea;
  rejecting_long = er ∙ q.rejecting_long ∙ sym ea;
  rejected_long = erh ∙ q.rejected_long ∙ sym ea;
  scratch_long = omega (arith, q.scratch_long);
}

-- the places, counted in the tables as they were handed on
module _ {p : Policy} {masks₀ parents₀ masks parents : List ℕ} {next after k n : ℕ} (v : RootsWritten p masks₀ parents₀ masks parents next after) (e : k ≡ min (length masks) 65535) where
  pub over : k < n → places masks₀ < n
  unfolding places
  over h = omega (arith, (roots-long v).0)

  pub under : n ≤ k → n ≤ places masks₀
  unfolding places
  under h = omega (arith, (roots-long v).0)

-- ---- space
-- lists of n places, and k places of scratch
pub space-of : (n k : ℕ) {a ah r rh s : List ℕ} → length a ≡ n → length ah ≡ n → length r ≡ n → length rh ≡ n → length s ≡ k → 1 ≤ n → 2 * min (2 * n) 4096 + 9 * n ≤ k → Space a ah r rh s
space-of n k ea eah er erh es h g = record {
  some = omega arith;
  accepted_long = eah ∙ sym ea;
  rejecting_long = er ∙ sym ea;
  rejected_long = erh ∙ sym ea;
  scratch_long = omega arith;
}

-- space that is not enough has fewer places
pub short : {n : ℕ} → (4096 ≤ n → ⊥) → n < 4096
short {n} h = go (dec_lt n 4096)
  where
    go : Dec (n < 4096) → n < 4096
    go (yes l) = l
    go (no l) = absurd (h (omega arith))

-- the answer where all trees are written, or one does not fit; and where the space does no further
module _ {p : Policy} {places : ℕ} {masks₀ parents₀ masks parents : List ℕ} where
  pub grown-all : {next : ℕ} → ForestWritten p masks₀ parents₀ masks parents next → TreesGrown p places masks₀ parents₀ masks parents (Ok next)
  grown-all {next} w = record {
    finished = λ count e. let same : next ≡ count = cc in subst (λ (n : ℕ). ForestWritten p masks₀ parents₀ masks parents n) same w;
    unfinished = λ s e. absurd (cc);
    enough = λ _ s e. cc;
  }

  pub grown-part : {t : Progress} → RootsWritten p masks₀ parents₀ masks parents t.next t.after → (4096 ≤ places → ⊥) → TreesGrown p places masks₀ parents₀ masks parents (Err t)
  grown-part {t} w few = record {
    finished = λ count e. absurd (cc);
    unfinished = λ s e. let same : t ≡ s = cc in subst (λ (s : Progress). RootsWritten p masks₀ parents₀ masks parents s.next s.after) same w;
    enough = λ l _ _. few l;
  }
