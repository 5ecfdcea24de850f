-- Numbering as if priorities began at 0, from the front, each child after its parent, with the greatest height of the trees; and what that shows of where they begin.
-- Assumes nothing.
use Prim.Native.Nat.{ℕ, zero, suc, ◌+◌, ◌-◌, ◌*◌, ◌%◌, ◌≤◌, ◌<◌, max}
use native.Mathlib.Omega.{arith}
use native.Mathlib.Decide.{dec_lt}
use native.Mathlib.Numerals.{add-one}
use mathlib.Core.Path.{◌≡◌, refl, sym, ap, ap₂, ◌∙◌, subst}
use mathlib.Core.Logic.{◌≢◌}
use mathlib.Core.Bool.{Bool, true, false, ◌||◌, cond}
use mathlib.Core.List.{List}
use lib.Dec.{eqb}
use lib.ListN.{length, get_or, take, set}
use lib.Seq.{sets, take-suc, take_all, length-take-le}
use Rattle.lists.specs.Lists.{any, greatest}
use Rattle.lists.proofs.Bools.{or_left, or_right}
use Rattle.lists.proofs.AnyAll.{any_snoc}
use Rattle.lists.proofs.Extremes.{greatest-none, greatest-more}
use Rattle.tables.specs.Tables.{padded}
use Rattle.tables.specs.Copies.{part}
use Rattle.tables.proofs.Tables.{length-padded}
use Rattle.tables.proofs.Copies.{Copying, copying-none, copying-long, copying-all}
use Rattle.tables.proofs.Columns.{copying-next, copying-at, sets_over}
use Rattle.policy.specs.declared.Policy.{Policy}
use Rattle.policy.specs.Policies.{legal}
use Rattle.policy.specs.Policies as Policies
use Rattle.forest.specs.Forest.{Node, forest, node, from_zero}
use Rattle.forest.specs.Laws.{parent_at, root_at}
use Rattle.forest.specs.Numbering.{plain_priority}
use Rattle.forest.proofs.Columns.{masks_long, parents_long, mask-at}
use Rattle.decomposition.specs.FromZero.{plain_priorities, some_accepting}
use Rattle.decomposition.specs.NodeTables.{NodeColumns}
use Rattle.decomposition.proofs.Plain.{plain-root, plain-child, length-plain, plain_at, numbers, plain-small, parent_is, is-root, is-child, parent_before, same-tree}
use Rattle.decomposition.proofs.Parts.{part_none, tree-first, tree-more}
use Rattle.decomposition.proofs.Heights.{node_heights, length-heights, heights-at, plain-height, greatest-height, one-verdict}

-- ---- some root of the first n nodes is accepting
module _ (p : Policy) where
  unfoldable pub seen : ℕ → Bool
  seen n = any (λ (x : Node). x.accepted) (take n (forest p))

  seen_more : (n : ℕ) → n < length (forest p) → seen (n + 1) ≡ seen n || (node (forest p) n).accepted
  unfolding seen node
  seen_more n l =
      let none : Node = record { mask = 0; parent = 0; level = 0; accepted = false } in
      ap (any (λ (x : Node). x.accepted)) (ap (λ (k : ℕ). take k (forest p)) (add-one n) ∙ take-suc (forest p) n none l) ∙ any_snoc (λ (x : Node). x.accepted) (take n (forest p)) (get_or (forest p) n none)

  seen_here : (n : ℕ) → n < length (forest p) → (node (forest p) n).accepted ≡ true → seen (n + 1) ≡ true
  seen_here n l t = seen_more n l ∙ or_right (seen n) (node (forest p) n).accepted t

  seen-on : (n : ℕ) → n < length (forest p) → seen n ≡ true → seen (n + 1) ≡ true
  seen-on n l t = seen_more n l ∙ or_left (seen n) (node (forest p) n).accepted t

  seen_all : (n : ℕ) → length (forest p) ≤ n → seen n ≡ some_accepting p
  unfolding seen some_accepting
  seen_all n h = ap (any (λ (x : Node). x.accepted)) (take_all n (forest p) h)

-- ---- the columns are long enough
pub columns-long : {p : Policy} {masks parents : List ℕ} {n : ℕ} → NodeColumns p masks parents n → (n ≤ length masks) × (n ≤ length parents)
columns-long {p} w = (omega (arith, w.all, masks_long p w.masks_are), omega (arith, w.all, parents_long p w.parents_are))

-- ---- the first n nodes are numbered
abbrev pub top_from : ℕ → ℕ → List ℕ → ℕ
top_from first n r = greatest (part (n - first) first r)

pub record FromZero (p : Policy) (r₀ r : List ℕ) (n most first root : ℕ) : Type 0 where
  pub are : Copying (plain_priorities p) r₀ 0 r n
  pub first_le : first ≤ n
  pub most_is : max most (2 * top_from first n r + (3 - 3 * root)) ≡ greatest (take n (node_heights p))
  pub top_few : top_from first n r ≤ 100
  -- the trees at hand have the verdict of the last node's root
  pub root_is : (m : ℕ) → n ≡ suc m → root ≡ cond (node (forest p) m).accepted 0 1
  pub root_few : root ≤ 1
  -- they are all so far, or trees of both verdicts were met
  pub one : first ≡ 0 → (m : ℕ) → m < n → cond (node (forest p) m).accepted 0 1 ≡ root
  pub both : first ≢ 0 → seen p n ≡ true

pub from-zero-none : (p : Policy) (r : List ℕ) → FromZero p r r 0 0 0 1
from-zero-none p r = record {
  are = copying-none (plain_priorities p) r 0;
  first_le = omega arith;
  most_is = ap (λ (k : ℕ). max 0 (2 * k + (3 - 3 * 1))) (sym (part_none r 0)) ∙ greatest-none (node_heights p);
  top_few = omega (arith, part_none r 0);
  root_is = λ m q. absurd (omega (arith, q));
  root_few = omega arith;
  one = λ z m l. absurd (omega (arith, l));
  both = λ h. absurd (h refl);
}

pub from-zero-le : {p : Policy} {masks parents r₀ r : List ℕ} {count n most first root : ℕ} → NodeColumns p masks parents count → FromZero p r₀ r n most first root → n ≤ count
from-zero-le {p} w v = omega (arith, v.are.at_most, length-plain p, w.all)

module _ {p : Policy} (lawful : legal p ≡ true) {masks parents r₀ r : List ℕ} {count n most first root : ℕ} (w : NodeColumns p masks parents count) (v : FromZero p r₀ r n most first root) (room : count ≤ length r₀) where
  -- ---- all are
  module _ (h : count ≤ n) where
    pub from-zero-all : r₀ ≡ padded (length r₀) (take count r₀) → r ≡ padded (length r₀) (plain_priorities p)
    from-zero-all e =
        let long = length-take-le count r₀ room in
        copying-all v.are (omega (arith, length-plain p, w.all)) ∙ ap (λ (t : List ℕ). sets t 0 (plain_priorities p)) e ∙ sets_over (length r₀) (take count r₀) (plain_priorities p) (omega (arith, long, length-plain p, w.all)) (omega (arith, long))

    -- with roots of one verdict
    pub begins-alike : first ≡ 0 → {b : Bool} → b ≡ eqb root 0 → (b ≡ from_zero p) × (b ≡ some_accepting p)
    begins-alike z {b} e = one-verdict p lawful b (λ m l. go (node (forest p) m).accepted (v.one z m (omega (arith, l, w.all))))
      where
        go : (a : Bool) → cond a 0 1 ≡ root → a ≡ b
        go true q = sym (e ∙ ap (λ (k : ℕ). eqb k 0) (sym q))
        go false q = sym (e ∙ ap (λ (k : ℕ). eqb k 0) (sym q))

    -- with roots of both
    pub begins-by-height : {height : ℕ} → first ≢ 0 → height ≡ max most (2 * top_from first n r + (3 - 3 * root)) → (eqb (height % 2) 1 ≡ from_zero p) × (true ≡ some_accepting p)
    begins-by-height z e = (
      ap (λ (k : ℕ). eqb (k % 2) 1) (e ∙ v.most_is ∙ ap greatest (take_all n (node_heights p) (omega (arith, length-heights p, w.all)))) ∙ greatest-height p lawful,
      sym (v.both z) ∙ seen_all p n (omega (arith, w.all)),
    )

  -- ---- one more is
  module _ (l : n < count) where
    here : n < length (forest p)
    here = omega (arith, w.all)

    few : length (forest p) ≤ 65535
    few = omega (arith, w.all, w.few)

    pub from-zero-long : n < length r
    from-zero-long = omega (arith, copying-long v.are)

    more : (x : ℕ) {most' first' root' : ℕ} → x ≡ plain_priority (node (forest p) n) → root' ≡ cond (node (forest p) n).accepted 0 1 → first' ≤ n
        → max most' (2 * top_from first' (n + 1) (set r n x) + (3 - 3 * root')) ≡ max (max most (2 * top_from first n r + (3 - 3 * root))) (2 * x + (3 - 3 * root')) → top_from first' (n + 1) (set r n x) ≤ 100
        → (first' ≡ 0 → (m : ℕ) → m < n → cond (node (forest p) m).accepted 0 1 ≡ root') → (first' ≢ 0 → seen p (n + 1) ≡ true) → FromZero p r₀ (set r n x) (n + 1) most' first' root'
    more x {most'} {first'} {root'} e el ef em et eo eb = record {
      are = copying-next v.are (omega (arith, length-plain p, w.all)) x (e ∙ sym (plain_at p n here));
      first_le = omega (arith, ef);
      most_is = em ∙ ap₂ max v.most_is (plain-height (node (forest p) n) x (3 - 3 * root') e (lift (node (forest p) n).accepted el) ∙ sym (heights-at p n here)) ∙ sym (greatest-more (node_heights p) n (omega (arith, length-heights p, here)));
      top_few = et;
      root_is = λ m q. let same : n ≡ m = omega (arith, q) in el ∙ ap (λ (i : ℕ). cond (node (forest p) i).accepted 0 1) same;
      root_few = at_most (node (forest p) n).accepted el;
      one = λ z m q. last z m q (dec_lt m n);
      both = eb;
    }
      where
        lift : (b : Bool) → root' ≡ cond b 0 1 → 3 - 3 * root' ≡ cond b 3 0
        lift true q = omega (arith, q)
        lift false q = omega (arith, q)

        at_most : (b : Bool) → root' ≡ cond b 0 1 → root' ≤ 1
        at_most true q = omega (arith, q)
        at_most false q = omega (arith, q)

        last : first' ≡ 0 → (m : ℕ) → m < n + 1 → Dec (m < n) → cond (node (forest p) m).accepted 0 1 ≡ root'
        last z m q (yes k) = eo z m k
        last z m q (no k) = let same : m ≡ n = omega (arith, q, k) in ap (λ (i : ℕ). cond (node (forest p) i).accepted 0 1) same ∙ sym el

    -- its root has the verdict of those at hand
    alike : (x : ℕ) → x ≡ plain_priority (node (forest p) n) → root ≡ cond (node (forest p) n).accepted 0 1 → FromZero p r₀ (set r n x) (n + 1) most first root
    alike x e el =
        let top = tree-more r first n x v.first_le from-zero-long in
        more x e el v.first_le (omega (arith, top)) (omega (arith, top, v.top_few, e, plain-small p lawful n here)) v.one (λ h. seen-on p n here (v.both h))

    -- it is a root of the other verdict, or the first that is accepting
    other : (x : ℕ) {most' first' root' : ℕ} → x ≡ plain_priority (node (forest p) n) → root' ≡ cond (node (forest p) n).accepted 0 1 → root' ≢ root → most' ≡ max most (2 * top_from first n r + (3 - 3 * root)) → first' ≡ n
        → FromZero p r₀ (set r n x) (n + 1) most' first' root'
    other x {most'} {first'} {root'} e el u em ef =
        let top : top_from first' (n + 1) (set r n x) ≡ x = ap (λ (k : ℕ). top_from k (n + 1) (set r n x)) ef ∙ tree-first r n x from-zero-long in
        more x e el (omega (arith, ef)) (omega (arith, top, em)) (omega (arith, top, e, plain-small p lawful n here)) (λ z m k. absurd (omega (arith, z, ef, k))) (λ h. met n refl (λ z. h (ef ∙ z)))
      where
        met : (k : ℕ) → n ≡ k → n ≢ 0 → seen p (n + 1) ≡ true
        met zero d h = absurd (h d)
        met (suc m) d h = go (node (forest p) n).accepted (node (forest p) m).accepted refl refl
          where
            go : (a b : Bool) → (node (forest p) n).accepted ≡ a → (node (forest p) m).accepted ≡ b → seen p (n + 1) ≡ true
            go true b t q = seen_here p n here t
            go false true t q = seen-on p n here (subst (λ (i : ℕ). seen p i ≡ true) (let s : m + 1 ≡ n = omega (arith, d) in s) (seen_here p m (omega (arith, d, here)) q))
            go false false t q = absurd (u (el ∙ ap (λ (b : Bool). cond b 0 1) (t ∙ sym q) ∙ sym (v.root_is m d)))

    -- a root
    module _ (q : get_or parents n 0 ≡ 65535) {y : ℕ} (e : y ≡ cond (Policies.accepting p (get_or masks n 0)) 0 1) where
      is-a-root : root_at (forest p) n ≡ true
      is-a-root = is-root p lawful few w.parents_are n here q

      verdict : y ≡ cond (node (forest p) n).accepted 0 1
      verdict = e ∙ ap (λ (b : Bool). cond b 0 1) (ap (Policies.accepting p) (mask-at p n here w.masks_are) ∙ sym ((numbers p lawful).accepted_root n here is-a-root))

      plain : {x : ℕ} → x ≡ y → x ≡ plain_priority (node (forest p) n)
      plain ex = ex ∙ verdict ∙ sym (plain-root (node (forest p) n) is-a-root)

      pub from-zero-other : {x most' first' root' : ℕ} → x ≡ y → y ≢ root → most' ≡ max most (2 * top_from first n r + (3 - 3 * root)) → first' ≡ n → root' ≡ y → FromZero p r₀ (set r n x) (n + 1) most' first' root'
      from-zero-other {x} ex u em ef el = other x (plain ex) (el ∙ verdict) (λ z. u (sym el ∙ z)) em ef

      pub from-zero-alike : {x most' first' root' : ℕ} → x ≡ y → y ≡ root → most' ≡ most → first' ≡ first → root' ≡ root → FromZero p r₀ (set r n x) (n + 1) most' first' root'
      from-zero-alike {x} ex u em ef el = rw (em, ef, el) (alike x (plain ex) (sym u ∙ verdict))

    -- a child: its parent's priority is there, and small enough to count on
    module _ (q : get_or parents n 0 ≢ 65535) where
      child : root_at (forest p) n ≡ false
      child = is-child p lawful few w.parents_are n here q

      before : get_or parents n 0 < n
      before = parent_before p lawful few w.parents_are n here q

      up : get_or parents n 0 ≡ parent_at (forest p) n
      up = parent_is p lawful few w.parents_are n here

      plain-before : get_or r (get_or parents n 0) 0 ≡ plain_priority (node (forest p) (parent_at (forest p) n))
      plain-before =
          copying-at v.are (omega (arith, length-plain p, w.all)) (get_or parents n 0) before ∙ plain_at p (get_or parents n 0) (omega (arith, before, here))
          ∙ ap (λ (i : ℕ). plain_priority (node (forest p) i)) up

      pub from-zero-parent : (get_or parents n 0 < length r) × (get_or r (get_or parents n 0) 0 < 100)
      from-zero-parent = (omega (arith, before, from-zero-long), omega (arith, plain-before, plain-small p lawful (parent_at (forest p) n) (omega (arith, up, before, here))))

      pub from-zero-child : {x most' first' root' : ℕ} → x ≡ get_or r (get_or parents n 0) 0 + 1 → most' ≡ most → first' ≡ first → root' ≡ root → FromZero p r₀ (set r n x) (n + 1) most' first' root'
      from-zero-child {x} e em ef el = rw (em, ef, el) (alike x is (same n refl before))
        where
          is : x ≡ plain_priority (node (forest p) n)
          is =
              e ∙ ap (λ (k : ℕ). k + 1) plain-before
              ∙ sym (plain-child (node (forest p) (parent_at (forest p) n)) (node (forest p) n) ((numbers p lawful).level_up n here child) ((numbers p lawful).accepted_child n here child))

          same : (k : ℕ) → n ≡ k → get_or parents n 0 < k → root ≡ cond (node (forest p) n).accepted 0 1
          same zero d h = absurd (omega (arith, h))
          same (suc m) d h = v.root_is m d ∙ ap (λ (b : Bool). cond b 0 1) (sym (same-tree p lawful few w.parents_are n here q m d))

-- ---- the whole column
module _ {p : Policy} {masks parents t : List ℕ} (r₀ : List ℕ) {count : ℕ} (w : NodeColumns p masks parents count) (room : count ≤ length r₀) (e : t ≡ padded (length r₀) (plain_priorities p)) where
  pub plain-long : length t ≡ length r₀
  plain-long = ap length e ∙ length-padded (length r₀) (plain_priorities p) (omega (arith, length-plain p, w.all))

  pub unraised-table : (count ≤ length t) × (t ≡ padded (length t) (plain_priorities p))
  unraised-table = (omega (arith, plain-long), e ∙ ap (λ (k : ℕ). padded k (plain_priorities p)) (sym plain-long))
