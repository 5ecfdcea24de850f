use Prim.Native.Nat.{ℕ, ◌+◌, ◌-◌, ◌*◌, ◌≤◌, ◌<◌}
use native.Mathlib.Nat.{le_refl}
use native.Mathlib.Omega.{arith}
use mathlib.Core.Path.{◌≡◌, refl, sym, ap, ◌∙◌}
use mathlib.Core.Bool.{not, cond}
use mathlib.Core.List.{List, ◌++◌}
use lib.Count.{ones}
use lib.ListN.{length, get_or, set, length-append, length-set}
use lib.Seq.{get_or-take}
use borrow.Rule.Slice.PartMut.{put_mid, mid_len, take_put}
use Rattle.policy.specs.declared.Policy.{Policy}
use Rattle.forest.specs.Forest.{children}
use Rattle.trees.specs.Growing.{TreeToWrite}
use Rattle.trees.proofs.Growing.{ChildrenAt, children-found, children-kept, children-few, lists-few, lists-searchable, other-few, root-size, root-room, root-parents, found-count, found-small, found_at, found-fewer, row-none, row_more, to-write-is, to-write-root, to-write-child, written_none, written-copy, written-whole, written_over, written_is, written-recorded, record-kept, copy-fits, copy-masks, copy-parents}
use Rattle.trees.proofs.+grow_plant.Goals as goal

pub grow-overflow_add-result : goal.grow-overflow_add-result
grow-overflow_add-result t c = omega (arith, c.requires.1.tables.few)

pub grow-returns-then-places-at : goal.grow-returns-then-places-at
grow-returns-then-places-at t c = record { tree = λ p w. written_none w.tables c.args.m c.args.parent (omega (arith, c.if-places-at.true, root-size w.lists w.root)); kept = λ j a b. refl }

pub grow-offset_bounds-masks-at : goal.grow-offset_bounds-masks-at
grow-offset_bounds-masks-at t c = omega (arith, c.if-places-at.false, c.requires.1.tables.few)

pub grow-bounds-masks-at : goal.grow-bounds-masks-at
grow-bounds-masks-at t c = omega (arith, c.if-places-at.false, c.requires.1.tables.masks_long)

pub grow-offset_bounds-parents-at : goal.grow-offset_bounds-parents-at
grow-offset_bounds-parents-at t c = omega (arith, c.if-places-at.false, c.requires.1.tables.few)

pub grow-bounds-parents-at : goal.grow-bounds-parents-at
grow-bounds-parents-at t c = omega (arith, c.if-places-at.false, c.requires.1.tables.parents_long)

pub grow-slice_bounds-find_children-count : goal.grow-slice_bounds-find_children-count
grow-slice_bounds-find_children-count t c = let w = c.requires.1 in omega (arith, root-room w.lists w.root)

pub grow-slice_bounds-find_children-start : goal.grow-slice_bounds-find_children-start
grow-slice_bounds-find_children-start t c = let w = c.requires.1 in omega (arith, root-room w.lists w.root)

pub grow-find_children-count-requires : goal.grow-find_children-count-requires
grow-find_children-count-requires t c = let w = c.requires.1 in
    let k = mid_len c.args.free (length c.args.scratch.now) c.args.scratch.now (le_refl _) in
    let l = lists-few w.lists in
    let e = root-room w.lists w.root in record { lists = lists-searchable w.lists; places = (omega (arith, k, e), omega (arith, k, e), omega (arith, l), omega (arith, l)) }

pub grow-overflow_add-next : goal.grow-overflow_add-next
grow-overflow_add-next t c = omega (arith, c.if-places-at.false, c.requires.1.tables.few)

pub grow-loop-j-init : goal.grow-loop-j-init
grow-loop-j-init t c =
    let rest : ℕ =
    length c.args.scratch.now - c.args.free in
    let found : List ℕ =
    c.find_children-count.new.kids in
    let scratch : List ℕ =
    put_mid c.args.free (rest) c.args.scratch.now (found) in
    let enough : c.args.free + length (cond c.args.verdict c.args.lists.now.rejecting.now c.args.lists.now.accepting.now) ≤ length c.args.scratch.now =
    let w = c.requires.1 in omega (arith, root-room w.lists w.root, other-few w.lists c.args.verdict) in
    let children-there : ChildrenAt (cond c.args.verdict c.args.lists.now.rejecting.now c.args.lists.now.accepting.now) c.args.m (scratch) c.args.free c.find_children-count.result =
    let s = c.args in
    children-found s.scratch.now s.free (rest) c.find_children-count.ensures
    (omega (arith, enough, c.find_children-count.auto.kids, mid_len s.free (length s.scratch.now) s.scratch.now (le_refl _)))
    (omega (arith, enough)) in
    (λ p w. row-none c.args.at (children p c.args.m) w.tables, refl, refl, refl, children-there, λ j a b. refl)

pub grow-overflow_add-i : goal.grow-overflow_add-i
grow-overflow_add-i t c =
    let enough : c.args.free + length (cond c.args.verdict c.args.lists.now.rejecting.now c.args.lists.now.accepting.now) ≤ length c.args.scratch.now =
    let w = c.requires.1 in omega (arith, root-room w.lists w.root, other-few w.lists c.args.verdict) in
    omega (arith, enough, children-few c.loop-j.invariant.4, c.loop-j-test.true, c.well_formed)

pub grow-offset_bounds-scratch-free-in-loop-j : goal.grow-offset_bounds-scratch-free-in-loop-j
grow-offset_bounds-scratch-free-in-loop-j t c =
    let enough : c.args.free + length (cond c.args.verdict c.args.lists.now.rejecting.now c.args.lists.now.accepting.now) ≤ length c.args.scratch.now =
    let w = c.requires.1 in omega (arith, root-room w.lists w.root, other-few w.lists c.args.verdict) in
    omega (arith, enough, children-few c.loop-j.invariant.4, c.loop-j-test.true, c.well_formed)

pub grow-bounds-scratch-free : goal.grow-bounds-scratch-free
grow-bounds-scratch-free t c =
    let enough : c.args.free + length (cond c.args.verdict c.args.lists.now.rejecting.now c.args.lists.now.accepting.now) ≤ length c.args.scratch.now =
    let w = c.requires.1 in omega (arith, root-room w.lists w.root, other-few w.lists c.args.verdict) in
    omega (arith, enough, children-few c.loop-j.invariant.4, c.loop-j-test.true, c.loop-j.invariant.3, c.scratch-1.given.1)

pub grow-overflow_cast-i : goal.grow-overflow_cast-i
grow-overflow_cast-i t c = let w = c.requires.1 in omega (arith, (found-small w.lists w.root c.loop-j.invariant.4).1 c.loop-j.j c.loop-j-test.true)

pub grow-overflow_add-i-in-loop-j : goal.grow-overflow_add-i-in-loop-j
grow-overflow_add-i-in-loop-j t c = let w = c.requires.1 in let b = found-small w.lists w.root c.loop-j.invariant.4 in omega (arith, b.1 c.loop-j.j c.loop-j-test.true, b.2, c.first_other-first.ensures)

pub grow-overflow_cast-at : goal.grow-overflow_cast-at
grow-overflow_cast-at t c = omega (arith, c.if-places-at.false, c.requires.1.tables.few)

pub grow-overflow_add-free : goal.grow-overflow_add-free
grow-overflow_add-free t c =
    let enough : c.args.free + length (cond c.args.verdict c.args.lists.now.rejecting.now c.args.lists.now.accepting.now) ≤ length c.args.scratch.now =
    let w = c.requires.1 in omega (arith, root-room w.lists w.root, other-few w.lists c.args.verdict) in
    omega (arith, enough, children-few c.loop-j.invariant.4, c.well_formed)

pub grow-plant-next-requires : goal.grow-plant-next-requires
grow-plant-next-requires t c =
    let found : List ℕ =
    c.find_children-count.new.kids in
    let rest : ℕ =
    length c.args.scratch.now - c.args.free in
    let scratch : List ℕ =
    put_mid c.args.free (rest) c.args.scratch.now (found) in
    let enough : c.args.free + length (cond c.args.verdict c.args.lists.now.rejecting.now c.args.lists.now.accepting.now) ≤ length c.args.scratch.now =
    let w = c.requires.1 in omega (arith, root-room w.lists w.root, other-few w.lists c.args.verdict) in
    let front : (j : ℕ) → j < c.args.free → get_or (scratch) j 0 ≡ get_or c.args.scratch.now j 0 =
    λ j h. let s = c.args in
    sym (get_or-take s.free (scratch) j 0 h)
    ∙ ap (λ (l : List ℕ). get_or l j 0) (take_put s.free (rest) s.scratch.now (found) (omega (arith, enough)))
    ∙ get_or-take s.free s.scratch.now j 0 h in
    let Entry : Policy → Type 0 =
    λ p. let s = c.args in TreeToWrite p s.lists.now.accepting.now s.lists.now.rejecting.now s.m s.verdict s.places s.at s.masks.now s.parents.now s.scratch.now s.free in
    let Rooted : Policy → Type 0 =
    λ p. let s = c.args in
    TreeToWrite p s.lists.now.accepting.now s.lists.now.rejecting.now s.m s.verdict s.places (s.at + 1) (set s.masks.now s.at s.m) (set s.parents.now s.at s.parent) (scratch) s.free in
    let rooted : (p : Policy) → Entry p → Rooted p =
    λ p w. to-write-root w c.args.parent c.if-places-at.false c.scratch-1.given.1 (front) in
    let position : ℕ =
    c.first_other-first.result + get_or c.loop-j.scratch (c.args.free + c.loop-j.j) 0 in
    let child-at : (p : Policy) → Rooted p → (position < length (c.args.lists.now.accepting.now ++ c.args.lists.now.rejecting.now)) × (get_or (c.args.lists.now.accepting.now ++ c.args.lists.now.rejecting.now) (position) 0 ≡ get_or (children p c.args.m) c.loop-j.j 0) =
    λ p w. found_at w.lists w.root c.loop-j.invariant.4 c.loop-j-test.true c.first_other-first.result c.first_other-first.ensures in
    let child : (p : Policy) → Rooted p → let s = c.args in let at = c.loop-j in TreeToWrite p s.lists.now.accepting.now s.lists.now.rejecting.now (get_or (s.lists.now.accepting.now ++ s.lists.now.rejecting.now) (position) 0) (not s.verdict) s.places c.loop-j.next c.loop-j.masks c.loop-j.parents c.loop-j.scratch (s.free + c.find_children-count.result) =
    λ p w. to-write-child w (c.loop-j.invariant.0 p w) c.loop-j.invariant.4 c.loop-j-test.true c.first_other-first.ensures c.loop-j.invariant.3 in
    let p = c.requires.0 in
    let w = rooted p c.requires.1 in
    let at = child-at p w in (
      omega (arith, found-fewer w.lists w.root c.loop-j.invariant.4 c.loop-j-test.true position at.1, c.decreases),
      (at.0, (omega (arith, (c.loop-j.invariant.0 p w).next_is), (p, child p w))),
    )

pub grow-shape_of-masks-then-places-next : goal.grow-shape_of-masks-then-places-next
grow-shape_of-masks-then-places-next t c = c.plant-next.auto.masks ∙ c.loop-j.invariant.1 ∙ length-set c.args.masks.now c.args.at c.args.m

pub grow-shape_of-parents-then-places-next : goal.grow-shape_of-parents-then-places-next
grow-shape_of-parents-then-places-next t c = c.plant-next.auto.parents ∙ c.loop-j.invariant.2 ∙ length-set c.args.parents.now c.args.at c.args.parent

pub grow-shape_of-scratch-then-places-next : goal.grow-shape_of-scratch-then-places-next
grow-shape_of-scratch-then-places-next t c = c.plant-next.auto.scratch ∙ c.loop-j.invariant.3 ∙ c.scratch-1.given.1

pub grow-returns-then-places-next : goal.grow-returns-then-places-next
grow-returns-then-places-next t c = let found : List ℕ =
    c.find_children-count.new.kids in
    let rest : ℕ =
    length c.args.scratch.now - c.args.free in
    let scratch : List ℕ =
    put_mid c.args.free (rest) c.args.scratch.now (found) in
    let enough : c.args.free + length (cond c.args.verdict c.args.lists.now.rejecting.now c.args.lists.now.accepting.now) ≤ length c.args.scratch.now =
    let w = c.requires.1 in omega (arith, root-room w.lists w.root, other-few w.lists c.args.verdict) in
    let front : (j : ℕ) → j < c.args.free → get_or (scratch) j 0 ≡ get_or c.args.scratch.now j 0 =
    λ j h. let s = c.args in
    sym (get_or-take s.free (scratch) j 0 h)
    ∙ ap (λ (l : List ℕ). get_or l j 0) (take_put s.free (rest) s.scratch.now (found) (omega (arith, enough)))
    ∙ get_or-take s.free s.scratch.now j 0 h in
    let Entry : Policy → Type 0 =
    λ p. let s = c.args in TreeToWrite p s.lists.now.accepting.now s.lists.now.rejecting.now s.m s.verdict s.places s.at s.masks.now s.parents.now s.scratch.now s.free in
    let Rooted : Policy → Type 0 =
    λ p. let s = c.args in
    TreeToWrite p s.lists.now.accepting.now s.lists.now.rejecting.now s.m s.verdict s.places (s.at + 1) (set s.masks.now s.at s.m) (set s.parents.now s.at s.parent) (scratch) s.free in
    let rooted : (p : Policy) → Entry p → Rooted p =
    λ p w. to-write-root w c.args.parent c.if-places-at.false c.scratch-1.given.1 (front) in
    let position : ℕ =
    c.first_other-first.result + get_or c.loop-j.scratch (c.args.free + c.loop-j.j) 0 in
    let child-at : (p : Policy) → Rooted p → (position < length (c.args.lists.now.accepting.now ++ c.args.lists.now.rejecting.now)) × (get_or (c.args.lists.now.accepting.now ++ c.args.lists.now.rejecting.now) (position) 0 ≡ get_or (children p c.args.m) c.loop-j.j 0) =
    λ p w. found_at w.lists w.root c.loop-j.invariant.4 c.loop-j-test.true c.first_other-first.result c.first_other-first.ensures in
    let child : (p : Policy) → Rooted p → let s = c.args in let at = c.loop-j in TreeToWrite p s.lists.now.accepting.now s.lists.now.rejecting.now (get_or (s.lists.now.accepting.now ++ s.lists.now.rejecting.now) (position) 0) (not s.verdict) s.places at.next at.masks at.parents at.scratch (s.free + c.find_children-count.result) =
    λ p w. to-write-child w (c.loop-j.invariant.0 p w) c.loop-j.invariant.4 c.loop-j-test.true c.first_other-first.ensures c.loop-j.invariant.3 in
    let below : (p : Policy) → Rooted p → c.loop-j.j < length (children p c.args.m) =
    λ p w. omega (arith, c.loop-j-test.true, found-count w.lists w.root c.loop-j.invariant.4) in record {
      tree = λ p w₀.
          let w = rooted p w₀ in
          written_over w₀.lists w₀.root c.args.parent (c.loop-j.invariant.0 p w) (below p w) (child-at p w).1 (c.plant-next.ensures.tree p (child p w)) c.if-places-next.true;
      kept = λ j a b. c.plant-next.ensures.kept j a (omega (arith, b)) ∙ c.loop-j.invariant.5 j a b ∙ front j b;
    }

pub grow-overflow_step-j : goal.grow-overflow_step-j
grow-overflow_step-j t c =
    let enough : c.args.free + length (cond c.args.verdict c.args.lists.now.rejecting.now c.args.lists.now.accepting.now) ≤ length c.args.scratch.now =
    let w = c.requires.1 in omega (arith, root-room w.lists w.root, other-few w.lists c.args.verdict) in
    omega (arith, c.loop-j-test.true, children-few c.loop-j.invariant.4, enough, c.well_formed)

pub grow-loop-j-smaller : goal.grow-loop-j-smaller
grow-loop-j-smaller t c = omega (arith, c.loop-j-test.true)

pub grow-loop-j-preserved : goal.grow-loop-j-preserved
grow-loop-j-preserved t c =
    let found : List ℕ =
    c.find_children-count.new.kids in
    let rest : ℕ =
    length c.args.scratch.now - c.args.free in
    let scratch : List ℕ =
    put_mid c.args.free (rest) c.args.scratch.now (found) in
    let Rooted : Policy → Type 0 =
    λ p. let s = c.args in
    TreeToWrite p s.lists.now.accepting.now s.lists.now.rejecting.now s.m s.verdict s.places (s.at + 1) (set s.masks.now s.at s.m) (set s.parents.now s.at s.parent) (scratch) s.free in
    let position : ℕ =
    c.first_other-first.result + get_or c.loop-j.scratch (c.args.free + c.loop-j.j) 0 in
    let child-at : (p : Policy) → Rooted p → (position < length (c.args.lists.now.accepting.now ++ c.args.lists.now.rejecting.now)) × (get_or (c.args.lists.now.accepting.now ++ c.args.lists.now.rejecting.now) (position) 0 ≡ get_or (children p c.args.m) c.loop-j.j 0) =
    λ p w. found_at w.lists w.root c.loop-j.invariant.4 c.loop-j-test.true c.first_other-first.result c.first_other-first.ensures in
    let child : (p : Policy) → Rooted p → let s = c.args in let at = c.loop-j in TreeToWrite p s.lists.now.accepting.now s.lists.now.rejecting.now (get_or (s.lists.now.accepting.now ++ s.lists.now.rejecting.now) (position) 0) (not s.verdict) s.places at.next at.masks at.parents at.scratch (s.free + c.find_children-count.result) =
    λ p w. to-write-child w (c.loop-j.invariant.0 p w) c.loop-j.invariant.4 c.loop-j-test.true c.first_other-first.ensures c.loop-j.invariant.3 in
    let below : (p : Policy) → Rooted p → c.loop-j.j < length (children p c.args.m) =
    λ p w. omega (arith, c.loop-j-test.true, found-count w.lists w.root c.loop-j.invariant.4) in
    let free = c.requires.1.root.past_records in (
      λ p w. row_more (c.loop-j.invariant.0 p w) (below p w) (child-at p w).1 (c.plant-next.ensures.tree p (child p w)) c.if-places-next.false,
      c.plant-next.auto.masks ∙ c.loop-j.invariant.1,
      c.plant-next.auto.parents ∙ c.loop-j.invariant.2,
      c.plant-next.auto.scratch ∙ c.loop-j.invariant.3,
      children-kept c.loop-j.invariant.4 (λ j a b. c.plant-next.ensures.kept j (omega (arith, free, a)) b),
      λ j a b. c.plant-next.ensures.kept j a (omega (arith, b)) ∙ c.loop-j.invariant.5 j a b,
    )

pub grow-shape_of-masks : goal.grow-shape_of-masks
grow-shape_of-masks t c = c.loop-j.invariant.1 ∙ length-set c.args.masks.now c.args.at c.args.m

pub grow-shape_of-parents : goal.grow-shape_of-parents
grow-shape_of-parents t c = c.loop-j.invariant.2 ∙ length-set c.args.parents.now c.args.at c.args.parent

pub grow-shape_of-scratch : goal.grow-shape_of-scratch
grow-shape_of-scratch t c = c.loop-j.invariant.3 ∙ c.scratch-1.given.1

pub grow-returns : goal.grow-returns
grow-returns t c = let found : List ℕ =
    c.find_children-count.new.kids in
    let rest : ℕ =
    length c.args.scratch.now - c.args.free in
    let scratch : List ℕ =
    put_mid c.args.free (rest) c.args.scratch.now (found) in
    let enough : c.args.free + length (cond c.args.verdict c.args.lists.now.rejecting.now c.args.lists.now.accepting.now) ≤ length c.args.scratch.now =
    let w = c.requires.1 in omega (arith, root-room w.lists w.root, other-few w.lists c.args.verdict) in
    let front : (j : ℕ) → j < c.args.free → get_or (scratch) j 0 ≡ get_or c.args.scratch.now j 0 =
    λ j h. let s = c.args in
    sym (get_or-take s.free (scratch) j 0 h)
    ∙ ap (λ (l : List ℕ). get_or l j 0) (take_put s.free (rest) s.scratch.now (found) (omega (arith, enough)))
    ∙ get_or-take s.free s.scratch.now j 0 h in
    let Entry : Policy → Type 0 =
    λ p. let s = c.args in TreeToWrite p s.lists.now.accepting.now s.lists.now.rejecting.now s.m s.verdict s.places s.at s.masks.now s.parents.now s.scratch.now s.free in
    let Rooted : Policy → Type 0 =
    λ p. let s = c.args in
    TreeToWrite p s.lists.now.accepting.now s.lists.now.rejecting.now s.m s.verdict s.places (s.at + 1) (set s.masks.now s.at s.m) (set s.parents.now s.at s.parent) (scratch) s.free in
    let rooted : (p : Policy) → Entry p → Rooted p =
    λ p w. to-write-root w c.args.parent c.if-places-at.false c.scratch-1.given.1 (front) in record {
      tree = λ p w₀.
          let w = rooted p w₀ in
          written-whole w₀.lists w₀.root c.args.parent (c.loop-j.invariant.0 p w) (omega (arith, c.loop-j-test.false, found-count w.lists w.root c.loop-j.invariant.4));
      kept = λ j a b. c.loop-j.invariant.5 j a b ∙ front j b;
    }

-- `grow` and `plant` meet their contracts. The measure is twice the number of edges of the mask, and one more for `plant`. The loop's invariant: whatever policy the lists are of, the trees of the first j children are written; the positions of all children stand in the scratch, and what lies before them is as it was. Assumes nothing.

pub plant-overflow_mul-size : goal.plant-overflow_mul-size
plant-overflow_mul-size t c = omega (arith, length-append c.args.lists.now.accepting.now c.args.lists.now.rejecting.now, lists-few c.requires.tree.1.lists, c.requires.position)

pub plant-overflow_add-size : goal.plant-overflow_add-size
plant-overflow_add-size t c = omega (arith, length-append c.args.lists.now.accepting.now c.args.lists.now.rejecting.now, lists-few c.requires.tree.1.lists, c.requires.position)

pub plant-offset_bounds-scratch-i : goal.plant-offset_bounds-scratch-i
plant-offset_bounds-scratch-i t c = omega (arith, length-append c.args.lists.now.accepting.now c.args.lists.now.rejecting.now, lists-few c.requires.tree.1.lists, c.requires.position)

pub plant-bounds-scratch-i : goal.plant-bounds-scratch-i
plant-bounds-scratch-i t c = omega (arith, c.requires.position, c.requires.tree.1.root.past_records, c.requires.tree.1.root.room)

pub plant-overflow_cast-size : goal.plant-overflow_cast-size
plant-overflow_cast-size t c = omega (arith, c.slice_known-4-1.given (2 * c.args.i + 1))

pub plant-mask_at-m-requires : goal.plant-mask_at-m-requires
plant-mask_at-m-requires t c = omega (arith, c.requires.position, length-append c.args.lists.now.accepting.now c.args.lists.now.rejecting.now)

pub plant-grow-next-requires : goal.plant-grow-next-requires
plant-grow-next-requires t c =
    (omega (arith, c.decreases, ap ones c.mask_at-m.ensures), (c.requires.tree.0, to-write-is c.requires.tree.1 c.mask_at-m.ensures))

pub plant-returns-then-places-next : goal.plant-returns-then-places-next
plant-returns-then-places-next t c = record { tree = λ p w. written_is c.mask_at-m.ensures (c.grow-next.ensures.tree p (to-write-is w c.mask_at-m.ensures)); kept = c.grow-next.ensures.kept }

pub plant-record_tree-requires : goal.plant-record_tree-requires
plant-record_tree-requires t c =
    let w = c.requires.tree.1 in
    let g = c.grow-next.ensures.tree c.requires.tree.0 (to-write-is w c.mask_at-m.ensures) in
    (omega (arith, c.requires.position, w.root.past_records, w.root.room, c.grow-next.auto.scratch), omega (arith, g.next_is, w.tables.at_most), omega (arith, c.if-places-next.false, w.tables.few))

pub plant-returns-then-size-eq0 : goal.plant-returns-then-size-eq0
plant-returns-then-size-eq0 t c = record {
  tree = λ p w. written-recorded c.args.i w.tables c.requires.below (omega (arith, c.requires.position, w.root.past_records, w.root.room, c.grow-next.auto.scratch)) c.if-places-next.false
      (written_is c.mask_at-m.ensures (c.grow-next.ensures.tree p (to-write-is w c.mask_at-m.ensures))) c.record_tree.ensures;
  kept = λ j a b. ap (λ (l : List ℕ). get_or l j 0) c.record_tree.ensures ∙ record-kept c.grow-next.new.scratch c.args.i c.args.at (c.grow-next.result - c.args.at) j (length (c.args.lists.now.accepting.now ++ c.args.lists.now.rejecting.now)) c.requires.position a ∙ c.grow-next.ensures.kept j a b;
}

pub plant-overflow_add-at : goal.plant-overflow_add-at
plant-overflow_add-at t c = omega (arith, c.slice_known-4-1.given (2 * c.args.i + 1), c.requires.tree.1.tables.few, c.requires.tree.1.tables.at_most)

pub plant-overflow_add-result : goal.plant-overflow_add-result
plant-overflow_add-result t c = omega (arith, c.requires.tree.1.tables.few)

pub plant-returns-then-places-at : goal.plant-returns-then-places-at
plant-returns-then-places-at t c = record { tree = λ p w. written_none w.tables _ c.args.parent (omega (arith, c.if-places-at.true, w.tables.recorded.size_is c.args.i c.requires.position c.if-size-eq0.false)); kept = λ j a b. refl }

pub plant-overflow_mul-from : goal.plant-overflow_mul-from
plant-overflow_mul-from t c = omega (arith, length-append c.args.lists.now.accepting.now c.args.lists.now.rejecting.now, lists-few c.requires.tree.1.lists, c.requires.position)

pub plant-offset_bounds-scratch-i-2 : goal.plant-offset_bounds-scratch-i-2
plant-offset_bounds-scratch-i-2 t c = omega (arith, length-append c.args.lists.now.accepting.now c.args.lists.now.rejecting.now, lists-few c.requires.tree.1.lists, c.requires.position)

pub plant-bounds-scratch-i-2 : goal.plant-bounds-scratch-i-2
plant-bounds-scratch-i-2 t c = omega (arith, c.requires.position, c.requires.tree.1.root.past_records, c.requires.tree.1.root.room)

pub plant-overflow_cast-from : goal.plant-overflow_cast-from
plant-overflow_cast-from t c = omega (arith, c.slice_known-5-1.given (2 * c.args.i))

pub plant-copy_tree-requires : goal.plant-copy_tree-requires
plant-copy_tree-requires t c = let w = c.requires.tree.1 in
    let e = w.tables.recorded.size_is c.args.i c.requires.position c.if-size-eq0.false in
    let at = w.tables.recorded.stands c.args.i c.requires.position c.if-size-eq0.false in
    let fits = c.if-places-at.false in record { places = (omega (arith, e, at.before), omega (arith, w.tables.masks_long, fits), omega (arith, w.tables.parents_long, fits), omega (arith, c.if-size-eq0.false), omega (arith, fits, w.tables.few)); fits = copy-fits at _ c.args.places e fits w.tables.few }

pub plant-overflow_add-result-2 : goal.plant-overflow_add-result-2
plant-overflow_add-result-2 t c = omega (arith, c.if-places-at.false, c.requires.tree.1.tables.few)

pub plant-returns : goal.plant-returns
plant-returns t c = record {
  tree = λ p w.
      let e = w.tables.recorded.size_is c.args.i c.requires.position c.if-size-eq0.false in
      let at = w.tables.recorded.stands c.args.i c.requires.position c.if-size-eq0.false in
      written-copy w.tables _ c.args.parent _ e c.if-places-at.false (c.copy_tree.ensures.0 ∙ copy-masks at _ e) (c.copy_tree.ensures.1 ∙ copy-parents at _ c.args.parent e (root-parents w.lists w.root));
  kept = λ j a b. refl;
}
