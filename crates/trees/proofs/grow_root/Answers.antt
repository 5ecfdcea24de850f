-- `grow_root` meets its contract. Assumes nothing.
use Prim.Native.Nat.{ℕ, ◌+◌, ◌*◌, ◌≤◌, ◌<◌}
use native.Mathlib.Omega.{arith}
use mathlib.Core.Path.{◌≡◌, refl, sym, ◌∙◌}
use mathlib.Core.List.{◌++◌}
use lib.ListN.{length, get_or, drop, length-append}
use lib.Seq.{length-take-le}
use Rattle.policy.specs.declared.Policy.{Policy}
use Rattle.trees.specs.Growing.{TreeToWrite, RootToWrite}
use Rattle.trees.proofs.Roots.{cleared-front, root-to-write, root-written}
use Rattle.trees.proofs.grow_root.Goals as goal

pub overflow_add-free : goal.overflow_add-free
overflow_add-free c = omega (arith, c.requires.1.lists.few)

pub overflow_mul-free : goal.overflow_mul-free
overflow_mul-free c = omega (arith, c.requires.1.lists.few)

pub slice_bounds-clear-end : goal.slice_bounds-clear-end
slice_bounds-clear-end c =
    let few : 2 * (length c.args.lists.now.accepting.now + length c.args.lists.now.rejecting.now) ≤ length c.args.scratch.now =
    omega (arith, c.requires.1.room, length-append c.args.lists.now.accepting.now c.args.lists.now.rejecting.now) in
    few

pub slice_bounds-clear-end-2 : goal.slice_bounds-clear-end-2
slice_bounds-clear-end-2 c =
    let few : 2 * (length c.args.lists.now.accepting.now + length c.args.lists.now.rejecting.now) ≤ length c.args.scratch.now =
    omega (arith, c.requires.1.room, length-append c.args.lists.now.accepting.now c.args.lists.now.rejecting.now) in
    sym (length-take-le (2 * (length c.args.lists.now.accepting.now + length c.args.lists.now.rejecting.now)) c.args.scratch.now (few))

pub grow-requires : goal.grow-requires
grow-requires c =
    let few : 2 * (length c.args.lists.now.accepting.now + length c.args.lists.now.rejecting.now) ≤ length c.args.scratch.now =
    omega (arith, c.requires.1.room, length-append c.args.lists.now.accepting.now c.args.lists.now.rejecting.now) in
    let cleared : let free = 2 * (length c.args.lists.now.accepting.now + length c.args.lists.now.rejecting.now) in let t = c.clear.new.t ++ drop free c.args.scratch.now in (length t ≡ length c.args.scratch.now) × ((i : ℕ) → i < free → get_or t i 0 ≡ 0) =
    cleared-front c.args.scratch.now c.clear.new.t (2 * (length c.args.lists.now.accepting.now + length c.args.lists.now.rejecting.now)) (few) c.clear.ensures in
    let to_write : (p : Policy) → let free = 2 * (length c.args.lists.now.accepting.now + length c.args.lists.now.rejecting.now) in RootToWrite p c.args.lists.now.accepting.now c.args.lists.now.rejecting.now c.args.m c.args.verdict c.args.at c.args.masks.now c.args.parents.now c.args.scratch.now → TreeToWrite p c.args.lists.now.accepting.now c.args.lists.now.rejecting.now c.args.m c.args.verdict c.places-places.result c.args.at c.args.masks.now c.args.parents.now (c.clear.new.t ++ drop free c.args.scratch.now) free =
    λ p w. let t = cleared in root-to-write w c.places-places.ensures refl t.0 t.1 in
    (c.requires.0, to_write c.requires.0 c.requires.1)

pub shape_of-masks : goal.shape_of-masks
shape_of-masks c = c.grow.auto.masks

pub shape_of-parents : goal.shape_of-parents
shape_of-parents c = c.grow.auto.parents

pub shape_of-scratch : goal.shape_of-scratch
shape_of-scratch c =
    let few : 2 * (length c.args.lists.now.accepting.now + length c.args.lists.now.rejecting.now) ≤ length c.args.scratch.now =
    omega (arith, c.requires.1.room, length-append c.args.lists.now.accepting.now c.args.lists.now.rejecting.now) in
    let cleared : let free = 2 * (length c.args.lists.now.accepting.now + length c.args.lists.now.rejecting.now) in let t = c.clear.new.t ++ drop free c.args.scratch.now in (length t ≡ length c.args.scratch.now) × ((i : ℕ) → i < free → get_or t i 0 ≡ 0) =
    cleared-front c.args.scratch.now c.clear.new.t (2 * (length c.args.lists.now.accepting.now + length c.args.lists.now.rejecting.now)) (few) c.clear.ensures in
    c.grow.auto.scratch ∙ (cleared).0

pub returns : goal.returns
returns c =
    let few : 2 * (length c.args.lists.now.accepting.now + length c.args.lists.now.rejecting.now) ≤ length c.args.scratch.now =
    omega (arith, c.requires.1.room, length-append c.args.lists.now.accepting.now c.args.lists.now.rejecting.now) in
    let cleared : let free = 2 * (length c.args.lists.now.accepting.now + length c.args.lists.now.rejecting.now) in let t = c.clear.new.t ++ drop free c.args.scratch.now in (length t ≡ length c.args.scratch.now) × ((i : ℕ) → i < free → get_or t i 0 ≡ 0) =
    cleared-front c.args.scratch.now c.clear.new.t (2 * (length c.args.lists.now.accepting.now + length c.args.lists.now.rejecting.now)) (few) c.clear.ensures in
    let to_write : (p : Policy) → let free = 2 * (length c.args.lists.now.accepting.now + length c.args.lists.now.rejecting.now) in RootToWrite p c.args.lists.now.accepting.now c.args.lists.now.rejecting.now c.args.m c.args.verdict c.args.at c.args.masks.now c.args.parents.now c.args.scratch.now → TreeToWrite p c.args.lists.now.accepting.now c.args.lists.now.rejecting.now c.args.m c.args.verdict c.places-places.result c.args.at c.args.masks.now c.args.parents.now (c.clear.new.t ++ drop free c.args.scratch.now) free =
    λ p w. let t = cleared in root-to-write w c.places-places.ensures refl t.0 t.1 in
    record {
      tree = λ p w. root-written c.places-places.ensures (c.grow.ensures.tree p (to_write p w));
      space = record { long = c.grow.auto.scratch ∙ cleared.0 };
    }
