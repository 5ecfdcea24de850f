use Prim.Native.Nat.{ℕ, ◌+◌, ◌-◌, ◌*◌, ◌<◌, max}
use native.Mathlib.Nat.{le_antisymm}
use mathlib.Core.Path.{◌≡◌, refl, ap, ◌∙◌}
use mathlib.Core.Logic.{◌≢◌}
use lib.ListN.{length, get_or}
use Rattle.tables.proofs.Copies.{copying-long}
use Rattle.decomposition.proofs.FromZero.{columns-long, from-zero-le, top_from, from-zero-none, from-zero-long, from-zero-other, from-zero-alike, from-zero-parent, from-zero-child, from-zero-all, begins-alike, begins-by-height}
use native.Mathlib.Omega.{arith}
use Rattle.decomposition.proofs.number_from_zero.Goals as goal
use Rattle.decomposition.proofs.number_from_zero.Goals.{then-parent+then-priority-root, then-parent+else-priority-root, else-parent}

pub loop-n-init : goal.loop-n-init
loop-n-init c = from-zero-none c.args.g.now.policy.now c.args.node_priorities.now

pub offset_bounds-parents-n : goal.offset_bounds-parents-n
offset_bounds-parents-n c = omega (arith, c.loop-n-test.true, c.requires.nodes.few)

pub bounds-parents-n : goal.bounds-parents-n
bounds-parents-n c = omega (arith, c.loop-n-test.true, (columns-long c.requires.nodes).1)

pub offset_bounds-masks-n : goal.offset_bounds-masks-n
offset_bounds-masks-n c = omega (arith, c.loop-n-test.true, c.requires.nodes.few)

pub bounds-masks-n : goal.bounds-masks-n
bounds-masks-n c = omega (arith, c.loop-n-test.true, (columns-long c.requires.nodes).0)

pub greatest_in-requires : goal.greatest_in-requires
greatest_in-requires c =
    let written : c.loop-n.n < length c.loop-n.node_priorities =
    from-zero-long c.args.g.now.lawful c.requires.nodes c.loop-n.invariant c.requires.cleared.0 c.loop-n-test.true in
    (c.loop-n.invariant.first_le, omega (arith, written))

pub height-requires : goal.height-requires
height-requires c = let v = c.loop-n.invariant in (omega (arith, c.greatest_in.ensures, v.top_few), v.root_few)

pub overflow_cast-priority : goal.overflow_cast-priority
overflow_cast-priority c =
    let parent-known : get_or c.args.parents.now c.loop-n.n 0 ≢ 65535 → (get_or c.args.parents.now c.loop-n.n 0 < length c.loop-n.node_priorities) × (get_or c.loop-n.node_priorities (get_or c.args.parents.now c.loop-n.n 0) 0 < 100) =
    λ q. from-zero-parent c.args.g.now.lawful c.requires.nodes c.loop-n.invariant c.requires.cleared.0 c.loop-n-test.true q in
    omega (arith, (parent-known c.if-parent.false).0, copying-long c.loop-n.invariant.are)

pub bounds-node_priorities-parent : goal.bounds-node_priorities-parent
bounds-node_priorities-parent c =
    let parent-known : get_or c.args.parents.now c.loop-n.n 0 ≢ 65535 → (get_or c.args.parents.now c.loop-n.n 0 < length c.loop-n.node_priorities) × (get_or c.loop-n.node_priorities (get_or c.args.parents.now c.loop-n.n 0) 0 < 100) =
    λ q. from-zero-parent c.args.g.now.lawful c.requires.nodes c.loop-n.invariant c.requires.cleared.0 c.loop-n-test.true q in
    (parent-known c.if-parent.false).0

pub overflow_add-priority : goal.overflow_add-priority
overflow_add-priority c =
    let parent-known : get_or c.args.parents.now c.loop-n.n 0 ≢ 65535 → (get_or c.args.parents.now c.loop-n.n 0 < length c.loop-n.node_priorities) × (get_or c.loop-n.node_priorities (get_or c.args.parents.now c.loop-n.n 0) 0 < 100) =
    λ q. from-zero-parent c.args.g.now.lawful c.requires.nodes c.loop-n.invariant c.requires.cleared.0 c.loop-n-test.true q in
    omega (arith, (parent-known c.if-parent.false).1)

pub bounds-node_priorities-n : goal.bounds-node_priorities-n
bounds-node_priorities-n c =
    let written : c.loop-n.n < length c.loop-n.node_priorities =
    from-zero-long c.args.g.now.lawful c.requires.nodes c.loop-n.invariant c.requires.cleared.0 c.loop-n-test.true in
    written

pub overflow_step-n : goal.overflow_step-n
overflow_step-n c = omega (arith, c.loop-n-test.true, c.requires.nodes.few)

pub loop-n-smaller : goal.loop-n-smaller
loop-n-smaller c = omega (arith, c.loop-n-test.true)

pub loop-n-preserved : goal.loop-n-preserved
loop-n-preserved c =
    let i = c.loop-n-test.true in
    let v = c.loop-n.invariant in
    let ok = c.args.g.now.lawful in
    let nodes = c.requires.nodes in
    let room = c.requires.cleared.0 in
    elim c.if-parent.branch [
      | then-parent+then-priority-root w ↦
          from-zero-other ok nodes v room i w.if-parent.true w.root_priority-priority.ensures w.priority-is w.if-priority-root.true
          (w.most-is ∙ w.max-most.ensures ∙ ap (max c.loop-n.most) (w.height.ensures ∙ ap (λ (k : ℕ). 2 * k + (3 - 3 * c.loop-n.root)) w.greatest_in.ensures))
          w.first-is w.root-is
      | then-parent+else-priority-root w ↦
          from-zero-alike ok nodes v room i w.if-parent.true w.root_priority-priority.ensures w.priority-is w.if-priority-root.false w.most-is w.first-is w.root-is
      | else-parent w ↦ from-zero-child ok nodes v room i w.if-parent.false w.priority-is w.most-is w.first-is w.root-is
    ]

pub shape_of-node_priorities-then-first-eq0 : goal.shape_of-node_priorities-then-first-eq0
shape_of-node_priorities-then-first-eq0 c = copying-long c.loop-n.invariant.are

pub returns-then-first-eq0 : goal.returns-then-first-eq0
returns-then-first-eq0 c = let v = c.loop-n.invariant in
    let h = c.loop-n-test.false in record { beginning = begins-alike c.args.g.now.lawful c.requires.nodes v c.requires.cleared.0 h c.if-first-eq0.true refl; table = from-zero-all c.args.g.now.lawful c.requires.nodes v c.requires.cleared.0 h c.requires.cleared.1 }

pub greatest_in-requires-2 : goal.greatest_in-requires-2
greatest_in-requires-2 c =
    (omega (arith, c.loop-n.invariant.first_le, from-zero-le c.requires.nodes c.loop-n.invariant), omega (arith, c.requires.cleared.0, copying-long c.loop-n.invariant.are))

pub height-requires-2 : goal.height-requires-2
height-requires-2 c =
    let whole : top_from c.loop-n.first c.args.count c.loop-n.node_priorities ≡ top_from c.loop-n.first c.loop-n.n c.loop-n.node_priorities =
    let v = c.loop-n.invariant in
    ap (λ (k : ℕ). top_from c.loop-n.first k c.loop-n.node_priorities) (le_antisymm c.loop-n-test.false (from-zero-le c.requires.nodes v)) in
    let v = c.loop-n.invariant in (omega (arith, c.greatest_in-2.ensures, whole, v.top_few), v.root_few)

pub shape_of-node_priorities : goal.shape_of-node_priorities
shape_of-node_priorities c = copying-long c.loop-n.invariant.are

pub returns : goal.returns
returns c = let whole : top_from c.loop-n.first c.args.count c.loop-n.node_priorities ≡ top_from c.loop-n.first c.loop-n.n c.loop-n.node_priorities =
    let v = c.loop-n.invariant in
    ap (λ (k : ℕ). top_from c.loop-n.first k c.loop-n.node_priorities) (le_antisymm c.loop-n-test.false (from-zero-le c.requires.nodes v)) in
    let h = c.loop-n-test.false in
    let top = c.max-top.ensures ∙ ap (max c.loop-n.most) (c.height-2.ensures ∙ ap (λ (k : ℕ). 2 * k + (3 - 3 * c.loop-n.root)) (c.greatest_in-2.ensures ∙ whole)) in record { beginning = begins-by-height c.args.g.now.lawful c.requires.nodes c.loop-n.invariant c.requires.cleared.0 h c.if-first-eq0.false top; table = from-zero-all c.args.g.now.lawful c.requires.nodes c.loop-n.invariant c.requires.cleared.0 h c.requires.cleared.1 }
