use Rattle.states.specs.declared.Nodes.{Nodes}
use mathlib.Core.Path.{◌≡◌}
use mathlib.Core.Logic.{inl, inr}
use Prim.Native.Nat.{ℕ, ◌<◌}
use native.Mathlib.Omega.{arith}
use Rattle.graph.specs.Through.{own_edges}
use Rattle.forest.proofs.Columns.{masks_long}
use Rattle.automaton.proofs.Columns.{ends-long}
use Rattle.tables.specs.Tables.{Stored}
use Rattle.states.specs.StateTables.{leaves_below}
use Rattle.states.proofs.LeafPass.{Given, own-few, leaves-few, pass-none, pass-turn, pass-done, pass-next, pass-last}
use Rattle.states.proofs.fill_leaves.Goals as goal
use Rattle.states.proofs.fill_leaves.Goals.{then-masks-n-ne0, else-masks-n-ne0}

-- the pass is over the policy's tables
given : (nodes : Nodes) (v own : ℕ) → v < nodes.policy.now.states → own ≡ own_edges nodes.policy.now.letters v → Given nodes.policy.now v nodes.masks.now nodes.ends.now nodes.count own
given nodes v own h e = record { is_legal = nodes.lawful; few = nodes.few; masks_are = nodes.masked; ends_are = nodes.ended; state = h; counted = nodes.counted; own_is = e }

pub own_edges-own-requires : goal.own_edges-own-requires
own_edges-own-requires c = own-few c.args.nodes.now.policy.now c.args.nodes.now.lawful c.args.v c.requires.0

pub loop-n-init : goal.loop-n-init
loop-n-init c = pass-none (given c.args.nodes.now c.args.v _ c.requires.0 c.own_edges-own.ensures) c.args.leaves.now c.args.at

pub bounds-masks-n : goal.bounds-masks-n
bounds-masks-n c = omega (arith, c.args.nodes.now.counted, masks_long c.args.nodes.now.policy.now c.args.nodes.now.masked)

pub put_leaf_if-next-requires : goal.put_leaf_if-next-requires
put_leaf_if-next-requires c =
    let g = given c.args.nodes.now c.args.v _ c.requires.0 c.own_edges-own.ensures in
    (pass-last g c.loop-n.invariant (omega arith), omega (arith, pass-next g c.loop-n.invariant, c.args.nodes.now.counted, c.args.nodes.now.few))

pub bounds-ends-n : goal.bounds-ends-n
bounds-ends-n c = omega (arith, c.args.nodes.now.counted, ends-long c.args.nodes.now.policy.now c.args.nodes.now.ended)

pub loop-n-preserved : goal.loop-n-preserved
loop-n-preserved c =
    pass-turn (given c.args.nodes.now c.args.v _ c.requires.0 c.own_edges-own.ensures) c.loop-n.invariant (omega arith) c.if-masks-n-ne0.leaves c.if-masks-n-ne0.next c.if-masks-n-ne0.last c.if-masks-n-ne0.end
    (elim c.if-masks-n-ne0.branch [
      | then-masks-n-ne0 w ↦ inl (w.if-masks-n-ne0.true, rw (w.leaves-is, w.next-is) w.put_leaf_if-next.ensures, w.last-is, w.end-is)
      | else-masks-n-ne0 w ↦ inr (w.if-masks-n-ne0.false, w.leaves-is, w.next-is, w.last-is, w.end-is)
    ])

pub put_leaf_if-requires : goal.put_leaf_if-requires
put_leaf_if-requires c =
    let g = given c.args.nodes.now c.args.v _ c.requires.0 c.own_edges-own.ensures in
    (pass-last g c.loop-n.invariant (omega arith), omega (arith, pass-next g c.loop-n.invariant, c.args.nodes.now.counted, c.args.nodes.now.few))

pub returns : goal.returns
returns c =
    let nodes = c.args.nodes.now in
    let g = given nodes c.args.v _ c.requires.0 c.own_edges-own.ensures in
    -- the leaves are written
    let written : Stored c.args.leaves.now c.put_leaf_if.new.t c.args.at c.put_leaf_if.result (leaves_below nodes.policy.now c.args.v nodes.count) =
    pass-done g c.loop-n.invariant (omega arith) c.put_leaf_if.new.t c.put_leaf_if.result c.put_leaf_if.ensures in
    (written, omega (arith, written.next_is, leaves-few nodes.policy.now c.args.v nodes.count, nodes.counted, nodes.few))
