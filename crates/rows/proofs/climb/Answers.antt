use Prim.Native.Nat.{ℕ, ◌<◌}
use mathlib.Core.List.{Memᴰ}
use Rattle.policy.specs.Policies.{edges, source}
use Rattle.forest.specs.Forest.{forest}
use Rattle.automaton.specs.Automaton.{or_else, leaves}
use Rattle.automaton.specs.declared.Forest.{Forest}
use native.Mathlib.Omega.{arith}
use mathlib.Core.Path.{refl, sym, ◌∙◌}
use Rattle.rows.proofs.Climbing.{Called, edge-small, walk-small, walk_start, walk_none, walk-in, walk_up, walk-less, walk-met}
use Rattle.rows.proofs.climb.Goals as goal

called : (f : Forest) {e leaf : ℕ} → (e < edges f.policy.now) × Memᴰ leaf (or_else 65535 (leaves (forest f.policy.now) f.policy.now (source f.policy.now e))) → Called f.policy.now f.masks.now f.parents.now f.priorities.now e leaf
called f h = ((f.lawful, f.nodes), h)

pub loop-n-init : goal.loop-n-init
loop-n-init c = walk_start c.args.nodes.now.policy.now _ _ _ _ _ (called c.args.nodes.now c.requires)

pub offset_bounds-nodes-n : goal.offset_bounds-nodes-n
offset_bounds-nodes-n c =
    omega (arith, walk-small c.args.nodes.now.policy.now _ _ _ _ _ (called c.args.nodes.now c.requires) _ _ c.loop-n.invariant c.loop-n-test.true)

pub bounds-nodes-n : goal.bounds-nodes-n
bounds-nodes-n c =
    (walk-in c.args.nodes.now.policy.now _ _ _ _ _ (called c.args.nodes.now c.requires) _ _ c.loop-n.invariant c.loop-n-test.true).0

pub has-requires : goal.has-requires
has-requires c =
    edge-small c.args.nodes.now.policy.now _ _ _ _ _ (called c.args.nodes.now c.requires)

pub bounds-nodes-n-then-has : goal.bounds-nodes-n-then-has
bounds-nodes-n-then-has c =
    (walk-in c.args.nodes.now.policy.now _ _ _ _ _ (called c.args.nodes.now c.requires) _ _ c.loop-n.invariant c.loop-n-test.true).2

pub returns-then-has : goal.returns-then-has
returns-then-has c =
    walk-met c.args.nodes.now.policy.now _ _ _ _ _ (called c.args.nodes.now c.requires) _ _ c.loop-n.invariant c.loop-n-test.true (sym c.has.ensures ∙ c.if-has.true)

pub offset_bounds-nodes-n-in-loop-n : goal.offset_bounds-nodes-n-in-loop-n
offset_bounds-nodes-n-in-loop-n c =
    omega (arith, walk-small c.args.nodes.now.policy.now _ _ _ _ _ (called c.args.nodes.now c.requires) _ _ c.loop-n.invariant c.loop-n-test.true)

pub bounds-nodes-n-in-loop-n : goal.bounds-nodes-n-in-loop-n
bounds-nodes-n-in-loop-n c =
    (walk-in c.args.nodes.now.policy.now _ _ _ _ _ (called c.args.nodes.now c.requires) _ _ c.loop-n.invariant c.loop-n-test.true).1

pub loop-n-smaller : goal.loop-n-smaller
loop-n-smaller c =
    walk-less c.args.nodes.now.policy.now _ _ _ _ _ (called c.args.nodes.now c.requires) _ _ c.loop-n.invariant c.loop-n-test.true _ refl

pub loop-n-preserved : goal.loop-n-preserved
loop-n-preserved c =
    walk_up c.args.nodes.now.policy.now _ _ _ _ _ (called c.args.nodes.now c.requires) _ _ c.loop-n.invariant c.loop-n-test.true _ refl (sym c.has.ensures ∙ c.if-has.false)

pub returns : goal.returns
returns c =
    walk_none c.args.nodes.now.policy.now _ _ _ _ _ (called c.args.nodes.now c.requires) _ _ _ _ _ c.loop-n.invariant c.loop-n-test.false refl
