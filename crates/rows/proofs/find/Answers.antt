-- `find` meets its contract: where no root has the edge, where the leaf is the node met, where a state stands below a later child, and where none does. Assumes nothing.
use Rattle.std.proofs.Common.{ℕ, ◌+◌, ◌<◌, ◌≡◌, true, false, Option, Some, None, refl, sym, subst}
use mathlib.Core.List.{Memᴰ}
use Rattle.policy.specs.declared.Policy.{Policy}
use Rattle.policy.specs.Policies.{edges, source, target_of}
use Rattle.forest.specs.Forest.{forest, transient_priority}
use Rattle.automaton.specs.Automaton.{or_else, leaves}
use Rattle.automaton.specs.Stages.{first_over}
use Rattle.rows.specs.declared.Meeting.{Meeting}
use Rattle.rows.specs.declared.States.{States}
use Rattle.rows.specs.Rows.{Meets, SharedBy}
use native.Mathlib.Omega.{arith}
use Rattle.automaton.proofs.Columns.{leaves_long}
use Rattle.rows.proofs.Finding.{Place, Run, place-small, find-fits, find-run, find-out, find-in, find_at, find-next, find_first}
use Rattle.rows.proofs.Sharing.{shared-out, shared-own, shared-below}
use Rattle.rows.proofs.find.Goals as goal
use Rattle.rows.proofs.find.Goals.{then-after-to+else-entries-after, else-after-to}

abbrev policy_of : States → Policy
policy_of s = s.forest.now.policy.now

abbrev Asked : States → ℕ → ℕ → Option Meeting → Type 0
Asked s e l met = (e < edges (policy_of s)) × Memᴰ l (or_else 65535 (leaves (forest (policy_of s)) (policy_of s) (source (policy_of s) e))) × Meets (policy_of s) e l met

-- where the edge meets the branch
place-met : (s : States) {e l : ℕ} {met : Option Meeting} {m : Meeting} → Asked s e l met → met ≡ Some m → Place (policy_of s) e l true m.node m.child m.priority
place-met s {e} {l} h q = (s.forest.now.lawful, h.0, h.1, subst (Meets (policy_of s) e l) q h.2)

place-out : (s : States) {e l : ℕ} {met : Option Meeting} → Asked s e l met → met ≡ None → Place (policy_of s) e l false 0 0 (transient_priority (policy_of s))
place-out s {e} {l} h q = (s.forest.now.lawful, h.0, h.1, subst (Meets (policy_of s) e l) q h.2)

-- the tables to search
run : (s : States) (e : ℕ) {from to : ℕ} → (from ≡ first_over (policy_of s) (target_of (policy_of s) e)) × (to ≡ first_over (policy_of s) (target_of (policy_of s) e + 1)) → Run (policy_of s) s.ends.now s.leaves.now e from to
run s e o = (s.forest.now.nodes.few, s.ended, s.few, s.leaved, o.0, o.1)

pub overflow_cast-result : goal.overflow_cast-result
overflow_cast-result c = omega (arith, find-out c.args.states.now.forest.now.policy.now _ _ _ _ _ _ _ _ _ _ (place-out c.args.states.now c.requires.place c.in_default.is) (run c.args.states.now c.args.e c.requires.over) refl, find-fits c.args.states.now.forest.now.policy.now _ _ _ _ _ _ _ _ _ _ (place-out c.args.states.now c.requires.place c.in_default.is) (run c.args.states.now c.args.e c.requires.over))

pub returns-in_default : goal.returns-in_default
returns-in_default c =
    subst (SharedBy c.args.states.now.forest.now.policy.now c.args.e c.args.leaf 0 65536 c.args.over.now.start) (sym c.args.states.now.forest.now.lowest)
    (shared-out c.args.states.now.forest.now.policy.now _ _ _ _ _ _ _ _ _ _ (place-out c.args.states.now c.requires.place c.in_default.is) (run c.args.states.now c.args.e c.requires.over) _ refl (find-out c.args.states.now.forest.now.policy.now _ _ _ _ _ _ _ _ _ _ (place-out c.args.states.now c.requires.place c.in_default.is) (run c.args.states.now c.args.e c.requires.over) refl))

pub lower_bound-own-requires : goal.lower_bound-own-requires
lower_bound-own-requires c = record { run = find-run c.args.states.now.forest.now.policy.now _ _ _ _ _ _ _ _ _ _ (place-met c.args.states.now c.requires.place c.in-Some.is) (run c.args.states.now c.args.e c.requires.over) }

pub overflow_add-result : goal.overflow_add-result
overflow_add-result c = omega (arith, place-small c.args.states.now.forest.now.policy.now _ _ _ _ _ _ _ _ _ _ (place-met c.args.states.now c.requires.place c.in-Some.is) (run c.args.states.now c.args.e c.requires.over))

pub overflow_cast-result-then-child-node : goal.overflow_cast-result-then-child-node
overflow_cast-result-then-child-node c = omega (arith, find_at c.args.states.now.forest.now.policy.now _ _ _ _ _ _ _ _ _ _ (place-met c.args.states.now c.requires.place c.in-Some.is) (run c.args.states.now c.args.e c.requires.over) refl _ c.if-child-node.true c.lower_bound-own.ensures, find-fits c.args.states.now.forest.now.policy.now _ _ _ _ _ _ _ _ _ _ (place-met c.args.states.now c.requires.place c.in-Some.is) (run c.args.states.now c.args.e c.requires.over))

pub returns-then-child-node : goal.returns-then-child-node
returns-then-child-node c = shared-own c.args.states.now.forest.now.policy.now _ _ _ _ _ _ _ _ _ _ (place-met c.args.states.now c.requires.place c.in-Some.is) (run c.args.states.now c.args.e c.requires.over) _ (find_at c.args.states.now.forest.now.policy.now _ _ _ _ _ _ _ _ _ _ (place-met c.args.states.now c.requires.place c.in-Some.is) (run c.args.states.now c.args.e c.requires.over) refl _ c.if-child-node.true c.lower_bound-own.ensures)

pub offset_bounds-ends-child : goal.offset_bounds-ends-child
offset_bounds-ends-child c = omega (arith, find-in c.args.states.now.forest.now.policy.now _ _ _ _ _ _ _ _ _ _ (place-met c.args.states.now c.requires.place c.in-Some.is) (run c.args.states.now c.args.e c.requires.over) refl)

pub bounds-ends-child : goal.bounds-ends-child
bounds-ends-child c = (find-in c.args.states.now.forest.now.policy.now _ _ _ _ _ _ _ _ _ _ (place-met c.args.states.now c.requires.place c.in-Some.is) (run c.args.states.now c.args.e c.requires.over) refl).1

pub lower_bound-after-requires : goal.lower_bound-after-requires
lower_bound-after-requires c = record { run = find-run c.args.states.now.forest.now.policy.now _ _ _ _ _ _ _ _ _ _ (place-met c.args.states.now c.requires.place c.in-Some.is) (run c.args.states.now c.args.e c.requires.over) }

pub offset_bounds-entries-after : goal.offset_bounds-entries-after
offset_bounds-entries-after c = omega (arith, c.args.states.now.few, leaves_long c.args.states.now.forest.now.policy.now c.args.states.now.leaved, find-run c.args.states.now.forest.now.policy.now _ _ _ _ _ _ _ _ _ _ (place-met c.args.states.now c.requires.place c.in-Some.is) (run c.args.states.now c.args.e c.requires.over))

pub bounds-entries-after : goal.bounds-entries-after
bounds-entries-after c = omega (arith, find-run c.args.states.now.forest.now.policy.now _ _ _ _ _ _ _ _ _ _ (place-met c.args.states.now c.requires.place c.in-Some.is) (run c.args.states.now c.args.e c.requires.over))

pub offset_bounds-ends-node : goal.offset_bounds-ends-node
offset_bounds-ends-node c = omega (arith, find-in c.args.states.now.forest.now.policy.now _ _ _ _ _ _ _ _ _ _ (place-met c.args.states.now c.requires.place c.in-Some.is) (run c.args.states.now c.args.e c.requires.over) refl)

pub bounds-ends-node : goal.bounds-ends-node
bounds-ends-node c = (find-in c.args.states.now.forest.now.policy.now _ _ _ _ _ _ _ _ _ _ (place-met c.args.states.now c.requires.place c.in-Some.is) (run c.args.states.now c.args.e c.requires.over) refl).0

pub overflow_cast-result-then-entries-after : goal.overflow_cast-result-then-entries-after
overflow_cast-result-then-entries-after c = omega (arith, find-next c.args.states.now.forest.now.policy.now _ _ _ _ _ _ _ _ _ _ (place-met c.args.states.now c.requires.place c.in-Some.is) (run c.args.states.now c.args.e c.requires.over) refl _ _ c.if-child-node.false refl c.lower_bound-after.ensures c.if-after-to.true c.if-entries-after.true, find-fits c.args.states.now.forest.now.policy.now _ _ _ _ _ _ _ _ _ _ (place-met c.args.states.now c.requires.place c.in-Some.is) (run c.args.states.now c.args.e c.requires.over))

pub returns-then-entries-after : goal.returns-then-entries-after
returns-then-entries-after c = shared-below c.args.states.now.forest.now.policy.now _ _ _ _ _ _ _ _ _ _ (place-met c.args.states.now c.requires.place c.in-Some.is) (run c.args.states.now c.args.e c.requires.over) refl c.if-child-node.false _ _ refl (find-next c.args.states.now.forest.now.policy.now _ _ _ _ _ _ _ _ _ _ (place-met c.args.states.now c.requires.place c.in-Some.is) (run c.args.states.now c.args.e c.requires.over) refl _ _ c.if-child-node.false refl c.lower_bound-after.ensures c.if-after-to.true c.if-entries-after.true)

pub lower_bound-first-requires : goal.lower_bound-first-requires
lower_bound-first-requires c = record { run = find-run c.args.states.now.forest.now.policy.now _ _ _ _ _ _ _ _ _ _ (place-met c.args.states.now c.requires.place c.in-Some.is) (run c.args.states.now c.args.e c.requires.over) }

pub overflow_cast-result-2 : goal.overflow_cast-result-2
overflow_cast-result-2 c = omega (arith, find_first c.args.states.now.forest.now.policy.now _ _ _ _ _ _ _ _ _ _ (place-met c.args.states.now c.requires.place c.in-Some.is) (run c.args.states.now c.args.e c.requires.over) refl _ _ c.if-child-node.false refl c.lower_bound-after.ensures _ (λ i j. elim c.if-after-to.branch [ then-after-to+else-entries-after w ↦ omega arith | else-after-to w ↦ omega arith ]) c.lower_bound-first.ensures, find-fits c.args.states.now.forest.now.policy.now _ _ _ _ _ _ _ _ _ _ (place-met c.args.states.now c.requires.place c.in-Some.is) (run c.args.states.now c.args.e c.requires.over))

pub returns : goal.returns
returns c = shared-below c.args.states.now.forest.now.policy.now _ _ _ _ _ _ _ _ _ _ (place-met c.args.states.now c.requires.place c.in-Some.is) (run c.args.states.now c.args.e c.requires.over) refl c.if-child-node.false _ _ refl (find_first c.args.states.now.forest.now.policy.now _ _ _ _ _ _ _ _ _ _ (place-met c.args.states.now c.requires.place c.in-Some.is) (run c.args.states.now c.args.e c.requires.over) refl _ _ c.if-child-node.false refl c.lower_bound-after.ensures _ (λ i j. elim c.if-after-to.branch [ then-after-to+else-entries-after w ↦ omega arith | else-after-to w ↦ omega arith ]) c.lower_bound-first.ensures)
