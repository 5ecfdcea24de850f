-- `decomposition::write_priorities` meets its contract: the greatest height shows where priorities begin. Assumes nothing.
use mathlib.Core.Path.{ap, ◌∙◌}
use Prim.Native.Nat.{ℕ}
use Rattle.lists.proofs.Bools.{not-true}
use Rattle.tables.specs.Tables.{padded}
use Rattle.forest.specs.Forest.{node_priorities_of}
use lib.ListN.{length}
use Rattle.decomposition.proofs.FromZero.{plain-long, unraised-table}
use Rattle.decomposition.proofs.Heights.{kept, one, all-rejecting}
use Rattle.decomposition.proofs.write_priorities.Goals as goal

pub returns-then-begins : goal.returns-then-begins
returns-then-begins c = let k = kept c.args.g.now.policy.now c.args.g.now.lawful c.number_from_zero-begins.ensures.beginning.0 c.if-begins.true in record { lowest = k.0; table = c.number_from_zero-begins.ensures.table ∙ ap (padded (length c.args.node_priorities.now)) k.1 }

pub returns-then-not-begins : goal.returns-then-not-begins
returns-then-not-begins c = record { lowest = (one c.args.g.now.policy.now c.args.g.now.lawful c.number_from_zero-begins.ensures.beginning.0 c.if-begins.false).1; table = c.number_from_zero-begins.ensures.table ∙ ap (padded (length c.args.node_priorities.now)) (all-rejecting c.args.g.now.policy.now c.args.g.now.lawful c.number_from_zero-begins.ensures.beginning.1 (not-true _ c.if-not-begins.true)) }

pub raise-requires : goal.raise-requires
raise-requires c = let w = c.requires.nodes in record { lawful = (c.args.g.now.lawful, (one c.args.g.now.policy.now c.args.g.now.lawful c.number_from_zero-begins.ensures.beginning.0 c.if-begins.false).0); nodes = (w.all, w.few, w.parents_are); table = unraised-table c.args.node_priorities.now w c.requires.cleared.0 c.number_from_zero-begins.ensures.table }

pub returns : goal.returns
returns c = record { lowest = (one c.args.g.now.policy.now c.args.g.now.lawful c.number_from_zero-begins.ensures.beginning.0 c.if-begins.false).1; table = c.raise.ensures ∙ ap (λ (k : ℕ). padded k (node_priorities_of c.args.g.now.policy.now)) (plain-long c.args.node_priorities.now c.requires.nodes c.requires.cleared.0 c.number_from_zero-begins.ensures.table) }
