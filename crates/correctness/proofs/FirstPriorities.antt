-- The four listings that show where priorities begin, by computation; and that one priority fewer is in use of the one whose numbers moved. Assumes nothing.
use Prim.Native.Nat.{zero}
use native.Mathlib.Omega.{arith}
use mathlib.Core.Path.{◌≡◌, refl}
use mathlib.Core.List.{map}
use Rattle.lists.specs.Lists.{greatest, lowest}
use Rattle.masks.specs.Masks.{has, insert, inside, properly, set_of, members, submasks}
use Rattle.policy.specs.Policies.{edges, edge_of, source, target_of, colour_of, is_quiet, edge_colours, colours_of, in_family, accepting, full, counts_fit, legal_counts, legal_edge, legal_edges, uncoloured, legal_quiet, legal_set, legal_family, legal_graph, legal}
use Rattle.graph.specs.Cycles.{spread, closure, reach, is_cycle, contains, cycles_in}
use Rattle.forest.specs.Forest.{before, place, in_order, largest, roots, opposed, children, trees, tree, forest, greatest_level, from_zero, root_priority, priority, transient_priority, node, up_from, chain, child_of, in_root}
use Rattle.forest.specs.Numbering.{plain_priority, OneFewer}
use Rattle.forest.proofs.Numbering.{one_fewer}
use Rattle.automaton.specs.Automaton.{next, holds, kids, is_leaf, leaves, first_leaf, states_over, built_states, deepest, lead, entered, first_leaf_below, leaf_after, priority_after, built, state_at, number, start, row_target, row_priority}
use Rattle.correctness.specs.Known.{Entry, answer}
use Rattle.correctness.specs.FirstPriorities.{negative, kinds}

pub kinds-known : map (λ (e : Entry). answer e.policy e.question) kinds ≡ map (λ (e : Entry). e.answered) kinds
unfolding has insert inside properly set_of members submasks edges edge_of source target_of colour_of is_quiet edge_colours colours_of in_family accepting spread closure reach is_cycle contains before place in_order largest full cycles_in roots opposed children trees tree forest greatest lowest greatest_level from_zero root_priority priority transient_priority next node up_from chain child_of in_root holds kids is_leaf leaves first_leaf states_over built_states deepest lead entered first_leaf_below leaf_after priority_after built state_at number start row_target row_priority
kinds-known = refl

-- the root of the accepting tree has 2, and had 0
pub negative-fewer : OneFewer negative
unfolding has insert inside properly set_of members submasks edges source target_of colour_of is_quiet edge_colours colours_of in_family accepting spread closure reach is_cycle before place in_order largest full cycles_in roots opposed children trees tree forest greatest greatest_level from_zero root_priority priority plain_priority node counts_fit legal_counts legal_edge legal_edges uncoloured legal_quiet legal_set legal_family legal_graph legal
negative-fewer = one_fewer negative refl zero (omega arith) (λ e. omega (arith, e))
