-- The eleven known entries hold, by computation. Assumes nothing.
use mathlib.Core.Path.{◌≡◌, refl}
use mathlib.Core.List.{map}
use Rattle.lists.specs.Lists.{greatest, lowest}
use Rattle.recurrence.specs.Iterates.{iter, rounds}
use Rattle.recurrence.specs.Runs.{after, met, window}
use Rattle.masks.specs.Masks.{has, insert, inside, properly, set_of, members, submasks}
use Rattle.policy.specs.Policies.{edges, edge_of, source, target_of, colour_of, is_quiet, edge_colours, colours_of, in_family, accepting, full}
use Rattle.graph.specs.Cycles.{spread, closure, reach, is_cycle, contains, cycles_in}
use Rattle.forest.specs.Forest.{before, place, in_order, largest, roots, opposed, children, trees, tree, forest, greatest_level, from_zero, root_priority, priority, transient_priority, node, up_from, chain, child_of, in_root}
use Rattle.automaton.specs.Automaton.{next, holds, kids, is_leaf, leaves, first_leaf, states_over, built_states, deepest, lead, entered, first_leaf_below, leaf_after, priority_after, built, state_at, number, start, row_target, row_priority, row_targets, row_priorities}
use Rattle.running.specs.Running.{row_states, shaped, refusal_of, reading_of, row_step, row_meets}
use Rattle.judging.specs.Judging.{least_of, least_recurring}
use Rattle.correctness.specs.Known.{Entry, table, answer}

pub known : map (λ (e : Entry). answer e.policy e.question) table ≡ map (λ (e : Entry). e.answered) table
unfolding iter rounds after met window has insert inside properly set_of members submasks edges edge_of source target_of colour_of is_quiet edge_colours colours_of in_family accepting spread closure reach is_cycle contains before place in_order largest full cycles_in roots opposed children trees tree forest greatest lowest greatest_level from_zero root_priority priority transient_priority next node up_from chain child_of in_root holds kids is_leaf leaves first_leaf states_over built_states deepest lead entered first_leaf_below leaf_after priority_after built state_at number start row_target row_priority row_targets row_priorities row_states shaped refusal_of reading_of row_step row_meets least_of least_recurring
known = refl
