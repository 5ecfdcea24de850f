-- `fill_built` meets its contract: where the states do not fit, and where they do. Assumes nothing.
use mathlib.Core.Path.{refl}
use Rattle.filling.proofs.FillingLaws.{ends-column, count-is, built-few, leaves-column, starts-column, rows_fit, built-whole, built-none}
use Rattle.filling.proofs.fill_built.Goals as goal

pub invariant_of-ended : goal.invariant_of-ended
invariant_of-ended c =
    let n = c.args.nodes.now in
    record { lawful = n.lawful; few = n.nodes.few; masked = n.nodes.masks_are; ended = ends-column n.policy.now c.args.ends.now c.requires.nodes c.requires.room.1 c.fill_ends.ensures; counted = c.requires.nodes }

pub returns-in_default : goal.returns-in_default
returns-in_default c = built-none c.requires.room.0 c.fill_states.ensures c.in_default.is c.clear.ensures c.clear-in_default.ensures

pub start_of-start-requires : goal.start_of-start-requires
start_of-start-requires c =
    let n = c.args.nodes.now in
    let z = c.requires.room.0 in
    let o = c.fill_states.ensures in
    (n.lawful, starts-column z o c.in-Some.is n.lawful refl, built-few z o c.in-Some.is)

pub invariant_of-built : goal.invariant_of-built
invariant_of-built c =
    let n = c.args.nodes.now in
    let z = c.requires.room.0 in
    let o = c.fill_states.ensures in
    record {
      ended = ends-column n.policy.now c.args.ends.now c.requires.nodes c.requires.room.1 c.fill_ends.ensures;
      few = built-few z o c.in-Some.is;
      leaved = leaves-column z o c.in-Some.is;
      started = starts-column z o c.in-Some.is n.lawful refl;
      counted = count-is z o c.in-Some.is;
    }

pub fill_rows-requires : goal.fill_rows-requires
fill_rows-requires c = rows_fit c.requires.room.0 c.fill_states.ensures c.in-Some.is

pub returns : goal.returns
returns c = built-whole c.requires.room.0 c.fill_states.ensures c.in-Some.is c.fill_rows.ensures.targets c.fill_rows.ensures.priorities c.start_of-start.ensures
