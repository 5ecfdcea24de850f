-- `recursion::turn` meets its contract: the other player has won nothing, or loses and holds, by the laws of Steps. Assumes nothing.
use Rattle.recursion.proofs.Steps.{lose-asks, gathered-lists, hold-asks, none-live-yet, loses-long, turns-lost}
use native.Mathlib.Omega.{arith}
use Rattle.recursion.proofs.turn.Goals as goal

pub lose-rest-requires : goal.lose-rest-requires
lose-rest-requires c = record { long = c.requires.long; arena = lose-asks _ _ _ _ _ _ _ c.args.l.small _ _ _ c.requires.turning _ _ _ _ c.gather-kept.ensures; lists = gathered-lists _ _ _ _ _ _ _ c.args.l.small _ _ _ c.requires.turning _ _ _ c.lost_task-k.ensures c.gather-kept.ensures }

pub hold-requires : goal.hold-requires
hold-requires c = let e = loses-long _ _ _ _ _ _ _ c.args.l.small _ _ _ _ _ _ _ _ _ c.lose-rest.ensures in record { long = (omega (arith, e.0, c.requires.long.0), omega (arith, e.1, c.requires.long.1)); arena = hold-asks _ _ _ _ _ _ _ c.args.l.small _ _ _ c.requires.turning _ _ _ _ _ _ _ _ _ c.gather-kept.ensures c.lose-rest.ensures; by_index = none-live-yet _ _ _ _ _ _ _ c.args.l.small _ _ _ c.requires.turning _ _ _ _ _ _ _ c.lose-rest.ensures }

pub returns : goal.returns
returns c = turns-lost _ _ _ _ _ _ _ c.args.l.small _ _ _ c.requires.turning _ _ _ _ _ _ _ _ _ _ _ _ c.lost_task-k.ensures c.if-kept-n.false c.gather-kept.ensures c.lose-rest.ensures c.hold.ensures
