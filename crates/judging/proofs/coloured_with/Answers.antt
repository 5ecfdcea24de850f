-- The letter takes its edge. Assumes nothing.
use Rattle.std.proofs.Common.{refl}
use Rattle.policy.specs.Policies.{target_of, colour_of, is_quiet}
use Rattle.judging.proofs.Colours.{coloured-moves, edge-small, colour-small}
use Rattle.judging.proofs.coloured_with.Goals as goal

pub bounds-p-e : goal.bounds-p-e
bounds-p-e c = rw (c.from.ensures, c.from-2.ensures) (edge-small c.args.p.now c.requires.legal c.args.m.state c.args.letter c.requires.among c.requires.letter)

pub bounds-p-e-2 : goal.bounds-p-e-2
bounds-p-e-2 c = rw (c.from.ensures, c.from-2.ensures) (edge-small c.args.p.now c.requires.legal c.args.m.state c.args.letter c.requires.among c.requires.letter)

pub has-requires : goal.has-requires
has-requires c = rw (c.from.ensures, c.from-2.ensures) (edge-small c.args.p.now c.requires.legal c.args.m.state c.args.letter c.requires.among c.requires.letter)

pub with_if-requires : goal.with_if-requires
unfolding colour_of
with_if-requires c = rw (c.from-4.ensures, c.from.ensures, c.from-2.ensures) (colour-small c.args.p.now c.requires.legal c.args.m.state c.args.letter c.requires.among c.requires.letter)

pub returns : goal.returns
unfolding target_of colour_of is_quiet
returns c =
    rw (c.from-3.ensures, c.from.ensures, c.from-2.ensures)
    (coloured-moves c.args.p.now c.args.m c.args.letter c.requires.letter _ _ _ refl (rw (c.from.ensures, c.from-2.ensures) at c.has.ensures) (rw (c.from-4.ensures, c.from.ensures, c.from-2.ensures) at c.with_if.ensures))
