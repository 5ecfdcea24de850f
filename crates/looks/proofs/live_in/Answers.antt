use Rattle.candidates.proofs.Live.{live_both, live-less}
use Rattle.masks.proofs.Bits.{inside-le}
use mathlib.Core.Path.{sym, subst}
use Rattle.candidates.specs.Candidates.{Live}
use lib.ListN.{get_or}
use native.Mathlib.Omega.{arith}
use Rattle.looks.proofs.live_in.Goals as goal

pub bounds-live-c : goal.bounds-live-c
bounds-live-c c = omega (arith, c.requires.1, inside-le c.args.c c.args.used c.requires.0)

pub loop-i-init : goal.loop-i-init
loop-i-init c = (omega arith, λ p root l are. are c.args.c (omega (arith, c.requires.1, inside-le c.args.c c.args.used c.requires.0)))

pub with_colour-requires : goal.with_colour-requires
with_colour-requires c = (c.loop-i-test.true, c.requires.0)

pub bounds-live-with_colour : goal.bounds-live-with_colour
bounds-live-with_colour c = omega (arith, c.requires.1, inside-le c.with_colour.result c.args.used c.with_colour.ensures.1)

pub loop-i-preserved : goal.loop-i-preserved
loop-i-preserved c =
    let d = c.with_colour in
    let x = get_or c.args.live.now d.result 0 in (
      omega (arith, c.loop-i-test.true),
      λ p root l are.
          subst (Live p root c.args.c) (sym c.both-m.ensures)
          (live_both p l root c.args.c c.loop-i.m x (c.loop-i.invariant.1 p root l are)
          (live-less p l root d.result c.args.c x d.ensures.0 (are d.result (omega (arith, c.requires.1, inside-le d.result c.args.used d.ensures.1))))),
    )

pub returns : goal.returns
returns c = λ p root l are. c.loop-i.invariant.1 p root l are
