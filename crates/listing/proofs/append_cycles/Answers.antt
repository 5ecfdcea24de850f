use Rattle.listing.proofs.Appending.{cycles-none, cycles-next}
use Rattle.candidates.specs.Candidates.{with_cycles}
use Rattle.policy.specs.ByColour.{table_colours}
use lib.ListN.{take}
use lib.Seq.{take_all}
use mathlib.Core.Path.{refl, ap, ◌∙◌}
use native.Mathlib.Omega.{arith}
use Rattle.listing.proofs.append_cycles.Goals as goal

pub loop-x-init : goal.loop-x-init
loop-x-init c =
    let a = c.args in
    (omega arith, refl, refl, cycles-none (table_colours a.by.now) a.c a.other.now (take a.count a.same.now) a.cycles.now, c.requires.room.0)

pub append_cycle-next-requires : goal.append_cycle-next-requires
append_cycle-next-requires c =
    let i = c.loop-x.invariant in
    record { other = c.requires.other; room = (i.4, omega (arith, i.0, i.1, c.requires.room.1, c.loop-x-test.true), omega (arith, i.0, i.2, c.requires.room.2, c.loop-x-test.true)) }

pub loop-x-preserved : goal.loop-x-preserved
loop-x-preserved c =
    let a = c.args in
    let at = c.loop-x in (
      omega (arith, at.invariant.0, c.append_cycle-next.ensures.hues.1),
      c.append_cycle-next.auto.same ∙ at.invariant.1,
      c.append_cycle-next.auto.own ∙ at.invariant.2,
      cycles-next (table_colours a.by.now) a.c a.other.now (take a.count a.same.now) a.cycles.now at.x-index c.loop-x-test.true at.invariant.3 c.append_cycle-next.ensures.masks,
      c.append_cycle-next.ensures.hues.0,
    )

pub shape_of-same : goal.shape_of-same
shape_of-same c = c.loop-x.invariant.1

pub shape_of-own : goal.shape_of-own
shape_of-own c = c.loop-x.invariant.2

pub returns : goal.returns
returns c =
    let a = c.args in
    record {
      masks = c.loop-x.invariant.3 ∙ ap (with_cycles (table_colours a.by.now) a.c a.other.now (take a.count a.same.now)) (take_all c.loop-x.x-index a.cycles.now (omega (arith, c.loop-x-test.false)));
      hues = c.loop-x.invariant.4;
    }
