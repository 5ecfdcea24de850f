use native.Mathlib.Omega.{arith}
use mathlib.Core.Path.{refl, sym, ◌∙◌}
use mathlib.Core.Bool.{false}
use lib.ListN.{length-map, get_or-map}
use Rattle.records.specs.Records.{flag}
use Rattle.records.proofs.Copies.{storing-none, storing-more, storing-all}
use Rattle.records.proofs.put_flags.Goals as goal

pub loop-i-init : goal.loop-i-init
loop-i-init c =
    let long = length-map c.args.flags.now flag in
    (refl, long, storing-none _ _ _ (omega arith))

pub loop-i-preserved : goal.loop-i-preserved
loop-i-preserved c =
    let loop = c.loop-i in
    let flags = c.args.flags.now in
    (refl, loop.invariant.1, storing-more _ _ _ _ _ 0 _ (omega arith) (c.flag.ensures ∙ sym (get_or-map flag flags loop.i false)) loop.invariant.2)

pub shape_of-packed : goal.shape_of-packed
shape_of-packed c = c.loop-i.invariant.2.long

pub returns : goal.returns
returns c = storing-all _ _ _ _ _ (omega arith) c.loop-i.invariant.2
