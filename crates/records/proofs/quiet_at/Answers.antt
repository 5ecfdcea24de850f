use native.Mathlib.Omega.{arith}
use mathlib.Core.Path.{◌≡◌, sym, ap, ◌∙◌}
use Rattle.masks.specs.Masks.{mask_of}
use Rattle.masks.proofs.MaskOf.{mask-of-none}
use Rattle.records.specs.Records.{is_set, quiet_at, quiet_byte}
use Rattle.records.proofs.Copies.{part-at, part-long}
use Rattle.records.proofs.Packing.{quiet-turn, quiet_none}
use Rattle.records.proofs.quiet_at.Goals as goal

pub returns-then-not-has_quiet : goal.returns-then-not-has_quiet
returns-then-not-has_quiet c = quiet_none c.args.packed.now (sym c.has_quiet.ensures ∙ c.if-not-has_quiet.true)

pub loop-i-init : goal.loop-i-init
loop-i-init c = (omega arith, sym (mask-of-none (quiet_byte c.args.packed.now)))

pub loop-i-preserved : goal.loop-i-preserved
loop-i-preserved c =
    let loop = c.loop-i in
    (omega arith, quiet-turn c.args.packed.now loop.i loop.m _ _ loop.invariant.1 (ap is_set (part-at c.args.packed.now 388 64 loop.i (omega arith))) c.with_if-m.ensures)

pub returns : goal.returns
unfolding quiet_at
returns c =
    let loop = c.loop-i in
    let e = part-long c.args.packed.now 388 64 (omega arith) in
    let done : loop.i ≡ 64 = omega arith in
    loop.invariant.1 ∙ ap (mask_of (quiet_byte c.args.packed.now)) done
