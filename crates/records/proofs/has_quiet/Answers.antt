use Rattle.std.proofs.Common.{◌≡◌, refl, ap, ◌∙◌, arith}
use Rattle.lists.specs.Lists.{any, below}
use Rattle.records.specs.Records.{is_set, any_quiet, quiet_byte}
use Rattle.records.proofs.Copies.{part-at, part-long}
use Rattle.records.proofs.Packing.{any-quiet-turn}
use Rattle.records.proofs.has_quiet.Goals as goal

pub loop-byte-init : goal.loop-byte-init
loop-byte-init c = (omega arith, refl)

pub loop-byte-preserved : goal.loop-byte-preserved
loop-byte-preserved c =
    let l = c.loop-byte in
    let e = part-long c.args.packed.now 388 64 (omega arith) in
    (omega arith, any-quiet-turn c.args.packed.now l.byte-index _ _ l.invariant.1 (ap is_set (part-at c.args.packed.now 388 64 l.byte-index (omega arith))))

pub returns : goal.returns
unfolding any_quiet
returns c =
    let l = c.loop-byte in
    let e = part-long c.args.packed.now 388 64 (omega arith) in
    let done : l.byte-index ≡ 64 = omega arith in
    l.invariant.1 ∙ ap (λ k. any (quiet_byte c.args.packed.now) (below k)) done
