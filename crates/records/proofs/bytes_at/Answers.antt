-- `records::bytes_at` meets its contract: a part of the bytes is copied. Assumes nothing.
use Rattle.std.proofs.Common.{◌≡◌, ◌+◌, ◌-◌, ◌∙◌, arith}
use Rattle.records.specs.Records.{bytes_at}
use Rattle.records.proofs.Copies.{part-of}
use Rattle.records.proofs.bytes_at.Goals as goal

pub returns : goal.returns
unfolding bytes_at
returns c =
    let e : c.args.at + 64 - c.args.at ≡ 64 = omega arith in
    c.copy_from_slice.ensures.after ∙ part-of c.args.packed.now c.args.at _ e c.requires
