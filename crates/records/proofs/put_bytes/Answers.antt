-- `records::put_bytes` meets its contract: the bytes are copied into their part. Assumes nothing.
use Rattle.std.proofs.Common.{arith}
use Rattle.records.proofs.Copies.{put-part}
use Rattle.records.proofs.put_bytes.Goals as goal

pub returns : goal.returns
returns c = put-part c.args.packed.now c.args.at _ c.args.bytes.now _ c.copy_from_slice.ensures.after (omega arith) c.requires
