-- `records::put_record` meets its contract: the record fills the place. Assumes nothing.
use mathlib.Core.Path.{◌≡◌, ◌∙◌}
use lib.ListN.{length}
use Rattle.records.proofs.Packing.{whole}
use borrow.Author.Rules.{rules}
use Rattle.records.proofs.put_record.Goals as goal

pub returns : goal.returns
returns c =
    let of = c.record_of-bytes in
    let place = c.args.packed.now in
    let long : length of.result ≡ length place = search rules in
    c.put_bytes.ensures ∙ whole place of.result long ∙ of.ensures
