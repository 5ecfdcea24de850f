-- `records::record_of` meets its contract: four stores and four calls make the record. Assumes nothing.
use native.Mathlib.Omega.{arith}
use mathlib.Core.Path.{refl}
use Rattle.records.proofs.Packing.{Sized, stores}
use borrow.Author.Rules.{rules}
use Rattle.records.proofs.record_of.Goals as goal

pub returns : goal.returns
returns c =
    let sized : Sized c.args.p =
    record { targets = search rules; colours = search rules; sets = search rules; quiet_lt = omega arith } in
    stores _ (sized) _ _ _ _ _ refl refl c.put_bytes.ensures c.put_bytes-2.ensures c.put_flags.ensures c.quiet_flags-quiet.ensures c.put_flags-2.ensures
