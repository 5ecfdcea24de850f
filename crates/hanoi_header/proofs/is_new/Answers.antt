use mathlib.Core.Path.{refl, sym}
use Rattle.hanoi_header.proofs.Names.{new-more, new-not}
use Rattle.hanoi_header.proofs.is_new.Goals as goal

pub returns-then-same_bytes : goal.returns-then-same_bytes
returns-then-same_bytes c = rw (new-not c.args.text.now c.args.name c.args.names.now c.loop-old.old-index _ c.loop-old-test.true (sym c.if-same_bytes.ensures)) refl

pub loop-old-preserved : goal.loop-old-preserved
loop-old-preserved c = new-more c.args.text.now c.args.name c.args.names.now c.loop-old.old-index _ c.loop-old-test.true c.loop-old.invariant (sym c.if-same_bytes.ensures)
