-- `build` meets its contract. Assumes nothing.
use lib.ListN.{length-replicate}
use Rattle.filling.proofs.build.Goals as goal

pub fill_built-requires : goal.fill_built-requires
fill_built-requires c = record { nodes = c.requires.nodes; room = (c.requires.room, simp length-replicate c.if-count-le64.true) }
