use Rattle.looks.proofs.Spans.{coloured}
use Rattle.looks.proofs.with_colour.Goals as goal

pub returns : goal.returns
returns c = coloured c.args.used c.args.c c.args.i c.has.ensures c.requires.1 c.with_if.ensures
