use mathlib.Core.Path.{refl, sym, ◌∙◌}
use Rattle.judging.proofs.Turns.{range-turn, range-end}
use Rattle.judging.proofs.in_range.Goals as goal

pub loop-letter-init : goal.loop-letter-init
loop-letter-init c = refl

pub loop-letter-preserved : goal.loop-letter-preserved
loop-letter-preserved c = let l = c.loop-letter in sym (range-turn c.args.letters c.args.word.now l.letter-index l.b c.loop-letter-test.true) ∙ l.invariant

pub returns : goal.returns
returns c = let l = c.loop-letter in sym (range-end c.args.letters c.args.word.now l.letter-index l.b c.loop-letter-test.false) ∙ l.invariant
