use Rattle.std.proofs.Common.{◌+◌, ◌<◌, sym, ap, ◌∙◌, subst, drop}
use Rattle.judging.specs.declared.Coloured.{Coloured}
use Rattle.judging.specs.Rounds.{coloured_step, coloured_after}
use Rattle.judging.proofs.Turns.{range_at, through-turn, through-end}
use Rattle.judging.proofs.Colours.{step-within}
use Rattle.judging.proofs.coloured_word.Goals as goal

pub coloured_with-t-requires-clause-letter : goal.coloured_with-t-requires-clause-letter
coloured_with-t-requires-clause-letter c = range_at c.args.p.now.letters c.args.word.now c.requires.range c.loop-letter.letter-index c.loop-letter-test.true

pub loop-letter-preserved : goal.loop-letter-preserved
loop-letter-preserved c =
    let p = c.args.p.now in
    let l = c.loop-letter in
    record {
      among = subst (λ (m : Coloured). m.state < p.states) (sym c.coloured_with-t.ensures) (step-within p c.requires.legal l.t _ l.invariant.among);
      leads = ap (coloured_after p (drop (l.letter-index + 1) c.args.word.now)) c.coloured_with-t.ensures
          ∙ sym (through-turn (coloured_step p) c.args.word.now l.letter-index l.t c.loop-letter-test.true)
          ∙ l.invariant.leads;
    }

pub returns : goal.returns
returns c =
    let l = c.loop-letter in
    sym (through-end (coloured_step c.args.p.now) c.args.word.now l.letter-index l.t c.loop-letter-test.false) ∙ l.invariant.leads
