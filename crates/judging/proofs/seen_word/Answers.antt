use Rattle.std.proofs.Common.{ℕ, ◌≡◌, ◌+◌, ◌<◌, sym, ap, ◌∙◌, subst, List, drop}
use Rattle.running.specs.Running.{row_states}
use Rattle.judging.specs.declared.Seen.{Seen}
use Rattle.judging.specs.Rounds.{seen_step, seen_after}
use Rattle.judging.proofs.Turns.{range_at, through-turn, through-end}
use Rattle.judging.proofs.Rows.{step_stays}
use Rattle.judging.proofs.seen_word.Goals as goal

pub seen_with-t-requires-clause-letter : goal.seen_with-t-requires-clause-letter
seen_with-t-requires-clause-letter c = range_at c.args.r.now.letters c.args.word.now c.requires.range c.loop-letter.letter-index c.loop-letter-test.true

stays : (letters : ℕ) (t p : List ℕ) (n : ℕ) (s : Seen) (a : ℕ) → n ≡ row_states letters t p → s.state < n → (seen_step letters t p s a).state < n
stays letters t p n s a e h = subst (λ (n : ℕ). (seen_step letters t p s a).state < n) (sym e) (step_stays letters t p s a (subst (λ (n : ℕ). s.state < n) e h))

pub loop-letter-preserved : goal.loop-letter-preserved
loop-letter-preserved c =
    let r = c.args.r.now in
    let l = c.loop-letter in
    record {
      among = subst (λ (s : Seen). s.state < r.states) (sym c.seen_with-t.ensures) (stays _ _ _ _ _ _ r.count_is l.invariant.among);
      leads = ap (seen_after r.letters r.targets.now r.priorities.now (drop (l.letter-index + 1) c.args.word.now)) c.seen_with-t.ensures
          ∙ sym (through-turn (seen_step r.letters r.targets.now r.priorities.now) c.args.word.now l.letter-index l.t c.loop-letter-test.true)
          ∙ l.invariant.leads;
    }

pub returns : goal.returns
returns c =
    let r = c.args.r.now in
    let l = c.loop-letter in
    sym (through-end (seen_step r.letters r.targets.now r.priorities.now) c.args.word.now l.letter-index l.t c.loop-letter-test.false) ∙ l.invariant.leads
