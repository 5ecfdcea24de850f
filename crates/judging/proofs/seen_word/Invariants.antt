-- The loop: what the letters to come lead to from here is what the whole word leads to, and the state stays one of the rows'. Assumes nothing.
use Prim.Native.Nat.{◌<◌}
use mathlib.Core.Path.{◌≡◌}
use lib.ListN.{drop}
use Rattle.judging.specs.Rounds.{seen_after}
use Rattle.judging.proofs.seen_word.Given as goal

abbrev pub invariant-loop-letter : goal.invariant-loop-letter
invariant-loop-letter l = record {
  among : l.t.state < l.r.states;
  leads : seen_after l.r.letters l.r.targets.now l.r.priorities.now (drop l.letter-index l.word) l.t ≡ seen_after l.r.letters l.r.targets.now l.r.priorities.now l.word l.initial.t;
}
