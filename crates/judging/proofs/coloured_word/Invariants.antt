-- The loop: what the letters to come lead to from here is what the whole word leads to, and the state stays one of the policy's. Assumes nothing.
use Prim.Native.Nat.{◌<◌}
use mathlib.Core.Path.{◌≡◌}
use lib.ListN.{drop}
use Rattle.judging.specs.Rounds.{coloured_after}
use Rattle.judging.proofs.coloured_word.Given as goal

abbrev pub invariant-loop-letter : goal.invariant-loop-letter
invariant-loop-letter l = record {
  among : l.t.state < l.p.states;
  leads : coloured_after l.p (drop l.letter-index l.word) l.t ≡ coloured_after l.p l.word l.initial.t;
}
