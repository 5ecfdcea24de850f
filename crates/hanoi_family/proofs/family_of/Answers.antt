use Prim.Native.Nat.{◌/◌}
use native.Mathlib.Omega.{arith}
use mathlib.Core.Path.{◌≡◌}
use Rattle.hanoi_family.specs.Family.{IsWord}
use Rattle.hanoi_family.proofs.Families.{family-none, family-more, same_word}
use Rattle.hanoi_family.proofs.family_of.Goals as goal
use Rattle.hanoi_family.proofs.family_of.Goals.{then-s-eq0, else-s-eq0}

pub loop-s-init : goal.loop-s-init
loop-s-init c = record { filled = family-none _ _ _ _; current = λ n. c.word_of-word.ensures }

pub loop-s-preserved : goal.loop-s-preserved
loop-s-preserved c =
    let word : IsWord c.args.text.now c.args.at c.args.marks c.args.sets.now (c.loop-s.s / 64) c.if-s-eq0.word = elim c.if-s-eq0.branch [
      | then-s-eq0 w ↦ rw w.word-is w.word_of-word-then-s-eq0.ensures
      | else-s-eq0 w ↦ rw w.word-is (c.loop-s.invariant.current w.if-s-eq0.false)
    ] in
    record {
      filled = family-more _ _ _ _ _ _ _ _ c.loop-s.invariant.filled (omega arith) (omega arith) word c.has.ensures;
      current = λ n. same_word _ _ _ _ _ _ n word;
    }

pub returns : goal.returns
returns c = let e : c.loop-s.s ≡ c.sets_of-s-end.result = omega arith in rw (← c.sets_of-s-end.ensures.0, ← e) c.loop-s.invariant.filled
