-- `collections::accepted` meets its contract: one word, or four. Assumes nothing.
use Prim.Native.Nat.{ℕ}
use native.Mathlib.Omega.{arith}
use mathlib.Core.Bool.{false}
use lib.ListN.{get_or}
use Rattle.collections.proofs.Sets.{one_word}
use Rattle.collections.proofs.accepted.Goals as goal

pub returns-then-sets-le64 : goal.returns-then-sets-le64
returns-then-sets-le64 c = let a = c.args in one_word (λ (d : ℕ). get_or a.family.now d false) a.sets c.accepted_word.result _ c.if-sets-le64.true c.accepted_word.ensures

pub returns : goal.returns
returns c = let few = c.requires in λ d l. c.accepted_words.ensures d (omega arith)
