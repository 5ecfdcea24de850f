-- `collections::accepted_words` meets its contract. The invariant: each word has its answers from j on, from bit 0 on. Assumes nothing.
use Prim.Native.Nat.{ℕ, ◌+◌, ◌≤◌}
use mathlib.Core.Bool.{Bool, false}
use mathlib.Core.List.{List}
use lib.ListN.{get_or}
use Rattle.collections.proofs.Upward.{Pushing}
use Rattle.collections.proofs.accepted_words.Given as goal

-- the answers, and those from a place on
abbrev pub all : List Bool → ℕ → Bool
all family x = get_or family x false

abbrev pub from : List Bool → ℕ → ℕ → Bool
from family k x = get_or family (k + x) false

abbrev pub invariant-loop-j : goal.invariant-loop-j
invariant-loop-j l = (l.j ≤ 64) × Pushing (all l.family) 64 l.j l.a × Pushing (from l.family 64) 64 l.j l.b × Pushing (from l.family 128) 64 l.j l.c × Pushing (from l.family 192) 64 l.j l.d

abbrev pub decreases-loop-j : goal.decreases-loop-j
decreases-loop-j l = l.j
