-- `read_name` meets its contract: the bytes before byte i are in the name, and no backslash is open. Assumes nothing.
use Prim.Native.Nat.{◌-◌}
use mathlib.Core.Bool.{false}
use lib.ListN.{length}
use Rattle.hanoi_tokens.proofs.Names.{Quoted}
use Rattle.hanoi_tokens.proofs.read_name.Given as goal

abbrev pub invariant-loop-i : goal.invariant-loop-i
invariant-loop-i l = Quoted l.text l.at l.from l.i false

abbrev pub decreases-loop-i : goal.decreases-loop-i
decreases-loop-i l = length l.text - l.i
