-- `trees::copy_tree` meets its contract. Assumes nothing.
use Prim.Native.Nat.{ℕ}
use mathlib.Core.List.{List}
use mathlib.Core.Path.{ap}
use lib.ListN.{set}
use Rattle.trees.proofs.copy_tree.Goals as goal

pub returns : goal.returns
returns c = (c.copy64.ensures, ap (λ (t : List ℕ). set t c.args.at c.args.parent) c.copy_moved16.ensures)
