-- `graph::own_edges` meets its contract. Assumes nothing.
use Prim.Native.Nat.{ℕ, ◌*◌, ◌%◌, ◌^◌}
use mathlib.Core.Path.{ap, ◌∙◌}
use Rattle.graph.proofs.OnCycle.{first-few, own-moved}
use Rattle.graph.proofs.own_edges.Goals as goal

pub overflow_shl-result : goal.overflow_shl-result
overflow_shl-result c = first-few c.args.letters c.args.v c.requires

pub returns : goal.returns
returns c =
    ap (λ (k : ℕ). k * 2 ^ (c.args.v * c.args.letters) % 2 ^ 64) c.full.ensures ∙ own-moved c.args.letters c.args.v c.requires
