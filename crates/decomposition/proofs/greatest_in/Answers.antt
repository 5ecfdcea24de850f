use Prim.Native.Nat.{ℕ, ◌-◌, max}
use mathlib.Core.Path.{refl, sym, ap, ◌∙◌}
use lib.ListN.{get_or, take, drop}
use Rattle.lists.proofs.Extremes.{greatest-more}
use Rattle.std.proofs.lemmas.List.{take_all}
use Rattle.lists.specs.Lists.{greatest}
use Rattle.decomposition.proofs.greatest_in.Goals as goal

pub loop-x-init : goal.loop-x-init
unfolding greatest
loop-x-init c = refl

pub loop-x-preserved : goal.loop-x-preserved
loop-x-preserved c =
    let items = take (c.args.to - c.args.from) (drop c.args.from c.args.t.now) in
    c.max-most.ensures ∙ ap (λ (k : ℕ). max k (get_or items c.loop-x.x-index 0)) c.loop-x.invariant ∙ sym (greatest-more items c.loop-x.x-index c.loop-x-test.true)

pub returns : goal.returns
returns c = c.loop-x.invariant ∙ ap greatest (take_all _ _ c.loop-x-test.false)
