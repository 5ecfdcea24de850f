-- `collections::add_without` meets its contract: the set that is added is h without i. Assumes nothing.
use Prim.Native.Nat.{ℕ}
use mathlib.Core.Path.{ap, ap₂, ◌∙◌}
use mathlib.Core.Bool.{Bool, ◌&&◌, ◌||◌}
use lib.Dec.{eqb}
use Rattle.collections.specs.Collections.{has_set}
use Rattle.collections.proofs.add_without.Goals as goal

pub returns : goal.returns
returns c =
    let a = c.args in
    let s = c.set_without-s.ensures in
    let b = ap₂ ◌&&◌ c.has.ensures (c.has-2.ensures ∙ ap (has_set a.within.now) s) in
    (c.add_if.ensures.0, λ d l. c.add_if.ensures.1 d l ∙ ap₂ (λ (x : Bool) (y : ℕ). has_set a.t.now d || (x && eqb d y)) b s)
