use Rattle.looks.proofs.Spans.{below_alike}
use lib.ListN.{get_or}
use mathlib.Core.Logic.{inl, inr}
use mathlib.Core.Path.{refl}
use Rattle.listing.proofs.sets_left.Goals as goal

pub returns-then-used-lt16 : goal.returns-then-used-lt16
returns-then-used-lt16 c = inl refl

pub returns-then-is_uniform : goal.returns-then-is_uniform
returns-then-is_uniform c = let a = c.args in inr (refl, below_alike a.g.now.policy.now.family (get_or a.g.now.by 8 0) c.first_from-from.result a.used c.first_from-from.ensures (c.is_uniform.ensures c.if-is_uniform.true))

pub returns : goal.returns
returns c = inl refl
