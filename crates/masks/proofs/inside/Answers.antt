use Rattle.std.proofs.Common.{ℕ, ◌∙◌, ap}
use Rattle.masks.specs.Masks.{inside}
use Rattle.masks.proofs.inside.Goals as goal

pub returns : goal.returns
unfolding inside
returns g c = ap (λ (a : ℕ). inside a c.wide.result) c.wide-a.ensures.0 ∙ ap (inside (g.M.Mask.number c.args.a)) c.wide.ensures.0
