use Rattle.std.proofs.Common.{ℕ, ◌<◌, ◌^◌, ◌∙◌, sym, subst, arith}
use Rattle.masks.proofs.Bits.{insert-lt, with-bit}
use Rattle.masks.proofs.with.Goals as goal

pub narrow-requires : goal.narrow-requires
narrow-requires g c =
    let w = g.met.M.Mask.width_fits in
    subst (λ (x : ℕ). x < 2 ^ g.M.Mask.width) (sym (with-bit c.args.e c.wide.ensures.0 (omega (arith, w, c.requires)))) (insert-lt (g.M.Mask.number c.args.m) c.args.e g.M.Mask.width c.wide.ensures.1 c.requires)

pub returns : goal.returns
returns g c =
    let w = g.met.M.Mask.width_fits in
    c.narrow.ensures ∙ with-bit c.args.e c.wide.ensures.0 (omega (arith, w, c.requires))
