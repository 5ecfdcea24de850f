-- `masks::with_if` meets its contract: the flag as a number, shifted to the member's place. Assumes nothing.
use Rattle.std.proofs.Common.{ℕ, ◌<◌, ◌^◌, ◌∙◌, sym, subst, arith}
use Rattle.masks.proofs.Bits.{insert-if-lt, with-bit-if}
use Rattle.masks.proofs.with_if.Goals as goal

pub narrow-requires : goal.narrow-requires
narrow-requires g c =
    let w = g.met.M.Mask.width_fits in
    subst (λ (x : ℕ). x < 2 ^ g.M.Mask.width) (sym (with-bit-if c.args.e c.args.b c.wide.ensures.0 (omega (arith, w, c.requires)))) (insert-if-lt (g.M.Mask.number c.args.m) c.args.e g.M.Mask.width c.args.b c.wide.ensures.1 c.requires)

pub returns : goal.returns
returns g c =
    let w = g.met.M.Mask.width_fits in
    c.narrow.ensures ∙ with-bit-if c.args.e c.args.b c.wide.ensures.0 (omega (arith, w, c.requires))
