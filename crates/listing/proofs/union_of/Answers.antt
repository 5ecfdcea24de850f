use lib.ListN.{length, get_or}
use lib.Bits.{bit_or}
use mathlib.Core.Path.{◌≡◌, ap, ◌∙◌}
use Prim.Native.Nat.{ℕ}
use Rattle.listing.proofs.Appending.{union-start, union-next}
use Rattle.listing.specs.Listing.{union_to}
use native.Mathlib.Omega.{arith}
use Rattle.listing.proofs.union_of.Goals as goal

pub loop-x-init : goal.loop-x-init
loop-x-init c = union-start c.args.cycles.now

pub loop-x-preserved : goal.loop-x-preserved
loop-x-preserved c = c.either-edges.ensures ∙ ap (λ (x : ℕ). bit_or x (get_or c.args.cycles.now c.loop-x.x-index 0)) c.loop-x.invariant ∙ union-next c.args.cycles.now c.loop-x.x-index

pub returns : goal.returns
returns c =
    let last : c.loop-x.x-index ≡ length c.args.cycles.now = omega (arith, c.loop-x-test.false) in
    c.loop-x.invariant ∙ ap (union_to c.args.cycles.now) last
