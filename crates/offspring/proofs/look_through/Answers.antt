use mathlib.Core.Path.{refl, ◌∙◌}
use Rattle.offspring.proofs.Looking.{looking-positions, looking-done, looked-of, looked-over, span-from}
use native.Mathlib.Omega.{arith}
use Rattle.offspring.proofs.look_through.Goals as goal

pub look_at-requires : goal.look_at-requires
look_at-requires c =
    let k = c.requires.span in
    let l = c.loop-i.invariant.2 k.0 k.1 k.2 k.3 k.4 in
    record {
      places = (omega (arith, k.3.listed, k.3.long), c.requires.places.0, c.requires.places.1, looking-positions l k.3.long, l.four);
      room = (k.0, k.1, c.args.to, k.2, span-from k.3 c.loop-i.i c.loop-i.invariant.0, omega arith, l);
    }

pub returns-in_err-next : goal.returns-in_err-next
returns-in_err-next c =
    λ p count g r l. rw c.from_residual.ensures (looked-over (c.in_err-next.ensures p count c.args.to g (span-from r c.loop-i.i c.loop-i.invariant.0) (omega arith) (c.loop-i.invariant.2 p count g r l)))

pub loop-i-preserved : goal.loop-i-preserved
loop-i-preserved c = (
  omega (arith, c.loop-i.invariant.0),
  c.look_at.auto.kids ∙ c.loop-i.invariant.1,
  λ p count g r l. (c.in_ok-next.ensures p count c.args.to g (span-from r c.loop-i.i c.loop-i.invariant.0) (omega arith) (c.loop-i.invariant.2 p count g r l)).looking _ refl,
)

pub returns : goal.returns
returns c =
    λ p count g r l. looked-of (looking-done p g.lawful _ g.full _ g.verdict (c.loop-i.invariant.2 p count g r l) (omega arith))
