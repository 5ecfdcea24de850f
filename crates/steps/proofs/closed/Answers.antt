use Rattle.std.proofs.Common.{◌≡◌, ℕ, sym, ap, ◌∙◌, arith, add-one}
use Rattle.steps.specs.Steps.{row_at, turned}
use Rattle.steps.proofs.WordRows.{turned_none, turned-next}
use Rattle.steps.proofs.closed.Goals as goal

pub loop-k-init : goal.loop-k-init
loop-k-init g c = λ v _. turned_none (row_at c.args.w.a c.args.w.b c.args.w.c c.args.w.d) v

pub loop-k-preserved : goal.loop-k-preserved
loop-k-preserved g c =
    let w = c.args.w in
    let f = row_at w.a w.b w.c w.d in
    let t = c.loop-k.joined in
    let u = c.turn-joined.result in
    λ v l. turned-next f (row_at t.a t.b t.c t.d) (row_at u.a u.b u.c u.d) c.loop-k.k (omega (arith, c.requires, c.loop-k-test.true)) c.loop-k.invariant c.turn-joined.ensures v l ∙ ap (λ (k : ℕ). turned f k v) (sym (add-one c.loop-k.k))

pub returns : goal.returns
returns g c =
    let w = c.args.w in
    let done : c.loop-k.k ≡ g.row.N = omega (arith, c.loop-k.auto.k-end, c.loop-k-test.false) in
    λ v l. c.loop-k.invariant v l ∙ ap (λ (k : ℕ). turned (row_at w.a w.b w.c w.d) k v) done
