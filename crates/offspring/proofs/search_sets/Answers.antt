use Rattle.offspring.proofs.Looking.{searching-none, searching-low, searching-greatest, searching-more, searching-short, searching-all, empty-none}
use mathlib.Core.Path.{refl, ◌∙◌}
use native.Mathlib.Omega.{arith}
use Rattle.offspring.proofs.search_sets.Goals as goal

pub loop-end-init : goal.loop-end-init
loop-end-init c = (refl, refl, refl, refl, λ p parts g is l. searching-none _ g.node l is (omega (arith, c.ranges.h.fits)) (λ t b. empty-none t) c.add_smaller.ensures c.end-end.ensures)

pub overflow_cast-s : goal.overflow_cast-s
overflow_cast-s c =
    let k = c.requires.policy in
    let w = c.loop-end.invariant.4 k.0 k.1 k.2 k.3 k.4 in
    omega (arith, w.end_is.most, c.loop-end-test.true)

pub search_set-requires : goal.search_set-requires
search_set-requires c =
    let k = c.requires.policy in
    let w = c.loop-end.invariant.4 k.0 k.1 k.2 k.3 k.4 in
    let low = searching-low w c.loop-end-test.true in
    record {
      policy = (k.0, k.1, k.2, w.listed, searching-greatest w c.loop-end-test.true);
      places = (omega (arith, low, k.3, c.ranges.h.fits), omega (arith, low, k.3, c.requires.places, c.loop-end.invariant.2, c.loop-end-test.true));
    }

pub returns-in_err-found : goal.returns-in_err-found
returns-in_err-found c =
    let some = c.loop-end-test.true in
    λ p parts g is l.
    let w = c.loop-end.invariant.4 p parts g is l in
    rw c.from_residual.ensures (searching-short w some (c.in_err-found.ensures p parts g w.listed (searching-greatest w some)))

pub loop-end-smaller : goal.loop-end-smaller
loop-end-smaller c =
    let some = c.loop-end-test.true in
    let k = c.requires.policy in
    let w = c.loop-end.invariant.4 k.0 k.1 k.2 k.3 k.4 in
    (searching-more w some (c.in_ok-found.ensures k.0 k.1 k.2 w.listed (searching-greatest w some)) c.end-end-in-loop-end.ensures).1

pub loop-end-preserved : goal.loop-end-preserved
loop-end-preserved c = let some = c.loop-end-test.true in (
  c.search_set.auto.pool ∙ c.loop-end.invariant.0,
  c.search_set.auto.hues ∙ c.loop-end.invariant.1,
  c.search_set.auto.spans ∙ c.loop-end.invariant.2,
  c.search_set.auto.kids ∙ c.loop-end.invariant.3,
  λ p parts g is l.
      let w = c.loop-end.invariant.4 p parts g is l in
      (searching-more w some (c.in_ok-found.ensures p parts g w.listed (searching-greatest w some)) c.end-end-in-loop-end.ensures).0,
)

pub returns : goal.returns
returns c = λ p parts g is l. searching-all (c.loop-end.invariant.4 p parts g is l) g.node c.loop-end-test.false
