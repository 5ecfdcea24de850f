-- `offspring::search_set` meets its contract: the set is listed, and its cycles are looked at. Assumes nothing.
use Rattle.offspring.proofs.Looking.{set-short, set-span, set-looking, set-searched}
use native.Mathlib.Omega.{arith}
use Rattle.offspring.proofs.search_set.Goals as goal

pub returns-then-not-list_new : goal.returns-then-not-list_new
returns-then-not-list_new c =
    λ p parts g l gr. set-short g gr c.requires.places.0 _ c.remove.ensures.0 c.remove.ensures.1 (c.list_new.ensures p parts l) c.if-not-list_new.true

pub overflow_sub-to : goal.overflow_sub-to
overflow_sub-to c =
    let w = c.list_new.ensures c.requires.policy.0 c.requires.policy.1 c.requires.policy.3 in
    let some = w.has_span c.if-not-list_new.false in
    omega (arith, some)

pub look_through-requires : goal.look_through-requires
look_through-requires c =
    let k = c.requires.policy in
    let w = c.list_new.ensures k.0 k.1 k.3 in
    let t = c.if-not-list_new.false in
    record {
      places = (w.pool_is.hues_long, w.pool_is.most);
      span = (k.0, _, k.2.node, set-span k.2 k.4 c.requires.places.0 _ c.remove.ensures.0 c.remove.ensures.1 w t, set-looking k.2 k.4 c.requires.places.0 _ c.remove.ensures.0 c.remove.ensures.1 w t);
    }

pub returns : goal.returns
returns c =
    let low = c.requires.places.0 in
    let t = c.if-not-list_new.false in
    λ p parts g l gr.
    let w = c.list_new.ensures p parts l in
    set-searched g gr low _ c.remove.ensures.0 c.remove.ensures.1 w t
    (c.look_through.ensures p _ g.node (set-span g gr low _ c.remove.ensures.0 c.remove.ensures.1 w t) (set-looking g gr low _ c.remove.ensures.0 c.remove.ensures.1 w t))
