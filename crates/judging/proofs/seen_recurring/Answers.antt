use native.Mathlib.Omega.{arith}
use Rattle.std.proofs.Common.{ℕ, ◌≡◌, ◌<◌, sym, ap, ◌∙◌, subst, ◌||◌, []}
use borrow.Author.Tests.{not-true, not-false}
use Rattle.recurrence.specs.declared.Search.{Search}
use Rattle.recurrence.specs.Search.{search_from, search_next}
use Rattle.recurrence.proofs.Seeking.{search_left}
use Rattle.running.specs.Running.{row_states}
use Rattle.running.proofs.Laws.{shaped-facts}
use Rattle.judging.specs.Judging.{ever_dangling, least_recurring}
use Rattle.judging.proofs.Rows.{SeenSearched, seen_start, seen-within, seen_few, seen_next, seen-found}
use Rattle.judging.proofs.seen_recurring.Goals as goal

-- the search begins at the state, which is among the rows'
begins : (search : Search) (v n states : ℕ) → search ≡ search_from v 255 → n ≡ states → v < n → search.state < states
begins search v n states e q h = subst (λ (s : Search). s.state < states) (sym e) (subst (λ (n : ℕ). v < n) q h)

pub loop-search-init : goal.loop-search-init
loop-search-init c =
    let r = c.args.r.now in
    let v = c.new-search.result.state in
    subst (λ (s : Search). SeenSearched r.letters r.targets.now r.priorities.now c.args.period.now v c.args.s.dangling s c.args.s.dangling)
    (ap (λ (s : Search). search_from s.state 255) c.new-search.ensures ∙ sym c.new-search.ensures)
    (seen_start r.letters r.targets.now r.priorities.now c.args.period.now v c.args.s.dangling (begins _ _ _ _ c.new-search.ensures r.count_is c.requires.among))

pub seen_word-one-requires-clause-among : goal.seen_word-one-requires-clause-among
seen_word-one-requires-clause-among c =
    let r = c.args.r.now in
    subst (λ (n : ℕ). c.loop-search.search.state < n) (sym r.count_is)
    (seen-within r.letters r.targets.now r.priorities.now c.args.period.now c.new-search.result.state c.args.s.dangling (begins _ _ _ _ c.new-search.ensures r.count_is c.requires.among)
    c.loop-search.search c.loop-search.dangling c.loop-search.invariant (not-true _ c.loop-search-test.true))

pub next-search-requires : goal.next-search-requires
unfolding row_states
next-search-requires c =
    let r = c.args.r.now in
    let few = seen_few r.letters r.targets.now r.priorities.now c.args.period.now c.new-search.result.state c.args.s.dangling (begins _ _ _ _ c.new-search.ensures r.count_is c.requires.among)
    c.loop-search.search c.loop-search.dangling c.loop-search.invariant (not-true _ c.loop-search-test.true) in
    let states = (shaped-facts _ _ _ r.passes).few in
    (omega (arith, few, states), omega (arith, few, states))

-- after the round
after : (c : goal.After-next-search) → let r = c.args.r.now in
    SeenSearched r.letters r.targets.now r.priorities.now c.args.period.now c.new-search.result.state c.args.s.dangling c.next-search.result c.seen_word-one.result.dangling
    × (search_left (row_states r.letters r.targets.now r.priorities.now) c.next-search.result < search_left (row_states r.letters r.targets.now r.priorities.now) c.loop-search.search)
after c =
    let r = c.args.r.now in
    seen_next r.letters r.targets.now r.priorities.now c.args.period.now c.new-search.result.state c.args.s.dangling (begins _ _ _ _ c.new-search.ensures r.count_is c.requires.among)
    c.loop-search.search c.loop-search.dangling c.loop-search.invariant (not-true _ c.loop-search-test.true)
    c.seen_word-one.result c.seen_word-one.ensures c.next-search.result
    (c.next-search.ensures ∙ ap (λ (k : ℕ). search_next c.loop-search.search c.seen_word-one.result.state c.seen_word-one.result.least k 255) c.min-all.ensures)

pub loop-search-smaller : goal.loop-search-smaller
loop-search-smaller c = (after c).1

pub loop-search-preserved : goal.loop-search-preserved
loop-search-preserved c = (after c).0

pub returns : goal.returns
returns c =
    let r = c.args.r.now in
    let q = seen-found r.letters r.targets.now r.priorities.now c.args.period.now c.new-search.result.state c.args.s.dangling c.loop-search.search c.loop-search.dangling c.loop-search.invariant (not-false _ c.loop-search-test.false) in
    let is = ap (λ (s : Search). s.state) c.new-search.ensures in (
      q.0 ∙ ap (λ (v : ℕ). least_recurring r.letters r.targets.now r.priorities.now (record { state = v }) [] c.args.period.now) is,
      q.1 ∙ ap (λ (v : ℕ). c.args.s.dangling || ever_dangling r.letters r.targets.now r.priorities.now (record { state = v }) [] c.args.period.now) is,
    )
