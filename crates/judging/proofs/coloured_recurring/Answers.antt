use native.Mathlib.Omega.{arith}
use Rattle.std.proofs.Common.{◌<◌, sym, subst}
use borrow.Author.Tests.{not-true, not-false}
use Rattle.recurrence.proofs.Seeking.{search_left}
use Rattle.policy.proofs.Laws.{legal-counts}
use Rattle.judging.proofs.Colours.{ColoursSearched, colours-start, colours-within, colours_few, colours-next, colours-found}
use Rattle.judging.proofs.coloured_recurring.Goals as goal

pub loop-search-init : goal.loop-search-init
loop-search-init c =
    subst (ColoursSearched c.args.p.now c.args.period.now c.args.state) (sym c.new-search.ensures) (colours-start c.args.p.now c.args.period.now c.args.state c.requires.legal c.requires.among)

pub coloured_word-one-requires-clause-among : goal.coloured_word-one-requires-clause-among
coloured_word-one-requires-clause-among c =
    colours-within c.args.p.now c.args.period.now c.args.state c.requires.legal c.requires.among c.loop-search.search c.loop-search.invariant (not-true _ c.loop-search-test.true)

pub next-search-requires : goal.next-search-requires
next-search-requires c =
    let few = colours_few c.args.p.now c.args.period.now c.args.state c.requires.legal c.requires.among c.loop-search.search c.loop-search.invariant (not-true _ c.loop-search-test.true) in
    let states = (legal-counts c.args.p.now c.requires.legal).states_few in
    (omega (arith, few, states), omega (arith, few, states))

-- after the round
after : (c : goal.After-next-search) → let l = c.before.before.before.before.before.before in let a = l.args in
    ColoursSearched a.p.now a.period.now a.state c.next-search.result × (search_left a.p.now.states c.next-search.result < search_left a.p.now.states l.loop-search.search)
after c =
    colours-next c.args.p.now c.args.period.now c.args.state c.requires.legal c.requires.among c.loop-search.search c.loop-search.invariant (not-true _ c.loop-search-test.true)
    c.coloured_word-one.result c.coloured_word-one.ensures _ c.next-search.ensures

pub loop-search-smaller : goal.loop-search-smaller
loop-search-smaller c = (after c).1

pub loop-search-preserved : goal.loop-search-preserved
loop-search-preserved c = (after c).0

pub returns : goal.returns
returns c = colours-found c.args.p.now c.args.period.now c.args.state c.loop-search.search c.loop-search.invariant (not-false _ c.loop-search-test.false)
