-- `states::start_of` meets its contract. Assumes nothing.
use mathlib.Core.Path.{◌≡◌, sym, ◌∙◌}
use native.Mathlib.Omega.{arith}
use lib.ListN.{get_or}
use Rattle.policy.proofs.Laws.{legal-counts}
use Rattle.automaton.specs.Stages.{first_over}
use Rattle.automaton.proofs.Columns.{start-at}
use Rattle.states.proofs.StatesBelow.{start_is, start-few}
use Rattle.states.proofs.start_of.Goals as goal

pub bounds-starts-p : goal.bounds-starts-p
bounds-starts-p c = omega (arith, (legal-counts c.args.p.now c.requires.0).initial_lt, (legal-counts c.args.p.now c.requires.0).states_few)

pub overflow_cast-result-2 : goal.overflow_cast-result-2
overflow_cast-result-2 c =
    let first-is : get_or c.args.starts.now c.args.p.now.initial 0 ≡ first_over c.args.p.now c.args.p.now.initial =
    start-at c.args.p.now c.args.p.now.initial (omega (arith, (legal-counts c.args.p.now c.requires.0).initial_lt)) c.requires.1 in
    omega (arith, first-is, start-few c.args.p.now c.args.p.now.initial c.requires.2)

pub returns : goal.returns
returns c =
    let first-is : get_or c.args.starts.now c.args.p.now.initial 0 ≡ first_over c.args.p.now c.args.p.now.initial =
    start-at c.args.p.now c.args.p.now.initial (omega (arith, (legal-counts c.args.p.now c.requires.0).initial_lt)) c.requires.1 in
    first-is ∙ sym (start_is c.args.p.now c.requires.0)
