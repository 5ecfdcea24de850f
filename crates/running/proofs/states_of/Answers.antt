-- `states_of` meets its contract: each test that fails denies a part of question 8, and past all of them it is answered yes. Assumes nothing.
use native.Mathlib.Omega.{arith}
use Rattle.running.proofs.Laws.{states-none, states_some}
use Rattle.running.proofs.states_of.Goals as goal
use Rattle.running.proofs.states_of.Goals.{then-letters-lt1-via-then-letters-lt1, then-letters-lt1-via-else-letters-lt1+then-letters-gt8, then-letters-lt1-via-else-letters-lt1+else-letters-gt8+then-targets-priorities, then-targets-k-ne0-via-then-targets-k-ne0, then-targets-k-ne0-via-else-targets-k-ne0+then-states-gt65535}

pub returns-then-letters-lt1 : goal.returns-then-letters-lt1
returns-then-letters-lt1 c = states-none _ _ _ (elim c.then-letters-lt1.branch [
  | then-letters-lt1-via-then-letters-lt1 w ↦ λ s. omega (arith, s.some, w.if-letters-lt1.true)
  | then-letters-lt1-via-else-letters-lt1+then-letters-gt8 w ↦ λ s. omega (arith, s.most, w.if-letters-gt8.true)
  | then-letters-lt1-via-else-letters-lt1+else-letters-gt8+then-targets-priorities w ↦ λ s. w.if-targets-priorities.true s.same
])

pub returns-then-targets-k-ne0 : goal.returns-then-targets-k-ne0
returns-then-targets-k-ne0 c = states-none _ _ _ (elim c.then-targets-k-ne0.branch [
  | then-targets-k-ne0-via-then-targets-k-ne0 w ↦ λ s. w.if-targets-k-ne0.true (rw c.from-k.ensures s.whole)
  | then-targets-k-ne0-via-else-targets-k-ne0+then-states-gt65535 w ↦ λ s. omega (arith, s.few, rw c.from-k.ensures at w.if-states-gt65535.true)
])

pub returns : goal.returns
returns c =
    rw c.from-k.ensures (states_some _ _ _ (record {
      some = c.if-letters-lt1.false;
      most = c.if-letters-gt8.false;
      same = c.if-targets-priorities.false;
      whole = rw c.from-k.ensures at c.if-targets-k-ne0.false;
      few = rw c.from-k.ensures at c.if-states-gt65535.false;
    }))
