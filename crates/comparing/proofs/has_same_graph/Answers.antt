-- `has_same_graph` meets its contract. Assumes nothing.
use borrow.Author.Tests.{eq-eqb, ne_eqb}
use Rattle.graph.proofs.SameGraph.{same-graph-is}
use Rattle.comparing.proofs.has_same_graph.Goals as goal

pub returns-then-p-q : goal.returns-then-p-q
returns-then-p-q c = let a = c.args in rw (same-graph-is a.p.now a.q.now) (simp (ne_eqb _ _ c.if-p-q.true))

pub returns-then-p-q-2 : goal.returns-then-p-q-2
returns-then-p-q-2 c =
    let a = c.args in
    rw (same-graph-is a.p.now a.q.now) (simp (eq-eqb _ _ c.if-p-q.false, ne_eqb _ _ c.if-p-q-2.true))

pub returns : goal.returns
returns c =
    let a = c.args in
    rw (same-graph-is a.p.now a.q.now) (simp (eq-eqb _ _ c.if-p-q.false, eq-eqb _ _ c.if-p-q-2.false) c.has_same_targets.ensures)
