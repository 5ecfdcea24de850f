use mathlib.Core.Path.{◌≡◌, sym, ap, ◌∙◌}
use mathlib.Core.List.{List}
use Prim.Native.Nat.{ℕ}
use native.Mathlib.Nat.{le_antisymm}
use native.Mathlib.Omega.{arith}
use lib.ListN.{length, get_or}
use Rattle.graph.specs.Through.{edge_rows, join_rows, joined_rows}
use Rattle.graph.proofs.CodeLaws.{Fits, graph-fits, joined-none, joined-more, joined-are, rows_long}
use Rattle.graph.proofs.reach_all.Goals as goal

pub edge_rows-requires : goal.edge_rows-requires
edge_rows-requires c =
    let p = c.args.p.now in
    let f : Fits p.states p.letters p.target = graph-fits c.requires.0.0 p.states p.letters p.target c.requires.0.1 in
    (f.few, f.edges_few, f.are_states)

pub loop-k-init : goal.loop-k-init
loop-k-init c = (omega arith, sym (joined-none _ _))

pub join_rows-requires : goal.join_rows-requires
join_rows-requires c =
    let p = c.args.p.now in
    let f : Fits p.states p.letters p.target = graph-fits c.requires.0.0 p.states p.letters p.target c.requires.0.1 in
    omega (arith, f.few, c.loop-k-test.true)

pub loop-k-preserved : goal.loop-k-preserved
loop-k-preserved c =
    let at = c.loop-k in
    (omega arith, c.join_rows.ensures ∙ ap (λ (l : List ℕ). join_rows l at.k (get_or l at.k 0) 16) at.invariant.1 ∙ sym (joined-more _ _ _))

pub returns : goal.returns
returns c =
    let p = c.args.p.now in
    let m = c.args.m in
    let rows = c.args.rows.now in
    let e : c.loop-k.rows ≡ joined_rows (edge_rows rows p.target p.letters m p.states) 16 p.states = cc (le_antisymm c.loop-k.invariant.0 c.loop-k-test.false) in (
      λ q g. joined-are q m p.states p.letters p.target rows c.loop-k.rows g c.requires.1 e,
      ap length e ∙ rows_long rows p.target p.letters m p.states 16 p.states ∙ c.requires.1,
    )
