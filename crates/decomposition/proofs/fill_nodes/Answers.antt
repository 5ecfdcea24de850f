-- `fill_nodes` meets its contract: masks and parents are in.before, each table is cleared past the nodes, and the priorities are written. Assumes nothing.
use Prim.Native.Nat.{◌≤◌, min}
use native.Mathlib.Omega.{arith}
use mathlib.Core.Path.{◌≡◌, subst}
use Rattle.std.proofs.Common.{Option}
use Rattle.policy.specs.declared.Policy.{Policy}
use Rattle.decomposition.specs.declared.Filled.{Filled}
use Rattle.decomposition.specs.NodeTables.{NodeTables, Fills}
use lib.ListN.{length}
use Rattle.decomposition.proofs.NodeTables.{grown-columns, grown-room, filled-whole, filled_none}
use Rattle.decomposition.proofs.fill_nodes.Goals as goal

-- the policy of the graph
of_policy : {q p : Policy} → q ≡ p → {entry exit : NodeTables} {answer : Option Filled} → Fills q entry answer exit → Fills p entry answer exit
of_policy e {entry} {exit} {answer} f = subst (λ (p : Policy). Fills p entry answer exit) e f

pub fill_columns-count-requires : goal.fill_columns-count-requires
fill_columns-count-requires c = c.requires.1

pub returns-then-places-count : goal.returns-then-places-count
returns-then-places-count c =
    of_policy c.new-g.ensures
    (filled_none c.args.masks.now c.args.parents.now c.args.node_priorities.now c.requires.1 c.requires.2 c.fill_columns-count.ensures c.clear.ensures
    (omega (arith, c.if-places-count.true, c.places.ensures, c.fill_columns-count.auto.masks)))

pub write_priorities-transient-requires : goal.write_priorities-transient-requires
write_priorities-transient-requires c =
    let a = c.args in
    let fits : c.fill_columns-count.result ≤ min (length a.masks.now) 65535 = omega (arith, c.if-places-count.false, c.places.ensures, c.fill_columns-count.auto.masks) in
    record {
      nodes = grown-columns a.masks.now a.parents.now a.node_priorities.now c.requires.1 c.requires.2 c.fill_columns-count.ensures fits c.clear_past.ensures c.clear_past-2.ensures c.clear_past-3.ensures;
      cleared = grown-room a.masks.now a.parents.now a.node_priorities.now c.requires.1 c.requires.2 c.fill_columns-count.ensures fits c.clear_past.ensures c.clear_past-2.ensures c.clear_past-3.ensures;
    }

pub returns : goal.returns
returns c =
    let a = c.args in
    let fits : c.fill_columns-count.result ≤ min (length a.masks.now) 65535 = omega (arith, c.if-places-count.false, c.places.ensures, c.fill_columns-count.auto.masks) in
    of_policy c.new-g.ensures
    (filled-whole a.masks.now a.parents.now a.node_priorities.now c.requires.1 c.requires.2 c.fill_columns-count.ensures fits c.clear_past.ensures c.clear_past-2.ensures c.clear_past-3.ensures c.write_priorities-transient.ensures.lowest c.write_priorities-transient.ensures.table)
