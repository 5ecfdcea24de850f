-- `offspring::find_children` meets its contract: children have the other verdict than the node. Assumes nothing.
use Prim.Native.Nat.{ℕ}
use mathlib.Core.Bool.{true, false}
use mathlib.Core.List.{List}
use mathlib.Core.Path.{◌≡◌, ap, ◌∙◌}
use native.Mathlib.Omega.{arith}
use Rattle.policy.specs.declared.Policy.{Policy}
use Rattle.policy.specs.Policies.{colours_of}
use Rattle.policy.specs.ByColour.{table_colours}
use Rattle.pool.specs.Pool.{PartsOf}
use Rattle.pool.proofs.Pool.{hue-is}
use Rattle.offspring.proofs.Looking.{node_of, node-verdict}
use Rattle.offspring.proofs.find_children.Goals as goal

-- what the table of colours says of n
colours-are : {p : Policy} {states : ℕ} {steps out into by : List ℕ} → PartsOf p states steps out into by → (n : ℕ) {h : ℕ} → h ≡ table_colours by n → h ≡ colours_of p n
colours-are {p} {by = by} s n e = e ∙ ap (λ (f : ℕ → ℕ). f n) (hue-is p s.graph.lawful by s.by_is)

pub search_sets-requires : goal.search_sets-requires
search_sets-requires c =
    let k = c.requires.policy in
    let e = colours-are k.1 c.args.n c.colours_in-h.ensures in
    record {
      policy = (k.0, k.1, record { node = node_of k.1.graph.lawful k.2 k.3 k.4 true (node-verdict k.0 _ k.2 e true c.if-r-h.true); states_in = k.5 }, e, k.7);
      places = omega (arith, e, k.6);
    }

pub returns-then-r-h : goal.returns-then-r-h
returns-then-r-h c =
    λ p parts is a full own l.
    let e = colours-are parts c.args.n c.colours_in-h.ensures in
    c.search_sets.ensures p parts (record { node = node_of parts.graph.lawful is a full true (node-verdict p _ is e true c.if-r-h.true); states_in = own }) e l

pub search_sets-requires-2 : goal.search_sets-requires-2
search_sets-requires-2 c =
    let k = c.requires.policy in
    let e = colours-are k.1 c.args.n c.colours_in-h.ensures in
    record {
      policy = (k.0, k.1, record { node = node_of k.1.graph.lawful k.2 k.3 k.4 false (node-verdict k.0 _ k.2 e false c.if-r-h.false); states_in = k.5 }, e, k.7);
      places = omega (arith, e, k.6);
    }

pub returns : goal.returns
returns c =
    λ p parts is a full own l.
    let e = colours-are parts c.args.n c.colours_in-h.ensures in
    c.search_sets-2.ensures p parts (record { node = node_of parts.graph.lawful is a full false (node-verdict p _ is e false c.if-r-h.false); states_in = own }) e l
