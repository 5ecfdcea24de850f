-- `fill_columns` meets its contract. Assumes nothing.
use Prim.Native.Nat.{ℕ, ◌-◌, ◌^◌}
use native.Mathlib.Omega.{arith}
use mathlib.Core.Path.{◌≡◌, refl, sym, ap, ◌∙◌}
use mathlib.Core.List.{List}
use Rattle.policy.specs.declared.Policy.{Policy}
use Rattle.policy.specs.Policies.{edges, full, legal}
use mathlib.Core.Bool.{true}
use lib.ListN.{take}
use Rattle.policy.proofs.Laws.{edges_le}
use Rattle.graph.specs.declared.Graph.{Graph}
use Rattle.graph.specs.Through.{GraphOf, EndsOf}
use Rattle.graph.proofs.CodeLaws.{own_graph}
use Rattle.components.specs.Components.{largest_in}
use Rattle.components.specs.Finding.{Found}
use Rattle.components.proofs.Finding.{found_first}
use Rattle.candidates.specs.Candidates.{root_candidates}
use Rattle.listing.proofs.Appending.{found-few, found-length}
use Rattle.roots.proofs.Roots.{roots-none, space-of}
use Rattle.columns.proofs.fill_columns.Goals as goal

-- the cycles found are those of the policy lent
found : (g : Graph) {m k : ℕ} {t₀ t : List ℕ} → ((p : Policy) → GraphOf p g.policy.now.states g.policy.now.letters g.policy.now.target → EndsOf p g.out g.into → Found p m t₀ t k) → Found g.policy.now m t₀ t k
found g f = f g.policy.now (own_graph g.policy.now g.lawful) g.ends

-- the roots are the largest cycles of all edges
rooted : (p : Policy) → legal p ≡ true → {n m k : ℕ} {t₀ t : List ℕ} → n ≡ edges p → m ≡ 2 ^ n - 1 → Found p m t₀ t k → take k t ≡ root_candidates p
unfolding full root_candidates
rooted p lawful {n} {m} en em f = found_first p lawful f ∙ ap (largest_in p) (em ∙ ap (λ (x : ℕ). 2 ^ x - 1) en)

pub full-requires : goal.full-requires
full-requires c = let g = c.args.g.now in omega (arith, c.edges-n.ensures, edges_le g.policy.now g.lawful)

pub fill_cycles-rooted-requires : goal.fill_cycles-rooted-requires
fill_cycles-rooted-requires c = let g = c.args.g.now in record { policy = (g.policy.now, own_graph g.policy.now g.lawful, g.ends); places = (refl, refl) }

pub slice_bounds-roots-end : goal.slice_bounds-roots-end
slice_bounds-roots-end c = let g = c.args.g.now in omega (arith, found-few g.policy.now g.lawful _ (found g c.fill_cycles-rooted.ensures.0), (found g c.fill_cycles-rooted.ensures.0).long)

pub slice_bounds-fill_within-end : goal.slice_bounds-fill_within-end
slice_bounds-fill_within-end c = let g = c.args.g.now in sym (found-length g.policy.now g.lawful _ (found g c.fill_cycles-rooted.ensures.0))

pub fill_within-requires : goal.fill_within-requires
fill_within-requires c =
    let a = c.args in
    let g = a.g.now in
    record { roots = rooted g.policy.now g.lawful c.edges-n.ensures c.full.ensures (found g c.fill_cycles-rooted.ensures.0); begun = (a.masks.now, a.parents.now, roots-none g.policy.now a.masks.now a.parents.now c.requires); space = space-of 24 312 refl refl refl refl refl (omega arith) (omega arith) }

pub returns-then-g : goal.returns-then-g
returns-then-g c = let a = c.args in c.fill_within.ensures a.masks.now a.parents.now (roots-none a.g.now.policy.now a.masks.now a.parents.now c.requires)

pub slice_bounds-roots-end-2 : goal.slice_bounds-roots-end-2
slice_bounds-roots-end-2 c = let g = c.args.g.now in omega (arith, found-few g.policy.now g.lawful _ (found g c.fill_cycles-rooted.ensures.0), (found g c.fill_cycles-rooted.ensures.0).long)

pub slice_bounds-fill_within-end-2 : goal.slice_bounds-fill_within-end-2
slice_bounds-fill_within-end-2 c = let g = c.args.g.now in sym (found-length g.policy.now g.lawful _ (found g c.fill_cycles-rooted.ensures.0))

pub fill_within-requires-2 : goal.fill_within-requires-2
fill_within-requires-2 c =
    let a = c.args in
    let g = a.g.now in
    record { roots = rooted g.policy.now g.lawful c.edges-n.ensures c.full.ensures (found g c.fill_cycles-rooted.ensures.0); begun = (a.masks.now, a.parents.now, roots-none g.policy.now a.masks.now a.parents.now c.requires); space = space-of 64 832 refl refl refl refl refl (omega arith) (omega arith) }

pub returns : goal.returns
returns c = let a = c.args in c.fill_within-2.ensures a.masks.now a.parents.now (roots-none a.g.now.policy.now a.masks.now a.parents.now c.requires)
