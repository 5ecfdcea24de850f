-- Paths and cycles of a policy's graph (document 01, "Cycles and the forest").
use Rattle.std.specs.Prelude.{ℕ, zero, suc, ◌^◌, ◌≡◌, ◌↔◌, Bool, true, not, ◌&&◌, cond, eqb, ltb}
use mathlib.Core.List.{List, [], ◌∷◌, Memᴰ}
use Rattle.lists.specs.Lists.{any, all, filter, below}
use Rattle.masks.specs.Masks.{has, insert, members, submasks}
use Rattle.policy.specs.declared.Policy.{Policy}
use Rattle.policy.specs.Policies.{edges, source, target_of}

module _ (p : Policy) where
  -- the edges w, each one of es, lead from u to v: each starts where the one before ends
  abbrev pub Path : List ℕ → ℕ → List ℕ → ℕ → Type 0
  Path es u [] v = u ≡ v
  Path es u (e ∷ w) v = (source p e ≡ u) × Memᴰ e es × Path es (target_of p e) w v

  -- a cycle: a non-empty edge set that some closed path uses exactly
  pub record Cycle (m : ℕ) : Type 0 where
    pub first : ℕ
    pub rest : List ℕ
    pub closed : Path (below (edges p)) (source p first) (first ∷ rest) (source p first)
    pub exact : (e : ℕ) → (has m e ≡ true) ↔ Memᴰ e (first ∷ rest)

  -- ---- the test for a cycle
  -- a set of states, with the targets of the edges of es that leave it
  unfoldable pub spread : List ℕ → ℕ → ℕ
  spread [] s = s
  spread (e ∷ es) s = let r = spread es s in cond (has s (source p e)) (insert r (target_of p e)) r

  unfoldable pub closure : ℕ → List ℕ → ℕ → ℕ
  closure zero es s = s
  closure (suc k) es s = spread es (closure k es s)

  -- the states that the edges of es reach from v
  unfoldable pub reach : List ℕ → ℕ → ℕ
  reach es v = closure p.states es (2 ^ v)

  -- non-empty, only edges of the policy, and each edge is reached from each one inside the set
  unfoldable pub is_cycle : ℕ → Bool
  is_cycle m = let es = members (edges p) m in
      not (eqb m 0) && ltb m (2 ^ edges p) && all (λ e. let r = reach es (target_of p e) in all (λ f. has r (source p f)) es) es

  -- a set of edges contains a state if one of them leaves it
  unfoldable pub contains : ℕ → ℕ → Bool
  contains v m = any (λ e. eqb (source p e) v) (members (edges p) m)

  -- the cycles inside m, ascending
  unfoldable pub cycles_in : ℕ → List ℕ
  cycles_in m = filter is_cycle (submasks (edges p) m)
