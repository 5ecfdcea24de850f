-- What a state reaches by one edge or more: such paths joined, and that `onward` has exactly the states that they come to. Assumes nothing.
use Prim.Native.Nat.{ℕ, ◌<◌}
use mathlib.Core.Path.{◌≡◌, sym, ◌∙◌, subst}
use mathlib.Core.Bool.{Bool, true, ◌&&◌}
use mathlib.Core.List.{List, [], ◌∷◌}
use lib.Dec.{eqb}
use Rattle.lists.specs.Lists.{any}
use Rattle.lists.proofs.Bools.{and_l, and_r, both, eqb≡, ≡eqb}
use Rattle.lists.proofs.Lists.{any_some, some-any}
use Rattle.masks.specs.Masks.{has, members}
use Rattle.masks.proofs.MaskOf.{has-mask-of, mask-of-some}
use Rattle.masks.proofs.Members.{members-has, members-lt, has-members}
use Rattle.policy.specs.declared.Policy.{Policy}
use Rattle.policy.specs.Policies.{edges, source, target_of}
use Rattle.graph.specs.Cycles.{Path, reach}
use Rattle.graph.specs.Through.{onward}
use Rattle.graph.proofs.Paths.{reach-sound, reach-complete}
use Rattle.graph.proofs.Cycles.{Targets}
use Rattle.graph.proofs.Through.{Leads, leads-join, leads-edge, leads-state}

module _ (p : Policy) where
  -- a path of m's edges, one or more
  abbrev pub Onward : ℕ → ℕ → ℕ → Type 0
  Onward m u x = (e : ℕ) × (e < edges p) × (has m e ≡ true) × (source p e ≡ u) × Leads p m (target_of p e) x

  pub onward-leads : (m u x : ℕ) → Onward m u x → Leads p m u x
  onward-leads m u x r =
      let e = r.0 in
      subst (λ (z : ℕ). Leads p m z x) r.3 (leads-join p m (source p e) (target_of p e) x (leads-edge p m e r.1 r.2) r.4)

  pub onward-join : (m u v x : ℕ) → Onward m u v → Leads p m v x → Onward m u x
  onward-join m u v x r a = (r.0, r.1, r.2, r.3, leads-join p m (target_of p r.0) v x r.4 a)

  pub onward-trans : (m u v x : ℕ) → Onward m u v → Onward m v x → Onward m u x
  onward-trans m u v x a b = onward-join m u v x a (onward-leads m v x b)

  pub leads-onward : (m u v x : ℕ) → Leads p m u v → Onward m v x → Onward m u x
  leads-onward m u v x a r = go a.0 a.1
    where
      go : (w : List ℕ) → Path p (members (edges p) m) u w v → Onward m u x
      go [] q = subst (λ (z : ℕ). Onward m z x) (sym q) r
      go (e ∷ w) q = (e, members-lt (edges p) m e q.1, members-has (edges p) m e q.1, q.0, leads-join p m (target_of p e) v x (w, q.2) (onward-leads m v x r))

  -- ---- the states that they come to
  module _ (m v x : ℕ) where
    es : List ℕ
    es = members (edges p) m

    by-edge : ℕ → Bool
    by-edge e = eqb (source p e) v && has (reach p es (target_of p e)) x

    pub onward-some : has (onward p m v) x ≡ true → (x < p.states) × Onward m v x
    unfolding onward es by-edge
    onward-some h =
        let r = mask-of-some (λ (w : ℕ). any (λ (e : ℕ). eqb (source p e) v && has (reach p es (target_of p e)) w) es) p.states x h in
        let s = any_some by-edge es r.1 in
        let e = s.0 in (
          r.0,
          (e, members-lt (edges p) m e s.1, members-has (edges p) m e s.1, eqb≡ (source p e) v (and_l (eqb (source p e) v) (has (reach p es (target_of p e)) x) s.2), reach-sound p es (target_of p e) x (and_r (eqb (source p e) v) (has (reach p es (target_of p e)) x) s.2)),
        )

    pub some-onward : Targets p → Onward m v x → has (onward p m v) x ≡ true
    unfolding onward es by-edge
    some-onward targets r =
        let e = r.0 in
        let state = leads-state p targets m (target_of p e) r.4.0 x (targets e r.1) r.4.1 in
        has-mask-of (λ (w : ℕ). any (λ (e : ℕ). eqb (source p e) v && has (reach p es (target_of p e)) w) es) p.states x state
        ∙ some-any by-edge es e (has-members (edges p) m e r.1 r.2)
        (both (eqb (source p e) v) (has (reach p es (target_of p e)) x) (≡eqb (source p e) v r.3)
        (reach-complete p es (target_of p e) (targets e r.1) (λ f k. targets f (members-lt (edges p) m f k)) r.4.0 x r.4.1))
