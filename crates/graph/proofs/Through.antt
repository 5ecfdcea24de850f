-- The largest cycle through a state inside an edge set: it is a cycle with that state where it is not empty, each cycle with the state inside
-- the set lies inside it, and it is the same for each of its states. Assumes nothing.
use Prim.Native.Nat.{ℕ, ◌^◌, ◌<◌}
use mathlib.Core.Path.{◌≡◌, refl, sym, ◌∙◌, subst}
use mathlib.Core.Logic.{◌⊎◌, inl, inr, ◌≢◌}
use mathlib.Core.Bool.{true, ◌&&◌}
use mathlib.Core.List.{List, [], ◌∷◌, ◌++◌, Memᴰ}
use Rattle.lists.proofs.Bools.{and_l, and_r, both}
use Rattle.masks.specs.Masks.{has, inside, members}
use Rattle.masks.proofs.Bits.{inside-all, all-inside, inside-antisym}
use Rattle.masks.proofs.MaskOf.{has-mask-of, mask-of-lt, mask-of-some}
use Rattle.masks.proofs.Members.{some-nonzero, none_or_some, members-has, members-lt, has-members}
use Rattle.policy.specs.declared.Policy.{Policy}
use Rattle.policy.specs.Policies.{edges, source, target_of}
use Rattle.graph.specs.Cycles.{Path, reach, is_cycle, contains}
use Rattle.graph.specs.Through.{cycle_through}
use Rattle.graph.proofs.Paths.{path_join, path-weaken, reach-sound, reach-complete}
use Rattle.graph.proofs.Cycles.{Targets, cycle-edge, cycle-path, path-cycle, contains-some, some-contains, contains-inside}

module _ (p : Policy) where
  -- paths of m's edges
  abbrev pub Leads : ℕ → ℕ → ℕ → Type 0
  Leads m u v = (w : List ℕ) × Path p (members (edges p) m) u w v

  pub leads-join : (m u v z : ℕ) → Leads m u v → Leads m v z → Leads m u z
  leads-join m u v z a b = (a.0 ++ b.0, path_join p (members (edges p) m) u a.0 v b.0 z a.1 b.1)

  pub leads-edge : (m e : ℕ) → e < edges p → has m e ≡ true → Leads m (source p e) (target_of p e)
  leads-edge m e l t = (e ∷ [], (refl, has-members (edges p) m e l t, refl))

  leads-up : (a b u v : ℕ) → inside a b ≡ true → Leads a u v → Leads b u v
  leads-up a b u v i r = (r.0, path-weaken p (members (edges p) a) (members (edges p) b) (λ e k. has-members (edges p) b e (members-lt (edges p) a e k) (inside-all a b i e (members-has (edges p) a e k))) u r.0 v r.1)

  -- a path from a state comes to a state
  pub leads-state : Targets p → (m u : ℕ) (w : List ℕ) (v : ℕ) → u < p.states → Path p (members (edges p) m) u w v → v < p.states
  leads-state targets m u [] v l a = subst (λ (x : ℕ). x < p.states) a l
  leads-state targets m u (e ∷ w) v l a = leads-state targets m (target_of p e) w v (targets e (members-lt (edges p) m e a.1)) a.2

  -- ---- its edges
  pub through-some : (m v e : ℕ) → has (cycle_through p m v) e ≡ true → (e < edges p) × (has m e ≡ true) × Leads m v (source p e) × Leads m (target_of p e) v
  unfolding cycle_through
  through-some m v e h =
      let r = mask-of-some (λ (f : ℕ). has m f && has (reach p es v) (source p f) && has (reach p es (target_of p f)) v) (edges p) e h in
      let a : has m e && has (reach p es v) (source p e) ≡ true = and_l (has m e && has (reach p es v) (source p e)) _ r.1 in (
        r.0,
        and_l (has m e) _ a,
        reach-sound p es v (source p e) (and_r (has m e) _ a),
        reach-sound p es (target_of p e) v (and_r (has m e && has (reach p es v) (source p e)) _ r.1),
      )
    where
      es : List ℕ
      es = members (edges p) m

  pub through-lt : (m v : ℕ) → cycle_through p m v < 2 ^ edges p
  unfolding cycle_through
  through-lt m v = mask-of-lt _ (edges p)

  pub through-inside : (m v : ℕ) → inside (cycle_through p m v) m ≡ true
  through-inside m v = all-inside (cycle_through p m v) m (λ e t. (through-some m v e t).1)

  -- a set that contains a state is not empty
  pub contains-nonzero : (u m : ℕ) → contains p u m ≡ true → m ≢ 0
  contains-nonzero u m on = let r = contains-some p u m on in some-nonzero m r.0 r.2

  module _ (targets : Targets p) (m v : ℕ) (state : v < p.states) where
    pub some-through : (e : ℕ) → e < edges p → has m e ≡ true → Leads m v (source p e) → Leads m (target_of p e) v → has (cycle_through p m v) e ≡ true
    unfolding cycle_through
    some-through e l h a b =
        has-mask-of (λ (f : ℕ). has m f && has (reach p es v) (source p f) && has (reach p es (target_of p f)) v) (edges p) e l
        ∙ both (has m e && has (reach p es v) (source p e)) _
        (both (has m e) _ h (reach-complete p es v state lt a.0 (source p e) a.1))
        (reach-complete p es (target_of p e) (targets e l) lt b.0 v b.1)
      where
        es : List ℕ
        es = members (edges p) m

        lt : (f : ℕ) → Memᴰ f es → target_of p f < p.states
        lt f k = targets f (members-lt (edges p) m f k)

    -- a path of m between states that v leads to and that lead to v stays in it
    path-through : (u : ℕ) (w : List ℕ) (z : ℕ) → Leads m v u → Leads m z v → Path p (members (edges p) m) u w z → Path p (members (edges p) (cycle_through p m v)) u w z
    path-through u [] z a b h = h
    path-through u (e ∷ w) z a b h =
        let l = members-lt (edges p) m e h.1 in
        let t = members-has (edges p) m e h.1 in
        let a' : Leads m v (source p e) = subst (Leads m v) (sym h.0) a in
        let s = some-through e l t a' (leads-join m (target_of p e) z v (w, h.2) b) in
        (h.0, has-members (edges p) (cycle_through p m v) e l s, path-through (target_of p e) w z (leads-join m v (source p e) (target_of p e) a' (leads-edge m e l t)) b h.2)

    -- ---- it is a cycle with v, where it is not empty
    closed-through : (e : ℕ) → has (cycle_through p m v) e ≡ true → (f : ℕ) × (f < edges p) × (has (cycle_through p m v) f ≡ true) × (source p f ≡ v)
    closed-through e t = let r = through-some m v e t in go r.0 r.2.0 r.2.1 r.3
      where
        go : e < edges p → (w : List ℕ) → Path p (members (edges p) m) v w (source p e) → Leads m (target_of p e) v
            → (f : ℕ) × (f < edges p) × (has (cycle_through p m v) f ≡ true) × (source p f ≡ v)
        go l [] a b = (e, l, t, sym a)
        go l (f ∷ w) a b =
            let q = path-through v (f ∷ w) (source p e) ([], refl) (leads-join m (source p e) (target_of p e) v (leads-edge m e l (through-some m v e t).1) b) a in
            (f, members-lt (edges p) (cycle_through p m v) f q.1, members-has (edges p) (cycle_through p m v) f q.1, a.0)

    joined-through : (e f : ℕ) → has (cycle_through p m v) e ≡ true → has (cycle_through p m v) f ≡ true → Leads (cycle_through p m v) (target_of p e) (source p f)
    joined-through e f te tf =
        let ce = through-some m v e te in
        let cf = through-some m v f tf in
        let h = leads-join m (target_of p e) v (source p f) ce.3 cf.2 in
        let a = leads-join m v (source p e) (target_of p e) ce.2 (leads-edge m e ce.0 ce.1) in
        let b = leads-join m (source p f) (target_of p f) v (leads-edge m f cf.0 cf.1) cf.3 in
        (h.0, path-through (target_of p e) h.0 (source p f) a b h.1)

    pub through-cycle : cycle_through p m v ≢ 0 → (is_cycle p (cycle_through p m v) ≡ true) × (contains p v (cycle_through p m v) ≡ true)
    through-cycle nz = (path-cycle p targets (cycle_through p m v) nz (through-lt m v) joined-through, go (none_or_some (edges p) (cycle_through p m v) (λ e t. (through-some m v e t).0)))
      where
        go : (cycle_through p m v ≡ 0) ⊎ ((e : ℕ) × (has (cycle_through p m v) e ≡ true)) → contains p v (cycle_through p m v) ≡ true
        go (inl z) = absurd (nz z)
        go (inr r) = let f = closed-through r.0 r.1 in some-contains p v (cycle_through p m v) f.0 f.1 f.2 f.3

    -- ---- it is the largest
    pub through-largest : (x : ℕ) → is_cycle p x ≡ true → inside x m ≡ true → contains p v x ≡ true → inside x (cycle_through p m v) ≡ true
    through-largest x cy wi on = all-inside x (cycle_through p m v) (λ e t. some-through e (cycle-edge p x cy e t) (inside-all x m wi e t) (leads-up x m v (source p e) wi (to e t)) (leads-up x m (target_of p e) v wi (from e t)))
      where
        g : (e : ℕ) × (e < edges p) × (has x e ≡ true) × (source p e ≡ v)
        g = contains-some p v x on

        to : (e : ℕ) → has x e ≡ true → Leads x v (source p e)
        to e t = subst (λ (u : ℕ). Leads x u (source p e)) g.3 (leads-join x (source p g.0) (target_of p g.0) (source p e) (leads-edge x g.0 g.1 g.2) (cycle-path p x cy g.0 e g.2 t))

        from : (e : ℕ) → has x e ≡ true → Leads x (target_of p e) v
        from e t = subst (Leads x (target_of p e)) g.3 (cycle-path p x cy e g.0 t g.2)

  -- each state of it has it as the largest cycle through that state
  pub through_same : Targets p → (m v u : ℕ) → v < p.states → contains p u (cycle_through p m v) ≡ true → cycle_through p m u ≡ cycle_through p m v
  through_same targets m v u lv on =
      let r = contains-some p u (cycle_through p m v) on in
      let to = (through-some m v r.0 r.2).2 in
      let lu : u < p.states = leads-state targets m v to.0 u lv (subst (Path p (members (edges p) m) v to.0) r.3 to.1) in
      let c = through-cycle targets m v lv (contains-nonzero u (cycle_through p m v) on) in
      let up = through-largest targets m u lu (cycle_through p m v) c.0 (through-inside m v) on in
      let vu = contains-inside p v (cycle_through p m v) (cycle_through p m u) up c.1 in
      let d = through-cycle targets m u lu (contains-nonzero v (cycle_through p m u) vu) in
      inside-antisym (cycle_through p m u) (cycle_through p m v) (through-largest targets m v lv (cycle_through p m u) d.0 (through-inside m u) vu) up
