-- Paths: joining, cutting, weakening; and that `reach` finds exactly the states that a path comes to. Assumes nothing.
use Prim.Native.Nat.{ℕ, zero, suc, ◌^◌, ◌<◌}
use native.Mathlib.Omega.{arith}
use mathlib.Core.Path.{◌≡◌, refl, sym, ap, ◌∙◌, subst}
use mathlib.Core.Logic.{◌⊎◌, inl, inr}
use mathlib.Core.Bool.{Bool, true, false, cond}
use mathlib.Core.List.Memᴰ
use mathlib.Core.List.{List, [], ◌∷◌, ◌++◌, Memᴰ}
use lib.Pow.{pow-lt}
use lib.Count.{ones, ones-le}
use Rattle.lists.proofs.Bools.{test, eqb≡, ≡eqb}
use Rattle.masks.specs.Masks.{has, insert}
use Rattle.masks.proofs.Bits.{has-pow, insert-lt, ones-inside}
use Rattle.masks.proofs.Members.{one-member, insert-cases, insert-keeps, insert-adds}
use Rattle.policy.specs.declared.Policy.{Policy}
use Rattle.policy.specs.Policies.{source, target_of}
use Rattle.graph.specs.Cycles.{Path, spread, closure, reach}

-- ---- masks
module _ (p : Policy) where
  -- ---- paths
  pub path_join : (es : List ℕ) (u : ℕ) (w : List ℕ) (v : ℕ) (w' : List ℕ) (z : ℕ) → Path p es u w v → Path p es v w' z → Path p es u (w ++ w') z
  path_join es u [] v w' z a b = rw a b
  path_join es u (e ∷ w) v w' z a b = (a.0, a.1, path_join es (target_of p e) w v w' z a.2 b)

  pub path-mem : (es : List ℕ) (u : ℕ) (w : List ℕ) (v : ℕ) → Path p es u w v → (e : ℕ) → Memᴰ e w → Memᴰ e es
  path-mem es u [] v a e x'' = elim x'' [ ]
  path-mem es u (f ∷ w) v a e (Memᴰ.head k) = Memᴰ.cast k a.1
  path-mem es u (f ∷ w) v a e (Memᴰ.tail m) = path-mem es (target_of p f) w v a.2 e m

  -- a path whose edges are all in fs is a path of fs
  pub path-inner : (es fs : List ℕ) (u : ℕ) (w : List ℕ) (v : ℕ) → ((e : ℕ) → Memᴰ e w → Memᴰ e fs) → Path p es u w v → Path p fs u w v
  path-inner es fs u [] v h a = a
  path-inner es fs u (e ∷ w) v h a = (a.0, h e (Memᴰ.head refl), path-inner es fs (target_of p e) w v (λ f k. h f (Memᴰ.tail k)) a.2)

  pub path-weaken : (es fs : List ℕ) → ((x : ℕ) → Memᴰ x es → Memᴰ x fs) → (u : ℕ) (w : List ℕ) (v : ℕ) → Path p es u w v → Path p fs u w v
  path-weaken es fs h u w v a = path-inner es fs u w v (λ e k. h e (path-mem es u w v a e k)) a

  -- a path cut at one of its edges
  pub path-after : (es : List ℕ) (u : ℕ) (w : List ℕ) (v : ℕ) → Path p es u w v → (e : ℕ) → Memᴰ e w → (b : List ℕ) × Path p es (target_of p e) b v
  path-after es u [] v a e x'' = elim x'' [ ]
  path-after es u (f ∷ w) v a e (Memᴰ.head k) = (w, rw k a.2)
  path-after es u (f ∷ w) v a e (Memᴰ.tail m) = path-after es (target_of p f) w v a.2 e m

  pub path-before : (es : List ℕ) (u : ℕ) (w : List ℕ) (v : ℕ) → Path p es u w v → (e : ℕ) → Memᴰ e w → (b : List ℕ) × Path p es u b (source p e)
  path-before es u [] v a e x'' = elim x'' [ ]
  path-before es u (f ∷ w) v a e (Memᴰ.head k) = ([], rw k (sym a.0))
  path-before es u (f ∷ w) v a e (Memᴰ.tail m) = let r = path-before es (target_of p f) w v a.2 e m in (f ∷ r.0, (a.0, a.1, r.1))

  -- ---- what `reach` has is reached
  -- where a bit of `spread es s` comes from
  abbrev From : List ℕ → ℕ → ℕ → Type 0
  From es s v = (has s v ≡ true) ⊎ ((e : ℕ) × Memᴰ e es × (has s (source p e) ≡ true) × (target_of p e ≡ v))

  pub spread-sound : (es : List ℕ) (s v : ℕ) → has (spread p es s) v ≡ true
      → (has s v ≡ true) ⊎ ((e : ℕ) × Memᴰ e es × (has s (source p e) ≡ true) × (target_of p e ≡ v))
  unfolding spread
  spread-sound [] s v t = inl t
  spread-sound (e ∷ es) s v t = go (test (has s (source p e))) (spread-sound es s v)
    where
      up : From es s v → From (e ∷ es) s v
      up (inl k) = inl k
      up (inr k) = inr (k.0, Memᴰ.tail k.1, k.2, k.3)

      new : has s (source p e) ≡ true → (has (spread p es s) v ≡ true → From es s v) → (has (spread p es s) v ≡ true) ⊎ (target_of p e ≡ v) → From (e ∷ es) s v
      new h ih (inl k) = up (ih k)
      new h ih (inr k) = inr (e, Memᴰ.head refl, h, k)

      go : (has s (source p e) ≡ true) ⊎ (has s (source p e) ≡ false) → (has (spread p es s) v ≡ true → From es s v) → From (e ∷ es) s v
      go (inl h) ih = new h ih (insert-cases (spread p es s) (target_of p e) v (rw h at t))
      go (inr h) ih = up (ih (rw h at t))

  pub closure-sound : (es : List ℕ) (s k v : ℕ) → has (closure p k es s) v ≡ true → (u : ℕ) × (w : List ℕ) × (has s u ≡ true) × Path p es u w v
  unfolding closure
  closure-sound es s zero v t = (v, [], t, refl)
  closure-sound es s (suc k) v t = go (spread-sound es (closure p k es s) v t) (closure-sound es s k)
    where
      go : From es (closure p k es s) v → ((v : ℕ) → has (closure p k es s) v ≡ true → (u : ℕ) × (w : List ℕ) × (has s u ≡ true) × Path p es u w v)
          → (u : ℕ) × (w : List ℕ) × (has s u ≡ true) × Path p es u w v
      go (inl h) ih = ih v h
      go (inr r) ih =
          let q = ih (source p r.0) r.2 in
          (q.0, q.1 ++ (r.0 ∷ []), q.2, path_join es q.0 q.1 (source p r.0) (r.0 ∷ []) v q.3 (refl, r.1, r.3))

  pub reach-sound : (es : List ℕ) (u v : ℕ) → has (reach p es u) v ≡ true → (w : List ℕ) × Path p es u w v
  unfolding reach
  reach-sound es u v t =
      let r = closure-sound es (2 ^ u) p.states v t in
      let e : u ≡ r.0 = eqb≡ u r.0 (sym (has-pow u r.0) ∙ r.2) in
      (r.1, subst (λ (x : ℕ). Path p es x r.1 v) (sym e) r.3)

  -- ---- what is reached is in `reach`
  pub spread-keeps : (es : List ℕ) (s v : ℕ) → has s v ≡ true → has (spread p es s) v ≡ true
  unfolding spread
  spread-keeps [] s v t = t
  spread-keeps (e ∷ es) s v t = go (has s (source p e)) (spread-keeps es s v t)
    where
      go : (b : Bool) → has (spread p es s) v ≡ true → has (cond b (insert (spread p es s) (target_of p e)) (spread p es s)) v ≡ true
      go true q = insert-keeps (spread p es s) (target_of p e) v q
      go false q = q

  pub spread-adds : (es : List ℕ) (s e : ℕ) → Memᴰ e es → has s (source p e) ≡ true → has (spread p es s) (target_of p e) ≡ true
  unfolding spread
  spread-adds [] s e x'' t = elim x'' [ ]
  spread-adds (f ∷ es) s e (Memᴰ.head k) t = rw (← k, t) (insert-adds (spread p es s) (target_of p e))
  spread-adds (f ∷ es) s e (Memᴰ.tail m) t = go (has s (source p f)) (spread-adds es s e m t)
    where
      go : (b : Bool) → has (spread p es s) (target_of p e) ≡ true → has (cond b (insert (spread p es s) (target_of p f)) (spread p es s)) (target_of p e) ≡ true
      go true q = insert-keeps (spread p es s) (target_of p f) (target_of p e) q
      go false q = q

  -- a set that a step leaves alone has all that a path from it comes to
  fixed-path : (es : List ℕ) (s : ℕ) → spread p es s ≡ s → (u : ℕ) (w : List ℕ) (v : ℕ) → has s u ≡ true → Path p es u w v → has s v ≡ true
  fixed-path es s fix u [] v t a = subst (λ (x : ℕ). has s x ≡ true) a t
  fixed-path es s fix u (e ∷ w) v t a =
      fixed-path es s fix (target_of p e) w v (sym (ap (λ (x : ℕ). has x (target_of p e)) fix) ∙ spread-adds es s e a.1 (rw a.0 t)) a.2

  -- the closure is at rest after k steps, or has more than k members
  grows : (es : List ℕ) (s : ℕ) → 0 < ones s → (k : ℕ) → (spread p es (closure p k es s) ≡ closure p k es s) ⊎ (k < ones (closure p k es s))
  unfolding closure
  grows es s pos zero = inr pos
  grows es s pos (suc k) = go (grows es s pos k) (ones-inside (closure p k es s) (closure p (suc k) es s) (spread-keeps es (closure p k es s)))
    where
      go : (spread p es (closure p k es s) ≡ closure p k es s) ⊎ (k < ones (closure p k es s))
          → (closure p k es s ≡ closure p (suc k) es s) ⊎ (ones (closure p k es s) < ones (closure p (suc k) es s))
          → (spread p es (closure p (suc k) es s) ≡ closure p (suc k) es s) ⊎ (suc k < ones (closure p (suc k) es s))
      go (inl f) d = inl (ap (spread p es) f)
      go (inr l) (inl e) = inl (ap (spread p es) (sym e))
      go (inr l) (inr g) = inr (omega arith)

  -- the closure stays within the states
  spread-lt : (es : List ℕ) (s n : ℕ) → ((e : ℕ) → Memᴰ e es → target_of p e < n) → s < 2 ^ n → spread p es s < 2 ^ n
  unfolding spread
  spread-lt [] s n h l = l
  spread-lt (e ∷ es) s n h l = go (has s (source p e)) (spread-lt es s n (λ f m. h f (Memᴰ.tail m)) l)
    where
      go : (b : Bool) → spread p es s < 2 ^ n → cond b (insert (spread p es s) (target_of p e)) (spread p es s) < 2 ^ n
      go true q = insert-lt (spread p es s) (target_of p e) n q (h e (Memᴰ.head refl))
      go false q = q

  pub closure-lt : (es : List ℕ) (s n k : ℕ) → ((e : ℕ) → Memᴰ e es → target_of p e < n) → s < 2 ^ n → closure p k es s < 2 ^ n
  unfolding closure
  closure-lt es s n zero h l = l
  closure-lt es s n (suc k) h l = spread-lt es (closure p k es s) n h (closure-lt es s n k h l)

  pub closure-keeps : (es : List ℕ) (s k v : ℕ) → has s v ≡ true → has (closure p k es s) v ≡ true
  unfolding closure
  closure-keeps es s zero v t = t
  closure-keeps es s (suc k) v t = spread-keeps es (closure p k es s) v (closure-keeps es s k v t)

  pub reach-complete : (es : List ℕ) (u : ℕ) → u < p.states → ((e : ℕ) → Memᴰ e es → target_of p e < p.states)
      → (w : List ℕ) (v : ℕ) → Path p es u w v → has (reach p es u) v ≡ true
  unfolding reach
  reach-complete es u l h w v a = go (grows es (2 ^ u) (one-member u) p.states)
    where
      c : ℕ
      c = closure p p.states es (2 ^ u)

      go : (spread p es c ≡ c) ⊎ (p.states < ones c) → has c v ≡ true
      go (inl f) = fixed-path es c f u w v (closure-keeps es (2 ^ u) p.states u (has-pow u u ∙ ≡eqb u u refl)) a
      go (inr g) = absurd (omega (arith, ones-le p.states c (closure-lt es (2 ^ u) p.states p.states h (pow-lt l))))
