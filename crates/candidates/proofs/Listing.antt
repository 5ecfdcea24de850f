-- The candidates of a root, colour set by colour set: full cycles inside the root, by their verdicts, each once and larger ones first, with the children of each. A child of a
-- listed cycle is full, so it is one of the largest cycles with its colours inside the root; and where these are not looked for, it is listed. Assumes nothing.
use Prim.Native.Nat.{ℕ, zero, suc, ◌+◌, ◌-◌, ◌*◌, ◌≤◌, ◌<◌}
use native.Mathlib.Omega.{arith}
use native.Mathlib.Nat.{suc-mul}
use native.Mathlib.Decide.{ℕ_discrete}
use mathlib.Core.Path.{◌≡◌, refl, sym, ap, ◌∙◌, subst}
use mathlib.Core.Logic.{◌⊎◌, inl, inr, ◌≢◌}
use mathlib.Core.Bool.{Bool, true, false, not, ◌&&◌, cond, true≢false}
use mathlib.Core.List.Memᴰ
use mathlib.Core.List.{List, [], ◌∷◌, Memᴰ}
use lib.Bits.{bit_and}
use lib.ListN.{length}
use Rattle.lists.specs.Lists.{Distinct}
use Rattle.lists.specs.Bools.{differs}
use Rattle.lists.proofs.Bools.{test, and_l, and_r, both, same_or_not, not_itself, differs-same, differs-other}
use Rattle.masks.specs.Masks.{has, inside}
use Rattle.masks.proofs.Bits.{has-and, inside-all, all-inside, inside-refl, inside-trans, inside-antisym, inside-le, properly-inside}
use Rattle.policy.specs.declared.Policy.{Policy}
use Rattle.policy.specs.Policies.{colours_of, in_family, accepting, legal}
use Rattle.policy.specs.ByColour.{edges_in}
use Rattle.policy.proofs.Laws.{legal-target, colours-up, accepting-is, accepting-colours}
use Rattle.policy.proofs.ByColour.{edges-in-colours}
use Rattle.graph.specs.Cycles.{is_cycle, contains}
use Rattle.graph.specs.Through.{cycle_through}
use Rattle.graph.proofs.Cycles.{Targets, contains-inside}
use Rattle.graph.proofs.Through.{through-inside, through-cycle, through-largest, contains-nonzero}
use Rattle.graph.proofs.Inside.{contains-lt}
use Rattle.components.specs.Components.{lowest_is, largest_in}
use Rattle.components.proofs.Components.{lowest-some, some-lowest, largest-in-mem, mem-largest-in, largest-in-few, largest-in-distinct}
use Rattle.forest.specs.Forest.{roots, children}
use Rattle.forest.proofs.Children.{child}
use Rattle.candidates.specs.Candidates.{with_cycles, with_set, candidates_to}
use Rattle.candidates.proofs.Full.{Full, full-cycle, full-state, full-largest, fill, fill-inside, inside-colours}
use Rattle.candidates.proofs.Roots.{in-this-root, root-full}
use Rattle.candidates.proofs.LargerFirst.{Falling}
use Rattle.candidates.proofs.Wanted.{child-largest, cycles-kept, cycles-mem, cycles-few, cycles-distinct, cycles-falling, cycles-child}

module _ (p : Policy) (lawful : legal p ≡ true) where
  targets : Targets p
  targets e l = legal-target p lawful e l

  -- ---- children
  child-inside : (y x : ℕ) → Memᴰ x (children p y) → inside x y ≡ true
  child-inside y x k = properly-inside x y (child p y x k).within

  child-full : (y x : ℕ) → Full p y → Memᴰ x (children p y) → Full p x
  child-full y x f k =
      let cy = (child p y x k).cycle in
      let z = fill p lawful x cy in
      let n = z.0 in
      let i = fill-inside p lawful y f x n cy (child-inside y x k) z.1 in
      subst (Full p) (sym (child-largest p y x n k (full-cycle p lawful n z.1.filled) i (accepting-colours p n x z.1.colours) z.1.above)) z.1.filled

  -- its colours are the lesser mask
  child-lesser : (y x : ℕ) → Memᴰ x (children p y) → colours_of p x < colours_of p y
  child-lesser y x k = go (ℕ_discrete (colours_of p x) (colours_of p y))
    where
      go : Dec (colours_of p x ≡ colours_of p y) → colours_of p x < colours_of p y
      go (yes e) = absurd (not_itself (accepting p y) (accepting-colours p y x (sym e) ∙ (child p y x k).turned))
      go (no n) = omega (arith, inside-le (colours_of p x) (colours_of p y) (colours-up p x y (child-inside y x k)))

  module _ (r : ℕ) (root : Memᴰ r (roots p)) where
    -- ---- the edges of a colour set inside the root
    module _ (c : ℕ) where
      abbrev m : ℕ
      m = bit_and (edges_in p c) r

      in_both : (x : ℕ) → inside x (edges_in p c) ≡ true → inside x r ≡ true → inside x m ≡ true
      in_both x a b = all-inside x m (λ e t. has-and e (edges_in p c) r ∙ both (has (edges_in p c) e) (has r e) (inside-all x (edges_in p c) a e t) (inside-all x r b e t))

      in-set : inside m (edges_in p c) ≡ true
      in-set = all-inside m (edges_in p c) (λ e t. and_l (has (edges_in p c) e) (has r e) (sym (has-and e (edges_in p c) r) ∙ t))

      in-root : inside m r ≡ true
      in-root = all-inside m r (λ e t. and_r (has (edges_in p c) e) (has r e) (sym (has-and e (edges_in p c) r) ∙ t))

      -- a full cycle with exactly these colours inside the root is one of the largest cycles there
      full-found : (x : ℕ) → Full p x → inside x r ≡ true → colours_of p x ≡ c → Memᴰ x (largest_in p m)
      full-found x f i e = mem-largest-in p m u x lt (inside-antisym x (cycle_through p m u) up down) s.2
        where
          s : (u : ℕ) × (contains p u x ≡ true) × (lowest_is p u x ≡ true)
          s = some-lowest p f.state x (full-state p lawful x f)

          u : ℕ
          u = s.0

          lt : u < p.states
          lt = contains-lt p lawful u x s.1

          cy : is_cycle p x ≡ true
          cy = full-cycle p lawful x f

          up : inside x (cycle_through p m u) ≡ true
          up = through-largest p targets m u lt x cy (in_both x (inside-colours p lawful x c cy (subst (λ (d : ℕ). inside d c ≡ true) (sym e) (inside-refl c))) i) s.1

          on : contains p u (cycle_through p m u) ≡ true
          on = contains-inside p u x (cycle_through p m u) up s.1

          few : inside (colours_of p (cycle_through p m u)) (colours_of p x) ≡ true
          few = subst (λ (d : ℕ). inside (colours_of p (cycle_through p m u)) d ≡ true) (sym e)
              (inside-trans (colours_of p (cycle_through p m u)) (colours_of p (edges_in p c)) c
              (colours-up p (cycle_through p m u) (edges_in p c) (inside-trans (cycle_through p m u) m (edges_in p c) (through-inside p m u) in-set)) (edges-in-colours p c))

          down : inside (cycle_through p m u) x ≡ true
          down = full-largest p lawful x f (cycle_through p m u) u (through-cycle p targets m u lt (contains-nonzero p u (cycle_through p m u) on)).0 few s.1 on

      -- and the largest cycles there that have all of these colours are full
      found-full : (x : ℕ) → Memᴰ x (largest_in p m) → colours_of p x ≡ c → Full p x × (inside x r ≡ true)
      found-full x k e = (record { some = nz; state = v; state_lt = s.1; is = is ∙ ap (λ (d : ℕ). cycle_through p (edges_in p d) v) (sym e) }, inside-trans x m r within in-root)
        where
          s : (v : ℕ) × (v < p.states) × (x ≡ cycle_through p m v) × (lowest_is p v x ≡ true)
          s = largest-in-mem p m x k

          v : ℕ
          v = s.0

          nz : x ≢ 0
          nz = (lowest-some p v x s.3).0

          cycle : (is_cycle p x ≡ true) × (contains p v x ≡ true)
          cycle = let c = through-cycle p targets m v s.1 (λ z. nz (s.2 ∙ z)) in (ap (is_cycle p) s.2 ∙ c.0, ap (contains p v) s.2 ∙ c.1)

          within : inside x m ≡ true
          within = subst (λ (z : ℕ). inside z m ≡ true) (sym s.2) (through-inside p m v)

          y : ℕ
          y = cycle_through p (edges_in p c) v

          up : inside x y ≡ true
          up = through-largest p targets (edges_in p c) v s.1 x cycle.0 (inside-trans x m (edges_in p c) within in-set) cycle.1

          on : contains p v y ≡ true
          on = contains-inside p v x y up cycle.1

          cy : is_cycle p y ≡ true
          cy = (through-cycle p targets (edges_in p c) v s.1 (contains-nonzero p v y on)).0

          y-in : inside y m ≡ true
          y-in = in_both y (through-inside p (edges_in p c) v) (in-this-root p lawful r y v root cy (contains-inside p v x r (inside-trans x m r within in-root) cycle.1) on)

          is : x ≡ y
          is = inside-antisym x y up (subst (λ (z : ℕ). inside y z ≡ true) (sym s.2) (through-largest p targets m v s.1 y cy y-in on))

      -- none has other colours
      found-colours : (x : ℕ) → Memᴰ x (largest_in p m) → colours_of p x ≤ c
      found-colours x k =
          let s = largest-in-mem p m x k in
          let i = inside-trans x m (edges_in p c) (subst (λ (z : ℕ). inside z m ≡ true) (sym s.2) (through-inside p m s.0)) in-set in
          inside-le (colours_of p x) c (inside-trans (colours_of p x) (colours_of p (edges_in p c)) c (colours-up p x (edges_in p c) i) (edges-in-colours p c))

      -- ---- a list with the wanted cycles of this set after it
      module _ (other same : List ℕ) where
        set-each : (P : List ℕ → Type 0) → P (with_cycles (colours_of p) c other same (largest_in p m)) → P (with_set p r c other same)
        unfolding with_set
        set-each P a = a

        -- a child of one of the other list is in it
        set-child : (y x : ℕ) → colours_of p x ≡ c → Memᴰ y other → Memᴰ x (children p y) → Memᴰ x (largest_in p m)
            → ((k : ℕ) → Memᴰ k same → (is_cycle p k ≡ true) × (accepting p k ≡ accepting p x)) → Memᴰ x (with_set p r c other same)
        set-child y x e k ch f alike =
            set-each (Memᴰ x) (cycles-child p c other same (largest_in p m) y x e k ch alike (λ z o q. (full-cycle p lawful z (found-full z o q).0, accepting-colours p z x (q ∙ sym e))) f)

    -- ---- what holds after n sets
    pub record Listing (n : ℕ) (l : Bool → List ℕ) : Type 0 where
      pub are : (b : Bool) (x : ℕ) → Memᴰ x (l b) → Full p x × (inside x r ≡ true) × (accepting p x ≡ b) × (colours_of p r - n ≤ colours_of p x)
      pub rooted : Memᴰ r (l (accepting p r))
      pub closed : (b : Bool) (x c : ℕ) → Memᴰ x (l b) → Memᴰ c (children p x) → colours_of p r - n ≤ colours_of p c → Memᴰ c (l (not b))
      pub distinct : (b : Bool) → Distinct (l b)
      pub falling : (b : Bool) → Falling (colours_of p) (l b)
      pub few : length (l true) + length (l false) ≤ 1 + n * p.states

    listing_none : Listing 0 (candidates_to p r 0)
    unfolding candidates_to
    listing_none = record {
      are = λ b x k. let o = one b (differs b (accepting p r)) refl x k in (
        subst (Full p) (sym o.0) (root-full p lawful r root),
        subst (λ (z : ℕ). inside z r ≡ true) (sym o.0) (inside-refl r),
        ap (accepting p) o.0 ∙ o.1,
        omega (arith, ap (colours_of p) o.0),
      );
      rooted = subst (λ (d : Bool). Memᴰ r (cond d [] (r ∷ []))) (sym (differs-same (accepting p r) (accepting p r) refl)) (Memᴰ.head refl);
      closed = λ b x c k ch h. let o = one b (differs b (accepting p r)) refl x k in absurd (omega (arith, child-lesser x c ch, ap (colours_of p) o.0));
      distinct = λ b. alone (differs b (accepting p r));
      falling = λ b. falls (differs b (accepting p r));
      few = count (accepting p r);
    }
      where
        one : (b d : Bool) → differs b (accepting p r) ≡ d → (x : ℕ) → Memᴰ x (cond d [] (r ∷ [])) → (x ≡ r) × (accepting p r ≡ b)
        one b true e x k = absurd (Memᴰ.not-nil k)
        one b false e x k = (Memᴰ.eq_of_singleton k, agree b (accepting p r) e)
          where
            agree : (a d : Bool) → differs a d ≡ false → d ≡ a
            agree true true e = refl
            agree true false e = absurd (true≢false e)
            agree false true e = absurd (true≢false e)
            agree false false e = refl

        alone : (d : Bool) → Distinct (cond d [] (r ∷ []))
        alone true = tt
        alone false = (λ y k. absurd (Memᴰ.not-nil k), tt)

        falls : (d : Bool) → Falling (colours_of p) (cond d [] (r ∷ []))
        falls true = tt
        falls false = (λ y k. absurd (Memᴰ.not-nil k), tt)

        count : (a : Bool) → length (cond (differs true a) [] (r ∷ [])) + length (cond (differs false a) [] (r ∷ [])) ≤ 1 + 0 * p.states
        count true = omega arith
        count false = omega arith

    -- ---- one set more
    module _ (n : ℕ) (h : n < colours_of p r) (l : Bool → List ℕ) (s : Listing n l) where
      -- the set
      abbrev c : ℕ
      c = colours_of p r - 1 - n

      abbrev next : Bool → List ℕ
      next b = cond (inside c (colours_of p r) && not (differs b (in_family p c))) (with_set p r c (l (not b)) (l b)) (l b)

      -- it is looked at for its verdict; for the other verdict, and where the root lacks a colour, nothing changes
      data Turn (b : Bool) : Type 0 where
        looked : in_family p c ≡ b → next b ≡ with_set p r c (l (not b)) (l b) → Turn b
        stayed : (inside c (colours_of p r) ≡ true → in_family p c ≡ not b) → next b ≡ l b → Turn b

      turn : (b : Bool) → Turn b
      turn b = go (test (inside c (colours_of p r))) (same_or_not (in_family p c) b)
        where
          go : (inside c (colours_of p r) ≡ true) ⊎ (inside c (colours_of p r) ≡ false) → (in_family p c ≡ b) ⊎ (in_family p c ≡ not b) → Turn b
          go (inl on) (inl e) = looked e (rw (on, differs-same b (in_family p c) e) refl)
          go (inl on) (inr e) = stayed (λ _. e) (rw (on, differs-other b (in_family p c) e) refl)
          go (inr off) v = stayed (λ on. absurd (true≢false (sym on ∙ off))) (rw off refl)

      next-kept : (b : Bool) (x : ℕ) → Memᴰ x (l b) → Memᴰ x (next b)
      next-kept b x k = go (turn b)
        where
          go : Turn b → Memᴰ x (next b)
          go (looked e q) = subst (Memᴰ x) (sym q) (set-each c (l (not b)) (l b) (Memᴰ x) (cycles-kept p c (l (not b)) (l b) (largest_in p (m c)) x k))
          go (stayed f q) = subst (Memᴰ x) (sym q) k

      next-mem : (b : Bool) (x : ℕ) → Memᴰ x (next b) → Memᴰ x (l b) ⊎ (Memᴰ x (largest_in p (m c)) × (colours_of p x ≡ c) × (in_family p c ≡ b))
      next-mem b x k = go (turn b)
        where
          more : in_family p c ≡ b → Memᴰ x (l b) ⊎ (Memᴰ x (largest_in p (m c)) × (colours_of p x ≡ c)) → Memᴰ x (l b) ⊎ (Memᴰ x (largest_in p (m c)) × (colours_of p x ≡ c) × (in_family p c ≡ b))
          more e (inl o) = inl o
          more e (inr o) = inr (o.0, o.1, e)

          go : Turn b → Memᴰ x (l b) ⊎ (Memᴰ x (largest_in p (m c)) × (colours_of p x ≡ c) × (in_family p c ≡ b))
          go (looked e q) =
              more e (set-each c (l (not b)) (l b)
              (λ (t : List ℕ). Memᴰ x t → Memᴰ x (l b) ⊎ (Memᴰ x (largest_in p (m c)) × (colours_of p x ≡ c)))
              (cycles-mem p c (l (not b)) (l b) (largest_in p (m c)) x) (subst (Memᴰ x) q k))
          go (stayed f q) = inl (subst (Memᴰ x) q k)

      next-child : (b : Bool) (y x : ℕ) → Memᴰ y (l b) → Memᴰ x (children p y) → colours_of p x ≡ c → Memᴰ x (next (not b))
      next-child b y x k ch e = go (turn (not b))
        where
          of-y : Full p y × (inside y r ≡ true) × (accepting p y ≡ b) × (colours_of p r - n ≤ colours_of p y)
          of-y = s.are b y k

          full : Full p x
          full = child-full y x of-y.0 ch

          i : inside x r ≡ true
          i = inside-trans x y r (child-inside y x ch) of-y.1

          verdict : accepting p x ≡ not b
          verdict = (child p y x ch).turned ∙ ap not of-y.2

          not-not : (b : Bool) → not (not b) ≡ b
          not-not true = refl
          not-not false = refl

          go : Turn (not b) → Memᴰ x (next (not b))
          go (looked f q) =
              subst (Memᴰ x) (sym q)
              (set-child c (l (not (not b))) (l (not b)) y x e (subst (λ (d : Bool). Memᴰ y (l d)) (sym (not-not b)) k) ch
              (full-found c x full i e) (λ z o. let a = s.are (not b) z o in (full-cycle p lawful z a.0, a.2 ∙ sym verdict)))
          go (stayed f q) =
              absurd (not_itself (not b) (sym verdict ∙ accepting-is p x ∙ ap (in_family p) e ∙ f (subst (λ (d : ℕ). inside d (colours_of p r) ≡ true) e (colours-up p x r i))))

      next-few : (b : Bool) → (in_family p c ≡ b → length (next b) ≤ length (l b) + p.states) × (in_family p c ≡ not b → length (next b) ≤ length (l b))
      next-few b = go (turn b)
        where
          go : Turn b → (in_family p c ≡ b → length (next b) ≤ length (l b) + p.states) × (in_family p c ≡ not b → length (next b) ≤ length (l b))
          go (looked e q) = (
            λ _. subst (λ (t : List ℕ). length t ≤ length (l b) + p.states) (sym q)
                (set-each c (l (not b)) (l b) (λ (t : List ℕ). length t ≤ length (l b) + p.states)
                (omega (arith, cycles-few p c (l (not b)) (l b) (largest_in p (m c)), largest-in-few p (m c)))),
            λ v. absurd (not_itself b (sym e ∙ v)),
          )
          go (stayed f q) = (λ _. omega (arith, ap length q), λ _. omega (arith, ap length q))

      next-distinct : (b : Bool) → Distinct (next b)
      next-distinct b = go (turn b)
        where
          go : Turn b → Distinct (next b)
          go (looked e q) =
              subst Distinct (sym q)
              (set-each c (l (not b)) (l b) Distinct
              (cycles-distinct p c (l (not b)) (l b) (largest_in p (m c)) (s.distinct b) (largest-in-distinct p lawful (m c)) (λ z o k. omega (arith, found-colours c z k, (s.are b z o).3))))
          go (stayed f q) = subst Distinct (sym q) (s.distinct b)

      next-falling : (b : Bool) → Falling (colours_of p) (next b)
      next-falling b = go (turn b)
        where
          go : Turn b → Falling (colours_of p) (next b)
          go (looked e q) =
              subst (Falling (colours_of p)) (sym q)
              (set-each c (l (not b)) (l b) (Falling (colours_of p))
              (cycles-falling p c (l (not b)) (l b) (largest_in p (m c)) (s.falling b) (λ z o. omega (arith, (s.are b z o).3))))
          go (stayed f q) = subst (Falling (colours_of p)) (sym q) (s.falling b)

      next-are : (b : Bool) (x : ℕ) → Memᴰ x (next b) → Full p x × (inside x r ≡ true) × (accepting p x ≡ b) × (colours_of p r - suc n ≤ colours_of p x)
      next-are b x k = go (next-mem b x k)
        where
          go : Memᴰ x (l b) ⊎ (Memᴰ x (largest_in p (m c)) × (colours_of p x ≡ c) × (in_family p c ≡ b)) → Full p x × (inside x r ≡ true) × (accepting p x ≡ b) × (colours_of p r - suc n ≤ colours_of p x)
          go (inl o) = let a = s.are b x o in (a.0, a.1, a.2, omega (arith, a.3))
          go (inr o) = let a = found-full c x o.0 o.1 in (a.0, a.1, accepting-is p x ∙ ap (in_family p) o.1 ∙ o.2, omega (arith, o.1))

      next-closed : (b : Bool) (x d : ℕ) → Memᴰ x (next b) → Memᴰ d (children p x) → colours_of p r - suc n ≤ colours_of p d → Memᴰ d (next (not b))
      next-closed b x d k ch low = go (next-mem b x k) (ℕ_discrete (colours_of p d) c)
        where
          go : Memᴰ x (l b) ⊎ (Memᴰ x (largest_in p (m c)) × (colours_of p x ≡ c) × (in_family p c ≡ b)) → Dec (colours_of p d ≡ c) → Memᴰ d (next (not b))
          go (inl o) (yes e) = next-child b x d o ch e
          go (inl o) (no e) = next-kept (not b) d (s.closed b x d o ch (omega arith))
          go (inr o) e = absurd (omega (arith, child-lesser x d ch, o.1))

      listing-next : Listing (suc n) next
      listing-next = record {
        are = next-are;
        rooted = next-kept (accepting p r) r s.rooted;
        closed = next-closed;
        distinct = next-distinct;
        falling = next-falling;
        few = go (test (in_family p c));
      }
        where
          go : (in_family p c ≡ true) ⊎ (in_family p c ≡ false) → length (next true) + length (next false) ≤ 1 + suc n * p.states
          go (inl e) = omega (arith, (next-few true).0 e, (next-few false).1 e, s.few, suc-mul n p.states)
          go (inr e) = omega (arith, (next-few true).1 e, (next-few false).0 e, s.few, suc-mul n p.states)

    pub listing-at : (n : ℕ) → n ≤ colours_of p r → Listing n (candidates_to p r n)
    unfolding candidates_to
    listing-at zero h = listing_none
    listing-at (suc n) h = listing-next n (omega arith) (candidates_to p r n) (listing-at n (omega arith))
