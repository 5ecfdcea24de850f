-- What listing the largest cycles one after the other rests on: what is listed so far, and which states are left. Assumes nothing.
use Prim.Native.Nat.{ℕ, ◌+◌, ◌-◌, ◌^◌, ◌≤◌, ◌<◌}
use native.Mathlib.Omega.{arith}
use native.Mathlib.Decide.{dec_lt}
use mathlib.Core.Path.{◌≡◌, refl, sym, ap, ap₂, ◌∙◌, subst}
use mathlib.Core.Logic.{◌⊎◌, inl, inr, ◌≢◌}
use mathlib.Core.Bool.{true, false, not, ◌&&◌, true≢false, false≢true}
use mathlib.Core.List.{List, map, Memᴰ}
use lib.Bits.{bit_and}
use lib.ListN.{length, get_or, set, length-set}
use lib.Seq.{get_or-set_same, get_or-set_other}
use Rattle.lists.specs.Lists.{below}
use Rattle.lists.proofs.Bools.{test, and_l, and_r, both, not-true}
use Rattle.lists.proofs.Lists.{get_or-map-below}
use Rattle.masks.specs.Masks.{has, minus}
use Rattle.masks.proofs.Bits.{has-and, has-none, has-minus, has-full}
use Rattle.masks.proofs.Members.{full-lt}
use Rattle.policy.specs.declared.Policy.{Policy}
use Rattle.policy.specs.Policies.{colours_of, legal}
use Rattle.policy.proofs.Laws.{legal-counts, legal-target}
use Rattle.graph.specs.Cycles.{contains}
use Rattle.graph.specs.Through.{cycle_through, onward, Rows, EndsOf, cycle_states, between}
use Rattle.graph.proofs.Cycles.{Targets}
use Rattle.graph.proofs.Through.{through-cycle, through_same, contains-nonzero}
use Rattle.graph.proofs.Inside.{contains-lt}
use Rattle.graph.proofs.OnCycle.{off-cycle, on-cycle, states-equal, states_are, between-through}
use Rattle.components.specs.Components.{largest_in}
use Rattle.components.proofs.Components.{some-lowest, largest-in-mem, mem-largest-in}
use Rattle.pool.specs.Pool.{Extends, Appended}

-- from pool₀ and hues₀ with count₀ cycles, some of the largest cycles inside m are listed: those with a state of `among` that is not in `left`. The states of `left` are on cycles, and on
-- none of those listed. Each cycle takes away the lowest state, so these are at least as high as the number of cycles listed.
pub record Listing (p : Policy) (among m : ℕ) (pool₀ hues₀ : List ℕ) (count₀ : ℕ) (pool hues : List ℕ) (left count : ℕ) : Type 0 where
  pub extends : Extends pool₀ count₀ pool count
  pub few : count ≤ count₀ + 16
  pub pool_long : length pool ≡ length pool₀
  pub hues_long : length hues ≡ length hues₀
  pub hues_kept : (i : ℕ) → i < count₀ → get_or hues i 0 ≡ get_or hues₀ i 0
  pub hued : (i : ℕ) → count₀ ≤ i → i < count → get_or hues i 0 ≡ colours_of p (get_or pool i 0)
  pub cycles : (i : ℕ) → count₀ ≤ i → i < count → Memᴰ (get_or pool i 0) (largest_in p m)
  pub apart : (i j : ℕ) → count₀ ≤ i → i < j → j < count → get_or pool i 0 ≢ get_or pool j 0
  pub left_on : (u : ℕ) → has left u ≡ true → (u < p.states) × (has (onward p m u) u ≡ true)
  pub left_high : (u : ℕ) → has left u ≡ true → count ≤ count₀ + u
  pub left_off : (u i : ℕ) → has left u ≡ true → count₀ ≤ i → i < count → contains p u (get_or pool i 0) ≡ false
  pub met : (u : ℕ) → u < p.states → has among u ≡ true → has (onward p m u) u ≡ true → (has left u ≡ true) ⊎ ((i : ℕ) × (count₀ ≤ i) × (i < count) × (contains p u (get_or pool i 0) ≡ true))

module _ (p : Policy) (lawful : legal p ≡ true) (m : ℕ) where
  targets : Targets p
  targets e l = legal-target p lawful e l

  -- ---- the largest cycle through a state
  -- the rows of m
  rows : List ℕ
  rows = map (onward p m) (below 16)

  row-at : (v : ℕ) → v < p.states → get_or rows v 0 ≡ onward p m v
  unfolding rows
  row-at v l = get_or-map-below (onward p m) 16 v 0 (omega (arith, (legal-counts p lawful).states_few))

  rows_are : Rows p m rows
  rows_are = record { row_is = row-at }

  has-row : (v u : ℕ) → v < p.states → has (get_or rows v 0) u ≡ has (onward p m v) u
  has-row v u l = ap (λ (r : ℕ). has r u) (row-at v l)

  -- a state with a cycle through it reaches itself
  open-round : (v : ℕ) → v < p.states → cycle_through p m v ≢ 0 → has (onward p m v) v ≡ true
  open-round v l nz = go (test (has (onward p m v) v))
    where
      go : (has (onward p m v) v ≡ true) ⊎ (has (onward p m v) v ≡ false) → has (onward p m v) v ≡ true
      go (inl t) = t
      go (inr f) = absurd (nz (off-cycle p lawful m v rows rows_are l (has-row v v l ∙ f)))

  -- a largest cycle is the one through each of its states
  mem-through : (x v : ℕ) → Memᴰ x (largest_in p m) → contains p v x ≡ true → x ≡ cycle_through p m v
  mem-through x v k on =
      let r = largest-in-mem p m x k in
      r.2 ∙ sym (through_same p targets m r.0 v r.1 (ap (contains p v) (sym r.2) ∙ on))

  module _ (v : ℕ) (state : v < p.states) (round : has (onward p m v) v ≡ true) where
    own_row : has (get_or rows v 0) v ≡ true
    own_row = has-row v v state ∙ round

    through-on : contains p v (cycle_through p m v) ≡ true
    through-on = (through-cycle p targets m v state (on-cycle p lawful m v rows rows_are state own_row)).1

    through-mem : Memᴰ (cycle_through p m v) (largest_in p m)
    through-mem =
        let y = cycle_through p m v in
        let r = some-lowest p v y through-on in
        mem-largest-in p m r.0 y (contains-lt p lawful r.0 y r.1) (sym (through_same p targets m v r.0 state r.1)) r.2

    -- by the states that v reaches and that reach v
    module _ (s : ℕ) (within : (u : ℕ) → has s u ≡ true → has (onward p m v) u ≡ true) (each : (u : ℕ) → u < p.states → has s u ≡ has (onward p m v) u && has (onward p m u) v) where
      is : s ≡ cycle_states rows v
      is = states-equal p lawful m v rows rows_are state own_row s (λ u h. has-row v u state ∙ within u h) (λ u l. each u l ∙ sym (ap₂ ◌&&◌ (has-row v u state) (has-row u v l)))

      pub found-states : (u : ℕ) → has s u ≡ contains p u (cycle_through p m v)
      found-states u = ap (λ (z : ℕ). has z u) is ∙ states_are p lawful m v rows rows_are state own_row u

      pub found-edges : (out into : List ℕ) → EndsOf p out into → between out into m s p.states ≡ cycle_through p m v
      found-edges out into ends = ap (λ (z : ℕ). between out into m z p.states) is ∙ between-through p lawful m v rows rows_are state own_row out into ends

  -- ---- cycle by cycle
  module _ {among : ℕ} {pool₀ hues₀ : List ℕ} {count₀ : ℕ} where
    -- none yet: `on` has the states on cycles
    pub listing_none : (on left : ℕ) → ((u : ℕ) → u < p.states → has on u ≡ has (onward p m u) u) → left ≡ bit_and on (bit_and among (2 ^ p.states - 1)) → Listing p among m pool₀ hues₀ count₀ pool₀ hues₀ left count₀
    listing_none on left is e = record {
      extends = record { more = omega arith; kept = λ i h. refl };
      few = omega arith;
      pool_long = refl;
      hues_long = refl;
      hues_kept = λ i h. refl;
      hued = λ i h k. absurd (omega arith);
      cycles = λ i h k. absurd (omega arith);
      apart = λ i j h k l. absurd (omega arith);
      left_on = λ u h. let l = full-lt p.states u (and_r (has among u) (has full u) (and_r (has on u) (has among u && has full u) (parts u h))) in (l, sym (is u l) ∙ and_l (has on u) (has among u && has full u) (parts u h));
      left_high = λ u h. omega arith;
      left_off = λ u i h k l. absurd (omega arith);
      met = λ u l k h. inl (at u ∙ both (has on u) (has among u && has full u) (is u l ∙ h) (both (has among u) (has full u) k (has-full p.states u l)));
    }
      where
        full : ℕ
        full = 2 ^ p.states - 1

        at : (u : ℕ) → has left u ≡ has on u && (has among u && has full u)
        at u = ap (λ (z : ℕ). has z u) e ∙ has-and u on (bit_and among full) ∙ ap (λ b. has on u && b) (has-and u among full)

        parts : (u : ℕ) → has left u ≡ true → has on u && (has among u && has full u) ≡ true
        parts u h = sym (at u) ∙ h

    module _ {pool hues : List ℕ} {left count : ℕ} (a : Listing p among m pool₀ hues₀ count₀ pool hues left count) where
      -- while a state v is left, there is a place
      pub listing-room : (v : ℕ) → has left v ≡ true → (v < 16) × (count < count₀ + 16)
      listing-room v h = let l : v < 16 = omega (arith, (a.left_on v h).0, (legal-counts p lawful).states_few) in (l, omega (arith, a.left_high v h))

      -- one more: v is the lowest state that is left, x the largest cycle through it, and s has its states
      pub listing-more : (v x s hue : ℕ) → has left v ≡ true → ((u : ℕ) → u < v → has left u ≡ false) → x ≡ cycle_through p m v → ((u : ℕ) → has s u ≡ contains p u (cycle_through p m v)) → hue ≡ colours_of p x
          → count₀ + 16 ≤ length pool₀ → length hues₀ ≡ length pool₀ → (left₁ : ℕ) → left₁ ≡ minus left s → Listing p among m pool₀ hues₀ count₀ (set pool count x) (set hues count hue) left₁ (count + 1)
      listing-more v x s hue in_left lowest ex es eh room one left₁ e₁ = record {
        extends = record { more = omega (arith, more); kept = λ i h. old i (omega (arith, more)) ∙ a.extends.kept i h };
        few = omega (arith, (listing-room v in_left).1);
        pool_long = length-set pool count x ∙ a.pool_long;
        hues_long = length-set hues count hue ∙ a.hues_long;
        hues_kept = λ i h. old-hue i (omega (arith, more)) ∙ a.hues_kept i h;
        hued = λ i h k. hued i h k (dec_lt i count);
        cycles = λ i h k. cycles i h k (dec_lt i count);
        apart = λ i j h k l. apart i j h k l (dec_lt j count);
        left_on = λ u h. a.left_on u (was u h);
        left_high = λ u h. high u h (dec_lt u v);
        left_off = λ u i h k l. off u i h k l (dec_lt i count);
        met = λ u l k h. met u (a.met u l k h) (test (has s u));
      }
        where
          more : count₀ ≤ count
          more = a.extends.more

          here : v < p.states
          here = (a.left_on v in_left).0

          round : has (onward p m v) v ≡ true
          round = (a.left_on v in_left).1

          new : get_or (set pool count x) count 0 ≡ x
          new = get_or-set_same pool count x 0 (omega (arith, a.pool_long, (listing-room v in_left).1))

          new-hue : get_or (set hues count hue) count 0 ≡ hue
          new-hue = get_or-set_same hues count hue 0 (omega (arith, a.hues_long, (listing-room v in_left).1))

          old : (i : ℕ) → i < count → get_or (set pool count x) i 0 ≡ get_or pool i 0
          old i h = get_or-set_other pool count i x 0 (λ z. omega arith)

          old-hue : (i : ℕ) → i < count → get_or (set hues count hue) i 0 ≡ get_or hues i 0
          old-hue i h = get_or-set_other hues count i hue 0 (λ z. omega arith)

          -- place i is the new one
          at_new : (i : ℕ) → i < count + 1 → (i < count → ⊥) → get_or (set pool count x) i 0 ≡ x
          at_new i h k = let e : i ≡ count = omega arith in ap (λ (j : ℕ). get_or (set pool count x) j 0) e ∙ new

          hued : (i : ℕ) → count₀ ≤ i → i < count + 1 → Dec (i < count) → get_or (set hues count hue) i 0 ≡ colours_of p (get_or (set pool count x) i 0)
          hued i h k (yes l) = old-hue i l ∙ a.hued i h l ∙ ap (colours_of p) (sym (old i l))
          hued i h k (no l) =
              let e : i ≡ count = omega arith in
              ap (λ (j : ℕ). get_or (set hues count hue) j 0) e ∙ new-hue ∙ eh ∙ ap (colours_of p) (sym (at_new i k l))

          cycles : (i : ℕ) → count₀ ≤ i → i < count + 1 → Dec (i < count) → Memᴰ (get_or (set pool count x) i 0) (largest_in p m)
          cycles i h k (yes l) = subst (λ (z : ℕ). Memᴰ z (largest_in p m)) (sym (old i l)) (a.cycles i h l)
          cycles i h k (no l) = subst (λ (z : ℕ). Memᴰ z (largest_in p m)) (sym (at_new i k l ∙ ex)) (through-mem v here round)

          -- those before do not contain v
          apart : (i j : ℕ) → count₀ ≤ i → i < j → j < count + 1 → Dec (j < count) → get_or (set pool count x) i 0 ≢ get_or (set pool count x) j 0
          apart i j h k l (yes q) e = a.apart i j h k q (sym (old i (omega arith)) ∙ e ∙ old j q)
          apart i j h k l (no q) e =
              let f : get_or pool i 0 ≡ cycle_through p m v = sym (old i (omega arith)) ∙ e ∙ at_new j l q ∙ ex in
              true≢false (sym (ap (contains p v) f ∙ through-on v here round) ∙ a.left_off v i in_left h (omega arith))

          -- ---- the states left
          at : (u : ℕ) → has left₁ u ≡ has left u && not (has s u)
          at u = ap (λ (z : ℕ). has z u) e₁ ∙ has-minus left s u

          was : (u : ℕ) → has left₁ u ≡ true → has left u ≡ true
          was u h = and_l (has left u) (not (has s u)) (sym (at u) ∙ h)

          not_on : (u : ℕ) → has left₁ u ≡ true → has s u ≡ false
          not_on u h = not-true (has s u) (and_r (has left u) (not (has s u)) (sym (at u) ∙ h))

          high : (u : ℕ) → has left₁ u ≡ true → Dec (u < v) → count + 1 ≤ count₀ + u
          high u h (yes l) = absurd (true≢false (sym (was u h) ∙ lowest u l))
          high u h (no l) = let f : u ≢ v = λ e. true≢false (sym (ap (has s) e ∙ es v ∙ through-on v here round) ∙ not_on u h) in omega (arith, a.left_high v in_left, f)

          off : (u i : ℕ) → has left₁ u ≡ true → count₀ ≤ i → i < count + 1 → Dec (i < count) → contains p u (get_or (set pool count x) i 0) ≡ false
          off u i h k l (yes q) = ap (contains p u) (old i q) ∙ a.left_off u i (was u h) k q
          off u i h k l (no q) = ap (contains p u) (at_new i l q ∙ ex) ∙ sym (es u) ∙ not_on u h

          met : (u : ℕ) → (has left u ≡ true) ⊎ ((i : ℕ) × (count₀ ≤ i) × (i < count) × (contains p u (get_or pool i 0) ≡ true)) → (has s u ≡ true) ⊎ (has s u ≡ false)
              → (has left₁ u ≡ true) ⊎ ((i : ℕ) × (count₀ ≤ i) × (i < count + 1) × (contains p u (get_or (set pool count x) i 0) ≡ true))
          met u (inl h) (inl t) = inr (count, more, omega arith, ap (contains p u) (new ∙ ex) ∙ sym (es u) ∙ t)
          met u (inl h) (inr f) = inl (at u ∙ both (has left u) (not (has s u)) h (ap not f))
          met u (inr r) q = inr (r.0, r.1, omega (arith, r.2), ap (contains p u) (old r.0 r.2) ∙ r.3)

      -- none left
      pub listing-all : left ≡ 0 → Appended p among m pool₀ hues₀ count₀ pool hues count
      listing-all z = record {
        extends = a.extends;
        few = a.few;
        pool_long = a.pool_long;
        hues_long = a.hues_long;
        hues_kept = a.hues_kept;
        hued = a.hued;
        lists = record { cycles = a.cycles; all = all };
        apart = a.apart;
      }
        where
          all : (x v : ℕ) → Memᴰ x (largest_in p m) → has among v ≡ true → contains p v x ≡ true → (i : ℕ) × (count₀ ≤ i) × (i < count) × (get_or pool i 0 ≡ x)
          all x v k h on = go (a.met v l h (open-round v l (λ e. contains-nonzero p v x on (is ∙ e))))
            where
              l : v < p.states
              l = contains-lt p lawful v x on

              is : x ≡ cycle_through p m v
              is = mem-through x v k on

              go : (has left v ≡ true) ⊎ ((i : ℕ) × (count₀ ≤ i) × (i < count) × (contains p v (get_or pool i 0) ≡ true)) → (i : ℕ) × (count₀ ≤ i) × (i < count) × (get_or pool i 0 ≡ x)
              go (inl t) = absurd (false≢true (sym (ap (λ (s : ℕ). has s v) z ∙ has-none v) ∙ t))
              go (inr r) = (r.0, r.1, r.2, mem-through (get_or pool r.0 0) v (a.cycles r.0 r.1 r.2) r.3 ∙ sym is)
