-- The built states written policy state by policy state: the leaves of one state, the states over the policy states below v, and the tables at the end. Assumes nothing.
use Prim.Native.Nat.{ℕ, zero, suc, ◌+◌, ◌-◌, ◌*◌, ◌≤◌, ◌<◌, min}
use native.Mathlib.Omega.{arith}
use native.Mathlib.Nat.{zero-add, le_refl}
use native.Mathlib.Decide.{dec_le}
use native.Mathlib.Numerals.{add-one}
use mathlib.Core.Path.{◌≡◌, refl, sym, ap, ap₂, ◌∙◌, subst}
use mathlib.Core.Logic.{◌≢◌}
use mathlib.Core.Bool.{Bool, true, false, ◌&&◌}
use mathlib.Core.List.{List, [], ◌∷◌, ◌++◌, map, append-nil, append_assoc, map-append, Memᴰ}
use lib.Dec.{ltb, leb}
use lib.ListN.{length, get_or, take, set, replicate, length-append, length-map, length-replicate}
use lib.Seq.{sets, set-set}
use borrow.Author.Tests.{lt-ltb, le-ltb}
use Rattle.std.proofs.Common.{Some, None}
use Rattle.lists.specs.Lists.{filter, flat, below}
use Rattle.lists.proofs.Bools.{le-true, and_l}
use Rattle.lists.proofs.Lists.{below-lt, flat-mem, map-mem}
use Rattle.lists.proofs.Filters.{filter-append, filter-all, filter_none}
use Rattle.lists.proofs.Numbers.{leb-min}
use Rattle.tables.specs.Tables.{padded, zeros, Column, Stored, places}
use Rattle.tables.proofs.Tables.{zeros-same}
use Rattle.tables.proofs.Stores.{stored-none, stored-length, stored-join, stored_one, stored_more}
use Rattle.tables.proofs.Columns.{column-sets, sets-cleared}
use Rattle.policy.specs.declared.Policy.{Policy}
use Rattle.policy.specs.Policies.{legal}
use Rattle.policy.proofs.Laws.{legal-counts}
use Rattle.forest.specs.Forest.{forest}
use Rattle.forest.proofs.Forest.{forest-laws}
use Rattle.automaton.specs.Automaton.{Built, or_else, is_leaf, leaves, states_over, built_states, built, start, state_sources, state_leaves, built_fit}
use Rattle.automaton.specs.Stages.{first_over, state_starts}
use Rattle.automaton.proofs.Columns.{length-sources, length-leaves, length-starts, start-at}
use Rattle.automaton.proofs.Starts.{over-le, first-number}
use Rattle.states.specs.StateTables.{built_below, leaves_below, leaves_over, StatesFilled}

-- ---- the leaves of a state
module _ (p : Policy) (v : ℕ) where
  leaves_all : (n : ℕ) → n ≡ length (forest p) → leaves_below p v n ≡ leaves (forest p) p v
  unfolding leaves_below leaves
  leaves_all n e = ap (λ (k : ℕ). filter (is_leaf (forest p) p v) (below k)) e

  module _ (t₀ t : List ℕ) (at next n : ℕ) where
    -- with no leaf there is one state all the same
    pub over_none : n ≡ length (forest p) → Stored t₀ t at next (leaves_below p v n) → next ≡ at → (t' : List ℕ) → t' ≡ set t at 65535 → Stored t₀ t' at (at + 1) (leaves_over p v)
    unfolding leaves_over
    over_none e s q t' is = go (leaves_below p v n) refl
      where
        go : (l : List ℕ) → leaves_below p v n ≡ l → Stored t₀ t' at (at + 1) (or_else 65535 (leaves (forest p) p v))
        go [] z =
            subst (λ (l : List ℕ). Stored t₀ t' at (at + 1) (or_else 65535 l)) (sym z ∙ leaves_all n e)
            (subst (λ (l : List ℕ). Stored t₀ l at (at + 1) (65535 ∷ [])) (sym (is ∙ ap (λ (l : List ℕ). set l at 65535) (s.now_is ∙ ap (sets t₀ at) z))) (stored_one t₀ at 65535))
        go (x ∷ l) z = absurd (omega (arith, s.next_is, ap length z))

    pub over-some : n ≡ length (forest p) → Stored t₀ t at next (leaves_below p v n) → next ≢ at → Stored t₀ t at next (leaves_over p v)
    unfolding leaves_over
    over-some e s q = go (leaves_below p v n) refl
      where
        go : (l : List ℕ) → leaves_below p v n ≡ l → Stored t₀ t at next (or_else 65535 (leaves (forest p) p v))
        go [] z = absurd (q (omega (arith, s.next_is, ap length z)))
        go (x ∷ l) z = subst (λ (l : List ℕ). Stored t₀ t at next (or_else 65535 l)) (sym z ∙ leaves_all n e) (subst (Stored t₀ t at next) z s)

-- ---- the states over the policy states below v
module _ (p : Policy) where
  below_none : built_below p 0 ≡ []
  unfolding built_below
  below_none = refl

  below_all : built_below p p.states ≡ built p
  unfolding built_below built built_states
  below_all = refl

  flat-last : (vs : List ℕ) (v : ℕ) → flat (map (states_over (forest p) p) (vs ++ (v ∷ []))) ≡ flat (map (states_over (forest p) p) vs) ++ states_over (forest p) p v
  flat-last [] v = append-nil (states_over (forest p) p v)
  flat-last (x ∷ vs) v =
      ap (λ (l : List Built). states_over (forest p) p x ++ l) (flat-last vs v) ∙ sym (append_assoc (states_over (forest p) p x) (flat (map (states_over (forest p) p) vs)) (states_over (forest p) p v))

  below_more : (v : ℕ) → built_below p (v + 1) ≡ built_below p v ++ states_over (forest p) p v
  unfolding built_below
  below_more v = ap (λ (k : ℕ). flat (map (states_over (forest p) p) (below k))) (add-one v) ∙ flat-last (below v) v

  -- their two columns
  over-leaves : (v : ℕ) → map (λ (b : Built). b.leaf) (states_over (forest p) p v) ≡ leaves_over p v
  unfolding states_over leaves_over
  over-leaves v = go (or_else 65535 (leaves (forest p) p v))
    where
      go : (l : List ℕ) → map (λ (b : Built). b.leaf) (map (λ l. record { state = v; leaf = l }) l) ≡ l
      go [] = refl
      go (x ∷ l) = ap (λ (z : List ℕ). x ∷ z) (go l)

  over-sources : (v : ℕ) → map (λ (b : Built). b.state) (states_over (forest p) p v) ≡ replicate (length (leaves_over p v)) v
  unfolding states_over leaves_over
  over-sources v = go (or_else 65535 (leaves (forest p) p v))
    where
      go : (l : List ℕ) → map (λ (b : Built). b.state) (map (λ l. record { state = v; leaf = l }) l) ≡ replicate (length l) v
      go [] = refl
      go (x ∷ l) = ap (λ (z : List ℕ). v ∷ z) (go l)

  -- those over policy states below v are the ones that `first_over` counts
  over-state : (v : ℕ) (b : Built) → Memᴰ b (states_over (forest p) p v) → b.state ≡ v
  unfolding states_over
  over-state v b m = ap (λ (b : Built). b.state) (map-mem (λ l. record { state = v; leaf = l }) (or_else 65535 (leaves (forest p) p v)) b m).2

  below-lower : (v : ℕ) (b : Built) → Memᴰ b (built_below p v) → b.state < v
  unfolding built_below
  below-lower v b m = let r = flat-mem (states_over (forest p) p) (below v) b m in omega (arith, below-lt v r.0 r.1, over-state r.0 b r.2)

  below-filter : (v n : ℕ) → v ≤ n → filter (λ (b : Built). ltb b.state v) (built_below p n) ≡ built_below p v
  below-filter v zero h = let e : 0 ≡ v = omega arith in subst (λ (k : ℕ). filter (λ (b : Built). ltb b.state k) (built_below p 0) ≡ built_below p k) e (rw below_none refl)
  below-filter v (suc n) h = go (dec_le v n) (λ q. below-filter v n q)
    where
      t : Built → Bool
      t b = ltb b.state v

      go : Dec (v ≤ n) → (v ≤ n → filter t (built_below p n) ≡ built_below p v) → filter t (built_below p (suc n)) ≡ built_below p v
      go (yes q) ih =
          ap (λ (k : ℕ). filter t (built_below p k)) (sym (add-one n)) ∙ ap (filter t) (below_more n) ∙ filter-append t (built_below p n) (states_over (forest p) p n)
          ∙ ap₂ ◌++◌ (ih q) (filter_none t (states_over (forest p) p n) (λ b m. le-ltb b.state v (omega (arith, over-state n b m)))) ∙ append-nil (built_below p v)
      go (no q) ih =
          let e : v ≡ suc n = omega arith in
          ap (λ (k : ℕ). filter t (built_below p k)) (sym e) ∙ filter-all t (built_below p v) (λ b m. lt-ltb b.state v (below-lower v b m))

  first-over : (v : ℕ) → v ≤ p.states → first_over p v ≡ length (built_below p v)
  unfolding first_over
  first-over v h = ap (λ (l : List Built). length (filter (λ (b : Built). ltb b.state v) l)) (sym below_all) ∙ ap length (below-filter v p.states h)

  -- the start is the first state over the initial one
  pub start_is : legal p ≡ true → start p ≡ first_over p p.initial
  unfolding start
  start_is ok = first-number p (forest-laws p ok) p.initial (legal-counts p ok).initial_lt

  pub start-few : (v : ℕ) → length (built p) ≤ 65535 → first_over p v ≤ 65535
  start-few v few = omega (arith, over-le p v)

  -- the starts of the policy states below v + 1, and one more
  starts_more : (v : ℕ) → map (first_over p) (below (v + 1 + 1)) ≡ map (first_over p) (below (v + 1)) ++ (first_over p (v + 1) ∷ [])
  starts_more v = ap (λ (k : ℕ). map (first_over p) (below k)) (add-one (v + 1)) ∙ map-append (first_over p) (below (v + 1)) ((v + 1) ∷ [])

-- ---- the loop over the policy states
-- the states over the policy states below v are written
pub record WrittenBelow (p : Policy) (sources₀ leaves₀ starts₀ sources leaves starts : List ℕ) (v at : ℕ) : Type 0 where
  pub at_most : v ≤ p.states
  pub few : at ≤ v * 65536
  pub sources_are : Stored sources₀ sources 0 at (map (λ (b : Built). b.state) (built_below p v))
  pub leaves_are : Stored leaves₀ leaves 0 at (map (λ (b : Built). b.leaf) (built_below p v))
  pub starts_are : Stored starts₀ starts 0 (v + 1) (map (first_over p) (below (v + 1)))

module _ (p : Policy) (sources₀ leaves₀ starts₀ : List ℕ) where
  -- where the first start is written
  pub written_none : WrittenBelow p sources₀ leaves₀ (set starts₀ 0 0) sources₀ leaves₀ (set starts₀ 0 0) 0 0
  written_none = record {
    at_most = omega arith;
    few = omega arith;
    sources_are = rw (below_none p) (stored-none sources₀ 0);
    leaves_are = rw (below_none p) (stored-none leaves₀ 0);
    starts_are =
        subst (λ (x : ℕ). Stored (set starts₀ 0 0) (set starts₀ 0 0) 0 1 (x ∷ [])) (sym (first-over p 0 (omega arith) ∙ ap length (below_none p)))
        (record { now_is = sym (set-set starts₀ 0 0 0); next_is = refl });
  }

  module _ (sources leaves starts : List ℕ) (v at : ℕ) (r : WrittenBelow p sources₀ leaves₀ starts₀ sources leaves starts v at) where
    -- the place after what is written
    written_at : at ≡ length (built_below p v)
    written_at = r.leaves_are.next_is ∙ zero-add (length (map (λ (b : Built). b.leaf) (built_below p v))) ∙ length-map (built_below p v) (λ (b : Built). b.leaf)

    pub written-more : v < p.states → (sources' leaves' : List ℕ) (next : ℕ) → Stored leaves leaves' at next (leaves_over p v) → next ≤ at + 65536
        → sources' ≡ sets sources at (replicate (next - at) v) → WrittenBelow p sources₀ leaves₀ starts₀ sources' leaves' (set starts (v + 1) next) (v + 1) next
    written-more h sources' leaves' next s q e = record {
      at_most = omega arith;
      few = omega (arith, r.few);
      sources_are = rw sources-more (stored-join r.sources_are stored);
      leaves_are = rw leaves-more (stored-join r.leaves_are s);
      starts_are = rw (starts_more p v, first-over p (v + 1) (omega arith) ∙ sym last) (stored_more r.starts_are next);
    }
      where
        k : ℕ
        k = length (leaves_over p v)

        stored : Stored sources sources' at next (replicate (next - at) v)
        stored = record { now_is = e; next_is = omega (arith, s.next_is, length-replicate (next - at) v) }

        sources-more : map (λ (b : Built). b.state) (built_below p (v + 1)) ≡ map (λ (b : Built). b.state) (built_below p v) ++ replicate (next - at) v
        sources-more =
            let z : k ≡ next - at = omega (arith, s.next_is) in
            ap (map (λ (b : Built). b.state)) (below_more p v) ∙ map-append (λ (b : Built). b.state) (built_below p v) (states_over (forest p) p v)
            ∙ ap (λ (l : List ℕ). map (λ (b : Built). b.state) (built_below p v) ++ l) (over-sources p v ∙ ap (λ (n : ℕ). replicate n v) z)

        leaves-more : map (λ (b : Built). b.leaf) (built_below p (v + 1)) ≡ map (λ (b : Built). b.leaf) (built_below p v) ++ leaves_over p v
        leaves-more =
            ap (map (λ (b : Built). b.leaf)) (below_more p v) ∙ map-append (λ (b : Built). b.leaf) (built_below p v) (states_over (forest p) p v)
            ∙ ap (λ (l : List ℕ). map (λ (b : Built). b.leaf) (built_below p v) ++ l) (over-leaves p v)

        last : next ≡ length (built_below p (v + 1))
        last =
            s.next_is ∙ ap₂ ◌+◌ written_at (ap length (sym (over-leaves p v)) ∙ length-map (states_over (forest p) p v) (λ (b : Built). b.leaf))
            ∙ sym (ap length (below_more p v) ∙ length-append (built_below p v) (states_over (forest p) p v))

-- ---- the tables at the end
-- what was stored in the first place before does not matter
sets-again : (t l : List ℕ) (x : ℕ) → 0 < length l → sets (set t 0 x) 0 l ≡ sets t 0 l
sets-again t [] x h = absurd (omega arith)
sets-again t (y ∷ l) x h = ap (λ (u : List ℕ). sets u 1 l) (set-set t 0 x y)

module _ (p : Policy) (sources₀ leaves₀ starts₀ sources leaves starts : List ℕ) (v at : ℕ) (r : WrittenBelow p sources₀ leaves₀ (set starts₀ 0 0) sources leaves starts v at) (h : p.states ≤ v)
    (same : length sources₀ ≡ length leaves₀) where
  whole : v ≡ p.states
  whole = omega (arith, r.at_most)

  all : built_below p v ≡ built p
  all = ap (built_below p) whole ∙ below_all p

  count : at ≡ length (built p)
  count = written_at p sources₀ leaves₀ (set starts₀ 0 0) sources leaves starts v at r ∙ ap length all

  long : length sources ≡ length sources₀
  long = stored-length r.sources_are

  fits : leb at (length sources) && leb at 65535 ≡ built_fit p sources₀
  unfolding built_fit places
  fits = leb-min at (length sources) 65535 ∙ ap₂ (λ (a n : ℕ). leb a (min n 65535)) count long

  starts-all : starts ≡ sets starts₀ 0 (state_starts p)
  unfolding state_starts
  starts-all = r.starts_are.now_is ∙ ap (λ (n : ℕ). sets (set starts₀ 0 0) 0 (map (first_over p) (below (n + 1)))) whole ∙ sets-again starts₀ (state_starts p) 0 (omega (arith, length-starts p))

  -- the last start is the number of all
  last-start : p.states < length starts₀ → get_or starts p.states 0 ≡ length (built p)
  last-start room =
      start-at p p.states (le_refl p.states) (subst (Column (state_starts p)) (sym starts-all) (column-sets starts₀ (state_starts p) (omega (arith, length-starts p))))
      ∙ first-over p p.states (le_refl p.states) ∙ ap length (below_all p)

  -- they fit, and the tables are cleared past them
  pub filled-fit : leb at (length sources) && leb at 65535 ≡ true → {sources' leaves' : List ℕ} → sources' ≡ padded (length sources) (take at sources) → leaves' ≡ padded (length leaves) (take at leaves)
      → StatesFilled p sources₀ leaves₀ starts₀ (Some at) sources' leaves' starts
  unfolding state_sources state_leaves
  filled-fit t es el =
      let f : built_fit p sources₀ ≡ true = sym fits ∙ t in
      let room : length (built p) ≤ length sources₀ = omega (arith, count, long, le-true at (length sources) (and_l (leb at (length sources)) (leb at 65535) t)) in
      record {
        answer_is = rw f (ap Some count);
        sources_are = rw f (sets-cleared sources₀ (state_sources p) (r.sources_are.now_is ∙ ap (λ (l : List Built). sets sources₀ 0 (map (λ (b : Built). b.state) l)) all) (length-sources p ∙ sym count) (omega (arith, length-sources p)) es);
        leaves_are = rw f (sets-cleared leaves₀ (state_leaves p) (r.leaves_are.now_is ∙ ap (λ (l : List Built). sets leaves₀ 0 (map (λ (b : Built). b.leaf) l)) all) (length-leaves p ∙ sym count) (omega (arith, length-leaves p)) el);
        starts_are = starts-all;
        count_is = last-start;
      }

  -- they do not, and the tables are cleared
  pub filled-not : leb at (length sources) && leb at 65535 ≡ false → {sources' leaves' : List ℕ} → sources' ≡ zeros sources → leaves' ≡ zeros leaves
      → StatesFilled p sources₀ leaves₀ starts₀ None sources' leaves' starts
  filled-not t es el =
      let f : built_fit p sources₀ ≡ false = sym fits ∙ t in
      record {
        answer_is = rw f refl;
        sources_are = rw f (es ∙ zeros-same sources sources₀ long);
        leaves_are = rw f (el ∙ zeros-same leaves leaves₀ (stored-length r.leaves_are));
        starts_are = starts-all;
        count_is = last-start;
      }
