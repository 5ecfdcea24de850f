-- The row tables, filled in edge by edge: a table partly filled with a column, the rows by state and letter, the rows of one edge, and the tables once the rows of
-- all edges are written. Assumes nothing.
use Prim.Native.Nat.{ℕ, ◌+◌, ◌*◌, ◌/◌, ◌%◌, ◌≤◌, ◌<◌}
use native.Mathlib.Omega.{arith}
use native.Mathlib.Nat.{mod-lt, div-add-mod', div-lt_iff_lt-mul, mul_comm, mul-le-mul_right, suc-mul}
use native.Mathlib.Decide.{ℕ_discrete, dec_lt}
use mathlib.Core.Path.{◌≡◌, refl, sym, ap, ap₂, ◌∙◌, subst}
use mathlib.Core.Logic.{◌⊎◌, inl, inr}
use mathlib.Core.Bool.{true}
use mathlib.Core.List.{List, Memᴰ}
use lib.Arith.{digits_div, digits_mod, digits_lt}
use lib.ListN.{length, get_or, take, set, length-set}
use lib.Seq.{get_or-set_same, get_or-set_other}
use Rattle.tables.specs.Tables.{padded, Column}
use Rattle.tables.proofs.Columns.{column-cleared}
use Rattle.policy.specs.declared.Policy.{Policy}
use Rattle.policy.specs.Policies.{legal, edges, edge_of, source, target_of}
use Rattle.policy.proofs.Laws.{legal-counts, legal-target, edges_le, edge-lt}
use Rattle.forest.specs.Forest.{forest}
use Rattle.forest.proofs.Forest.{forest-laws}
use Rattle.automaton.specs.Automaton.{or_else, leaves, leaf_after, priority_after, built, state_at, number, row_target, row_priority, row_targets, row_priorities, state_leaves}
use Rattle.automaton.specs.Stages.{first_over, state_starts}
use Rattle.rows.specs.Rows.{RowFrom, PartlyFilled, HasRow, RowsWritten}
use Rattle.automaton.proofs.EdgeRuns.{Good}
use Rattle.automaton.proofs.Leaves.{good-leaves}
use Rattle.automaton.proofs.Tables.{built-good}
use Rattle.automaton.proofs.RowTables.{targets_long, priorities_long, row-target, row-priority}
use Rattle.automaton.proofs.Columns.{leaf-at, leaves_long, start-at}
use Rattle.automaton.proofs.Starts.{over-mono, in-run, run-has}

-- ---- a table partly filled with a column
module _ (l : List ℕ) where
  pub partly_none : (t : List ℕ) → PartlyFilled l t t
  partly_none t = record { long = refl; each = λ i. inl refl }

  -- what the column has in a place is written there
  pub partly-set : (t : List ℕ) (i x : ℕ) → i < length t → i < length l → x ≡ get_or l i 0 → PartlyFilled l t (set t i x)
  partly-set t i x h k e = record { long = length-set t i x; each = λ j. go j (ℕ_discrete j i) }
    where
      go : (j : ℕ) → Dec (j ≡ i) → (get_or (set t i x) j 0 ≡ get_or t j 0) ⊎ ((j < length l) × (get_or (set t i x) j 0 ≡ get_or l j 0))
      go j (yes q) = inr (omega arith, ap (λ (z : ℕ). get_or (set t i x) z 0) q ∙ get_or-set_same t i x 0 h ∙ e ∙ ap (λ (z : ℕ). get_or l z 0) (sym q))
      go j (no q) = inl (get_or-set_other t i j x 0 q)

  pub partly-both : {t₀ t₁ t : List ℕ} → PartlyFilled l t₀ t₁ → PartlyFilled l t₁ t → PartlyFilled l t₀ t
  partly-both {t₀} {t₁} {t} a b = record { long = b.long ∙ a.long; each = λ i. go i (a.each i) (b.each i) }
    where
      go : (i : ℕ) → (get_or t₁ i 0 ≡ get_or t₀ i 0) ⊎ ((i < length l) × (get_or t₁ i 0 ≡ get_or l i 0)) → (get_or t i 0 ≡ get_or t₁ i 0) ⊎ ((i < length l) × (get_or t i 0 ≡ get_or l i 0)) → (get_or t i 0 ≡ get_or t₀ i 0) ⊎ ((i < length l) × (get_or t i 0 ≡ get_or l i 0))
      go i u (inr v) = inr v
      go i (inl u) (inl v) = inl (v ∙ u)
      go i (inr u) (inl v) = inr (u.0, v ∙ u.1)

  -- what is right stays right
  pub partly-keeps : {t₀ t : List ℕ} → PartlyFilled l t₀ t → (i : ℕ) → get_or t₀ i 0 ≡ get_or l i 0 → get_or t i 0 ≡ get_or l i 0
  partly-keeps {t₀} {t} a i e = go (a.each i)
    where
      go : (get_or t i 0 ≡ get_or t₀ i 0) ⊎ ((i < length l) × (get_or t i 0 ≡ get_or l i 0)) → get_or t i 0 ≡ get_or l i 0
      go (inl u) = u ∙ e
      go (inr u) = u.1

  -- once every place of the column is right, and the table is cleared past them
  pub partly-whole : {t₀ t u : List ℕ} {n : ℕ} → PartlyFilled l t₀ t → length l ≤ length t₀ → ((i : ℕ) → i < length l → get_or t i 0 ≡ get_or l i 0) → length l ≡ n → u ≡ padded (length t) (take n t) → u ≡ padded (length t₀) l
  partly-whole {t₀} {t} a h right e c =
      let column : Column l t = record { long = omega (arith, h, a.long); each = right } in
      c ∙ column-cleared column e ∙ ap (λ (i : ℕ). padded i l) a.long

-- ---- the rows by state and letter
module _ (p : Policy) where
  module _ (s a : ℕ) (h : s < length (built p)) (k : a < p.letters) where
    pub row_lt : s * p.letters + a < length (built p) * p.letters
    row_lt = digits_lt h k

    -- a row that is there stays there
    pub has_kept : {t₀ k₀ t k : List ℕ} → PartlyFilled (row_targets p) t₀ t → PartlyFilled (row_priorities p) k₀ k → HasRow p t₀ k₀ s a → HasRow p t k s a
    has_kept u v r = record {
      target_is = partly-keeps (row_targets p) u (s * p.letters + a) (r.target_is ∙ sym (row-target p s a h k)) ∙ row-target p s a h k;
      priority_is = partly-keeps (row_priorities p) v (s * p.letters + a) (r.priority_is ∙ sym (row-priority p s a h k)) ∙ row-priority p s a h k;
    }

-- ---- the rows of several edges
module _ (p : Policy) where
  pub written_none : (t k : List ℕ) (n : ℕ) → RowsWritten p t k t k n n
  written_none t k n = record { targets_are = partly_none (row_targets p) t; priorities_are = partly_none (row_priorities p) k; done = λ s a h i j q. absurd (omega arith) }

  pub written_both : {t₀ k₀ t₁ k₁ t k : List ℕ} {a b c : ℕ} → RowsWritten p t₀ k₀ t₁ k₁ a b → RowsWritten p t₁ k₁ t k b c → RowsWritten p t₀ k₀ t k a c
  written_both {t₀} {k₀} {t₁} {k₁} {t} {k} {a} {b} {c} u v = record {
    targets_are = partly-both (row_targets p) u.targets_are v.targets_are;
    priorities_are = partly-both (row_priorities p) u.priorities_are v.priorities_are;
    done = λ s x h i j q. go s x h i j q (dec_lt (edge_of p (state_at p s).state x) b);
  }
    where
      go : (s x : ℕ) → s < length (built p) → x < p.letters → a ≤ edge_of p (state_at p s).state x → edge_of p (state_at p s).state x < c → Dec (edge_of p (state_at p s).state x < b) → HasRow p t k s x
      go s x h i j q (yes d) = has_kept p s x h i v.targets_are v.priorities_are (u.done s x h i j d)
      go s x h i j q (no d) = v.done s x h i (omega arith) q

  module _ (ok : legal p ≡ true) where
    some : 1 ≤ p.letters
    some = (legal-counts p ok).letters_some

    pub rows-room : (t : List ℕ) → p.letters * length (built p) ≤ length t → length (built p) * p.letters ≤ length t
    rows-room t h = omega (arith, mul_comm (length (built p)) p.letters)

    pub written_all : {t₀ k₀ t k t' k' : List ℕ} {n rows : ℕ} → RowsWritten p t₀ k₀ t k 0 n → edges p ≤ n → p.letters * length (built p) ≤ length t₀ → p.letters * length (built p) ≤ length k₀
        → length (built p) * p.letters ≡ rows → t' ≡ padded (length t) (take rows t) → k' ≡ padded (length k) (take rows k)
        → (t' ≡ padded (length t₀) (row_targets p)) × (k' ≡ padded (length k₀) (row_priorities p))
    written_all {t₀} {k₀} {t} {k} {t'} {k'} {n} {rows} w m lt lk all et ek = (
      partly-whole (row_targets p) w.targets_are (omega (arith, targets_long p, rows-room t₀ lt))
          (λ i h. let r = right i (omega (arith, targets_long p)) in subst (λ (j : ℕ). get_or t j 0 ≡ get_or (row_targets p) j 0) (div-add-mod' i p.letters) (r.2.target_is ∙ sym (row-target p (i / p.letters) (i % p.letters) r.0 r.1)))
          (targets_long p ∙ all) et,
      partly-whole (row_priorities p) w.priorities_are (omega (arith, priorities_long p, rows-room k₀ lk))
          (λ i h. let r = right i (omega (arith, priorities_long p)) in subst (λ (j : ℕ). get_or k j 0 ≡ get_or (row_priorities p) j 0) (div-add-mod' i p.letters) (r.2.priority_is ∙ sym (row-priority p (i / p.letters) (i % p.letters) r.0 r.1)))
          (priorities_long p ∙ all) ek,
    )
      where
        right : (i : ℕ) → i < length (built p) * p.letters → (i / p.letters < length (built p)) × (i % p.letters < p.letters) × HasRow p t k (i / p.letters) (i % p.letters)
        right i h =
            let s : i / p.letters < length (built p) = (div-lt_iff_lt-mul {k = p.letters} {x = i} {y = length (built p)} some).1 h in
            let a : i % p.letters < p.letters = mod-lt i some in
            (s, a, w.done (i / p.letters) (i % p.letters) s a (omega arith) (omega (arith, edge-lt p (state_at p (i / p.letters)).state (i % p.letters) (built-good p (forest-laws p ok) (i / p.letters) s).0 a)))

-- ---- by states, and by letters
module _ (p : Policy) where
  pub written-first : (t k : List ℕ) → RowsWritten p t k t k 0 (edge_of p 0 0)
  unfolding edge_of
  written-first t k = let e : 0 ≡ 0 * p.letters + 0 = omega arith in subst (RowsWritten p t k t k 0) e (written_none p t k 0)

  module _ {t₀ k₀ t₁ k₁ t k : List ℕ} (v a : ℕ) where
    -- a letter more
    pub written-letter : RowsWritten p t₀ k₀ t₁ k₁ (edge_of p v 0) (edge_of p v a) → RowsWritten p t₁ k₁ t k (edge_of p v a) (edge_of p v a + 1) → RowsWritten p t₀ k₀ t k (edge_of p v 0) (edge_of p v (a + 1))
    unfolding edge_of
    written-letter u w = let e : v * p.letters + a + 1 ≡ v * p.letters + (a + 1) = omega arith in subst (RowsWritten p t₀ k₀ t k (edge_of p v 0)) e (written_both p u w)

    -- a state more, once all its letters are done
    pub written-state : RowsWritten p t₀ k₀ t₁ k₁ 0 (edge_of p v 0) → RowsWritten p t₁ k₁ t k (edge_of p v 0) (edge_of p v a) → a ≡ p.letters → RowsWritten p t₀ k₀ t k 0 (edge_of p (v + 1) 0)
    unfolding edge_of
    written-state u w h = let e : v * p.letters + a ≡ (v + 1) * p.letters + 0 = omega (arith, suc-mul v p.letters) in subst (RowsWritten p t₀ k₀ t k 0) e (written_both p u w)

  pub all_edges : (v : ℕ) → p.states ≤ v → edges p ≤ edge_of p v 0
  unfolding edge_of edges
  all_edges v h = omega (arith, mul-le-mul_right p.letters h)

-- ---- the rows of one edge, that of a state v and a letter a
-- those of the states over v up to s are written
pub record EdgeRows (p : Policy) (v a : ℕ) (t₀ k₀ t k : List ℕ) (s : ℕ) : Type 0 where
  pub at_least : first_over p v ≤ s
  pub at_most : s ≤ first_over p (v + 1)
  pub targets_are : PartlyFilled (row_targets p) t₀ t
  pub priorities_are : PartlyFilled (row_priorities p) k₀ k
  pub done : (j : ℕ) → first_over p v ≤ j → j < s → HasRow p t k j a

-- what the rows of an edge are filled in from: the state v, the letter a, the heads of the edges, the leaves and the starts of the states, row tables with places for all rows
pub record EdgeGiven (p : Policy) (v a : ℕ) (heads entries starts t₀ k₀ : List ℕ) : Type 0 where
  pub lawful : legal p ≡ true
  pub state_in : v < p.states
  pub letter_in : a < p.letters
  pub heads_are : heads ≡ p.target
  pub few : length (built p) ≤ 65535
  pub leaves_are : Column (state_leaves p) entries
  pub starts_are : Column (state_starts p) starts
  pub targets_long : p.letters * length (built p) ≤ length t₀
  pub priorities_long : p.letters * length (built p) ≤ length k₀

module _ {p : Policy} {v a : ℕ} {heads entries starts t₀ k₀ : List ℕ} (g : EdgeGiven p v a heads entries starts t₀ k₀) where
  pub edge_in : v * p.letters + a < edges p
  unfolding edge_of
  edge_in = edge-lt p v a g.state_in g.letter_in

  pub edge-place : v * p.letters + a < 64
  edge-place = omega (arith, edge_in, edges_le p g.lawful)

  pub source-small : v < 16
  source-small = omega (arith, g.state_in, (legal-counts p g.lawful).states_few)

  edge-is : edge_of p v a ≡ v * p.letters + a
  unfolding edge_of
  edge-is = refl

  source_is : source p (v * p.letters + a) ≡ v
  unfolding source
  source_is = digits_div v {m = p.letters} {r = a} g.letter_in

  -- only a state over v has it, by this letter
  edge-only : (u b : ℕ) → b < p.letters → edge_of p u b ≡ v * p.letters + a → (u ≡ v) × (b ≡ a)
  unfolding edge_of
  edge-only u b h q = (
    sym (digits_div u {m = p.letters} {r = b} h) ∙ ap (λ (x : ℕ). x / p.letters) q ∙ digits_div v {m = p.letters} {r = a} g.letter_in,
    sym (digits_mod u {m = p.letters} {r = b} h) ∙ ap (λ (x : ℕ). x % p.letters) q ∙ digits_mod v {m = p.letters} {r = a} g.letter_in,
  )

  -- the states over v
  module _ {low high : ℕ} (is-low : low ≡ get_or starts v 0) (is-high : high ≡ get_or starts (v + 1) 0) where
    pub source-low : low ≡ first_over p v
    source-low = is-low ∙ start-at p v (omega (arith, g.state_in)) g.starts_are

    pub source-high : high ≡ first_over p (v + 1)
    source-high = is-high ∙ start-at p (v + 1) (omega (arith, g.state_in)) g.starts_are

  -- those over the edge's target w
  module _ {w : ℕ} (is : w ≡ get_or heads (v * p.letters + a) 0) where
    head_is : w ≡ target_of p (v * p.letters + a)
    unfolding target_of
    head_is = is ∙ ap (λ (l : List ℕ). get_or l (v * p.letters + a) 0) g.heads_are

    head_in : w < p.states
    head_in = omega (arith, head_is, legal-target p g.lawful (v * p.letters + a) edge_in)

    pub head_small : w < 16
    head_small = omega (arith, head_in, (legal-counts p g.lawful).states_few)

    pub target-low : {low : ℕ} → low ≡ get_or starts w 0 → low ≡ first_over p (target_of p (v * p.letters + a))
    target-low q = q ∙ start-at p w (omega (arith, head_in)) g.starts_are ∙ ap (first_over p) head_is

    pub target-high : {high : ℕ} → high ≡ get_or starts (w + 1) 0 → high ≡ first_over p (target_of p (v * p.letters + a) + 1)
    target-high q = q ∙ start-at p (w + 1) (omega (arith, head_in)) g.starts_are ∙ ap (λ (x : ℕ). first_over p (x + 1)) head_is

  pub edge-rows-none : {s : ℕ} → s ≡ first_over p v → EdgeRows p v a t₀ k₀ t₀ k₀ s
  edge-rows-none {s} q = record {
    at_least = omega arith;
    at_most = omega (arith, over-mono p v);
    targets_are = partly_none (row_targets p) t₀;
    priorities_are = partly_none (row_priorities p) k₀;
    done = λ j x y. absurd (omega arith);
  }

  module _ {t k : List ℕ} {s : ℕ} (w : EdgeRows p v a t₀ k₀ t k s) where
    module _ (h : s < first_over p (v + 1)) where
      in-built : (s < length (built p)) × ((state_at p s).state ≡ v)
      in-built = in-run p v s w.at_least h

      edge_at : edge_of p (state_at p s).state a ≡ v * p.letters + a
      unfolding edge_of
      edge_at = ap (λ (u : ℕ). u * p.letters + a) in-built.1

      pub edge-rows-small : (s < length entries) × (s < 65535)
      edge-rows-small = (omega (arith, in-built.0, leaves_long p g.leaves_are), omega (arith, in-built.0, g.few))

      leaf_is : get_or entries s 0 ≡ (state_at p s).leaf
      leaf_is = leaf-at p s in-built.0 g.leaves_are

      pub edge-rows-leaf : {l : ℕ} → l ≡ get_or entries s 0 → Memᴰ l (or_else 65535 (leaves (forest p) p (source p (v * p.letters + a))))
      edge-rows-leaf {l} q =
          good-leaves p (forest p) (forest-laws p g.lawful) (source p (v * p.letters + a)) l
          (subst (λ (x : ℕ). Good (forest p) p (source p (v * p.letters + a)) x) (sym (q ∙ leaf_is))
          (subst (λ (u : ℕ). Good (forest p) p u (state_at p s).leaf) (in-built.1 ∙ sym source_is) (built-good p (forest-laws p g.lawful) s in-built.0).1))

      edge-rows-row : {l x y : ℕ} → l ≡ get_or entries s 0 → RowFrom p (v * p.letters + a) l x y → (x ≡ row_target p s a) × (y ≡ row_priority p s a)
      unfolding row_target row_priority
      edge-rows-row {l} {x} {y} q r = (
        r.target_is ∙ ap₂ (λ (d i : ℕ). number p (target_of p d) (leaf_after (forest p) p d i)) (sym edge_at) (q ∙ leaf_is),
        r.priority_is ∙ ap₂ (λ (d i : ℕ). priority_after (forest p) p d i) (sym edge_at) (q ∙ leaf_is),
      )

      at_row : s * p.letters + a < length (built p) * p.letters
      at_row = row_lt p s a in-built.0 g.letter_in

      pub edge-rows-in : (s * p.letters + a < length t) × (s * p.letters + a < length k) × (s * p.letters + a < 524280)
      edge-rows-in = (
        omega (arith, at_row, w.targets_are.long, rows-room p g.lawful t₀ g.targets_long),
        omega (arith, at_row, w.priorities_are.long, rows-room p g.lawful k₀ g.priorities_long),
        omega (arith, at_row, mul-le-mul_right p.letters g.few, (legal-counts p g.lawful).letters_few),
      )

      pub edge-rows-more : {l x y : ℕ} → l ≡ get_or entries s 0 → RowFrom p (v * p.letters + a) l x y → EdgeRows p v a t₀ k₀ (set t (s * p.letters + a) x) (set k (s * p.letters + a) y) (s + 1)
      edge-rows-more {l} {x} {y} q r = record {
        at_least = omega (arith, w.at_least);
        at_most = omega arith;
        targets_are = partly-both (row_targets p) w.targets_are ut;
        priorities_are = partly-both (row_priorities p) w.priorities_are uk;
        done = λ j b c. go j b c (ℕ_discrete j s);
      }
        where
          i : ℕ
          i = s * p.letters + a

          is : (x ≡ row_target p s a) × (y ≡ row_priority p s a)
          is = edge-rows-row q r

          ut : PartlyFilled (row_targets p) t (set t i x)
          ut = partly-set (row_targets p) t i x edge-rows-in.0 (omega (arith, at_row, targets_long p)) (is.0 ∙ sym (row-target p s a in-built.0 g.letter_in))

          uk : PartlyFilled (row_priorities p) k (set k i y)
          uk = partly-set (row_priorities p) k i y edge-rows-in.1 (omega (arith, at_row, priorities_long p)) (is.1 ∙ sym (row-priority p s a in-built.0 g.letter_in))

          go : (j : ℕ) → first_over p v ≤ j → j < s + 1 → Dec (j ≡ s) → HasRow p (set t i x) (set k i y) j a
          go j b c (yes z) =
              subst (λ (n : ℕ). HasRow p (set t i x) (set k i y) n a) (sym z)
              (record { target_is = get_or-set_same t i x 0 edge-rows-in.0 ∙ is.0; priority_is = get_or-set_same k i y 0 edge-rows-in.1 ∙ is.1 })
          go j b c (no z) = has_kept p j a (omega (arith, in-built.0)) g.letter_in ut uk (w.done j b (omega arith))

    pub edge-rows-all : first_over p (v + 1) ≤ s → RowsWritten p t₀ k₀ t k (edge_of p v a) (edge_of p v a + 1)
    edge-rows-all h = record { targets_are = w.targets_are; priorities_are = w.priorities_are; done = λ j b i l m n. go j b i l (omega arith) }
      where
        go : (j b : ℕ) → j < length (built p) → b < p.letters → edge_of p (state_at p j).state b ≡ edge_of p v a → HasRow p t k j b
        go j b i l q =
            let o = edge-only (state_at p j).state b l (q ∙ edge-is) in
            let r = run-has p v j i o.0 in
            subst (HasRow p t k j) (sym o.1) (w.done j r.0 (omega (arith, r.1)))
