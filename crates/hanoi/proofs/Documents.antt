-- The edges of a lawful document: how many there are, that each state and letter has one, and that it leads to a state. Assumes nothing.
use Prim.Native.Nat.{ℕ, ◌+◌, ◌*◌, ◌≤◌, ◌<◌}
use native.Mathlib.Omega.{arith}
use native.Mathlib.Nat.{suc-mul, zero-mul}
use mathlib.Core.Path.{◌≡◌, refl, sym, ap, ◌∙◌, subst}
use mathlib.Core.Bool.{true}
use mathlib.Core.List.{List, [], ◌∷◌, map, map-id, Memᴰ}
use lib.Arith.{digits_lt}
use lib.Dec.{eqb, ltb}
use lib.ListN.{length, get_or, length-append}
use lib.Pow.{pow_pos, pow_mono}
use Rattle.lists.specs.Lists.{all, flat}
use Rattle.lists.proofs.Bools.{and_l, and_r, eqb≡, lt-true}
use Rattle.lists.proofs.Lists.{all-each, flat-mem, mem-map, get_or-mem}
use Rattle.hanoi.specs.Documents.{Edge, plain, Document, target_of, marks_of, letters, lawful_edge, lawful_row, lawful}
use Rattle.hanoi.specs.Meaning.{mark_set, edges_of, mark_sets, colour_of, edge_at}
use Rattle.hanoi.proofs.Taking.{Lawful, lawful-parts}
use Rattle.mark_sets.proofs.Firsts.{colour-below, colour-set}

-- ---- lists one after the other
module _ {A : Type 0} where
  length-flat : (k : ℕ) (l : List (List A)) → ((x : List A) → Memᴰ x l → length x ≡ k) → length (flat l) ≡ length l * k
  length-flat k [] h = sym (zero-mul k)
  length-flat k (x ∷ l) h = omega (arith, length-append x (flat l), h x (Memᴰ.head refl), length-flat k l (λ y m. h y (Memᴰ.tail m)), suc-mul (length l) k)

  in-flat : (l : List (List A)) (y : A) → Memᴰ y (flat l) → (x : List A) × Memᴰ x l × Memᴰ y x
  in-flat l y m = flat-mem (λ (x : List A). x) l y (subst (λ (r : List (List A)). Memᴰ y (flat r)) (sym (map-id l)) m)

module _ (d : Document) where
  -- ---- any document: the colour of an edge
  pub colour-lt : (e : Edge) → Memᴰ e (edges_of d) → colour_of d e < length (mark_sets d)
  unfolding colour_of mark_sets
  colour-lt e m = colour-below (map mark_set (edges_of d)) (mark_set e) (mem-map mark_set (edges_of d) e m)

  -- its place has the mark set
  pub colour-has : (e : Edge) → Memᴰ e (edges_of d) → get_or (mark_sets d) (colour_of d e) 0 ≡ mark_set e
  unfolding colour_of mark_sets
  colour-has e m = colour-set (map mark_set (edges_of d)) (mark_set e) (mem-map mark_set (edges_of d) e m)

  -- ---- a lawful one
  module _ (ok : lawful d ≡ true) where
    parts : Lawful d
    parts = lawful-parts d ok

    pub start-lt : d.start < d.states
    start-lt = parts.start_is

    pub letters_some : 1 ≤ letters d
    unfolding letters
    letters_some = omega (arith, pow_pos (length d.names))

    pub letters_few : letters d ≤ 8
    unfolding letters
    letters_few = pow_mono {i = length d.names} {j = 3} (omega (arith, parts.few_names))

    row_lawful : (r : List Edge) → Memᴰ r d.rows → (length r ≡ letters d) × (all (lawful_edge d.states d.sets) r ≡ true)
    unfolding letters lawful_row
    row_lawful r m =
        let c = letters d in
        let h = all-each (lawful_row d.states d.sets c) d.rows parts.rows_are r m in
        (eqb≡ (length r) c (and_l (eqb (length r) c) (all (lawful_edge d.states d.sets) r) h), and_r (eqb (length r) c) (all (lawful_edge d.states d.sets) r) h)

    pub edges-long : length (edges_of d) ≡ d.states * letters d
    unfolding edges_of
    edges-long = length-flat (letters d) d.rows (λ r m. (row_lawful r m).0) ∙ ap (λ (n : ℕ). n * letters d) parts.count_is

    pub edge-target : (e : Edge) → Memᴰ e (edges_of d) → target_of e < d.states
    unfolding edges_of lawful_edge
    edge-target e m =
        let r = in-flat d.rows e m in
        let h = all-each (lawful_edge d.states d.sets) r.0 (row_lawful r.0 r.1).1 e r.2 in
        lt-true (target_of e) d.states (and_l (ltb (target_of e) d.states) (all (λ m. ltb m d.sets) (marks_of e)) h)

    -- a state and a letter have an edge
    pub edge_in : (v a : ℕ) → v < d.states → a < letters d → Memᴰ (edge_at d v a) (edges_of d)
    unfolding edge_at
    edge_in v a h l = get_or-mem (edges_of d) (v * letters d + a) (plain 0) (subst (λ (n : ℕ). v * letters d + a < n) (sym edges-long) (digits_lt h l))

    -- so there is a colour
    pub colours_some : 1 ≤ length (mark_sets d)
    colours_some = let e = edge_at d d.start 0 in omega (arith, colour-lt e (edge_in d.start 0 start-lt (omega (arith, letters_some))))
