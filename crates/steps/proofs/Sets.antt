-- The words of a colour set: their rows have the targets of its edges, so the rows joined at every state are what each state reaches by them. Assumes nothing.
use Prim.Native.Nat.{ℕ, suc, ◌+◌, ◌*◌, ◌/◌, ◌%◌, ◌^◌, ◌≤◌, ◌<◌}
use native.Mathlib.Omega.{arith}
use mathlib.Core.Path.{◌≡◌, refl, sym, ap, ◌∙◌, subst}
use mathlib.Core.Logic.{◌⊎◌, inl, inr}
use mathlib.Core.Bool.{true, false}
use mathlib.Core.List.{List, []}
use lib.Dec.{eqb, ltb}
use lib.ListN.{get_or, drop}
use lib.Pow.{shr-shr}
use lib.Seq.{get_or-take, get_or-drop}
use Rattle.lists.specs.Lists.{below}
use Rattle.lists.proofs.Bools.{test, lt-true, lt-false}
use Rattle.lists.proofs.Lists.{any_some, some-any, mem_below, below-lt}
use Rattle.tables.specs.Copies.{part}
use Rattle.masks.specs.Masks.{has}
use Rattle.masks.proofs.Bits.{has-mod}
use Rattle.masks.proofs.Members.{bit-lt}
use Rattle.policy.specs.declared.Policy.{Policy}
use Rattle.policy.specs.Policies.{edges, source, target_of, legal}
use Rattle.policy.specs.ByColour.{edges_in, table_edges, by_colour}
use Rattle.policy.proofs.Laws.{legal-counts, legal-target}
use Rattle.policy.proofs.ByColour.{Among, edges-to-some, quiet-edges-to, some-edges-to, table-some, some-table, table-edges-are}
use Rattle.graph.specs.Through.{onward, join_row}
use Rattle.graph.proofs.Onward.{Onward}
use Rattle.graph.proofs.Turns.{turns-reach}
use Rattle.steps.specs.Steps.{word_row, row_at, turned, leads_by, StepsOf}
use Rattle.steps.proofs.WordRows.{word-few, row-a, row-b, row-c, row-d, turned_none}
use Rattle.steps.proofs.Table.{leads-parts, parts-lead}

-- an entry of one of the four tables
pub entry_at : (t : List ℕ) (first c : ℕ) → c < 9 → get_or (part 9 first t) c 0 ≡ get_or t (first + c) 0
entry_at t first c l = get_or-take 9 (drop first t) c 0 l ∙ get_or-drop first t c 0

-- a bit of a row is one of its word
pub row-bit : (w i x : ℕ) → x < 16 → has (word_row w i) x ≡ has w (16 * i + x)
unfolding word_row has
row-bit w i x l = has-mod 16 x (w / 2 ^ (16 * i)) l ∙ ap (λ (z : ℕ). eqb (z % 2) 1) (shr-shr w (16 * i) x)

turned-suc : (f : ℕ → ℕ) (k u : ℕ) → turned f (suc k) u ≡ join_row (turned f k u) k (turned f k k)
unfolding turned
turned-suc f k u = refl

module _ (p : Policy) (ok : legal p ≡ true) (t : List ℕ) (steps : StepsOf p t) (s : ℕ) where
  -- word j of the colour set
  abbrev word : ℕ → ℕ
  word j = table_edges (part 9 (9 * j) t) s

  -- ---- a row of it: the targets of the edges
  edge_of : (j c i x : ℕ) → j < 4 → c < 9 → i < 4 → x < 16 → has (get_or (part 9 (9 * j) t) c 0) (16 * i + x) ≡ true → (e : ℕ) × (e < edges p) × (has (get_or (by_colour p) c 0) e ≡ true) × (source p e ≡ 4 * j + i) × (target_of p e ≡ x)
  edge_of j c i x lj lc li lx h =
      let r = any_some (leads_by p c (4 * j + i) x) (below (edges p)) (sym (steps.step_is j c i x lj lc li lx) ∙ ap (λ (z : ℕ). has z (16 * i + x)) (sym (entry_at t (9 * j) c lc)) ∙ h) in
      let k = leads-parts p c (4 * j + i) x r.0 r.2 in
      let l = below-lt (edges p) r.0 r.1 in
      (r.0, l, some-table p c r.0 lc l k.0, k.1, k.2)

  of-edge : (j c i : ℕ) (e : ℕ) → j < 4 → c < 9 → i < 4 → e < edges p → has (get_or (by_colour p) c 0) e ≡ true → source p e ≡ 4 * j + i → has (get_or (part 9 (9 * j) t) c 0) (16 * i + target_of p e) ≡ true
  of-edge j c i e lj lc li le h q =
      let x = target_of p e in
      let lx : x < 16 = omega (arith, legal-target p ok e le, (legal-counts p ok).states_few) in
      ap (λ (z : ℕ). has z (16 * i + x)) (entry_at t (9 * j) c lc) ∙ steps.step_is j c i x lj lc li lx
      ∙ some-any (leads_by p c (4 * j + i) x) (below (edges p)) e (mem_below (edges p) e le) (parts-lead p c (4 * j + i) x e (table-some p c e lc h).1 q refl)

  in-set : (e : ℕ) → has (table_edges (by_colour p) s) e ≡ true → has (edges_in p s) e ≡ true
  in-set e h = ap (λ (m : ℕ). has m e) (sym (table-edges-are p ok s)) ∙ h

  row-sound : (j i x : ℕ) → j < 4 → i < 4 → has (word_row (word j) i) x ≡ true → Onward p (edges_in p s) (4 * j + i) x
  unfolding table_edges
  row-sound j i x lj li h = go (edges-to-some (part 9 (9 * j) t) 8 s (16 * i + x) (sym (row-bit (word j) i x lx) ∙ h))
    where
      lx : x < 16
      lx = bit-lt 16 (word_row (word j) i) x (word-few (word j) i) h

      go : Among (part 9 (9 * j) t) 8 s (16 * i + x) → Onward p (edges_in p s) (4 * j + i) x
      go (inl q) =
          let r = edge_of j 8 i x lj (omega arith) li lx q in
          (r.0, r.1, in-set r.0 (quiet-edges-to (by_colour p) 8 s r.0 r.2), r.3, ([], r.4))
      go (inr q) =
          let r = edge_of j q.0 i x lj (omega (arith, q.1)) li lx q.3 in
          (r.0, r.1, in-set r.0 (some-edges-to (by_colour p) 8 s r.0 q.0 q.1 q.2 r.2), r.3, ([], r.4))

  row-edge : (j i e : ℕ) → j < 4 → i < 4 → e < edges p → source p e ≡ 4 * j + i → has (edges_in p s) e ≡ true → has (word_row (word j) i) (target_of p e) ≡ true
  unfolding table_edges
  row-edge j i e lj li le q h =
      row-bit (word j) i (target_of p e) (omega (arith, legal-target p ok e le, (legal-counts p ok).states_few))
      ∙ go (edges-to-some (by_colour p) 8 s e (ap (λ (m : ℕ). has m e) (table-edges-are p ok s) ∙ h))
    where
      go : Among (by_colour p) 8 s e → has (word j) (16 * i + target_of p e) ≡ true
      go (inl k) = quiet-edges-to (part 9 (9 * j) t) 8 s (16 * i + target_of p e) (of-edge j 8 i e lj (omega arith) li le k q)
      go (inr k) = some-edges-to (part 9 (9 * j) t) 8 s (16 * i + target_of p e) k.0 k.1 k.2 (of-edge j k.0 i e lj (omega (arith, k.1)) li le k.3 q)

  -- ---- the rows of n states, in words
  abbrev Rowed : ℕ → ℕ → ℕ → ℕ → ℕ → Type 0
  Rowed a b c d n = (u : ℕ) → u < n → row_at a b c d u ≡ word_row (word (u / 4)) (u % 4)

  in-word : (w j u : ℕ) → w ≡ word j → j ≡ u / 4 → word_row w (u % 4) ≡ word_row (word (u / 4)) (u % 4)
  in-word w j u e q = ap (λ (w : ℕ). word_row w (u % 4)) (e ∙ ap word q)

  pub rowed-4 : (a b c d : ℕ) → a ≡ word 0 → Rowed a b c d 4
  rowed-4 a b c d qa u l = row-a a b c d u l ∙ in-word a 0 u qa (omega arith)

  pub rowed-8 : (a b c d : ℕ) → a ≡ word 0 → b ≡ word 1 → Rowed a b c d 8
  rowed-8 a b c d qa qb u l = go (test (ltb u 4))
    where
      go : (ltb u 4 ≡ true) ⊎ (ltb u 4 ≡ false) → row_at a b c d u ≡ word_row (word (u / 4)) (u % 4)
      go (inl q) = rowed-4 a b c d qa u (lt-true u 4 q)
      go (inr q) = let k = lt-false u 4 q in row-b a b c d u k l ∙ in-word b 1 u qb (omega arith)

  pub rowed-16 : (a b c d : ℕ) → a ≡ word 0 → b ≡ word 1 → c ≡ word 2 → d ≡ word 3 → Rowed a b c d 16
  rowed-16 a b c d qa qb qc qd u l = go (test (ltb u 8)) (test (ltb u 12))
    where
      go : (ltb u 8 ≡ true) ⊎ (ltb u 8 ≡ false) → (ltb u 12 ≡ true) ⊎ (ltb u 12 ≡ false) → row_at a b c d u ≡ word_row (word (u / 4)) (u % 4)
      go (inl q) r = rowed-8 a b c d qa qb u (lt-true u 8 q)
      go (inr q) (inl r) = let k = lt-false u 8 q in let h = lt-true u 12 r in row-c a b c d u k h ∙ in-word c 2 u qc (omega arith)
      go (inr q) (inr r) = let k = lt-false u 12 r in row-d a b c d u k ∙ in-word d 3 u qd (omega arith)

  pub rows-reach : (a b c d n : ℕ) → Rowed a b c d n → n ≤ 16 → p.states ≤ n → (v : ℕ) → v < p.states → turned (row_at a b c d) n v ≡ onward p (edges_in p s) v
  rows-reach a b c d n rowed most few v l = turns-reach p (edges_in p s) n ok few (turned (row_at a b c d)) (λ k u _ _. turned-suc (row_at a b c d) k u) sound edge v l
    where
      first : (u : ℕ) → u < n → turned (row_at a b c d) 0 u ≡ word_row (word (u / 4)) (u % 4)
      first u lu = sym (turned_none (row_at a b c d) u) ∙ rowed u lu

      sound : (u x : ℕ) → u < n → has (turned (row_at a b c d) 0 u) x ≡ true → Onward p (edges_in p s) u x
      sound u x lu h = subst (λ (z : ℕ). Onward p (edges_in p s) z x) (omega arith) (row-sound (u / 4) (u % 4) x (omega arith) (omega arith) (ap (λ (r : ℕ). has r x) (sym (first u lu)) ∙ h))

      edge : (e : ℕ) → e < edges p → source p e < p.states → has (edges_in p s) e ≡ true → has (turned (row_at a b c d) 0 (source p e)) (target_of p e) ≡ true
      edge e le ls h =
          let u = source p e in
          ap (λ (r : ℕ). has r (target_of p e)) (first u (omega (arith, ls, few))) ∙ row-edge (u / 4) (u % 4) e (omega (arith, ls, few, most)) (omega arith) le (omega arith) h
