-- The table of what each state reaches by one edge or more: after the rows are joined at every state, row v is what v reaches. Joining at k
-- leaves each row closed by way of the states up to k, so that no round has to be repeated. Then one turn of each loop of the code, and the
-- ranges that a legal policy gives it. Assumes nothing.
use Prim.Native.Nat.{ℕ, zero, suc, ◌+◌, ◌*◌, ◌%◌, ◌^◌, ◌≤◌, ◌<◌}
use native.Mathlib.Omega.{arith}
use native.Mathlib.Decide.{ℕ_discrete}
use native.Mathlib.Nat.{mod-lt, div-add-mod', mul-le-mul_right, suc-mul}
use native.Mathlib.Numerals.{add-one}
use mathlib.Core.Path.{◌≡◌, refl, sym, ap, ◌∙◌, subst}
use mathlib.Core.Logic.{◌⊎◌, inl, inr}
use mathlib.Core.Bool.{Bool, true, false, cond, false≢true}
use mathlib.Core.List.{List, [], ◌∷◌}
use lib.Bits.{bit_or}
use lib.ListN.{length, get_or, set, length-set}
use lib.Seq.{get_or-set_same, get_or-set_other}
use Rattle.lists.proofs.Bools.{test, or_cases, or_left, or_right, bool-ext}
use Rattle.masks.specs.Masks.{has, insert, members}
use Rattle.masks.proofs.Bits.{has-none, has-or, mask-ext, insert-lt}
use Rattle.masks.proofs.Members.{insert-cases, insert-keeps, insert-adds, members-has, members-lt, has-members}
use Rattle.policy.specs.declared.Policy.{Policy}
use Rattle.policy.specs.Policies.{edges, edge_of, source, target_of, legal}
use Rattle.policy.proofs.Laws.{legal-counts, legal-target, source-edge, edge-lt}
use Rattle.graph.specs.Cycles.{Path}
use Rattle.graph.specs.Through.{GraphOf, Rows, onward, with_target, edge_row, edge_rows, AreStates, join_row, join_rows, joined_rows}
use Rattle.graph.proofs.Cycles.{Targets}
use Rattle.graph.proofs.Onward.{Onward, onward-trans, onward-some, some-onward}

-- ---- a row joined at k
join-cases : (row k pivot x : ℕ) → has (join_row row k pivot) x ≡ true → (has row x ≡ true) ⊎ ((has row k ≡ true) × (has pivot x ≡ true))
unfolding join_row
join-cases row k pivot x h = go (test (has row k))
  where
    or : has row k ≡ true → (has row x ≡ true) ⊎ (has pivot x ≡ true) → (has row x ≡ true) ⊎ ((has row k ≡ true) × (has pivot x ≡ true))
    or t (inl q) = inl q
    or t (inr q) = inr (t, q)

    go : (has row k ≡ true) ⊎ (has row k ≡ false) → (has row x ≡ true) ⊎ ((has row k ≡ true) × (has pivot x ≡ true))
    go (inl t) = or t (or_cases (has row x) (has pivot x) (sym (has-or x row pivot) ∙ (rw t at h)))
    go (inr f) = inl (rw f at h)

join-keeps : (row k pivot x : ℕ) → has row x ≡ true → has (join_row row k pivot) x ≡ true
unfolding join_row
join-keeps row k pivot x h = go (has row k)
  where
    go : (b : Bool) → has (cond b (bit_or row pivot) row) x ≡ true
    go true = has-or x row pivot ∙ or_left (has row x) (has pivot x) h
    go false = h

join-adds : (row k pivot x : ℕ) → has row k ≡ true → has pivot x ≡ true → has (join_row row k pivot) x ≡ true
unfolding join_row
join-adds row k pivot x t h = rw t (has-or x row pivot ∙ or_right (has row x) (has pivot x) h)

-- ---- joined at each state in turn
-- f k u: row u, joined at the states below k
module _ (n : ℕ) (f : ℕ → ℕ → ℕ) (next : (k u : ℕ) → k < n → u < n → f (suc k) u ≡ join_row (f k u) k (f k k)) where
  turn-keeps : (k u x : ℕ) → k < n → u < n → has (f k u) x ≡ true → has (f (suc k) u) x ≡ true
  turn-keeps k u x lk lu h = ap (λ (r : ℕ). has r x) (next k u lk lu) ∙ join-keeps (f k u) k (f k k) x h

  turn-adds : (k u x : ℕ) → k < n → u < n → has (f k u) k ≡ true → has (f k k) x ≡ true → has (f (suc k) u) x ≡ true
  turn-adds k u x lk lu t h = ap (λ (r : ℕ). has r x) (next k u lk lu) ∙ join-adds (f k u) k (f k k) x t h

  turn-cases : (k u x : ℕ) → k < n → u < n → has (f (suc k) u) x ≡ true → (has (f k u) x ≡ true) ⊎ ((has (f k u) k ≡ true) × (has (f k k) x ≡ true))
  turn-cases k u x lk lu h = join-cases (f k u) k (f k k) x (sym (ap (λ (r : ℕ). has r x) (next k u lk lu)) ∙ h)

  pub turns-keep : (k u x : ℕ) → k ≤ n → u < n → has (f 0 u) x ≡ true → has (f k u) x ≡ true
  turns-keep zero u x l lu h = h
  turns-keep (suc k) u x l lu h = turn-keeps k u x l lu (turns-keep k u x (omega arith) lu h)

  -- the rows are closed by way of the states below k
  pub turns-closed : (k w u x : ℕ) → k ≤ n → w < k → u < n → has (f k u) w ≡ true → has (f k w) x ≡ true → has (f k u) x ≡ true
  turns-closed zero w u x l lw lu a b = absurd (omega arith)
  turns-closed (suc k) w u x l lw lu a b = go (ℕ_discrete w k) (λ (w u x : ℕ). turns-closed k w u x (omega arith))
    where
      go : Dec (w ≡ k) → ((w u x : ℕ) → w < k → u < n → has (f k u) w ≡ true → has (f k w) x ≡ true → has (f k u) x ≡ true) → has (f (suc k) u) x ≡ true
      go (yes q) ih = at-k (turn-cases k u k l lu (subst (λ (z : ℕ). has (f (suc k) u) z ≡ true) q a)) (turn-cases k k x l l (subst (λ (z : ℕ). has (f (suc k) z) x ≡ true) q b))
        where
          at-k : (has (f k u) k ≡ true) ⊎ ((has (f k u) k ≡ true) × (has (f k k) k ≡ true)) → (has (f k k) x ≡ true) ⊎ ((has (f k k) k ≡ true) × (has (f k k) x ≡ true)) → has (f (suc k) u) x ≡ true
          at-k (inl s) (inl t) = turn-adds k u x l lu s t
          at-k (inl s) (inr t) = turn-adds k u x l lu s t.1
          at-k (inr s) (inl t) = turn-adds k u x l lu s.0 t
          at-k (inr s) (inr t) = turn-adds k u x l lu s.0 t.1
      go (no q) ih = below-k (turn-cases k u w l lu a) (turn-cases k w x l (omega arith) b)
        where
          wk : w < k
          wk = omega arith

          below-k : (has (f k u) w ≡ true) ⊎ ((has (f k u) k ≡ true) × (has (f k k) w ≡ true)) → (has (f k w) x ≡ true) ⊎ ((has (f k w) k ≡ true) × (has (f k k) x ≡ true)) → has (f (suc k) u) x ≡ true
          below-k (inl s) (inl t) = turn-keeps k u x l lu (ih w u x wk lu s t)
          below-k (inl s) (inr t) = turn-adds k u x l lu (ih w u k wk lu s t.0) t.1
          below-k (inr s) (inl t) = turn-adds k u x l lu s.0 (ih w k x wk l s.1 t)
          below-k (inr s) (inr t) = turn-adds k u x l lu s.0 t.1

  -- what the rows have is in any transitive relation that has the first rows
  pub turns-sound : (R : ℕ → ℕ → Type 0) → ((u v z : ℕ) → R u v → R v z → R u z) → ((u x : ℕ) → u < n → has (f 0 u) x ≡ true → R u x)
      → (k u x : ℕ) → k ≤ n → u < n → has (f k u) x ≡ true → R u x
  turns-sound R trans first zero u x l lu h = first u x lu h
  turns-sound R trans first (suc k) u x l lu h = go (turn-cases k u x l lu h) (λ (u x : ℕ). turns-sound R trans first k u x (omega arith))
    where
      go : (has (f k u) x ≡ true) ⊎ ((has (f k u) k ≡ true) × (has (f k k) x ≡ true)) → ((u x : ℕ) → u < n → has (f k u) x ≡ true → R u x) → R u x
      go (inl s) ih = ih u x lu s
      go (inr s) ih = trans u k x (ih u k lu s.0) (ih k x l s.1)

-- ---- the rows as a list
join-length : (rows : List ℕ) (k pivot n : ℕ) → length (join_rows rows k pivot n) ≡ length rows
unfolding join_rows
join-length rows k pivot zero = refl
join-length rows k pivot (suc n) = simp length-set (join-length rows k pivot n)

join-after : (rows : List ℕ) (k pivot n u : ℕ) → n ≤ u → get_or (join_rows rows k pivot n) u 0 ≡ get_or rows u 0
unfolding join_rows
join-after rows k pivot zero u l = refl
join-after rows k pivot (suc n) u l = get_or-set_other (join_rows rows k pivot n) n u _ 0 (λ q. omega arith) ∙ join-after rows k pivot n u (omega arith)

join-at : (rows : List ℕ) (k pivot n u : ℕ) → n ≤ length rows → u < n → get_or (join_rows rows k pivot n) u 0 ≡ join_row (get_or rows u 0) k pivot
unfolding join_rows
join-at rows k pivot zero u l lu = absurd (omega arith)
join-at rows k pivot (suc n) u l lu = go (ℕ_discrete u n) (join-at rows k pivot n u (omega arith))
  where
    r : List ℕ
    r = join_rows rows k pivot n

    go : Dec (u ≡ n) → (u < n → get_or (join_rows rows k pivot n) u 0 ≡ join_row (get_or rows u 0) k pivot) → get_or (join_rows rows k pivot (suc n)) u 0 ≡ join_row (get_or rows u 0) k pivot
    go (yes q) ih =
        ap (λ (z : ℕ). get_or (join_rows rows k pivot (suc n)) z 0) q ∙ get_or-set_same r n (join_row (get_or r n 0) k pivot) 0 (omega (arith, join-length rows k pivot n))
        ∙ ap (λ (z : ℕ). join_row z k pivot) (join-after rows k pivot n n (omega arith) ∙ ap (λ (z : ℕ). get_or rows z 0) (sym q))
    go (no q) ih = get_or-set_other r n u (join_row (get_or r n 0) k pivot) 0 q ∙ ih (omega arith)

joined_length : (rows : List ℕ) (n k : ℕ) → length (joined_rows rows n k) ≡ length rows
unfolding joined_rows
joined_length rows n zero = refl
joined_length rows n (suc k) = join-length (joined_rows rows n k) k (get_or (joined_rows rows n k) k 0) n ∙ joined_length rows n k

joined-next : (rows : List ℕ) (n : ℕ) → n ≤ length rows → (k u : ℕ) → u < n
    → get_or (joined_rows rows n (suc k)) u 0 ≡ join_row (get_or (joined_rows rows n k) u 0) k (get_or (joined_rows rows n k) k 0)
unfolding joined_rows
joined-next rows n l k u lu = join-at (joined_rows rows n k) k (get_or (joined_rows rows n k) k 0) n u (omega (arith, joined_length rows n k)) lu

module _ (rows t : List ℕ) (l m : ℕ) where
  edge-rows-length : (n : ℕ) → length (edge_rows rows t l m n) ≡ length rows
  unfolding edge_rows
  edge-rows-length zero = refl
  edge-rows-length (suc n) = simp length-set (edge-rows-length n)

  edge-rows-at : (n v : ℕ) → n ≤ length rows → v < n → get_or (edge_rows rows t l m n) v 0 ≡ edge_row t l m v l
  unfolding edge_rows
  edge-rows-at zero v k lv = absurd (omega arith)
  edge-rows-at (suc n) v k lv = go (ℕ_discrete v n) (edge-rows-at n v (omega arith))
    where
      go : Dec (v ≡ n) → (v < n → get_or (edge_rows rows t l m n) v 0 ≡ edge_row t l m v l) → get_or (edge_rows rows t l m (suc n)) v 0 ≡ edge_row t l m v l
      go (yes q) ih =
          ap (λ (z : ℕ). get_or (edge_rows rows t l m (suc n)) z 0) q ∙ get_or-set_same (edge_rows rows t l m n) n (edge_row t l m n l) 0 (omega (arith, edge-rows-length n))
          ∙ ap (λ (z : ℕ). edge_row t l m z l) (sym q)
      go (no q) ih = get_or-set_other (edge_rows rows t l m n) n v (edge_row t l m n l) 0 q ∙ ih (omega arith)

pub rows_long : (rows t : List ℕ) (l m i n k : ℕ) → length (joined_rows (edge_rows rows t l m i) n k) ≡ length rows
rows_long rows t l m i n k = joined_length (edge_rows rows t l m i) n k ∙ edge-rows-length rows t l m i

module _ (p : Policy) (m : ℕ) where
  -- ---- a first row: the targets of the edges in m
  edge-row-has : (v a b : ℕ) → b < a → has m (edge_of p v b) ≡ true → has (edge_row p.target p.letters m v a) (target_of p (edge_of p v b)) ≡ true
  unfolding edge_row with_target edge_of target_of
  edge-row-has v zero b l t = absurd (omega arith)
  edge-row-has v (suc a) b l t = go (ℕ_discrete b a) (edge-row-has v a b)
    where
      e : ℕ
      e = edge_of p v b

      keep : (c : Bool) (x : ℕ) → has (edge_row p.target p.letters m v a) (target_of p e) ≡ true → has (cond c (insert (edge_row p.target p.letters m v a) x) (edge_row p.target p.letters m v a)) (target_of p e) ≡ true
      keep true x h = insert-keeps (edge_row p.target p.letters m v a) x (target_of p e) h
      keep false x h = h

      go : Dec (b ≡ a) → (b < a → has m (edge_of p v b) ≡ true → has (edge_row p.target p.letters m v a) (target_of p (edge_of p v b)) ≡ true) → has (edge_row p.target p.letters m v (suc a)) (target_of p e) ≡ true
      go (yes q) ih = rw (← q, t) (insert-adds (edge_row p.target p.letters m v b) (target_of p e))
      go (no q) ih = keep (has m (edge_of p v a)) (target_of p (edge_of p v a)) (ih (omega arith) t)

  edge-row-cases : (v a x : ℕ) → has (edge_row p.target p.letters m v a) x ≡ true → (b : ℕ) × (b < a) × (has m (edge_of p v b) ≡ true) × (target_of p (edge_of p v b) ≡ x)
  unfolding edge_row with_target edge_of target_of
  edge-row-cases v zero x h = absurd (false≢true (sym (has-none x) ∙ h))
  edge-row-cases v (suc a) x h = go (test (has m (edge_of p v a))) (edge-row-cases v a x)
    where
      From : ℕ → Type 0
      From k = (b : ℕ) × (b < k) × (has m (edge_of p v b) ≡ true) × (target_of p (edge_of p v b) ≡ x)

      up : From a → From (suc a)
      up r = (r.0, omega (arith, r.1), r.2, r.3)

      new : has m (edge_of p v a) ≡ true → (has (edge_row p.target p.letters m v a) x ≡ true → From a) → (has (edge_row p.target p.letters m v a) x ≡ true) ⊎ (target_of p (edge_of p v a) ≡ x) → From (suc a)
      new t ih (inl k) = up (ih k)
      new t ih (inr k) = (a, omega arith, t, k)

      go : (has m (edge_of p v a) ≡ true) ⊎ (has m (edge_of p v a) ≡ false) → (has (edge_row p.target p.letters m v a) x ≡ true → From a) → From (suc a)
      go (inl t) ih = new t ih (insert-cases (edge_row p.target p.letters m v a) (target_of p (edge_of p v a)) x (rw t at h))
      go (inr k) ih = up (ih (rw k at h))

  -- ---- the rows joined at every state are what each state reaches
  module _ (ok : legal p ≡ true) (rows : List ℕ) (room : 16 ≤ length rows) where
    targets : Targets p
    targets e l = legal-target p ok e l

    first : List ℕ
    first = edge_rows rows p.target p.letters m p.states

    -- row u, joined at the states below k
    row : ℕ → ℕ → ℕ
    row k u = get_or (joined_rows first 16 k) u 0

    next : (k u : ℕ) → k < p.states → u < p.states → row (suc k) u ≡ join_row (row k u) k (row k k)
    unfolding row first
    next k u lk lu = joined-next first 16 (omega (arith, edge-rows-length rows p.target p.letters m p.states)) k u (omega (arith, (legal-counts p ok).states_few))

    first-is : (u : ℕ) → u < p.states → row 0 u ≡ edge_row p.target p.letters m u p.letters
    unfolding row joined_rows first
    first-is u l = edge-rows-at rows p.target p.letters m p.states u (omega (arith, (legal-counts p ok).states_few)) l

    first-sound : (u x : ℕ) → u < p.states → has (row 0 u) x ≡ true → Onward p m u x
    first-sound u x l h =
        let r = edge-row-cases u p.letters x (sym (ap (λ (r : ℕ). has r x) (first-is u l)) ∙ h) in
        (edge_of p u r.0, edge-lt p u r.0 l r.1, r.2, source-edge p ok u r.0 r.1, ([], r.3))

    -- an edge is that of its source and a letter
    edge-split : (e : ℕ) → edge_of p (source p e) (e % p.letters) ≡ e
    unfolding edge_of source
    edge-split e = div-add-mod' e p.letters

    first_edge : (e : ℕ) → source p e < p.states → has m e ≡ true → has (row 0 (source p e)) (target_of p e) ≡ true
    first_edge e l t =
        ap (λ (r : ℕ). has r (target_of p e)) (first-is (source p e) l)
        ∙ subst (λ (z : ℕ). has (edge_row p.target p.letters m (source p e) p.letters) (target_of p z) ≡ true) (edge-split e)
        (edge-row-has (source p e) p.letters (e % p.letters) (mod-lt e (omega (arith, (legal-counts p ok).letters_some))) (ap (has m) (edge-split e) ∙ t))

    last-edge : (u e : ℕ) → u < p.states → source p e ≡ u → has m e ≡ true → has (row p.states u) (target_of p e) ≡ true
    last-edge u e l s h =
        let ls : source p e < p.states = subst (λ (z : ℕ). z < p.states) (sym s) l in
        subst (λ (z : ℕ). has (row p.states z) (target_of p e) ≡ true) s (turns-keep p.states row next p.states (source p e) (target_of p e) (omega arith) ls (first_edge e ls h))

    last-path : (u e : ℕ) (w : List ℕ) (x : ℕ) → u < p.states → Path p (members (edges p) m) u (e ∷ w) x → has (row p.states u) x ≡ true
    last-path u e [] x l a = subst (λ (z : ℕ). has (row p.states u) z ≡ true) a.2 (last-edge u e l a.0 (members-has (edges p) m e a.1))
    last-path u e (f ∷ w) x l a =
        let lt = targets e (members-lt (edges p) m e a.1) in
        turns-closed p.states row next p.states (target_of p e) u x (omega arith) lt l (last-edge u e l a.0 (members-has (edges p) m e a.1)) (last-path (target_of p e) f w x lt a.2)

    rows-reach : (v : ℕ) → v < p.states → row p.states v ≡ onward p m v
    rows-reach v l = mask-ext (row p.states v) (onward p m v) (λ x. bool-ext (has (row p.states v) x) (has (onward p m v) x) (sound x) (complete x))
      where
        sound : (x : ℕ) → has (row p.states v) x ≡ true → has (onward p m v) x ≡ true
        sound x h = some-onward p m v x targets (turns-sound p.states row next (Onward p m) (onward-trans p m) first-sound p.states v x (omega arith) l h)

        complete : (x : ℕ) → has (onward p m v) x ≡ true → has (row p.states v) x ≡ true
        complete x h = let r = (onward-some p m v x h).1 in last-path v r.0 r.4.0 x l (r.3, has-members (edges p) m r.0 r.1 r.2, r.4.1)

-- the rows that the code makes are those of every policy with this graph
pub joined-are : (p : Policy) (m states letters : ℕ) (heads rows₀ rows : List ℕ) → GraphOf p states letters heads → length rows₀ ≡ 16
    → rows ≡ joined_rows (edge_rows rows₀ heads letters m states) 16 states → Rows p m rows
unfolding first row
joined-are p m states letters heads rows₀ rows g long e =
    let is : rows ≡ joined_rows (edge_rows rows₀ p.target p.letters m p.states) 16 p.states = e ∙ rw (g.states_are, g.letters_are, g.heads_are) refl in
    subst (λ (r : List ℕ). Rows p m r) (sym is) (record { row_is = rows-reach p m g.lawful rows₀ (omega arith) })

-- ---- what the code asks of a graph
pub record Fits (states letters : ℕ) (heads : List ℕ) : Type 0 where
  pub few : states ≤ 16
  pub edges_few : states * letters ≤ 64
  pub are_states : AreStates heads (states * letters)

pub graph-fits : (p : Policy) (states letters : ℕ) (heads : List ℕ) → GraphOf p states letters heads → Fits states letters heads
unfolding target_of edges
graph-fits p states letters heads g =
    let k = legal-counts p g.lawful in
    let is : states * letters ≡ edges p = rw (g.states_are, g.letters_are) refl in
    record {
      few = omega (arith, k.states_few, g.states_are);
      edges_few = omega (arith, is, k.edges_few);
      are_states = λ e l. subst (λ (t : List ℕ). get_or t e 0 < 16) (sym g.heads_are) (omega (arith, legal-target p g.lawful e (omega (arith, is, l)), k.states_few));
    }

-- of a legal policy: its own graph
pub own_graph : (p : Policy) → legal p ≡ true → GraphOf p p.states p.letters p.target
own_graph p lawful = record { lawful = lawful; states_are = refl; letters_are = refl; heads_are = refl }

pub own_fits : (p : Policy) → legal p ≡ true → Fits p.states p.letters p.target
own_fits p lawful = graph-fits p p.states p.letters p.target (own_graph p lawful)

-- the edges of a state are edges
pub row_within : (v n l : ℕ) → v < n → v * l + l ≤ n * l
row_within v n l h = omega (arith, mul-le-mul_right l h, suc-mul v l)

pub row-states : (v n l : ℕ) (t : List ℕ) → v < n → AreStates t (n * l) → AreStates t (v * l + l)
row-states v n l t h k e le = k e (omega (arith, row_within v n l h))

pub edge-row-few : (t : List ℕ) (l m v a : ℕ) → AreStates t (v * l + a) → edge_row t l m v a < 2 ^ 16
unfolding edge_row with_target
edge-row-few t l m v zero h = omega arith
edge-row-few t l m v (suc a) h = go (has m (v * l + a)) (edge-row-few t l m v a (λ e k. h e (omega arith)))
  where
    go : (b : Bool) → edge_row t l m v a < 2 ^ 16 → cond b (insert (edge_row t l m v a) (get_or t (v * l + a) 0)) (edge_row t l m v a) < 2 ^ 16
    go true k = insert-lt (edge_row t l m v a) (get_or t (v * l + a) 0) 16 k (h (v * l + a) (omega arith))
    go false k = k

-- ---- one turn of each loop
pub edge-row-none : (t : List ℕ) (l m v : ℕ) → edge_row t l m v 0 ≡ 0
unfolding edge_row
edge-row-none t l m v = refl

pub edge-row-more : (t : List ℕ) (l m v a : ℕ) → edge_row t l m v (a + 1) ≡ with_target t m (edge_row t l m v a) (v * l + a)
unfolding edge_row
edge-row-more t l m v a = rw add-one

pub edge-rows-none : (rows t : List ℕ) (l m : ℕ) → edge_rows rows t l m 0 ≡ rows
unfolding edge_rows
edge-rows-none rows t l m = refl

pub edge-rows-more : (rows t : List ℕ) (l m n : ℕ) → edge_rows rows t l m (n + 1) ≡ set (edge_rows rows t l m n) n (edge_row t l m n l)
unfolding edge_rows
edge-rows-more rows t l m n = rw add-one

pub join-none : (rows : List ℕ) (k pivot : ℕ) → join_rows rows k pivot 0 ≡ rows
unfolding join_rows
join-none rows k pivot = refl

pub join_more : (rows : List ℕ) (k pivot n : ℕ) → join_rows rows k pivot (n + 1) ≡ set (join_rows rows k pivot n) n (join_row (get_or (join_rows rows k pivot n) n 0) k pivot)
unfolding join_rows
join_more rows k pivot n = rw add-one

pub joined-none : (rows : List ℕ) (n : ℕ) → joined_rows rows n 0 ≡ rows
unfolding joined_rows
joined-none rows n = refl

pub joined-more : (rows : List ℕ) (n k : ℕ) → joined_rows rows n (k + 1) ≡ join_rows (joined_rows rows n k) k (get_or (joined_rows rows n k) k 0) n
unfolding joined_rows
joined-more rows n k = rw add-one
