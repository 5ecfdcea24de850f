-- The states on the largest cycle through a state, and the edges between them, by the rows of an edge set and the tables of the edges that leave and enter
-- each state. Assumes nothing.
use Prim.Native.Nat.{ℕ, zero, suc, ◌+◌, ◌-◌, ◌*◌, ◌%◌, ◌^◌, ◌≤◌, ◌<◌}
use native.Mathlib.Omega.{arith}
use native.Mathlib.Nat.{mod-lt, div-add-mod', mul-zero, add_comm}
use native.Mathlib.Numerals.{add-one}
use native.Mathlib.Decide.{ℕ_discrete, dec_lt, dec_le}
use mathlib.Core.Path.{◌≡◌, refl, sym, ap, ◌∙◌, subst}
use mathlib.Core.Logic.{◌⊎◌, inl, inr, ◌≢◌}
use mathlib.Core.Bool.{Bool, true, false, not, ◌&&◌, ◌||◌, cond, true≢false, false≢true}
use mathlib.Core.List.{List, [], map}
use lib.Bits.{bit_and, bit_or, bit_xor, and_mask, xor_add_and}
use lib.Dec.{eqb, ltb}
use lib.ListN.{length, get_or, set, replicate, length-set}
use lib.Pow.{pow_pos, shl_exact, ones_lt, ones_split, low}
use lib.Seq.{get_or-set_same, get_or-set_other, ext_get_or}
use borrow.Author.Tests.{lt-ltb}
use Rattle.lists.specs.Lists.{below}
use Rattle.lists.proofs.Bools.{test, or_cases, or_left, or_right, and_l, and_r, both, eqb≡, ≡eqb, neqb, not-true, not-false, bool-ext, lt-true}
use Rattle.lists.proofs.Lists.{length-map-below, get_or-map-below}
use Rattle.masks.specs.Masks.{has, insert, minus, mask_of}
use Rattle.masks.proofs.Bits.{has-and, has-or, has-none, has-minus, has-full, has-high, mask-ext, lt-pow}
use Rattle.masks.proofs.MaskOf.{has-mask-of, mask-of-some, mask-of-in, mask-of-out}
use Rattle.masks.proofs.Members.{none-zero, some-nonzero, some-bit}
use Rattle.policy.specs.declared.Policy.{Policy}
use Rattle.policy.specs.Policies.{edges, edge_of, source, target_of, legal}
use Rattle.policy.proofs.Laws.{legal-counts, legal-target, source-edge, source-lt}
use Rattle.graph.specs.Cycles.{contains}
use Rattle.graph.specs.Through.{cycle_through, Rows, EndsOf, states_on_cycles, cycle_states, union, between, own_edges, leaving, entering}
use Rattle.graph.proofs.Cycles.{Targets, contains-some, some-contains}
use Rattle.graph.proofs.Through.{Leads, leads-edge, through-some, some-through}
use Rattle.graph.proofs.CodeLaws.{row_within}
use Rattle.graph.proofs.Onward.{Onward, onward-leads, onward-join, onward-trans, leads-onward, onward-some, some-onward}

-- ---- the edges that leave a state: the lowest l edges, moved up
pub first-few : (l v : ℕ) → v * l + l ≤ 64 → v * l < 64
first-few zero v h = omega (arith, mul-zero v)
first-few (suc l) v h = omega arith

pub own-moved : (l v : ℕ) → v * l + l ≤ 64 → (2 ^ l - 1) * 2 ^ (v * l) % 2 ^ 64 ≡ own_edges l v
unfolding own_edges minus
own-moved l v h = shl_exact l f 64 (ones_lt l) (omega arith) ∙ is
  where
    f : ℕ
    f = v * l

    a : ℕ
    a = 2 ^ (f + l) - 1

    b : ℕ
    b = 2 ^ f - 1

    split : a ≡ (2 ^ l - 1) * 2 ^ f + b
    split = ap (λ (k : ℕ). 2 ^ k - 1) (add_comm f l) ∙ ones_split l f

    both-are : bit_and a b ≡ b
    both-are = and_mask a f ∙ ap (λ (k : ℕ). k % 2 ^ f) split ∙ low (2 ^ l - 1) f (ones_lt f)

    is : (2 ^ l - 1) * 2 ^ f ≡ bit_xor a (bit_and a b)
    is = omega (arith, split, both-are, xor_add_and a b, ap (bit_xor a) both-are)

own-has : (l v e : ℕ) → has (own_edges l v) e ≡ true → (v * l ≤ e) × (e < v * l + l)
unfolding own_edges
own-has l v e h = (low (dec_le (v * l) e), high (dec_lt e (v * l + l)))
  where
    a : has (2 ^ (v * l + l) - 1) e && not (has (2 ^ (v * l) - 1) e) ≡ true
    a = sym (has-minus (2 ^ (v * l + l) - 1) (2 ^ (v * l) - 1) e) ∙ h

    low : Dec (v * l ≤ e) → v * l ≤ e
    low (yes k) = k
    low (no k) = absurd (true≢false (sym (has-full (v * l) e (omega arith)) ∙ not-true (has (2 ^ (v * l) - 1) e) (and_r (has (2 ^ (v * l + l) - 1) e) (not (has (2 ^ (v * l) - 1) e)) a)))

    high : Dec (e < v * l + l) → e < v * l + l
    high (yes k) = k
    high (no k) = absurd (true≢false (sym (and_l (has (2 ^ (v * l + l) - 1) e) (not (has (2 ^ (v * l) - 1) e)) a) ∙ has-high (v * l + l) e (2 ^ (v * l + l) - 1) (omega (arith, pow_pos (v * l + l))) (omega arith)))

has-own : (l v e : ℕ) → v * l ≤ e → e < v * l + l → has (own_edges l v) e ≡ true
unfolding own_edges
has-own l v e h k =
    has-minus (2 ^ (v * l + l) - 1) (2 ^ (v * l) - 1) e
    ∙ both (has (2 ^ (v * l + l) - 1) e) (not (has (2 ^ (v * l) - 1) e)) (has-full (v * l + l) e k) (ap not (has-high (v * l) e (2 ^ (v * l) - 1) (omega (arith, pow_pos (v * l))) h))

-- ---- the states on cycles
pub on-own : (rows : List ℕ) (n w : ℕ) → has (states_on_cycles rows n) w ≡ true → has (get_or rows w 0) w ≡ true
unfolding states_on_cycles
on-own rows n w h = (mask-of-some (λ (u : ℕ). has (get_or rows u 0) u) n w h).1

-- ---- one turn of a loop over states
pub mask-of-next : (t : ℕ → Bool) (n s r : ℕ) → s ≡ mask_of t n → r ≡ cond (t n) (insert s n) s → r ≡ mask_of t (n + 1)
mask-of-next t n s r is e = e ∙ go (test (t n))
  where
    go : (t n ≡ true) ⊎ (t n ≡ false) → cond (t n) (insert s n) s ≡ mask_of t (n + 1)
    go (inl h) = rw h (ap (λ (x : ℕ). insert x n) is ∙ sym (mask-of-in t n h))
    go (inr h) = rw h (is ∙ sym (mask-of-out t n h))

-- ---- tables of 16 places
-- one place changed
table-set : (f g : ℕ → ℕ) (n k x : ℕ) → k < n → x ≡ g k → ((v : ℕ) → v ≢ k → f v ≡ g v) → set (map f (below n)) k x ≡ map g (below n)
table-set f g n k x l e h = ext_get_or 0 after (map g (below n)) (long ∙ sym (length-map-below g n)) (λ v i. at v (subst (λ (z : ℕ). v < z) long i) (ℕ_discrete v k))
  where
    after : List ℕ
    after = set (map f (below n)) k x

    long : length after ≡ n
    long = length-set (map f (below n)) k x ∙ length-map-below f n

    at : (v : ℕ) → v < n → Dec (v ≡ k) → get_or after v 0 ≡ get_or (map g (below n)) v 0
    at v i (yes q) =
        ap (λ (z : ℕ). get_or after z 0) q ∙ get_or-set_same (map f (below n)) k x 0 (subst (λ (z : ℕ). k < z) (sym (length-map-below f n)) l) ∙ e
        ∙ ap g (sym q) ∙ sym (get_or-map-below g n v 0 i)
    at v i (no q) = get_or-set_other (map f (below n)) k v x 0 q ∙ get_or-map-below f n v 0 i ∙ h v q ∙ sym (get_or-map-below g n v 0 i)

pub leaving-none : (l : ℕ) → replicate 16 0 ≡ leaving l 0
unfolding leaving
leaving-none l = refl

pub leaving-more : (l n : ℕ) → n < 16 → set (leaving l n) n (own_edges l n) ≡ leaving l (n + 1)
unfolding leaving
leaving-more l n h =
    table-set (λ (v : ℕ). cond (ltb v n) (own_edges l v) 0) (λ (v : ℕ). cond (ltb v (n + 1)) (own_edges l v) 0) 16 n (own_edges l n) h
    (ap (λ (b : Bool). cond b (own_edges l n) 0) (sym (lt-ltb n (n + 1) (omega arith))))
    (λ v q. ap (λ (b : Bool). cond b (own_edges l v) 0) (bool-ext (ltb v n) (ltb v (n + 1)) (λ t. lt-ltb v (n + 1) (omega (arith, lt-true v n t))) (λ t. lt-ltb v n (omega (arith, q, lt-true v (n + 1) t)))))

pub entering-none : (t : List ℕ) → replicate 16 0 ≡ entering t 0
unfolding entering mask_of
entering-none t = refl

pub entering-more : (t : List ℕ) (n : ℕ) → get_or t n 0 < 16 → set (entering t n) (get_or t n 0) (insert (get_or (entering t n) (get_or t n 0) 0) n) ≡ entering t (n + 1)
unfolding entering
entering-more t n h =
    table-set (λ (v : ℕ). mask_of (λ (e : ℕ). eqb (get_or t e 0) v) n) (λ (v : ℕ). mask_of (λ (e : ℕ). eqb (get_or t e 0) v) (n + 1)) 16 k (insert (get_or (entering t n) k 0) n) h
    (ap (λ (x : ℕ). insert x n) (get_or-map-below (λ (v : ℕ). mask_of (λ (e : ℕ). eqb (get_or t e 0) v) n) 16 k 0 h) ∙ sym (mask-of-in (λ (e : ℕ). eqb (get_or t e 0) k) n (≡eqb k k refl)))
    (λ v q. sym (mask-of-out (λ (e : ℕ). eqb (get_or t e 0) v) n (neqb k v (λ e. q (sym e)))))
  where
    k : ℕ
    k = get_or t n 0

-- ---- the sets that a table has at the members of s
module _ (t : List ℕ) (s : ℕ) where
  pub union-none : union t s 0 ≡ 0
  unfolding union
  union-none = refl

  pub union-in : (n : ℕ) → has s n ≡ true → union t s (n + 1) ≡ bit_or (union t s n) (get_or t n 0)
  unfolding union
  union-in n h = rw (add-one n, h) refl

  pub union-out : (n : ℕ) → has s n ≡ false → union t s (n + 1) ≡ union t s n
  unfolding union
  union-out n h = rw (add-one n, h) refl

  module _ (e : ℕ) where
    abbrev At : ℕ → Type 0
    At n = (v : ℕ) × (v < n) × (has s v ≡ true) × (has (get_or t v 0) e ≡ true)

    union-some : (n : ℕ) → has (union t s n) e ≡ true → At n
    unfolding union
    union-some zero h = absurd (false≢true (sym (has-none e) ∙ h))
    union-some (suc n) h = go (test (has s n)) (union-some n)
      where
        up : At n → At (suc n)
        up r = (r.0, omega (arith, r.1), r.2, r.3)

        new : has s n ≡ true → (has (union t s n) e ≡ true → At n) → (has (union t s n) e ≡ true) ⊎ (has (get_or t n 0) e ≡ true) → At (suc n)
        new k ih (inl q) = up (ih q)
        new k ih (inr q) = (n, omega arith, k, q)

        go : (has s n ≡ true) ⊎ (has s n ≡ false) → (has (union t s n) e ≡ true → At n) → At (suc n)
        go (inl k) ih = new k ih (or_cases (has (union t s n) e) (has (get_or t n 0) e) (sym (has-or e (union t s n) (get_or t n 0)) ∙ (rw k at h)))
        go (inr k) ih = up (ih (rw k at h))

    some-union : (n v : ℕ) → v < n → has s v ≡ true → has (get_or t v 0) e ≡ true → has (union t s n) e ≡ true
    unfolding union
    some-union zero v l k h = absurd (omega arith)
    some-union (suc n) v l k h = go (ℕ_discrete v n) (some-union n v)
      where
        keep : (b : Bool) → has (union t s n) e ≡ true → has (cond b (bit_or (union t s n) (get_or t n 0)) (union t s n)) e ≡ true
        keep true q = has-or e (union t s n) (get_or t n 0) ∙ or_left (has (union t s n) e) (has (get_or t n 0) e) q
        keep false q = q

        go : Dec (v ≡ n) → (v < n → has s v ≡ true → has (get_or t v 0) e ≡ true → has (union t s n) e ≡ true) → has (union t s (suc n)) e ≡ true
        go (yes q) ih = rw (subst (λ (z : ℕ). has s z ≡ true) q k) (has-or e (union t s n) (get_or t n 0) ∙ or_right (has (union t s n) e) (has (get_or t n 0) e) (subst (λ (z : ℕ). has (get_or t z 0) e ≡ true) q h))
        go (no q) ih = keep (has s n) (ih (omega arith) k h)

pub union-empty : (t : List ℕ) (n : ℕ) → union t 0 n ≡ 0
unfolding union
union-empty t zero = refl
union-empty t (suc n) = rw (has-none n) (union-empty t n)

-- one turn of a loop over the members: l are those left, r those left after v, and a is gathered so far
pub union-turn : (t : List ℕ) (a l r n v : ℕ) → v < n → has l v ≡ true → ((w : ℕ) → has r w ≡ has l w && not (eqb v w)) → bit_or (bit_or a (get_or t v 0)) (union t r n) ≡ bit_or a (union t l n)
union-turn t a l r n v lv on is = mask-ext x y (λ e. bool-ext (has x e) (has y e) (there e) (back e))
  where
    z : ℕ
    z = get_or t v 0

    x : ℕ
    x = bit_or (bit_or a z) (union t r n)

    y : ℕ
    y = bit_or a (union t l n)

    there : (e : ℕ) → has x e ≡ true → has y e ≡ true
    there e h = has-or e a (union t l n) ∙ first (or_cases (has (bit_or a z) e) (has (union t r n) e) (sym (has-or e (bit_or a z) (union t r n)) ∙ h))
      where
        second : (has a e ≡ true) ⊎ (has z e ≡ true) → has a e || has (union t l n) e ≡ true
        second (inl q) = or_left (has a e) (has (union t l n) e) q
        second (inr q) = or_right (has a e) (has (union t l n) e) (some-union t l e n v lv on q)

        first : (has (bit_or a z) e ≡ true) ⊎ (has (union t r n) e ≡ true) → has a e || has (union t l n) e ≡ true
        first (inl q) = second (or_cases (has a e) (has z e) (sym (has-or e a z) ∙ q))
        first (inr q) =
            let s = union-some t r e n q in
            or_right (has a e) (has (union t l n) e) (some-union t l e n s.0 s.1 (and_l (has l s.0) (not (eqb v s.0)) (sym (is s.0) ∙ s.2)) s.3)

    back : (e : ℕ) → has y e ≡ true → has x e ≡ true
    back e h = has-or e (bit_or a z) (union t r n) ∙ go (or_cases (has a e) (has (union t l n) e) (sym (has-or e a (union t l n)) ∙ h))
      where
        so-far : has a e || has z e ≡ true → has (bit_or a z) e || has (union t r n) e ≡ true
        so-far q = or_left (has (bit_or a z) e) (has (union t r n) e) (has-or e a z ∙ q)

        at : (w : ℕ) → w < n → has l w ≡ true → has (get_or t w 0) e ≡ true → Dec (v ≡ w) → has (bit_or a z) e || has (union t r n) e ≡ true
        at w lw k q (yes s) = so-far (or_right (has a e) (has z e) (subst (λ (u : ℕ). has (get_or t u 0) e ≡ true) (sym s) q))
        at w lw k q (no s) = or_right (has (bit_or a z) e) (has (union t r n) e) (some-union t r e n w lw (is w ∙ both (has l w) (not (eqb v w)) k (ap not (neqb v w s))) q)

        go : (has a e ≡ true) ⊎ (has (union t l n) e ≡ true) → has (bit_or a z) e || has (union t r n) e ≡ true
        go (inl q) = so-far (or_left (has a e) (has z e) q)
        go (inr q) = let s = union-some t l e n q in at s.0 s.1 s.2 s.3 (ℕ_discrete v s.0)

module _ (p : Policy) (ok : legal p ≡ true) where
  targets : Targets p
  targets e l = legal-target p ok e l

  state-few : (v : ℕ) → v < p.states → v < 16
  state-few v l = omega (arith, (legal-counts p ok).states_few)

  -- ---- the edges between states of s
  own-source : (v e : ℕ) → v * p.letters ≤ e → e < v * p.letters + p.letters → source p e ≡ v
  unfolding edge_of
  own-source v e h k =
      let q : v * p.letters + (e - v * p.letters) ≡ e = omega arith in
      subst (λ (f : ℕ). source p f ≡ v) q (source-edge p ok v (e - v * p.letters) (omega arith))

  source-own : (v e : ℕ) → source p e ≡ v → (v * p.letters ≤ e) × (e < v * p.letters + p.letters)
  unfolding source
  source-own v e q =
      let d : v * p.letters + e % p.letters ≡ e = ap (λ (k : ℕ). k * p.letters + e % p.letters) (sym q) ∙ div-add-mod' e p.letters in
      let r : e % p.letters < p.letters = mod-lt e (omega (arith, (legal-counts p ok).letters_some)) in
      (omega arith, omega arith)

  -- a set of edges contains v if it has one of these
  pub own-contains : (v m : ℕ) → v < p.states → not (eqb (bit_and m (own_edges p.letters v)) 0) ≡ contains p v m
  unfolding edges
  own-contains v m l = bool-ext (not (eqb x 0)) (contains p v m) (λ t. found (λ z. true≢false (sym (≡eqb x 0 z) ∙ not-true (eqb x 0) t))) (λ t. not-false (eqb x 0) (λ z. some t (eqb≡ x 0 z)))
    where
      own : ℕ
      own = own_edges p.letters v

      x : ℕ
      x = bit_and m own

      found : x ≢ 0 → contains p v m ≡ true
      found n =
          let s = some-bit x x (lt-pow x) n in
          let e : ℕ = s.0 in
          let t : has m e && has own e ≡ true = sym (has-and e m own) ∙ s.2 in
          let r = own-has p.letters v e (and_r (has m e) (has own e) t) in
          some-contains p v m e (omega (arith, r.1, row_within v p.states p.letters l)) (and_l (has m e) (has own e) t) (own-source v e r.0 r.1)

      some : contains p v m ≡ true → x ≢ 0
      some t =
          let s = contains-some p v m t in
          let r = source-own v s.0 s.3 in
          some-nonzero x s.0 (has-and s.0 m own ∙ both (has m s.0) (has own s.0) s.2 (has-own p.letters v s.0 r.0 r.1))

  leaving-some : (v e : ℕ) → v < 16 → has (get_or (leaving p.letters p.states) v 0) e ≡ true → (e < edges p) × (source p e ≡ v)
  unfolding leaving edges
  leaving-some v e l h = go (test (ltb v p.states))
    where
      here : has (cond (ltb v p.states) (own_edges p.letters v) 0) e ≡ true
      here = sym (ap (λ (k : ℕ). has k e) (get_or-map-below (λ (v : ℕ). cond (ltb v p.states) (own_edges p.letters v) 0) 16 v 0 l)) ∙ h

      go : (ltb v p.states ≡ true) ⊎ (ltb v p.states ≡ false) → (e < edges p) × (source p e ≡ v)
      go (inl t) =
          let r = own-has p.letters v e (rw t at here) in
          (omega (arith, r.1, row_within v p.states p.letters (lt-true v p.states t)), own-source v e r.0 r.1)
      go (inr f) = absurd (false≢true (sym (has-none e) ∙ (rw f at here)))

  some-leaving : (e : ℕ) → e < edges p → has (get_or (leaving p.letters p.states) (source p e) 0) e ≡ true
  unfolding leaving
  some-leaving e l =
      let v = source p e in
      let lv = source-lt p ok e l in
      let r = source-own v e refl in
      ap (λ (k : ℕ). has k e)
      (get_or-map-below (λ (v : ℕ). cond (ltb v p.states) (own_edges p.letters v) 0) 16 v 0 (state-few v lv) ∙ ap (λ (b : Bool). cond b (own_edges p.letters v) 0) (lt-ltb v p.states lv))
      ∙ has-own p.letters v e r.0 r.1

  enter-at : (v : ℕ) → v < 16 → get_or (entering p.target (edges p)) v 0 ≡ mask_of (λ e. eqb (target_of p e) v) (edges p)
  unfolding entering target_of
  enter-at v l = get_or-map-below (λ (v : ℕ). mask_of (λ (e : ℕ). eqb (get_or p.target e 0) v) (edges p)) 16 v 0 l

  entering-some : (v e : ℕ) → v < 16 → has (get_or (entering p.target (edges p)) v 0) e ≡ true → target_of p e ≡ v
  entering-some v e l h = eqb≡ (target_of p e) v (mask-of-some (λ (e : ℕ). eqb (target_of p e) v) (edges p) e (sym (ap (λ (k : ℕ). has k e) (enter-at v l)) ∙ h)).1

  some-entering : (e : ℕ) → e < edges p → has (get_or (entering p.target (edges p)) (target_of p e) 0) e ≡ true
  some-entering e l =
      let v = target_of p e in
      ap (λ (k : ℕ). has k e) (enter-at v (state-few v (targets e l))) ∙ has-mask-of (λ (e : ℕ). eqb (target_of p e) v) (edges p) e l ∙ ≡eqb v v refl

  module _ (m s : ℕ) (out into : List ℕ) (ends : EndsOf p out into) where
    between-some : (e : ℕ) → has (between out into m s p.states) e ≡ true → (e < edges p) × (has m e ≡ true) × (has s (source p e) ≡ true) × (has s (target_of p e) ≡ true)
    unfolding between
    between-some e h =
        let a = union out s p.states in
        let b = union into s p.states in
        let k : has (bit_and a b) e && has m e ≡ true = sym (has-and e (bit_and a b) m) ∙ h in
        let d : has a e && has b e ≡ true = sym (has-and e a b) ∙ and_l (has (bit_and a b) e) (has m e) k in
        let x = union-some out s e p.states (and_l (has a e) (has b e) d) in
        let y = union-some into s e p.states (and_r (has a e) (has b e) d) in
        let u = leaving-some x.0 e (state-few x.0 x.1) (subst (λ (l : List ℕ). has (get_or l x.0 0) e ≡ true) ends.out_are x.3) in
        let w = entering-some y.0 e (state-few y.0 y.1) (subst (λ (l : List ℕ). has (get_or l y.0 0) e ≡ true) ends.into_are y.3) in
        (u.0, and_r (has (bit_and a b) e) (has m e) k, subst (λ (z : ℕ). has s z ≡ true) (sym u.1) x.2, subst (λ (z : ℕ). has s z ≡ true) (sym w) y.2)

    some-between : (e : ℕ) → e < edges p → has m e ≡ true → has s (source p e) ≡ true → has s (target_of p e) ≡ true → has (between out into m s p.states) e ≡ true
    unfolding between
    some-between e l h k q =
        let a = union out s p.states in
        let b = union into s p.states in
        let x = some-union out s e p.states (source p e) (source-lt p ok e l) k (subst (λ (t : List ℕ). has (get_or t (source p e) 0) e ≡ true) (sym ends.out_are) (some-leaving e l)) in
        let y = some-union into s e p.states (target_of p e) (targets e l) q (subst (λ (t : List ℕ). has (get_or t (target_of p e) 0) e ≡ true) (sym ends.into_are) (some-entering e l)) in
        has-and e (bit_and a b) m ∙ both (has (bit_and a b) e) (has m e) (has-and e a b ∙ both (has a e) (has b e) x y) h

  -- ---- the largest cycle through v
  module _ (m v : ℕ) (rows : List ℕ) (is : Rows p m rows) (state : v < p.states) where
    row-some : (u w : ℕ) → u < p.states → has (get_or rows u 0) w ≡ true → (w < p.states) × Onward p m u w
    row-some u w l h = onward-some p m u w (sym (ap (λ (r : ℕ). has r w) (is.row_is u l)) ∙ h)

    some-row : (u w : ℕ) → u < p.states → Onward p m u w → has (get_or rows u 0) w ≡ true
    some-row u w l a = ap (λ (r : ℕ). has r w) (is.row_is u l) ∙ some-onward p m u w targets a

    pub on_is : has (states_on_cycles rows p.states) v ≡ has (get_or rows v 0) v
    unfolding states_on_cycles
    on_is = has-mask-of (λ (w : ℕ). has (get_or rows w 0) w) p.states v state

    -- none where v does not reach itself
    pub off-cycle : has (get_or rows v 0) v ≡ false → cycle_through p m v ≡ 0
    off-cycle f = none-zero (cycle_through p m v) (λ e h.
        let r = through-some p m v e h in
        true≢false (sym (some-row v v state (leads-onward p m v (source p e) v r.2 (e, r.0, r.1, refl, r.3))) ∙ f))

    module _ (on : has (get_or rows v 0) v ≡ true) where
      round : Onward p m v v
      round = (row-some v v state on).1

      pub on-cycle : cycle_through p m v ≢ 0
      on-cycle =
          let r = round in
          some-nonzero (cycle_through p m v) r.0 (some-through p targets m v state r.0 r.1 r.2 ([], sym r.3) r.4)

      same : ℕ → Bool
      same w = eqb (get_or rows w 0) (get_or rows v 0)

      states_some : (w : ℕ) → has (cycle_states rows v) w ≡ true → (w < p.states) × Onward p m v w × Onward p m w v
      unfolding cycle_states same
      states_some w h =
          let k : has (mask_of same 16) w && has (get_or rows v 0) w ≡ true = sym (has-and w (mask_of same 16) (get_or rows v 0)) ∙ h in
          let q = mask-of-some same 16 w (and_l (has (mask_of same 16) w) (has (get_or rows v 0) w) k) in
          let a = row-some v w state (and_r (has (mask_of same 16) w) (has (get_or rows v 0) w) k) in
          (a.0, a.1, (row-some w v a.0 (ap (λ (r : ℕ). has r v) (eqb≡ (get_or rows w 0) (get_or rows v 0) q.1) ∙ on)).1)

      some-states : (w : ℕ) → w < p.states → Onward p m v w → Onward p m w v → has (cycle_states rows v) w ≡ true
      unfolding cycle_states same
      some-states w l a b =
          has-and w (mask_of same 16) (get_or rows v 0)
          ∙ both (has (mask_of same 16) w) (has (get_or rows v 0) w) (has-mask-of same 16 w (state-few w l) ∙ ≡eqb (get_or rows w 0) (get_or rows v 0) alike) (some-row v w state a)
        where
          alike : get_or rows w 0 ≡ get_or rows v 0
          alike = mask-ext (get_or rows w 0) (get_or rows v 0) (λ x. bool-ext (has (get_or rows w 0) x) (has (get_or rows v 0) x)
              (λ h. some-row v x state (onward-trans p m v w x a (row-some w x l h).1))
              (λ h. some-row w x l (onward-trans p m w v x b (row-some v x state h).1)))

      -- a set is the same if it is inside the row of v and says of each state whether v reaches it and it reaches v
      pub states-equal : (s : ℕ) → ((w : ℕ) → has s w ≡ true → has (get_or rows v 0) w ≡ true) → ((w : ℕ) → w < p.states → has s w ≡ (has (get_or rows v 0) w && has (get_or rows w 0) v)) → s ≡ cycle_states rows v
      states-equal s within each = mask-ext s (cycle_states rows v) (λ w. bool-ext (has s w) (has (cycle_states rows v) w) (there w) (back w))
        where
          there : (w : ℕ) → has s w ≡ true → has (cycle_states rows v) w ≡ true
          there w h =
              let a = row-some v w state (within w h) in
              let b = row-some w v a.0 (and_r (has (get_or rows v 0) w) (has (get_or rows w 0) v) (sym (each w a.0) ∙ h)) in
              some-states w a.0 a.1 b.1

          back : (w : ℕ) → has (cycle_states rows v) w ≡ true → has s w ≡ true
          back w h =
              let r = states_some w h in
              each w r.0 ∙ both (has (get_or rows v 0) w) (has (get_or rows w 0) v) (some-row v w state r.1) (some-row w v r.0 r.2)

      pub states_are : (w : ℕ) → has (cycle_states rows v) w ≡ contains p w (cycle_through p m v)
      states_are w = bool-ext (has (cycle_states rows v) w) (contains p w (cycle_through p m v)) there back
        where
          there : has (cycle_states rows v) w ≡ true → contains p w (cycle_through p m v) ≡ true
          there h =
              let r = states_some w h in
              let b = r.2 in
              let a = subst (Leads p m v) (sym b.3) (onward-leads p m v w r.1) in
              some-contains p w (cycle_through p m v) b.0 b.1 (some-through p targets m v state b.0 b.1 b.2 a b.4) b.3

          back : contains p w (cycle_through p m v) ≡ true → has (cycle_states rows v) w ≡ true
          back h =
              let r = contains-some p w (cycle_through p m v) h in
              let t = through-some p m v r.0 r.2 in
              let l = subst (λ (z : ℕ). z < p.states) r.3 (source-lt p ok r.0 r.1) in
              some-states w l (onward-join p m v v w round (subst (Leads p m v) r.3 t.2)) (r.0, r.1, t.1, r.3, t.3)

      pub between-through : (out into : List ℕ) → EndsOf p out into → between out into m (cycle_states rows v) p.states ≡ cycle_through p m v
      between-through out into ends = mask-ext x y (λ e. bool-ext (has x e) (has y e) (there e) (back e))
        where
          x : ℕ
          x = between out into m (cycle_states rows v) p.states

          y : ℕ
          y = cycle_through p m v

          there : (e : ℕ) → has x e ≡ true → has y e ≡ true
          there e h =
              let r = between-some m (cycle_states rows v) out into ends e h in
              some-through p targets m v state e r.0 r.1 (onward-leads p m v (source p e) (states_some (source p e) r.2).1) (onward-leads p m (target_of p e) v (states_some (target_of p e) r.3).2)

          back : (e : ℕ) → has y e ≡ true → has x e ≡ true
          back e h =
              let t = through-some p m v e h in
              let a = onward-join p m v v (source p e) round t.2 in
              let b = onward-join p m v (source p e) (target_of p e) a (leads-edge p m e t.0 t.1) in
              some-between m (cycle_states rows v) out into ends e t.0 t.1
              (some-states (source p e) (source-lt p ok e t.0) a (e, t.0, t.1, refl, t.3))
              (some-states (target_of p e) (targets e t.0) b (leads-onward p m (target_of p e) v v t.3 round))
