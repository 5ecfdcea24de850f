-- The loops that fill in the ends: each node's successor, then from the last node down. Assumes nothing.
use Prim.Native.Nat.{ℕ, ◌+◌, ◌≤◌, ◌<◌}
use native.Mathlib.Omega.{arith}
use native.Mathlib.Numerals.{add-one}
use mathlib.Core.Path.{◌≡◌, refl, sym, ap, ◌∙◌, subst}
use mathlib.Core.Logic.{◌⊎◌, inl, inr, ◌≢◌}
use mathlib.Core.Bool.{Bool, true, false, cond}
use mathlib.Core.List.{List, ◌∷◌, [], map, map-append}
use lib.Dec.{ltb}
use lib.ListN.{length, get_or, set, length-set}
use lib.Seq.{sets, length-sets, get_or-set_other}
use Rattle.lists.specs.Lists.{below}
use Rattle.lists.proofs.Bools.{test, lt-true, lt-false}
use Rattle.lists.proofs.Lists.{length-map-below, get_or-map-below}
use Rattle.tables.specs.Tables.{Column, Stored}
use Rattle.tables.proofs.Stores.{stored-none, stored_more}
use Rattle.tables.proofs.Columns.{column-sets, sets-past, sets-ext}
use Rattle.policy.specs.declared.Policy.{Policy}
use Rattle.policy.specs.Policies.{legal}
use Rattle.forest.specs.Forest.{forest, node_parents}
use Rattle.forest.specs.Laws.{parent_at, root_at}
use Rattle.forest.proofs.Forest.{forest-laws}
use Rattle.automaton.specs.Stages.{end_of, node_ends}
use Rattle.forest.proofs.Columns.{length-parents, parent-at}
use Rattle.automaton.proofs.Columns.{length-ends}
use Rattle.automaton.proofs.Ends.{Raised, raised-none, raised_all, raised-root, raised-kept, raised-more, root_parent}
use Rattle.ends.specs.Raising.{successors, raised_to}

-- ---- each node ends right after itself
module _ (t₀ : List ℕ) where
  pub own-none : Stored t₀ t₀ 0 0 (successors 0)
  unfolding successors
  own-none = stored-none t₀ 0

  pub own-more : {t : List ℕ} {n : ℕ} → Stored t₀ t 0 n (successors n) → Stored t₀ (set t n (n + 1)) 0 (n + 1) (successors (n + 1))
  unfolding successors
  own-more {t} {n} s =
      subst (Stored t₀ (set t n (n + 1)) 0 (n + 1)) (sym (ap (λ (k : ℕ). map (λ (i : ℕ). i + 1) (below k)) (add-one n) ∙ map-append (λ (i : ℕ). i + 1) (below n) (n ∷ [])))
      (stored_more s (n + 1))

  own-length : (n : ℕ) → length (successors n) ≡ n
  unfolding successors
  own-length n = length-map-below (λ (i : ℕ). i + 1) n

  own_at : (n i : ℕ) → i < n → get_or (successors n) i 0 ≡ i + 1
  unfolding successors
  own_at n i h = get_or-map-below (λ (i : ℕ). i + 1) n i 0 h

-- ---- an end raised
pub raised-length : (l : List ℕ) (up n : ℕ) → length (raised_to l up n) ≡ length l
unfolding raised_to
raised-length l up n = go (ltb (get_or l up 0) (get_or l n 0))
  where
    go : (b : Bool) → length (cond b (set l up (get_or l n 0)) l) ≡ length l
    go true = length-set l up (get_or l n 0)
    go false = refl

-- it leaves every other place
pub raised-other : (l : List ℕ) (up n i : ℕ) → i ≢ up → get_or (raised_to l up n) i 0 ≡ get_or l i 0
unfolding raised_to
raised-other l up n i h = go (ltb (get_or l up 0) (get_or l n 0))
  where
    go : (b : Bool) → get_or (cond b (set l up (get_or l n 0)) l) i 0 ≡ get_or l i 0
    go true = get_or-set_other l up i (get_or l n 0) 0 h
    go false = refl

-- a turn of the loop from the last node down, at a node that is no root
raise-turn : (p : Policy) → legal p ≡ true → (ends : List ℕ) (n : ℕ) → Raised (forest p) ends (n + 1) → n < length (forest p) → root_at (forest p) n ≡ false
    → Raised (forest p) (raised_to ends (parent_at (forest p) n) n) n
unfolding raised_to
raise-turn p ok ends n r h f = go (test (ltb (get_or ends (parent_at (forest p) n) 0) (get_or ends n 0)))
  where
    up : ℕ
    up = parent_at (forest p) n

    go : (ltb (get_or ends up 0) (get_or ends n 0) ≡ true) ⊎ (ltb (get_or ends up 0) (get_or ends n 0) ≡ false) → Raised (forest p) (cond (ltb (get_or ends up 0) (get_or ends n 0)) (set ends up (get_or ends n 0)) ends) n
    go (inl t) = rw t (raised-more p (forest p) (forest-laws p ok) ends n r h f (omega (arith, lt-true (get_or ends up 0) (get_or ends n 0) t)))
    go (inr t) = rw t (raised-kept p (forest p) (forest-laws p ok) ends n r h (lt-false (get_or ends up 0) (get_or ends n 0) t))

-- ---- from the last node down
-- the table, t₀ before, is as long as it was, and as it was from place n on
pub record KeptFrom (t₀ t : List ℕ) (n : ℕ) : Type 0 where
  pub long : length t ≡ length t₀
  pub past : (i : ℕ) → n ≤ i → get_or t i 0 ≡ get_or t₀ i 0

pub kept-none : (t : List ℕ) (n : ℕ) → KeptFrom t t n
kept-none t n = record { long = refl; past = λ i h. refl }

pub kept-raised : {t₀ t u : List ℕ} {n : ℕ} (up i : ℕ) → KeptFrom t₀ t n → up < n → u ≡ raised_to t up i → KeptFrom t₀ u n
kept-raised {t₀} {t} {u} {n} up i k h e = record {
  long = ap length e ∙ raised-length t up i ∙ k.long;
  past = λ j q. ap (λ (l : List ℕ). get_or l j 0) e ∙ raised-other t up i j (λ z. omega arith) ∙ k.past j q;
}

-- what the loop is called with
abbrev pub Filling : Policy → List ℕ → ℕ → Type 0
Filling p parents count = (legal p ≡ true) × (length (forest p) ≤ 65535) × Column (node_parents p) parents × (count ≡ length (forest p))

module _ (p : Policy) (parents : List ℕ) (count : ℕ) (a : Filling p parents count) where
  pub fill-room : (count ≤ 65535) × (length (forest p) ≤ length parents)
  fill-room = (omega (arith, a.1, a.3), omega (arith, a.2.long, length-parents p))

  pub fill_start : (t₀ t : List ℕ) → count ≤ length t₀ → t ≡ sets t₀ 0 (successors count) → Raised (forest p) t count
  fill_start t₀ t h e =
      subst (Raised (forest p) t) (sym a.3)
      (raised-none p (forest p) (forest-laws p a.0) t (omega (arith, ap length e, length-sets t₀ 0 (successors count), a.3))
      (λ n l. let k : n < count = omega (arith, a.3) in ap (λ (u : List ℕ). get_or u n 0) e ∙ (column-sets t₀ (successors count) (omega (arith, own-length t₀ count))).each n (omega (arith, own-length t₀ count)) ∙ own_at t₀ count n k))

  -- the ends are those of the nodes, and what stands past them is as it was before the loops
  pub fill_done : (t₀ t₁ t : List ℕ) (n : ℕ) → count ≤ length t₀ → t₁ ≡ sets t₀ 0 (successors count) → KeptFrom t₁ t count → n ≤ 0 → Raised (forest p) t n → t ≡ sets t₀ 0 (node_ends p)
  unfolding node_ends
  fill_done t₀ t₁ t n h e k z r =
      let q : n ≡ 0 = omega arith in
      let all = raised_all p (forest p) (forest-laws p a.0) t (subst (Raised (forest p) t) q r) in
      sets-ext t₀ (node_ends p) (omega (arith, length-ends p, a.3)) t
      (record { long = omega (arith, length-ends p, r.long); each = λ i l. let m : i < length (forest p) = omega (arith, length-ends p) in all i m ∙ sym (get_or-map-below (end_of (forest p)) (length (forest p)) i 0 m) })
      (k.long ∙ ap length e ∙ length-sets t₀ 0 (successors count))
      (λ i l. k.past i (omega (arith, length-ends p, a.3)) ∙ ap (λ (u : List ℕ). get_or u i 0) e ∙ sets-past t₀ (successors count) (omega (arith, own-length t₀ count)) i (omega (arith, own-length t₀ count, length-ends p, a.3)))

  module _ (n up : ℕ) (h : n < count) (is : up ≡ get_or parents n 0) where
    place : n < length (forest p)
    place = omega (arith, a.3)

    parent : up ≡ parent_at (forest p) n
    parent = is ∙ parent-at p n place a.2

    child : up ≢ 65535 → root_at (forest p) n ≡ false
    child q = go (test (root_at (forest p) n))
      where
        go : (root_at (forest p) n ≡ true) ⊎ (root_at (forest p) n ≡ false) → root_at (forest p) n ≡ false
        go (inl t) = absurd (q (parent ∙ root_parent p n place t))
        go (inr f) = f

    pub fill-up : up ≢ 65535 → up < n
    fill-up q = omega (arith, parent, (forest-laws p a.0).parent_lt n place (child q))

    pub fill-root : (t : List ℕ) (m : ℕ) → m ≡ n + 1 → Raised (forest p) t m → up ≡ 65535 → Raised (forest p) t n
    fill-root t m e r q = raised-root p (forest p) (forest-laws p a.0) t n (subst (Raised (forest p) t) e r) (go (test (root_at (forest p) n)))
      where
        go : (root_at (forest p) n ≡ true) ⊎ (root_at (forest p) n ≡ false) → root_at (forest p) n ≡ true
        go (inl t) = t
        go (inr f) = absurd (omega (arith, parent, (forest-laws p a.0).parent_lt n place f, place, a.1))

    pub fill-child : (t u : List ℕ) (m : ℕ) → m ≡ n + 1 → Raised (forest p) t m → up ≢ 65535 → u ≡ raised_to t up n → Raised (forest p) u n
    fill-child t u m e r q is-u =
        subst (λ (l : List ℕ). Raised (forest p) l n) (sym is-u)
        (subst (λ (x : ℕ). Raised (forest p) (raised_to t x n) n) (sym parent) (raise-turn p a.0 t n (subst (Raised (forest p) t) e r) place (child q)))
