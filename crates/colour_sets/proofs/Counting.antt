-- The order by counting members: the sets of one size among the first masks, and the sizes from the largest down. Assumes nothing.
use Prim.Native.Nat.{ℕ, zero, suc, ◌+◌, ◌-◌, ◌*◌, ◌/◌, ◌%◌, ◌^◌, ◌≤◌, ◌<◌}
use native.Mathlib.Omega.{arith}
use native.Mathlib.Decide.{dec_lt}
use native.Mathlib.Numerals.{add-one}
use mathlib.Core.Path.{◌≡◌, refl, sym, ap, ◌∙◌, subst}
use mathlib.Core.Bool.{Bool, true, false, ◌&&◌, cond}
use mathlib.Core.List.{List, [], ◌∷◌, ◌++◌}
use lib.Arith.{lt-one}
use lib.Dec.{eqb, leb}
use lib.Count.{ones, ones_in, ones_step}
use lib.ListN.{length, get_or, length-append, get_or-append}
use lib.Seq.{get_or-append-add}
use Rattle.lists.specs.Lists.{all, filter, below}
use Rattle.lists.proofs.Bools.{and_l, and_r, eqb≡, le-true}
use Rattle.lists.proofs.Lists.{all-each, mem_below}
use Rattle.lists.proofs.Filters.{filter-append}
use Rattle.colour_sets.specs.Order.{size, sized, up_to, ordered, set_at}
use Rattle.colour_sets.proofs.Laws.{ordered-length}

-- ---- members
-- counted by k digits
ones-in : (k n : ℕ) → n < 2 ^ k → ones n ≡ ones_in k n
unfolding ones ones_in
ones-in zero n h = ap ones (lt-one h)
ones-in (suc k) n h = ones_step n ∙ ap (λ (x : ℕ). n % 2 + x) (ones-in k (n / 2) (omega arith))

pub size-ones : (s : ℕ) → s < 256 → size s ≡ ones s
unfolding size
size-ones s h = sym (ones-in 8 s h)

-- ---- the sets of c members below n
abbrev pub sized_to : ℕ → ℕ → List ℕ
sized_to c n = filter (λ (s : ℕ). eqb (size s) c) (below n)

module _ (c : ℕ) where
  -- one mask more
  sized-next : (n : ℕ) → sized_to c (suc n) ≡ sized_to c n ++ cond (eqb (size n) c) (n ∷ []) []
  sized-next n = filter-append (λ (s : ℕ). eqb (size s) c) (below n) (n ∷ [])

  count_next : (n : ℕ) → length (sized_to c (n + 1)) ≡ length (sized_to c n) + cond (eqb (size n) c) 1 0
  count_next n = ap (λ (k : ℕ). length (sized_to c k)) (add-one n) ∙ ap length (sized-next n) ∙ length-append (sized_to c n) (cond (eqb (size n) c) (n ∷ []) []) ∙ ap (λ (k : ℕ). length (sized_to c n) + k) (go (eqb (size n) c))
    where
      go : (b : Bool) → length (cond {A = List ℕ} b (n ∷ []) []) ≡ cond b 1 0
      go true = refl
      go false = refl

  pub count-with : (n : ℕ) → eqb (size n) c ≡ true → length (sized_to c (n + 1)) ≡ length (sized_to c n) + 1
  count-with n t = count_next n ∙ ap (λ (b : Bool). length (sized_to c n) + cond b 1 0) t

  pub count-without : (n : ℕ) → eqb (size n) c ≡ false → length (sized_to c (n + 1)) ≡ length (sized_to c n)
  count-without n f = count_next n ∙ ap (λ (b : Bool). length (sized_to c n) + cond b 1 0) f ∙ omega arith

  pub count-all : length (sized_to c 256) ≡ length (sized c)
  unfolding sized
  count-all = refl

  -- a set stands behind those of its size that are lower
  place : (n s : ℕ) → s < n → eqb (size s) c ≡ true → (length (sized_to c s) < length (sized_to c n)) × (get_or (sized_to c n) (length (sized_to c s)) 0 ≡ s)
  place zero s l t = absurd (omega arith)
  place (suc n) s l t = go (dec_lt s n) (place n s)
    where
      tail : List ℕ
      tail = cond (eqb (size n) c) (n ∷ []) []

      long : length (sized_to c (suc n)) ≡ length (sized_to c n) + length tail
      long = ap length (sized-next n) ∙ length-append (sized_to c n) tail

      Here : Type 0
      Here = (length (sized_to c s) < length (sized_to c (suc n))) × (get_or (sized_to c (suc n)) (length (sized_to c s)) 0 ≡ s)

      last : s ≡ n → Here
      last e =
          let one : tail ≡ n ∷ [] = ap (λ (b : Bool). cond {A = List ℕ} b (n ∷ []) []) (ap (λ (k : ℕ). eqb (size k) c) (sym e) ∙ t) in
          let at : length (sized_to c s) ≡ length (sized_to c n) + 0 = ap (λ (k : ℕ). length (sized_to c k)) e ∙ omega arith in
          (omega (arith, at, long, ap length one), ap (λ (l : List ℕ). get_or l (length (sized_to c s)) 0) (sized-next n) ∙ ap (λ (k : ℕ). get_or (sized_to c n ++ tail) k 0) at ∙ get_or-append-add (sized_to c n) tail 0 0 ∙ ap (λ (l : List ℕ). get_or l 0 0) one ∙ sym e)

      go : Dec (s < n) → (s < n → eqb (size s) c ≡ true → (length (sized_to c s) < length (sized_to c n)) × (get_or (sized_to c n) (length (sized_to c s)) 0 ≡ s)) → Here
      go (yes k) ih = let r = ih k t in (omega (arith, r.0, long), ap (λ (l : List ℕ). get_or l (length (sized_to c s)) 0) (sized-next n) ∙ get_or-append (sized_to c n) tail 0 (length (sized_to c s)) r.0 ∙ r.1)
      go (no k) ih = last (omega arith)

  pub found : (s k : ℕ) → s < 256 → eqb (size s) c ≡ true → length (sized_to c s) ≡ k → s ≡ get_or (sized c) k 0
  unfolding sized
  found s k l t e = sym (place 256 s l t).1 ∙ ap (λ (i : ℕ). get_or (sized_to c 256) i 0) e

-- ---- from the largest sets down: the set sought has a rank among those of at most c members
pub record Sought (position c rank : ℕ) : Type 0 where
  pub few : c ≤ 8
  pub some : 1 ≤ rank
  pub within : rank ≤ length (up_to c)
  pub same : get_or (up_to c) (rank - 1) 0 ≡ set_at position

pub sought-all : (position : ℕ) → position < 256 → Sought position 8 (position + 1)
unfolding set_at ordered
sought-all position l = record { few = omega arith; some = omega arith; within = omega (arith, ordered-length); same = let e : position + 1 - 1 ≡ position = omega arith in ap (λ (k : ℕ). get_or (up_to 8) k 0) e }

pub sought-some : (position c rank : ℕ) → Sought position c rank → length (sized c) < rank → 1 ≤ c
unfolding up_to
sought-some position zero rank s h = absurd (omega (arith, s.within))
sought-some position (suc c) rank s h = omega arith

-- it is none of c members
pub sought-less : (position c rank : ℕ) → Sought position c rank → length (sized c) < rank → Sought position (c - 1) (rank - length (sized c))
unfolding up_to
sought-less position zero rank s h = absurd (omega (arith, s.within))
sought-less position (suc c) rank s h =
    let n = length (sized (suc c)) in
    let e : c ≡ suc c - 1 = omega arith in
    let past : rank - 1 ≡ n + (rank - n - 1) = omega arith in
    subst (λ (k : ℕ). Sought position k (rank - n)) e
    (record { few = omega (arith, s.few); some = omega arith; within = omega (arith, s.within, length-append (sized (suc c)) (up_to c)); same = sym (ap (λ (k : ℕ). get_or (sized (suc c) ++ up_to c) k 0) past ∙ get_or-append-add (sized (suc c)) (up_to c) (rank - n - 1) 0) ∙ s.same })

-- it is one of them
pub sought-here : (position c rank : ℕ) → Sought position c rank → rank ≤ length (sized c) → get_or (sized c) (rank - 1) 0 ≡ set_at position
unfolding up_to
sought-here position zero rank s h = s.same
sought-here position (suc c) rank s h = sym (get_or-append (sized (suc c)) (up_to c) 0 (rank - 1) (omega (arith, s.some))) ∙ s.same

-- ---- how many sets there are of each size, from how many of one member more: one computed test
abbrev fewer : ℕ → Bool
fewer c = eqb (length (sized (suc c)) * suc c / (9 - suc c)) (length (sized c)) && leb (length (sized (suc c))) 70

all-fewer : all fewer (below 8) ≡ true
unfolding sized size ones_in
all-fewer = refl

pub one-full : 1 ≡ length (sized 8)
unfolding sized size ones_in
one-full = refl

pub count-fewer : (c : ℕ) → 1 ≤ c → c ≤ 8 → (length (sized c) * c / (9 - c) ≡ length (sized (c - 1))) × (length (sized c) ≤ 70)
count-fewer zero h l = absurd (omega arith)
count-fewer (suc c) h l =
    let e : suc c - 1 ≡ c = omega arith in
    let is = eqb (length (sized (suc c)) * suc c / (9 - suc c)) (length (sized c)) in
    let t = all-each fewer (below 8) all-fewer c (mem_below 8 c (omega arith)) in
    (rw e (eqb≡ _ _ (and_l is (leb (length (sized (suc c))) 70) t)), le-true _ _ (and_r is (leb (length (sized (suc c))) 70) t))
