-- Laws of counts in planes: a plane stored, one more, one less, and which are not 0. Assumes nothing.
use Prim.Native.Nat.{ℕ, zero, suc, ◌+◌, ◌*◌, ◌^◌, ◌≤◌, ◌<◌}
use native.Mathlib.Omega.{arith}
use native.Mathlib.Numerals.{add-one}
use mathlib.Core.Path.{◌≡◌, refl, sym, ap, ap₂, ◌∙◌, subst}
use mathlib.Core.Bool.{Bool, true, false, not, ◌&&◌, ◌||◌}
use mathlib.Core.List.{List, [], ◌∷◌}
use lib.Bits.{bit_and, bit_or}
use lib.Dec.{ltb}
use lib.ListN.{length, get_or, set, replicate, length-set}
use lib.Pow.{pow_mono}
use lib.Seq.{set-get_or}
use Rattle.std.specs.Prelude.{fold}
use Rattle.hanoi.proofs.Digits.{lt_yes}
use Rattle.masks.specs.Masks.{has, minus}
use Rattle.masks.proofs.Bits.{has-and, has-or, has-minus, has-none}
use Rattle.hanoi_lanes.specs.Lanes.{digit, count_at, CountsUp, CountsDown}

pub count-lt : (ps : List ℕ) (s : ℕ) → count_at ps s < 2 ^ length ps
unfolding count_at
count-lt [] s = omega arith
count-lt (p ∷ ps) s = go (has p s) (count-lt ps s)
  where
    go : (b : Bool) → count_at ps s < 2 ^ length ps → digit b + 2 * count_at ps s < 2 ^ suc (length ps)
    go true k = omega (arith, k)
    go false k = omega (arith, k)

pub count_none : (n s : ℕ) → count_at (replicate n 0) s ≡ 0
unfolding count_at
count_none zero s = refl
count_none (suc n) s = rw (has-none s) (let e = count_none n s in omega (arith, e))

-- plane k stored
pub count_set : (ps : List ℕ) (k x s : ℕ) → k < length ps → count_at (set ps k x) s + 2 ^ k * digit (has (get_or ps k 0) s) ≡ count_at ps s + 2 ^ k * digit (has x s)
unfolding count_at
count_set [] k x s h = absurd (omega arith)
count_set (p ∷ ps) zero x s h = omega arith
count_set (p ∷ ps) (suc k) x s h =
    let e = count_set ps k x s (omega (arith, h)) in
    let a : 2 ^ suc k * digit (has (get_or ps k 0) s) ≡ 2 * (2 ^ k * digit (has (get_or ps k 0) s)) = twice k (has (get_or ps k 0) s) in
    let b : 2 ^ suc k * digit (has x s) ≡ 2 * (2 ^ k * digit (has x s)) = twice k (has x s) in
    omega (arith, e, a, b)
  where
    twice : (k : ℕ) (b : Bool) → 2 ^ suc k * digit b ≡ 2 * (2 ^ k * digit b)
    twice k true = omega arith
    twice k false = omega arith

-- the sum of two digits without its carry
unfoldable pub differing : ℕ → ℕ → ℕ
differing p c = minus (bit_or p c) (bit_and p c)

has-differing : (p c s : ℕ) → has (differing p c) s ≡ (has p s || has c s) && not (has p s && has c s)
unfolding differing
has-differing p c s = has-minus (bit_or p c) (bit_and p c) s ∙ ap₂ (λ (x y : Bool). x && not y) (has-or s p c) (has-and s p c)

stored : (ps : List ℕ) (k c s : ℕ) → k < length ps
    → count_at (set ps k (differing (get_or ps k 0) c)) s + 2 ^ k * digit (has (get_or ps k 0) s) ≡ count_at ps s + 2 ^ k * digit ((has (get_or ps k 0) s || has c s) && not (has (get_or ps k 0) s && has c s))
stored ps k c s h = count_set ps k (differing (get_or ps k 0) c) s h ∙ ap (λ (b : Bool). count_at ps s + 2 ^ k * digit b) (has-differing (get_or ps k 0) c s)

next-pow : (k : ℕ) → 2 ^ (k + 1) ≡ 2 * 2 ^ k
next-pow k = ap (λ (j : ℕ). 2 ^ j) (add-one k) ∙ (let e : 2 ^ suc k ≡ 2 * 2 ^ k = omega arith in e)

-- ---- one more: the first k planes are done, and `carry` is still to be added to the others
pub record Rising (planes : List ℕ) (lanes : ℕ) (now : List ℕ) (carry k : ℕ) : Type 0 where
  pub long : length now ≡ length planes
  pub counts : (s : ℕ) → count_at planes s + digit (has lanes s) ≡ count_at now s + 2 ^ k * digit (has carry s)

pub rising-first : (planes : List ℕ) (lanes : ℕ) → Rising planes lanes planes lanes 0
rising-first planes lanes = record { long = refl; counts = λ s. one (count_at planes s) (has lanes s) }
  where
    one : (n : ℕ) (b : Bool) → n + digit b ≡ n + 2 ^ 0 * digit b
    one n true = omega arith
    one n false = omega arith

carried : (a b : Bool) (d x y z : ℕ) → z ≡ x + d * digit b → y + d * digit a ≡ x + d * digit ((a || b) && not (a && b)) → z ≡ y + 2 * d * digit (a && b)
carried true true d x y z e f = omega (arith, e, f)
carried true false d x y z e f = omega (arith, e, f)
carried false true d x y z e f = omega (arith, e, f)
carried false false d x y z e f = omega (arith, e, f)

pub rising-more : (planes : List ℕ) (lanes : ℕ) (now : List ℕ) (carry k x : ℕ) → Rising planes lanes now carry k → k < length now → x ≡ minus (bit_or (get_or now k 0) carry) (bit_and (get_or now k 0) carry)
    → Rising planes lanes (set now k x) (bit_and (get_or now k 0) carry) (k + 1)
unfolding differing
rising-more planes lanes now carry k x r h e =
    let p : ℕ = get_or now k 0 in
    subst (λ (y : ℕ). Rising planes lanes (set now k y) (bit_and (get_or now k 0) carry) (k + 1)) (sym e)
    (record {
      long = length-set now k (differing (get_or now k 0) carry) ∙ r.long;
      counts =
          λ s. carried (has p s) (has carry s) (2 ^ k) (count_at now s) (count_at (set now k (differing p carry)) s) (count_at planes s + digit (has lanes s)) (r.counts s) (stored now k carry s h) ∙
          ap₂ (λ (n : ℕ) (b : Bool). count_at (set now k (differing p carry)) s + n * digit b) (sym (next-pow k)) (sym (has-and s p carry));
    })

pub rising-stop : (planes : List ℕ) (lanes : ℕ) (now : List ℕ) (carry k : ℕ) → Rising planes lanes now carry k → carry ≡ 0 → CountsUp planes lanes (set now k (get_or now k 0))
rising-stop planes lanes now carry k r z = subst (CountsUp planes lanes) (sym (set-get_or now k 0)) (record {
  long = r.long;
  counts = λ s h. sym (r.counts s ∙ (ap (λ (b : Bool). count_at now s + 2 ^ k * digit b) (ap (λ (c : ℕ). has c s) z ∙ has-none s) ∙ nothing (count_at now s) (2 ^ k)));
})
  where
    nothing : (n d : ℕ) → n + d * 0 ≡ n
    nothing n d = omega arith

pub rising-end : (planes : List ℕ) (lanes : ℕ) (now : List ℕ) (carry k : ℕ) → Rising planes lanes now carry k → length now ≤ k → CountsUp planes lanes now
rising-end planes lanes now carry k r z = record { long = r.long; counts = λ s h. full (has lanes s) (has carry s) (count_at planes s) (count_at now s) (2 ^ k) (r.counts s) (above s h) }
  where
    above : (s : ℕ) → count_at planes s + 1 < 2 ^ length planes → count_at planes s + 1 < 2 ^ k
    above s h = let e = r.long in let g : 2 ^ length planes ≤ 2 ^ k = pow_mono (omega (arith, e, z)) in omega (arith, h, g)

    full : (l b : Bool) (z x d : ℕ) → z + digit l ≡ x + d * digit b → z + 1 < d → x ≡ z + digit l
    full true true z x d e h = absurd (omega (arith, e, h))
    full true false z x d e h = omega (arith, e)
    full false true z x d e h = absurd (omega (arith, e, h))
    full false false z x d e h = omega (arith, e)

-- ---- one less: `borrow` is still to be taken from the other planes
pub record Falling (planes : List ℕ) (lanes : ℕ) (now : List ℕ) (borrow k : ℕ) : Type 0 where
  pub long : length now ≡ length planes
  pub counts : (s : ℕ) → count_at planes s + 2 ^ k * digit (has borrow s) ≡ count_at now s + digit (has lanes s)

pub falling-first : (planes : List ℕ) (lanes : ℕ) → Falling planes lanes planes lanes 0
falling-first planes lanes = record { long = refl; counts = λ s. one (count_at planes s) (has lanes s) }
  where
    one : (n : ℕ) (b : Bool) → n + 2 ^ 0 * digit b ≡ n + digit b
    one n true = omega arith
    one n false = omega arith

borrowed : (a b : Bool) (d x y z l : ℕ) → z + d * digit b ≡ x + l → y + d * digit a ≡ x + d * digit ((a || b) && not (a && b)) → z + 2 * d * digit (b && not a) ≡ y + l
borrowed true true d x y z l e f = omega (arith, e, f)
borrowed true false d x y z l e f = omega (arith, e, f)
borrowed false true d x y z l e f = omega (arith, e, f)
borrowed false false d x y z l e f = omega (arith, e, f)

pub falling-more : (planes : List ℕ) (lanes : ℕ) (now : List ℕ) (borrow k x y : ℕ) → Falling planes lanes now borrow k → k < length now → x ≡ minus (bit_or (get_or now k 0) borrow) (bit_and (get_or now k 0) borrow)
    → y ≡ minus borrow (get_or now k 0) → Falling planes lanes (set now k x) y (k + 1)
unfolding differing
falling-more planes lanes now borrow k x y r h e f =
    let p : ℕ = get_or now k 0 in
    subst (λ (a : ℕ). Falling planes lanes (set now k a) y (k + 1)) (sym e)
    (record {
      long = length-set now k (differing (get_or now k 0) borrow) ∙ r.long;
      counts =
          λ s. ap₂ (λ (n : ℕ) (b : Bool). count_at planes s + n * digit b) (next-pow k) (ap (λ (c : ℕ). has c s) f ∙ has-minus borrow p s) ∙
          borrowed (has p s) (has borrow s) (2 ^ k) (count_at now s) (count_at (set now k (differing p borrow)) s) (count_at planes s) (digit (has lanes s)) (r.counts s) (stored now k borrow s h);
    })

pub falling-stop : (planes : List ℕ) (lanes : ℕ) (now : List ℕ) (borrow k : ℕ) → Falling planes lanes now borrow k → borrow ≡ 0 → CountsDown planes lanes (set now k (get_or now k 0))
falling-stop planes lanes now borrow k r z = subst (CountsDown planes lanes) (sym (set-get_or now k 0)) (record {
  long = r.long;
  counts = λ s h. sym (r.counts s) ∙ (ap (λ (b : Bool). count_at planes s + 2 ^ k * digit b) (ap (λ (c : ℕ). has c s) z ∙ has-none s) ∙ nothing (count_at planes s) (2 ^ k));
})
  where
    nothing : (n d : ℕ) → n + d * 0 ≡ n
    nothing n d = omega arith

pub falling-end : (planes : List ℕ) (lanes : ℕ) (now : List ℕ) (borrow k : ℕ) → Falling planes lanes now borrow k → length now ≤ k → CountsDown planes lanes now
falling-end planes lanes now borrow k r z = record { long = r.long; counts = λ s h. full (has lanes s) (has borrow s) (count_at planes s) (count_at now s) (2 ^ k) (r.counts s) (below s) h }
  where
    below : (s : ℕ) → count_at now s < 2 ^ k
    below s = let e = count-lt now s in let g : 2 ^ length now ≤ 2 ^ k = pow_mono z in omega (arith, e, g)

    full : (l b : Bool) (z x d : ℕ) → z + d * digit b ≡ x + digit l → x < d → (l ≡ true → 0 < z) → x + digit l ≡ z
    full true true z x d e h k = absurd (let g = k refl in omega (arith, e, h, g))
    full true false z x d e h k = omega (arith, e)
    full false true z x d e h k = absurd (omega (arith, e, h))
    full false false z x d e h k = omega (arith, e)

-- ---- which are not 0
joined-from : (planes : List ℕ) (a s : ℕ) → has (fold bit_or a planes) s ≡ has a s || ltb 0 (count_at planes s)
unfolding count_at
joined-from [] a s = sym (last (has a s))
  where
    last : (b : Bool) → b || false ≡ b
    last true = refl
    last false = refl
joined-from (p ∷ planes) a s = joined-from planes (bit_or a p) s ∙ (ap (λ (b : Bool). b || ltb 0 (count_at planes s)) (has-or s a p) ∙ sym (first (has a s) (has p s) (count_at planes s)))
  where
    first : (a b : Bool) (n : ℕ) → a || ltb 0 (digit b + 2 * n) ≡ (a || b) || ltb 0 n
    first true b n = refl
    first false true n = lt_yes 0 (1 + 2 * n) (omega arith)
    first false false zero = refl
    first false false (suc n) = lt_yes 0 (0 + 2 * suc n) (omega arith) ∙ sym (lt_yes 0 (suc n) (omega arith))

pub joined-lanes : (planes : List ℕ) (lanes some : ℕ) → some ≡ fold bit_or 0 planes → (s : ℕ) → has (bit_and lanes some) s ≡ has lanes s && ltb 0 (count_at planes s)
joined-lanes planes lanes some e s =
    has-and s lanes some ∙ ap (λ (b : Bool). has lanes s && b) (ap (λ (n : ℕ). has n s) e ∙ (joined-from planes 0 s ∙ ap (λ (b : Bool). b || ltb 0 (count_at planes s)) (has-none s)))

pub joined-none : (planes : List ℕ) (lanes : ℕ) → lanes ≡ 0 → (s : ℕ) → has 0 s ≡ has lanes s && ltb 0 (count_at planes s)
joined-none planes lanes z s = has-none s ∙ sym (ap (λ (b : Bool). b && ltb 0 (count_at planes s)) (ap (λ (n : ℕ). has n s) z ∙ has-none s))
