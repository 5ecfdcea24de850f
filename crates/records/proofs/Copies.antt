-- Loops that copy: into the front of a list, and into a list from a place on. Assumes nothing.
use Prim.Native.Nat.{ℕ, ◌+◌, ◌≤◌, ◌<◌}
use native.Mathlib.Omega.{arith}
use native.Mathlib.Decide.{ℕ_discrete}
use native.Mathlib.Numerals.{add-one}
use mathlib.Core.Path.{◌≡◌, refl, sym, ap, ◌∙◌}
use mathlib.Core.List.{List, map}
use lib.ListN.{length, get_or, take, drop, set, length-map, length-set, length-drop}
use lib.Seq.{sets, sets-eq, length-take-le, get_or-take, get_or-drop, paste, paste-zero, paste-suc, take-length, ext_get_or, get_or-set_same, get_or-set_other}
use borrow.Rule.Slice.PartMut.{put_mid}
use Rattle.std.proofs.lemmas.Slice.{put_mid-paste}
use Rattle.lists.specs.Lists.{below}
use Rattle.lists.proofs.Lists.{length-below, get_or-map-below}

-- a part of a list, place by place
pub part-at : (l : List ℕ) (a n i : ℕ) → i < n → get_or (take n (drop a l)) i 0 ≡ get_or l (a + i) 0
part-at l a n i h = get_or-take n (drop a l) i 0 h ∙ get_or-drop a l i 0

pub part-long : (l : List ℕ) (a n : ℕ) → a + n ≤ length l → length (take n (drop a l)) ≡ n
part-long l a n h = length-take-le n (drop a l) (omega (arith, length-drop a l))

pub part-of : (l : List ℕ) (a k : ℕ) → {n : ℕ} → k ≡ n → a + n ≤ length l → take k (drop a l) ≡ map (λ j. get_or l (a + j) 0) (below n)
part-of l a k {n} z h =
    let e : length (take n (drop a l)) ≡ n = part-long l a n h in
    ap (λ i. take i (drop a l)) z
    ∙ ext_get_or 0 (take n (drop a l)) (map (λ j. get_or l (a + j) 0) (below n)) (e ∙ sym (length-map (below n) (λ j. get_or l (a + j) 0) ∙ length-below n))
    (λ i k. let m : i < n = omega (arith, e) in part-at l a n i m ∙ sym (get_or-map-below (λ j. get_or l (a + j) 0) n i 0 m))

-- a part that is written whole
pub put-part : (t : List ℕ) (at k : ℕ) (s u : List ℕ) → u ≡ s → length s ≡ k → at + length s ≤ length t → put_mid at k t u ≡ sets t at s
put-part t at k s u e z h = put_mid-paste at k t u s (length s) e z refl ∙ rw take-length (sym (sets-eq s t at h))

-- n places, of which the first i hold f 0, .., f (i - 1)
module _ {A : Type 0} (d : A) (f : ℕ → A) (n : ℕ) where
  pub record Copied (t : List A) (i : ℕ) : Type 0 where
    pub at_most : i ≤ n
    pub long : length t ≡ n
    pub holds : (j : ℕ) → j < i → get_or t j d ≡ f j

  pub copied_none : (t : List A) → length t ≡ n → Copied t 0
  copied_none t long = record { at_most = omega arith; long = long; holds = λ j h. absurd (omega arith) }

  pub copied_more : (t : List A) (i : ℕ) (x : A) → i < n → x ≡ f i → Copied t i → Copied (set t i x) (i + 1)
  copied_more t i x h e c = record { at_most = omega arith; long = length-set t i x ∙ c.long; holds = λ j l. go j l (ℕ_discrete j i) }
    where
      go : (j : ℕ) → j < i + 1 → Dec (j ≡ i) → get_or (set t i x) j d ≡ f j
      go j l (yes k) = ap (λ (y : ℕ). get_or (set t i x) y d) k ∙ get_or-set_same t i x d (omega (arith, c.long)) ∙ e ∙ ap f (sym k)
      go j l (no k) = get_or-set_other t i j x d k ∙ c.holds j (omega arith)

  pub copied_all : (t : List A) (i : ℕ) → n ≤ i → Copied t i → t ≡ map f (below n)
  copied_all t i h c =
      ext_get_or d t (map f (below n)) (c.long ∙ sym (length-map (below n) f ∙ length-below n))
      (λ j l. let k : j < n = omega (arith, c.long) in c.holds j (omega arith) ∙ sym (get_or-map-below f n j d k))

-- t is t₀ with the first i of s stored from a place on
module _ {A : Type 0} (s t₀ : List A) (at : ℕ) where
  pub record Storing (t : List A) (i : ℕ) : Type 0 where
    pub fits : at + length s ≤ length t₀
    pub at_most : i ≤ length s
    pub long : length t ≡ length t₀
    pub is : t ≡ paste t₀ at s i

  pub storing-none : at + length s ≤ length t₀ → Storing t₀ 0
  storing-none h = record { fits = h; at_most = omega arith; long = refl; is = paste-zero t₀ at s }

  pub storing-more : (t : List A) (i : ℕ) (d x : A) → i < length s → x ≡ get_or s i d → Storing t i → Storing (set t (at + i) x) (i + 1)
  storing-more t i d x h e c =
      let l : at + i < length t₀ = omega arith in
      record {
        fits = c.fits;
        at_most = omega arith;
        long = length-set t (at + i) x ∙ c.long;
        is = rw (add-one, e) (ap (λ (l : List A). set l (at + i) (get_or s i d)) c.is ∙ paste-suc t₀ at s i d l h);
      }

  pub storing-all : (t : List A) (i : ℕ) → length s ≤ i → Storing t i → t ≡ sets t₀ at s
  storing-all t i h c =
      let e : i ≡ length s = omega arith in
      c.is ∙ rw (e, take-length) (sym (sets-eq s t₀ at c.fits))
