-- Laws of the family of a text: the formula's values in a later pass are those of the document, and the table set by set. Assumes nothing.
use Prim.Native.Nat.{ℕ, zero, suc, ◌+◌, ◌*◌, ◌/◌, ◌%◌, ◌≤◌, ◌<◌, ◌^◌}
use native.Mathlib.Nat.{mod-lt}
use native.Mathlib.Omega.{arith}
use native.Mathlib.Decide.{ℕ_discrete}
use mathlib.Core.Path.{◌≡◌, refl, sym, ap, ◌∙◌, subst}
use mathlib.Core.Logic.{◌⊎◌, inl, inr, ◌≢◌}
use mathlib.Core.Bool.{Bool, true, false, ◌&&◌}
use mathlib.Core.List.{List, [], map}
use lib.Dec.{ltb, lit<}
use lib.ListN.{get_or, drop, set, replicate, length-set}
use lib.Pow.{pow_pos, pow_mono}
use lib.Seq.{get_or-set_same, get_or-set_other, ext_get_or}
use Rattle.lists.specs.Lists.{below}
use Rattle.lists.proofs.Bools.{test, lt-true, lt-false}
use Rattle.lists.proofs.Lists.{get_or-map-below}
use Rattle.masks.specs.Masks.{has}
use Rattle.masks.proofs.Bits.{has-full}
use Rattle.mark_sets.specs.MarkSets.{union_at}
use Rattle.refusals.specs.declared.Refusal.TheVariants.{NotHanoi}
use Rattle.hanoi.specs.Documents.{Formula, Document, formed}
use Rattle.hanoi.specs.Meaning.{holds}
use Rattle.hanoi.specs.Answers.{Answer, refused, shared_of, answer_of}
use Rattle.hanoi.specs.Offers.{Spot, between, run}
use Rattle.hanoi.specs.Reader.{Head, fresh, At, operand, finished, offers}
use Rattle.hanoi.specs.Reading.{answer_at}
use Rattle.hanoi.proofs.Digits.{lt_yes, lt_no}
use Rattle.hanoi.proofs.Carrying.{formula-kept}
use Rattle.std.specs.Prelude.{Ok, Err}
use Rattle.hanoi_tokens.specs.declared.Stop.{Stop}
use Rattle.hanoi_tokens.specs.Moves.{Stops}
use Rattle.hanoi_formula.specs.declared.Valued.{Valued}
use Rattle.hanoi_formula.specs.Formula.{IsLane, ReadsFormula}
use Rattle.hanoi_family.specs.Family.{named_below, IsWord, IsFamily}

-- ---- a text that comes to a document does not stop
pub never-stops : (text : List ℕ) (m n : ℕ) (p : Spot At) (bar : Bool) (d : Document) → run offers p (drop m text) ≡ between bar (finished d) → Stops text m p n → ⊥
never-stops text m n p bar d e s =
    let x : (k : ℕ) → answer_of d ≡ refused NotHanoi k = λ k. sym (ap (answer_at (refused NotHanoi k)) e) ∙ s.unanswered (refused NotHanoi k) in
    let y : ◌≡◌ {A = ℕ} 0 1 = ap (λ (a : Answer). shared_of a) (sym (x 0) ∙ x 1) in
    absurd (omega (arith, y))

-- ---- the formula's value
value_is : (text : List ℕ) (m marks all : ℕ) (lanes : List ℕ) (r : Valued) → ReadsFormula text m marks all lanes (Ok r) → (h : Head) (d : Document) (bar : Bool) → h.sets ≡ marks
    → run offers (between false (operand h [] fresh)) (drop m text) ≡ between bar (finished d) → formed marks d.formula ≡ true
    → (s u : ℕ) → IsLane marks all lanes s u → has r.value s ≡ holds u d.formula
value_is text m marks all lanes r k h d bar q e w s u l =
    let v = k.moves h q in
    let z : d.formula ≡ v.0 = formula-kept v.0 (drop r.at text) false bar h d (sym v.1.runs ∙ e) in
    v.2 (subst (λ (f : Formula). formed marks f ≡ true) z w) s u l ∙ ap (holds u) (sym z)

pub word-is : (text : List ℕ) (m marks : ℕ) (sets : List ℕ) (w : ℕ) (lanes : List ℕ) (r : Valued) → ((j s : ℕ) → j < marks → s < 64 → has (get_or lanes j 0) s ≡ has (union_at sets (64 * w + s) 8) j)
    → ReadsFormula text m marks 18446744073709551615 lanes (Ok r) → IsWord text m marks sets w r.value
word-is text m marks sets w lanes r l k = record {
  is = λ h d bar q e z s i. value_is text m marks 18446744073709551615 lanes r k h d bar q e z s (union_at sets (64 * w + s) 8) (record { in_all = has-full 64 s i; marks_are = λ j y. l j s y i });
}

-- no text that comes to a document stops in its formula
pub word-none : (text : List ℕ) (m marks : ℕ) (sets : List ℕ) (w all : ℕ) (lanes : List ℕ) (r : Stop) → ReadsFormula text m marks all lanes (Err r) → IsWord text m marks sets w 0
word-none text m marks sets w all lanes r k = record {
  is = λ h d bar q e z s i. absurd (never-stops text m r.at (between false (operand h [] fresh)) bar d e (k.stops h q));
}

-- the word of the next set
pub same_word : (text : List ℕ) (m marks : ℕ) (sets : List ℕ) (s r : ℕ) → (s + 1) % 64 ≢ 0 → IsWord text m marks sets (s / 64) r → IsWord text m marks sets ((s + 1) / 64) r
same_word text m marks sets s r n k = let e : s / 64 ≡ (s + 1) / 64 = omega (arith, n) in subst (λ (w : ℕ). IsWord text m marks sets w r) e k

-- ---- the table
module _ (f : Formula) (sets : List ℕ) where
  none_named : (s : ℕ) → named_below f sets 1 s ≡ false
  none_named zero = refl
  none_named (suc s) = rw (lt_no (suc s) 1 (omega arith)) (none (ltb 0 (suc s)))
    where
      none : (a : Bool) → a && false && holds (union_at sets (suc s) 8) f ≡ false
      none true = refl
      none false = refl

  named_none : replicate 256 false ≡ map (named_below f sets 1) (below 256)
  named_none =
      ext_get_or false (replicate 256 false) (map (named_below f sets 1) (below 256)) refl
      (λ i h. falses 256 i ∙ sym (get_or-map-below (named_below f sets 1) 256 i false h ∙ none_named i))
    where
      falses : (n i : ℕ) → get_or (replicate n false) i false ≡ false
      falses zero i = refl
      falses (suc n) zero = refl
      falses (suc n) (suc i) = falses n i

  more-named : (n s : ℕ) → s ≢ n → named_below f sets n s ≡ named_below f sets (n + 1) s
  more-named n s ne = step (test (ltb s n))
    where
      step : (ltb s n ≡ true) ⊎ (ltb s n ≡ false) → named_below f sets n s ≡ named_below f sets (n + 1) s
      step (inl t) = rw (t, lt_yes s (n + 1) (let g = lt-true s n t in omega (arith, g))) refl
      step (inr g) = rw (g, lt_no s (n + 1) (let l = lt-false s n g in let z : n ≢ s = λ q. ne (sym q) in omega (arith, l, z))) refl

  last-named : (n : ℕ) → 0 < n → named_below f sets (n + 1) n ≡ holds (union_at sets n 8) f
  last-named n p = rw (lt_yes 0 n p, lt_yes n (n + 1) (omega arith)) refl

  named_set : (n : ℕ) (v : Bool) → 0 < n → n < 256 → v ≡ holds (union_at sets n 8) f → set (map (named_below f sets n) (below 256)) n v ≡ map (named_below f sets (n + 1)) (below 256)
  named_set n v p l e =
      let g = map (named_below f sets n) (below 256) in
      ext_get_or false (set g n v) (map (named_below f sets (n + 1)) (below 256)) (length-set g n v)
      (λ i h. let k : i < 256 = subst (λ (x : ℕ). i < x) (length-set g n v) h in
      step i k (ℕ_discrete i n) ∙ sym (get_or-map-below (named_below f sets (n + 1)) 256 i false k))
    where
      step : (i : ℕ) → i < 256 → Dec (i ≡ n) → get_or (set (map (named_below f sets n) (below 256)) n v) i false ≡ named_below f sets (n + 1) i
      step i k (yes q) =
          ap (λ (j : ℕ). get_or (set (map (named_below f sets n) (below 256)) n v) j false) q ∙
          (get_or-set_same (map (named_below f sets n) (below 256)) n v false l ∙ (e ∙ (sym (last-named n p) ∙ ap (named_below f sets (n + 1)) (sym q))))
      step i k (no q) = get_or-set_other (map (named_below f sets n) (below 256)) n i v false q ∙ (get_or-map-below (named_below f sets n) 256 i false k ∙ more-named n i q)

pub family-none : (text : List ℕ) (m marks : ℕ) (sets : List ℕ) → IsFamily text m marks sets 1 (replicate 256 false)
family-none text m marks sets = record { is = λ h d bar s e w. named_none d.formula sets }

pub family-more : (text : List ℕ) (m marks : ℕ) (sets : List ℕ) (s : ℕ) (family : List Bool) (word : ℕ) (v : Bool) → IsFamily text m marks sets s family → 0 < s → s < 256 → IsWord text m marks sets (s / 64) word
    → v ≡ has word (s % 64) → IsFamily text m marks sets (s + 1) (set family s v)
family-more text m marks sets s family word v k p l q e =
    let b : s % 64 < 64 = mod-lt s (lit< tt) in
    let z : 64 * (s / 64) + s % 64 ≡ s = omega arith in
    record {
      is =
          λ h d bar i x w. ap (λ (t : List Bool). set t s v) (k.is h d bar i x w) ∙
          named_set d.formula sets s v p l (e ∙ (q.is h d bar i x w (s % 64) b ∙ ap (λ (n : ℕ). holds (union_at sets n 8) d.formula) z));
    }

-- ---- how many colour sets there are
pub sets_few : (n : ℕ) → n ≤ 8 → (0 < 2 ^ n) × (2 ^ n ≤ 256)
sets_few n h = (pow_pos n, pow_mono h)
