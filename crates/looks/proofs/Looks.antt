-- A look at the lists: a search through one, place by place, for a member that passes a test, and what is wanted. Assumes nothing.
use Prim.Native.Nat.{ℕ, ◌+◌, ◌≤◌, ◌<◌}
use native.Mathlib.Numerals.{add-one}
use mathlib.Core.Path.{◌≡◌, sym, ap, ◌∙◌}
use mathlib.Core.Bool.{Bool, true, false, not, ◌&&◌}
use mathlib.Core.List.{List}
use lib.Bits.{bit_and}
use lib.Dec.{eqb}
use lib.ListN.{length, get_or, take}
use lib.Seq.{take-suc, take_all}
use Rattle.lists.specs.Lists.{any, below}
use Rattle.lists.proofs.AnyAll.{any-more}
use Rattle.lists.proofs.Bools.{or_left, or_right}
use Rattle.lists.proofs.Lists.{some-any, mem_below}
use Rattle.masks.specs.Masks.{inside}
use Rattle.candidates.specs.Candidates.{covers, may_hold, are_long, wanted, is_open}

module _ (test : ℕ → Bool) (l : List ℕ) (i : ℕ) where
  pub none_more : i < length l → any test (take i l) ≡ false → test (get_or l i 0) ≡ false → any test (take (i + 1) l) ≡ false
  none_more h a b = ap (any test) (ap (λ (k : ℕ). take k l) (add-one i) ∙ take-suc l i 0 h) ∙ any-more test (take i l) (get_or l i 0) a b

  pub none_passes : length l ≤ i → any test (take i l) ≡ false → any test l ≡ false
  none_passes h a = ap (any test) (sym (take_all i l h)) ∙ a

-- ---- what is wanted
pub held : (c m : ℕ) (same : List ℕ) (h y e : ℕ) (b : Bool) → e ≡ bit_and m y → b ≡ any (covers e y) same → inside c h && not (eqb e 0) ≡ true → not b ≡ may_hold c m same h y
unfolding may_hold
held c m same h y e b q k t =
    sym (ap (λ (d : Bool). d && not (any (covers (bit_and m y) y) same)) (ap (λ (z : ℕ). inside c h && not (eqb z 0)) (sym q) ∙ t) ∙ ap not (ap (λ (z : ℕ). any (covers z y) same) (sym q) ∙ sym k))

pub unheld : (c m : ℕ) (same : List ℕ) (h y e : ℕ) → e ≡ bit_and m y → inside c h && not (eqb e 0) ≡ false → false ≡ may_hold c m same h y
unfolding may_hold
unheld c m same h y e q f = sym (ap (λ (b : Bool). b && not (any (covers (bit_and m y) y) same)) (ap (λ (z : ℕ). inside c h && not (eqb z 0)) (sym q) ∙ f))

module _ (c m : ℕ) (other hues same : List ℕ) where
  abbrev pub holds : ℕ → Bool
  holds i = may_hold c m same (get_or hues i 0) (get_or other i 0)

  pub long-wanted : are_long (length other) (length same) ≡ true → true ≡ wanted c m other hues same
  unfolding wanted
  long-wanted t = sym (or_left (are_long (length other) (length same)) (any holds (below (length other))) t)

  pub none_yet : (i : ℕ) → any holds (below i) ≡ false → holds i ≡ false → any holds (below (i + 1)) ≡ false
  none_yet i a b = ap (λ (k : ℕ). any holds (below k)) (add-one i) ∙ any-more holds (below i) i a b

  pub one_wanted : (i : ℕ) → i < length other → holds i ≡ true → true ≡ wanted c m other hues same
  unfolding wanted
  one_wanted i h t = sym (or_right (are_long (length other) (length same)) (any holds (below (length other))) (some-any holds (below (length other)) i (mem_below (length other) i h) t))

  pub none-wanted : (i : ℕ) → i ≡ length other → are_long (length other) (length same) ≡ false → any holds (below i) ≡ false → false ≡ wanted c m other hues same
  unfolding wanted
  none-wanted i e f a = sym (rw f (ap (λ (k : ℕ). any holds (below k)) (sym e) ∙ a))

-- ---- what is open
module _ (c : ℕ) (hues : List ℕ) (k : ℕ) where
  pub long-open : are_long (length hues) k ≡ true → true ≡ is_open c hues k
  unfolding is_open
  long-open t = sym (or_left (are_long (length hues) k) (any (inside c) hues) t)

  pub some-open : any (inside c) hues ≡ true → true ≡ is_open c hues k
  unfolding is_open
  some-open t = sym (or_right (are_long (length hues) k) (any (inside c) hues) t)

  pub none_open : are_long (length hues) k ≡ false → any (inside c) hues ≡ false → false ≡ is_open c hues k
  unfolding is_open
  none_open f a = sym (rw f a)
