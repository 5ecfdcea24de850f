-- Which of 64 colour sets have a colour, and which a mark in their union, colour by colour and mark by mark. Assumes nothing.
use Prim.Native.Nat.{ℕ, zero, suc, ◌+◌, ◌-◌, ◌*◌, ◌≤◌, ◌<◌}
use native.Mathlib.Omega.{arith}
use native.Mathlib.Decide.{ℕ_discrete}
use mathlib.Core.Path.{◌≡◌, refl, sym, ap, ap₂, ◌∙◌, subst}
use mathlib.Core.Logic.{◌⊎◌, inl, inr}
use mathlib.Core.Bool.{Bool, true, false, ◌||◌, cond}
use mathlib.Core.List.{List, [], ◌∷◌, ◌++◌, map}
use lib.Bits.{bit_or}
use lib.ListN.{length, get_or, set, get_or-append}
use lib.Seq.{get_or-set_same, get_or-set_other}
use Rattle.lists.specs.Lists.{below}
use Rattle.lists.proofs.Bools.{test}
use Rattle.lists.proofs.Lists.{get_or-map-below}
use Rattle.lists.proofs.Numbers.{below_suc}
use Rattle.masks.specs.Masks.{has, mask_of}
use Rattle.masks.proofs.Bits.{has-or, has-none}
use Rattle.masks.proofs.MaskOf.{has-mask-of}
use Rattle.mark_sets.specs.MarkSets.{union_at}
use Rattle.mark_sets.proofs.Unions.{union-none, union-with, union-without}

-- ---- the sets of each word that have a colour, by one computed test for each word
unfoldable pub table : List ℕ
table = 12297829382473034410 ∷ 14757395258967641292 ∷ 17361641481138401520 ∷ 18374966859414961920 ∷ 18446462603027742720 ∷ 18446744069414584320 ∷ []

-- all sets of a word, or none
abbrev whole : Bool → ℕ
whole b = cond b 18446744073709551615 0

word_of : ℕ → List ℕ
word_of w = table ++ (whole (has w 0) ∷ whole (has w 1) ∷ [])

coloured_at : ℕ → ℕ → ℕ
coloured_at w c = mask_of (λ s. has (64 * w + s) c) 64

words_are : (w : ℕ) → w < 4 → map (coloured_at w) (below 8) ≡ word_of w
unfolding word_of table coloured_at mask_of has
words_are zero h = refl
words_are (suc zero) h = refl
words_are (suc (suc zero)) h = refl
words_are (suc (suc (suc zero))) h = refl
words_are (suc (suc (suc (suc w)))) h = absurd (omega (arith, h))

word-has : (w c : ℕ) → w < 4 → c < 8 → (s : ℕ) → s < 64 → has (get_or (word_of w) c 0) s ≡ has (64 * w + s) c
unfolding coloured_at
word-has w c h l s i =
    ap (λ (x : List ℕ). has (get_or x c 0) s) (sym (words_are w h)) ∙ (ap (λ (x : ℕ). has x s) (get_or-map-below (coloured_at w) 8 c 0 l) ∙ has-mask-of (λ (s : ℕ). has (64 * w + s) c) 64 s i)

pub low-has : (w c : ℕ) → w < 4 → c < 6 → (s : ℕ) → s < 64 → has (get_or table c 0) s ≡ has (64 * w + s) c
unfolding word_of table
low-has w c h l s i = ap (λ (x : ℕ). has x s) (sym (get_or-append table (whole (has w 0) ∷ whole (has w 1) ∷ []) 0 c l)) ∙ word-has w c h (omega (arith, l)) s i

pub high-has : (w c : ℕ) (b : Bool) → w < 4 → 6 ≤ c → c < 8 → b ≡ has w (c - 6) → (s : ℕ) → s < 64 → has (whole b) s ≡ has (64 * w + s) c
unfolding word_of table
high-has w c b h k l e s i = step (below_suc c 7 l) ∙ word-has w c h l s i
  where
    step : (c < 7) ⊎ (c ≡ 7) → has (whole b) s ≡ has (get_or (word_of w) c 0) s
    step (inl m) = let z : c ≡ 6 = omega (arith, k, m) in ap (λ (x : Bool). has (whole x) s) (e ∙ ap (λ (x : ℕ). has w (x - 6)) z) ∙ ap (λ (x : ℕ). has (get_or (word_of w) x 0) s) (sym z)
    step (inr z) = ap (λ (x : Bool). has (whole x) s) (e ∙ ap (λ (x : ℕ). has w (x - 6)) z) ∙ ap (λ (x : ℕ). has (get_or (word_of w) x 0) s) (sym z)

-- ---- a mark in the union, colour by colour
module _ (sets : List ℕ) (w mark : ℕ) where
  unfoldable pub Collected : ℕ → ℕ → Type 0
  Collected c r = (s : ℕ) → s < 64 → has r s ≡ has (union_at sets (64 * w + s) c) mark

  pub collected-none : Collected 0 0
  unfolding Collected
  collected-none s h = has-none s ∙ sym (ap (λ (n : ℕ). has n mark) (union-none sets (64 * w + s)) ∙ has-none mark)

  -- one colour more
  joined : (n c : ℕ) → has (union_at sets n (c + 1)) mark ≡ (has (union_at sets n c) mark || cond (has n c) (has (get_or sets c 0) mark) false)
  joined n c = step (test (has n c))
    where
      none : (b : Bool) → b ≡ b || false
      none true = refl
      none false = refl

      step : (has n c ≡ true) ⊎ (has n c ≡ false) → has (union_at sets n (c + 1)) mark ≡ (has (union_at sets n c) mark || cond (has n c) (has (get_or sets c 0) mark) false)
      step (inl t) = ap (λ (x : ℕ). has x mark) (union-with sets n c t) ∙ (has-or mark (union_at sets n c) (get_or sets c 0) ∙ ap (λ (b : Bool). has (union_at sets n c) mark || cond b (has (get_or sets c 0) mark) false) (sym t))
      step (inr f) = ap (λ (x : ℕ). has x mark) (union-without sets n c f) ∙ (none (has (union_at sets n c) mark) ∙ ap (λ (b : Bool). has (union_at sets n c) mark || cond b (has (get_or sets c 0) mark) false) (sym f))

  pub collected-with : (c r k : ℕ) → Collected c r → has (get_or sets c 0) mark ≡ true → ((s : ℕ) → s < 64 → has k s ≡ has (64 * w + s) c) → Collected (c + 1) (bit_or r k)
  unfolding Collected
  collected-with c r k h t g s l =
      has-or s r k ∙ (ap₂ ◌||◌ (h s l) (g s l ∙ sym (one (has (64 * w + s) c))) ∙
      (ap (λ (b : Bool). has (union_at sets (64 * w + s) c) mark || cond (has (64 * w + s) c) b false) (sym t) ∙ sym (joined (64 * w + s) c)))
    where
      one : (b : Bool) → cond b true false ≡ b
      one true = refl
      one false = refl

  pub collected-without : (c r : ℕ) → Collected c r → has (get_or sets c 0) mark ≡ false → Collected (c + 1) r
  unfolding Collected
  collected-without c r h f s l =
      h s l ∙ (nothing (has (union_at sets (64 * w + s) c) mark) (has (64 * w + s) c) ∙
      (ap (λ (b : Bool). has (union_at sets (64 * w + s) c) mark || cond (has (64 * w + s) c) b false) (sym f) ∙ sym (joined (64 * w + s) c)))
    where
      nothing : (a b : Bool) → a ≡ (a || cond b false false)
      nothing true b = refl
      nothing false true = refl
      nothing false false = refl

  pub collected-all : (c r : ℕ) → Collected c r → c ≡ 8 → (s : ℕ) → s < 64 → has r s ≡ has (union_at sets (64 * w + s) 8) mark
  unfolding Collected
  collected-all c r h e = subst (λ (k : ℕ). Collected k r) e h

-- ---- mark by mark
module _ (sets : List ℕ) (w : ℕ) where
  unfoldable pub Filled : ℕ → List ℕ → Type 0
  Filled n l = (m s : ℕ) → m < n → s < 64 → has (get_or l m 0) s ≡ has (union_at sets (64 * w + s) 8) m

  pub filled_none : (l : List ℕ) → Filled 0 l
  unfolding Filled
  filled_none l m s h = absurd (omega (arith, h))

  pub filled_more : (n : ℕ) (l : List ℕ) (x : ℕ) → Filled n l → n < length l → ((s : ℕ) → s < 64 → has x s ≡ has (union_at sets (64 * w + s) 8) n) → Filled (n + 1) (set l n x)
  unfolding Filled
  filled_more n l x f h g m s i j = step (ℕ_discrete m n)
    where
      step : Dec (m ≡ n) → has (get_or (set l n x) m 0) s ≡ has (union_at sets (64 * w + s) 8) m
      step (yes e) = ap (λ (k : ℕ). has (get_or (set l n x) k 0) s) e ∙ (ap (λ (y : ℕ). has y s) (get_or-set_same l n x 0 h) ∙ (g s j ∙ ap (has (union_at sets (64 * w + s) 8)) (sym e)))
      step (no e) = ap (λ (y : ℕ). has y s) (get_or-set_other l n m x 0 e) ∙ f m s (omega (arith, i, e)) j

  pub filled-all : (n k : ℕ) (l : List ℕ) → Filled n l → k ≤ n → (m s : ℕ) → m < k → s < 64 → has (get_or l m 0) s ≡ has (union_at sets (64 * w + s) 8) m
  unfolding Filled
  filled-all n k l f h m s i j = f m s (omega (arith, h, i)) j
