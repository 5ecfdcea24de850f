-- Laws of reading numbers: the digits that begin those of another number, and the loop over digits. Assumes nothing.
use Prim.Native.Nat.{ℕ, zero, suc, ◌+◌, ◌-◌, ◌*◌, ◌/◌, ◌^◌, ◌≤◌, ◌<◌}
use native.Mathlib.Omega.{arith}
use mathlib.Core.Path.{◌≡◌, refl, sym, ap, ◌∙◌, subst}
use mathlib.Core.Logic.{◌⊎◌, inl, inr}
use mathlib.Core.Bool.{Bool, true, false, ◌&&◌, ◌||◌, cond}
use mathlib.Core.List.{List, []}
use lib.Dec.{eqb, ltb}
use lib.ListN.{length, get_or}
use Rattle.lists.proofs.Bools.{test, and_l, and_r, eqb≡, lt-true}
use Rattle.hanoi.specs.Texts.{white, digit, decimal}
use Rattle.hanoi.specs.Prefixes.{cut, prefix_of}
use Rattle.hanoi.specs.Offers.{Offer, Numbers, no_name, starts_with, takes, ends, numbered, between, digits, dead, begin, byte_at, begin_word, takes_name, step_byte}
use Rattle.hanoi.specs.Reader.{At, offers, offer}
use Rattle.hanoi.proofs.Digits.{lt_yes, lt_no, digit-white}
use Rattle.hanoi.proofs.Prefixes.{cut_on, cut-stop, prefix-is}
use Rattle.hanoi_tokens.specs.declared.Wanted.{Wanted}
use Rattle.hanoi_tokens.specs.declared.Wanted.TheVariants.{Below, Positive, Exactly}
use Rattle.std.specs.Prelude.{Result, Ok, Err}
use Rattle.hanoi_tokens.specs.declared.Stop.{Stop}
use Rattle.hanoi_tokens.specs.declared.Begun.{Begun}
use Rattle.hanoi_tokens.specs.declared.Number.{Number}
use Rattle.hanoi_tokens.specs.Moves.{Moves, Stops}
use Rattle.hanoi_tokens.specs.Tokens.{Begins, takes_by, ends_by, numbers_for, Within, ReadsDigits, ReadsNumber}
use Rattle.hanoi_tokens.proofs.Moves.{neither, moves-on, moves-stops, moves-reads, one, none, breaks-off, alike}

-- ---- prefixes
pub prefix-zero : (k : ℕ) → eqb k 0 ≡ prefix_of 0 k
unfolding prefix_of cut
prefix-zero k = step (test (eqb k 0))
  where
    step : (eqb k 0 ≡ true) ⊎ (eqb k 0 ≡ false) → eqb k 0 ≡ (ltb 0 0 || eqb k 0) && eqb 0 (cut 10 0 k)
    step (inl t) = t ∙ sym (subst (λ (x : ℕ). (ltb 0 0 || eqb x 0) && eqb 0 (cut 10 0 x) ≡ true) (sym (eqb≡ k 0 t)) refl)
    step (inr f) = rw f refl

-- k without its last digits
abbrev pub Cutting : ℕ → ℕ → ℕ → Type 0
Cutting n k rest = (j : ℕ) × (rest < 10 ^ j) × (cut 10 n k ≡ cut j n rest)

pub cutting-none : (n k : ℕ) → k < 2147483648 → Cutting n k k
cutting-none n k h = (10, omega arith, refl)

pub cutting-more : (n k rest : ℕ) → n < rest → Cutting n k rest → Cutting n k (rest / 10)
cutting-more n k rest h (zero, l, e) = absurd (omega (arith, l))
cutting-more n k rest h (suc j, l, e) = (j, omega (arith, l), e ∙ cut_on j n rest h)

pub cutting-all : (n k rest : ℕ) → 0 < n → rest ≤ n → Cutting n k rest → eqb n rest ≡ prefix_of n k
unfolding prefix_of
cutting-all n k rest p h (j, l, e) = rw (lt_yes 0 n p, e ∙ cut-stop j n rest h) refl

-- ---- kinds of numbers
none-and : (a : Bool) → a && false && true ≡ false
none-and true = refl
none-and false = refl

takes-for : (w : Wanted) → Within w → (to : ℕ → At) (n : ℕ) → takes (numbers_for w to) n ≡ takes_by w n
unfolding takes numbers_for
takes-for (Below k) h to n = step (test (ltb n k))
  where
    step : (ltb n k ≡ true) ⊎ (ltb n k ≡ false) → ltb n 2147483648 && ltb n k && true ≡ ltb n k
    step (inl t) = let g = lt-true n k t in rw (t, lt_yes n 2147483648 (omega (arith, g, h))) refl
    step (inr f) = rw f (none-and (ltb n 2147483648))
takes-for Positive h to n = swap (ltb n 2147483648) (ltb 0 n)
  where
    swap : (a b : Bool) → a && a && b ≡ b && a
    swap true true = refl
    swap true false = refl
    swap false true = refl
    swap false false = refl
takes-for (Exactly k) h to n = step (test (ltb n 2147483648))
  where
    step : (ltb n 2147483648 ≡ true) ⊎ (ltb n 2147483648 ≡ false) → ltb n 2147483648 && ltb k 2147483648 && starts_with (decimal n) (decimal k) ≡ ltb n 2147483648 && prefix_of n k
    step (inl t) = rw (t, lt_yes k 2147483648 h) (prefix-is n (lt-true n 2147483648 t) k h)
    step (inr f) = rw f refl

ends-for : (w : Wanted) (to : ℕ → At) (n : ℕ) → ends (numbers_for w to) n ≡ ends_by w n
unfolding ends numbers_for
ends-for (Below k) to n = refl
ends-for Positive to n = refl
ends-for (Exactly k) to n = refl

numbered-for : (w : Wanted) (to : ℕ → At) (n : ℕ) (s : At) → ends_by w n ≡ true → numbered (numbers_for w to) n s ≡ to n
unfolding numbered numbers_for
numbered-for (Below k) to n s e = refl
numbered-for Positive to n s e = refl
numbered-for (Exactly k) to n s e = ap to (sym (eqb≡ n k e))

taken-small : (w : Wanted) → Within w → (n : ℕ) → takes_by w n ≡ true → n < 2147483648
taken-small (Below k) h n t = let g = lt-true n k t in omega (arith, g, h)
taken-small Positive h n t = lt-true n 2147483648 (and_r (ltb 0 n) (ltb n 2147483648) t)
taken-small (Exactly k) h n t = lt-true n 2147483648 (and_l (ltb n 2147483648) (prefix_of n k) t)

-- ---- digits
step-first : (s : At) (b : ℕ) → digit b ≡ true → step_byte offers (between false s) b ≡ cond (takes (offers s).numbers (b - 48)) (digits s (b - 48)) dead
unfolding step_byte byte_at begin
step-first s b d = rw (digit-white b d, d) refl

step-on : (s : At) (n b : ℕ) → digit b ≡ true → step_byte offers (digits s n) b ≡ cond (ltb 0 n && takes (offers s).numbers (n * 10 + (b - 48))) (digits s (n * 10 + (b - 48))) dead
unfolding step_byte
step-on s n b d = rw d refl

step-off : (s : At) (n b : ℕ) → digit b ≡ false → step_byte offers (digits s n) b ≡ cond (ends (offers s).numbers n) (step_byte offers (between false (numbered (offers s).numbers n s)) b) dead
unfolding step_byte
step-off s n b d = rw d refl

module _ (text : List ℕ) (m : ℕ) (w : Wanted) (h : Within w) where
  -- the digits before byte i come to n
  pub record Digits (i n : ℕ) : Type 0 where
    pub later : m < i
    pub within : i ≤ length text
    pub taken : takes_by w n ≡ true
    pub small : n < 2147483648
    pub moves : (s : At) (to : ℕ → At) → (offers s).numbers ≡ numbers_for w to → Moves text m (between false s) i (digits s n)

  by : (s : At) (to : ℕ → At) (n : ℕ) (b : Bool) → (offers s).numbers ≡ numbers_for w to → takes_by w n ≡ b → takes (offers s).numbers n ≡ b
  by s to n b e t = ap (λ (x : Numbers At). takes x n) e ∙ (takes-for w h to n ∙ t)

  pub digits-first : (n : ℕ) → m < length text → digit (get_or text m 0) ≡ true → n ≡ get_or text m 0 - 48 → takes_by w n ≡ true → Digits (m + 1) n
  digits-first n l d e t = record {
    later = omega arith;
    within = omega arith;
    taken = t;
    small = taken-small w h n t;
    moves = λ s to o. one text l (step-first s (get_or text m 0) d ∙ (rw (sym e) (rw (by s to n true o t) refl))) refl;
  }

  -- the text stops at byte i
  no_number : (i : ℕ) → ((s : At) (to : ℕ → At) → (offers s).numbers ≡ numbers_for w to → (digit (get_or text m 0) ≡ false → step_byte offers (between false s) (get_or text m 0) ≡ dead) → Stops text m (between false s) i)
      → ReadsDigits text m w (Err (record { at = i }))
  no_number i z = record { later = tt; within = tt; reads = z; taken = tt }

  pub digits-none : m < length text → digit (get_or text m 0) ≡ false → ReadsDigits text m w (Err (record { at = m }))
  digits-none l d = no_number m (λ s to o x. none text l (x d))

  pub digits-not-first : (n : ℕ) → m < length text → digit (get_or text m 0) ≡ true → n ≡ get_or text m 0 - 48 → takes_by w n ≡ false → ReadsDigits text m w (Err (record { at = m }))
  digits-not-first n l d e t = no_number m (λ s to o x. none text l (step-first s (get_or text m 0) d ∙ (rw (sym e) (rw (by s to n false o t) refl))))

  module _ (i n : ℕ) (k : Digits i n) where
    pub digits-on : (c : ℕ) → i < length text → digit (get_or text i 0) ≡ true → 0 < n → c ≡ n * 10 + (get_or text i 0 - 48) → takes_by w c ≡ true → Digits (i + 1) c
    digits-on c l d p e t = record {
      later = omega (arith, k.later);
      within = omega arith;
      taken = t;
      small = taken-small w h c t;
      moves = λ s to o. moves-on text (k.moves s to o) (one text l (step-on s n (get_or text i 0) d ∙ (rw (sym e) (rw (lt_yes 0 n p, by s to c true o t) refl))) refl);
    }

    stop : ((s : At) (to : ℕ → At) → (offers s).numbers ≡ numbers_for w to → Stops text i (digits s n) i) → ReadsDigits text m w (Err (record { at = i }))
    stop z = no_number i (λ s to o x. moves-stops text (k.moves s to o) (z s to o))

    pub digits-zero : i < length text → digit (get_or text i 0) ≡ true → n ≡ 0 → ReadsDigits text m w (Err (record { at = i }))
    digits-zero l d z = stop (λ s to o. none text l (step-on s n (get_or text i 0) d ∙ (rw (lt_no 0 n (omega (arith, z))) refl)))

    pub digits-over : (c : ℕ) → i < length text → digit (get_or text i 0) ≡ true → 0 < n → c ≡ n * 10 + (get_or text i 0 - 48) → takes_by w c ≡ false → ReadsDigits text m w (Err (record { at = i }))
    digits-over c l d p e t = stop (λ s to o. none text l (step-on s n (get_or text i 0) d ∙ (rw (sym e) (rw (lt_yes 0 n p, by s to c false o t) refl))))

    ends-by : (s : At) (to : ℕ → At) (b : Bool) → (offers s).numbers ≡ numbers_for w to → ends_by w n ≡ b → ends (offers s).numbers n ≡ b
    ends-by s to b o e = ap (λ (x : Numbers At). ends x n) o ∙ (ends-for w to n ∙ e)

    pub digits-short : i < length text → digit (get_or text i 0) ≡ false → ends_by w n ≡ false → ReadsDigits text m w (Err (record { at = i }))
    digits-short l d e = stop (λ s to o. none text l (step-off s n (get_or text i 0) d ∙ (rw (ends-by s to false o e) refl)))

    pub digits-break : length text ≤ i → ReadsDigits text m w (Err (record { at = length text }))
    digits-break l =
        let e : i ≡ length text = omega (arith, k.within, l) in
        subst (λ (j : ℕ). ReadsDigits text m w (Err (record { at = j }))) e (stop (λ s to o. breaks-off text l (λ y. refl)))

    pub digits-all : i < length text → digit (get_or text i 0) ≡ false → ends_by w n ≡ true → ReadsDigits text m w (Ok (record { at = i; value = n }))
    digits-all l d e = record {
      later = k.later;
      within = k.within;
      reads =
          λ s to o x. moves-on text (k.moves s to o) (alike text l (step-off s n (get_or text i 0) d ∙ (rw (ends-by s to true o e)
          (ap (λ (a : At). step_byte offers (between false a) (get_or text i 0)) (ap (λ (z : Numbers At). numbered z n s) o ∙ numbered-for w to n s e)))));
      taken = k.taken;
    }

-- ---- where a number alone may come
number-alone : (s : At) (ns : Numbers At) (b : ℕ) → offers s ≡ offer [] ns no_name → white b ≡ false → digit b ≡ false → step_byte offers (between false s) b ≡ dead
unfolding step_byte byte_at begin takes_name begin_word
number-alone s ns b e w d = rw (w, d, e) (neither (eqb b 34))

module _ (text : List ℕ) (m : ℕ) (w : Wanted) where
  pub number_behind : (b : Begun) (r : Result Number Stop) → Begins text m false (Ok b) → ReadsDigits text b.at w r → ReadsNumber text m w r
  number_behind b r g k = record {
    within = k.within;
    reads =
        λ s to o u. moves-reads text r (λ n. n.at) (λ n. between false (to n.value)) (g.reads s u)
        (k.reads s to (ap (λ (x : Offer At). x.numbers) o) (λ d. number-alone s (numbers_for w to) (get_or text b.at 0) o (ap white (sym g.byte_is) ∙ g.other) d));
    taken = k.taken;
  }
