-- Laws of reading white space and words, as the loops that read them need them. Assumes nothing.
use Prim.Native.Nat.{ℕ, ◌+◌, ◌-◌, ◌≤◌, ◌<◌}
use native.Mathlib.Omega.{arith}
use native.Mathlib.Numerals.{add-one}
use mathlib.Core.Path.{◌≡◌, refl, sym, ap, ◌∙◌, subst}
use mathlib.Core.Logic.{◌⊎◌, inl, inr}
use mathlib.Core.Bool.{Bool, true, false, ◌&&◌, cond}
use mathlib.Core.List.{List, [], ◌∷◌}
use lib.Dec.{eqb}
use lib.ListN.{length, get_or, drop, drop_of_length-le}
use lib.Seq.{drop-cons}
use Rattle.lists.proofs.Bools.{test, and-absent, neqb, ≡eqb, eqb≡}
use Rattle.hanoi.specs.Answers.{Answer}
use Rattle.lists.specs.Lists.{first_or}
use Rattle.hanoi.specs.Words.{Word}
use Rattle.hanoi.specs.Texts.{white, digit, goes_on, spelling, open_ended}
use Rattle.hanoi.specs.Offers.{takes, takes_name, Spot, between, digits, in_name, dead, word_on, tail_of, begin_word, begin, byte_at, step_byte}
use Rattle.hanoi.specs.Reader.{At, offers, only, is_dead}
use Rattle.hanoi.specs.Reading.{answer_at}
use Rattle.hanoi.proofs.Digits.{word_first}
use Rattle.hanoi.proofs.Forth.{at-white, at_other}
use Rattle.std.specs.Prelude.{Result, Ok, Err}
use Rattle.hanoi_tokens.specs.declared.Stop.{Stop}
use Rattle.hanoi_tokens.specs.Moves.{Moves, Reads}
use Rattle.hanoi_tokens.specs.Tokens.{Skips, Begins, Spells, ReadsWord}
use Rattle.hanoi_tokens.specs.declared.Begun.{Begun}
use Rattle.hanoi_tokens.proofs.Moves.{stay, moves-on, moves-stops, moves-reads, one, none, breaks-off, alike}

-- ---- white space
step-white : (bar : Bool) (s : At) (b : ℕ) → white b ≡ true → step_byte offers (between bar s) b ≡ between false s
unfolding step_byte
step-white bar s b h = at-white offers bar s b h

step_other : (bar : Bool) (s : At) (b : ℕ) → white b ≡ false → bar && goes_on b ≡ false → step_byte offers (between bar s) b ≡ begin offers s b
unfolding step_byte
step_other bar s b h g = at_other offers bar s b h g

step-barred : (s : At) (b : ℕ) → white b ≡ false → goes_on b ≡ true → step_byte offers (between true s) b ≡ dead
unfolding step_byte byte_at
step-barred s b h g = rw (h, g) refl

unbarred : (a b c : Bool) → (a ≡ true → b ≡ true → c ≡ true → ⊥) → (a && b) && c ≡ false
unbarred true true true h = absurd (h refl refl refl)
unbarred true true false h = refl
unbarred true false c h = refl
unbarred false b c h = refl

module _ (text : List ℕ) where
  abbrev pub Skipped : ℕ → ℕ → Type 0
  Skipped m i = (m ≤ i) × (i ≤ length text) × ((bar : Bool) (s : At) → Moves text m (between bar s) i (between (bar && eqb m i) s))

  pub skipped-none : (m : ℕ) → m ≤ length text → Skipped m m
  skipped-none m h = (omega arith, h, λ bar s. subst (λ (b : Bool). Moves text m (between bar s) m (between b s)) (sym (keep bar (eqb m m) (≡eqb m m refl))) (stay text m (between bar s) h))
    where
      keep : (a b : Bool) → b ≡ true → a && b ≡ a
      keep true b e = e
      keep false b e = refl

  pub skipped-more : (m i : ℕ) → Skipped m i → i < length text → white (get_or text i 0) ≡ true → Skipped m (i + 1)
  skipped-more m i (h, l, k) t w = (
    omega arith,
    omega arith,
    λ bar s.
        subst (λ (b : Bool). Moves text m (between bar s) (i + 1) (between b s)) (sym (and-absent bar (eqb m (i + 1)) (neqb m (i + 1) (λ e. omega (arith, e)))))
        (moves-on text (k bar s) (one text t (step-white (bar && eqb m i) s (get_or text i 0) w) refl)),
  )

  pub skipped-all : (m i : ℕ) → Skipped m i → (i < length text → white (get_or text i 0) ≡ false) → Skips text m i
  skipped-all m i (h, l, k) o = record { later = h; within = l; moves = k; other = o }

  pub skipped-end : (m i : ℕ) → Skipped m i → length text ≤ i → Skips text m (length text)
  skipped-end m i k h = let e : i ≡ length text = omega (arith, k.1, h) in subst (λ (j : ℕ). Skips text m j) e (skipped-all m i k (λ l. absurd (omega (arith, l, h))))

  -- behind white space: the next token's first byte is there and not barred
  pub begins-free : (m i : ℕ) (bar : Bool) → Skips text m i → i < length text → (bar ≡ true → i ≡ m → goes_on (get_or text i 0) ≡ true → ⊥) → Begins text m bar (Ok (record { at = i; byte = get_or text i 0 }))
  begins-free m i bar k h g = record {
    later = k.later;
    reads =
        λ s u. moves-on text (k.moves bar s)
        (alike text h (step_other (bar && eqb m i) s (get_or text i 0) (k.other h) (unbarred bar (eqb m i) (goes_on (get_or text i 0)) (λ t e. g t (sym (eqb≡ m i e)))) ∙ sym (step_other false s (get_or text i 0) (k.other h) refl)));
    there = h;
    byte_is = refl;
    other = k.other h;
  }

  pub begins-barred : (m i : ℕ) (bar : Bool) → Skips text m i → i < length text → bar ≡ true → i ≡ m → goes_on (get_or text i 0) ≡ true → Begins text m bar (Err (record { at = i }))
  begins-barred m i bar k h t e g = record {
    later = tt;
    reads =
        λ s u. moves-stops text (k.moves bar s)
        (none text h (rw (t, ≡eqb m i (sym e)) (step-barred s (get_or text i 0) (k.other h) g)));
    there = tt;
    byte_is = tt;
    other = tt;
  }

  pub begins-end : (m i : ℕ) (bar : Bool) → Skips text m i → length text ≤ i → Begins text m bar (Err (record { at = i }))
  begins-end m i bar k h = record {
    later = tt;
    reads = λ s u. moves-stops text (k.moves bar s) (breaks-off text h u);
    there = tt;
    byte_is = tt;
    other = tt;
  }

-- ---- words
word-step : (x : Word) (c : ℕ) (r : List ℕ) (a : At) → step_byte offers (word_on x (c ∷ r) a) c ≡ word_on x r a
unfolding step_byte word_on
word-step x c r a = rw (≡eqb c c refl) refl

word-dead : (x : Word) (b c : ℕ) (r : List ℕ) (a : At) → eqb b c ≡ false → step_byte offers (word_on x (c ∷ r) a) b ≡ dead
unfolding step_byte word_on
word-dead x b c r a h = rw h refl

word-alive : (x : Word) (r : List ℕ) (a : At) → is_dead (word_on x r a) ≡ false
unfolding word_on
word-alive x [] a = refl
word-alive x (c ∷ r) a = refl

word-open : (x : Word) (c : ℕ) (r : List ℕ) (a : At) (y : Answer) → answer_at y (word_on x (c ∷ r) a) ≡ y
unfolding word_on
word-open x c r a y = refl

word-whole : (x : Word) (a : At) → word_on x [] a ≡ between (open_ended x) a
unfolding word_on
word-whole x a = refl

module _ (text rest : List ℕ) (m : ℕ) where
  -- the first i bytes of the word are read
  pub record Spelled (i : ℕ) : Type 0 where
    pub within : m + i ≤ length text
    pub moves : (x : Word) (a : At) → Moves text m (word_on x rest a) (m + i) (word_on x (drop i rest) a)

  pub spelled_none : m ≤ length text → Spelled 0
  spelled_none h =
      let e : m + 0 ≡ m = omega arith in
      record { within = omega (arith, h); moves = λ x a. rw e (stay text m (word_on x rest a) h) }

  to-come : (i : ℕ) → i < length rest → drop i rest ≡ get_or rest i 0 ∷ drop (i + 1) rest
  to-come i h = drop-cons rest i 0 h ∙ ap (λ (j : ℕ). get_or rest i 0 ∷ drop j rest) (sym (add-one i))

  module _ (i : ℕ) (k : Spelled i) where
    pub spelled-more : i < length rest → m + i < length text → get_or text (m + i) 0 ≡ get_or rest i 0 → Spelled (i + 1)
    spelled-more t u b =
        let e : m + (i + 1) ≡ m + i + 1 = omega arith in
        record {
          within = omega (arith, u);
          moves =
              λ x a. rw e (moves-on text (k.moves x a)
              (one text u (ap (λ (z : List ℕ). step_byte offers (word_on x z a) (get_or text (m + i) 0)) (to-come i t) ∙ (ap (step_byte offers (word_on x (get_or rest i 0 ∷ drop (i + 1) rest) a)) b ∙ word-step x (get_or rest i 0) (drop (i + 1) rest) a))
              (word-alive x (drop (i + 1) rest) a)));
        }

    pub spelled-other : i < length rest → m + i < length text → eqb (get_or text (m + i) 0) (get_or rest i 0) ≡ false → Spells text m rest (Err (record { at = m + i }))
    spelled-other t u b x a =
        moves-stops text (k.moves x a) (none text u (ap (λ (z : List ℕ). step_byte offers (word_on x z a) (get_or text (m + i) 0)) (to-come i t) ∙ word-dead x (get_or text (m + i) 0) (get_or rest i 0) (drop (i + 1) rest) a b))

    pub spelled-end : i < length rest → length text ≤ m + i → Spells text m rest (Err (record { at = m + i }))
    spelled-end t u x a =
        moves-stops text (k.moves x a) (breaks-off text u (λ y. ap (λ (z : List ℕ). answer_at y (word_on x z a)) (to-come i t) ∙ word-open x (get_or rest i 0) (drop (i + 1) rest) a y))

  pub spelled-whole : (i : ℕ) → Spelled i → i ≤ length rest → length rest ≤ i → Spells text m rest (Ok (m + length rest))
  spelled-whole i k l h x a =
      let e : i ≡ length rest = omega (arith, l, h) in
      subst (λ (j : ℕ). Moves text m (word_on x rest a) (m + j) (between (open_ended x) a)) e
      (subst (λ (p : Spot At). Moves text m (word_on x rest a) (m + i) p) (ap (λ (z : List ℕ). word_on x z a) (drop_of_length-le rest h) ∙ word-whole x a) (k.moves x a))

none_of : (y z : Bool) → cond {A = Spot At} y dead (cond z dead dead) ≡ dead
none_of true z = refl
none_of false true = refl
none_of false false = refl

-- where one word alone may come, its first byte is as any of its bytes
only_step : (s a : At) (x : Word) (b : ℕ) → offers s ≡ only x a → white b ≡ false → step_byte offers (between false s) b ≡ step_byte offers (word_on x (spelling x) a) b
unfolding begin takes takes_name begin_word
only_step s a x b e w =
    let f = word_first x in
    step_other false s b w refl ∙ (rw e (pick (test (eqb b (first_or 0 (spelling x)))) ∙ sym (ap (λ (l : List ℕ). step_byte offers (word_on x l a) b) f.3)))
  where
    pick : (eqb b (first_or 0 (spelling x)) ≡ true) ⊎ (eqb b (first_or 0 (spelling x)) ≡ false)
        → cond (digit b) (cond false (digits s (b - 48)) dead) (cond (eqb b 34) (cond false (in_name s [] false) dead) (cond (eqb b (first_or 0 (spelling x))) (word_on x (tail_of (spelling x)) a) dead))
        ≡ step_byte offers (word_on x (first_or 0 (spelling x) ∷ tail_of (spelling x)) a) b
    pick (inl t) =
        let f = word_first x in let i : b ≡ first_or 0 (spelling x) = eqb≡ b (first_or 0 (spelling x)) t in
        rw (ap digit i ∙ f.1, ap (λ (y : ℕ). eqb y 34) i ∙ f.2, t) (sym (ap (step_byte offers (word_on x (first_or 0 (spelling x) ∷ tail_of (spelling x)) a)) i ∙ word-step x (first_or 0 (spelling x)) (tail_of (spelling x)) a))
    pick (inr g) = rw g (none_of (digit b) (eqb b 34) ∙ sym (word-dead x b (first_or 0 (spelling x)) (tail_of (spelling x)) a g))

only-word : (text : List ℕ) (m : ℕ) (s a : At) (x : Word) → m < length text → white (get_or text m 0) ≡ false → offers s ≡ only x a → Moves text m (between false s) m (word_on x (spelling x) a)
only-word text m s a x h w e = alike text h (only_step s a x (get_or text m 0) e w)

-- a word behind white space
pub word-behind : (text bytes : List ℕ) (m : ℕ) (bar : Bool) (b : Begun) (r : Result ℕ Stop) → Begins text m bar (Ok b) → Spells text b.at bytes r → ReadsWord text m bar bytes r
word-behind text bytes m bar b r g k s a x e o u =
    moves-reads text r (λ n. n) (λ n. between (open_ended x) a) (moves-on text (g.reads s u) (only-word text b.at s a x g.there (ap white (sym g.byte_is) ∙ g.other) o))
    (subst (λ (l : List ℕ). Reads text b.at (word_on x l a) r (between (open_ended x) a)) e (k x a))
