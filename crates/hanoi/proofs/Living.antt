-- Where the reader of bytes is alive, its state is a sound one, and some bytes lead to a state between tokens.
use Prim.Native.Nat.{ℕ, suc, ◌+◌, ◌-◌, ◌*◌}
use native.Mathlib.Omega.{arith}
use mathlib.Core.Path.{◌≡◌, refl, sym, ap, ◌∙◌, subst}
use mathlib.Core.Logic.{◌⊎◌, inl, inr}
use mathlib.Core.Bool.{Bool, true, false, not, ◌&&◌, cond, false≢true}
use mathlib.Core.List.{List, [], ◌∷◌, ◌++◌, append_assoc, append-nil, Memᴰ}
use lib.Dec.{eqb, ltb}
use lib.ListN.{length, replicate, length-append, length-replicate}
use Rattle.lists.proofs.Bools.{test, and_l, and_r, both, ≡eqb}
use Rattle.hanoi.specs.Texts.{white, digit, goes_on, spelling, open_ended, Token, decimal, quotable_in, quotable, none}
use Rattle.hanoi.specs.Words.{Word}
use Rattle.hanoi.specs.Offers.{Choice, Numbers, no_number, below, exactly, Names, no_name, new_name, Offer, starts_with, takes, ends, takes_name, is_new, numbered, named, Leads, by_word, by_number, by_name, Spot, between, in_word, digits, in_name, dead, tail_of, word_on, begin_word, begin, byte_at, step_byte, run}
use Rattle.hanoi.proofs.Digits.{starts-all, starts-rest}
use Rattle.hanoi.proofs.Forth.{first_of, run-append, word-rest, number_read, name-rest, Lands, free, barred, counted}
use Rattle.hanoi.proofs.Back.{picked}
use Rattle.hanoi.proofs.Ending.{total, longer-new, letters-quotable}

behind-quotable : (b : ℕ) (m : List ℕ) → ltb b 256 && not (eqb b 10) ≡ true → quotable_in false m ≡ true → quotable_in true (b ∷ m) ≡ true
unfolding quotable_in
behind-quotable b m t h = both (ltb b 256 && not (eqb b 10)) (quotable_in false m) t h

plain-quotable : (b : ℕ) (m : List ℕ) → ltb b 256 ≡ true → eqb b 34 ≡ false → quotable_in (eqb b 92) m ≡ true → quotable_in false (b ∷ m) ≡ true
unfolding quotable_in
plain-quotable b m t f h = both (ltb b 256 && not (eqb b 34)) (quotable_in (eqb b 92) m) (rw (t, f) refl) h

none-quotable : quotable_in false [] ≡ true
unfolding quotable_in
none-quotable = refl

module _ {A : Type 0} (offers : A → Offer A) (Sound : A → Type 0) (keeps : (s u : A) (t : Token) → Leads offers s t u → Sound s → Sound u) where
  kept : {s u : A} {t : Token} → Leads offers s t u → Sound s → Sound u
  kept {s} {u} {t} l x = keeps s u t l x

  abbrev pub Live : Spot A → Type 0
  Live (between b s) = Sound s
  Live (in_word x [] a) = ⊥
  Live (in_word x (c ∷ r) a) = Sound a
  Live (digits s n) = Sound s × (takes (offers s).numbers n ≡ true)
  Live (in_name s q back) = Sound s × (takes_name (offers s).names ≡ true) × ((m : List ℕ) → quotable_in back m ≡ true → quotable (q ++ m) ≡ true)
  Live dead = ⊥

  abbrev pub Fine : Spot A → Type 0
  Fine p = (p ≡ dead) ⊎ Live p

  word_live : (x : Word) (r : List ℕ) (a : A) → Sound a → Live (word_on x r a)
  unfolding word_on
  word_live x [] a s = s
  word_live x (c ∷ r) a s = s

  begin-fine : (s : A) (b : ℕ) → Sound s → Fine (begin offers s b)
  unfolding begin quotable
  begin-fine s b x = step₁ (test (digit b))
    where
      step₄ : (begin_word b (offers s).choices ≡ dead) ⊎ ((c : Choice A) × Memᴰ c (offers s).choices × (b ≡ first_of c) × (begin_word b (offers s).choices ≡ word_on c.word (tail_of (spelling c.word)) c.next))
          → Fine (begin_word b (offers s).choices)
      step₄ (inl e) = inl e
      step₄ (inr k) = inr (subst (λ (p : Spot A). Live p) (sym k.3) (word_live k.0.word (tail_of (spelling k.0.word)) k.0.next (kept (by_word k.0 k.1) x)))

      step₃ : (takes_name (offers s).names ≡ true) ⊎ (takes_name (offers s).names ≡ false) → Fine (cond (takes_name (offers s).names) (in_name s [] false) dead)
      step₃ (inl t) = rw t (inr (x, t, λ m h. h))
      step₃ (inr f) = rw f (inl refl)

      step₂ : (eqb b 34 ≡ true) ⊎ (eqb b 34 ≡ false) → Fine (cond (eqb b 34) (cond (takes_name (offers s).names) (in_name s [] false) dead) (begin_word b (offers s).choices))
      step₂ (inl t) = rw t (step₃ (test (takes_name (offers s).names)))
      step₂ (inr f) = rw f (step₄ (picked (offers s).choices b))

      step₀ : (takes (offers s).numbers (b - 48) ≡ true) ⊎ (takes (offers s).numbers (b - 48) ≡ false) → Fine (cond (takes (offers s).numbers (b - 48)) (digits s (b - 48)) dead)
      step₀ (inl t) = rw t (inr (x, t))
      step₀ (inr f) = rw f (inl refl)

      step₁ : (digit b ≡ true) ⊎ (digit b ≡ false)
          → Fine (cond (digit b) (cond (takes (offers s).numbers (b - 48)) (digits s (b - 48)) dead) (cond (eqb b 34) (cond (takes_name (offers s).names) (in_name s [] false) dead) (begin_word b (offers s).choices)))
      step₁ (inl t) = rw t (step₀ (test (takes (offers s).numbers (b - 48))))
      step₁ (inr f) = rw f (step₂ (test (eqb b 34)))

  at-fine : (bar : Bool) (s : A) (b : ℕ) → Sound s → Fine (byte_at offers bar s b)
  unfolding byte_at
  at-fine bar s b x = step (white b) (bar && goes_on b)
    where
      step : (u v : Bool) → Fine (cond u (between false s) (cond v dead (begin offers s b)))
      step true v = inr x
      step false true = inl refl
      step false false = begin-fine s b x

  pub step-fine : (p : Spot A) (b : ℕ) → Live p → Fine (step_byte offers p b)
  unfolding step_byte
  step-fine (between bar s) b x = at-fine bar s b x
  step-fine (in_word y [] a) b x = inl refl
  step-fine (in_word y (c ∷ r) a) b x = step (eqb b c)
    where
      step : (u : Bool) → Fine (cond u (word_on y r a) dead)
      step true = inr (word_live y r a x)
      step false = inl refl
  step-fine (digits s n) b x = step (digit b) (test (ltb 0 n && takes (offers s).numbers (n * 10 + (b - 48)))) (test (ends (offers s).numbers n))
    where
      step : (u : Bool) → (ltb 0 n && takes (offers s).numbers (n * 10 + (b - 48)) ≡ true) ⊎ (ltb 0 n && takes (offers s).numbers (n * 10 + (b - 48)) ≡ false)
          → (ends (offers s).numbers n ≡ true) ⊎ (ends (offers s).numbers n ≡ false)
          → Fine (cond u (cond (ltb 0 n && takes (offers s).numbers (n * 10 + (b - 48))) (digits s (n * 10 + (b - 48))) dead) (cond (ends (offers s).numbers n) (byte_at offers false (numbered (offers s).numbers n s) b) dead))
      step true (inl t) e = rw t (inr (x.0, and_r (ltb 0 n) (takes (offers s).numbers (n * 10 + (b - 48))) t))
      step true (inr f) e = rw f (inl refl)
      step false t (inl e) = rw e (at-fine false (numbered (offers s).numbers n s) b (kept (by_number n x.1 e) x.0))
      step false t (inr f) = rw f (inl refl)
  step-fine (in_name s q true) b x = step (test (ltb b 256 && not (eqb b 10)))
    where
      step : (ltb b 256 && not (eqb b 10) ≡ true) ⊎ (ltb b 256 && not (eqb b 10) ≡ false) → Fine (cond (ltb b 256 && not (eqb b 10)) (in_name s (q ++ (b ∷ [])) false) dead)
      step (inl t) = rw t (inr (x.0, x.1, λ m h. subst (λ (l : List ℕ). quotable l ≡ true) (sym (append_assoc q (b ∷ []) m)) (x.2 (b ∷ m) (behind-quotable b m t h))))
      step (inr f) = rw f (inl refl)
  step-fine (in_name s q false) b x = step (test (eqb b 34)) (test (is_new (offers s).names q)) (test (ltb b 256))
    where
      step : (eqb b 34 ≡ true) ⊎ (eqb b 34 ≡ false) → (is_new (offers s).names q ≡ true) ⊎ (is_new (offers s).names q ≡ false) → (ltb b 256 ≡ true) ⊎ (ltb b 256 ≡ false)
          → Fine (cond (eqb b 34) (cond (is_new (offers s).names q) (between false (named (offers s).names q s)) dead) (cond (ltb b 256) (in_name s (q ++ (b ∷ [])) (eqb b 92)) dead))
      step (inl t) (inl n) u = rw (t, n) (inr (kept (by_name q x.1 (subst (λ (l : List ℕ). quotable l ≡ true) (append-nil q) (x.2 [] none-quotable)) n) x.0))
      step (inl t) (inr f) u = rw (t, f) (inl refl)
      step (inr t) n (inl u) = rw (t, u) (inr (x.0, x.1, λ m h. subst (λ (l : List ℕ). quotable l ≡ true) (sym (append_assoc q (b ∷ []) m)) (x.2 (b ∷ m) (plain-quotable b m u t h))))
      step (inr t) n (inr f) = rw (t, f) (inl refl)
  step-fine dead b x = inl refl

  -- ---- the rest of a token
  -- some bytes lead from p to a state between tokens
  pub record Leaves (p : Spot A) : Type 0 where
    pub bytes : List ℕ
    pub state : A
    pub sound : Sound state
    pub stick : ℕ → Bool
    pub lands : Lands offers stick (run offers p bytes) state

  opened : (o : Bool) (s : A) → Lands offers goes_on (between o s) s
  opened true s = barred s (λ b h. h)
  opened false s = free s

  -- the number that n begins
  full-number : (ns : Numbers A) (n : ℕ) → takes ns n ≡ true → (k : ℕ) × (takes ns k ≡ true) × (ends ns k ≡ true) × ((ds : List ℕ) × (decimal k ≡ decimal n ++ ds))
  unfolding takes ends
  full-number no_number n t = absurd (false≢true t)
  full-number (below some k f) n t = (n, t, refl, ([], sym (append-nil (decimal n))))
  full-number (exactly k a) n t =
      let x : Bool = ltb n 2147483648 in let y : Bool = ltb k 2147483648 in let z : Bool = starts_with (decimal n) (decimal k) in
      let l = and_r x y (and_l (x && y) z t) in
      (k, both (y && y) (starts_with (decimal k) (decimal k)) (both y y l l) (starts-all (decimal k)), ≡eqb k k refl, starts-rest (decimal n) (decimal k) (and_r (x && y) z t))

  -- a name that is new
  full-name : (ns : Names A) (q : List ℕ) → takes_name ns ≡ true → (k : ℕ) × (is_new ns (q ++ replicate (suc k) 122) ≡ true)
  unfolding takes_name is_new
  full-name no_name q t = absurd (false≢true t)
  full-name (new_name ns f) q t =
      let m : List ℕ = replicate (suc (total ns)) 122 in
      let j : length m ≡ suc (total ns) = length-replicate (suc (total ns)) 122 in
      let i : length (q ++ m) ≡ length q + length m = length-append q m in
      (total ns, ap not (longer-new (q ++ m) ns (omega (arith, i, j))))

  letters-behind : (back : Bool) (k : ℕ) → quotable_in back (replicate (suc k) 122) ≡ true
  unfolding quotable_in
  letters-behind true k = letters-quotable k
  letters-behind false k = letters-quotable k

  pub leaves : (p : Spot A) → Live p → Leaves p
  unfolding word_on
  leaves (between o s) x = record { bytes = []; state = s; sound = x; stick = goes_on; lands = opened o s }
  leaves (in_word y [] a) x = absurd x
  leaves (in_word y (c ∷ r) a) x =
      record { bytes = c ∷ r; state = a; sound = x; stick = goes_on; lands = subst (λ (p : Spot A). Lands offers goes_on p a) (sym (word-rest offers y (c ∷ r) a)) (opened (open_ended y) a) }
  leaves (digits s n) x =
      let k = full-number (offers s).numbers n x.1 in
      let e : run offers (digits s n) k.3.0 ≡ digits s k.0 =
      sym (ap (λ (p : Spot A). run offers p k.3.0) (number_read offers s n x.1)) ∙
      (sym (run-append offers (between false s) (decimal n) k.3.0) ∙ (ap (run offers (between false s)) (sym k.3.1) ∙ number_read offers s k.0 k.1)) in
      record {
        bytes = k.3.0;
        state = numbered (offers s).numbers k.0 s;
        sound = kept (by_number k.0 k.1 k.2) x.0;
        stick = digit;
        lands = subst (λ (p : Spot A). Lands offers digit p (numbered (offers s).numbers k.0 s)) (sym e) (counted s k.0 k.2 (λ b h. h));
      }
  leaves (in_name s q back) x =
      let k = full-name (offers s).names q x.1 in
      let m : List ℕ = replicate (suc k.0) 122 in
      let h = letters-behind back k.0 in
      record {
        bytes = m ++ (34 ∷ []);
        state = named (offers s).names (q ++ m) s;
        sound = kept (by_name (q ++ m) x.1 (x.2 m h) k.1) x.0;
        stick = none;
        lands = subst (λ (p : Spot A). Lands offers none p (named (offers s).names (q ++ m) s)) (sym (name-rest offers s q m back h k.1)) (free (named (offers s).names (q ++ m) s));
      }
  leaves dead x = absurd x
