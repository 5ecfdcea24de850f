-- A text that is taken by bytes is a text of tokens that the reader takes. By induction on the bytes that are still to come.
use Prim.Native.Nat.{ℕ, ◌+◌, ◌-◌, ◌*◌, ◌<◌}
use native.Mathlib.Omega.{arith}
use mathlib.Core.Path.{◌≡◌, refl, sym, ap, ap₂, ◌∙◌, subst}
use mathlib.Core.Logic.{◌⊎◌, inl, inr}
use mathlib.Core.Bool.{Bool, true, false, not, ◌&&◌, cond, false≢true}
use mathlib.Core.List.{List, [], ◌∷◌, ◌++◌, map, append_assoc, append-nil, Memᴰ}
use lib.Dec.{eqb, ltb}
use Rattle.lists.specs.Lists.{all, first_or}
use Rattle.lists.proofs.Bools.{test, and_l, and_r, both, eqb≡, lt-true}
use Rattle.hanoi.specs.Texts.{white, digit, goes_on, spelling, Token, word, number, quoted, decimal, bytes_of, quotable_in, quotable, sticks, Spaced, is_empty, apart, none, written}
use Rattle.hanoi.specs.Words.{Word}
use Rattle.hanoi.specs.Offers.{Choice, Offer, takes, ends, takes_name, is_new, numbered, named, Leads, by_word, by_number, by_name, Goes, stop, go, Spot, between, in_word, digits, in_name, dead, tail_of, word_on, begin_word, begin, byte_at, step_byte, run}
use Rattle.hanoi.proofs.Digits.{word_first, byte-digit, small, decimal-on}
use Rattle.hanoi.proofs.Forth.{first_of, takes-small, dead-stays}

quotable-in : (m : List ℕ) → quotable_in false m ≡ true → quotable m ≡ true
unfolding quotable
quotable-in m h = h

one-digit : (n : ℕ) → n < 10 → decimal n ≡ (48 + n) ∷ []
unfolding decimal
one-digit n h = small 9 n h

module _ {A : Type 0} where
  abbrev pub is_between : Spot A → Bool
  is_between (between b s) = true
  is_between (in_word x r a) = false
  is_between (digits s n) = false
  is_between (in_name s q b) = false
  is_between dead = false

  abbrev pub state_or : A → Spot A → A
  state_or a (between b s) = s
  state_or a (in_word x r s) = a
  state_or a (digits s n) = a
  state_or a (in_name s q b) = a
  state_or a dead = a

  -- the word that a byte begins
  pub picked : (cs : List (Choice A)) (b : ℕ) → (begin_word b cs ≡ dead) ⊎ ((c : Choice A) × Memᴰ c cs × (b ≡ first_of c) × (begin_word b cs ≡ word_on c.word (tail_of (spelling c.word)) c.next))
  unfolding begin_word
  picked [] b = inl refl
  picked (c ∷ cs) b = step (test (eqb b (first_of c))) (picked cs b)
    where
      step : (eqb b (first_of c) ≡ true) ⊎ (eqb b (first_of c) ≡ false)
          → (begin_word b cs ≡ dead) ⊎ ((d : Choice A) × Memᴰ d cs × (b ≡ first_of d) × (begin_word b cs ≡ word_on d.word (tail_of (spelling d.word)) d.next))
          → (begin_word b (c ∷ cs) ≡ dead) ⊎ ((d : Choice A) × Memᴰ d (c ∷ cs) × (b ≡ first_of d) × (begin_word b (c ∷ cs) ≡ word_on d.word (tail_of (spelling d.word)) d.next))
      step (inl t) ih = inr (c, Memᴰ.head refl, eqb≡ b (first_of c) t, rw t refl)
      step (inr f) (inl e) = inl (rw f e)
      step (inr f) (inr e) = inr (e.0, Memᴰ.tail e.1, e.2, rw f e.3)

module _ {A : Type 0} (offers : A → Offer A) (e : Bool) (v : A) where
  -- a text of tokens that leads from s to v
  pub record Tail (stick : ℕ → Bool) (s : A) (bs : List ℕ) : Type 0 where
    pub spaced : List Spaced
    pub last : List ℕ
    pub last_white : all white last ≡ true
    pub apart_is : apart stick spaced ≡ true
    pub text_is : bs ≡ written spaced ++ last
    pub goes : Goes offers s (map (λ (x : Spaced). x.token) spaced) v

  pub record NumberRest (s : A) (n : ℕ) (bs : List ℕ) : Type 0 where
    pub full : ℕ
    pub more : List ℕ
    pub rest : List ℕ
    pub takes_it : takes (offers s).numbers full ≡ true
    pub ends_it : ends (offers s).numbers full ≡ true
    pub digits_are : decimal full ≡ decimal n ++ more
    pub text_is : bs ≡ more ++ rest
    pub tail : Tail digit (numbered (offers s).numbers full s) rest

  pub record NameRest (s : A) (q : List ℕ) (back : Bool) (bs : List ℕ) : Type 0 where
    pub more : List ℕ
    pub rest : List ℕ
    pub quotable_is : quotable_in back more ≡ true
    pub new_is : is_new (offers s).names (q ++ more) ≡ true
    pub text_is : bs ≡ more ++ (34 ∷ rest)
    pub tail : Tail none (named (offers s).names (q ++ more) s) rest

  abbrev pub WordRest : Word → List ℕ → A → List ℕ → Type 0
  WordRest x r a bs = (rest : List ℕ) × (bs ≡ r ++ rest) × Tail (sticks (word x)) a rest

  abbrev pub Rest : Spot A → List ℕ → Type 0
  Rest (between b s) bs = Tail (λ x. b && goes_on x) s bs
  Rest (in_word x r a) bs = WordRest x r a bs
  Rest (digits s n) bs = takes (offers s).numbers n ≡ true → NumberRest s n bs
  Rest (in_name s q back) bs = takes_name (offers s).names ≡ true → NameRest s q back bs
  Rest dead bs = ⊥

  nothing : (stick : ℕ → Bool) (s : A) → s ≡ v → Tail stick s []
  unfolding apart written
  nothing stick s h = record { spaced = []; last = []; last_white = refl; apart_is = refl; text_is = refl; goes = subst (λ (u : A). Goes offers s [] u) h stop }

  white-cons : (stick : ℕ → Bool) (s : A) (b : ℕ) (bs : List ℕ) → white b ≡ true → Tail none s bs → Tail stick s (b ∷ bs)
  unfolding apart written
  white-cons stick s b bs w t = step t.spaced t.apart_is t.text_is t.goes
    where
      step : (ss : List Spaced) → apart none ss ≡ true → bs ≡ written ss ++ t.last → Goes offers s (map (λ (x : Spaced). x.token) ss) v → Tail stick s (b ∷ bs)
      step [] a h g = record { spaced = []; last = b ∷ t.last; last_white = both (white b) (all white t.last) w t.last_white; apart_is = refl; text_is = ap (λ (l : List ℕ). b ∷ l) h; goes = g }
      step (x ∷ ss) a h g =
          let a₁ : Bool = all white x.gap in
          let a₂ : Bool = not (is_empty x.gap && false) in
          let a₃ : Bool = apart (sticks x.token) ss in
          record {
            spaced = record { gap = b ∷ x.gap; token = x.token } ∷ ss;
            last = t.last;
            last_white = t.last_white;
            apart_is = both (white b && a₁ && true) a₃ (both (white b && a₁) true (both (white b) a₁ w (and_l a₁ a₂ (and_l (a₁ && a₂) a₃ a))) refl) (and_r (a₁ && a₂) a₃ a);
            text_is = ap (λ (l : List ℕ). b ∷ l) h;
            goes = g;
          }

  token-cons : (stick : ℕ → Bool) (s u : A) (t : Token) (bs rest : List ℕ) → Leads offers s t u → stick (first_or 0 (bytes_of t)) ≡ false → bs ≡ bytes_of t ++ rest → Tail (sticks t) u rest → Tail stick s bs
  unfolding apart written
  token-cons stick s u t bs rest l n h r = record {
    spaced = record { gap = []; token = t } ∷ r.spaced;
    last = r.last;
    last_white = r.last_white;
    apart_is = both (true && not (stick (first_or 0 (bytes_of t)))) (apart (sticks t) r.spaced) (rw n refl) r.apart_is;
    text_is = h ∙ (ap (λ (x : List ℕ). bytes_of t ++ x) r.text_is ∙ sym (append_assoc (bytes_of t) (written r.spaced) r.last));
    goes = go l r.goes;
  }

  word-rest-of : (x : Word) (r : List ℕ) (a : A) (bs : List ℕ) → Rest (word_on x r a) bs → WordRest x r a bs
  unfolding word_on
  word-rest-of x [] a bs h = (bs, refl, h)
  word-rest-of x (c ∷ r) a bs h = h

  -- one byte more, knowing how it goes on behind it
  module _ (bs : List ℕ) (ih : (p : Spot A) → run offers p bs ≡ between e v → Rest p bs) where
    no_dead : {B : Type 0} → run offers dead bs ≡ between e v → B
    no_dead h = absurd (false≢true (ap is_between (sym (dead-stays offers bs) ∙ h)))

    begun : (stick : ℕ → Bool) (s : A) (b : ℕ) → stick b ≡ false → run offers (begin offers s b) bs ≡ between e v → Tail stick s (b ∷ bs)
    unfolding begin
    begun stick s b n h = step₁ (test (digit b)) h
      where
        step₅ : (c : Choice A) → Memᴰ c (offers s).choices → b ≡ first_of c → WordRest c.word (tail_of (spelling c.word)) c.next bs → Tail stick s (b ∷ bs)
        step₅ c m q r =
            token-cons stick s c.next (word c.word) (b ∷ bs) r.0 (by_word c m) (subst (λ (x : ℕ). stick x ≡ false) q n)
            (ap₂ ◌∷◌ q r.1 ∙ sym (ap (λ (l : List ℕ). l ++ r.0) (word_first c.word).3)) r.2

        step₄ : (begin_word b (offers s).choices ≡ dead) ⊎ ((c : Choice A) × Memᴰ c (offers s).choices × (b ≡ first_of c) × (begin_word b (offers s).choices ≡ word_on c.word (tail_of (spelling c.word)) c.next))
            → run offers (begin_word b (offers s).choices) bs ≡ between e v → Tail stick s (b ∷ bs)
        step₄ (inl d) g = no_dead (subst (λ (p : Spot A). run offers p bs ≡ between e v) d g)
        step₄ (inr k) g =
            step₅ k.0 k.1 k.2
            (word-rest-of k.0.word (tail_of (spelling k.0.word)) k.0.next bs
            (ih (word_on k.0.word (tail_of (spelling k.0.word)) k.0.next) (subst (λ (p : Spot A). run offers p bs ≡ between e v) k.3 g)))

        step₃ : (takes_name (offers s).names ≡ true) ⊎ (takes_name (offers s).names ≡ false) → b ≡ 34 → run offers (cond (takes_name (offers s).names) (in_name s [] false) dead) bs ≡ between e v → Tail stick s (b ∷ bs)
        step₃ (inr f) q g = no_dead (subst (λ (x : Bool). run offers (cond x (in_name s [] false) dead) bs ≡ between e v) f g)
        step₃ (inl t) q g =
            let r = ih (in_name s [] false) (subst (λ (x : Bool). run offers (cond x (in_name s [] false) dead) bs ≡ between e v) t g) t in
            token-cons stick s (named (offers s).names r.more s) (quoted r.more) (b ∷ bs) r.rest (by_name r.more t (quotable-in r.more r.quotable_is) r.new_is)
            (subst (λ (x : ℕ). stick x ≡ false) q n) (ap₂ ◌∷◌ q (r.text_is ∙ sym (append_assoc r.more (34 ∷ []) r.rest))) r.tail

        step₂ : (eqb b 34 ≡ true) ⊎ (eqb b 34 ≡ false) → run offers (cond (eqb b 34) (cond (takes_name (offers s).names) (in_name s [] false) dead) (begin_word b (offers s).choices)) bs ≡ between e v → Tail stick s (b ∷ bs)
        step₂ (inl t) g = step₃ (test (takes_name (offers s).names)) (eqb≡ b 34 t) (rw t at g)
        step₂ (inr f) g = step₄ (picked (offers s).choices b) (rw f at g)

        step₀ : digit b ≡ true → (takes (offers s).numbers (b - 48) ≡ true) ⊎ (takes (offers s).numbers (b - 48) ≡ false)
            → run offers (cond (takes (offers s).numbers (b - 48)) (digits s (b - 48)) dead) bs ≡ between e v → Tail stick s (b ∷ bs)
        step₀ d (inr f) g = no_dead (rw f at g)
        step₀ d (inl t) g =
            let r = ih (digits s (b - 48)) (rw t at g) t in
            let x = byte-digit b d in
            let y : 48 + (b - 48) ≡ b = omega (arith, x.0) in
            let z : decimal (b - 48) ≡ b ∷ [] = one-digit (b - 48) (omega (arith, x.1)) ∙ ap (λ (c : ℕ). c ∷ []) y in
            let i : decimal r.full ≡ b ∷ r.more = r.digits_are ∙ ap (λ (l : List ℕ). l ++ r.more) z in
            token-cons stick s (numbered (offers s).numbers r.full s) (number r.full) (b ∷ bs) r.rest (by_number r.full r.takes_it r.ends_it)
            (subst (λ (l : List ℕ). stick (first_or 0 l) ≡ false) (sym i) n)
            (ap (λ (l : List ℕ). b ∷ l) r.text_is ∙ sym (ap (λ (l : List ℕ). l ++ r.rest) i)) r.tail

        step₁ : (digit b ≡ true) ⊎ (digit b ≡ false)
            → run offers (cond (digit b) (cond (takes (offers s).numbers (b - 48)) (digits s (b - 48)) dead) (cond (eqb b 34) (cond (takes_name (offers s).names) (in_name s [] false) dead) (begin_word b (offers s).choices))) bs ≡ between e v
            → Tail stick s (b ∷ bs)
        step₁ (inl t) g = step₀ t (test (takes (offers s).numbers (b - 48))) (rw t at g)
        step₁ (inr f) g = step₂ (test (eqb b 34)) (rw f at g)

    at_byte : (stick : ℕ → Bool) (bar : Bool) (s : A) (b : ℕ) → (bar && goes_on b ≡ false → stick b ≡ false) → run offers (byte_at offers bar s b) bs ≡ between e v → Tail stick s (b ∷ bs)
    unfolding byte_at
    at_byte stick bar s b n h = step₁ (test (white b)) h
      where
        step₂ : (bar && goes_on b ≡ true) ⊎ (bar && goes_on b ≡ false) → run offers (cond (bar && goes_on b) dead (begin offers s b)) bs ≡ between e v → Tail stick s (b ∷ bs)
        step₂ (inl t) g = no_dead (rw t at g)
        step₂ (inr f) g = begun stick s b (n f) (rw f at g)

        step₁ : (white b ≡ true) ⊎ (white b ≡ false) → run offers (cond (white b) (between false s) (cond (bar && goes_on b) dead (begin offers s b))) bs ≡ between e v → Tail stick s (b ∷ bs)
        step₁ (inl t) g = white-cons stick s b bs t (ih (between false s) (rw t at g))
        step₁ (inr f) g = step₂ (test (bar && goes_on b)) (rw f at g)

    in-word : (x : Word) (c : ℕ) (r : List ℕ) (a : A) (b : ℕ) → run offers (cond (eqb b c) (word_on x r a) dead) bs ≡ between e v → WordRest x (c ∷ r) a (b ∷ bs)
    in-word x c r a b h = step (test (eqb b c)) h
      where
        step : (eqb b c ≡ true) ⊎ (eqb b c ≡ false) → run offers (cond (eqb b c) (word_on x r a) dead) bs ≡ between e v → WordRest x (c ∷ r) a (b ∷ bs)
        step (inl t) g =
            let k = word-rest-of x r a bs (ih (word_on x r a) (rw t at g)) in
            (k.0, ap₂ ◌∷◌ (eqb≡ b c t) k.1, k.2)
        step (inr f) g = no_dead (rw f at g)

    in-number : (s : A) (n b : ℕ) → takes (offers s).numbers n ≡ true → run offers (step_byte offers (digits s n) b) bs ≡ between e v → NumberRest s n (b ∷ bs)
    unfolding step_byte
    in-number s n b t h = step₁ (test (digit b)) h
      where
        m : ℕ
        m = n * 10 + (b - 48)

        step₃ : digit b ≡ true → (ltb 0 n && takes (offers s).numbers (n * 10 + (b - 48)) ≡ true) ⊎ (ltb 0 n && takes (offers s).numbers (n * 10 + (b - 48)) ≡ false)
            → run offers (cond (ltb 0 n && takes (offers s).numbers (n * 10 + (b - 48))) (digits s (n * 10 + (b - 48))) dead) bs ≡ between e v → NumberRest s n (b ∷ bs)
        step₃ d (inr f) g = no_dead (rw f at g)
        step₃ d (inl y) g =
            let u = and_r (ltb 0 n) (takes (offers s).numbers (n * 10 + (b - 48))) y in
            let r = ih (digits s (n * 10 + (b - 48))) (rw y at g) u in
            let x = byte-digit b d in
            let z : 48 + (b - 48) ≡ b = omega (arith, x.0) in
            let i = decimal-on n (b - 48) (lt-true 0 n (and_l (ltb 0 n) (takes (offers s).numbers (n * 10 + (b - 48))) y)) (omega (arith, x.1)) (takes-small (offers s).numbers (n * 10 + (b - 48)) u) in
            let j : decimal (n * 10 + (b - 48)) ≡ decimal n ++ (b ∷ []) = i ∙ ap (λ (c : ℕ). decimal n ++ (c ∷ [])) z in
            record {
              full = r.full;
              more = b ∷ r.more;
              rest = r.rest;
              takes_it = r.takes_it;
              ends_it = r.ends_it;
              digits_are = r.digits_are ∙ (ap (λ (l : List ℕ). l ++ r.more) j ∙ append_assoc (decimal n) (b ∷ []) r.more);
              text_is = ap (λ (l : List ℕ). b ∷ l) r.text_is;
              tail = r.tail;
            }

        step₂ : digit b ≡ false → (ends (offers s).numbers n ≡ true) ⊎ (ends (offers s).numbers n ≡ false)
            → run offers (cond (ends (offers s).numbers n) (byte_at offers false (numbered (offers s).numbers n s) b) dead) bs ≡ between e v → NumberRest s n (b ∷ bs)
        step₂ d (inr f) g = no_dead (rw f at g)
        step₂ d (inl y) g = record {
          full = n;
          more = [];
          rest = b ∷ bs;
          takes_it = t;
          ends_it = y;
          digits_are = sym (append-nil (decimal n));
          text_is = refl;
          tail = at_byte digit false (numbered (offers s).numbers n s) b (λ _. d) (rw y at g);
        }

        step₁ : (digit b ≡ true) ⊎ (digit b ≡ false)
            → run offers (cond (digit b) (cond (ltb 0 n && takes (offers s).numbers (n * 10 + (b - 48))) (digits s (n * 10 + (b - 48))) dead) (cond (ends (offers s).numbers n) (byte_at offers false (numbered (offers s).numbers n s) b) dead)) bs ≡ between e v
            → NumberRest s n (b ∷ bs)
        step₁ (inl y) g = step₃ y (test (ltb 0 n && takes (offers s).numbers (n * 10 + (b - 48)))) (rw y at g)
        step₁ (inr f) g = step₂ f (test (ends (offers s).numbers n)) (rw f at g)

    -- a byte of a name
    name-cons : (s : A) (q : List ℕ) (back next : Bool) (b : ℕ) → ((m : List ℕ) → quotable_in next m ≡ true → quotable_in back (b ∷ m) ≡ true) → NameRest s (q ++ (b ∷ [])) next bs → NameRest s q back (b ∷ bs)
    name-cons s q back next b k r =
        let a = append_assoc q (b ∷ []) r.more in
        record {
          more = b ∷ r.more;
          rest = r.rest;
          quotable_is = k r.more r.quotable_is;
          new_is = subst (λ (l : List ℕ). is_new (offers s).names l ≡ true) a r.new_is;
          text_is = ap (λ (l : List ℕ). b ∷ l) r.text_is;
          tail = subst (λ (l : List ℕ). Tail none (named (offers s).names l s) r.rest) a r.tail;
        }

    in-name : (s : A) (q : List ℕ) (back : Bool) (b : ℕ) → takes_name (offers s).names ≡ true → run offers (step_byte offers (in_name s q back) b) bs ≡ between e v → NameRest s q back (b ∷ bs)
    unfolding step_byte quotable_in
    in-name s q true b t h = step (test (ltb b 256 && not (eqb b 10))) h
      where
        step : (ltb b 256 && not (eqb b 10) ≡ true) ⊎ (ltb b 256 && not (eqb b 10) ≡ false)
            → run offers (cond (ltb b 256 && not (eqb b 10)) (in_name s (q ++ (b ∷ [])) false) dead) bs ≡ between e v → NameRest s q true (b ∷ bs)
        step (inl y) g = name-cons s q true false b (λ m z. both (ltb b 256 && not (eqb b 10)) (quotable_in false m) y z) (ih (in_name s (q ++ (b ∷ [])) false) (rw y at g) t)
        step (inr f) g = no_dead (rw f at g)
    in-name s q false b t h = step₁ (test (eqb b 34)) h
      where
        step₃ : eqb b 34 ≡ false → (ltb b 256 ≡ true) ⊎ (ltb b 256 ≡ false) → run offers (cond (ltb b 256) (in_name s (q ++ (b ∷ [])) (eqb b 92)) dead) bs ≡ between e v → NameRest s q false (b ∷ bs)
        step₃ n (inl y) g =
            name-cons s q false (eqb b 92) b (λ m z. both (ltb b 256 && not (eqb b 34)) (quotable_in (eqb b 92) m) (both (ltb b 256) (not (eqb b 34)) y (rw n refl)) z)
            (ih (in_name s (q ++ (b ∷ [])) (eqb b 92)) (rw y at g) t)
        step₃ n (inr f) g = no_dead (rw f at g)

        step₂ : b ≡ 34 → (is_new (offers s).names q ≡ true) ⊎ (is_new (offers s).names q ≡ false) → run offers (cond (is_new (offers s).names q) (between false (named (offers s).names q s)) dead) bs ≡ between e v → NameRest s q false (b ∷ bs)
        step₂ n (inl y) g =
            let a = sym (append-nil q) in
            record {
              more = [];
              rest = bs;
              quotable_is = refl;
              new_is = subst (λ (l : List ℕ). is_new (offers s).names l ≡ true) a y;
              text_is = ap (λ (x : ℕ). x ∷ bs) n;
              tail = subst (λ (l : List ℕ). Tail none (named (offers s).names l s) bs) a (ih (between false (named (offers s).names q s)) (rw y at g));
            }
        step₂ n (inr f) g = no_dead (rw f at g)

        step₁ : (eqb b 34 ≡ true) ⊎ (eqb b 34 ≡ false)
            → run offers (cond (eqb b 34) (cond (is_new (offers s).names q) (between false (named (offers s).names q s)) dead) (cond (ltb b 256) (in_name s (q ++ (b ∷ [])) (eqb b 92)) dead)) bs ≡ between e v → NameRest s q false (b ∷ bs)
        step₁ (inl y) g = step₂ (eqb≡ b 34 y) (test (is_new (offers s).names q)) (rw y at g)
        step₁ (inr f) g = step₃ f (test (ltb b 256)) (rw f at g)

    one_byte : (p : Spot A) (b : ℕ) → run offers (step_byte offers p b) bs ≡ between e v → Rest p (b ∷ bs)
    unfolding step_byte
    one_byte (between bar s) b h = at_byte (λ x. bar && goes_on x) bar s b (λ n. n) h
    one_byte (in_word x [] a) b h = no_dead h
    one_byte (in_word x (c ∷ r) a) b h = in-word x c r a b h
    one_byte (digits s n) b h = λ t. in-number s n b t h
    one_byte (in_name s q back) b h = λ t. in-name s q back b t h
    one_byte dead b h = no_dead h

  pub back : (bs : List ℕ) (p : Spot A) → run offers p bs ≡ between e v → Rest p bs
  back [] (between bar s) h = nothing (λ x. bar && goes_on x) s (ap (state_or s) h)
  back [] (in_word x r a) h = absurd (false≢true (ap is_between h))
  back [] (digits s n) h = absurd (false≢true (ap is_between h))
  back [] (in_name s q b) h = absurd (false≢true (ap is_between h))
  back [] dead h = absurd (false≢true (ap is_between h))
  back (b ∷ bs) p h = one_byte bs (λ q g. back bs q g) p b h
