-- Tokens that a reader takes are taken by bytes: each token by itself, and then a text of them.
use Prim.Native.Nat.{ℕ, zero, suc, ◌+◌, ◌-◌, ◌*◌, ◌/◌, ◌%◌, ◌^◌, ◌≤◌, ◌<◌}
use native.Mathlib.Omega.{arith}
use mathlib.Core.Path.{◌≡◌, refl, sym, ap, ◌∙◌, subst}
use mathlib.Core.Logic.{◌⊎◌, inl, inr}
use mathlib.Core.Bool.{Bool, true, false, not, ◌&&◌, ◌||◌, false≢true}
use mathlib.Core.List.{List, [], ◌∷◌, ◌++◌, map, append_assoc, append-nil, Memᴰ}
use lib.Dec.{eqb, ltb}
use Rattle.lists.specs.Lists.{all, any, first_or}
use Rattle.lists.proofs.Bools.{test, and_l, and_r, both, not-true, or_right, ≡eqb, lt-true}
use Rattle.lists.proofs.Lists.{some-any}
use Rattle.hanoi.specs.Texts.{white, digit, goes_on, spelling, open_ended, Token, word, number, quoted, decimal_in, decimal, bytes_of, quotable_in, quotable, sticks, Spaced, is_empty, apart, written}
use Rattle.hanoi.specs.Words.{Word}
use Rattle.hanoi.specs.Offers.{Choice, Numbers, no_number, below, exactly, Offer, starts_with, takes, ends, takes_name, is_new, numbered, named, Leads, by_word, by_number, by_name, Goes, stop, go, Spot, between, digits, in_name, dead, tail_of, word_on, begin_word, begin, byte_at, step_byte, run}
use Rattle.hanoi.proofs.Digits.{lt_yes, word_first, white-digit, digit-white, digit-byte, small, large, under-ten, decimal-off, bytes-some, starts-part}

module _ {A : Type 0} where
  abbrev pub first_of : Choice A → ℕ
  first_of c = first_or 0 (spelling c.word)

  -- no two words of a choice begin with the same byte
  abbrev pub distinct : List (Choice A) → Bool
  distinct [] = true
  distinct (c ∷ cs) = not (any (λ d. eqb (first_of d) (first_of c)) cs) && distinct cs

  pub takes-small : (ns : Numbers A) (n : ℕ) → takes ns n ≡ true → n < 2147483648
  unfolding takes
  takes-small no_number n h = absurd (false≢true h)
  takes-small (below b k f) n h = lt-true n 2147483648 (and_l (ltb n 2147483648) (ltb n k) (and_l (ltb n 2147483648 && ltb n k) (not b || ltb 0 n) h))
  takes-small (exactly k a) n h = lt-true n 2147483648 (and_l (ltb n 2147483648) (ltb k 2147483648) (and_l (ltb n 2147483648 && ltb k 2147483648) (starts_with (decimal n) (decimal k)) h))

  pub takes_part : (ns : Numbers A) (n : ℕ) → 10 ≤ n → takes ns n ≡ true → takes ns (n / 10) ≡ true
  unfolding takes
  takes_part no_number n g h = h
  takes_part (below b k f) n g h =
      let s = takes-small (below b k f) n h in
      let l = lt-true n k (and_r (ltb n 2147483648) (ltb n k) (and_l (ltb n 2147483648 && ltb n k) (not b || ltb 0 n) h)) in
      both (ltb (n / 10) 2147483648 && ltb (n / 10) k) (not b || ltb 0 (n / 10))
      (both (ltb (n / 10) 2147483648) (ltb (n / 10) k) (lt_yes (n / 10) 2147483648 (omega arith)) (lt_yes (n / 10) k (omega arith)))
      (or_right (not b) (ltb 0 (n / 10)) (lt_yes 0 (n / 10) (omega arith)))
  takes_part (exactly k a) n g h =
      let s = takes-small (exactly k a) n h in
      both (ltb (n / 10) 2147483648 && ltb k 2147483648) (starts_with (decimal (n / 10)) (decimal k))
      (both (ltb (n / 10) 2147483648) (ltb k 2147483648) (lt_yes (n / 10) 2147483648 (omega arith)) (and_r (ltb n 2147483648) (ltb k 2147483648) (and_l (ltb n 2147483648 && ltb k 2147483648) (starts_with (decimal n) (decimal k)) h)))
      (starts-part (decimal (n / 10)) ((48 + n % 10) ∷ []) (decimal k)
      (subst (λ (l : List ℕ). starts_with l (decimal k) ≡ true) (decimal-off n g s) (and_r (ltb n 2147483648 && ltb k 2147483648) (starts_with (decimal n) (decimal k)) h)))

  -- the word of a choice is found
  pub found : (cs : List (Choice A)) (c : Choice A) → Memᴰ c cs → distinct cs ≡ true → begin_word (first_of c) cs ≡ word_on c.word (tail_of (spelling c.word)) c.next
  unfolding begin_word
  found [] c x'' h = elim x'' [ ]
  found (d ∷ cs) c (Memᴰ.head e) h =
      subst (λ (x : Choice A). begin_word (first_of x) (d ∷ cs) ≡ word_on x.word (tail_of (spelling x.word)) x.next) (sym e) (rw (≡eqb (first_of d) (first_of d) refl) refl)
  found (d ∷ cs) c (Memᴰ.tail m) h =
      let n = not-true (any (λ x. eqb (first_of x) (first_of d)) cs) (and_l (not (any (λ x. eqb (first_of x) (first_of d)) cs)) (distinct cs) h) in
      step (test (eqb (first_of c) (first_of d))) n (found cs c m (and_r (not (any (λ x. eqb (first_of x) (first_of d)) cs)) (distinct cs) h))
    where
      step : (eqb (first_of c) (first_of d) ≡ true) ⊎ (eqb (first_of c) (first_of d) ≡ false) → any (λ x. eqb (first_of x) (first_of d)) cs ≡ false
          → begin_word (first_of c) cs ≡ word_on c.word (tail_of (spelling c.word)) c.next → begin_word (first_of c) (d ∷ cs) ≡ word_on c.word (tail_of (spelling c.word)) c.next
      step (inl t) n ih = absurd (false≢true (sym n ∙ some-any (λ x. eqb (first_of x) (first_of d)) cs c m t))
      step (inr f) n ih = rw f ih

module _ {A : Type 0} (offers : A → Offer A) where
  pub run-append : (p : Spot A) (xs ys : List ℕ) → run offers p (xs ++ ys) ≡ run offers (run offers p xs) ys
  run-append p [] ys = refl
  run-append p (x ∷ xs) ys = run-append (step_byte offers p x) xs ys

  pub dead-stays : (bs : List ℕ) → run offers dead bs ≡ dead
  unfolding step_byte
  dead-stays [] = refl
  dead-stays (b ∷ bs) = dead-stays bs

  -- ---- a byte between tokens
  pub at-white : (bar : Bool) (s : A) (b : ℕ) → white b ≡ true → byte_at offers bar s b ≡ between false s
  unfolding byte_at
  at-white bar s b h = rw h refl

  pub at_other : (bar : Bool) (s : A) (b : ℕ) → white b ≡ false → bar && goes_on b ≡ false → byte_at offers bar s b ≡ begin offers s b
  unfolding byte_at
  at_other bar s b h g = rw (h, g) refl

  -- ---- a word
  pub word-rest : (x : Word) (r : List ℕ) (a : A) → run offers (word_on x r a) r ≡ between (open_ended x) a
  unfolding word_on step_byte
  word-rest x [] a = refl
  word-rest x (c ∷ r) a = rw (≡eqb c c refl) (word-rest x r a)

  pub word_read : (s : A) (c : Choice A) → Memᴰ c (offers s).choices → distinct (offers s).choices ≡ true → run offers (between false s) (spelling c.word) ≡ between (open_ended c.word) c.next
  unfolding step_byte begin
  word_read s c m d =
      let f = word_first c.word in
      ap (run offers (between false s)) f.3 ∙
      (ap (λ (p : Spot A). run offers p (tail_of (spelling c.word)))
      (at_other false s (first_of c) f.0 refl ∙ (rw (f.1, f.2) (found (offers s).choices c m d)))
      ∙ word-rest c.word (tail_of (spelling c.word)) c.next)

  -- ---- a number
  pub digit-on : (s : A) (n c : ℕ) → c < 10 → 0 < n → takes (offers s).numbers (n * 10 + c) ≡ true → step_byte offers (digits s n) (48 + c) ≡ digits s (n * 10 + c)
  unfolding step_byte
  digit-on s n c h p t =
      let e : 48 + c - 48 ≡ c = omega arith in
      rw (digit-byte c h, e, lt_yes 0 n p, t) refl

  pub digit-first : (s : A) (c : ℕ) → c < 10 → takes (offers s).numbers c ≡ true → step_byte offers (between false s) (48 + c) ≡ digits s c
  unfolding step_byte begin
  digit-first s c h t =
      let e : 48 + c - 48 ≡ c = omega arith in
      at_other false s (48 + c) (digit-white (48 + c) (digit-byte c h)) refl ∙ (rw (digit-byte c h, e, t) refl)

  number_in : (s : A) (k n : ℕ) → n < 10 ^ suc k → takes (offers s).numbers n ≡ true → run offers (between false s) (decimal_in (suc k) n) ≡ digits s n
  number_in s zero n h t = ap (run offers (between false s)) (small 0 n (omega arith)) ∙ digit-first s n (omega arith) t
  number_in s (suc k) n h t = step (under-ten n) (λ g. number_in s k (n / 10) (omega arith) (takes_part (offers s).numbers n g t))
    where
      step : (n < 10) ⊎ (10 ≤ n) → (10 ≤ n → run offers (between false s) (decimal_in (suc k) (n / 10)) ≡ digits s (n / 10)) → run offers (between false s) (decimal_in (suc (suc k)) n) ≡ digits s n
      step (inl l) ih = ap (run offers (between false s)) (small (suc k) n l) ∙ digit-first s n l t
      step (inr g) ih =
          let e : n / 10 * 10 + n % 10 ≡ n = omega arith in
          ap (run offers (between false s)) (large (suc k) n g) ∙
          (run-append (between false s) (decimal_in (suc k) (n / 10)) ((48 + n % 10) ∷ []) ∙
          (ap (λ (p : Spot A). step_byte offers p (48 + n % 10)) (ih g) ∙
          (digit-on s (n / 10) (n % 10) (omega arith) (omega arith) (subst (λ (x : ℕ). takes (offers s).numbers x ≡ true) (sym e) t) ∙ ap (digits s) e)))

  pub number_read : (s : A) (n : ℕ) → takes (offers s).numbers n ≡ true → run offers (between false s) (decimal n) ≡ digits s n
  unfolding decimal
  number_read s n t = number_in s 9 n (omega (arith, takes-small (offers s).numbers n t)) t

  -- ---- a name
  pub name-on : (s : A) (q : List ℕ) (b : ℕ) → eqb b 34 ≡ false → ltb b 256 ≡ true → step_byte offers (in_name s q false) b ≡ in_name s (q ++ (b ∷ [])) (eqb b 92)
  unfolding step_byte
  name-on s q b h g = rw (h, g) refl

  pub name-behind : (s : A) (q : List ℕ) (b : ℕ) → ltb b 256 && not (eqb b 10) ≡ true → step_byte offers (in_name s q true) b ≡ in_name s (q ++ (b ∷ [])) false
  unfolding step_byte
  name-behind s q b h = rw h refl

  pub name-rest : (s : A) (q r : List ℕ) (back : Bool) → quotable_in back r ≡ true → is_new (offers s).names (q ++ r) ≡ true
      → run offers (in_name s q back) (r ++ (34 ∷ [])) ≡ between false (named (offers s).names (q ++ r) s)
  unfolding step_byte quotable_in
  name-rest s q [] true h n = absurd (false≢true h)
  name-rest s q [] false h n =
      let e : q ++ [] ≡ q = append-nil q in
      rw (rw e at n) (ap (λ (l : List ℕ). between false (named (offers s).names l s)) (sym e))
  name-rest s q (b ∷ r) true h n =
      let x : Bool = ltb b 256 in let y : Bool = not (eqb b 10) in
      let g : x && y ≡ true = and_l (x && y) (quotable_in false r) h in
      let a : (q ++ (b ∷ [])) ++ r ≡ q ++ (b ∷ r) = append_assoc q (b ∷ []) r in
      let ih = name-rest s (q ++ (b ∷ [])) r false (and_r (x && y) (quotable_in false r) h) (subst (λ (l : List ℕ). is_new (offers s).names l ≡ true) (sym a) n) in
      ap (λ (p : Spot A). run offers p (r ++ (34 ∷ []))) (name-behind s q b g) ∙ (ih ∙ ap (λ (l : List ℕ). between false (named (offers s).names l s)) a)
  name-rest s q (b ∷ r) false h n =
      let x : Bool = ltb b 256 in let y : Bool = not (eqb b 34) in
      let g : x && y ≡ true = and_l (x && y) (quotable_in (eqb b 92) r) h in
      let a : (q ++ (b ∷ [])) ++ r ≡ q ++ (b ∷ r) = append_assoc q (b ∷ []) r in
      let ih = name-rest s (q ++ (b ∷ [])) r (eqb b 92) (and_r (x && y) (quotable_in (eqb b 92) r) h) (subst (λ (l : List ℕ). is_new (offers s).names l ≡ true) (sym a) n) in
      ap (λ (p : Spot A). run offers p (r ++ (34 ∷ []))) (name-on s q b (not-true (eqb b 34) (and_r x y g)) (and_l x y g)) ∙ (ih ∙ ap (λ (l : List ℕ). between false (named (offers s).names l s)) a)

  quote-first : (s : A) → takes_name (offers s).names ≡ true → step_byte offers (between false s) 34 ≡ in_name s [] false
  unfolding step_byte begin byte_at white
  quote-first s t = rw t refl

  pub name-read : (s : A) (q : List ℕ) → takes_name (offers s).names ≡ true → quotable q ≡ true → is_new (offers s).names q ≡ true
      → run offers (between false s) (34 ∷ (q ++ (34 ∷ []))) ≡ between false (named (offers s).names q s)
  unfolding quotable
  name-read s q t h n = ap (λ (p : Spot A). run offers p (q ++ (34 ∷ []))) (quote-first s t) ∙ name-rest s [] q false h n

  -- ---- where the reader is behind a token, and what lets go of it
  pub data Lands (stick : ℕ → Bool) : Spot A → A → Type 0 where
    free : (s : A) → Lands stick (between false s) s
    barred : (s : A) → ((b : ℕ) → stick b ≡ false → goes_on b ≡ false) → Lands stick (between true s) s
    counted : (s : A) (n : ℕ) → ends (offers s).numbers n ≡ true → ((b : ℕ) → stick b ≡ false → digit b ≡ false) → Lands stick (digits s n) (numbered (offers s).numbers n s)

  pub let_go : {stick : ℕ → Bool} {p : Spot A} {s : A} → Lands stick p s → (b : ℕ) → stick b ≡ false → step_byte offers p b ≡ step_byte offers (between false s) b
  unfolding step_byte byte_at
  let_go (free s) b h = refl
  let_go (barred s f) b h = rw (f b h) refl
  let_go (counted s n e f) b h = rw (f b h, e) refl

  pub let-white : {stick : ℕ → Bool} {p : Spot A} {s : A} → Lands stick p s → (b : ℕ) → white b ≡ true → step_byte offers p b ≡ between false s
  unfolding step_byte
  let-white (free s) b h = at-white false s b h
  let-white (barred s f) b h = at-white true s b h
  let-white (counted s n e f) b h = rw (white-digit b h, e) (at-white false (numbered (offers s).numbers n s) b h)

  pub run-white : (s : A) (g : List ℕ) → all white g ≡ true → run offers (between false s) g ≡ between false s
  unfolding step_byte
  run-white s [] h = refl
  run-white s (b ∷ g) h = ap (λ (p : Spot A). run offers p g) (at-white false s b (and_l (white b) (all white g) h)) ∙ run-white s g (and_r (white b) (all white g) h)

  module _ (fine : (s : A) → distinct (offers s).choices ≡ true) where
    pub token-read : {s u : A} {t : Token} → Leads offers s t u → Lands (sticks t) (run offers (between false s) (bytes_of t)) u
    token-read {s} (by_word c m) = subst (λ (p : Spot A). Lands (sticks (word c.word)) p c.next) (sym (word_read s c m (fine s))) (step (open_ended c.word) refl)
      where
        step : (o : Bool) → open_ended c.word ≡ o → Lands (sticks (word c.word)) (between o c.next) c.next
        step true e = barred c.next (λ b h. subst (λ (o : Bool). o && goes_on b ≡ false) e h)
        step false e = free c.next
    token-read {s} (by_number n t e) = subst (λ (p : Spot A). Lands (sticks (number n)) p (numbered (offers s).numbers n s)) (sym (number_read s n t)) (counted s n e (λ b h. h))
    token-read {s} (by_name q t h n) = subst (λ (p : Spot A). Lands (sticks (quoted q)) p (named (offers s).names q s)) (sym (name-read s q t h n)) (free (named (offers s).names q s))

    -- a gap, then a token
    spaced-read : {stick : ℕ → Bool} {p : Spot A} {s : A} → Lands stick p s → (g : List ℕ) (t : Token) → all white g ≡ true → not (is_empty g && stick (first_or 0 (bytes_of t))) ≡ true
        → run offers p (g ++ bytes_of t) ≡ run offers (between false s) (bytes_of t)
    spaced-read {stick} {p} {s} l [] t w n =
        let b : ℕ = first_or 0 (bytes_of t) in
        let e = bytes-some t in
        ap (run offers p) e ∙ (ap (λ (x : Spot A). run offers x (tail_of (bytes_of t))) (let_go l b (not-true (stick b) n)) ∙ sym (ap (run offers (between false s)) e))
    spaced-read {stick} {p} {s} l (b ∷ g) t w n =
        run-append (step_byte offers p b) g (bytes_of t) ∙
        ap (λ (x : Spot A). run offers x (bytes_of t))
        (ap (λ (x : Spot A). run offers x g) (let-white l b (and_l (white b) (all white g) w)) ∙ run-white s g (and_r (white b) (all white g) w))

    last-read : {stick : ℕ → Bool} {p : Spot A} {s : A} → Lands stick p s → (last : List ℕ) → all white last ≡ true → Lands stick (run offers p last) s
    last-read l [] w = l
    last-read {stick} {p} {s} l (b ∷ bs) w =
        subst (λ (x : Spot A). Lands stick x s)
        (sym (ap (λ (x : Spot A). run offers x bs) (let-white l b (and_l (white b) (all white bs) w)) ∙ run-white s bs (and_r (white b) (all white bs) w))) (free s)

    -- a text of tokens
    pub forth : {stick : ℕ → Bool} {p : Spot A} {s v : A} (ss : List Spaced) (last : List ℕ) → Lands stick p s → Goes offers s (map (λ (x : Spaced). x.token) ss) v → apart stick ss ≡ true → all white last ≡ true
        → (end : ℕ → Bool) × Lands end (run offers p (written ss ++ last)) v
    unfolding apart written
    forth {stick} [] last l stop a w = (stick, last-read l last w)
    forth {stick} {p} {s} {v} (x ∷ ss) last l (go {u = u} e g) a w =
        let a₁ : Bool = all white x.gap in
        let a₂ : Bool = not (is_empty x.gap && stick (first_or 0 (bytes_of x.token))) in
        let a₃ = and_l (a₁ && a₂) (apart (sticks x.token) ss) a in
        let r = forth {stick = sticks x.token} ss last (token-read e) g (and_r (a₁ && a₂) (apart (sticks x.token) ss) a) w in
        let q : Spot A = run offers (between false s) (bytes_of x.token) in
        let z : (x.gap ++ (bytes_of x.token ++ written ss)) ++ last ≡ (x.gap ++ bytes_of x.token) ++ (written ss ++ last) = simp append_assoc in
        let m : run offers p ((x.gap ++ (bytes_of x.token ++ written ss)) ++ last) ≡ run offers q (written ss ++ last) =
        ap (run offers p) z ∙ (run-append p (x.gap ++ bytes_of x.token) (written ss ++ last) ∙
        ap (λ (y : Spot A). run offers y (written ss ++ last)) (spaced-read l x.gap x.token (and_l a₁ a₂ a₃) (and_r a₁ a₂ a₃))) in
        (r.0, subst (λ (y : Spot A). Lands r.0 y v) (sym m) r.1)
