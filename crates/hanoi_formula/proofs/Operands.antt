-- Laws of reading an operand and the sign behind it: what each byte leads to. Assumes nothing.
use Prim.Native.Nat.{ℕ, ◌+◌, ◌<◌}
use native.Mathlib.Omega.{arith}
use native.Mathlib.Decide.{ℕ_discrete}
use mathlib.Core.Logic.{◌⊎◌, inl, inr}
use mathlib.Core.Path.{◌≡◌, refl, sym, ap, ap₂, ◌∙◌, subst}
use mathlib.Core.Bool.{Bool, true, false, not, ◌&&◌, cond}
use mathlib.Core.List.{List, [], ◌∷◌}
use lib.Dec.{eqb}
use lib.ListN.{get_or}
use Rattle.std.specs.Prelude.{Result, Ok, Err}
use Rattle.lists.proofs.Bools.{test}
use Rattle.masks.specs.Masks.{has}
use Rattle.masks.proofs.Bits.{has-minus, has-none}
use Rattle.hanoi.specs.Words as w
use Rattle.hanoi.specs.Texts.{white, goes_on, digit, open_ended}
use Rattle.hanoi.specs.Documents.{truth, group}
use Rattle.hanoi.specs.Formulas.{events_of}
use Rattle.hanoi.specs.Formulas as event
use Rattle.hanoi.specs.Offers.{takes, takes_name, Spot, between, dead, word_on, begin_word, begin, byte_at, step_byte}
use Rattle.hanoi.specs.Reader.{Head, Hole, fresh, or_else, Level, At, offers, is_dead, operand, opening, after, body, plug, whole, and_then, marking, marks_next, close}
use Rattle.hanoi.proofs.Digits.{lt_yes}
use Rattle.hanoi_tokens.specs.declared.Begun.{Begun}
use Rattle.hanoi_tokens.specs.declared.Stop.{Stop}
use Rattle.hanoi_tokens.specs.Moves.{Moves, Stops, ReadsTo, Reads, Unfinished}
use Rattle.hanoi_tokens.specs.Tokens.{Begins, Spells}
use Rattle.hanoi_tokens.proofs.Moves.{moves-on, moves-stops, moves-reads, one, none}
use Rattle.hanoi_formula.specs.declared.Mark.{Mark}
use Rattle.hanoi_formula.specs.declared.Operand.TheVariants as operands
use Rattle.hanoi_formula.specs.declared.Sign.TheVariants as signs
use Rattle.hanoi_formula.specs.Formula.{Deep, mark_lanes, IsLane, ReadsMarked, ReadsOperand, ReadsSign}

-- a state that offers words alone
dull : (x y : Bool) (p : Spot At) → p ≡ dead → cond x dead (cond y dead p) ≡ dead
dull true y p e = refl
dull false true p e = refl
dull false false p e = e

-- ---- operands
module _ (h : Head) (hs : List Hole) (o : Hole) where
  opens-step : step_byte offers (between false (operand h hs o)) 40 ≡ between false (operand h (o ∷ hs) fresh)
  unfolding step_byte byte_at begin begin_word word_on offers white goes_on
  opens-step = refl

  yes-step : step_byte offers (between false (operand h hs o)) 116 ≡ between true (after h hs (plug o (truth true)))
  unfolding step_byte byte_at begin begin_word word_on offers white goes_on
  yes-step = refl

  no_step : step_byte offers (between false (operand h hs o)) 102 ≡ between true (after h hs (plug o (truth false)))
  unfolding step_byte byte_at begin begin_word word_on offers white goes_on
  no_step = refl

  inf-step : 0 < h.sets → step_byte offers (between false (operand h hs o)) 73 ≡ word_on w.Inf (110 ∷ 102 ∷ []) (opening h hs o true)
  unfolding step_byte byte_at begin begin_word offers marks_next white goes_on
  inf-step p = rw (lt_yes 0 h.sets p) refl

  fin-step : 0 < h.sets → step_byte offers (between false (operand h hs o)) 70 ≡ word_on w.Fin (105 ∷ 110 ∷ []) (opening h hs o false)
  unfolding step_byte byte_at begin begin_word offers marks_next white goes_on
  fin-step p = rw (lt_yes 0 h.sets p) refl

  no-mark-step : (b : ℕ) → white b ≡ false → eqb b 40 ≡ false → eqb b 116 ≡ false → eqb b 102 ≡ false → h.sets ≡ 0 → step_byte offers (between false (operand h hs o)) b ≡ dead
  unfolding step_byte byte_at begin begin_word offers marks_next takes takes_name
  no-mark-step b n e₁ e₂ e₃ z = rw (n, e₁, e₂, e₃, z) (dull (digit b) (eqb b 34) dead refl)

  other_step : (b : ℕ) → white b ≡ false → eqb b 40 ≡ false → eqb b 116 ≡ false → eqb b 102 ≡ false → eqb b 73 ≡ false → eqb b 70 ≡ false → 0 < h.sets → step_byte offers (between false (operand h hs o)) b ≡ dead
  unfolding step_byte byte_at begin begin_word offers marks_next takes takes_name
  other_step b n e₁ e₂ e₃ e₄ e₅ p = rw (n, e₁, e₂, e₃, lt_yes 0 h.sets p, e₄, e₅) (dull (digit b) (eqb b 34) dead refl)

  operand-open : Unfinished (operand h hs o)
  operand-open x = refl

word-alive : (x : w.Word) (c : ℕ) (r : List ℕ) (a : At) → is_dead (word_on x (c ∷ r) a) ≡ false
unfolding word_on
word-alive x c r a = refl

mark-events : (sets all : ℕ) (lanes : List ℕ) (s u : ℕ) (i : Bool) (m : ℕ) → m < sets → IsLane sets all lanes s u → events_of u (marking i m) ≡ event.operand (has (mark_lanes all lanes i m) s) ∷ []
unfolding marking events_of
mark-events sets all lanes s u true m h l = ap (λ (b : Bool). event.operand b ∷ []) (sym (l.marks_are m h))
mark-events sets all lanes s u false m h l = ap (λ (b : Bool). event.operand b ∷ []) (sym (has-minus all (get_or lanes m 0) s ∙ ap₂ (λ (x y : Bool). x && not y) l.in_all (l.marks_are m h)))

module _ (text : List ℕ) (m sets all : ℕ) (lanes : List ℕ) where
  pub operand-stopped : (e : Stop) → Begins text m false (Err e) → ReadsOperand text m sets all lanes (Err e)
  operand-stopped e g h hs o s = g.reads (operand h hs o) (operand-open h hs o)

  module _ (b : Begun) (g : Begins text m false (Ok b)) where
    -- the byte leads on
    on : (h : Head) (hs : List Hole) (o : Hole) (n : ℕ) (q : Spot At) → b.byte ≡ n → step_byte offers (between false (operand h hs o)) n ≡ q → is_dead q ≡ false → Moves text m (between false (operand h hs o)) (b.at + 1) q
    on h hs o n q e s a = moves-on text (g.reads (operand h hs o) (operand-open h hs o)) (one text g.there (ap (step_byte offers (between false (operand h hs o))) (sym g.byte_is ∙ e) ∙ s) a)

    -- or to nothing
    off : (h : Head) (hs : List Hole) (o : Hole) → step_byte offers (between false (operand h hs o)) b.byte ≡ dead → Stops text m (between false (operand h hs o)) b.at
    off h hs o s = moves-stops text (g.reads (operand h hs o) (operand-open h hs o)) (none text g.there (ap (step_byte offers (between false (operand h hs o))) (sym g.byte_is) ∙ s))

    pub operand-opens : b.byte ≡ 40 → ReadsOperand text m sets all lanes (Ok (operands.Opens (b.at + 1)))
    operand-opens e = (omega (arith, g.later), λ h hs o s. on h hs o 40 (between false (operand h (o ∷ hs) fresh)) e (opens-step h hs o) refl)

    pub operand-yes : b.byte ≡ 116 → ReadsOperand text m sets all lanes (Ok (operands.Value (b.at + 1) all true))
    unfolding events_of
    operand-yes e = (omega (arith, g.later), λ h hs o s. (truth true, λ i u l. ap (λ (b : Bool). event.operand b ∷ []) (sym l.in_all), on h hs o 116 (between true (after h hs (plug o (truth true)))) e (yes-step h hs o) refl))

    pub operand-no : b.byte ≡ 102 → ReadsOperand text m sets all lanes (Ok (operands.Value (b.at + 1) 0 true))
    unfolding events_of
    operand-no e = (omega (arith, g.later), λ h hs o s. (truth false, λ i u l. ap (λ (b : Bool). event.operand b ∷ []) (sym (has-none i)), on h hs o 102 (between true (after h hs (plug o (truth false)))) e (no_step h hs o) refl))

    pub operand-other : eqb b.byte 40 ≡ false → eqb b.byte 116 ≡ false → eqb b.byte 102 ≡ false → (0 < sets → eqb b.byte 73 ≡ false) → (0 < sets → eqb b.byte 70 ≡ false) → ReadsOperand text m sets all lanes (Err (record { at = b.at }))
    operand-other e₁ e₂ e₃ e₄ e₅ h hs o s = off h hs o (go (ℕ_discrete sets 0))
      where
        go : Dec (sets ≡ 0) → step_byte offers (between false (operand h hs o)) b.byte ≡ dead
        go (yes z) = no-mark-step h hs o b.byte g.other e₁ e₂ e₃ (s ∙ z)
        go (no p) = let l : 0 < sets = omega (arith, p) in other_step h hs o b.byte g.other e₁ e₂ e₃ (e₄ l) (e₅ l) (subst (λ (k : ℕ). 0 < k) (sym s) l)

    -- Inf or Fin
    module _ (p : 0 < sets) where
      module _ (i : Bool) (x : w.Word) (bars : open_ended x ≡ true) (n c : ℕ) (rest : List ℕ) (leads : (h : Head) (hs : List Hole) (o : Hole) → 0 < h.sets → step_byte offers (between false (operand h hs o)) n ≡ word_on x (c ∷ rest) (opening h hs o i))
          (e : b.byte ≡ n) where
        mark-reads : (r : Result Mark Stop) → ReadsMarked text (b.at + 1) (c ∷ rest) sets r → (h : Head) (hs : List Hole) (o : Hole) → h.sets ≡ sets
            → ReadsTo text m (between false (operand h hs o)) r (λ y. y.at) (λ y. between false (after h hs (plug o (marking i y.mark))))
        mark-reads r k h hs o s =
            moves-reads text r (λ (y : Mark). y.at) (λ (y : Mark). between false (after h hs (plug o (marking i y.mark))))
            (on h hs o n (word_on x (c ∷ rest) (opening h hs o i)) e (leads h hs o (subst (λ (j : ℕ). 0 < j) (sym s) p)) (word-alive x c rest (opening h hs o i))) (k.reads x bars h hs o i s)

        mark-value : (r : Mark) → ReadsMarked text (b.at + 1) (c ∷ rest) sets (Ok r) → ReadsOperand text m sets all lanes (Ok (operands.Value r.at (mark_lanes all lanes i r.mark) false))
        mark-value r k =
            let a : Head = record { states = 0; start = 0; names = []; sets = sets } in
            (omega (arith, g.later, (k.reads x bars a [] fresh i refl).later), λ h hs o s. (marking i r.mark, λ j u l. mark-events sets all lanes j u i r.mark k.below l, mark-reads (Ok r) k h hs o s))

      pub inf-stops : b.byte ≡ 73 → (r : Stop) → ReadsMarked text (b.at + 1) (110 ∷ 102 ∷ []) sets (Err r) → ReadsOperand text m sets all lanes (Err r)
      inf-stops e r = mark-reads true w.Inf refl 73 110 (102 ∷ []) inf-step e (Err r)

      pub inf-value : b.byte ≡ 73 → (r : Mark) → ReadsMarked text (b.at + 1) (110 ∷ 102 ∷ []) sets (Ok r) → ReadsOperand text m sets all lanes (Ok (operands.Value r.at (mark_lanes all lanes true r.mark) false))
      inf-value = mark-value true w.Inf refl 73 110 (102 ∷ []) inf-step

      pub fin-stops : b.byte ≡ 70 → (r : Stop) → ReadsMarked text (b.at + 1) (105 ∷ 110 ∷ []) sets (Err r) → ReadsOperand text m sets all lanes (Err r)
      fin-stops e r = mark-reads false w.Fin refl 70 105 (110 ∷ []) fin-step e (Err r)

      pub fin-value : b.byte ≡ 70 → (r : Mark) → ReadsMarked text (b.at + 1) (105 ∷ 110 ∷ []) sets (Ok r) → ReadsOperand text m sets all lanes (Ok (operands.Value r.at (mark_lanes all lanes false r.mark) false))
      fin-value = mark-value false w.Fin refl 70 105 (110 ∷ []) fin-step

-- ---- signs
module _ (h : Head) (hs : List Hole) (l : Level) where
  and_step : step_byte offers (between false (after h hs l)) 38 ≡ between false (operand h hs (and_then l))
  unfolding step_byte byte_at begin begin_word word_on offers white goes_on
  and_step = refl

  or_step : step_byte offers (between false (after h hs l)) 124 ≡ between false (operand h hs (or_else (whole l)))
  unfolding step_byte byte_at begin begin_word word_on offers white goes_on
  or_step = refl

  closes-step : (o : Hole) → step_byte offers (between false (after h (o ∷ hs) l)) 41 ≡ between false (after h hs (plug o (group (whole l))))
  unfolding step_byte byte_at begin begin_word word_on offers close white goes_on
  closes-step o = refl

  body-step : step_byte offers (between false (after h [] l)) 45 ≡ word_on w.Body (45 ∷ 66 ∷ 79 ∷ 68 ∷ 89 ∷ 45 ∷ 45 ∷ []) (body h (whole l))
  unfolding step_byte byte_at begin begin_word offers close white goes_on
  body-step = refl

  not-closes-step : (o : Hole) (b : ℕ) → white b ≡ false → eqb b 38 ≡ false → eqb b 124 ≡ false → eqb b 41 ≡ false → step_byte offers (between false (after h (o ∷ hs) l)) b ≡ dead
  unfolding step_byte byte_at begin begin_word offers close takes takes_name
  not-closes-step o b n e₁ e₂ e₃ = rw (n, e₁, e₂, e₃) (dull (digit b) (eqb b 34) dead refl)

  not-body-step : (b : ℕ) → white b ≡ false → eqb b 38 ≡ false → eqb b 124 ≡ false → eqb b 45 ≡ false → step_byte offers (between false (after h [] l)) b ≡ dead
  unfolding step_byte byte_at begin begin_word offers close takes takes_name
  not-body-step b n e₁ e₂ e₃ = rw (n, e₁, e₂, e₃) (dull (digit b) (eqb b 34) dead refl)

  after_open : Unfinished (after h hs l)
  after_open x = refl

module _ (text : List ℕ) (m : ℕ) (bar deep : Bool) where
  pub sign-stopped : (e : Stop) → Begins text m bar (Err e) → ReadsSign text m bar deep (Err e)
  sign-stopped e g h hs l d = g.reads (after h hs l) (after_open h hs l)

  module _ (b : Begun) (g : Begins text m bar (Ok b)) where
    led : (h : Head) (hs : List Hole) (l : Level) (n : ℕ) (q : Spot At) → b.byte ≡ n → step_byte offers (between false (after h hs l)) n ≡ q → is_dead q ≡ false → Moves text m (between bar (after h hs l)) (b.at + 1) q
    led h hs l n q e s a = moves-on text (g.reads (after h hs l) (after_open h hs l)) (one text g.there (ap (step_byte offers (between false (after h hs l))) (sym g.byte_is ∙ e) ∙ s) a)

    left : (h : Head) (hs : List Hole) (l : Level) → step_byte offers (between false (after h hs l)) b.byte ≡ dead → Stops text m (between bar (after h hs l)) b.at
    left h hs l s = moves-stops text (g.reads (after h hs l) (after_open h hs l)) (none text g.there (ap (step_byte offers (between false (after h hs l))) (sym g.byte_is) ∙ s))

    onward : m < b.at + 1
    onward = omega (arith, g.later)

    pub sign-and : b.byte ≡ 38 → ReadsSign text m bar deep (Ok (signs.And (b.at + 1)))
    sign-and e = (onward, λ h hs l. led h hs l 38 (between false (operand h hs (and_then l))) e (and_step h hs l) refl)

    pub sign-or : b.byte ≡ 124 → ReadsSign text m bar deep (Ok (signs.Or (b.at + 1)))
    sign-or e = (onward, λ h hs l. led h hs l 124 (between false (operand h hs (or_else (whole l)))) e (or_step h hs l) refl)

    pub sign-closes : deep ≡ true → b.byte ≡ 41 → ReadsSign text m bar deep (Ok (signs.Closes (b.at + 1)))
    sign-closes d e = (d, onward, λ h hs o l. led h (o ∷ hs) l 41 (between false (after h hs (plug o (group (whole l))))) e (closes-step h hs l o) refl)

    pub sign-other : eqb b.byte 38 ≡ false → eqb b.byte 124 ≡ false → (deep ≡ true → eqb b.byte 41 ≡ false) → (deep ≡ false → eqb b.byte 45 ≡ false) → ReadsSign text m bar deep (Err (record { at = b.at }))
    sign-other e₁ e₂ e₃ e₄ h hs l k = go (test deep)
      where
        step : (x : Bool) → deep ≡ x → Deep x hs → Stops text m (between bar (after h hs l)) b.at
        step true d (o, os, e) = left h hs l (ap (λ (x : List Hole). step_byte offers (between false (after h x l)) b.byte) e ∙ not-closes-step h os l o b.byte g.other e₁ e₂ (e₃ d))
        step false d e = left h hs l (ap (λ (x : List Hole). step_byte offers (between false (after h x l)) b.byte) e ∙ not-body-step h [] l b.byte g.other e₁ e₂ (e₄ d))

        go : (deep ≡ true) ⊎ (deep ≡ false) → Stops text m (between bar (after h hs l)) b.at
        go (inl t) = step true t (subst (λ (x : Bool). Deep x hs) t k)
        go (inr f) = step false f (subst (λ (x : Bool). Deep x hs) f k)

    module _ (d : deep ≡ false) (e : b.byte ≡ 45) where
      body_reads : (r : Result ℕ Stop) → Spells text (b.at + 1) (45 ∷ 66 ∷ 79 ∷ 68 ∷ 89 ∷ 45 ∷ 45 ∷ []) r → (h : Head) (l : Level) → Reads text m (between bar (after h [] l)) r (between false (body h (whole l)))
      body_reads r k h l =
          moves-reads text r (λ (x : ℕ). x) (λ (x : ℕ). between false (body h (whole l)))
          (led h [] l 45 (word_on w.Body (45 ∷ 66 ∷ 79 ∷ 68 ∷ 89 ∷ 45 ∷ 45 ∷ []) (body h (whole l))) e (body-step h [] l) (word-alive w.Body 45 (66 ∷ 79 ∷ 68 ∷ 89 ∷ 45 ∷ 45 ∷ []) (body h (whole l)))) (k w.Body (body h (whole l)))

      pub sign-body : (n : ℕ) → Spells text (b.at + 1) (45 ∷ 66 ∷ 79 ∷ 68 ∷ 89 ∷ 45 ∷ 45 ∷ []) (Ok n) → ReadsSign text m bar deep (Ok (signs.Body n))
      sign-body n k = (d, body_reads (Ok n) k)

      pub sign-not-spelled : (r : Stop) → Spells text (b.at + 1) (45 ∷ 66 ∷ 79 ∷ 68 ∷ 89 ∷ 45 ∷ 45 ∷ []) (Err r) → ReadsSign text m bar deep (Err r)
      sign-not-spelled r k h hs l q = subst (λ (x : List Hole). Stops text m (between bar (after h x l)) r.at) (sym (subst (λ (x : Bool). Deep x hs) d q)) (body_reads (Err r) k h l)
