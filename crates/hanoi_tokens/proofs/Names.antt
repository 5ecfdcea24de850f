-- Laws of reading a name up to its closing quote. Assumes nothing.
use Prim.Native.Nat.{ℕ, suc, ◌+◌, ◌-◌, ◌≤◌, ◌<◌}
use native.Mathlib.Omega.{arith}
use mathlib.Core.Path.{◌≡◌, refl, sym, ap, ◌∙◌, subst}
use mathlib.Core.Bool.{Bool, true, false}
use mathlib.Core.List.{List, [], ◌∷◌, ◌++◌}
use lib.Dec.{eqb}
use lib.ListN.{length, get_or, take, drop, length-drop}
use lib.Seq.{take-suc, get_or-drop}
use Rattle.hanoi.specs.Texts.{white, digit}
use Rattle.hanoi.specs.Offers.{no_number, new_name, takes, takes_name, between, in_name, dead, begin_word, begin, byte_at, step_byte}
use Rattle.hanoi.specs.Reader.{At, offers, offer}
use Rattle.hanoi.proofs.Digits.{lt_yes}
use Rattle.std.specs.Prelude.{Ok, Err}
use Rattle.hanoi_tokens.specs.declared.Begun.{Begun}
use Rattle.hanoi_tokens.specs.Moves.{Moves, Stops, Unfinished}
use Rattle.hanoi_tokens.specs.Tokens.{Begins, part, ReadsName}
use Rattle.hanoi_tokens.proofs.Moves.{neither, moves-on, moves-stops, one, none, breaks-off}

-- a byte more
part-more : (text : List ℕ) (a e : ℕ) → a ≤ e → e < length text → part text a (e + 1) ≡ part text a e ++ (get_or text e 0 ∷ [])
part-more text a e h l =
    let i : e + 1 - a ≡ suc (e - a) = omega arith in
    let j : a + (e - a) ≡ e = omega arith in
    ap (λ (k : ℕ). take k (drop a text)) i ∙ (take-suc (drop a text) (e - a) 0 (omega (arith, length-drop a text)) ∙
    ap (λ (x : ℕ). take (e - a) (drop a text) ++ (x ∷ [])) (get_or-drop a text (e - a) 0 ∙ ap (λ (k : ℕ). get_or text k 0) j))

part_none : (text : List ℕ) (a : ℕ) → part text a a ≡ []
part_none text a = let i : a - a ≡ 0 = omega arith in ap (λ (k : ℕ). take k (drop a text)) i

abbrev Naming : At → List (List ℕ) → (List ℕ → At) → Type 0
Naming s ns to = offers s ≡ offer [] no_number (new_name ns to)

quote-opens : (s : At) (ns : List (List ℕ)) (to : List ℕ → At) → Naming s ns to → step_byte offers (between false s) 34 ≡ in_name s [] false
unfolding step_byte byte_at begin takes_name white
quote-opens s ns to e = rw e refl

no-quote : (s : At) (ns : List (List ℕ)) (to : List ℕ → At) (b : ℕ) → Naming s ns to → white b ≡ false → eqb b 34 ≡ false → step_byte offers (between false s) b ≡ dead
unfolding step_byte byte_at begin takes begin_word
no-quote s ns to b e w q = rw (w, q, e) (neither (digit b))

step_back : (s : At) (q : List ℕ) (b : ℕ) → b < 256 → eqb b 10 ≡ false → step_byte offers (in_name s q true) b ≡ in_name s (q ++ (b ∷ [])) false
unfolding step_byte
step_back s q b h n = rw (lt_yes b 256 h, n) refl

step_line : (s : At) (q : List ℕ) (b : ℕ) → b < 256 → eqb b 10 ≡ true → step_byte offers (in_name s q true) b ≡ dead
unfolding step_byte
step_line s q b h n = rw (lt_yes b 256 h, n) refl

step-plain : (s : At) (q : List ℕ) (b : ℕ) → b < 256 → eqb b 34 ≡ false → step_byte offers (in_name s q false) b ≡ in_name s (q ++ (b ∷ [])) (eqb b 92)
unfolding step_byte
step-plain s q b h n = rw (n, lt_yes b 256 h) refl

module _ (text : List ℕ) (m : ℕ) where
  -- in a name whose bytes begin at byte a, before byte i
  pub record Quoted (a i : ℕ) (back : Bool) : Type 0 where
    pub later : a ≤ i
    pub within : i ≤ length text
    pub moves : (s : At) (ns : List (List ℕ)) (to : List ℕ → At) → Naming s ns to → Unfinished s → Moves text m (between false s) i (in_name s (part text a i) back)

  -- the text stops at byte i
  unnamed : (i : ℕ) → ((s : At) (ns : List (List ℕ)) (to : List ℕ → At) → Naming s ns to → Unfinished s → Stops text m (between false s) i) → ReadsName text m (Err (record { at = i }))
  unnamed i z = record { reads = z; ordered = tt; there = tt; quote_is = tt }

  module _ (b : Begun) (g : Begins text m false (Ok b)) where
    pub unnamed-other : eqb b.byte 34 ≡ false → ReadsName text m (Err (record { at = b.at }))
    unnamed-other n = unnamed b.at (λ s ns to o u. moves-stops text (g.reads s u) (none text g.there (ap (step_byte offers (between false s)) (sym g.byte_is) ∙ no-quote s ns to b.byte o g.other n)))

    pub quoted-none : b.byte ≡ 34 → Quoted (b.at + 1) (b.at + 1) false
    quoted-none n = record {
      later = omega arith;
      within = let h = g.there in omega (arith, h);
      moves =
          λ s ns to o u. subst (λ (q : List ℕ). Moves text m (between false s) (b.at + 1) (in_name s q false)) (sym (part_none text (b.at + 1)))
          (moves-on text (g.reads s u) (one text g.there (ap (step_byte offers (between false s)) (sym g.byte_is ∙ n) ∙ quote-opens s ns to o) refl));
    }

  module _ (a i : ℕ) (l : i < length text) (w : get_or text i 0 < 256) where
    -- one byte more of the name
    on : (back after : Bool) → Quoted a i back → ((s : At) (q : List ℕ) → step_byte offers (in_name s q back) (get_or text i 0) ≡ in_name s (q ++ (get_or text i 0 ∷ [])) after) → Quoted a (i + 1) after
    on back after k t = record {
      later = omega (arith, k.later);
      within = omega arith;
      moves =
          λ s ns to o u. subst (λ (q : List ℕ). Moves text m (between false s) (i + 1) (in_name s q after)) (sym (part-more text a i k.later l))
          (moves-on text (k.moves s ns to o u) (one text l (t s (part text a i)) refl));
    }

    pub quoted-back : (back : Bool) → Quoted a i back → back ≡ true → eqb (get_or text i 0) 10 ≡ false → Quoted a (i + 1) false
    quoted-back back k t n = on back false k (λ s q. ap (λ (x : Bool). step_byte offers (in_name s q x) (get_or text i 0)) t ∙ step_back s q (get_or text i 0) w n)

    pub quoted-plain : (back : Bool) → Quoted a i back → back ≡ false → eqb (get_or text i 0) 34 ≡ false → Quoted a (i + 1) (eqb (get_or text i 0) 92)
    quoted-plain back k t n = on back (eqb (get_or text i 0) 92) k (λ s q. ap (λ (x : Bool). step_byte offers (in_name s q x) (get_or text i 0)) t ∙ step-plain s q (get_or text i 0) w n)

    pub quoted-line : (back : Bool) → Quoted a i back → back ≡ true → eqb (get_or text i 0) 10 ≡ true → ReadsName text m (Err (record { at = i }))
    quoted-line back k t n =
        unnamed i (λ s ns to o u. moves-stops text (k.moves s ns to o u)
        (none text l (ap (λ (x : Bool). step_byte offers (in_name s (part text a i) x) (get_or text i 0)) t ∙ step_line s (part text a i) (get_or text i 0) w n)))

  pub quoted-end : (a i : ℕ) (back : Bool) → Quoted a i back → length text ≤ i → ReadsName text m (Err (record { at = length text }))
  quoted-end a i back k l =
      let e : i ≡ length text = omega (arith, k.within, l) in
      subst (λ (j : ℕ). ReadsName text m (Err (record { at = j }))) e (unnamed i (λ s ns to o u. moves-stops text (k.moves s ns to o u) (breaks-off text l (λ x. refl))))

  pub quoted-all : (a i : ℕ) (back : Bool) → Quoted a i back → back ≡ false → i < length text → get_or text i 0 ≡ 34 → ReadsName text m (Ok (record { at = a; end = i }))
  quoted-all a i back k t l q = record {
    reads = λ s ns to o u. subst (λ (x : Bool). Moves text m (between false s) i (in_name s (part text a i) x)) t (k.moves s ns to o u);
    ordered = k.later;
    there = l;
    quote_is = q;
  }
