-- Laws of reading on. Assumes nothing.
use Prim.Native.Nat.{ℕ, suc, ◌+◌, ◌≤◌, ◌<◌}
use native.Mathlib.Omega.{arith}
use native.Mathlib.Numerals.{add-one}
use mathlib.Core.Path.{◌≡◌, refl, sym, ap, ◌∙◌, subst}
use mathlib.Core.Bool.{Bool, true, false, cond}
use mathlib.Core.List.{List, [], ◌∷◌}
use lib.ListN.{length, get_or, drop, drop_of_length-le}
use lib.Seq.{drop-cons}
use Rattle.hanoi.specs.Answers.{Answer}
use Rattle.hanoi.specs.Offers.{Spot, dead, step_byte, run}
use Rattle.hanoi.specs.Reader.{At, offers, is_dead, alive_for}
use Rattle.hanoi.specs.Reading.{answer_at}
use Rattle.hanoi.proofs.Forth.{dead-stays}
use Rattle.std.specs.Prelude.{Result, Ok, Err}
use Rattle.hanoi_tokens.specs.declared.Stop.{Stop}
use Rattle.hanoi_tokens.specs.Moves.{Moves, Stops, ReadsTo}

alive-on : (b : ℕ) (bs : List ℕ) (p : Spot At) → is_dead (step_byte offers p b) ≡ false → alive_for (b ∷ bs) p ≡ suc (alive_for bs (step_byte offers p b))
unfolding alive_for
alive-on b bs p h = rw h refl

alive-not : (b : ℕ) (bs : List ℕ) (p : Spot At) → step_byte offers p b ≡ dead → alive_for (b ∷ bs) p ≡ 0
unfolding alive_for
alive-not b bs p h = rw h refl

alive-end : (p : Spot At) → alive_for [] p ≡ 0
unfolding alive_for
alive-end p = refl

-- only the next step counts
alive-same : (b : ℕ) (bs : List ℕ) (p q : Spot At) → step_byte offers p b ≡ step_byte offers q b → alive_for (b ∷ bs) p ≡ alive_for (b ∷ bs) q
unfolding alive_for
alive-same b bs p q h = rw h refl

-- nothing follows either way
pub neither : (x : Bool) → cond {A = Spot At} x dead dead ≡ dead
neither true = refl
neither false = refl

module _ (text : List ℕ) where
  pub stay : (m : ℕ) (p : Spot At) → m ≤ length text → Moves text m p m p
  stay m p h = record { later = omega arith; within = h; runs = refl; alive = refl }

  pub moves-on : {m n k : ℕ} {p q r : Spot At} → Moves text m p n q → Moves text n q k r → Moves text m p k r
  moves-on a b = record { later = omega (arith, a.later, b.later); within = b.within; runs = a.runs ∙ b.runs; alive = a.alive ∙ b.alive }

  pub moves-stops : {m n k : ℕ} {p q : Spot At} → Moves text m p n q → Stops text n q k → Stops text m p k
  moves-stops a b = record { unanswered = λ x. ap (answer_at x) a.runs ∙ b.unanswered x; alive = a.alive ∙ b.alive }

  pub moves-reads : {A : Type 0} {m n : ℕ} {p q : Spot At} (r : Result A Stop) (at : A → ℕ) (to : A → Spot At) → Moves text m p n q → ReadsTo text n q r at to → ReadsTo text m p r at to
  moves-reads (Ok x) at to a b = moves-on a b
  moves-reads (Err e) at to a b = moves-stops a b

  one_on : {m : ℕ} {p q : Spot At} → m < length text → step_byte offers p (get_or text m 0) ≡ q → is_dead q ≡ false → Moves text m p (suc m) q
  one_on {m} {p} {q} h e a =
      let c = drop-cons text m 0 h in
      record {
        later = omega arith;
        within = h;
        runs = ap (run offers p) c ∙ ap (λ (x : Spot At). run offers x (drop (suc m) text)) e;
        alive =
            let y : alive_for (drop m text) p ≡ suc (alive_for (drop (suc m) text) q) =
            ap (λ (l : List ℕ). alive_for l p) c ∙ alive-on (get_or text m 0) (drop (suc m) text) p (ap is_dead e ∙ a) ∙ ap (λ (x : Spot At). suc (alive_for (drop (suc m) text) x)) e in
            omega (arith, y);
      }

  -- a byte
  pub one : {m : ℕ} {p q : Spot At} → m < length text → step_byte offers p (get_or text m 0) ≡ q → is_dead q ≡ false → Moves text m p (m + 1) q
  one {m} {p} {q} h e a = subst (λ (k : ℕ). Moves text m p k q) (sym (add-one m)) (one_on h e a)

  -- a byte that no text goes on with
  pub none : {m : ℕ} {p : Spot At} → m < length text → step_byte offers p (get_or text m 0) ≡ dead → Stops text m p m
  none {m} {p} h e =
      let c = drop-cons text m 0 h in
      record {
        unanswered = λ x. ap (λ (l : List ℕ). answer_at x (run offers p l)) c ∙ ap (λ (q : Spot At). answer_at x (run offers q (drop (suc m) text))) e ∙ ap (answer_at x) (dead-stays offers (drop (suc m) text));
        alive = let y : alive_for (drop m text) p ≡ 0 = ap (λ (l : List ℕ). alive_for l p) c ∙ alive-not (get_or text m 0) (drop (suc m) text) p e in omega (arith, y);
      }

  -- the text breaks off
  pub breaks-off : {m : ℕ} {p : Spot At} → length text ≤ m → ((x : Answer) → answer_at x p ≡ x) → Stops text m p m
  breaks-off {m} {p} h u =
      let c = drop_of_length-le text h in
      record {
        unanswered = λ x. ap (λ (l : List ℕ). answer_at x (run offers p l)) c ∙ u x;
        alive = let y : alive_for (drop m text) p ≡ 0 = ap (λ (l : List ℕ). alive_for l p) c ∙ alive-end p in omega (arith, y);
      }

  -- two places that the next byte leads on alike
  pub alike : {m : ℕ} {p q : Spot At} → m < length text → step_byte offers p (get_or text m 0) ≡ step_byte offers q (get_or text m 0) → Moves text m p m q
  alike {m} {p} {q} h e =
      let c = drop-cons text m 0 h in
      record {
        later = omega arith;
        within = omega arith;
        runs = ap (run offers p) c ∙ ap (λ (x : Spot At). run offers x (drop (suc m) text)) e ∙ sym (ap (run offers q) c);
        alive = ap (λ (n : ℕ). m + n) (ap (λ (l : List ℕ). alive_for l p) c ∙ alive-same (get_or text m 0) (drop (suc m) text) p q e ∙ sym (ap (λ (l : List ℕ). alive_for l q) c));
      }
