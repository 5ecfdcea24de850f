-- What a lane shows after one event more. Assumes nothing.
use Prim.Native.Nat.{ℕ, zero, suc, ◌+◌}
use native.Mathlib.Omega.{arith}
use mathlib.Core.Path.{◌≡◌, refl, sym, ap, ap₂, ◌∙◌}
use mathlib.Core.Bool.{Bool, true, false, not, ◌&&◌, ◌||◌, cond}
use mathlib.Core.List.{List}
use lib.Bits.{bit_and, bit_or}
use lib.Dec.{ltb}
use Rattle.lists.proofs.Bools.{lt-true, and_r}
use Rattle.hanoi.proofs.Digits.{lt_yes}
use Rattle.masks.specs.Masks.{has, minus}
use Rattle.masks.proofs.Bits.{has-and, has-or, has-minus, has-none}
use Rattle.hanoi.specs.Formulas.{Mode, Reading, PastAnd, PastOr, tell, tell_in, operand, opens, closes, and, or}
use Rattle.hanoi_lanes.specs.declared.Lanes.{Lanes}
use Rattle.hanoi_lanes.specs.Lanes.{digit, count_at, CountsUp, CountsDown, depth_of, ModeIs, Shows, Starts, TellsOperand, TellsAnd, TellsOr, TellsOpens, TellsCloses}

has-without : (r a b s : ℕ) → r ≡ minus a b → has r s ≡ has a s && not (has b s)
has-without r a b s e = ap (λ (n : ℕ). has n s) e ∙ has-minus a b s

pub starts : (all : ℕ) → Starts all (record { value = all; reading = all; ands = 0 })
starts all s planes e z = record { value_is = e; mode_is = (e, has-none s, z) }

-- ---- an operand
chosen : (r b v : Bool) → (r && b) || (v && not r) ≡ cond r b v
chosen true true v = refl
chosen true false true = refl
chosen true false false = refl
chosen false b true = refl
chosen false b false = refl

operand_in : (r : Lanes) (planes : List ℕ) (s : ℕ) (v b R : Bool) (m : Mode) → has r.value s ≡ cond R b v → R ≡ has r.reading s → ModeIs m R (has r.ands s) (count_at planes s) → Shows r planes s (tell_in v m (operand b))
unfolding tell_in
operand_in r planes s v b R Reading e q (i, a, n) = record { value_is = e ∙ ap (λ (x : Bool). cond x b v) i; mode_is = (sym q ∙ i, a, n) }
operand_in r planes s v b R (PastAnd d) e q (i, a, n) = record { value_is = e ∙ ap (λ (x : Bool). cond x b v) i; mode_is = (sym q ∙ i, a, n) }
operand_in r planes s v b R (PastOr d) e q (i, a, n) = record { value_is = e ∙ ap (λ (x : Bool). cond x b v) i; mode_is = (sym q ∙ i, a, n) }

pub tells-operand : (t : Lanes) (b w : ℕ) → w ≡ minus t.value t.reading → TellsOperand t b (record { value = bit_or (bit_and t.reading b) w; reading = t.reading; ands = t.ands })
unfolding tell
tells-operand t b w e planes s x h =
    operand_in (record { value = bit_or (bit_and t.reading b) w; reading = t.reading; ands = t.ands }) planes s x.value (has b s) (has t.reading s) x.mode
    (has-or s (bit_and t.reading b) w ∙ ap₂ ◌||◌ (has-and s t.reading b) (has-without w t.value t.reading s e) ∙ chosen (has t.reading s) (has b s) (has t.value s)
    ∙ ap (cond (has t.reading s) (has b s)) h.value_is)
    refl h.mode_is

-- ---- &
and-mode : (v R A R' A' : Bool) (n : ℕ) (m : Mode) → R' ≡ R && v → A' ≡ A || (R && not v) → ModeIs m R A n → ModeIs (tell_in v m and).mode R' A' n
unfolding tell_in
and-mode true R A R' A' n Reading e f (i, a, z) = (e ∙ ap (λ (x : Bool). x && true) i, f ∙ ap₂ (λ (x y : Bool). x || (y && false)) a i, z)
and-mode false R A R' A' n Reading e f (i, a, z) = (e ∙ ap (λ (x : Bool). x && false) i, f ∙ ap₂ (λ (x y : Bool). x || (y && true)) a i, z)
and-mode v R A R' A' n (PastAnd d) e f (i, a, z) = (e ∙ ap (λ (x : Bool). x && v) i, f ∙ ap (λ (x : Bool). x || (R && not v)) a, z)
and-mode v R A R' A' n (PastOr d) e f (i, a, z) = (e ∙ ap (λ (x : Bool). x && v) i, f ∙ ap₂ (λ (x y : Bool). x || (y && not v)) a i, z)

and-value : (v : Bool) (m : Mode) → (tell_in v m and).value ≡ v
unfolding tell_in
and-value v Reading = refl
and-value v (PastAnd d) = refl
and-value v (PastOr d) = refl

pub tells-and : (t : Lanes) (w : ℕ) → w ≡ minus t.reading t.value → TellsAnd t (record { value = t.value; reading = bit_and t.reading t.value; ands = bit_or t.ands w })
unfolding tell
tells-and t w e planes s x h = record {
  value_is = h.value_is ∙ sym (and-value x.value x.mode);
  mode_is =
      and-mode x.value (has t.reading s) (has t.ands s) (has (bit_and t.reading t.value) s) (has (bit_or t.ands w) s) (count_at planes s) x.mode
      (has-and s t.reading t.value ∙ ap (λ (b : Bool). has t.reading s && b) h.value_is)
      (has-or s t.ands w ∙ ap (λ (b : Bool). has t.ands s || b) (has-without w t.reading t.value s e ∙ ap (λ (b : Bool). has t.reading s && not b) h.value_is))
      h.mode_is;
}

-- ---- |
or-mode : (v R A D E R' : Bool) (n : ℕ) (m : Mode) → D ≡ A && ltb 0 n → E ≡ A && not D → R' ≡ (R && not v) || E → ModeIs m R A n → ModeIs (tell_in v m or).mode R' D n
unfolding tell_in
or-mode true R A D E R' n Reading e f g (i, a, z) = (g ∙ ap₂ (λ (x y : Bool). (x && false) || y) i (f ∙ ap (λ (x : Bool). x && not D) a), e ∙ ap (λ (x : Bool). x && ltb 0 n) a, z)
or-mode false R A D E R' n Reading e f g (i, a, z) = (g ∙ ap (λ (x : Bool). (x && true) || E) i, e ∙ ap (λ (x : Bool). x && ltb 0 n) a, z)
or-mode v R A D E R' n (PastAnd zero) e f g (i, a, z) =
    let d : D ≡ false = e ∙ ap₂ (λ (x : Bool) (k : ℕ). x && ltb 0 k) a z in
    (g ∙ ap₂ (λ (x y : Bool). (x && not v) || y) i (f ∙ ap₂ (λ (x y : Bool). x && not y) a d), d, z)
or-mode v R A D E R' n (PastAnd (suc k)) e f g (i, a, z) =
    let d : D ≡ true = e ∙ ap₂ (λ (x y : Bool). x && y) a (lt_yes 0 n (omega (arith, z))) in
    (g ∙ ap₂ (λ (x y : Bool). (x && not v) || y) i (f ∙ ap₂ (λ (x y : Bool). x && not y) a d), d, z)
or-mode v R A D E R' n (PastOr k) e f g (i, a, z) = (g ∙ ap₂ (λ (x y : Bool). (x && not v) || y) i (f ∙ ap (λ (x : Bool). x && not D) a), e ∙ ap (λ (x : Bool). x && ltb 0 n) a, z)

or-value : (v : Bool) (m : Mode) → (tell_in v m or).value ≡ v
unfolding tell_in
or-value v Reading = refl
or-value v (PastAnd zero) = refl
or-value v (PastAnd (suc d)) = refl
or-value v (PastOr d) = refl

pub tells-or : (t : Lanes) (planes : List ℕ) (deeper ended w : ℕ) → ((s : ℕ) → has deeper s ≡ has t.ands s && ltb 0 (count_at planes s)) → ended ≡ minus t.ands deeper → w ≡ minus t.reading t.value
    → TellsOr t planes (record { value = t.value; reading = bit_or w ended; ands = deeper })
unfolding tell
tells-or t planes deeper ended w d e f s x h = record {
  value_is = h.value_is ∙ sym (or-value x.value x.mode);
  mode_is =
      or-mode x.value (has t.reading s) (has t.ands s) (has deeper s) (has ended s) (has (bit_or w ended) s) (count_at planes s) x.mode
      (d s) (has-without ended t.ands deeper s e)
      (has-or s w ended ∙ ap (λ (b : Bool). b || has ended s) (has-without w t.reading t.value s f ∙ ap (λ (b : Bool). has t.reading s && not b) h.value_is))
      h.mode_is;
}

-- ---- parentheses
count-depth : (m : Mode) (R A : Bool) (n : ℕ) → ModeIs m R A n → n ≡ depth_of m
count-depth Reading R A n (i, a, z) = z
count-depth (PastAnd d) R A n (i, a, z) = z
count-depth (PastOr d) R A n (i, a, z) = z

opens-mode : (v R A : Bool) (n k : ℕ) (m : Mode) → k ≡ n + digit (not R) → ModeIs m R A n → ModeIs (tell_in v m opens).mode R A k
unfolding tell_in
opens-mode v R A n k Reading e (i, a, z) = (i, a, let f = e ∙ ap₂ (λ (b : Bool) (j : ℕ). j + digit (not b)) i z in f)
opens-mode v R A n k (PastAnd d) e (i, a, z) = (i, a, let f : k ≡ n + 1 = e ∙ ap (λ (b : Bool). n + digit (not b)) i in omega (arith, f, z))
opens-mode v R A n k (PastOr d) e (i, a, z) = (i, a, let f : k ≡ n + 1 = e ∙ ap (λ (b : Bool). n + digit (not b)) i in omega (arith, f, z))

opens-value : (v : Bool) (m : Mode) → (tell_in v m opens).value ≡ v
unfolding tell_in
opens-value v Reading = refl
opens-value v (PastAnd d) = refl
opens-value v (PastOr d) = refl

-- the lanes that pass by
past_is : (t : Lanes) (all w s : ℕ) → w ≡ minus all t.reading → has all s ≡ true → has w s ≡ not (has t.reading s)
past_is t all w s e h = has-without w all t.reading s e ∙ ap (λ (b : Bool). b && not (has t.reading s)) h

pub tells-opens : (t : Lanes) (all w : ℕ) (planes next : List ℕ) → w ≡ minus all t.reading → CountsUp planes w next → TellsOpens t all planes next
unfolding tell
tells-opens t all w planes next e c = record {
  long = c.long;
  shows =
      λ s x h l k. record {
        value_is = k.value_is ∙ sym (opens-value x.value x.mode);
        mode_is =
            opens-mode x.value (has t.reading s) (has t.ands s) (count_at planes s) (count_at next s) x.mode
            (c.counts s (let d = count-depth x.mode (has t.reading s) (has t.ands s) (count_at planes s) k.mode_is in omega (arith, d, l)) ∙
            ap (λ (b : Bool). count_at planes s + digit b) (past_is t all w s e h))
            k.mode_is;
      };
}

closes-mode : (v R A P D E R' A' : Bool) (n k : ℕ) (m : Mode) → P ≡ not R → D ≡ P && ltb 0 n → E ≡ P && not D → R' ≡ R || E → A' ≡ A && not E → k + digit D ≡ n → ModeIs m R A n → ModeIs (tell_in v m closes).mode R' A' k
unfolding tell_in
closes-mode v R A P D E R' A' n k Reading p d e f g c (i, a, z) =
    let p₁ : P ≡ false = p ∙ ap not i in
    let d₁ : D ≡ false = d ∙ ap (λ (x : Bool). x && ltb 0 n) p₁ in
    let c₁ : k + 0 ≡ n = sym (ap (λ (x : Bool). k + digit x) d₁) ∙ c in
    (f ∙ ap (λ (x : Bool). x || E) i, g ∙ ap (λ (x : Bool). x && not E) a, omega (arith, c₁, z))
closes-mode v R A P D E R' A' n k (PastAnd zero) p d e f g c (i, a, z) =
    let p₁ : P ≡ true = p ∙ ap not i in
    let d₁ : D ≡ false = d ∙ ap₂ (λ (x : Bool) (j : ℕ). x && ltb 0 j) p₁ z in
    let e₁ : E ≡ true = e ∙ ap₂ (λ (x y : Bool). x && not y) p₁ d₁ in
    let c₁ : k + 0 ≡ n = sym (ap (λ (x : Bool). k + digit x) d₁) ∙ c in
    (f ∙ ap₂ ◌||◌ i e₁, g ∙ ap₂ (λ (x y : Bool). x && not y) a e₁, omega (arith, c₁, z))
closes-mode v R A P D E R' A' n k (PastAnd (suc j)) p d e f g c (i, a, z) =
    let p₁ : P ≡ true = p ∙ ap not i in
    let d₁ : D ≡ true = d ∙ ap₂ (λ (x y : Bool). x && y) p₁ (lt_yes 0 n (omega (arith, z))) in
    let e₁ : E ≡ false = e ∙ ap₂ (λ (x y : Bool). x && not y) p₁ d₁ in
    let c₁ : k + 1 ≡ n = sym (ap (λ (x : Bool). k + digit x) d₁) ∙ c in
    (f ∙ ap₂ ◌||◌ i e₁, g ∙ ap₂ (λ (x y : Bool). x && not y) a e₁, omega (arith, c₁, z))
closes-mode v R A P D E R' A' n k (PastOr zero) p d e f g c (i, a, z) =
    let p₁ : P ≡ true = p ∙ ap not i in
    let d₁ : D ≡ false = d ∙ ap₂ (λ (x : Bool) (j : ℕ). x && ltb 0 j) p₁ z in
    let e₁ : E ≡ true = e ∙ ap₂ (λ (x y : Bool). x && not y) p₁ d₁ in
    let c₁ : k + 0 ≡ n = sym (ap (λ (x : Bool). k + digit x) d₁) ∙ c in
    (f ∙ ap₂ ◌||◌ i e₁, g ∙ ap (λ (x : Bool). x && not E) a, omega (arith, c₁, z))
closes-mode v R A P D E R' A' n k (PastOr (suc j)) p d e f g c (i, a, z) =
    let p₁ : P ≡ true = p ∙ ap not i in
    let d₁ : D ≡ true = d ∙ ap₂ (λ (x y : Bool). x && y) p₁ (lt_yes 0 n (omega (arith, z))) in
    let e₁ : E ≡ false = e ∙ ap₂ (λ (x y : Bool). x && not y) p₁ d₁ in
    let c₁ : k + 1 ≡ n = sym (ap (λ (x : Bool). k + digit x) d₁) ∙ c in
    (f ∙ ap₂ ◌||◌ i e₁, g ∙ ap (λ (x : Bool). x && not E) a, omega (arith, c₁, z))

closes-value : (v : Bool) (m : Mode) → (tell_in v m closes).value ≡ v
unfolding tell_in
closes-value v Reading = refl
closes-value v (PastAnd zero) = refl
closes-value v (PastAnd (suc d)) = refl
closes-value v (PastOr zero) = refl
closes-value v (PastOr (suc d)) = refl

module _ (t : Lanes) (all past deeper ended ands : ℕ) (planes next : List ℕ) where
  pub tells-closes : past ≡ minus all t.reading → ((s : ℕ) → has deeper s ≡ has past s && ltb 0 (count_at planes s)) → CountsDown planes deeper next → ended ≡ minus past deeper → ands ≡ minus t.ands ended
      → TellsCloses t all planes (record { value = t.value; reading = bit_or t.reading ended; ands = ands }) next
  unfolding tell
  tells-closes p d c e g = record {
    long = c.long;
    shows =
        λ s x h k. record {
          value_is = k.value_is ∙ sym (closes-value x.value x.mode);
          mode_is =
              closes-mode x.value (has t.reading s) (has t.ands s) (has past s) (has deeper s) (has ended s) (has (bit_or t.reading ended) s) (has ands s) (count_at planes s) (count_at next s) x.mode
              (past_is t all past s p h) (d s) (has-without ended past deeper s e) (has-or s t.reading ended) (has-without ands t.ands ended s g)
              (c.counts s (λ y. lt-true 0 (count_at planes s) (and_r (has past s) (ltb 0 (count_at planes s)) (sym (d s) ∙ y))))
              k.mode_is;
        };
  }
