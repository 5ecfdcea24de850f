-- The questions of reading, over plain values: what each command's case says, what a "no" gives, and what holds where every answer is "yes".
-- Assumes nothing.
use Prim.Native.Nat.{ℕ, suc, ◌+◌, ◌-◌, ◌^◌, ◌≤◌, ◌<◌}
use native.Mathlib.Omega.{arith}
use mathlib.Core.Path.{◌≡◌, refl, sym, ap}
use mathlib.Core.Logic.{◌⊎◌, inl, inr}
use mathlib.Core.Bool.{Bool, true, false, ◌&&◌, false≢true}
use mathlib.Core.List.{List}
use lib.Dec.{eqb, ltb}
use lib.ListN.{length, get_or}
use borrow.Author.Tests.{ltb-true, leb-true, lt-ltb, le-ltb, le-leb, lt-leb, eqb-true, eqb-false, eq-eqb}
use Rattle.std.specs.Prelude.{Result, Ok, Err}
use Rattle.std.specs.Result.{is_ok}
use Rattle.refusals.specs.declared.Refusal.{Refusal}
use Rattle.refusals.specs.declared.Refusal.TheVariants.{Truncated, UnknownCommand, Misplaced, OutOfRange, Repeated, Incomplete}
use Rattle.refusals.specs.Refusals.{number, refusal}
use Rattle.lists.specs.Lists.{all, below}
use Rattle.lists.proofs.Bools.{test, and_l, and_r, bool-ext}
use Rattle.lists.proofs.Lists.{all-each, each_all, mem_below, below-lt}
use Rattle.lists.specs.Questions.{ask}
use Rattle.masks.specs.Masks.{has, inside}
use Rattle.masks.proofs.Bits.{inside-all, all-inside, has-full}
use Rattle.masks.proofs.Members.{full-lt}
use Rattle.policy.specs.declared.Policy.{Policy}
use Rattle.policy.specs.Policies.{edges, edge_of}
use Rattle.policy.proofs.Laws.{edge-lt}
use Rattle.reading.specs.declared.Draft.{Draft}
use Rattle.reading.specs.declared.Command.{Command}
use Rattle.reading.specs.declared.Command.TheVariants.{End, Edge, Quiet}
use Rattle.reading.specs.Reading.{Bounded, all_given, command_at, command_known, complete_at_end, first_time, in_place, operand_count, operands_there, refusal_of, taken_at, within_limits}

-- ---- operands
pub shape-count : {c : ℕ} → c ≡ 1 → operand_count c ≡ 4
unfolding operand_count
shape-count {c} e = rw (eq-eqb c 1 e)

pub edge_count : {c : ℕ} → c ≡ 2 → operand_count c ≡ 4
unfolding operand_count
edge_count {c} e = rw e

pub accept-count : {c : ℕ} → c ≡ 3 → operand_count c ≡ 1
unfolding operand_count
accept-count {c} e = rw e

pub quiet-count : {c : ℕ} → c ≡ 4 → operand_count c ≡ 3
unfolding operand_count
quiet-count {c} e = rw e

module _ (b : List ℕ) (at n : ℕ) where
  pub room : operands_there b at ≡ true → operand_count (get_or b at 0) ≡ n → at < length b → at + n < length b
  unfolding operands_there
  room t e h = omega (arith, leb-true (operand_count (get_or b at 0)) (length b - (at + 1)) t)

  pub operands-there : n ≡ operand_count (get_or b at 0) → n ≤ length b - (at + 1) → operands_there b at ≡ true
  unfolding operands_there
  operands-there e h = rw (← e) (le-leb n (length b - (at + 1)) h)

-- ---- edges
module _ {p : Policy} (bounded : Bounded p) where
  pub quiet-within : (v a t : ℕ) → within_limits p (Quiet v a t) ≡ true → edge_of p v a < 64
  unfolding within_limits edges
  quiet-within v a t e =
      let in-states = ltb v p.states in
      let in_letters = ltb a p.letters in
      let r = and_l (in-states && in_letters) (ltb t p.states) e in
      let w = and_l in-states in_letters r in
      let u = and_r in-states in_letters r in
      omega (arith, edge-lt p v a (ltb-true v p.states w) (ltb-true a p.letters u), bounded.few_edges)

  pub edge-within : (v a t k : ℕ) → within_limits p (Edge v a t k) ≡ true → edge_of p v a < 64
  unfolding within_limits
  edge-within v a t k e = quiet-within v a t (and_l (ltb v p.states && ltb a p.letters && ltb t p.states) (ltb k p.colours) e)

-- every edge below n is given exactly where the full set of them lies inside the given one
pub full-given : (given n : ℕ) → inside (2 ^ n - 1) given ≡ all_given given n
unfolding all_given
full-given given n =
    bool-ext (inside (2 ^ n - 1) given) (all (has given) (below n))
    (λ h. each_all (has given) (below n) (λ e m. inside-all (2 ^ n - 1) given h e (has-full n e (below-lt n e m))))
    (λ h. all-inside (2 ^ n - 1) given (λ e t. all-each (has given) (below n) h e (mem_below n e (full-lt n e t))))

-- ---- a "no"
-- the command is known, and its operands are there
pub record Whole (b : List ℕ) (at : ℕ) (c : Command) : Type 0 where
  pub byte : at < length b
  pub known : command_known (get_or b at 0) ≡ true
  pub there : operands_there b at ≡ true
  pub is : c ≡ command_at b at

module _ (b : List ℕ) (at : ℕ) (d : Draft) where
  pub no_byte : length b ≤ at → Err Truncated ≡ taken_at b at d
  unfolding taken_at refusal_of
  no_byte h = rw (le-ltb at (length b) h)

  pub no-command : at < length b → command_known (get_or b at 0) ≡ false → Err UnknownCommand ≡ taken_at b at d
  unfolding taken_at refusal_of
  no-command h k = rw (lt-ltb at (length b) h, k)

  pub no-operands : (n : ℕ) → n ≡ operand_count (get_or b at 0) → at < length b → command_known (get_or b at 0) ≡ true → length b - (at + 1) < n → Err Truncated ≡ taken_at b at d
  unfolding taken_at refusal_of operands_there
  no-operands n e h k o = rw (lt-ltb at (length b) h, k, ← e, lt-leb n (length b - (at + 1)) o)

module _ {b : List ℕ} {at : ℕ} {c : Command} (d : Draft) (w : Whole b at c) where
  pub no_place : in_place at c ≡ false → Err Misplaced ≡ taken_at b at d
  unfolding taken_at refusal_of
  no_place h = rw (lt-ltb at (length b) w.byte, w.known, w.there, ← w.is, h)

  pub no-limits : in_place at c ≡ true → within_limits d.policy c ≡ false → Err OutOfRange ≡ taken_at b at d
  unfolding taken_at refusal_of
  no-limits g h = rw (lt-ltb at (length b) w.byte, w.known, w.there, ← w.is, g, h)

  pub no-first : in_place at c ≡ true → within_limits d.policy c ≡ true → first_time d c ≡ false → Err Repeated ≡ taken_at b at d
  unfolding taken_at refusal_of
  no-first g h i = rw (lt-ltb at (length b) w.byte, w.known, w.there, ← w.is, g, h, i)

  pub no-end : in_place at c ≡ true → within_limits d.policy c ≡ true → first_time d c ≡ true → complete_at_end d c ≡ false → Err Incomplete ≡ taken_at b at d
  unfolding taken_at refusal_of
  no-end g h i j = rw (lt-ltb at (length b) w.byte, w.known, w.there, ← w.is, g, h, i, j)

  -- no "no"
  pub yes : in_place at c ≡ true → within_limits d.policy c ≡ true → first_time d c ≡ true → complete_at_end d c ≡ true → Ok c ≡ taken_at b at d
  unfolding taken_at refusal_of
  yes g h i j = rw (lt-ltb at (length b) w.byte, w.known, w.there, ← w.is, g, h, i, j)

-- each number but 0 is that of its refusal
asked-number : (x y z u v w q : Bool) → let n = ask x 1 (ask y 2 (ask z 1 (ask u 3 (ask v 4 (ask w 5 (ask q 6 0)))))) in (n ≡ 0 → ⊥) → number (refusal n) ≡ n
asked-number true true true true true true true h = absurd (h refl)
asked-number true true true true true true false h = refl
asked-number true true true true true false q h = refl
asked-number true true true true false w q h = refl
asked-number true true true false v w q h = refl
asked-number true true false u v w q h = refl
asked-number true false z u v w q h = refl
asked-number false y z u v w q h = refl

module _ (b : List ℕ) (at : ℕ) (d : Draft) where
  pub number-refusal : (refusal_of b at d ≡ 0 → ⊥) → number (refusal (refusal_of b at d)) ≡ refusal_of b at d
  unfolding refusal_of
  number-refusal =
      let c = command_at b at in
      asked-number (ltb at (length b)) (command_known (get_or b at 0)) (operands_there b at) (in_place at c) (within_limits d.policy c) (first_time d c) (complete_at_end d c)

-- what an answer says of the questions
abbrev command-of : Result Command Refusal → Command
command-of (Ok c) = c
command-of (Err e) = End

abbrev error-of : Result Command Refusal → Refusal
error-of (Ok c) = Truncated
error-of (Err e) = e

module _ (b : List ℕ) (at : ℕ) (d : Draft) where
  pub taken-all : {c : Command} → Ok c ≡ taken_at b at d → (refusal_of b at d ≡ 0) × (c ≡ command_at b at)
  unfolding taken_at
  taken-all {c} e = go (test (eqb (refusal_of b at d) 0))
    where
      go : (eqb (refusal_of b at d) 0 ≡ true) ⊎ (eqb (refusal_of b at d) 0 ≡ false) → (refusal_of b at d ≡ 0) × (c ≡ command_at b at)
      go (inl t) = let m : Ok c ≡ Ok (command_at b at) = rw t at e in (eqb-true (refusal_of b at d) 0 t, ap command-of m)
      go (inr f) = let m : Ok c ≡ Err (refusal (refusal_of b at d)) = rw f at e in absurd (false≢true (sym (ap (λ (x : Result Command Refusal). is_ok x) m)))

  pub taken-none : {r : Refusal} → Err r ≡ taken_at b at d → (refusal_of b at d ≡ 0 → ⊥) × (r ≡ refusal (refusal_of b at d))
  unfolding taken_at
  taken-none {r} e = go (test (eqb (refusal_of b at d) 0))
    where
      go : (eqb (refusal_of b at d) 0 ≡ true) ⊎ (eqb (refusal_of b at d) 0 ≡ false) → (refusal_of b at d ≡ 0 → ⊥) × (r ≡ refusal (refusal_of b at d))
      go (inl t) = let m : Err r ≡ Ok (command_at b at) = rw t at e in absurd (false≢true (ap (λ (x : Result Command Refusal). is_ok x) m))
      go (inr f) = let m : Err r ≡ Err (refusal (refusal_of b at d)) = rw f at e in (eqb-false (refusal_of b at d) 0 f, ap error-of m)

-- ---- every answer is "yes"
ask-zero : (q : Bool) (n r : ℕ) → ask q (suc n) r ≡ 0 → (q ≡ true) × (r ≡ 0)
ask-zero true n r e = (refl, e)
ask-zero false n r e = absurd (omega arith)

pub record Passed (b : List ℕ) (at : ℕ) (d : Draft) : Type 0 where
  pub byte : at < length b
  pub there : operands_there b at ≡ true
  pub place : in_place at (command_at b at) ≡ true
  pub within : within_limits d.policy (command_at b at) ≡ true
  pub first : first_time d (command_at b at) ≡ true
  pub complete : complete_at_end d (command_at b at) ≡ true

module _ {b : List ℕ} {at : ℕ} {d : Draft} where
  pub passed : refusal_of b at d ≡ 0 → Passed b at d
  unfolding refusal_of
  passed e =
      let c = command_at b at in
      let q7 = ask (complete_at_end d c) 6 0 in
      let q6 = ask (first_time d c) 5 q7 in
      let q5 = ask (within_limits d.policy c) 4 q6 in
      let q4 = ask (in_place at c) 3 q5 in
      let q3 = ask (operands_there b at) 1 q4 in
      let q2 = ask (command_known (get_or b at 0)) 2 q3 in
      let a1 = ask-zero (ltb at (length b)) 0 q2 e in
      let a2 = ask-zero (command_known (get_or b at 0)) 1 q3 a1.1 in
      let a3 = ask-zero (operands_there b at) 0 q4 a2.1 in
      let a4 = ask-zero (in_place at c) 2 q5 a3.1 in
      let a5 = ask-zero (within_limits d.policy c) 3 q6 a4.1 in
      let a6 = ask-zero (first_time d c) 4 q7 a5.1 in
      let a7 = ask-zero (complete_at_end d c) 5 0 a6.1 in
      record {
        byte = ltb-true at (length b) a1.0;
        there = a3.0;
        place = a4.0;
        within = a5.0;
        first = a6.0;
        complete = a7.0;
      }
