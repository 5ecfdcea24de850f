-- Question 8 of running: its five answers, and the number of states that they give. Assumes nothing.
use Prim.Native.Nat.{ℕ, ◌/◌, ◌%◌, ◌≤◌}
use mathlib.Core.Path.{◌≡◌, refl, sym, ap}
use mathlib.Core.Logic.{◌⊎◌, inl, inr}
use mathlib.Core.Bool.{true, false, ◌&&◌, cond, false≢true}
use mathlib.Core.List.{List}
use lib.Dec.{eqb, leb}
use lib.ListN.{length}
use borrow.Author.Tests.{le-leb, eq-eqb}
use Rattle.std.specs.Prelude.{Result, Ok, Err}
use Rattle.std.specs.Result.{is_ok, result_unwrap_or}
use Rattle.refusals.specs.declared.Refusal.{Refusal}
use Rattle.refusals.specs.declared.Refusal.TheVariants.{Lengths}
use Rattle.lists.proofs.Bools.{test, and_l, and_r, eqb≡, le-true}
use Rattle.running.specs.Running.{shaped, row_states, states_of}

module _ (letters : ℕ) (targets priorities : List ℕ) where
  -- question 8, answered yes
  pub record Shaped : Type 0 where
    pub some : 1 ≤ letters
    pub most : letters ≤ 8
    pub same : length targets ≡ length priorities
    pub whole : length targets % letters ≡ 0
    pub few : length targets / letters ≤ 65535

  pub shaped-facts : shaped letters targets priorities ≡ true → Shaped
  unfolding shaped row_states
  shaped-facts e =
      let one = leb 1 letters in
      let two = one && leb letters 8 in
      let three = two && eqb (length targets) (length priorities) in
      let four = three && eqb (length targets % letters) 0 in
      let to4 = and_l four (leb (length targets / letters) 65535) e in
      let to3 = and_l three (eqb (length targets % letters) 0) to4 in
      let to2 = and_l two (eqb (length targets) (length priorities)) to3 in
      record {
        some = le-true 1 letters (and_l one (leb letters 8) to2);
        most = le-true letters 8 (and_r one (leb letters 8) to2);
        same = eqb≡ (length targets) (length priorities) (and_r two (eqb (length targets) (length priorities)) to3);
        whole = eqb≡ (length targets % letters) 0 (and_r three (eqb (length targets % letters) 0) to4);
        few = le-true (length targets / letters) 65535 (and_r four (leb (length targets / letters) 65535) e);
      }

  facts-shaped : Shaped → shaped letters targets priorities ≡ true
  unfolding shaped row_states
  facts-shaped s = simp (le-leb _ _ s.some, le-leb _ _ s.most, eq-eqb _ _ s.same, eq-eqb _ _ s.whole, le-leb _ _ s.few)

  -- ---- the number of states
  abbrev answer : Result ℕ Refusal
  answer = states_of letters targets priorities

  pub states-none : (Shaped → ⊥) → Err Lengths ≡ answer
  unfolding states_of
  states-none h = go (test (shaped letters targets priorities))
    where
      go : (shaped letters targets priorities ≡ true) ⊎ (shaped letters targets priorities ≡ false) → Err Lengths ≡ cond (shaped letters targets priorities) (Ok (row_states letters targets priorities)) (Err Lengths)
      go (inl t) = absurd (h (shaped-facts t))
      go (inr f) = rw f refl

  pub states_some : Shaped → Ok (length targets / letters) ≡ answer
  unfolding states_of row_states
  states_some s = rw (facts-shaped s) refl

  pub states-shaped : (n : ℕ) → Ok n ≡ answer → (shaped letters targets priorities ≡ true) × (n ≡ row_states letters targets priorities)
  unfolding states_of
  states-shaped n e = go (test (shaped letters targets priorities))
    where
      go : (shaped letters targets priorities ≡ true) ⊎ (shaped letters targets priorities ≡ false) → (shaped letters targets priorities ≡ true) × (n ≡ row_states letters targets priorities)
      go (inl t) = let m : Ok n ≡ Ok (row_states letters targets priorities) = rw t at e in (t, ap (λ (x : Result ℕ Refusal). result_unwrap_or x 0) m)
      go (inr f) = let m : Ok n ≡ Err Lengths = rw f at e in absurd (false≢true (sym (ap (λ (x : Result ℕ Refusal). is_ok x) m)))

  pub states-unshaped : (r : Refusal) → Err r ≡ answer → (shaped letters targets priorities ≡ false) × (r ≡ Lengths)
  unfolding states_of
  states-unshaped r e = go (test (shaped letters targets priorities))
    where
      error : Result ℕ Refusal → Refusal
      error (Ok n) = Lengths
      error (Err r) = r

      go : (shaped letters targets priorities ≡ true) ⊎ (shaped letters targets priorities ≡ false) → (shaped letters targets priorities ≡ false) × (r ≡ Lengths)
      go (inl t) = let m : Err r ≡ Ok (row_states letters targets priorities) = rw t at e in absurd (false≢true (ap (λ (x : Result ℕ Refusal). is_ok x) m))
      go (inr f) = let m : Err r ≡ Err Lengths = rw f at e in (f, ap error m)
