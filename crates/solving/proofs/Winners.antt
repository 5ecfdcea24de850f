-- The winner of a built state is the winner that every solution of the supervisor's game gives it, and there is a solution with these winners. Assumes nothing.
use Prim.Native.Nat.{ℕ, ◌≤◌, ◌<◌}
use native.Mathlib.Omega.{arith}
use native.Mathlib.Decide.{ℕ_discrete}
use mathlib.Core.Path.{◌≡◌, refl, sym, ap, ◌∙◌}
use mathlib.Core.Logic.{◌⊎◌, inl, inr}
use mathlib.Core.Bool.{Bool, true, false, true≢false}
use mathlib.Core.List.{List}
use lib.ListN.{length}
use Rattle.lists.proofs.Bools.{test, ≡eqb, neqb}
use Rattle.policy.specs.declared.Policy.{Policy}
use Rattle.policy.specs.Policies.{legal}
use Rattle.automaton.specs.Automaton.{built}
use Rattle.games.specs.Games.{Solved}
use Rattle.games.proofs.Plays.{determined, unique, solved-with}
use Rattle.supervision.specs.Supervision.{player_of, game_of}
use Rattle.supervision.proofs.Rows.{total}
use Rattle.solving.specs.Solving.{byte_of, winner_of}

-- ---- players as bytes
pub player-byte : (b : Bool) → player_of (byte_of b) ≡ b
unfolding player_of
player-byte true = refl
player-byte false = refl

pub byte-few : (b : Bool) → byte_of b ≤ 1
byte-few true = omega arith
byte-few false = omega arith

-- two bytes of at most 1 that are one player are equal
pub same_byte : (x y : ℕ) → x ≤ 1 → y ≤ 1 → player_of x ≡ player_of y → x ≡ y
unfolding player_of
same_byte x y hx hy e = go (ℕ_discrete x 1) (ℕ_discrete y 1)
  where
    go : Dec (x ≡ 1) → Dec (y ≡ 1) → x ≡ y
    go (yes a) (yes b) = a ∙ sym b
    go (yes a) (no b) = absurd (true≢false (sym (≡eqb x 1 a) ∙ e ∙ neqb y 1 b))
    go (no a) (yes b) = absurd (true≢false (sym (≡eqb y 1 b) ∙ sym e ∙ neqb x 1 a))
    go (no a) (no b) = omega arith

module _ (p : Policy) (owners : List ℕ) where
  pub winner_few : (s : ℕ) → winner_of p owners s ≤ 1
  unfolding winner_of
  winner_few s = go (test (legal p)) refl
    where
      go : (t : (legal p ≡ true) ⊎ (legal p ≡ false)) → test (legal p) ≡ t → winner_of p owners s ≤ 1
      go (inl l) e = rw e (byte-few ((determined (game_of p owners) 10 (total p l owners)).0 s))
      go (inr u) e = rw e (byte-few false)

-- ---- the winners of a legal policy
module _ (p : Policy) (lawful : legal p ≡ true) (owners : List ℕ) where
  -- they are those of the solution that the recursion finds
  winner-found : (s : ℕ) → (l : legal p ≡ true) × (winner_of p owners s ≡ byte_of ((determined (game_of p owners) 10 (total p l owners)).0 s))
  unfolding winner_of
  winner-found s = go (test (legal p)) refl
    where
      go : (t : (legal p ≡ true) ⊎ (legal p ≡ false)) → test (legal p) ≡ t → (l : legal p ≡ true) × (winner_of p owners s ≡ byte_of ((determined (game_of p owners) 10 (total p l owners)).0 s))
      go (inl l) e = (l, rw e refl)
      go (inr u) e = absurd (true≢false (sym lawful ∙ u))

  pub winner-is : (w : ℕ → Bool) (c : ℕ → ℕ) → Solved (game_of p owners) w c → (s : ℕ) → s < length (built p) → winner_of p owners s ≡ byte_of (w s)
  winner-is w c solved s h =
      let r = winner-found s in
      let d = determined (game_of p owners) 10 (total p r.0 owners) in
      r.1 ∙ ap byte_of (unique (game_of p owners) 10 (total p lawful owners) w d.0 c d.1 solved d.2 s h)

  pub winner-player : (w : ℕ → Bool) (c : ℕ → ℕ) → Solved (game_of p owners) w c → (s : ℕ) → s < length (built p) → player_of (winner_of p owners s) ≡ w s
  winner-player w c solved s h = ap player_of (winner-is w c solved s h) ∙ player-byte (w s)

  pub winner-has-letters : (c : ℕ → ℕ) × Solved (game_of p owners) (λ s. player_of (winner_of p owners s)) c
  winner-has-letters =
      let d = determined (game_of p owners) 10 (total p lawful owners) in (
        d.1,
        solved-with (game_of p owners) 10 (total p lawful owners) d.0 (λ s. player_of (winner_of p owners s)) d.1 d.1 d.2 (winner-player d.0 d.1 d.2) (λ s h o. refl),
      )
