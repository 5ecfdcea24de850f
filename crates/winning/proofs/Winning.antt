-- What specs/Winning.antt says holds of every legal policy whose built states can be numbered. Assumes nothing.
use Prim.Native.Nat.{ℕ, ◌≤◌}
use mathlib.Core.Path.{◌≡◌}
use mathlib.Core.Bool.{true}
use mathlib.Core.List.{List}
use lib.ListN.{length}
use Rattle.policy.specs.declared.Policy.{Policy}
use Rattle.policy.specs.Policies.{legal}
use Rattle.automaton.specs.Automaton.{built}
use Rattle.winning.specs.Winning.{Winning}
use Rattle.winning.proofs.StemAndLoop.{one_least, serves_winner}
use Rattle.winning.proofs.OneWinner.{one_winner}

pub winning : (p : Policy) → legal p ≡ true → length (built p) ≤ 65535 → (owners : List ℕ) → Winning p owners
winning p ok few owners = record {
  one_winner = one_winner p ok few owners;
  one_least = λ stem loop state letter play. one_least p ok few stem loop state letter play owners;
  serves_winner = λ stem loop state letter play w c solved follows.
      serves_winner p ok owners stem loop state letter play w c solved follows (one_least p ok few stem loop state letter play owners);
}
