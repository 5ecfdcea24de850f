-- Premises that are met: a call of solving that was given policy B and owners and succeeded, and calls of running that are a play by its letters.
use Rattle.std.specs.Prelude.{ℕ, ◌<◌, ◌≡◌, List, [], ◌∷◌}
use Rattle.correctness.specs.Known.{B}
use Rattle.correctness.specs.Calls.{Function, Places, Call, Running, read, read_shows, wulfrenda_run, wulfrenda_run_shows}
use Rattle.winning.specs.Calls.{Solving, solve, solve_shows, wulfrenda_solve, wulfrenda_solve_shows, wulfrenda_solve_bytes, wulfrenda_solve_bytes_shows}
use Rattle.winning.specs.Solved.{states, Play}

-- state 0 the supervisor's, state 1 the plant's
abbrev pub owners_of_b : List ℕ
owners_of_b = 0 ∷ 1 ∷ []

-- and from every built state there is such a play
pub record PremisesMet (f : Function) (shows : Places f → Solving) (g : Function) (shows' : Places g → Running) : Type 0 where
  pub call : Call f
  pub policy_is : (shows call.at).translating.policy ≡ B
  pub owners_are : (shows call.at).owners ≡ owners_of_b
  pub succeeded : (shows call.at).translating.number ≡ 0
  pub calls : (n : ℕ) → n < states (shows call.at) → ℕ → Call g
  pub begins : (n : ℕ) (h : n < states (shows call.at)) → (shows' (calls n h 0).at).state ≡ n
  pub play : (n : ℕ) (h : n < states (shows call.at)) → Play (shows call.at) (λ i. shows' (calls n h i).at)

pub record Instances : Type 0 where
  pub of_the_core : PremisesMet solve solve_shows read read_shows
  pub of_the_library : PremisesMet wulfrenda_solve wulfrenda_solve_shows wulfrenda_run wulfrenda_run_shows
  pub of_the_library_from_bytes : PremisesMet wulfrenda_solve_bytes wulfrenda_solve_bytes_shows wulfrenda_run wulfrenda_run_shows
