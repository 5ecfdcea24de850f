-- The game of row tables, solved: the table of winners and the table of letters.
use Rattle.std.specs.Prelude.{ℕ, ◌-◌, ◌≤◌, ◌<◌, ◌≡◌, ◌≢◌, cond, List, eqb, length, get_or}
use Rattle.games.specs.Games.{Solved}
use Rattle.attracting.specs.Attracting.{owns, table_game}

-- before n: marks of level 0 as winners, and 255 for the letter of a state that its owner does not win
pub record Finished (owners sources : List ℕ) (n : ℕ) (m c m' c' : List ℕ) : Type 0 where
  pub marks_long : length m' ≡ length m
  pub choices_long : length c' ≡ length c
  pub marks_done : (s : ℕ) → s < n → get_or m' s 0 ≡ get_or m s 0 - 1
  pub choices_done : (s : ℕ) → s < n → get_or c' s 0 ≡ cond (owns (eqb (get_or m s 0 - 1) 1) (get_or owners (get_or sources s 0) 0)) (get_or c s 0) 255
  pub marks_rest : (s : ℕ) → n ≤ s → get_or m' s 0 ≡ get_or m s 0
  pub choices_rest : (s : ℕ) → n ≤ s → get_or c' s 0 ≡ get_or c s 0

-- w₀ and l₀ are the tables at entry
module _ (owners sources targets priorities : List ℕ) (letters states : ℕ) where
  pub record Answers (w₀ l₀ w l : List ℕ) : Type 0 where
    pub winners_long : length w ≡ length w₀
    pub letters_long : length l ≡ length l₀
    pub winner_few : (s : ℕ) → s < states → get_or w s 0 ≤ 1
    pub solved : Solved (table_game owners sources targets priorities letters states) (λ s. eqb (get_or w s 0) 1) (λ s. get_or l s 0)
    pub no_letter : (s : ℕ) → s < states → (table_game owners sources targets priorities letters states).owner s ≢ eqb (get_or w s 0) 1 → get_or l s 0 ≡ 255
    pub winners_past : (s : ℕ) → states ≤ s → get_or w s 0 ≡ get_or w₀ s 0
    pub letters_past : (s : ℕ) → states ≤ s → get_or l s 0 ≡ get_or l₀ s 0
