-- What 64 lanes show: in lane s what is told of a formula, and how telling one event more changes that.
use Rattle.std.specs.Prelude.{ℕ, ◌+◌, ◌*◌, ◌^◌, ◌<◌, ◌≡◌, Bool, true, false, List, [], ◌∷◌, length}
use Rattle.masks.specs.Masks.{has}
use Rattle.hanoi.specs.Formulas.{Mode, Reading, PastAnd, PastOr, Told, told, tell, operand, opens, closes, and, or}
use Rattle.hanoi_lanes.specs.declared.Lanes.{Lanes}

-- ---- the counts
abbrev pub digit : Bool → ℕ
digit true = 1
digit false = 0

-- what the planes count in lane s
unfoldable pub count_at : List ℕ → ℕ → ℕ
count_at [] s = 0
count_at (p ∷ ps) s = digit (has p s) + 2 * count_at ps s

pub record CountsUp (planes : List ℕ) (lanes : ℕ) (r : List ℕ) : Type 0 where
  pub long : length r ≡ length planes
  pub counts : (s : ℕ) → count_at planes s + 1 < 2 ^ length planes → count_at r s ≡ count_at planes s + digit (has lanes s)

pub record CountsDown (planes : List ℕ) (lanes : ℕ) (r : List ℕ) : Type 0 where
  pub long : length r ≡ length planes
  pub counts : (s : ℕ) → (has lanes s ≡ true → 0 < count_at planes s) → count_at r s + digit (has lanes s) ≡ count_at planes s

-- ---- the value so far
-- how many parentheses deeper than where passing by began
abbrev pub depth_of : Mode → ℕ
depth_of Reading = 0
depth_of (PastAnd d) = d
depth_of (PastOr d) = d

abbrev pub ModeIs : Mode → Bool → Bool → ℕ → Type 0
ModeIs Reading reading ands n = (reading ≡ true) × (ands ≡ false) × (n ≡ 0)
ModeIs (PastAnd d) reading ands n = (reading ≡ false) × (ands ≡ true) × (n ≡ d)
ModeIs (PastOr d) reading ands n = (reading ≡ false) × (ands ≡ false) × (n ≡ d)

-- lane s shows x
pub record Shows (t : Lanes) (planes : List ℕ) (s : ℕ) (x : Told) : Type 0 where
  pub value_is : has t.value s ≡ x.value
  pub mode_is : ModeIs x.mode (has t.reading s) (has t.ands s) (count_at planes s)

abbrev pub Starts : ℕ → Lanes → Type 0
Starts all r = (s : ℕ) (planes : List ℕ) → has all s ≡ true → count_at planes s ≡ 0 → Shows r planes s (told true Reading)

abbrev pub TellsOperand : Lanes → ℕ → Lanes → Type 0
TellsOperand t b r = (planes : List ℕ) (s : ℕ) (x : Told) → Shows t planes s x → Shows r planes s (tell x (operand (has b s)))

abbrev pub TellsAnd : Lanes → Lanes → Type 0
TellsAnd t r = (planes : List ℕ) (s : ℕ) (x : Told) → Shows t planes s x → Shows r planes s (tell x and)

abbrev pub TellsOr : Lanes → List ℕ → Lanes → Type 0
TellsOr t planes r = (s : ℕ) (x : Told) → Shows t planes s x → Shows r planes s (tell x or)

pub record TellsOpens (t : Lanes) (all : ℕ) (planes next : List ℕ) : Type 0 where
  pub long : length next ≡ length planes
  pub shows : (s : ℕ) (x : Told) → has all s ≡ true → depth_of x.mode + 1 < 2 ^ length planes → Shows t planes s x → Shows t next s (tell x opens)

pub record TellsCloses (t : Lanes) (all : ℕ) (planes : List ℕ) (r : Lanes) (next : List ℕ) : Type 0 where
  pub long : length next ≡ length planes
  pub shows : (s : ℕ) (x : Told) → has all s ≡ true → Shows t planes s x → Shows r next s (tell x closes)
