-- Cycles that are listed: the largest ones of some colour sets, each set's one after the other, with their colours beside them. Only those count that have a state of `among`, the
-- states of a root. A set is listed when it is first asked for, and no cycle leaves the list, so that a position names a cycle.
use Rattle.std.specs.Prelude.{ℕ, zero, suc, ◌+◌, ◌-◌, ◌*◌, ◌≤◌, ◌<◌, ◌≡◌, ◌≢◌, true, cond, eqb, length, get_or}
use mathlib.Core.List.{List, Memᴰ}
use Rattle.masks.specs.Masks.{has}
use Rattle.policy.specs.declared.Policy.{Policy}
use Rattle.policy.specs.Policies.{colours_of}
use Rattle.policy.specs.ByColour.{by_colour, edges_in}
use Rattle.graph.specs.Cycles.{contains}
use Rattle.graph.specs.Through.{EndsOf}
use Rattle.steps.specs.Steps.{SteppedGraph}
use Rattle.components.specs.Components.{largest_in}

-- the parts of a legal policy that cycles are looked for by: its graph as steps by colour, the edges that leave and enter each state, and those of each colour
pub record PartsOf (p : Policy) (states : ℕ) (steps out into by : List ℕ) : Type 0 where
  pub graph : SteppedGraph p states steps
  pub ends : EndsOf p out into
  pub by_is : by ≡ by_colour p

-- ---- the places from `from` up to `to` have the largest cycles inside the edges m that have a state of `among`, and no cycles but largest ones inside m
pub record Lists (p : Policy) (among m : ℕ) (pool : List ℕ) (from to : ℕ) : Type 0 where
  pub cycles : (j : ℕ) → from ≤ j → j < to → Memᴰ (get_or pool j 0) (largest_in p m)
  pub all : (x v : ℕ) → Memᴰ x (largest_in p m) → has among v ≡ true → contains p v x ≡ true → (j : ℕ) × (from ≤ j) × (j < to) × (get_or pool j 0 ≡ x)

-- ---- the spans of colour sets: for set s, at place 2 s where its cycles begin, and after it one more than how many there are; 0 where it is not listed
-- the largest cycles of the colour set s stand from `first` on, before `count`
pub record SpanOf (p : Policy) (among : ℕ) (pool : List ℕ) (count s first many : ℕ) : Type 0 where
  pub within : first + (many - 1) ≤ count
  pub lists : Lists p among (edges_in p s) pool first (first + (many - 1))

-- how many of the first n colour sets are listed
unfoldable pub listed_to : List ℕ → ℕ → ℕ
listed_to spans zero = 0
listed_to spans (suc n) = listed_to spans n + cond (eqb (get_or spans (2 * n + 1) 0) 0) 0 1

-- ---- the list: its first `count` places count. Before any set, the roots stand there, at most 16 of them; a set has at most 16 cycles, and that of all colours is not listed
pub record Pool (p : Policy) (among : ℕ) (pool hues spans : List ℕ) (count : ℕ) : Type 0 where
  pub long : count ≤ length pool
  pub most : length pool ≤ 4096
  pub hues_long : length hues ≡ length pool
  pub hued : (i : ℕ) → i < count → get_or hues i 0 ≡ colours_of p (get_or pool i 0)
  pub listed : (s : ℕ) → get_or spans (2 * s + 1) 0 ≢ 0 → SpanOf p among pool count s (get_or spans (2 * s) 0) (get_or spans (2 * s + 1) 0)
  pub few : count ≤ 16 + 16 * listed_to spans 255

-- what was listed before stays
pub record Extends (pool₀ : List ℕ) (count₀ : ℕ) (pool : List ℕ) (count : ℕ) : Type 0 where
  pub more : count₀ ≤ count
  pub kept : (i : ℕ) → i < count₀ → get_or pool i 0 ≡ get_or pool₀ i 0

-- ---- what listing gives, from pool₀ and hues₀ with count₀ cycles
-- the largest cycles inside the edges m that have a state of `among` stand after them, each once, with their colours
pub record Appended (p : Policy) (among m : ℕ) (pool₀ hues₀ : List ℕ) (count₀ : ℕ) (pool hues : List ℕ) (count : ℕ) : Type 0 where
  pub extends : Extends pool₀ count₀ pool count
  pub few : count ≤ count₀ + 16
  pub pool_long : length pool ≡ length pool₀
  pub hues_long : length hues ≡ length hues₀
  pub hues_kept : (i : ℕ) → i < count₀ → get_or hues i 0 ≡ get_or hues₀ i 0
  pub hued : (i : ℕ) → count₀ ≤ i → i < count → get_or hues i 0 ≡ colours_of p (get_or pool i 0)
  pub lists : Lists p among m pool count₀ count
  pub apart : (i j : ℕ) → count₀ ≤ i → i < j → j < count → get_or pool i 0 ≢ get_or pool j 0

-- the colour set s is listed too
pub record SetListed (p : Policy) (among s : ℕ) (pool₀ : List ℕ) (count₀ : ℕ) (pool hues spans : List ℕ) (count : ℕ) : Type 0 where
  pub pool_is : Pool p among pool hues spans count
  pub extends : Extends pool₀ count₀ pool count
  pub has_span : get_or spans (2 * s + 1) 0 ≢ 0
