-- The candidates of a root as they stand in the lists that a caller lends, each with the colours of its masks beside it.
use Rattle.std.specs.Prelude.{ℕ, zero, suc, ◌-◌, ◌<◌, ◌≤◌, ◌≡◌, ◌⊎◌, ◌≢◌, Bool, true, false, ◌||◌, List, map, ltb, length, get_or, take}
use Rattle.std.specs.Int.Bits.{bit_or}
use Rattle.masks.specs.Masks.{inside}
use Rattle.policy.specs.declared.Policy.{Policy}
use Rattle.policy.specs.Policies.{colours_of, in_family}
use Rattle.policy.specs.ByColour.{by_colour, table_colours}
use Rattle.graph.specs.Cycles.{is_cycle}
use Rattle.graph.specs.Through.{GraphOf, EndsOf}
use Rattle.candidates.specs.Candidates.{is_open, is_wanted, candidates_to, candidates, Live}
use Rattle.listing.specs.declared.Counts.{Counts}

-- of a list of masks, the first n count, and their colours stand in another; `hue` gives the colours of a mask
pub record Hued (hue : ℕ → ℕ) (masks hues : List ℕ) (n : ℕ) : Type 0 where
  pub long : n ≤ length masks
  pub hues_long : n ≤ length hues
  pub hues_are : take n hues ≡ map hue (take n masks)

-- the parts of a legal policy that listing goes by: its graph, the edges that leave and enter each state, and those of each colour
pub record PartsOf (p : Policy) (states letters : ℕ) (heads out into by : List ℕ) : Type 0 where
  pub graph : GraphOf p states letters heads
  pub ends : EndsOf p out into
  pub by_is : by ≡ by_colour p

-- the first n edge sets of a list, as one
unfoldable pub union_to : List ℕ → ℕ → ℕ
union_to l zero = 0
union_to l (suc n) = bit_or (union_to l n) (get_or l n 0)

-- all cycles inside m lie inside e, and e inside m
pub record OnCycles (p : Policy) (m e : ℕ) : Type 0 where
  pub within : inside e m ≡ true
  pub cycles : (x : ℕ) → is_cycle p x ≡ true → inside x m ≡ true → inside x e ≡ true

-- nothing of the root r is listed at the set x: no cycle has exactly these colours, or no listed one of the other verdict has them all, or none is wanted. `other` are the listed
-- cycles of the other verdict than v and `hues` their colours, `same` are those of the verdict v, and `many` of these are listed
abbrev pub Passed : Policy → ℕ → Bool → List ℕ → List ℕ → List ℕ → ℕ → ℕ → Type 0
Passed p r v other hues same many x =
    ((y : ℕ) → is_cycle p y ≡ true → inside y r ≡ true → colours_of p y ≢ x)
    ⊎ ((in_family p x ≡ v) × ((is_open x hues many ≡ false) ⊎ ((y : ℕ) → is_cycle p y ≡ true → inside y r ≡ true → colours_of p y ≡ x → is_wanted (colours_of p) x y other same ≡ false)))

-- the same of the sets of a span from `left` up to c, by the cycles inside e
abbrev pub Settled : Policy → Bool → ℕ → ℕ → ℕ → List ℕ → List ℕ → ℕ → Type 0
Settled p v up c e other same left =
    (s : ℕ) → left ≤ s → s < c → inside up s ≡ true → inside s c ≡ true
    → ((y : ℕ) → is_cycle p y ≡ true → inside y e ≡ true → colours_of p y ≢ s) ⊎ ((in_family p s ≡ v) × ((y : ℕ) → is_cycle p y ≡ true → inside y e ≡ true → colours_of p y ≡ s → is_wanted (colours_of p) s y other same ≡ false))

-- the lists of the root r after n sets, and live edges for each set
pub record Listed (p : Policy) (by : List ℕ) (r n : ℕ) (accepting accepted rejecting rejected live : List ℕ) (k : Counts) : Type 0 where
  pub accepting_are : take k.accepting accepting ≡ candidates_to p r n true
  pub rejecting_are : take k.rejecting rejecting ≡ candidates_to p r n false
  pub accepting_hued : Hued (table_colours by) accepting accepted k.accepting
  pub rejecting_hued : Hued (table_colours by) rejecting rejected k.rejecting
  pub live_are : (d : ℕ) → d < length live → Live p r d (get_or live d 0)

-- of lists with so many places, one may have no room for a cycle of each state
unfoldable pub lacks_room : ℕ → ℕ → Counts → Bool
lacks_room accepting rejecting k = ltb (accepting - k.accepting) 16 || ltb (rejecting - k.rejecting) 16

-- what a caller learns: where the listing is whole, the lists begin with the candidates of the root r; and with 4,096 places for either list it is whole
pub record Outcome (p : Policy) (r : ℕ) (accepting rejecting : List ℕ) (whole : Bool) (k : Counts) : Type 0 where
  pub accepting_long : k.accepting ≤ length accepting
  pub rejecting_long : k.rejecting ≤ length rejecting
  pub accepting_are : whole ≡ true → take k.accepting accepting ≡ candidates p r true
  pub rejecting_are : whole ≡ true → take k.rejecting rejecting ≡ candidates p r false
  pub enough : 4096 ≤ length accepting → 4096 ≤ length rejecting → whole ≡ true
