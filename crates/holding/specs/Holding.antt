-- States that a player holds: its letters do not lead out of them, and the other player cannot leave them for a state that is live again.
use Rattle.std.specs.Prelude.{ℕ, ◌+◌, ◌*◌, ◌≤◌, ◌<◌, ◌≡◌, ◌⊎◌, ◌≢◌, true, false, List, length, get_or}
use Rattle.orders.specs.Orders.{Among, Rearranged}
use Rattle.attracting.specs.Attracting.{owns}
use Rattle.holding.specs.declared.Hold.{Hold}

-- no row of the level or above, from place row on, leads to a live state
pub record Shut (k : Hold) (targets priorities m : List ℕ) (row letters : ℕ) : Type 0 where
  pub none : (a : ℕ) → a < letters → k.level ≤ get_or priorities (row + a) 0 → get_or m (get_or targets (row + a) 0) 0 ≢ 255

module _ (owners sources targets priorities : List ℕ) (letters : ℕ) (k : Hold) where
  -- s need not be let go: the player's letter there leads to a state that is held; the other player's rows lead to no live state
  pub record Firm (m c : List ℕ) (s : ℕ) : Type 0 where
    pub own : owns k.plant (get_or owners (get_or sources s 0) 0) ≡ true → (get_or c s 0 < letters) × (get_or m (get_or targets (s * letters + get_or c s 0) 0) 0 ≡ k.held)
    pub other : owns k.plant (get_or owners (get_or sources s 0) 0) ≡ false → Shut k targets priorities m (s * letters) letters

  -- one sweep over the first n states of an order, of which the first f are live: the first r are live now; where they are no more, nothing is changed, and the others are firm
  pub record Sifted (f n : ℕ) (o m c : List ℕ) (r : ℕ) (o' m' : List ℕ) : Type 0 where
    pub from : f ≤ r
    pub few : r ≤ n
    pub moved : Rearranged n o o'
    pub first : (i : ℕ) → i < f → get_or o' i 0 ≡ get_or o i 0
    pub long : length m' ≡ length m
    pub each : (s : ℕ) → (get_or m' s 0 ≡ get_or m s 0) ⊎ Among o' r s
    pub live : ((i : ℕ) → i < f → get_or m (get_or o i 0) 0 ≡ 255) → (i : ℕ) → i < r → get_or m' (get_or o' i 0) 0 ≡ 255
    pub same : r ≡ f → (m' ≡ m) × ((i : ℕ) → f ≤ i → i < n → Firm m c (get_or o' i 0))

  -- of the first n states of an order, all held, the first r are live again, and the others are firm
  pub record Released (n : ℕ) (o m c : List ℕ) (r : ℕ) (o' m' : List ℕ) : Type 0 where
    pub few : r ≤ n
    pub moved : Rearranged n o o'
    pub long : length m' ≡ length m
    pub each : (s : ℕ) → (get_or m' s 0 ≡ get_or m s 0) ⊎ Among o' r s
    pub live : (i : ℕ) → i < r → get_or m' (get_or o' i 0) 0 ≡ 255
    pub firm : (i : ℕ) → r ≤ i → i < n → Firm m' c (get_or o' i 0)
