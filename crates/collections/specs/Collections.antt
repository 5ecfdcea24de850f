-- A collection: a set of colour sets, as four words of 64 bits. Colour set s is in it if bit s % 64 of word s / 64 is set.
use Rattle.std.specs.Prelude.{ℕ, ◌+◌, ◌-◌, ◌/◌, ◌%◌, ◌^◌, ◌≤◌, ◌<◌, ◌≡◌, ◌⊎◌, ◌≢◌, Bool, true, false, List, length, get_or}
use Rattle.masks.specs.Masks.{has, minus, inside}

-- s is in t
unfoldable pub has_set : List ℕ → ℕ → Bool
has_set t s = has (get_or t (s / 64) 0) (s % 64)

-- e is one past the highest bit of w, and 0 where it has none
pub record WordEnd (w e : ℕ) : Type 0 where
  pub most : e ≤ 64
  pub past : (x : ℕ) → has w x ≡ true → x < e
  pub last : e ≢ 0 → has w (e - 1) ≡ true

-- e is one past the greatest set in t, and 0 where there is none
pub record End (t : List ℕ) (e : ℕ) : Type 0 where
  pub most : e ≤ 256
  pub past : (d : ℕ) → d < 256 → has_set t d ≡ true → d < e
  pub last : e ≢ 0 → has_set t (e - 1) ≡ true

-- r has the bits of w, and those of m among them `by` places higher
pub record Raised (w m by r : ℕ) : Type 0 where
  pub kept : (e : ℕ) → has w e ≡ true → has r e ≡ true
  pub moved : (e : ℕ) → e + by < 64 → has w e ≡ true → has m e ≡ true → has r (e + by) ≡ true

-- w has the sets that are l without one of its colours below n, as bits
pub record Fewer (l n w : ℕ) : Type 0 where
  pub only : (d : ℕ) → has w d ≡ true → (i : ℕ) × (i < n) × (has l i ≡ true) × (d ≡ minus l (2 ^ i))
  pub each : (i : ℕ) → i < n → has l i ≡ true → has w (minus l (2 ^ i)) ≡ true

-- t is t₀ with sets that are properly inside h. Where d is properly inside h and `within` has all sets from d to h, t has one below h that has d inside
pub record Smaller (within t₀ : List ℕ) (h : ℕ) (t : List ℕ) : Type 0 where
  pub long : length t ≡ 4
  pub kept : (d : ℕ) → d < 256 → has_set t₀ d ≡ true → has_set t d ≡ true
  pub only : (d : ℕ) → d < 256 → has_set t d ≡ true → (has_set t₀ d ≡ true) ⊎ ((inside d h ≡ true) × (d < h))
  pub some : (d : ℕ) → inside d h ≡ true → d ≢ h → ((s : ℕ) → s < 256 → inside d s ≡ true → inside s h ≡ true → has_set within s ≡ true) → (s : ℕ) × (s < h) × (inside d s ≡ true) × (has_set t s ≡ true)

-- t has each set below n that has a set inside it for which f answers v; set 0 does not count as such a set where `quiet` is false
abbrev pub Over : (ℕ → Bool) → Bool → Bool → ℕ → List ℕ → Type 0
Over f v quiet n t = (d s : ℕ) → d < n → s < n → f d ≡ v → (d ≢ 0) ⊎ (quiet ≡ true) → inside d s ≡ true → has_set t s ≡ true

-- the same of the sets with the verdict v
abbrev pub AroundSets : List Bool → Bool → Bool → ℕ → List ℕ → Type 0
AroundSets family = Over (λ (d : ℕ). get_or family d false)
