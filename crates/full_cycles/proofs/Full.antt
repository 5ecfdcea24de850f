-- A cycle is full if it is the largest one in its own colours through one of its states. Each cycle lies inside a full one with the same
-- colours, and a cycle that shares a state with a full one and has no other colours lies inside it. Assumes nothing.
use Prim.Native.Nat.{ℕ, ◌<◌}
use mathlib.Core.Path.{◌≡◌, sym, ap, ◌∙◌, subst}
use mathlib.Core.Logic.{◌≢◌}
use mathlib.Core.Bool.{true}
use Rattle.masks.specs.Masks.{inside}
use Rattle.masks.proofs.Bits.{inside-all, all-inside, inside-refl, inside-antisym, inside-trans}
use Rattle.masks.proofs.Members.{some-nonzero}
use Rattle.policy.specs.declared.Policy.{Policy}
use Rattle.policy.specs.Policies.{colours_of, legal}
use Rattle.policy.proofs.Laws.{legal-target, some-colours, colours-up}
use Rattle.policy.specs.ByColour.{edges_in}
use Rattle.policy.proofs.ByColour.{some-edges-in, edges-in-colours}
use Rattle.graph.specs.Cycles.{is_cycle, contains}
use Rattle.graph.specs.Through.{cycle_through}
use Rattle.full_cycles.specs.Full.{Full}
use Rattle.graph.proofs.Cycles.{Targets, cycle-edge, contains-some, contains-inside}
use Rattle.graph.proofs.Through.{through-inside, through-cycle, through-largest, through_same}
use Rattle.graph.proofs.Inside.{contains-lt, cycle-state}

module _ (p : Policy) where
  -- y is full, and has all of x and no other colours
  pub record Filled (x y : ℕ) : Type 0 where
    pub filled : Full p y
    pub colours : colours_of p y ≡ colours_of p x
    pub above : inside x y ≡ true

  module _ (lawful : legal p ≡ true) where
    targets : Targets p
    targets e l = legal-target p lawful e l

    -- ---- the states of a cycle
    -- a cycle through a state of the largest one inside m lies inside it
    pub within-through : (m v u x : ℕ) → v < p.states → contains p u (cycle_through p m v) ≡ true → is_cycle p x ≡ true → inside x m ≡ true → contains p u x ≡ true
        → inside x (cycle_through p m v) ≡ true
    within-through m v u x l on cy wi onx = subst (λ (y : ℕ). inside x y ≡ true) (through_same p targets m v u l on) (through-largest p targets m u (contains-lt p lawful u x onx) x cy wi onx)

    -- ---- edge sets and colours
    pub inside-colours : (x c : ℕ) → is_cycle p x ≡ true → inside (colours_of p x) c ≡ true → inside x (edges_in p c) ≡ true
    inside-colours x c cy i =
        all-inside x (edges_in p c)
        (λ e t. let l = cycle-edge p x cy e t in some-edges-in p c e l (λ d k. inside-all (colours_of p x) c i d (some-colours p x e d l t k)))

    through-colours : (c v : ℕ) → inside (colours_of p (cycle_through p (edges_in p c) v)) c ≡ true
    through-colours c v =
        inside-trans (colours_of p (cycle_through p (edges_in p c) v)) (colours_of p (edges_in p c)) c
        (colours-up p (cycle_through p (edges_in p c) v) (edges_in p c) (through-inside p (edges_in p c) v)) (edges-in-colours p c)

    -- ---- full cycles
    full-through : (x : ℕ) (f : Full p x) → (is_cycle p x ≡ true) × (contains p f.state x ≡ true)
    full-through x f =
        let m = edges_in p (colours_of p x) in
        let r = through-cycle p targets m f.state f.state_lt (λ z. f.some (f.is ∙ z)) in
        (ap (is_cycle p) f.is ∙ r.0, ap (contains p f.state) f.is ∙ r.1)

    pub full-cycle : (x : ℕ) → Full p x → is_cycle p x ≡ true
    full-cycle x f = (full-through x f).0

    pub full-state : (x : ℕ) (f : Full p x) → contains p f.state x ≡ true
    full-state x f = (full-through x f).1

    -- a cycle that shares a state with a full one, and has no other colours, lies inside it
    pub full-largest : (x : ℕ) → Full p x → (z u : ℕ) → is_cycle p z ≡ true → inside (colours_of p z) (colours_of p x) ≡ true → contains p u x ≡ true → contains p u z ≡ true → inside z x ≡ true
    full-largest x f z u cy i onx onz =
        let m = edges_in p (colours_of p x) in
        subst (λ (y : ℕ). inside z y ≡ true) (sym f.is)
        (within-through m f.state u z f.state_lt (ap (contains p u) (sym f.is) ∙ onx) cy (inside-colours z (colours_of p x) cy i) onz)

    -- each cycle lies inside a full one with the same colours
    pub fill : (x : ℕ) → is_cycle p x ≡ true → (y : ℕ) × Filled x y
    fill x cy = (y, record { filled = record { some = nz; state = v; state_lt = lt; is = ap (λ (c : ℕ). cycle_through p (edges_in p c) v) (sym same) }; colours = same; above = up })
      where
        v : ℕ
        v = (cycle-state p lawful x cy).0

        lt : v < p.states
        lt = (cycle-state p lawful x cy).1

        m : ℕ
        m = edges_in p (colours_of p x)

        y : ℕ
        y = cycle_through p m v

        up : inside x y ≡ true
        up = through-largest p targets m v lt x cy (inside-colours x (colours_of p x) cy (inside-refl (colours_of p x))) (cycle-state p lawful x cy).2

        nz : y ≢ 0
        nz = let r = contains-some p v x (cycle-state p lawful x cy).2 in some-nonzero y r.0 (inside-all x y up r.0 r.2)

        same : colours_of p y ≡ colours_of p x
        same = inside-antisym (colours_of p y) (colours_of p x) (through-colours (colours_of p x) v) (colours-up p x y up)

    -- inside a full cycle, where x lies inside it
    pub fill-inside : (n : ℕ) → Full p n → (x y : ℕ) → is_cycle p x ≡ true → inside x n ≡ true → Filled x y → inside y n ≡ true
    fill-inside n f x y cy i r =
        let s = cycle-state p lawful x cy in
        full-largest n f y s.0 (full-cycle y r.filled) (subst (λ (c : ℕ). inside c (colours_of p n) ≡ true) (sym r.colours) (colours-up p x n i))
        (contains-inside p s.0 x n i s.2) (contains-inside p s.0 x y r.above s.2)
