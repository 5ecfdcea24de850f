-- The levels of a tree: how many are left at and below a mask falls with each level, a cycle has one, and there are at most 9, or 8 where no edge is quiet. No other file counts colours for it.
-- Assumes nothing.
use Prim.Native.Nat.{ℕ, ◌+◌, ◌≤◌, ◌<◌}
use native.Mathlib.Omega.{arith}
use mathlib.Core.Path.{◌≡◌, refl, sym, ap, ◌∙◌}
use mathlib.Core.Logic.{◌⊎◌, inl, inr}
use mathlib.Core.Bool.{Bool, true, false, cond, false≢true}
use mathlib.Core.List.{Memᴰ}
use lib.Count.{ones, ones-le}
use lib.Dec.{eqb}
use Rattle.lists.proofs.Bools.{test, eqb≡}
use Rattle.masks.specs.Masks.{has}
use Rattle.masks.proofs.Bits.{has-none, ones-inside}
use Rattle.policy.specs.declared.Policy.{Policy}
use Rattle.policy.specs.Policies.{colours_of, legal}
use Rattle.policy.proofs.Laws.{legal-counts, colours-lt, some-colours, plain-loud, edge-coloured}
use Rattle.graph.specs.Cycles.{Cycle, is_cycle}
use Rattle.graph.proofs.Cycles.{cycle-edge, cycle-sound}
use Rattle.forest.specs.Forest.{children, quiet_level, most_levels, levels_left}
use Rattle.forest.proofs.Children.{child-colours}

module _ (p : Policy) where
  quiet-level : quiet_level p ≤ 1
  unfolding quiet_level
  quiet-level = go (eqb p.quiet 0)
    where
      go : (b : Bool) → cond b 0 1 ≤ 1
      go true = omega arith
      go false = omega arith

  pub most-levels-few : legal p ≡ true → most_levels p ≤ 9
  unfolding most_levels
  most-levels-few lawful = omega (arith, (legal-counts p lawful).colours_few, quiet-level)

  -- document 01's bound
  plain-level-none : p.quiet ≡ 0 → quiet_level p ≡ 0
  unfolding quiet_level
  plain-level-none z = rw z

  pub plain-levels : p.quiet ≡ 0 → most_levels p ≡ p.colours
  unfolding most_levels
  plain-levels z = omega (arith, plain-level-none z)

  pub plain-levels-left : p.quiet ≡ 0 → (m : ℕ) → levels_left p m ≡ ones (colours_of p m)
  unfolding levels_left
  plain-levels-left z m = omega (arith, plain-level-none z)

  pub levels-most : legal p ≡ true → (m : ℕ) → levels_left p m ≤ most_levels p
  unfolding levels_left most_levels
  levels-most lawful m = omega (arith, ones-le p.colours (colours_of p m) (colours-lt p lawful m))

  -- a child has one less
  pub levels-child : (m c : ℕ) → Memᴰ c (children p m) → levels_left p c < levels_left p m
  unfolding levels_left
  levels-child m c k = omega (arith, child-colours p m c k)

  -- a cycle has one: its edge has a colour, unless some edge is quiet
  pub levels-some : (m : ℕ) → is_cycle p m ≡ true → 0 < levels_left p m
  unfolding levels_left quiet_level
  levels-some m c = by-quiet (test (eqb p.quiet 0))
    where
      coloured : p.quiet ≡ 0 → Cycle p m → (i : ℕ) × (has (colours_of p m) i ≡ true)
      coloured z r =
          let t : has m r.first ≡ true = (r.exact r.first).1 (Memᴰ.head refl) in
          let i = edge-coloured p r.first (plain-loud p z r.first) in
          (i.0, some-colours p m r.first i.0 (cycle-edge p m c r.first t) t i.1)

      some : p.quiet ≡ 0 → (0 ≡ colours_of p m) ⊎ (ones 0 < ones (colours_of p m)) → 0 < ones (colours_of p m)
      some z (inl e) = let i = coloured z (cycle-sound p m c) in absurd (false≢true (sym (has-none i.0) ∙ ap (λ (s : ℕ). has s i.0) e ∙ i.1))
      some z (inr l) = omega arith

      by-quiet : (eqb p.quiet 0 ≡ true) ⊎ (eqb p.quiet 0 ≡ false) → 0 < ones (colours_of p m) + cond (eqb p.quiet 0) 0 1
      by-quiet (inl t) =
          rw t (omega (arith, some (eqb≡ p.quiet 0 t) (ones-inside 0 (colours_of p m) (λ i t. absurd (false≢true (sym (has-none i) ∙ t))))))
      by-quiet (inr f) = rw f (omega arith)
