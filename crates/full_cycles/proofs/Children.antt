-- The children of a full cycle are full. Assumes nothing.
use Prim.Native.Nat.{ℕ}
use mathlib.Core.Path.{◌≡◌, sym, ◌∙◌, subst}
use mathlib.Core.Bool.{true}
use mathlib.Core.List.{Memᴰ}
use Rattle.masks.specs.Masks.{inside}
use Rattle.masks.proofs.Bits.{properly-inside}
use Rattle.policy.specs.declared.Policy.{Policy}
use Rattle.policy.specs.Policies.{accepting, legal}
use Rattle.policy.proofs.Laws.{accepting-colours}
use Rattle.graph.specs.Cycles.{is_cycle}
use Rattle.forest.specs.Forest.{opposed, children}
use Rattle.forest.proofs.Largest.{inside-same, largest-order-mem}
use Rattle.forest.proofs.Children.{mem-opposed, child}
use Rattle.full_cycles.specs.Full.{Full}
use Rattle.full_cycles.proofs.Full.{full-cycle, fill, fill-inside}

module _ (p : Policy) where
  -- a child lies inside no larger cycle of its verdict inside its parent
  pub child-largest : (y x k : ℕ) → Memᴰ x (children p y) → is_cycle p k ≡ true → inside k y ≡ true → accepting p k ≡ accepting p x → inside x k ≡ true → x ≡ k
  unfolding children
  child-largest y x k m cy i v t = inside-same x k t ((largest-order-mem (opposed p y) x m).1 k (mem-opposed p y k cy i (v ∙ (child p y x m).turned)))

module _ (p : Policy) (lawful : legal p ≡ true) where
  child-inside : (y x : ℕ) → Memᴰ x (children p y) → inside x y ≡ true
  child-inside y x k = properly-inside x y (child p y x k).within

  pub child-full : (y x : ℕ) → Full p y → Memᴰ x (children p y) → Full p x
  child-full y x f k =
      let cy = (child p y x k).cycle in
      let z = fill p lawful x cy in
      let n = z.0 in
      let i = fill-inside p lawful y f x n cy (child-inside y x k) z.1 in
      subst (Full p) (sym (child-largest p y x n k (full-cycle p lawful n z.1.filled) i (accepting-colours p n x z.1.colours) z.1.above)) z.1.filled
