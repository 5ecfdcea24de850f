-- The laws of priorities: a root's is even exactly if the root is accepting, and a child's has the other parity and is larger than its
-- parent's. Assumes nothing.
use Prim.Native.Nat.{ℕ, suc, ◌+◌, ◌%◌, ◌<◌}
use native.Mathlib.Omega.{arith}
use native.Mathlib.Decide.{ℕ_discrete}
use mathlib.Core.Path.{◌≡◌, refl, ap, ◌∙◌}
use mathlib.Core.Bool.{Bool, true, false, not, cond}
use lib.Dec.{eqb}
use Rattle.lists.proofs.Bools.{eqb≡, ≡eqb, neqb}
use Rattle.policy.specs.declared.Policy.{Policy}
use Rattle.forest.specs.Forest.{Node, is_root, even, from_zero, root_priority, priority}
use Rattle.forest.specs.Numbering.{plain_priority}

pub even-suc : (k : ℕ) → even (suc k) ≡ not (even k)
unfolding even
even-suc k = go (ℕ_discrete (k % 2) 0)
  where
    go : Dec (k % 2 ≡ 0) → eqb (suc k % 2) 0 ≡ not (eqb (k % 2) 0)
    go (yes e) = rw (≡eqb (k % 2) 0 e) (neqb (suc k % 2) 0 (λ z. absurd (omega arith)))
    go (no n) = rw (neqb (k % 2) 0 n) (≡eqb (suc k % 2) 0 (omega arith))

module _ (p : Policy) where
  -- a priority has the parity that document 01's has
  pub same-parity : (x : Node) → even (priority p x) ≡ even (plain_priority x)
  unfolding priority root_priority plain_priority even
  same-parity x = go x.accepted (from_zero p)
    where
      two : (k : ℕ) → (k + 2) % 2 ≡ (k + 0) % 2
      two k = omega arith

      go : (a z : Bool) → eqb ((x.level + cond a (cond z 0 2) 1) % 2) 0 ≡ eqb ((x.level + cond a 0 1) % 2) 0
      go true true = refl
      go true false = ap (λ (k : ℕ). eqb k 0) (two x.level)
      go false z = refl

  -- a node's level, plus 0 or 2 if its root is accepting, or 1
  pub priority_is : (x : Node) → priority p x ≡ x.level + cond x.accepted (cond (from_zero p) 0 2) 1
  unfolding priority root_priority
  priority_is x = refl

  plain-root : (x : Node) → is_root x ≡ true → even (plain_priority x) ≡ x.accepted
  unfolding plain_priority even
  plain-root x r = go x.accepted
    where
      go : (b : Bool) → eqb ((x.level + cond b 0 1) % 2) 0 ≡ b
      go true = ≡eqb ((x.level + 0) % 2) 0 (omega (arith, eqb≡ x.level 0 r))
      go false = neqb ((x.level + 1) % 2) 0 (λ z. absurd (omega (arith, eqb≡ x.level 0 r)))

  pub root-even : (x : Node) → is_root x ≡ true → even (priority p x) ≡ x.accepted
  root-even x r = same-parity x ∙ plain-root x r

  child-suc : (x y : Node) → y.level ≡ x.level + 1 → y.accepted ≡ x.accepted → priority p y ≡ suc (priority p x)
  unfolding priority
  child-suc x y l a = rw (a, l) (omega arith)

  pub child-even : (x y : Node) → y.level ≡ x.level + 1 → y.accepted ≡ x.accepted → even (priority p y) ≡ not (even (priority p x))
  child-even x y l a = ap even (child-suc x y l a) ∙ even-suc (priority p x)

  pub child-larger : (x y : Node) → y.level ≡ x.level + 1 → y.accepted ≡ x.accepted → priority p x < priority p y
  child-larger x y l a = omega (arith, child-suc x y l a)

  -- ---- beside document 01's
  pub plain-kept : from_zero p ≡ true → (x : Node) → priority p x ≡ plain_priority x
  unfolding priority root_priority plain_priority
  plain-kept t x = rw t refl

  pub plain-rejecting : (x : Node) → x.accepted ≡ false → priority p x ≡ plain_priority x
  unfolding priority root_priority plain_priority
  plain-rejecting x r = rw r refl

  pub plain-raised : from_zero p ≡ false → (x : Node) → x.accepted ≡ true → priority p x ≡ plain_priority x + 2
  unfolding priority root_priority plain_priority
  plain-raised f x a = rw (f, a) (omega arith)
