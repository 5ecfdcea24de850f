-- The forest by a list of pending nodes, as a loop with a stack builds it: the first is placed, and its children are pending in its stead.
-- Assumes nothing.
use Prim.Native.Nat.{ℕ, zero, suc, ◌+◌, ◌<◌}
use native.Mathlib.Omega.{arith}
use native.Mathlib.Nat.{add_assoc, add-zero}
use native.Mathlib.Numerals.{add-one}
use mathlib.Core.Path.{◌≡◌, refl, sym, ap, ap₂, ◌∙◌}
use mathlib.Core.Bool.{Bool}
use mathlib.Core.List.{List, [], ◌∷◌, ◌++◌, map, append_assoc, Memᴰ}
use lib.Count.{ones}
use lib.ListN.{length, length-append}
use Rattle.policy.specs.declared.Policy.{Policy}
use Rattle.policy.specs.Policies.{edges, accepting}
use Rattle.forest.specs.Forest.{Node, trees, tree, forest, children, roots}

abbrev pub pending : ℕ → ℕ → Bool → ℕ → Node
pending parent level accepted m = record { mask = m; parent = parent; level = level; accepted = accepted }

pub trees-same : (s t : ℕ → ℕ → List Node) (ms : List ℕ) → ((m : ℕ) → Memᴰ m ms → (n : ℕ) → s n m ≡ t n m) → (n : ℕ) → trees s n ms ≡ trees t n ms
unfolding trees
trees-same s t [] h n = refl
trees-same s t (m ∷ ms) h n =
    let e = h m (Memᴰ.head refl) n in
    ap₂ (λ (x y : List Node). x ++ y) e (ap (λ (x : List Node). trees s (n + length x) ms) e ∙ trees-same s t ms (λ c k. h c (Memᴰ.tail k)) (n + length (t n m)))

module _ (p : Policy) where
  -- the trees of the pending nodes, one after the other, numbered from n
  unfoldable pub planted : ℕ → ℕ → List Node → List Node
  planted k n [] = []
  planted k n (x ∷ xs) = let t = tree p k x.parent x.level x.accepted n x.mask in t ++ planted k (n + length t) xs

  -- the children of x, placed at n
  abbrev pub pending_children : ℕ → Node → List Node
  pending_children n x = map (pending n (x.level + 1) x.accepted) (children p x.mask)

  abbrev pub pending_roots : List Node
  pending_roots = map (λ (m : ℕ). pending 65535 0 (accepting p m) m) (roots p)

  planted-append : (k n : ℕ) (xs ys : List Node) → planted k n (xs ++ ys) ≡ planted k n xs ++ planted k (n + length (planted k n xs)) ys
  unfolding planted
  planted-append k n [] ys = ap (λ (a : ℕ). planted k a ys) (sym (add-zero n))
  planted-append k n (x ∷ xs) ys =
      let t : List Node = tree p k x.parent x.level x.accepted n x.mask in
      let r : List Node = planted k (n + length t) xs in
      let e : n + length t + length r ≡ n + length (t ++ r) = add_assoc n (length t) (length r) ∙ ap (λ (a : ℕ). n + a) (sym (length-append t r)) in
      ap (λ (z : List Node). t ++ z) (planted-append k (n + length t) xs ys ∙ ap (λ (a : ℕ). r ++ planted k a ys) e) ∙ sym (append_assoc t r (planted k (n + length (t ++ r)) ys))

  planted-trees : (k n : ℕ) (parent level : ℕ) (a : ℕ → Bool) (ms : List ℕ) → planted k n (map (λ (m : ℕ). pending parent level (a m) m) ms) ≡ trees (λ (n m : ℕ). tree p k parent level (a m) n m) n ms
  unfolding planted trees
  planted-trees k n parent level a [] = refl
  planted-trees k n parent level a (m ∷ ms) =
      let t = tree p k parent level (a m) n m in
      ap (λ (z : List Node). t ++ z) (planted-trees k (n + length t) parent level a ms)

  -- the loop begins with the roots
  pub forest-planted : forest p ≡ planted (suc (edges p)) 0 pending_roots
  unfolding forest
  forest-planted = ap (λ (k : ℕ). trees (λ n m. tree p k 65535 0 (accepting p m) n m) 0 (roots p)) (add-one (edges p)) ∙ sym (planted-trees (suc (edges p)) 0 65535 0 (accepting p) (roots p))

-- a child has fewer edges, so there is an end
module _ (p : Policy) (fewer : (m c : ℕ) → Memᴰ c (children p m) → ones c < ones m) where
  -- enough levels are enough
  pub tree-enough : (k parent level : ℕ) (accepted : Bool) (n m : ℕ) → ones m < k → tree p (suc k) parent level accepted n m ≡ tree p k parent level accepted n m
  unfolding tree
  tree-enough zero parent level accepted n m l = absurd (omega arith)
  tree-enough (suc k) parent level accepted n m l =
      ap {B = List Node} (λ x. pending parent level accepted m ∷ x)
      (trees-same (tree p (suc k) n (level + 1) accepted) (tree p k n (level + 1) accepted) (children p m) (λ c q n'. tree-enough k n (level + 1) accepted n' c (omega (arith, fewer m c q))) (n + 1))

  -- one turn: the first pending node is placed at n, and its children are pending in its stead
  pub planted-turn : (k n : ℕ) (x : Node) (xs : List Node) → ones x.mask < suc k → planted p (suc k) n (x ∷ xs) ≡ x ∷ planted p (suc k) (n + 1) (pending_children p n x ++ xs)
  unfolding planted tree
  planted-turn k n x xs l =
      let cs : List ℕ = children p x.mask in
      let a : Bool = x.accepted in
      let t : List Node = trees (tree p k n (x.level + 1) a) (n + 1) cs in
      let e : planted p (suc k) (n + 1) (pending_children p n x) ≡ t
      = planted-trees p (suc k) (n + 1) n (x.level + 1) (λ _. a) cs
      ∙ trees-same (tree p (suc k) n (x.level + 1) a) (tree p k n (x.level + 1) a) cs (λ c q i. tree-enough k n (x.level + 1) a i c (omega (arith, fewer x.mask c q))) (n + 1) in
      let s : n + suc (length t) ≡ n + 1 + length t = omega arith in
      ap {B = List Node} (λ z. x ∷ z)
      (ap (λ (i : ℕ). t ++ planted p (suc k) i xs) s
      ∙ sym (planted-append p (suc k) (n + 1) (pending_children p n x) xs ∙ ap (λ (z : List Node). z ++ planted p (suc k) (n + 1 + length z) xs) e))
