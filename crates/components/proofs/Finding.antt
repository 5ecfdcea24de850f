-- What finding the largest cycles state by state rests on: what is stored, and what is found so far. Assumes nothing.
use Prim.Native.Nat.{ℕ, ◌+◌, ◌<◌}
use native.Mathlib.Omega.{arith}
use mathlib.Core.Path.{◌≡◌, refl, sym, ap, ap₂, ◌∙◌, subst}
use mathlib.Core.Logic.{◌≢◌}
use mathlib.Core.Bool.{Bool, true, false, not, ◌&&◌, ◌||◌, cond, and-true, false≢true}
use mathlib.Core.List.{List, [], ◌∷◌, ◌++◌, map, append-nil}
use lib.Bits.{or_zero_r}
use lib.ListN.{length, take, set}
use Rattle.lists.specs.Lists.{flat, below}
use Rattle.lists.proofs.Bools.{and_l, and_r, not-true}
use Rattle.lists.proofs.Lists.{flat-next}
use Rattle.tables.specs.Tables.{Stored}
use Rattle.tables.proofs.Stores.{front-more, stored-none, stored-length, stored_more}
use Rattle.masks.specs.Masks.{has, minus}
use Rattle.masks.proofs.Bits.{has-minus}
use Rattle.policy.specs.declared.Policy.{Policy}
use Rattle.policy.specs.Policies.{legal}
use Rattle.policy.proofs.Laws.{legal-counts}
use Rattle.graph.specs.Cycles.{contains}
use Rattle.graph.specs.Through.{cycle_through, onward}
use Rattle.graph.proofs.Cycles.{contains-none, contains-or}
use Rattle.components.specs.Components.{lowest_is, largest_at, largest_in}
use Rattle.components.specs.Finding.{lowest_cycle, covered, largest_to, Found, Finding}
use Rattle.components.proofs.Components.{lowest-some}
use Rattle.components.proofs.Covered.{lowest-is, cycle-none, open-lowest, shut-cycle, covered_none, covered_next}

-- ---- what is stored
pub stored_is : {t₀ t : List ℕ} {n r : ℕ} {xs : List ℕ} → Stored t₀ t n r xs → (ys : List ℕ) → ys ≡ xs → Stored t₀ t n r ys
stored_is {t₀} {t} {n} {r} s ys e = subst (Stored t₀ t n r) (sym e) s

module _ (p : Policy) where
  -- ---- the largest cycles inside m, state by state
  largest-one : (m v x : ℕ) → x ≡ cycle_through p m v → lowest_is p v (cycle_through p m v) ≡ true → largest_at p m v ≡ x ∷ []
  unfolding largest_at
  largest-one m v x e t = rw t (ap (λ (y : ℕ). y ∷ []) (sym e))

  largest-none : (m v : ℕ) → 0 ≡ lowest_cycle p m v → largest_at p m v ≡ []
  unfolding largest_at lowest_cycle
  largest-none m v z = let y = cycle_through p m v in go (lowest_is p v y) (λ t. (lowest-some p v y t).0) z
    where
      go : (b : Bool) → (b ≡ true → cycle_through p m v ≢ 0) → 0 ≡ cond b (cycle_through p m v) 0 → cond b (cycle_through p m v ∷ []) [] ≡ []
      go true h q = absurd (h refl (sym q))
      go false h q = refl

  to_none : (m : ℕ) → largest_to p m 0 ≡ []
  unfolding largest_to
  to_none m = refl

  to-next : (m v : ℕ) (xs : List ℕ) → largest_at p m v ≡ xs → largest_to p m (v + 1) ≡ largest_to p m v ++ xs
  unfolding largest_to
  to-next m v xs e = flat-next (largest_at p m) v ∙ ap (λ (l : List ℕ). largest_to p m v ++ l) e

  to-all : (m n : ℕ) → n ≡ p.states → largest_to p m n ≡ largest_in p m
  unfolding largest_to largest_in
  to-all m n e = ap (λ (k : ℕ). flat (map (largest_at p m) (below k))) e

  module _ (lawful : legal p ≡ true) (m : ℕ) where
    pub finding-none : (t : List ℕ) (left : ℕ) → ((w : ℕ) → w < p.states → has left w ≡ has (onward p m w) w) → Finding p m t t left 0 0
    finding-none t left on = record {
      at_most = omega arith;
      left_are = λ w l. on w l ∙ sym (ap (λ (b : Bool). has (onward p m w) w && not b) (ap (contains p w) (covered_none p lawful m) ∙ contains-none p w) ∙ and-true (has (onward p m w) w));
      found = stored_is (stored-none t 0) (largest_to p m 0) (to_none m);
    }

    pub left-on : {t₀ t : List ℕ} {left n v : ℕ} → Finding p m t₀ t left n v → v < p.states → has left v ≡ true → has (onward p m v) v ≡ true
    left-on {t₀} {t} {left} {n} {v} f l new = and_l (has (onward p m v) v) (not (contains p v (covered p m v))) (sym (f.left_are v l) ∙ new)

    -- a state that is left: the largest cycle through it, and its states
    pub finding-open : {t₀ t t₁ : List ℕ} {left n v : ℕ} → Finding p m t₀ t left n v → v < p.states → has left v ≡ true → cycle_through p m v ≢ 0
        → (x s left₁ : ℕ) → x ≡ cycle_through p m v → ((w : ℕ) → has s w ≡ contains p w (cycle_through p m v)) → left₁ ≡ minus left s → t₁ ≡ set t n x → Finding p m t₀ t₁ left₁ (n + 1) (v + 1)
    finding-open {t₀} {t} {t₁} {left} {n} {v} f l new nz x s left₁ ex es e₁ e₂ =
        let off = not-true (contains p v (covered p m v)) (and_r (has (onward p m v) v) (not (contains p v (covered p m v))) (sym (f.left_are v l) ∙ new)) in
        let lowest = open-lowest p lawful m v l off nz in
        let next = covered_next p lawful m v x (ex ∙ sym (lowest-is p lawful m v lowest)) in
        record {
          at_most = omega (arith, f.at_most);
          left_are = λ w lw.
              ap (λ (y : ℕ). has y w) e₁ ∙ has-minus left s w
              ∙ ap₂ (λ (a b : Bool). a && not b) (f.left_are w lw) (es w)
              ∙ both-off (has (onward p m w) w) (contains p w (covered p m v)) (contains p w (cycle_through p m v))
              ∙ ap (λ (b : Bool). has (onward p m w) w && not b) (ap (λ (b : ℕ). contains p w (covered p m v) || contains p w b) (sym ex) ∙ sym (contains-or p w (covered p m v) x) ∙ ap (contains p w) (sym next));
          found = subst (λ (l : List ℕ). Stored t₀ l 0 (n + 1) (largest_to p m (v + 1))) (sym e₂) (stored_is (stored_more f.found x) (largest_to p m (v + 1)) (to-next m v (x ∷ []) (largest-one m v x ex lowest)));
        }
      where
        both-off : (a b c : Bool) → a && not b && not c ≡ a && not (b || c)
        both-off true true c = refl
        both-off true false c = refl
        both-off false b c = refl

    -- one that is not: on no cycle, or on one found
    pub finding-shut : {t₀ t : List ℕ} {left n v : ℕ} → Finding p m t₀ t left n v → v < p.states → has left v ≡ false → (has (onward p m v) v ≡ false → cycle_through p m v ≡ 0) → Finding p m t₀ t left n (v + 1)
    finding-shut {t₀} {t} {left} {n} {v} f l o off =
        let e = none (has (onward p m v) v) (contains p v (covered p m v)) refl refl (sym (f.left_are v l) ∙ o) in
        record {
          at_most = omega (arith, f.at_most);
          left_are = λ w lw. f.left_are w lw ∙ ap (λ (y : ℕ). has (onward p m w) w && not (contains p w y)) (sym (covered_next p lawful m v 0 e ∙ or_zero_r (covered p m v)));
          found = stored_is f.found (largest_to p m (v + 1)) (to-next m v [] (largest-none m v e) ∙ append-nil (largest_to p m v));
        }
      where
        none : (a b : Bool) → has (onward p m v) v ≡ a → contains p v (covered p m v) ≡ b → a && not b ≡ false → 0 ≡ lowest_cycle p m v
        none true true ea eb q = shut-cycle p lawful m v l eb
        none true false ea eb q = absurd (false≢true (sym q))
        none false b ea eb q = sym (cycle-none p lawful m v (off ea))

    pub finding-is : {t₀ t u : List ℕ} {left n v s i : ℕ} → Finding p m t₀ t left n v → u ≡ t → s ≡ left → i ≡ n → Finding p m t₀ u s i v
    finding-is {t₀} {t} {u} {left} {n} {v} {s} {i} f eu es ei = rw (eu, es, ei) f

    pub finding-all : {t₀ t : List ℕ} {left n v : ℕ} → Finding p m t₀ t left n v → v ≡ p.states → length t₀ ≡ 16 → Found p m t₀ t n
    finding-all {t₀} {t} {left} {n} {v} f e l = record {
      cycles_are = stored_is f.found (largest_in p m) (sym (to-all m v e));
      few = omega (arith, f.at_most);
      long = stored-length f.found ∙ l;
    }

  -- the cycles found, as they are read
  pub found_first : legal p ≡ true → {m n : ℕ} {t₀ t : List ℕ} → Found p m t₀ t n → take n t ≡ largest_in p m
  found_first lawful {m} {n} {t₀} {t} f =
      let e : n ≡ 0 + n = omega arith in
      ap₂ (λ (i : ℕ) (l : List ℕ). take i l) e f.cycles_are.now_is
      ∙ front-more t₀ (largest_in p m) 0 n (omega (arith, f.cycles_are.next_is)) (omega (arith, f.few, f.long, stored-length f.cycles_are, (legal-counts p lawful).states_few))
