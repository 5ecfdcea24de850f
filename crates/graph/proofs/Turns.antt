-- Rows joined at each state in turn: afterwards row v is what v reaches, however the rows are kept. CodeLaws has the laws of joining.
-- Assumes nothing.
use Prim.Native.Nat.{ℕ, suc, ◌≤◌, ◌<◌}
use native.Mathlib.Omega.{arith}
use mathlib.Core.Path.{◌≡◌, sym, subst}
use mathlib.Core.Bool.{true}
use mathlib.Core.List.{List, [], ◌∷◌}
use Rattle.lists.proofs.Bools.{bool-ext}
use Rattle.masks.specs.Masks.{has, members}
use Rattle.masks.proofs.Bits.{mask-ext}
use Rattle.masks.proofs.Members.{members-has, members-lt, has-members}
use Rattle.policy.specs.declared.Policy.{Policy}
use Rattle.policy.specs.Policies.{edges, source, target_of, legal}
use Rattle.policy.proofs.Laws.{legal-target}
use Rattle.graph.specs.Cycles.{Path}
use Rattle.graph.specs.Through.{onward, join_row}
use Rattle.graph.proofs.Cycles.{Targets}
use Rattle.graph.proofs.Onward.{Onward, onward-trans, onward-some, some-onward}
use Rattle.graph.proofs.CodeLaws.{turns-keep, turns-closed, turns-sound}

-- ---- the rows joined at every state are what each state reaches
-- n rows, of which those of the states come first; the first rows have the targets of the edges in m, and no others
module _ (p : Policy) (m n : ℕ) (ok : legal p ≡ true) (few : p.states ≤ n) (row : ℕ → ℕ → ℕ) (next : (k u : ℕ) → k < n → u < n → row (suc k) u ≡ join_row (row k u) k (row k k))
    (first_sound : (u x : ℕ) → u < n → has (row 0 u) x ≡ true → Onward p m u x)
    (first_edge : (e : ℕ) → e < edges p → source p e < p.states → has m e ≡ true → has (row 0 (source p e)) (target_of p e) ≡ true) where
  targets : Targets p
  targets e l = legal-target p ok e l

  last-edge : (u e : ℕ) → u < p.states → e < edges p → source p e ≡ u → has m e ≡ true → has (row n u) (target_of p e) ≡ true
  last-edge u e l le s h =
      let ls : source p e < p.states = subst (λ (z : ℕ). z < p.states) (sym s) l in
      subst (λ (z : ℕ). has (row n z) (target_of p e) ≡ true) s (turns-keep n row next n (source p e) (target_of p e) (omega arith) (omega (arith, ls, few)) (first_edge e le ls h))

  last-path : (u e : ℕ) (w : List ℕ) (x : ℕ) → u < p.states → Path p (members (edges p) m) u (e ∷ w) x → has (row n u) x ≡ true
  last-path u e [] x l a = subst (λ (z : ℕ). has (row n u) z ≡ true) a.2 (last-edge u e l (members-lt (edges p) m e a.1) a.0 (members-has (edges p) m e a.1))
  last-path u e (f ∷ w) x l a =
      let le = members-lt (edges p) m e a.1 in
      let lt = targets e le in
      turns-closed n row next n (target_of p e) u x (omega arith) (omega (arith, lt, few)) (omega (arith, l, few)) (last-edge u e l le a.0 (members-has (edges p) m e a.1)) (last-path (target_of p e) f w x lt a.2)

  pub turns-reach : (v : ℕ) → v < p.states → row n v ≡ onward p m v
  turns-reach v l = mask-ext (row n v) (onward p m v) (λ x. bool-ext (has (row n v) x) (has (onward p m v) x) (sound x) (complete x))
    where
      sound : (x : ℕ) → has (row n v) x ≡ true → has (onward p m v) x ≡ true
      sound x h = some-onward p m v x targets (turns-sound n row next (Onward p m) (onward-trans p m) first_sound n v x (omega arith) (omega (arith, l, few)) h)

      complete : (x : ℕ) → has (onward p m v) x ≡ true → has (row n v) x ≡ true
      complete x h = let r = (onward-some p m v x h).1 in last-path v r.0 r.4.0 x l (r.3, has-members (edges p) m r.0 r.1 r.2, r.4.1)
