-- What the tests in the code say: the targets of the edges, the steps of comparing one pair of colour sets, and the answer by its number and its value. Assumes nothing.
use Prim.Native.Nat.{ℕ, ◌<◌}
use lib.Dec.{eqb}
use lib.ListN.{get_or}
use mathlib.Core.Path.{◌≡◌, refl, sym, ap, ap₂, ◌∙◌}
use mathlib.Core.Logic.{◌≢◌}
use mathlib.Core.Bool.{Bool, true, false, not, ◌&&◌, ◌||◌, cond}
use mathlib.Core.List.{List}
use Rattle.lists.specs.Lists.{all, below}
use Rattle.lists.proofs.Bools.{≡eqb, neqb}
use Rattle.policy.specs.declared.Policy.{Policy}
use Rattle.policy.specs.Policies.{edges, target_of, legal}
use Rattle.policy.proofs.Laws.{legal-target}
use Rattle.masks.specs.Masks.{has}
use Rattle.graph.specs.Cycles.{contains}
use Rattle.graph.specs.Through.{cycle_through, Rows, EndsOf, cycle_states, between}
use Rattle.graph.proofs.Through.{through_same}
use Rattle.graph.proofs.OnCycle.{off-cycle, on-cycle, states_are, between-through}
use Rattle.graph.specs.SameGraph.{same_target, same_targets, same_graph}
use Rattle.comparing.specs.Pairs.{pair_edges, exactly, no_cycle_at, same_head}
use Rattle.comparing.specs.Comparing.{Compares, number_of, same_of, refusal_of, same_verdicts, comparison}
use Rattle.std.specs.Prelude.{Result, Ok, Err}
use Rattle.refusals.specs.declared.Refusal.{Refusal}
use Rattle.refusals.specs.Refusals.{refusal}
use Rattle.lists.specs.Questions.{ask}

-- ---- targets
module _ (t u : List ℕ) where
  pub head-same : (e : ℕ) → get_or t e 0 ≡ get_or u e 0 → same_head t u e ≡ true
  unfolding same_head
  head-same e h = ≡eqb (get_or t e 0) (get_or u e 0) h

  pub head-other : (e : ℕ) → get_or t e 0 ≢ get_or u e 0 → same_head t u e ≡ false
  unfolding same_head
  head-other e h = neqb (get_or t e 0) (get_or u e 0) h

  pub targets_by : (p q : Policy) → t ≡ p.target → u ≡ q.target → all (same_head t u) (below (edges p)) ≡ same_targets p q
  unfolding same_targets same_target same_head target_of
  targets_by p q et eu = ap₂ (λ (x y : List ℕ). all (λ (e : ℕ). eqb (get_or x e 0) (get_or y e 0)) (below (edges p))) et eu

module _ (p q : Policy) where
  -- ---- one pair
  pub none-empty : (c d v : ℕ) → cycle_through p (pair_edges p q c d) v ≡ 0 → no_cycle_at p q c d v ≡ true
  unfolding no_cycle_at
  none-empty c d v z = ap (λ (b : Bool). b || not (exactly p q c d (cycle_through p (pair_edges p q c d) v))) (≡eqb (cycle_through p (pair_edges p q c d) v) 0 z)

  pub none-same : (c d v w : ℕ) → cycle_through p (pair_edges p q c d) w ≡ cycle_through p (pair_edges p q c d) v → no_cycle_at p q c d v ≡ true → no_cycle_at p q c d w ≡ true
  unfolding no_cycle_at
  none-same c d v w e h = ap (λ (x : ℕ). eqb x 0 || not (exactly p q c d x)) e ∙ h

  pub none-some : (c d v : ℕ) → cycle_through p (pair_edges p q c d) v ≢ 0 → no_cycle_at p q c d v ≡ not (exactly p q c d (cycle_through p (pair_edges p q c d) v))
  unfolding no_cycle_at
  none-some c d v z = ap (λ (b : Bool). b || not (exactly p q c d (cycle_through p (pair_edges p q c d) v))) (neqb (cycle_through p (pair_edges p q c d) v) 0 z)

  -- ---- the answer, by its number and its value
  -- each answer but 0 is the number of its refusal
  asked-number : (x y : Bool) → let n = ask x 7 (ask y 15 0) in (b : Bool) → number_of (cond (eqb n 0) (Ok b) (Err (refusal n))) ≡ n
  asked-number true true b = refl
  asked-number true false b = refl
  asked-number false y b = refl

  pub compares : (x : Result Bool Refusal) → x ≡ comparison p q → Compares p q x
  unfolding comparison refusal_of
  compares x e = record {
    answer_is = e;
    number_is = ap number_of e ∙ asked-number (legal p && legal q) (same_graph p q) (same_verdicts p q);
    same_is = ap same_of e ∙ same (eqb (refusal_of p q) 0) (same_verdicts p q);
  }
    where
      same : (z b : Bool) → same_of (cond z (Ok b) (Err (refusal (refusal_of p q)))) ≡ cond z b false
      same true b = refl
      same false b = refl

-- ---- one pair, by the rows of its edges m
module _ (p q : Policy) (c d m v : ℕ) (ok : legal p ≡ true) (its : m ≡ pair_edges p q c d) {rows : List ℕ} (is : Rows p m rows) (l : v < p.states) where
  -- the largest cycle, by the edges of the pair
  through-its : (u : ℕ) → cycle_through p m u ≡ cycle_through p (pair_edges p q c d) u
  through-its u = ap (λ (k : ℕ). cycle_through p k u) its

  pub none-off : has (get_or rows v 0) v ≡ false → no_cycle_at p q c d v ≡ true
  none-off f = none-empty p q c d v (sym (through-its v) ∙ off-cycle p ok m v rows is l f)

  -- v is on a cycle: s are its states, and x its edges
  module _ (on : has (get_or rows v 0) v ≡ true) (out into : List ℕ) (ends : EndsOf p out into) (x s : ℕ) (es : s ≡ cycle_states rows v) (n : ℕ) (en : n ≡ p.states) (ex : x ≡ between out into m s n) where
    verdict : no_cycle_at p q c d v ≡ not (exactly p q c d x)
    verdict =
        let found : x ≡ cycle_through p m v = ex ∙ ap₂ (between out into m) es en ∙ between-through p ok m v rows is l on out into ends in
        none-some p q c d v (λ z. on-cycle p ok m v rows is l on (through-its v ∙ z)) ∙ ap (λ (y : ℕ). not (exactly p q c d y)) (sym (found ∙ through-its v))

    pub some-here : exactly p q c d x ≡ true → no_cycle_at p q c d v ≡ false
    some-here h = verdict ∙ ap not h

    pub none_here : exactly p q c d x ≡ false → no_cycle_at p q c d v ≡ true
    none_here h = verdict ∙ ap not h

    -- the other states of the cycle
    pub none-there : no_cycle_at p q c d v ≡ true → (w : ℕ) → has s w ≡ true → no_cycle_at p q c d w ≡ true
    none-there h w t =
        let on-it : contains p w (cycle_through p m v) ≡ true = sym (states_are p ok m v rows is l on w) ∙ sym (ap (λ (k : ℕ). has k w) es) ∙ t in
        none-same p q c d v w (sym (through-its w) ∙ through_same p (λ e k. legal-target p ok e k) m v w l on-it ∙ through-its v) h
