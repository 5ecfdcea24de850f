-- The table of the steps: of no edge, with one edge more, and of all edges after the last state. Assumes nothing.
use Prim.Native.Nat.{ℕ, ◌+◌, ◌*◌, ◌/◌, ◌%◌, ◌≤◌, ◌<◌}
use native.Mathlib.Omega.{arith}
use native.Mathlib.Decide.{ℕ_discrete}
use native.Mathlib.Nat.{mul-le-mul_right, suc-mul}
use native.Mathlib.Numerals.{add-one}
use mathlib.Core.Path.{◌≡◌, sym, ap, ap₂, ◌∙◌, subst}
use mathlib.Core.Logic.{◌≢◌}
use mathlib.Core.Bool.{Bool, true, false, ◌&&◌, ◌||◌, cond, or-false}
use mathlib.Core.List.{List}
use lib.Dec.{eqb}
use lib.ListN.{length, get_or, set, replicate}
use lib.Seq.{get_or-set_same, get_or-set_other}
use Rattle.lists.specs.Lists.{any, below}
use Rattle.lists.proofs.Bools.{and_l, and_r, both, eqb≡, ≡eqb, not-true, not-false, bool-ext}
use Rattle.lists.proofs.Lists.{replicate-at}
use Rattle.lists.proofs.AnyAll.{any_snoc}
use Rattle.masks.specs.Masks.{has, insert}
use Rattle.masks.proofs.Bits.{has-none, has-insert}
use Rattle.policy.specs.declared.Policy.{Policy}
use Rattle.policy.specs.Policies.{edges, edge_of, source, target_of, colour_of, is_quiet}
use Rattle.policy.specs.ByColour.{entry_of}
use Rattle.policy.proofs.Laws.{legal-counts, legal-target, edges_le, edge-lt, source-edge}
use Rattle.policy.proofs.ByColour.{colour-few}
use Rattle.steps.specs.Steps.{leads_by, EdgesOf, StepsTo, StepsOf}

-- an entry is one of nine
entry-few : (b : Bool) (c : ℕ) → c < 8 → cond b 8 c < 9
entry-few true c l = omega arith
entry-few false c l = omega arith

-- and its place is within the table
pub place-few : (v c : ℕ) (b : Bool) → v < 16 → c < 8 → 9 * (v / 4) + cond b 8 c < 36
place-few v c b l h = omega (arith, entry-few b c h)

module _ (p : Policy) where
  -- ---- one edge
  pub leads-parts : (c v w e : ℕ) → leads_by p c v w e ≡ true → (entry_of p e ≡ c) × (source p e ≡ v) × (target_of p e ≡ w)
  unfolding leads_by
  leads-parts c v w e t =
      let r = and_r (eqb (entry_of p e) c) (eqb (source p e) v && eqb (target_of p e) w) t in (
        eqb≡ (entry_of p e) c (and_l (eqb (entry_of p e) c) (eqb (source p e) v && eqb (target_of p e) w) t),
        eqb≡ (source p e) v (and_l (eqb (source p e) v) (eqb (target_of p e) w) r),
        eqb≡ (target_of p e) w (and_r (eqb (source p e) v) (eqb (target_of p e) w) r),
      )

  pub parts-lead : (c v w e : ℕ) → entry_of p e ≡ c → source p e ≡ v → target_of p e ≡ w → leads_by p c v w e ≡ true
  unfolding leads_by
  parts-lead c v w e g s h =
      both (eqb (entry_of p e) c) (eqb (source p e) v && eqb (target_of p e) w) (≡eqb (entry_of p e) c g)
      (both (eqb (source p e) v) (eqb (target_of p e) w) (≡eqb (source p e) v s) (≡eqb (target_of p e) w h))

  -- ---- the table: of no edges, and with edge e, which leads from v to w₀ and stands in entry c₀
  pub steps-none : StepsTo p (replicate 36 0) 0
  steps-none j c i w _ _ _ _ = ap (λ (m : ℕ). has m (16 * i + w)) (replicate-at 36 (9 * j + c) 0) ∙ has-none (16 * i + w)

  step-more : (t : List ℕ) (c₀ v w₀ e : ℕ) → length t ≡ 36 → v < 16 → c₀ < 9 → w₀ < 16 → entry_of p e ≡ c₀ → source p e ≡ v → target_of p e ≡ w₀ → StepsTo p t e
      → StepsTo p (set t (9 * (v / 4) + c₀) (insert (get_or t (9 * (v / 4) + c₀) 0) (16 * (v % 4) + w₀))) (e + 1)
  step-more t c₀ v w₀ e long v-few c-few w-few c-is v-is w-is old j c i w lj lc li lw =
      bit (ℕ_discrete (9 * j + c) k) ∙ ap (λ (b : Bool). b || leads) (old j c i w lj lc li lw)
      ∙ sym (any_snoc (leads_by p c (4 * j + i) w) (below e) e) ∙ ap (λ (x : ℕ). any (leads_by p c (4 * j + i) w) (below x)) (sym (add-one e))
    where
      k : ℕ
      k = 9 * (v / 4) + c₀

      n : ℕ
      n = 16 * (v % 4) + w₀

      after : List ℕ
      after = set t k (insert (get_or t k 0) n)

      leads : Bool
      leads = leads_by p c (4 * j + i) w e

      same : 9 * j + c ≡ k → eqb n (16 * i + w) ≡ leads
      same q =
          bool-ext (eqb n (16 * i + w)) leads
          (λ u. let d = eqb≡ n (16 * i + w) u in parts-lead c (4 * j + i) w e (omega arith) (omega arith) (omega arith))
          (λ u. let r = leads-parts c (4 * j + i) w e u in ≡eqb n (16 * i + w) (omega (arith, r.0, r.1, r.2)))

      other : 9 * j + c ≢ k → leads ≡ false
      other q = not-true leads (not-false leads (λ u. let r = leads-parts c (4 * j + i) w e u in q (omega (arith, r.0, r.1, r.2))))

      bit : Dec (9 * j + c ≡ k) → has (get_or after (9 * j + c) 0) (16 * i + w) ≡ has (get_or t (9 * j + c) 0) (16 * i + w) || leads
      bit (yes q) =
          ap (λ (x : ℕ). has (get_or after x 0) (16 * i + w)) q ∙ ap (λ (m : ℕ). has m (16 * i + w)) (get_or-set_same t k (insert (get_or t k 0) n) 0 (omega arith))
          ∙ has-insert (get_or t k 0) n (16 * i + w)
          ∙ ap₂ (λ (x : ℕ) (b : Bool). has (get_or t x 0) (16 * i + w) || b) (sym q) (same q)
      bit (no q) =
          ap (λ (m : ℕ). has m (16 * i + w)) (get_or-set_other t k (9 * j + c) (insert (get_or t k 0) n) 0 q) ∙ sym (or-false (has (get_or t (9 * j + c) 0) (16 * i + w)))
          ∙ ap (λ (b : Bool). has (get_or t (9 * j + c) 0) (16 * i + w) || b) (sym (other q))

  -- ---- the same, by the parts of a policy
  module _ (letters quiet : ℕ) (heads colours : List ℕ) (parts : EdgesOf p letters quiet heads colours) where
    -- the edges of a state, and what is recorded of one
    pub row-few : (v : ℕ) → v < p.states → (v < 16) × (v * letters + letters ≤ 64)
    row-few v h =
        let few = legal-counts p parts.lawful in (
          omega (arith, few.states_few),
          subst (λ (k : ℕ). v * k + k ≤ 64) (sym parts.letters_are) (omega (arith, few.edges_few, mul-le-mul_right p.letters h, suc-mul v p.letters)),
        )

    edge-is : (v a : ℕ) → edge_of p v a ≡ v * letters + a
    unfolding edge_of
    edge-is v a = ap (λ (k : ℕ). v * k + a) (sym parts.letters_are)

    edge-within : (v a : ℕ) → v < p.states → a < letters → v * letters + a < edges p
    edge-within v a h l = subst (λ (e : ℕ). e < edges p) (edge-is v a) (edge-lt p v a h (omega (arith, parts.letters_are)))

    from-state : (v a : ℕ) → a < letters → source p (v * letters + a) ≡ v
    from-state v a l = ap (source p) (sym (edge-is v a)) ∙ source-edge p parts.lawful v a (omega (arith, parts.letters_are))

    entry-is : (e : ℕ) → entry_of p e ≡ cond (has quiet e) 8 (get_or colours e 0)
    unfolding entry_of is_quiet colour_of
    entry-is e = ap₂ (λ (m : ℕ) (l : List ℕ). cond (has m e) 8 (get_or l e 0)) (sym parts.quiet_is) (sym parts.colours_are)

    target_is : (e : ℕ) → target_of p e ≡ get_or heads e 0
    unfolding target_of
    target_is e = ap (λ (l : List ℕ). get_or l e 0) (sym parts.heads_are)

    recorded-few : (e : ℕ) → e < edges p → get_or colours e 0 < 8
    unfolding colour_of
    recorded-few e l = subst (λ (c : List ℕ). get_or c e 0 < 8) (sym parts.colours_are) (colour-few p parts.lawful e l)

    head_few : (e : ℕ) → e < edges p → get_or heads e 0 < 16
    head_few e l = omega (arith, target_is e, legal-target p parts.lawful e l, (legal-counts p parts.lawful).states_few)

    pub edge_few : (v a : ℕ) → v < p.states → a < letters → (v * letters + a < 64) × (get_or colours (v * letters + a) 0 < 8) × (get_or heads (v * letters + a) 0 < 16)
    edge_few v a h l =
        let e = v * letters + a in
        let le = edge-within v a h l in
        (omega (arith, edges_le p parts.lawful, le), recorded-few e le, head_few e le)

    -- one edge more, at place i
    pub steps-more : (t : List ℕ) (v a i : ℕ) → length t ≡ 36 → v < p.states → a < letters
        → i ≡ 9 * (v / 4) + cond (has quiet (v * letters + a)) 8 (get_or colours (v * letters + a) 0)
        → StepsTo p t (v * letters + a)
        → StepsTo p (set t i (insert (get_or t i 0) (16 * (v % 4) + get_or heads (v * letters + a) 0))) (v * letters + (a + 1))
    steps-more t v a i long h l at old =
        let e = v * letters + a in
        let c = cond (has quiet e) 8 (get_or colours e 0) in
        let r = edge_few v a h l in
        let more = step-more t c v (get_or heads e 0) e long (row-few v h).0 (entry-few (has quiet e) (get_or colours e 0) r.1) r.2 (entry-is e) (from-state v a l) (target_is e) old in
        let next : e + 1 ≡ v * letters + (a + 1) = omega arith in
        subst (λ (n : ℕ). StepsTo p (set t i (insert (get_or t i 0) (16 * (v % 4) + get_or heads e 0))) n) next
        (subst (λ (i : ℕ). StepsTo p (set t i (insert (get_or t i 0) (16 * (v % 4) + get_or heads e 0))) (e + 1)) (sym at) more)

    -- one state more
    pub steps_next : (t : List ℕ) (v : ℕ) → StepsTo p t (v * letters + letters) → StepsTo p t ((v + 1) * letters)
    steps_next t v h =
        let next : v * letters + letters ≡ (v + 1) * letters = sym (ap (λ (k : ℕ). k * letters) (add-one v) ∙ suc-mul v letters) in
        subst (λ (n : ℕ). StepsTo p t n) next h

    -- all states
    pub steps_all : (t : List ℕ) (n : ℕ) → n ≡ p.states → StepsTo p t (n * letters) → StepsOf p t
    unfolding edges
    steps_all t n done h = record { step_is = subst (λ (n : ℕ). StepsTo p t n) (ap₂ ◌*◌ done parts.letters_are) h }
