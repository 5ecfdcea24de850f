-- A run on quiet edges alone (document 02, S-5): the recurring colours are those of the recurring edges, so there is none exactly if every edge that recurs is quiet. Then the
-- verdict is that of the empty set. Assumes nothing.
use Prim.Native.Nat.{ℕ, zero, suc, ◌<◌}
use mathlib.Core.Path.{◌≡◌, refl, sym, ap, ap₂, ◌∙◌, subst}
use mathlib.Core.Logic.{◌⊎◌, inl, inr, ◌↔◌}
use mathlib.Core.Bool.{Bool, true, false, cond, false≢true}
use mathlib.Core.List.Memᴰ
use mathlib.Core.List.{List, [], ◌∷◌, ◌++◌, map, append-nil, append_assoc, Memᴰ}
use lib.Dec.{ltb}
use borrow.Author.Tests.{eq-eqb}
use Rattle.lists.specs.Lists.{flat}
use Rattle.lists.proofs.Bools.{test}
use Rattle.lists.proofs.Lists.{flat-mem, mem-flat}
use Rattle.masks.specs.Masks.{has, set_of}
use Rattle.masks.proofs.Bits.{has-none}
use Rattle.masks.proofs.Members.{none-zero}
use Rattle.masks.proofs.SetOf.{set-has}
use Rattle.recurrence.specs.Iterates.{iter, rounds}
use Rattle.recurrence.specs.Runs.{after, met, window}
use Rattle.recurrence.proofs.Recurs.{RecursInRun}
use Rattle.recurrence.proofs.Repeats.{iter-any}
use Rattle.recurrence.proofs.Runs.{after_any, recurring-window}
use Rattle.policy.specs.declared.Policy.{Policy}
use Rattle.policy.specs.Policies.{legal, edge_of, is_quiet, edge_colours, in_family}
use Rattle.policy.proofs.Laws.{quiet-colours, edge-coloured}
use Rattle.running.specs.Running.{policy_step, policy_meets}
use Rattle.running.proofs.Steps.{policy-within}
use Rattle.std.specs.Prelude.{Ok}
use Rattle.judging.specs.Judging.{recurring_colours, policy_refusal_of, policy_verdict}

module _ (p : Policy) where
  -- the edge that a letter takes; a refused letter takes none
  abbrev pub policy_takes : ℕ → ℕ → List ℕ
  policy_takes v a = cond (ltb a p.letters) (edge_of p v a ∷ []) []

  -- every edge that recurs is quiet
  abbrev pub QuietRun : ℕ → List ℕ → List ℕ → Type 0
  QuietRun v stem loop = (e : ℕ) → RecursInRun (policy_step p) policy_takes stem loop v e → is_quiet p e ≡ true

  -- ---- what is met are the colours of the edges taken
  colours : List ℕ → List ℕ
  colours es = flat (map (edge_colours p) es)

  colours-append : (es fs : List ℕ) → colours (es ++ fs) ≡ colours es ++ colours fs
  unfolding colours
  colours-append [] fs = refl
  colours-append (e ∷ es) fs = ap (λ (l : List ℕ). edge_colours p e ++ l) (colours-append es fs) ∙ sym (append_assoc (edge_colours p e) (colours es) (colours fs))

  letter-meets : (v a : ℕ) → policy_meets p v a ≡ colours (policy_takes v a)
  unfolding policy_meets colours
  letter-meets v a = go (ltb a p.letters)
    where
      go : (b : Bool) → cond b (edge_colours p (edge_of p v a)) [] ≡ flat (map (edge_colours p) (cond b (edge_of p v a ∷ []) []))
      go true = sym (append-nil (edge_colours p (edge_of p v a)))
      go false = refl

  word-meets : (w : List ℕ) (v : ℕ) → met (policy_step p) (policy_meets p) w v ≡ colours (met (policy_step p) policy_takes w v)
  unfolding met colours
  word-meets [] v = refl
  word-meets (a ∷ w) v = ap₂ (λ (x y : List ℕ). x ++ y) (letter-meets v a) (word-meets w (policy_step p v a)) ∙ sym (colours-append (policy_takes v a) (met (policy_step p) policy_takes w (policy_step p v a)))

  module _ (loop : List ℕ) where
    rounds-meet : (v i k : ℕ)
        → rounds (after (policy_step p) (policy_meets p) loop) (met (policy_step p) (policy_meets p) loop) v i k ≡ colours (rounds (after (policy_step p) policy_takes loop) (met (policy_step p) policy_takes loop) v i k)
    unfolding rounds colours
    rounds-meet v i zero = refl
    rounds-meet v i (suc k) =
        let at = iter (after (policy_step p) (policy_meets p) loop) i v in
        let same : at ≡ iter (after (policy_step p) policy_takes loop) i v = iter-any (after (policy_step p) (policy_meets p) loop) (after (policy_step p) policy_takes loop) (after_any (policy_step p) (policy_meets p) policy_takes loop) i v in
        ap₂ (λ (x y : List ℕ). x ++ y) (word-meets loop at ∙ ap (λ (u : ℕ). colours (met (policy_step p) policy_takes loop u)) same) (rounds-meet v (suc i) k)
        ∙ sym (colours-append (met (policy_step p) policy_takes loop (iter (after (policy_step p) policy_takes loop) i v)) (rounds (after (policy_step p) policy_takes loop) (met (policy_step p) policy_takes loop) v (suc i) k))

  module _ (lawful : legal p ≡ true) (v : ℕ) (among : v < p.states) (stem loop : List ℕ) where
    taken : List ℕ
    taken = window (policy_step p) policy_takes p.states stem loop v

    -- the recurring colours are those of the recurring edges
    recurring-are : recurring_colours p v stem loop ≡ set_of (colours taken)
    unfolding recurring_colours window taken
    recurring-are =
        ap set_of (ap (λ (u : ℕ). rounds (after (policy_step p) (policy_meets p) loop) (met (policy_step p) (policy_meets p) loop) u p.states p.states) (after_any (policy_step p) (policy_meets p) policy_takes stem v)
        ∙ rounds-meet loop (after (policy_step p) policy_takes stem v) p.states p.states)

    recurring-edges : (e : ℕ) → RecursInRun (policy_step p) policy_takes stem loop v e ↔ Memᴰ e taken
    unfolding taken
    recurring-edges e = recurring-window (policy_step p) policy_takes p.states (policy-within p lawful) stem loop v among e

    pub quiet-recurring : (recurring_colours p v stem loop ≡ 0) ↔ QuietRun v stem loop
    unfolding colours
    quiet-recurring = (to, from)
      where
        to : recurring_colours p v stem loop ≡ 0 → QuietRun v stem loop
        to z e r = go (test (is_quiet p e))
          where
            go : (is_quiet p e ≡ true) ⊎ (is_quiet p e ≡ false) → is_quiet p e ≡ true
            go (inl t) = t
            go (inr f) =
                let c = edge-coloured p e f in
                let there = (set-has (colours taken) c.0).1 (mem-flat (edge_colours p) taken e c.0 ((recurring-edges e).0 r) c.1) in
                absurd (false≢true (sym (has-none c.0) ∙ ap (λ (m : ℕ). has m c.0) (sym z ∙ recurring-are) ∙ there))

        from : QuietRun v stem loop → recurring_colours p v stem loop ≡ 0
        from q = recurring-are ∙ none-zero (set_of (colours taken)) none
          where
            none : (c : ℕ) → has (set_of (colours taken)) c ≡ true → ⊥
            none c t =
                let r = flat-mem (edge_colours p) taken c ((set-has (colours taken) c).0 t) in
                Memᴰ.not-nil (subst (Memᴰ c) (quiet-colours p r.0 (q r.0 ((recurring-edges r.0).1 r.1))) r.2)

    -- judged, it is accepted exactly if the empty set is in the family
    pub quiet-verdict : policy_refusal_of p v stem loop ≡ 0 → QuietRun v stem loop → policy_verdict p v stem loop ≡ Ok (record { colours = 0; accepted = in_family p 0 })
    unfolding policy_verdict
    quiet-verdict n q = rw (eq-eqb (policy_refusal_of p v stem loop) 0 n, quiet-recurring.1 q)
