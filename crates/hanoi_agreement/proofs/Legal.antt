-- Where a document is read, reading answers with its policy, and that is legal. Assumes nothing.
use Prim.Native.Nat.{ℕ, ◌*◌, ◌^◌, ◌≤◌, ◌<◌}
use native.Mathlib.Omega.{arith}
use mathlib.Core.Path.{◌≡◌, refl, sym, ap, ◌∙◌, subst}
use mathlib.Core.Logic.{◌⊎◌, inl, inr}
use mathlib.Core.Bool.{Bool, true, false, ◌&&◌, false≢true}
use Rattle.std.specs.Prelude.{Ok, Err}
use lib.Dec.{eqb, ltb, leb}
use lib.ListN.{length}
use borrow.Author.Tests.{lt-ltb, le-leb}
use Rattle.lists.specs.Lists.{below}
use Rattle.lists.proofs.Bools.{test, and_l, and_r, both, ≡eqb, lt-true, lt-false, le-true}
use Rattle.lists.proofs.Lists.{each_all, below-lt, get_or-mem}
use Rattle.policy.specs.declared.Policy.{Policy}
use Rattle.policy.specs.Policies.{edges, target_of, colour_of, in_family, counts_fit, legal_counts, legal_edge, legal_edges, legal_set, legal_family, legal}
use Rattle.policy.proofs.Laws.{parts-legal}
use Rattle.policy.proofs.LegalTests.{legal-quiet-none}
use Rattle.mark_sets.specs.MarkSets.{union_at}
use Rattle.hanoi.specs.Documents.{plain, Document, letters, lawful}
use Rattle.hanoi.specs.Meaning.{holds, edges_of, mark_sets, named, policy_of}
use Rattle.hanoi.specs.Answers.{Answer, answer_of, policy_read}
use Rattle.hanoi.proofs.Documents.{colour-lt, start-lt, letters_some, letters_few, edges-long, edge-target, colours_some}
use Rattle.hanoi_agreement.proofs.PolicyOf.{edge, target-at, colour-at, past-target, past-colour, no-quiet, family-at}

-- ---- the answer
abbrev pub is_read : Answer → Bool
is_read (Ok p) = true
is_read (Err e) = false

pub record IsRead (d : Document) : Type 0 where
  pub states_few : d.states ≤ 16
  pub edges_few : d.states * letters d ≤ 64
  pub colours_few : length (mark_sets d) ≤ 8
  pub answer_is : answer_of d ≡ Ok (policy_of d)

-- where it was read, both tests were passed, and the policy is the document's
pub read-parts : (d : Document) → is_read (answer_of d) ≡ true → IsRead d
unfolding answer_of
read-parts d h = go (test small) (test few)
  where
    small : Bool
    small = leb d.states 16 && leb (d.states * letters d) 64

    few : Bool
    few = leb (length (mark_sets d)) 8

    go : (small ≡ true) ⊎ (small ≡ false) → (few ≡ true) ⊎ (few ≡ false) → IsRead d
    go (inl a) (inl b) = record {
      states_few = le-true d.states 16 (and_l (leb d.states 16) (leb (d.states * letters d) 64) a);
      edges_few = le-true (d.states * letters d) 64 (and_r (leb d.states 16) (leb (d.states * letters d) 64) a);
      colours_few = le-true (length (mark_sets d)) 8 b;
      answer_is = rw (a, b) refl;
    }
    go (inl a) (inr b) = absurd (false≢true (rw (a, b) at h))
    go (inr a) b = absurd (false≢true (rw a at h))

pub read-policy : (d : Document) → is_read (answer_of d) ≡ true → policy_read (answer_of d) ≡ policy_of d
read-policy d h = ap policy_read (read-parts d h).answer_is

-- ---- it is legal
module _ (d : Document) (ok : lawful d ≡ true) (r : IsRead d) where
  abbrev p : Policy
  p = policy_of d

  counts-fit : legal_counts p ≡ true
  unfolding legal_counts counts_fit policy_of
  counts-fit =
      rw (
        le-leb 1 d.states (omega (arith, start-lt d ok)),
        le-leb d.states 16 r.states_few,
        le-leb 1 (letters d) (letters_some d ok),
        le-leb (letters d) 8 (letters_few d ok),
        le-leb 1 (length (mark_sets d)) (colours_some d ok),
        le-leb (length (mark_sets d)) 8 r.colours_few,
        le-leb (d.states * letters d) 64 r.edges_few,
      )
      (lt-ltb d.start d.states (start-lt d ok))

  edges_are : edges p ≡ length (edges_of d)
  unfolding edges policy_of
  edges_are = sym (edges-long d ok)

  edge-legal : (e : ℕ) → (ltb e (edges p) ≡ true) ⊎ (ltb e (edges p) ≡ false) → legal_edge p e ≡ true
  unfolding legal_edge policy_of
  edge-legal e (inl t) =
      let l : e < length (edges_of d) = omega (arith, lt-true e (edges p) t, edges_are) in
      let m = get_or-mem (edges_of d) e (plain 0) l in
      rw t (both (ltb (target_of p e) d.states) (ltb (colour_of p e) (length (mark_sets d)))
      (lt-ltb (target_of p e) d.states (subst (λ (x : ℕ). x < d.states) (sym (target-at d e)) (edge-target d ok (edge d e) m)))
      (lt-ltb (colour_of p e) (length (mark_sets d)) (subst (λ (x : ℕ). x < length (mark_sets d)) (sym (colour-at d e l)) (colour-lt d (edge d e) m))))
  edge-legal e (inr f) =
      let l : length (edges_of d) ≤ e = omega (arith, lt-false e (edges p) f, edges_are) in
      rw f (both (eqb (target_of p e) 0) (eqb (colour_of p e) 0) (≡eqb (target_of p e) 0 (past-target d e l)) (≡eqb (colour_of p e) 0 (past-colour d e l)))

  set-legal : (s : ℕ) → s < 256 → (in_family p s ≡ true) ⊎ (in_family p s ≡ false) → legal_set p s ≡ true
  unfolding legal_set named policy_of
  set-legal s l (inl t) =
      let h = sym (family-at d s l) ∙ t in
      let within = and_l (ltb 0 s && ltb s (2 ^ length (mark_sets d))) (holds (union_at (mark_sets d) s (length (mark_sets d))) d.formula) h in
      rw t (and_r (ltb 0 s) (ltb s (2 ^ length (mark_sets d))) within)
  set-legal s l (inr f) = rw f refl

  pub policy-legal : legal p ≡ true
  unfolding legal_edges legal_family
  policy-legal =
      parts-legal p counts-fit (each_all (legal_edge p) (below 64) (λ e m. edge-legal e (test (ltb e (edges p)))))
      (sym (legal-quiet-none p (no-quiet d)))
      (each_all (legal_set p) (below 256) (λ s m. set-legal s (below-lt 256 s m) (test (in_family p s))))

pub read-legal : (d : Document) → lawful d ≡ true → is_read (answer_of d) ≡ true → legal (policy_of d) ≡ true
read-legal d ok h = policy-legal d ok (read-parts d h)
