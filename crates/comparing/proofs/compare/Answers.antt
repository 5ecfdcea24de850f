-- `compare` meets its contract: each answer is the definition's by the questions that led there. Assumes nothing.
use Rattle.std.proofs.Common.{◌≡◌, sym, ap, ap₂, ◌∙◌, refl, false, ◌&&◌, Ok, Err}
use Rattle.refusals.specs.declared.Refusal.TheVariants.{IllegalPolicy}
use Rattle.policy.specs.declared.Policy.{Policy}
use Rattle.policy.specs.Policies.{legal}
use Rattle.comparing.specs.Comparing.{Compares, refusal_of, comparison}
use Rattle.comparing.specs.Pairs.{Comparable, pairs_agree}
use Rattle.comparing.proofs.Pairs.{pairs_decide}
use Rattle.comparing.proofs.Answers.{compares}
use Rattle.comparing.proofs.compare.Goals as goal
use Rattle.comparing.proofs.compare.Goals.{then-not-is_legal-via-then-not-is_legal, then-not-is_legal-via-else-not-is_legal+then-not-is_legal-2}

illegal : (p q : Policy) → legal p && legal q ≡ false → Compares p q (Err IllegalPolicy)
unfolding comparison refusal_of
illegal p q f = compares p q _ (rw f refl)

compared : (p q : Policy) → Comparable p q → Compares p q (Ok (pairs_agree p q))
unfolding comparison refusal_of
compared p q k = compares p q _ (simp (k.legal_p, k.legal_q, k.same-graph, pairs_decide p q k))

pub returns-then-not-is_legal : goal.returns-then-not-is_legal
returns-then-not-is_legal c = illegal _ _ (elim c.then-not-is_legal.branch [
  | then-not-is_legal-via-then-not-is_legal w ↦ ap (λ b. b && legal c.args.q.now) (sym c.is_legal.ensures ∙ w.if-not-is_legal.true)
  | then-not-is_legal-via-else-not-is_legal+then-not-is_legal-2 w ↦
      ap₂ ◌&&◌ (sym c.is_legal.ensures ∙ w.if-not-is_legal.false) (sym w.is_legal-else-not-is_legal.ensures ∙ w.if-not-is_legal-2.true)
])

pub returns-then-not-has_same_graph : goal.returns-then-not-has_same_graph
unfolding comparison refusal_of
returns-then-not-has_same_graph c = compares _ _ _ (simp (sym c.if-not-is_legal.ensures, sym c.if-not-is_legal-2.ensures, sym c.if-not-has_same_graph.ensures))

pub returns : goal.returns
returns c =
    rw (c.pairs_agree.ensures, c.new.ensures)
    (compared _ _ (record { legal_p = sym c.if-not-is_legal.ensures; legal_q = sym c.if-not-is_legal-2.ensures; same-graph = sym c.if-not-has_same_graph.ensures }))
