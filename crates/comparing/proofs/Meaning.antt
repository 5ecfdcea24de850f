-- What the answer of comparing means, in document 01's words: every cycle has the same verdict in both. It does not depend on which policy stands first. Assumes nothing.
use Prim.Native.Nat.{ℕ}
use mathlib.Core.Path.{◌≡◌, sym}
use mathlib.Core.Logic.{◌↔◌}
use mathlib.Core.Bool.{Bool, true, not}
use Rattle.lists.proofs.Bools.{bool-ext, agrees-same, same-agrees}
use Rattle.lists.proofs.Lists.{all-each, each_all}
use Rattle.lists.specs.Bools.{differs}
use Rattle.policy.specs.declared.Policy.{Policy}
use Rattle.policy.specs.Policies.{accepting, full}
use Rattle.policy.proofs.Laws.{legal-target}
use Rattle.graph.specs.Cycles.{Cycle, cycles_in}
use Rattle.graph.proofs.Cycles.{cycle-sound, cycle-complete}
use Rattle.graph.proofs.Inside.{cycles-mem, mem-cycles, inside-full}
use Rattle.graph.proofs.SameGraph.{same-cycle, same-graph-turned}
use Rattle.comparing.specs.Comparing.{same_verdicts}
use Rattle.comparing.specs.Pairs.{Comparable}

pub same-means : (p q : Policy) → Comparable p q → (same_verdicts p q ≡ true) ↔ ((m : ℕ) → Cycle p m → accepting p m ≡ accepting q m)
unfolding same_verdicts
same-means p q k = (there, back)
  where
    agrees : ℕ → Bool
    agrees m = not (differs (accepting p m) (accepting q m))

    there : same_verdicts p q ≡ true → (m : ℕ) → Cycle p m → accepting p m ≡ accepting q m
    there s m c =
        let cy = cycle-complete p (legal-target p k.legal_p) m c in
        sym (agrees-same (accepting p m) (accepting q m) (all-each agrees (cycles_in p (full p)) s m (mem-cycles p (full p) m cy (inside-full p m cy))))

    back : ((m : ℕ) → Cycle p m → accepting p m ≡ accepting q m) → same_verdicts p q ≡ true
    back h = each_all agrees (cycles_in p (full p)) (λ m i. same-agrees (accepting p m) (accepting q m) (sym (h m (cycle-sound p m (cycles-mem p (full p) m i).0))))

-- the questions and the answer are the same where the policies change places
pub turned : (p q : Policy) → Comparable p q → Comparable q p
turned p q k = record { legal_p = k.legal_q; legal_q = k.legal_p; same-graph = same-graph-turned p q k.same-graph }

pub same-turned : (p q : Policy) → Comparable p q → same_verdicts p q ≡ same_verdicts q p
same-turned p q k =
    bool-ext (same_verdicts p q) (same_verdicts q p)
    (λ s. (same-means q p (turned p q k)).1 (λ m c. sym ((same-means p q k).0 s m (same-cycle q p (turned p q k).same-graph m c))))
    (λ s. (same-means p q k).1 (λ m c. sym ((same-means q p (turned p q k)).0 s m (same-cycle p q k.same-graph m c))))
