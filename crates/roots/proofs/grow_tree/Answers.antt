-- `grow_tree` meets its contract. Assumes nothing.
use native.Mathlib.Omega.{arith}
use mathlib.Core.Path.{◌≡◌, refl, sym, ◌∙◌, subst}
use mathlib.Core.Bool.{false, false≢true}
use Prim.Native.Nat.{ℕ}
use lib.ListN.{get_or}
use lib.Seq.{length-take-le}
use Rattle.trees.specs.Growing.{RootWritten}
use Rattle.roots.proofs.Roots.{verdict_is, outcome-is, root-to-write}
use Rattle.roots.proofs.grow_tree.Goals as goal

pub fill_candidates-listing-requires : goal.fill_candidates-listing-requires
fill_candidates-listing-requires c = let q = c.requires.space in record { policy = c.requires.policy; places = (omega (arith, q.some), q.accepted_long, omega (arith, q.some, q.rejecting_long), omega (arith, q.rejected_long, q.rejecting_long)) }

pub slice_bounds-lists-end : goal.slice_bounds-lists-end
slice_bounds-lists-end c =
    let q = c.requires.policy in
    let o = c.fill_candidates-listing.ensures q.0 q.1 q.2 q.3 in
    o.accepting_long

pub slice_bounds-lists-end-then-listing : goal.slice_bounds-lists-end-then-listing
slice_bounds-lists-end-then-listing c =
    let q = c.requires.policy in
    let o = c.fill_candidates-listing.ensures q.0 q.1 q.2 q.3 in
    sym (length-take-le c.fill_candidates-listing.result.counts.accepting _ o.accepting_long)

pub slice_bounds-lists-end-then-listing-2 : goal.slice_bounds-lists-end-then-listing-2
slice_bounds-lists-end-then-listing-2 c =
    let q = c.requires.policy in
    let o = c.fill_candidates-listing.ensures q.0 q.1 q.2 q.3 in
    o.rejecting_long

pub slice_bounds-lists-end-then-listing-3 : goal.slice_bounds-lists-end-then-listing-3
slice_bounds-lists-end-then-listing-3 c =
    let q = c.requires.policy in
    let o = c.fill_candidates-listing.ensures q.0 q.1 q.2 q.3 in
    sym (length-take-le c.fill_candidates-listing.result.counts.rejecting _ o.rejecting_long)

pub grow_root-next-requires : goal.grow_root-next-requires
grow_root-next-requires c =
    let q = c.requires.policy in
    let l = c.fill_candidates-listing in
    let family = c.args.g.now.policy.now.family in
    let used = c.colours_in.result in
    (q.0, root-to-write q.1.graph.lawful q.3 (outcome-is c.if-listing.true (l.ensures q.0 q.1 q.2 q.3)) c.requires.space l.auto.accepting l.auto.rejecting c.requires.tables.0 c.requires.tables.1 (get_or family used false) (verdict_is q.1 family q.2 c.args.m used c.colours_in.ensures))

pub returns-then-listing : goal.returns-then-listing
returns-then-listing c =
    λ p t f root.
    let a = c.args in
    let l = c.fill_candidates-listing in
    let family = a.g.now.policy.now.family in
    let used = c.colours_in.result in
    let tree = c.grow_root-next.ensures.tree p (root-to-write t.graph.lawful root (outcome-is c.if-listing.true (l.ensures p t f root)) c.requires.space l.auto.accepting l.auto.rejecting c.requires.tables.0 c.requires.tables.1 (get_or family used false) (verdict_is t family f a.m used c.colours_in.ensures)) in
    record {
      written = λ next e. let same : c.grow_root-next.result ≡ next = cc in subst (λ (n : ℕ). RootWritten p a.m a.at n a.masks.now a.parents.now c.grow_root-next.new.masks c.grow_root-next.new.parents) same tree;
      masks_same = λ e. cc;
      parents_same = λ e. cc;
      enough = λ _ e. cc;
    }

pub returns : goal.returns
returns c =
    λ p t f root.
    let l = c.fill_candidates-listing in
    record {
      written = λ next e. absurd (cc);
      masks_same = λ _. refl;
      parents_same = λ _. refl;
      enough = λ h _. false≢true (sym c.if-listing.false ∙ (l.ensures p t f root).enough (omega (arith, l.auto.accepting)) (omega (arith, l.auto.rejecting, c.requires.space.rejecting_long)));
    }
