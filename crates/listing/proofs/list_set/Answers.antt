use Rattle.listing.proofs.Steps.{on-colours, step-accepting, step-rejecting}
use Rattle.listing.specs.Listing.{Settled, Listed}
use Rattle.listing.specs.declared.Counts.{Counts}
use lib.Seq.{length-take-le}
use lib.ListN.{take}
use Prim.Native.Nat.{ℕ, ◌-◌}
use mathlib.Core.Bool.{Bool}
use mathlib.Core.List.{List}
use mathlib.Core.Path.{sym, ◌∙◌, subst}
use Rattle.listing.proofs.list_set.Goals as goal

pub slice_bounds-list_side-end-then-v : goal.slice_bounds-list_side-end-then-v
slice_bounds-list_side-end-then-v c = sym (length-take-le c.args.listed.rejecting c.args.rejecting.now c.requires.rejecting.0.long)

pub slice_bounds-list_side-end-then-v-3 : goal.slice_bounds-list_side-end-then-v-3
slice_bounds-list_side-end-then-v-3 c = sym (length-take-le c.args.listed.rejecting c.args.rejected.now c.requires.rejecting.0.hues_long)

pub list_side-n-requires : goal.list_side-n-requires
list_side-n-requires c = record { other = c.requires.rejecting.0.hues_are; room = c.requires.accepting; live = c.requires.live }

pub returns-then-v : goal.returns-then-v
returns-then-v c =
    let a = c.args in
    let n = c.list_side-n in
    let e = n.result.cycles.edges in
    let k : Counts = record { accepting = n.result.cycles.count; rejecting = a.listed.rejecting } in
    record {
      listed = λ p root used t f eu h i ev eup w em s.
          subst (λ (l : List ℕ). Listed p a.g.now.by root (used - n.result.left) n.new.same n.new.own a.rejecting.now a.rejected.now l k) (sym n.ensures.edges.1)
          (step-accepting t root used eu a.c h a.accepting.now a.accepted.now a.rejecting.now a.rejected.now a.live.now a.listed a.m w e (n.ensures.edges.0 p t) n.result.left s i em a.up eup n.ensures.left.0 n.ensures.left.1 (sym ev ∙ c.if-v.true) (n.ensures.masks p t) n.ensures.hues
          (subst (λ (b : Bool). Settled p b a.up a.c e (take a.listed.rejecting a.rejecting.now) (take n.result.cycles.count n.new.same) n.result.left) c.if-v.true (n.ensures.settled p t f (on-colours p a.c a.m e (n.ensures.edges.0 p t).within em))));
      left = n.ensures.left.1;
    }

pub slice_bounds-list_side-end-3 : goal.slice_bounds-list_side-end-3
slice_bounds-list_side-end-3 c = sym (length-take-le c.args.listed.accepting c.args.accepting.now c.requires.accepting.0.long)

pub slice_bounds-list_side-end-5 : goal.slice_bounds-list_side-end-5
slice_bounds-list_side-end-5 c = sym (length-take-le c.args.listed.accepting c.args.accepted.now c.requires.accepting.0.hues_long)

pub list_side-n-requires-2 : goal.list_side-n-requires-2
list_side-n-requires-2 c = record { other = c.requires.accepting.0.hues_are; room = c.requires.rejecting; live = c.requires.live }

pub returns : goal.returns
returns c =
    let a = c.args in
    let n = c.list_side-n-2 in
    let e = n.result.cycles.edges in
    let k : Counts = record { accepting = a.listed.accepting; rejecting = n.result.cycles.count } in
    record {
      listed = λ p root used t f eu h i ev eup w em s.
          subst (λ (l : List ℕ). Listed p a.g.now.by root (used - n.result.left) a.accepting.now a.accepted.now n.new.same n.new.own l k) (sym n.ensures.edges.1)
          (step-rejecting t root used eu a.c h a.accepting.now a.accepted.now a.rejecting.now a.rejected.now a.live.now a.listed a.m w e (n.ensures.edges.0 p t) n.result.left s i em a.up eup n.ensures.left.0 n.ensures.left.1 (sym ev ∙ c.if-v.false) (n.ensures.masks p t) n.ensures.hues
          (subst (λ (b : Bool). Settled p b a.up a.c e (take a.listed.accepting a.accepting.now) (take n.result.cycles.count n.new.same) n.result.left) c.if-v.false (n.ensures.settled p t f (on-colours p a.c a.m e (n.ensures.edges.0 p t).within em))));
      left = n.ensures.left.1;
    }
