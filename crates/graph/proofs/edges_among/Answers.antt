use mathlib.Core.Path.{◌≡◌, sym, ap, ap₂, ◌∙◌}
use mathlib.Core.Bool.{true, not, ◌&&◌}
use mathlib.Core.List.{List}
use Prim.Native.Nat.{ℕ, ◌<◌}
use lib.Bits.{bit_and, bit_or, or_zero_r}
use lib.Dec.{eqb}
use lib.ListN.{get_or}
use Rattle.lists.proofs.Bools.{and_l}
use Rattle.masks.specs.Masks.{has}
use Rattle.masks.proofs.LowestMember.{without-lowest}
use Rattle.graph.specs.Through.{union, between}
use Rattle.graph.proofs.OnCycle.{union-empty, union-turn}
use Rattle.graph.proofs.edges_among.Goals as goal

pub loop-left-preserved : goal.loop-left-preserved
loop-left-preserved c =
    let at = c.loop-left in
    let a = c.args in
    let v = c.lowest-v.result in
    let low = c.lowest-v.ensures in
    let gone : (w : ℕ) → has c.both-left.result w ≡ has at.left w && not (eqb v w) = λ w. ap (λ (x : ℕ). has x w) c.both-left.ensures ∙ without-lowest at.left v w (low.0, low.2) in
    let turn : (t : List ℕ) (x : ℕ) → bit_or (bit_or x (get_or t v 0)) (union t c.both-left.result a.states) ≡ bit_or x (union t at.left a.states) = λ t x. union-turn t x at.left c.both-left.result a.states v (at.invariant.0 v low.0) low.0 gone in (
      λ w h. at.invariant.0 w (and_l (has at.left w) (not (eqb v w)) (sym (gone w) ∙ h)),
      ap (λ (x : ℕ). bit_or x (union a.out.now c.both-left.result a.states)) c.either-a.ensures ∙ turn a.out.now at.a ∙ at.invariant.1,
      ap (λ (x : ℕ). bit_or x (union a.into.now c.both-left.result a.states)) c.either-b.ensures ∙ turn a.into.now at.b ∙ at.invariant.2,
    )

-- with none left, all is gathered
gathered : (t : List ℕ) (x l s n : ℕ) → l ≡ 0 → bit_or x (union t l n) ≡ union t s n → x ≡ union t s n
gathered t x l s n z e = sym (or_zero_r x) ∙ sym (ap (bit_or x) (ap (λ (k : ℕ). union t k n) z ∙ union-empty t n)) ∙ e

pub returns : goal.returns
unfolding between
returns c =
    let at = c.loop-left in
    let a = c.args in
    let z = c.loop-left-test.false in
    c.both-2.ensures
    ∙ ap (λ (x : ℕ). bit_and x a.m) (c.both.ensures ∙ ap₂ bit_and (gathered a.out.now at.a at.left a.s a.states z at.invariant.1) (gathered a.into.now at.b at.left a.s a.states z at.invariant.2))
