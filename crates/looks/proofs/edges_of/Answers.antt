use Rattle.candidates.proofs.Live.{live-coloured}
use Rattle.candidates.specs.Candidates.{Live}
use Rattle.policy.proofs.ByColour.{table-edges-are}
use Rattle.policy.specs.ByColour.{edges_in, table_edges}
use Rattle.masks.proofs.Bits.{and-within}
use Rattle.masks.specs.Masks.{inside}
use lib.Bits.{bit_and}
use mathlib.Core.List.{List}
use mathlib.Core.Bool.{true}
use mathlib.Core.Path.{◌≡◌, sym, ap, ◌∙◌, subst}
use Prim.Native.Nat.{ℕ}
use borrow.Author.Rules.{rules}
use Rattle.looks.proofs.edges_of.Goals as goal

pub returns : goal.returns
returns c =
    let a = c.args in
    let x = c.live_in.result in
    λ p root l e are.
    let q : c.both.result ≡ bit_and (edges_in p a.c) x = c.both.ensures ∙ ap (λ (z : ℕ). bit_and z x) (c.edges_in.ensures ∙ ap (λ (t : List ℕ). table_edges t a.c) e ∙ table-edges-are p l a.c) in (
      subst (Live p root a.c) (sym q) (live-coloured p l root a.c x (c.live_in.ensures p root l are)),
      subst (λ (z : ℕ). inside z (edges_in p a.c) ≡ true) (sym q) (and-within (edges_in p a.c) x),
    )
