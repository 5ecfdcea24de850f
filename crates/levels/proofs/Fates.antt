-- What becomes of each state of the arena in a turn in which something was lost: a solution of what remains completes one of the arena. Assumes nothing.
use Prim.Native.Nat.{ℕ}
use mathlib.Core.Path.{◌≡◌, refl, sym, ap, ◌∙◌}
use mathlib.Core.Bool.{true, not}
use lib.ListN.{get_or}
use Rattle.games.proofs.Sets.{minus, minus-both, minus-never, minus-taken, layer, Layer, top, middle, bottom, layers}
use Rattle.games.proofs.Regions.{Solution}
use Rattle.games.proofs.Peel.{solution-move, arena-move, peeled, peeled-winner, peeled-choice, kept-arena}
use Rattle.levels.specs.Levels.{live}
use Rattle.levels.proofs.Levels.{Fate, stays, won}
use Rattle.levels.proofs.Turning.{Turn, Above, G, i, X, Next, lower, losts, own_letter}
use Rattle.levels.proofs.Losing.{Lost, F, second, two, B, losts-in, losts-region, Y, Y-arena, X-not-Y, mark-theirs, same-lost}
use Rattle.levels.proofs.Held.{Held, H, H-in, H-region, letter-kept, third, three, C, Z, mark-open, mark-own, same-held, Z-live}

module _ (h : Held) where
  abbrev l : Lost
  l = h.lost

  abbrev b : Above
  b = l.above

  abbrev t : Turn
  t = b.turn

  -- ---- a solution of what remains completes one of Y, and that one of X
  abbrev part : Solution (G t) t.p (live t.states h.m₄) → Solution (G t) t.p (Y l)
  part n = peeled (G t) t.p (Y l) (Y-arena l) (i t) (H h) (own_letter b) (H-in h) (H-region h) (three h) (solution-move (G t) t.p (live t.states h.m₄) (Z h) (Z-live h) n)

  abbrev whole : Solution (G t) t.p (live t.states h.m₄) → Solution (G t) t.p (X t)
  whole n = peeled (G t) t.p (X t) t.arena (not (i t)) (losts b) (lower b).choice (losts-in l) (losts-region l) (two l) (part n)

  module _ (n : Solution (G t) t.p (live t.states h.m₄)) (s : ℕ) where
    winner-is : (whole n).winner s ≡ layer (losts b s) (B l s) (not (i t)) (not (i t)) (layer (H h s) (C h s) (i t) (i t) (n.winner s))
    winner-is =
        peeled-winner (G t) t.p (X t) t.arena (not (i t)) (losts b) (lower b).choice (losts-in l) (losts-region l) (two l) (part n) s
        ∙ ap (layer (losts b s) (B l s) (not (i t)) (not (i t)))
        (peeled-winner (G t) t.p (Y l) (Y-arena l) (i t) (H h) (own_letter b) (H-in h) (H-region h) (three h) (solution-move (G t) t.p (live t.states h.m₄) (Z h) (Z-live h) n) s)

    choice-is : (whole n).choice s
        ≡ layer (losts b s) (B l s) (get_or b.c₂ s 0) ((two l).letter s) (layer (H h s) (C h s) (own_letter b s) ((three h).letter s) (n.choice s))
    choice-is =
        peeled-choice (G t) t.p (X t) t.arena (not (i t)) (losts b) (lower b).choice (losts-in l) (losts-region l) (two l) (part n) s
        ∙ ap (layer (losts b s) (B l s) (get_or b.c₂ s 0) ((two l).letter s))
        (peeled-choice (G t) t.p (Y l) (Y-arena l) (i t) (H h) (own_letter b) (H-in h) (H-region h) (three h) (solution-move (G t) t.p (live t.states h.m₄) (Z h) (Z-live h) n) s)

  fate : (s : ℕ) → X t s ≡ true → Layer (losts b s) (B l s) → Layer (H h s) (C h s)
      → Fate t.owners t.sources t.targets t.priorities t.letters t.states t.p t.m t.c h.m₄ h.c₄ whole s
  fate s e (top k) z =
      let f = minus-never (F l) (B l) s (minus-taken (X t) (losts b) s k) in
      let q = same-held h s f in
      let d = ((second l).same s ((second l).out s (minus-taken (X t) (losts b) s k))).1 in
      won (not (i t)) (q.0 ∙ mark-theirs l s e f) (λ n. (winner-is n s ∙ rw k refl, choice-is n s ∙ rw k (sym (q.1 ∙ d))))
  fate s e (middle k d) z =
      let f = minus-taken (F l) (B l) s d in
      let q = same-held h s f in
      won (not (i t)) (q.0 ∙ mark-theirs l s e f) (λ n. (winner-is n s ∙ rw (k, d) refl, choice-is n s ∙ rw (k, d) ((second l).letter s ∙ sym q.1)))
  fate s e (bottom k d) (top g) =
      let y = minus-both (F l) (B l) s (minus-both (X t) (losts b) s e k) d in
      let q = ((third h).same s ((third h).out s (minus-taken (Y l) (H h) s g))).1 in
      won (i t) (mark-own h s y (minus-never (minus (Y l) (H h)) (C h) s (minus-taken (Y l) (H h) s g)))
      (λ n. (winner-is n s ∙ rw (g, k, d) refl, choice-is n s ∙ rw (g, k, d) (letter-kept h s d ∙ sym q)))
  fate s e (bottom k d) (middle g r) =
      let y = minus-both (F l) (B l) s (minus-both (X t) (losts b) s e k) d in
      won (i t) (mark-own h s y (minus-taken (minus (Y l) (H h)) (C h) s r)) (λ n. (winner-is n s ∙ rw (g, r, k, d) refl, choice-is n s ∙ rw (g, r, k, d) ((third h).letter s)))
  fate s e (bottom k d) (bottom g r) =
      let y = minus-both (F l) (B l) s (minus-both (X t) (losts b) s e k) d in
      stays (mark-open h s (minus-both (minus (Y l) (H h)) (C h) s (minus-both (Y l) (H h) s y g) r)) (λ n. (winner-is n s ∙ rw (g, r, k, d) refl, choice-is n s ∙ rw (g, r, k, d) refl))

  pub held-step : Next t h.m₄ h.c₄
  held-step = record {
    marks_long = h.holds.remains.long ∙ h.holds.own.long ∙ h.holds.attracts.so_far.marks_long ∙ h.holds.released.long ∙ l.loses.held.long ∙ l.loses.theirs.long
        ∙ l.loses.attracts.so_far.marks_long ∙ b.solved.marks_long ∙ t.attracts.so_far.marks_long;
    choices_long = h.holds.attracts.so_far.choices_long ∙ l.loses.attracts.so_far.choices_long ∙ b.solved.choices_long ∙ t.attracts.so_far.choices_long;
    outside = λ s f. let q = same-held h s (X-not-Y l s f) in let z = same-lost l s f in (q.0 ∙ z.0, q.1 ∙ z.1);
    arena = arena-move (G t) t.p (Z h) (live t.states h.m₄) (λ s. sym (Z-live h s))
        (kept-arena (G t) t.p (Y l) (Y-arena l) (i t) (H h) (own_letter b) (H-in h) (H-region h) (three h));
    whole = whole;
    fate = λ s e. fate s e (layers (losts b s) (B l s)) (layers (H h s) (C h s));
  }
