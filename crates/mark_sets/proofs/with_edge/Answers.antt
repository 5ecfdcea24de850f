-- `with_edge` meets its contract: the mark set is a ninth one, a new one, or one of those before. Assumes nothing.
use mathlib.Core.Path.{sym, ◌∙◌}
use Rattle.mark_sets.proofs.Turns.{coloured-ninth, coloured-new, coloured-old}
use Rattle.mark_sets.proofs.with_edge.Goals as goal
use Rattle.mark_sets.proofs.with_edge.Goals.{in-Some, in-None-2}

pub returns-in-None : goal.returns-in-None
returns-in-None c l long is = coloured-ninth l _ _ is _ c.from-count.ensures _ long c.requires.0 (sym c.place_of.ensures ∙ c.in-None.is) c.if-count-eq8.true

pub returns : goal.returns
returns c l long is = elim c.match-place_of.branch [
  | in-Some w ↦ rw (w.r-is, w.c-is) (coloured-old l _ _ is _ c.from-count.ensures _ long c.requires.0 _ (sym c.place_of.ensures ∙ w.in-Some.is))
  | in-None-2 w ↦ rw (w.r-is, w.c-is) (coloured-new l _ _ is _ c.from-count.ensures _ long c.requires.0 (sym c.place_of.ensures ∙ w.in-None.is) w.if-count-eq8.false)
]
