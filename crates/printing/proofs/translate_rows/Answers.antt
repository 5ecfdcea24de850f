-- The beginnings have the length that was asked for. Assumes nothing.
use native.Mathlib.Omega.{arith}
use lib.ListN.{length-take}
use Rattle.printing.proofs.translate_rows.Goals as goal

pub slice_bounds-translate-end-2 : goal.slice_bounds-translate-end-2
slice_bounds-translate-end-2 c = simp length-take (omega arith)

pub slice_bounds-translate-end-4 : goal.slice_bounds-translate-end-4
slice_bounds-translate-end-4 c = simp length-take (omega arith)
