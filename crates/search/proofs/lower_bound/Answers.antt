-- `lower_bound` meets its contract: what a search narrows down is narrowed down in the whole run. Assumes nothing.
use native.Mathlib.Omega.{arith}
use Rattle.search.proofs.Narrowing.{narrowed_none, narrowed-up, narrowed-down, narrowed-both, narrowed-bound}
use Rattle.lists.proofs.Numbers.{within}
use Rattle.search.proofs.lower_bound.Goals as goal

pub offset_bounds-entries-hint : goal.offset_bounds-entries-hint
offset_bounds-entries-hint c = omega (arith, within c.args.from c.args.to c.args.hint c.if-hint-from.false)

pub bounds-entries-hint : goal.bounds-entries-hint
bounds-entries-hint c = omega (arith, within c.args.from c.args.to c.args.hint c.if-hint-from.false)

pub overflow_add-hint : goal.overflow_add-hint
overflow_add-hint c = omega (arith, within c.args.from c.args.to c.args.hint c.if-hint-from.false)

pub stride-above-requires : goal.stride-above-requires
stride-above-requires c = let h = within c.args.from c.args.to c.args.hint c.if-hint-from.false in (omega arith, omega arith, λ i j p q r. c.requires.run.2 i j (omega arith) q (omega arith))

pub halve-requires-then-entries-hint : goal.halve-requires-then-entries-hint
halve-requires-then-entries-hint c = let h = within c.args.from c.args.to c.args.hint c.if-hint-from.false in let n = c.stride-above.ensures in (n.low_high, omega (arith, n.high_to), λ i j p q r. c.requires.run.2 i j (omega arith) q (omega arith))

pub returns-then-entries-hint : goal.returns-then-entries-hint
returns-then-entries-hint c =
    let h = within c.args.from c.args.to c.args.hint c.if-hint-from.false in
    narrowed-bound _ _ _ _ _ _ _ (narrowed-both _ _ _ _ _ _ _ _ (narrowed-up _ _ _ _ _ _ _ c.requires.run.2 (narrowed_none _ _ _ _ c.requires.run.0) h.0 h.1 (omega arith)) c.stride-above.ensures) c.halve-then-entries-hint.ensures

pub stride-below-requires : goal.stride-below-requires
stride-below-requires c = let h = within c.args.from c.args.to c.args.hint c.if-hint-from.false in (omega arith, omega arith, λ i j p q r. c.requires.run.2 i j (omega arith) q (omega arith))

pub halve-requires-2 : goal.halve-requires-2
halve-requires-2 c = let h = within c.args.from c.args.to c.args.hint c.if-hint-from.false in let n = c.stride-below.ensures in (n.low_high, omega (arith, n.high_to), λ i j p q r. c.requires.run.2 i j (omega arith) q (omega arith))

pub returns : goal.returns
returns c =
    let h = within c.args.from c.args.to c.args.hint c.if-hint-from.false in
    narrowed-bound _ _ _ _ _ _ _ (narrowed-both _ _ _ _ _ _ _ _ (narrowed-down _ _ _ _ _ _ _ c.requires.run.2 (narrowed_none _ _ _ _ c.requires.run.0) h.0 h.1 (omega arith)) c.stride-below.ensures) c.halve-2.ensures
