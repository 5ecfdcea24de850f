use mathlib.Core.Path.{sym, ap, ◌∙◌, subst}
use Prim.Native.Nat.{ℕ, ◌+◌, ◌*◌, ◌/◌, ◌≤◌, ◌<◌}
use native.Mathlib.Nat.{le_antisymm, add-zero}
use native.Mathlib.Omega.{arith}
use lib.ListN.{get_or, set, length-set}
use Rattle.masks.specs.Masks.{has}
use Rattle.steps.specs.Steps.{StepsTo}
use Rattle.steps.proofs.Table.{row-few, edge_few, place-few, steps-more}
use Rattle.steps.proofs.add_steps.Goals as goal

pub overflow_mul-first : goal.overflow_mul-first
overflow_mul-first c =
    let row : (c.args.v < 16) × (c.args.v * c.args.letters + c.args.letters ≤ 64) =
    let a = c.args in
    row-few c.requires.0.0 a.letters a.quiet a.heads.now a.colours.now c.requires.0.1 a.v c.requires.0.2 in
    omega (arith, (row).1)

pub overflow_mul-word : goal.overflow_mul-word
overflow_mul-word c =
    let row : (c.args.v < 16) × (c.args.v * c.args.letters + c.args.letters ≤ 64) =
    let a = c.args in
    row-few c.requires.0.0 a.letters a.quiet a.heads.now a.colours.now c.requires.0.1 a.v c.requires.0.2 in
    omega (arith, (row).0)

pub overflow_mul-low : goal.overflow_mul-low
overflow_mul-low c =
    let row : (c.args.v < 16) × (c.args.v * c.args.letters + c.args.letters ≤ 64) =
    let a = c.args in
    row-few c.requires.0.0 a.letters a.quiet a.heads.now a.colours.now c.requires.0.1 a.v c.requires.0.2 in
    omega (arith, (row).0)

pub loop-a-init : goal.loop-a-init
loop-a-init c =
    let a = c.args in
    (omega arith, c.requires.1, λ p parts h old. subst (λ (n : ℕ). StepsTo p a.t.now n) (sym (add-zero (a.v * a.letters))) old)

pub overflow_add-e : goal.overflow_add-e
overflow_add-e c =
    let edge : let s = c.args in let e = s.v * s.letters + c.loop-a.a in (e < 64) × (get_or s.colours.now e 0 < 8) × (get_or s.heads.now e 0 < 16) =
    let a = c.args in
    edge_few c.requires.0.0 a.letters a.quiet a.heads.now a.colours.now c.requires.0.1 a.v c.loop-a.a c.requires.0.2 c.loop-a-test.true in
    omega (arith, (edge).0)

pub entry_of-requires : goal.entry_of-requires
entry_of-requires c =
    let edge : let s = c.args in let e = s.v * s.letters + c.loop-a.a in (e < 64) × (get_or s.colours.now e 0 < 8) × (get_or s.heads.now e 0 < 16) =
    let a = c.args in
    edge_few c.requires.0.0 a.letters a.quiet a.heads.now a.colours.now c.requires.0.1 a.v c.loop-a.a c.requires.0.2 c.loop-a-test.true in
    ((edge).0, (edge).1)

pub overflow_add-i : goal.overflow_add-i
overflow_add-i c =
    let row : (c.args.v < 16) × (c.args.v * c.args.letters + c.args.letters ≤ 64) =
    let a = c.args in
    let k = c.requires.0 in
    row-few c.requires.0.0 a.letters a.quiet a.heads.now a.colours.now c.requires.0.1 a.v c.requires.0.2 in
    let edge : let s = c.args in let e = s.v * s.letters + c.loop-a.a in (e < 64) × (get_or s.colours.now e 0 < 8) × (get_or s.heads.now e 0 < 16) =
    let a = c.args in
    let k = c.requires.0 in
    edge_few c.requires.0.0 a.letters a.quiet a.heads.now a.colours.now c.requires.0.1 a.v c.loop-a.a c.requires.0.2 c.loop-a-test.true in
    let place : 9 * (c.args.v / 4) + c.entry_of.result < 36 =
    let a = c.args in
    let e = a.v * a.letters + c.loop-a.a in
    subst (λ (x : ℕ). 9 * (a.v / 4) + x < 36) (sym c.entry_of.ensures) (place-few a.v (get_or a.colours.now e 0) (has a.quiet e) (row).0 (edge).1) in
    omega (arith, place)

pub offset_bounds-t-i : goal.offset_bounds-t-i
offset_bounds-t-i c =
    let row : (c.args.v < 16) × (c.args.v * c.args.letters + c.args.letters ≤ 64) =
    let a = c.args in
    let k = c.requires.0 in
    row-few c.requires.0.0 a.letters a.quiet a.heads.now a.colours.now c.requires.0.1 a.v c.requires.0.2 in
    let edge : let s = c.args in let e = s.v * s.letters + c.loop-a.a in (e < 64) × (get_or s.colours.now e 0 < 8) × (get_or s.heads.now e 0 < 16) =
    let a = c.args in
    let k = c.requires.0 in
    edge_few c.requires.0.0 a.letters a.quiet a.heads.now a.colours.now c.requires.0.1 a.v c.loop-a.a c.requires.0.2 c.loop-a-test.true in
    let place : 9 * (c.args.v / 4) + c.entry_of.result < 36 =
    let a = c.args in
    let e = a.v * a.letters + c.loop-a.a in
    subst (λ (x : ℕ). 9 * (a.v / 4) + x < 36) (sym c.entry_of.ensures) (place-few a.v (get_or a.colours.now e 0) (has a.quiet e) (row).0 (edge).1) in
    omega (arith, place)

pub bounds-t-i : goal.bounds-t-i
bounds-t-i c =
    let row : (c.args.v < 16) × (c.args.v * c.args.letters + c.args.letters ≤ 64) =
    let a = c.args in
    let k = c.requires.0 in
    row-few c.requires.0.0 a.letters a.quiet a.heads.now a.colours.now c.requires.0.1 a.v c.requires.0.2 in
    let edge : let s = c.args in let e = s.v * s.letters + c.loop-a.a in (e < 64) × (get_or s.colours.now e 0 < 8) × (get_or s.heads.now e 0 < 16) =
    let a = c.args in
    let k = c.requires.0 in
    edge_few c.requires.0.0 a.letters a.quiet a.heads.now a.colours.now c.requires.0.1 a.v c.loop-a.a c.requires.0.2 c.loop-a-test.true in
    let place : 9 * (c.args.v / 4) + c.entry_of.result < 36 =
    let a = c.args in
    let e = a.v * a.letters + c.loop-a.a in
    subst (λ (x : ℕ). 9 * (a.v / 4) + x < 36) (sym c.entry_of.ensures) (place-few a.v (get_or a.colours.now e 0) (has a.quiet e) (row).0 (edge).1) in
    place

pub bounds-heads-e : goal.bounds-heads-e
bounds-heads-e c =
    let edge : let s = c.args in let e = s.v * s.letters + c.loop-a.a in (e < 64) × (get_or s.colours.now e 0 < 8) × (get_or s.heads.now e 0 < 16) =
    let a = c.args in
    edge_few c.requires.0.0 a.letters a.quiet a.heads.now a.colours.now c.requires.0.1 a.v c.loop-a.a c.requires.0.2 c.loop-a-test.true in
    (edge).0

pub overflow_cast-heads : goal.overflow_cast-heads
overflow_cast-heads c =
    let edge : let s = c.args in let e = s.v * s.letters + c.loop-a.a in (e < 64) × (get_or s.colours.now e 0 < 8) × (get_or s.heads.now e 0 < 16) =
    let a = c.args in
    edge_few c.requires.0.0 a.letters a.quiet a.heads.now a.colours.now c.requires.0.1 a.v c.loop-a.a c.requires.0.2 c.loop-a-test.true in
    omega (arith, (edge).2)

pub overflow_add-low : goal.overflow_add-low
overflow_add-low c =
    let edge : let s = c.args in let e = s.v * s.letters + c.loop-a.a in (e < 64) × (get_or s.colours.now e 0 < 8) × (get_or s.heads.now e 0 < 16) =
    let a = c.args in
    edge_few c.requires.0.0 a.letters a.quiet a.heads.now a.colours.now c.requires.0.1 a.v c.loop-a.a c.requires.0.2 c.loop-a-test.true in
    omega (arith, (edge).2)

pub with-requires : goal.with-requires
with-requires c =
    let edge : let s = c.args in let e = s.v * s.letters + c.loop-a.a in (e < 64) × (get_or s.colours.now e 0 < 8) × (get_or s.heads.now e 0 < 16) =
    let a = c.args in
    edge_few c.requires.0.0 a.letters a.quiet a.heads.now a.colours.now c.requires.0.1 a.v c.loop-a.a c.requires.0.2 c.loop-a-test.true in
    omega (arith, (edge).2)

pub offset_bounds-t-i-in-loop-a : goal.offset_bounds-t-i-in-loop-a
offset_bounds-t-i-in-loop-a c =
    let row : (c.args.v < 16) × (c.args.v * c.args.letters + c.args.letters ≤ 64) =
    let a = c.args in
    let k = c.requires.0 in
    row-few c.requires.0.0 a.letters a.quiet a.heads.now a.colours.now c.requires.0.1 a.v c.requires.0.2 in
    let edge : let s = c.args in let e = s.v * s.letters + c.loop-a.a in (e < 64) × (get_or s.colours.now e 0 < 8) × (get_or s.heads.now e 0 < 16) =
    let a = c.args in
    let k = c.requires.0 in
    edge_few c.requires.0.0 a.letters a.quiet a.heads.now a.colours.now c.requires.0.1 a.v c.loop-a.a c.requires.0.2 c.loop-a-test.true in
    let place : 9 * (c.args.v / 4) + c.entry_of.result < 36 =
    let a = c.args in
    let e = a.v * a.letters + c.loop-a.a in
    subst (λ (x : ℕ). 9 * (a.v / 4) + x < 36) (sym c.entry_of.ensures) (place-few a.v (get_or a.colours.now e 0) (has a.quiet e) (row).0 (edge).1) in
    omega (arith, place)

pub bounds-t-i-in-loop-a : goal.bounds-t-i-in-loop-a
bounds-t-i-in-loop-a c =
    let row : (c.args.v < 16) × (c.args.v * c.args.letters + c.args.letters ≤ 64) =
    let a = c.args in
    let k = c.requires.0 in
    row-few c.requires.0.0 a.letters a.quiet a.heads.now a.colours.now c.requires.0.1 a.v c.requires.0.2 in
    let edge : let s = c.args in let e = s.v * s.letters + c.loop-a.a in (e < 64) × (get_or s.colours.now e 0 < 8) × (get_or s.heads.now e 0 < 16) =
    let a = c.args in
    let k = c.requires.0 in
    edge_few c.requires.0.0 a.letters a.quiet a.heads.now a.colours.now c.requires.0.1 a.v c.loop-a.a c.requires.0.2 c.loop-a-test.true in
    let place : 9 * (c.args.v / 4) + c.entry_of.result < 36 =
    let a = c.args in
    let e = a.v * a.letters + c.loop-a.a in
    subst (λ (x : ℕ). 9 * (a.v / 4) + x < 36) (sym c.entry_of.ensures) (place-few a.v (get_or a.colours.now e 0) (has a.quiet e) (row).0 (edge).1) in
    place

pub loop-a-preserved : goal.loop-a-preserved
loop-a-preserved c =
    let a = c.args in
    let t = c.loop-a.t in
    let i = 9 * (a.v / 4) + c.entry_of.result in (
      omega arith,
      length-set t i c.with.result ∙ c.loop-a.invariant.1,
      λ p parts h old.
          subst (λ (x : ℕ). StepsTo p (set t i x) (a.v * a.letters + (c.loop-a.a + 1))) (sym c.with.ensures)
          (steps-more p a.letters a.quiet a.heads.now a.colours.now parts t a.v c.loop-a.a i c.loop-a.invariant.1 h c.loop-a-test.true
          (ap (λ (x : ℕ). 9 * (a.v / 4) + x) c.entry_of.ensures)
          (c.loop-a.invariant.2 p parts h old)),
    )

pub returns : goal.returns
returns c =
    let a = c.args in
    let l = c.loop-a in (
      l.invariant.1,
      λ p parts h old. subst (λ (n : ℕ). StepsTo p l.t (a.v * a.letters + n)) (le_antisymm l.invariant.0 c.loop-a-test.false) (l.invariant.2 p parts h old),
    )
