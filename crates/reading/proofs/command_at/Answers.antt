-- `reading::command_at` meets its contract: where the operands are all there, their places are within the bytes.
-- Assumes nothing.
use Prim.Native.Nat.{ℕ, ◌≤◌, ◌<◌}
use native.Mathlib.Omega.{arith}
use mathlib.Core.Path.{◌≡◌}
use mathlib.Core.Bool.{false}
use lib.Dec.{eqb}
use borrow.Author.Tests.{eq-eqb, ne_eqb}
use Rattle.reading.specs.Reading.{command_at}
use Rattle.reading.proofs.Questions.{room, shape-count, edge_count, accept-count, quiet-count}
use Rattle.reading.proofs.command_at.Goals as goal

-- a code below n is none from n on, and one from n on none below
under : {x n : ℕ} → x < n → (k : ℕ) → n ≤ k → eqb x k ≡ false
under {x} h k l = ne_eqb x k (λ e. absurd (omega arith))

over : {x n : ℕ} → n ≤ x → (k : ℕ) → k < n → eqb x k ≡ false
over {x} h k l = ne_eqb x k (λ e. absurd (omega arith))

pub bounds-bytes-at-then-code-eq1 : goal.bounds-bytes-at-then-code-eq1
bounds-bytes-at-then-code-eq1 c = omega (arith, room _ _ 4 c.requires.1 (shape-count c.if-code-eq1.true) c.requires.0)

pub bounds-bytes-at-then-code-eq1-2 : goal.bounds-bytes-at-then-code-eq1-2
bounds-bytes-at-then-code-eq1-2 c = omega (arith, room _ _ 4 c.requires.1 (shape-count c.if-code-eq1.true) c.requires.0)

pub bounds-bytes-at-then-code-eq1-3 : goal.bounds-bytes-at-then-code-eq1-3
bounds-bytes-at-then-code-eq1-3 c = omega (arith, room _ _ 4 c.requires.1 (shape-count c.if-code-eq1.true) c.requires.0)

pub bounds-bytes-at-then-code-eq1-4 : goal.bounds-bytes-at-then-code-eq1-4
bounds-bytes-at-then-code-eq1-4 c = omega (arith, room _ _ 4 c.requires.1 (shape-count c.if-code-eq1.true) c.requires.0)

pub returns-then-code-eq1 : goal.returns-then-code-eq1
unfolding command_at
returns-then-code-eq1 c = simp (eq-eqb _ _ c.if-code-eq1.true)

pub bounds-bytes-at-then-code-eq2 : goal.bounds-bytes-at-then-code-eq2
bounds-bytes-at-then-code-eq2 c = omega (arith, room _ _ 4 c.requires.1 (edge_count c.if-code-eq2.true) c.requires.0)

pub bounds-bytes-at-then-code-eq2-2 : goal.bounds-bytes-at-then-code-eq2-2
bounds-bytes-at-then-code-eq2-2 c = omega (arith, room _ _ 4 c.requires.1 (edge_count c.if-code-eq2.true) c.requires.0)

pub bounds-bytes-at-then-code-eq2-3 : goal.bounds-bytes-at-then-code-eq2-3
bounds-bytes-at-then-code-eq2-3 c = omega (arith, room _ _ 4 c.requires.1 (edge_count c.if-code-eq2.true) c.requires.0)

pub bounds-bytes-at-then-code-eq2-4 : goal.bounds-bytes-at-then-code-eq2-4
bounds-bytes-at-then-code-eq2-4 c = omega (arith, room _ _ 4 c.requires.1 (edge_count c.if-code-eq2.true) c.requires.0)

pub returns-then-code-eq2 : goal.returns-then-code-eq2
unfolding command_at
returns-then-code-eq2 c = simp (ne_eqb _ _ c.if-code-eq1.false, eq-eqb _ _ c.if-code-eq2.true)

pub returns-then-code-lt3 : goal.returns-then-code-lt3
unfolding command_at
returns-then-code-lt3 c = simp (ne_eqb _ _ c.if-code-eq1.false, ne_eqb _ _ c.if-code-eq2.false, under c.if-code-lt3.true 3 (omega arith), under c.if-code-lt3.true 4 (omega arith))

pub bounds-bytes-at-then-code-eq3 : goal.bounds-bytes-at-then-code-eq3
bounds-bytes-at-then-code-eq3 c = omega (arith, room _ _ 1 c.requires.1 (accept-count c.if-code-eq3.true) c.requires.0)

pub returns-then-code-eq3 : goal.returns-then-code-eq3
unfolding command_at
returns-then-code-eq3 c = rw c.if-code-eq3.true

pub bounds-bytes-at-then-code-eq4 : goal.bounds-bytes-at-then-code-eq4
bounds-bytes-at-then-code-eq4 c = omega (arith, room _ _ 3 c.requires.1 (quiet-count c.if-code-eq4.true) c.requires.0)

pub bounds-bytes-at-then-code-eq4-2 : goal.bounds-bytes-at-then-code-eq4-2
bounds-bytes-at-then-code-eq4-2 c = omega (arith, room _ _ 3 c.requires.1 (quiet-count c.if-code-eq4.true) c.requires.0)

pub bounds-bytes-at-then-code-eq4-3 : goal.bounds-bytes-at-then-code-eq4-3
bounds-bytes-at-then-code-eq4-3 c = omega (arith, room _ _ 3 c.requires.1 (quiet-count c.if-code-eq4.true) c.requires.0)

pub returns-then-code-eq4 : goal.returns-then-code-eq4
unfolding command_at
returns-then-code-eq4 c = rw c.if-code-eq4.true

pub returns : goal.returns
unfolding command_at
returns c = simp (over c.if-code-lt3.false 1 (omega arith), over c.if-code-lt3.false 2 (omega arith), ne_eqb _ _ c.if-code-eq3.false, ne_eqb _ _ c.if-code-eq4.false)
