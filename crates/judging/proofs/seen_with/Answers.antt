-- The letter has a row, whose target is a state or none. Assumes nothing.
use native.Mathlib.Omega.{arith}
use Rattle.std.proofs.Common.{ℕ, ◌≡◌, ◌+◌, ◌*◌, ◌≤◌, ◌<◌, subst, List, length}
use Rattle.lists.proofs.Numbers.{row_lt}
use Rattle.running.specs.Running.{row_states}
use Rattle.running.proofs.Laws.{shaped-facts}
use Rattle.judging.proofs.Rows.{seen-dangles, seen_moves}
use Rattle.judging.proofs.seen_with.Goals as goal

in_targets : (letters : ℕ) (t p : List ℕ) (n state a : ℕ) → n ≡ row_states letters t p → state < n → a < letters → state * letters + a < length t
unfolding row_states
in_targets letters t p n state a e h l = row_lt _ _ _ _ (subst (λ (n : ℕ). state < n) e h) l

among : (n states x : ℕ) → n ≡ states → x < n → x < states
among n states x e h = omega arith

beyond : (n states x : ℕ) → n ≡ states → n ≤ x → states ≤ x
beyond n states x e h = omega arith

pub overflow_mul-row : goal.overflow_mul-row
overflow_mul-row c = rw c.from.ensures (omega (arith, in_targets _ _ _ _ _ _ c.args.r.now.count_is c.requires.among c.requires.letter))

pub overflow_add-row : goal.overflow_add-row
overflow_add-row c = rw (c.from.ensures, c.from-2.ensures) (omega (arith, in_targets _ _ _ _ _ _ c.args.r.now.count_is c.requires.among c.requires.letter))

pub offset_bounds-r-row : goal.offset_bounds-r-row
offset_bounds-r-row c = rw (c.from.ensures, c.from-2.ensures) (omega (arith, in_targets _ _ _ _ _ _ c.args.r.now.count_is c.requires.among c.requires.letter))

pub bounds-r-row : goal.bounds-r-row
bounds-r-row c = rw (c.from.ensures, c.from-2.ensures) (in_targets _ _ _ _ _ _ c.args.r.now.count_is c.requires.among c.requires.letter)

pub returns-then-r-t : goal.returns-then-r-t
returns-then-r-t c =
    let r = c.args.r.now in
    seen-dangles r.letters r.targets.now r.priorities.now r.passes c.args.s c.args.letter (among _ _ _ r.count_is c.requires.among) c.requires.letter
    (beyond _ _ _ r.count_is (rw (c.from-t.ensures, c.from.ensures, c.from-2.ensures) at c.if-r-t.true))

pub bounds-r-row-2 : goal.bounds-r-row-2
bounds-r-row-2 c =
    rw (c.from.ensures, c.from-2.ensures)
    (omega (arith, in_targets _ _ _ _ _ _ c.args.r.now.count_is c.requires.among c.requires.letter, (shaped-facts _ _ _ c.args.r.now.passes).same))

pub returns : goal.returns
returns c =
    let r = c.args.r.now in
    rw (c.from-t.ensures, c.from.ensures, c.from-2.ensures)
    (seen_moves r.letters r.targets.now r.priorities.now r.passes c.args.s c.args.letter (among _ _ _ r.count_is c.requires.among) c.requires.letter
    (among _ _ _ r.count_is (rw (c.from-t.ensures, c.from.ensures, c.from-2.ensures) at c.if-r-t.false))
    _ (rw (c.from.ensures, c.from-2.ensures) at c.min.ensures))
