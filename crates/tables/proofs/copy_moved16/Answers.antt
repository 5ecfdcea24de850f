use Prim.Native.Nat.{ℕ, ◌-◌, ◌+◌}
use native.Mathlib.Omega.{arith}
use mathlib.Core.Path.{sym, ◌∙◌, ap}
use lib.ListN.{get_or}
use Rattle.lists.proofs.Lists.{get_or-mem}
use Rattle.tables.specs.Copies.{part, moved}
use Rattle.tables.proofs.Copies.{copying-none, copying-long, copying-more, copying-read, copying-all, length_part, length_moved, get_d_moved}
use Rattle.tables.proofs.copy_moved16.Goals as goal

pub loop-j-init : goal.loop-j-init
loop-j-init c = let a = c.args in copying-none (moved (a.at - a.from) (part a.size a.from a.t.now)) a.t.now a.at

pub offset_bounds-t-from : goal.offset_bounds-t-from
offset_bounds-t-from c = omega (arith, copying-long c.loop-j.invariant)

pub bounds-t-from : goal.bounds-t-from
bounds-t-from c = omega (arith, copying-long c.loop-j.invariant)

pub overflow_add-t-in-loop-j : goal.overflow_add-t-in-loop-j
overflow_add-t-in-loop-j c =
    let a = c.args in
    let l = part a.size a.from a.t.now in
    omega (arith, copying-read c.loop-j.invariant a.size a.from (omega arith) (omega arith), c.requires.3 (get_or l c.loop-j.j 0) (get_or-mem l c.loop-j.j 0 (omega (arith, length_part a.size a.from a.t.now (omega arith)))))

pub offset_bounds-t-at : goal.offset_bounds-t-at
offset_bounds-t-at c = omega (arith, copying-long c.loop-j.invariant)

pub bounds-t-at : goal.bounds-t-at
bounds-t-at c = omega (arith, copying-long c.loop-j.invariant)

pub loop-j-preserved : goal.loop-j-preserved
loop-j-preserved c =
    let a = c.args in
    let l = part a.size a.from a.t.now in
    let long = length_part a.size a.from a.t.now (omega arith) in
    copying-more c.loop-j.invariant (omega (arith, long, length_moved (a.at - a.from) l)) _ (ap (λ (x : ℕ). x + (a.at - a.from)) (copying-read c.loop-j.invariant a.size a.from (omega arith) (omega arith)) ∙ sym (get_d_moved (a.at - a.from) l c.loop-j.j (omega (arith, long))))

pub shape_of-t : goal.shape_of-t
shape_of-t c = copying-long c.loop-j.invariant

pub returns : goal.returns
returns c =
    let a = c.args in
    let l = part a.size a.from a.t.now in
    copying-all c.loop-j.invariant (omega (arith, length_part a.size a.from a.t.now (omega arith), length_moved (a.at - a.from) l))
