-- `trees::mask_at` meets its contract. Assumes nothing.
use Prim.Native.Nat.{ℕ, ◌+◌, ◌-◌}
use native.Mathlib.Omega.{arith}
use mathlib.Core.Path.{◌≡◌, sym, ap, ◌∙◌}
use mathlib.Core.List.{◌++◌}
use lib.ListN.{length, get_or, get_or-append}
use lib.Seq.{get_or-append-add}
use Rattle.trees.proofs.mask_at.Goals as goal

pub returns-then-i-accepting : goal.returns-then-i-accepting
returns-then-i-accepting c = let a = c.args in sym (get_or-append a.lists.now.accepting.now a.lists.now.rejecting.now 0 a.i c.if-i-accepting.true)

pub returns : goal.returns
returns c =
    let a = c.args in
    let e : length a.lists.now.accepting.now + (a.i - length a.lists.now.accepting.now) ≡ a.i = omega arith in
    sym (ap (λ (k : ℕ). get_or (a.lists.now.accepting.now ++ a.lists.now.rejecting.now) k 0) (sym e) ∙ get_or-append-add a.lists.now.accepting.now a.lists.now.rejecting.now (a.i - length a.lists.now.accepting.now) 0)
