use native.Mathlib.Omega.{arith}
use mathlib.Core.Path.{sym, ◌∙◌}
use Rattle.siblings.proofs.Carrying.{carrying-none, carrying-put, carrying-past, carrying-all}
use Rattle.siblings.proofs.insert.Goals as goal
use Rattle.siblings.proofs.insert.Goals.{then-is_before, else-is_before}

pub loop-j-init : goal.loop-j-init
loop-j-init c =
    let a = c.args in
    (omega arith, carrying-none a.list.now a.count a.i a.kids.now c.requires.0 (omega arith))

pub is_before-requires : goal.is_before-requires
is_before-requires c =
    let v = c.loop-j.invariant.1 in
    let k = v.each c.loop-j.j c.loop-j-test.true in
    (omega (arith, v.carry_in, k), omega (arith, v.carry_in, k))

pub loop-j-preserved : goal.loop-j-preserved
loop-j-preserved c =
    let l = c.args.list.now in (
      c.loop-j.invariant.0,
      elim c.if-is_before.branch [
        | then-is_before w ↦
            rw (w.kids-is, w.carry-is)
            (carrying-put l c.loop-j.invariant.1 c.loop-j-test.true c.loop-j.invariant.0 (sym c.is_before.ensures ∙ w.if-is_before.true))
        | else-is_before w ↦
            rw (w.kids-is, w.carry-is)
            (carrying-past l c.loop-j.invariant.1 c.loop-j-test.true c.loop-j.invariant.0 (sym c.is_before.ensures ∙ w.if-is_before.false))
      ],
    )

pub returns : goal.returns
returns c = carrying-all c.args.list.now c.loop-j.invariant.1 c.loop-j-test.false c.loop-j.invariant.0
