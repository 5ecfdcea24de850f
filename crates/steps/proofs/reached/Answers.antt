-- `reached` meets its contract: with rows in one word, in two and in four. Assumes nothing.
use native.Mathlib.Omega.{arith}
use mathlib.Core.Path.{◌∙◌}
use Rattle.steps.proofs.Sets.{rowed-4, rowed-8, rowed-16, rows-reach}
use Rattle.steps.proofs.reached.Goals as goal

pub returns-then-states-le4 : goal.returns-then-states-le4
returns-then-states-le4 c =
    let g = c.args in
    λ p ok is steps v l.
    let a = c.word_of-a.result in
    c.closed.ensures v (omega (arith, c.if-states-le4.true, l))
    ∙ rows-reach p ok g.steps.now steps g.s a 0 0 0 4 (rowed-4 p ok g.steps.now steps g.s a 0 0 0 c.word_of-a.ensures) (omega arith) (omega (arith, is, c.if-states-le4.true)) v (omega (arith, is, l))

pub returns-then-states-le8 : goal.returns-then-states-le8
returns-then-states-le8 c =
    let g = c.args in
    λ p ok is steps v l.
    let a = c.word_of-a.result in
    let b = c.word_of-b.result in
    c.closed-then-states-le8.ensures v (omega (arith, c.if-states-le8.true, l))
    ∙ rows-reach p ok g.steps.now steps g.s a b 0 0 8 (rowed-8 p ok g.steps.now steps g.s a b 0 0 c.word_of-a.ensures c.word_of-b.ensures) (omega arith) (omega (arith, is, c.if-states-le8.true)) v (omega (arith, is, l))

pub returns : goal.returns
returns c =
    let g = c.args in
    λ p ok is steps v l.
    let m = c.word_of-d.result in
    c.closed_16.ensures v (omega (arith, c.requires, l))
    ∙ rows-reach p ok g.steps.now steps g.s c.word_of-a.result c.word_of-b.result c.word_of-c.result m 16 (rowed-16 p ok g.steps.now steps g.s c.word_of-a.result c.word_of-b.result c.word_of-c.result m c.word_of-a.ensures c.word_of-b.ensures c.word_of-c.ensures c.word_of-d.ensures) (omega arith) (omega (arith, is, c.requires)) v (omega (arith, is, l))
