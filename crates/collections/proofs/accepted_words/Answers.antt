use native.Mathlib.Omega.{arith}
use Rattle.collections.proofs.Sets.{four-words}
use Rattle.collections.proofs.Upward.{pushing-more, pushing-all}
use Rattle.collections.proofs.accepted_words.Goals as goal
use Rattle.collections.proofs.accepted_words.Invariants.{all, from}

pub loop-j-init : goal.loop-j-init
loop-j-init c = (omega arith, λ x l. absurd (omega arith), λ x l. absurd (omega arith), λ x l. absurd (omega arith), λ x l. absurd (omega arith))

pub loop-j-smaller : goal.loop-j-smaller
loop-j-smaller c = omega (arith, c.loop-j-test.true)

pub loop-j-preserved : goal.loop-j-preserved
loop-j-preserved c =
    let some = c.loop-j-test.true in
    let f = c.args.family.now in
    let j = c.loop-j.j in (
      omega (arith, c.loop-j.invariant.0),
      pushing-more (all f) 64 j c.loop-j.a c.pushed-a.result (omega arith) some c.loop-j.invariant.1 c.pushed-a.ensures,
      pushing-more (from f 64) 64 j c.loop-j.b c.pushed-b.result (omega arith) some c.loop-j.invariant.2 c.pushed-b.ensures,
      pushing-more (from f 128) 64 j c.loop-j.c c.pushed-c.result (omega arith) some c.loop-j.invariant.3 c.pushed-c.ensures,
      pushing-more (from f 192) 64 j c.loop-j.d c.pushed-d.result (omega arith) some c.loop-j.invariant.4 c.pushed-d.ensures,
    )

pub returns : goal.returns
returns c =
    let l = c.loop-j in
    let f = c.args.family.now in
    let none = c.loop-j-test.false in
    four-words (all f) l.a l.b l.c l.d (pushing-all (all f) 64 l.j l.a none l.invariant.1) (pushing-all (from f 64) 64 l.j l.b none l.invariant.2) (pushing-all (from f 128) 64 l.j l.c none l.invariant.3) (pushing-all (from f 192) 64 l.j l.d none l.invariant.4)
