use Prim.Native.Nat.{ℕ, ◌+◌, ◌<◌}
use native.Mathlib.Omega.{arith}
use mathlib.Core.Path.{◌≡◌, refl, subst}
use mathlib.Core.Bool.{Bool, false}
use mathlib.Core.List.{List}
use lib.Dec.{eqb}
use lib.ListN.{length, get_or}
use Rattle.lists.proofs.Bools.{neqb, ≡eqb}
use Rattle.hanoi_tokens.proofs.Names.{Quoted, unnamed-other, quoted-none, quoted-back, quoted-plain, quoted-line, quoted-end, quoted-all}
use Rattle.hanoi_tokens.proofs.read_name.Goals.{then-b-eq92+else-text-i+else-text-i-eq10, else-b-eq92}
use Rattle.hanoi_tokens.proofs.read_name.Goals as goal

-- behind a byte that is no quote
behind : (text : List ℕ) (m a i : ℕ) → i < length text → get_or text i 0 < 256 → Quoted text m a i false → eqb (get_or text i 0) 34 ≡ false → Quoted text m a (i + 1) (eqb (get_or text i 0) 92)
behind text m a i l w k n = quoted-plain text m a i l w false k refl n

pub returns-then-first-ne34 : goal.returns-then-first-ne34
returns-then-first-ne34 c = unnamed-other _ _ _ c.in_ok-first.ensures (neqb _ _ c.if-first-ne34.true)

pub loop-i-init : goal.loop-i-init
loop-i-init c = quoted-none _ _ _ c.in_ok-first.ensures c.if-first-ne34.false

pub returns-then-b-eq34 : goal.returns-then-b-eq34
returns-then-b-eq34 c = quoted-all _ _ _ _ false c.loop-i.invariant refl c.loop-i-test.true c.if-b-eq34.true

pub returns-then-text-i : goal.returns-then-text-i
returns-then-text-i c =
    let b : get_or c.args.text.now c.loop-i.i 0 < 256 = omega (arith, c.type_inv.text c.loop-i.i) in
    quoted-end _ _ _ _ _ (behind _ _ _ _ c.loop-i-test.true b c.loop-i.invariant (neqb _ _ c.if-b-eq34.false)) c.if-text-i.true

pub returns-then-text-i-eq10 : goal.returns-then-text-i-eq10
returns-then-text-i-eq10 c =
    let b : get_or c.args.text.now c.loop-i.i 0 < 256 = omega (arith, c.type_inv.text c.loop-i.i) in
    let next : get_or c.args.text.now (c.loop-i.i + 1) 0 < 256 = omega (arith, c.type_inv.text (c.loop-i.i + 1)) in
    quoted-line _ _ _ _ (omega (arith, c.if-text-i.false)) next _ (behind _ _ _ _ c.loop-i-test.true b c.loop-i.invariant (neqb _ _ c.if-b-eq34.false)) (≡eqb _ _ c.if-b-eq92.true) (≡eqb _ _ c.if-text-i-eq10.true)

pub loop-i-preserved : goal.loop-i-preserved
loop-i-preserved c =
    let b : get_or c.args.text.now c.loop-i.i 0 < 256 = omega (arith, c.type_inv.text c.loop-i.i) in
    let more = behind _ _ _ _ c.loop-i-test.true b c.loop-i.invariant (neqb _ _ c.if-b-eq34.false) in
    elim c.if-b-eq92.branch [
      | then-b-eq92+else-text-i+else-text-i-eq10 w ↦
          let next : get_or c.args.text.now (c.loop-i.i + 1) 0 < 256 = omega (arith, c.type_inv.text (c.loop-i.i + 1)) in
          rw w.i-is (quoted-back _ _ _ _ (omega (arith, w.if-text-i.false)) next _ more (≡eqb _ _ w.if-b-eq92.true) (neqb _ _ w.if-text-i-eq10.false))
      | else-b-eq92 w ↦
          rw w.i-is (subst (λ (x : Bool). Quoted c.args.text.now c.args.at (c.in_ok-first.first.at + 1) (c.loop-i.i + 1) x) (neqb _ _ w.if-b-eq92.false) more)
    ]

pub returns : goal.returns
returns c = quoted-end _ _ _ _ _ c.loop-i.invariant c.loop-i-test.false
