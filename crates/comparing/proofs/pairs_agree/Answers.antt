use Prim.Native.Nat.{ℕ, ◌<◌, ◌≤◌, ◌*◌, ◌%◌, ◌^◌}
use native.Mathlib.Nat.{le_antisymm}
use native.Mathlib.Omega.{arith}
use mathlib.Core.Path.{◌≡◌, refl, sym, ap, ◌∙◌}
use lib.ListN.{length-replicate}
use Rattle.lists.specs.Lists.{all, below}
use Rattle.lists.proofs.AnyAll.{all_more, all-not}
use Rattle.masks.proofs.Bits.{shl_one}
use Rattle.lists.proofs.Numbers.{set-byte}
use Rattle.policy.proofs.Laws.{legal-counts}
use Rattle.comparing.specs.Pairs.{set_agrees, pairs_agree}
use Rattle.comparing.proofs.pairs_agree.Goals as goal

pub overflow_shl-n : goal.overflow_shl-n
overflow_shl-n c = let g = c.args.g.now in omega (arith, (legal-counts g.policy.now g.lawful).colours_few)

-- how many sets of n colours there are
count : (n : ℕ) → n ≤ 8 → 1 * 2 ^ n % 2 ^ 64 ≡ 2 ^ n
count n h = shl_one 64 n (omega (arith, h))

pub loop-c-init : goal.loop-c-init
loop-c-init c = (omega arith, refl, length-replicate {A = ℕ} 16 0)

pub overflow_cast-c : goal.overflow_cast-c
overflow_cast-c c =
    let g = c.args.g.now in
    let within : c.loop-c.c < 2 ^ g.policy.now.colours =
    omega (arith, count c.args.g.now.policy.now.colours (legal-counts c.args.g.now.policy.now c.args.g.now.lawful).colours_few, c.loop-c-test.true) in
    let few : c.loop-c.c < 256 =
    set-byte g.policy.now.colours c.loop-c.c (legal-counts g.policy.now g.lawful).colours_few within in
    omega (arith, few)

pub set_agrees-requires : goal.set_agrees-requires
set_agrees-requires c = (c.requires, c.loop-c.invariant.2)

pub returns-then-not-set_agrees : goal.returns-then-not-set_agrees
unfolding pairs_agree
returns-then-not-set_agrees c =
    let p = c.args.g.now.policy.now in
    let within : c.loop-c.c < 2 ^ p.colours =
    omega (arith, count c.args.g.now.policy.now.colours (legal-counts c.args.g.now.policy.now c.args.g.now.lawful).colours_few, c.loop-c-test.true) in
    sym (all-not (set_agrees p c.args.h.now.policy.now) (2 ^ p.colours) c.loop-c.c within (sym c.set_agrees.ensures.0 ∙ c.if-not-set_agrees.true))

pub loop-c-preserved : goal.loop-c-preserved
loop-c-preserved c =
    let at = c.loop-c in
    (omega arith, all_more (set_agrees c.args.g.now.policy.now c.args.h.now.policy.now) at.c at.invariant.1 (sym c.set_agrees.ensures.0 ∙ c.if-not-set_agrees.false), c.set_agrees.ensures.1)

pub returns : goal.returns
unfolding pairs_agree
returns c =
    let p = c.args.g.now.policy.now in
    sym (ap (λ k. all (set_agrees p c.args.h.now.policy.now) (below k)) (sym (count c.args.g.now.policy.now.colours (legal-counts c.args.g.now.policy.now c.args.g.now.lawful).colours_few) ∙ le_antisymm c.loop-c-test.false c.loop-c.invariant.0) ∙ c.loop-c.invariant.1)
