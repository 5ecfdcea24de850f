use Rattle.std.proofs.Common.{◌≡◌, ℕ, ◌*◌, ◌%◌, ◌^◌, ◌≤◌, length, rules, sym, ap, ◌∙◌, arith}
use Rattle.std.proofs.Math.Nat.{add-zero}
use lib.Pow.{pow_mono}
use Rattle.lists.specs.Lists.{all, below}
use Rattle.masks.proofs.Bits.{shl_one}
use Rattle.policy.specs.Policies.{legal_set, legal_family}
use Rattle.policy.proofs.LegalTests.{family-turn, family-passed, legal-sets-within}
use Rattle.policy.proofs.has_legal_family.Goals as goal

pub loop-accepted-init : goal.loop-accepted-init
loop-accepted-init c =
    let p = c.args.p.now in
    legal-sets-within p _ (add-zero _ ∙ shl_one 64 p.colours (omega (arith, c.requires)))

pub loop-accepted-preserved : goal.loop-accepted-preserved
loop-accepted-preserved c =
    let p = c.args.p.now in
    let top : 1 * 2 ^ p.colours % 2 ^ 64 ≡ 2 ^ p.colours = shl_one 64 p.colours (omega (arith, c.requires)) in
    family-turn p (1 * 2 ^ p.colours % 2 ^ 64) _ _ _ (omega (arith, top)) c.loop-accepted-test.true c.loop-accepted.invariant

pub loop-accepted-2-init : goal.loop-accepted-2-init
loop-accepted-2-init c =
    let p = c.args.p.now in
    let top : 1 * 2 ^ p.colours % 2 ^ 64 ≡ 2 ^ p.colours = shl_one 64 p.colours (omega (arith, c.requires)) in
    let few : 2 ^ p.colours ≤ 2 ^ 8 = pow_mono c.requires in
    let long : length p.family ≡ 256 = search rules in
    let done = family-passed p (1 * 2 ^ p.colours % 2 ^ 64) c.max-from.result c.loop-accepted.accepted-index (omega (arith, c.max-from.ensures)) (omega (arith, c.max-from.ensures, top, few, long)) c.loop-accepted.auto.accepted-index-end c.loop-accepted-test.false in
    c.loop-accepted.invariant ∙ ap (λ (n : ℕ). all (legal_set p) (below n)) (done ∙ sym (add-zero c.max-from.result))

pub loop-accepted-2-preserved : goal.loop-accepted-2-preserved
loop-accepted-2-preserved c =
    let p = c.args.p.now in
    let top : 1 * 2 ^ p.colours % 2 ^ 64 ≡ 2 ^ p.colours = shl_one 64 p.colours (omega (arith, c.requires)) in
    family-turn p c.max-from.result _ _ _ (omega (arith, top, c.max-from.ensures)) c.loop-accepted-2-test.true c.loop-accepted-2.invariant

pub returns : goal.returns
unfolding legal_family
returns c =
    let p = c.args.p.now in
    let top : 1 * 2 ^ p.colours % 2 ^ 64 ≡ 2 ^ p.colours = shl_one 64 p.colours (omega (arith, c.requires)) in
    let few : 2 ^ p.colours ≤ 2 ^ 8 = pow_mono c.requires in
    let long : length p.family ≡ 256 = search rules in
    let done = family-passed p c.max-from.result 256 c.loop-accepted-2.accepted-index (omega (arith, c.max-from.ensures, top, few)) (omega (arith, long)) c.loop-accepted-2.auto.accepted-index-end c.loop-accepted-2-test.false in
    c.loop-accepted-2.invariant ∙ ap (λ (n : ℕ). all (legal_set p) (below n)) done
