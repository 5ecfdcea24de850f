use mathlib.Core.Path.{refl, sym, ◌∙◌, subst}
use Prim.Native.Nat.{ℕ}
use native.Mathlib.Nat.{le_antisymm, zero-mul}
use native.Mathlib.Omega.{arith}
use lib.ListN.{replicate}
use Rattle.steps.specs.Steps.{StepsTo}
use Rattle.steps.proofs.Table.{steps-none, steps_next, steps_all}
use Rattle.steps.proofs.edge_steps.Goals as goal

pub loop-v-init : goal.loop-v-init
loop-v-init c = (omega arith, refl, λ p parts h. subst (λ (n : ℕ). StepsTo p (replicate 36 0) n) (sym (zero-mul c.args.letters)) (steps-none p))

pub add_steps-requires : goal.add_steps-requires
add_steps-requires c =
    ((c.requires.0, c.requires.1, omega (arith, c.requires.2, c.loop-v-test.true)), c.loop-v.invariant.1)

pub loop-v-preserved : goal.loop-v-preserved
loop-v-preserved c =
    let a = c.args in (
      omega arith,
      c.add_steps.ensures.0,
      λ p parts h.
          steps_next p a.letters a.quiet a.heads.now a.colours.now parts c.add_steps.new.t c.loop-v.v
          (c.add_steps.ensures.1 p parts (omega (arith, h, c.loop-v-test.true)) (c.loop-v.invariant.2 p parts h)),
    )

pub returns : goal.returns
returns c =
    let a = c.args in
    let l = c.loop-v in
    λ p parts h. steps_all p a.letters a.quiet a.heads.now a.colours.now parts l.t l.v (le_antisymm l.invariant.0 c.loop-v-test.false ∙ h) (l.invariant.2 p parts h)
