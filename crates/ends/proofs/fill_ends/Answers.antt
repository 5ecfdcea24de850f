use Prim.Native.Nat.{◌-◌}
use mathlib.Core.Path.{refl}
use native.Mathlib.Omega.{arith}
use Rattle.ends.proofs.Raising.{kept-none, kept-raised, fill-room, fill_start, fill-up, fill-root, fill-child, fill_done}
use Rattle.ends.proofs.fill_ends.Goals as goal

pub fill_own-requires : goal.fill_own-requires
fill_own-requires c = ((fill-room c.args.p.now _ _ c.requires.nodes).0, c.requires.room)

pub loop-n-init : goal.loop-n-init
loop-n-init c = (kept-none _ _, λ p a. fill_start p _ _ a c.args.ends.now _ c.requires.room c.fill_own.ensures)

pub bounds-parents-n : goal.bounds-parents-n
bounds-parents-n c = omega (arith, (fill-room c.args.p.now _ _ c.requires.nodes).1, c.requires.nodes.3)

pub raise-requires : goal.raise-requires
raise-requires c =
    let u = fill-up c.args.p.now _ _ c.requires.nodes (c.loop-n.n - 1) _ (omega arith) refl c.if-up-ne65535.true in
    (omega (arith, u, c.loop-n.invariant.0.long), omega (arith, c.loop-n.invariant.0.long))

pub loop-n-preserved-then-up-ne65535 : goal.loop-n-preserved-then-up-ne65535
loop-n-preserved-then-up-ne65535 c =
    let q = c.if-up-ne65535.true in
    let u = fill-up c.args.p.now _ _ c.requires.nodes (c.loop-n.n - 1) _ (omega arith) refl q in
    (kept-raised _ _ c.loop-n.invariant.0 (omega (arith, u)) c.raise.ensures, λ p a. fill-child p _ _ a (c.loop-n.n - 1) _ (omega arith) refl _ _ _ (omega arith) (c.loop-n.invariant.1 p a) q c.raise.ensures)

pub loop-n-preserved : goal.loop-n-preserved
loop-n-preserved c =
    (c.loop-n.invariant.0, λ p a. fill-root p _ _ a (c.loop-n.n - 1) _ (omega arith) refl _ _ (omega arith) (c.loop-n.invariant.1 p a) c.if-up-ne65535.false)

pub returns : goal.returns
returns c =
    fill_done c.args.p.now _ _ c.requires.nodes c.args.ends.now _ _ _ c.requires.room c.fill_own.ensures c.loop-n.invariant.0 c.loop-n-test.false (c.loop-n.invariant.1 c.args.p.now c.requires.nodes)
