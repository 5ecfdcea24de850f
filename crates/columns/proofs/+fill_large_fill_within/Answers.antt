use native.Mathlib.Omega.{arith}
use mathlib.Core.Path.{refl}
use Rattle.listing.proofs.Appending.{parts_of}
use Rattle.roots.proofs.Roots.{space-of, short}
use Rattle.columns.proofs.+fill_large_fill_within.Goals as goal

pub fill_large-fill_within-requires : goal.fill_large-fill_within-requires
fill_large-fill_within-requires t c = (omega (arith, c.decreases), (c.requires.roots, (c.requires.begun, space-of 4096 45056 refl refl refl refl refl (omega arith) (omega arith))))

pub fill_large-returns : goal.fill_large-returns
fill_large-returns t c = c.fill_within.ensures

-- `fill_large` and `fill_within` meet their contracts. The measure falls as the lent space grows: twice what it lacks to 4,096 places, and 1 for `fill_large`. Assumes nothing.

pub fill_within-grow_trees-requires : goal.fill_within-grow_trees-requires
fill_within-grow_trees-requires t c =
    let g = c.args.g.now in
    let b = c.requires.begun in
    record { policy = (g.policy.now, b.0, b.1, parts_of g, refl, c.requires.roots, b.2); space = c.requires.space }

pub fill_within-returns-in-Ok : goal.fill_within-returns-in-Ok
fill_within-returns-in-Ok t c = λ m₀ r₀ w.
    let g = c.args.g.now in
    (c.grow_trees.ensures g.policy.now m₀ r₀ (parts_of g) refl c.requires.roots w).finished _ c.in-Ok.is

pub fill_within-fill_within-requires : goal.fill_within-fill_within-requires
fill_within-fill_within-requires t c =
    let g = c.args.g.now in
    let b = c.requires.begun in (
      omega (arith, c.decreases, c.grow_trees.auto.accepting, c.if-accepting-lt256.true),
      (c.requires.roots, ((b.0, b.1, (c.grow_trees.ensures g.policy.now b.0 b.1 (parts_of g) refl c.requires.roots b.2).unfinished _ c.in-Err.is), space-of 256 3328 refl refl refl refl refl (omega arith) (omega arith))),
    )

pub fill_within-returns-then-accepting-lt256 : goal.fill_within-returns-then-accepting-lt256
fill_within-returns-then-accepting-lt256 t c = λ m₀ r₀ w.
    let g = c.args.g.now in
    c.fill_within.ensures m₀ r₀ ((c.grow_trees.ensures g.policy.now m₀ r₀ (parts_of g) refl c.requires.roots w).unfinished _ c.in-Err.is)

pub fill_within-fill_large-requires : goal.fill_within-fill_large-requires
fill_within-fill_large-requires t c =
    let g = c.args.g.now in
    let b = c.requires.begun in
    let o = c.grow_trees.ensures g.policy.now b.0 b.1 (parts_of g) refl c.requires.roots b.2 in (
      omega (arith, c.decreases, short (λ h. o.enough h _ c.in-Err.is)),
      (c.requires.roots, (b.0, b.1, o.unfinished _ c.in-Err.is)),
    )

pub fill_within-returns : goal.fill_within-returns
fill_within-returns t c = λ m₀ r₀ w.
    let g = c.args.g.now in
    c.fill_large.ensures m₀ r₀ ((c.grow_trees.ensures g.policy.now m₀ r₀ (parts_of g) refl c.requires.roots w).unfinished _ c.in-Err.is)
