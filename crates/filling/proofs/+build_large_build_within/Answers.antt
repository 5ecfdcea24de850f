use native.Mathlib.Omega.{arith}
use Rattle.filling.proofs.+build_large_build_within.Goals as goal

pub build_large-build_within-requires : goal.build_large-build_within-requires
build_large-build_within-requires t c = (omega (arith, c.decreases), (c.requires.nodes, c.requires.room))

pub build_large-returns : goal.build_large-returns
build_large-returns t c = c.build_within.ensures

pub build_within-fill_built-requires : goal.build_within-fill_built-requires
build_within-fill_built-requires t c = record { nodes = c.requires.nodes; room = (c.requires.room, c.if-count-ends.true) }

pub build_within-returns-then-count-ends : goal.build_within-returns-then-count-ends
build_within-returns-then-count-ends t c = c.fill_built.ensures

pub build_within-build_within-requires : goal.build_within-build_within-requires
build_within-build_within-requires t c = (omega (arith, c.decreases, c.if-count-ends.false, c.if-count-le2048.true), (c.requires.nodes, c.requires.room))

pub build_within-returns-then-count-le2048 : goal.build_within-returns-then-count-le2048
build_within-returns-then-count-le2048 t c = c.build_within.ensures

pub build_within-build_large-requires : goal.build_within-build_large-requires
build_within-build_large-requires t c = (omega (arith, c.decreases, c.if-count-ends.false, c.args.nodes.now.nodes.few, c.requires.nodes), (c.requires.nodes, c.requires.room))

pub build_within-returns : goal.build_within-returns
build_within-returns t c = c.build_large.ensures
