-- `pool::list_set` meets its contract: its cycles are appended, and where they stand is kept. Assumes nothing.
use Rattle.pool.proofs.Pool.{pool-more}
use native.Mathlib.Omega.{arith}
use Rattle.pool.proofs.list_set.Goals as goal

pub overflow_sub-spans : goal.overflow_sub-spans
overflow_sub-spans c = let a = c.list_edges-next.ensures c.requires.policy.0 c.requires.policy.1 in
    omega (arith, a.few, a.extends.more, c.requires.places.0)

pub overflow_add-spans : goal.overflow_add-spans
overflow_add-spans c = let a = c.list_edges-next.ensures c.requires.policy.0 c.requires.policy.1 in
    omega (arith, a.few, a.extends.more, c.requires.places.0)

pub overflow_cast-spans-2 : goal.overflow_cast-spans-2
overflow_cast-spans-2 c = let a = c.list_edges-next.ensures c.requires.policy.0 c.requires.policy.1 in
    omega (arith, a.few, a.extends.more, c.requires.places.0)

pub returns : goal.returns
returns c = λ p parts l.
    pool-more l (c.list_edges-next.ensures p parts) c.requires.places.0 c.requires.places.1 c.requires.places.2 c.requires.places.3
