-- `reading::edge_of` meets its contract: the product of two bytes fits.
-- Assumes nothing.
use mathlib.Core.Path.{refl}
use borrow.Author.Rules.{rules}
use native.Mathlib.Omega.{arith}
use Rattle.lists.proofs.Numbers.{product_lt}
use Rattle.policy.specs.Policies.{edge_of}
use Rattle.reading.proofs.edge_of.Goals as goal

pub overflow_mul-result : goal.overflow_mul-result
overflow_mul-result c = omega (arith, product_lt {a = c.args.state} {b = c.args.p.now.letters} (omega arith) (search rules))

pub overflow_add-result : goal.overflow_add-result
overflow_add-result c = omega (arith, product_lt {a = c.args.state} {b = c.args.p.now.letters} (omega arith) (search rules))

pub returns : goal.returns
unfolding edge_of
returns c = refl
