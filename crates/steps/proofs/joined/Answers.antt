-- `joined` meets its contract. Assumes nothing.
use native.Mathlib.Omega.{arith}
use Rattle.steps.proofs.WordRows.{product-fits, word-joined}
use Rattle.steps.proofs.joined.Goals as goal

pub overflow_mul-result : goal.overflow_mul-result
overflow_mul-result c = omega (arith, product-fits c.args.w c.args.k c.args.pivot c.requires.0 c.requires.1)

pub returns : goal.returns
returns c = word-joined c.args.w c.args.k c.args.pivot c.requires.0 c.requires.1
