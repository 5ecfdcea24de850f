-- `collect_by_colour` meets its contract: t has the edges passed, by recorded colour. Assumes nothing.
use Rattle.std.proofs.Common.{◌≡◌}
use Rattle.policy.specs.ByColour.{by_colour_to}
use Rattle.policy.proofs.collect_by_colour.Given as goal

abbrev pub invariant-loop-e : goal.invariant-loop-e
invariant-loop-e l = l.t ≡ by_colour_to l.p.colour l.e
