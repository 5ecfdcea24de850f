-- The span of a set c of the colours u: the sets of these colours that lack the lowest colour that c lacks, and have of the higher ones those of c. As numbers they go from
-- `upper` up to c.
use Rattle.std.specs.Prelude.{ℕ, ◌-◌}
use Rattle.std.specs.Int.Bits.{bit_and}

-- the lowest colour of u that c lacks, as a set: the lowest bit of what is left of u
unfoldable pub lowest : ℕ → ℕ → ℕ
lowest u c = bit_and (u - c) (256 - (u - c))

-- c, without the colours below that one
unfoldable pub upper : ℕ → ℕ → ℕ
upper u c = bit_and c (256 - lowest u c)
