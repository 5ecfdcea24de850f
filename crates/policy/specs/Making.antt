-- Policies made step by step: from the counts alone, then an edge or a colour set at a time. What makes a policy calls these, so that the fields are listed here alone.
use Rattle.std.specs.Prelude.{ℕ, Bool, true, false, List, set, replicate}
use Rattle.masks.specs.Masks.{insert}
use Rattle.policy.specs.declared.Policy.{Policy}
use Rattle.policy.specs.declared.Shape.{Shape}

-- the policy of these counts, with edges and family all zero, and no edge quiet
unfoldable pub counted : ℕ → ℕ → ℕ → ℕ → Policy
counted states letters colours initial = record {
  states = states;
  letters = letters;
  colours = colours;
  initial = initial;
  target = replicate 64 0;
  colour = replicate 64 0;
  family = replicate 256 false;
  quiet = 0;
}

-- the shape of p
abbrev pub shape_of : Policy → Shape
shape_of p = record { states = p.states; letters = p.letters; colours = p.colours; initial = p.initial }

-- the policy of a shape, with these quiet edges, these targets and colours of its edges, and this family
abbrev pub from_parts : Shape → ℕ → List ℕ → List ℕ → List Bool → Policy
from_parts s quiet target colour family = record {
  states = s.states;
  letters = s.letters;
  colours = s.colours;
  initial = s.initial;
  target = target;
  colour = colour;
  family = family;
  quiet = quiet;
}

-- the all-zero policy
unfoldable pub zero_policy : Policy
zero_policy = counted 0 0 0 0

-- p with other targets and colours of its edges, and another family
unfoldable pub with_tables : Policy → List ℕ → List ℕ → List Bool → Policy
with_tables p target colour family = from_parts (shape_of p) p.quiet target colour family

-- p with a target and a colour at edge e, which was not quiet
unfoldable pub with_edge : Policy → ℕ → ℕ → ℕ → Policy
with_edge p e target colour = with_tables p (set p.target e target) (set p.colour e colour) p.family

-- p with a target at edge e, which is quiet
unfoldable pub with_quiet : Policy → ℕ → ℕ → Policy
with_quiet p e target = from_parts (shape_of p) (insert p.quiet e) (set p.target e target) (set p.colour e 0) p.family

-- p with a colour set in its family
unfoldable pub with_set : Policy → ℕ → Policy
with_set p s = with_tables p p.target p.colour (set p.family s true)
