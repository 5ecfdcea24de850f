-- `decomposition::root_priority` meets its contract. Assumes nothing.
use mir.Val.{bool_byte}
use mathlib.Core.Path.{◌≡◌, refl, ap, ◌∙◌}
use mathlib.Core.Bool.{Bool, true, false, not, cond}
use Rattle.decomposition.proofs.root_priority.Goals as goal

rejected : (b : Bool) → bool_byte (not b) ≡ cond b 0 1
rejected true = refl
rejected false = refl

pub returns : goal.returns
returns c = c.from.ensures ∙ ap (λ (b : Bool). bool_byte (not b)) c.accepts.ensures ∙ rejected _
