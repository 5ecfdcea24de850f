-- A formula, told from left to right without a stack: what its bytes come to one after the other, and what is known of its value so far.
-- Where an operand is read, all that stands before it in its conjunction holds, and all before that in its disjunction does not, on every level; so the value of
-- what is read is the value of the whole so far. After `&` behind what does not hold, the rest of the conjunction is passed by; after `|` behind what holds, the
-- rest of the disjunction, up to its closing parenthesis.
use Rattle.std.specs.Prelude.{ℕ, zero, suc, Bool, not, cond, List, [], ◌∷◌, ◌++◌}
use Rattle.masks.specs.Masks.{has}
use Rattle.hanoi.specs.Documents.{Formula, truth, inf, fin, group, both, either}

pub data Event : Type 0 where
  operand : Bool → Event
  opens : Event
  closes : Event
  and : Event
  or : Event

unfoldable pub events_of : ℕ → Formula → List Event
events_of u (truth b) = operand b ∷ []
events_of u (inf m) = operand (has u m) ∷ []
events_of u (fin m) = operand (not (has u m)) ∷ []
events_of u (group f) = opens ∷ (events_of u f ++ (closes ∷ []))
events_of u (both f g) = events_of u f ++ (and ∷ events_of u g)
events_of u (either f g) = events_of u f ++ (or ∷ events_of u g)

-- all that is read counts; or what follows is passed by, to the end of a conjunction or of a disjunction, so many parentheses deeper than where that began
pub data Mode : Type 0 where
  Reading : Mode
  PastAnd : ℕ → Mode
  PastOr : ℕ → Mode

-- the value of a formula so far
pub record Told : Type 0 where
  pub value : Bool
  pub mode : Mode

abbrev pub told : Bool → Mode → Told
told v m = record { value = v; mode = m }

unfoldable pub tell_in : Bool → Mode → Event → Told
tell_in v Reading (operand b) = told b Reading
tell_in v Reading opens = told v Reading
tell_in v Reading closes = told v Reading
tell_in v Reading and = told v (cond v Reading (PastAnd 0))
tell_in v Reading or = told v (cond v (PastOr 0) Reading)
tell_in v (PastAnd d) (operand b) = told v (PastAnd d)
tell_in v (PastAnd d) opens = told v (PastAnd (suc d))
tell_in v (PastAnd zero) closes = told v Reading
tell_in v (PastAnd (suc d)) closes = told v (PastAnd d)
tell_in v (PastAnd d) and = told v (PastAnd d)
tell_in v (PastAnd zero) or = told v Reading
tell_in v (PastAnd (suc d)) or = told v (PastAnd (suc d))
tell_in v (PastOr d) (operand b) = told v (PastOr d)
tell_in v (PastOr d) opens = told v (PastOr (suc d))
tell_in v (PastOr zero) closes = told v Reading
tell_in v (PastOr (suc d)) closes = told v (PastOr d)
tell_in v (PastOr d) and = told v (PastOr d)
tell_in v (PastOr d) or = told v (PastOr d)

unfoldable pub tell : Told → Event → Told
tell t e = tell_in t.value t.mode e

unfoldable pub tell_all : List Event → Told → Told
tell_all [] t = t
tell_all (e ∷ es) t = tell_all es (tell t e)
