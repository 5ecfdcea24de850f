-- A gatekeeper's questions, put in order: the first that is answered no decides.
use Rattle.std.specs.Prelude.{ℕ, Bool, cond}

-- a question, the number of a no, and what the questions after it come to
abbrev pub ask : Bool → ℕ → ℕ → ℕ
ask answer number next = cond answer next number
