-- The contracts of the calls that solve ask nothing of a caller, and promise exactly what specs/Calls.antt says: what is proved of the calls is proved of the functions in the source. Assumes
-- nothing.
use mathlib.Core.Path.{refl}
use Rattle.winning.specs.Calls.{Contracts}

pub contracts : Contracts
contracts = record {
  solve-says = record { asks_nothing = λ x. refl; promises = λ x. refl };
  wulfrenda-solve-says = record { asks_nothing = λ x. refl; promises = λ x. refl };
  wulfrenda-solve-bytes-says = record { asks_nothing = λ x. refl; promises = λ x. refl };
}
