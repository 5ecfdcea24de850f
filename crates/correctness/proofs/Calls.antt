-- The five contracts ask nothing of a caller, and promise exactly what specs/Calls.antt says: what is proved of the calls is proved of the functions in the source. Assumes nothing.
use mathlib.Core.Path.{refl}
use Rattle.correctness.specs.Calls.{Contracts}

pub contracts : Contracts
contracts = record {
  translate-says = record { asks_nothing = λ x. refl; promises = λ x. refl };
  read-says = record { asks_nothing = λ x. refl; promises = λ x. refl };
  wulfrenda-translate-says = record { asks_nothing = λ x. refl; promises = λ x. refl };
  wulfrenda-translate-bytes-says = record { asks_nothing = λ x. refl; promises = λ x. refl };
  wulfrenda-run-says = record { asks_nothing = λ x. refl; promises = λ x. refl };
}
