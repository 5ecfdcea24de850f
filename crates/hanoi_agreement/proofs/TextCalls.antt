-- The two contracts ask nothing of a caller, and promise exactly what specs/TextCalls.antt says. Assumes nothing.
use mathlib.Core.Path.{refl}
use Rattle.hanoi_agreement.specs.TextCalls.{TextContracts}

pub text-contracts : TextContracts
text-contracts = record {
  read-text-says = record { asks_nothing = λ x. refl; promises = λ x. refl };
  wulfrenda-read-hanoi-says = record { asks_nothing = λ x. refl; promises = λ x. refl };
}
