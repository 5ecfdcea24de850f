-- `wulfrenda::wulfrenda_read_hanoi` meets its contract: the number, the policy and the length of the reading, or 7 where there is no place for a record. Assumes nothing.
use mathlib.Core.Path.{sym, ap, ◌∙◌}
use borrow.Author.Tests.{eq-eqb}
use Rattle.policy.specs.Making.{zero_policy}
use Rattle.hanoi.specs.Answers.{policy_read}
use Rattle.hanoi.proofs.Answering.{answers}
use Rattle.records.specs.Records.{record_length, record_of}
use Rattle.wulfrenda.proofs.wulfrenda_read_hanoi.Goals as goal

pub returns-then-packed-ne-LENGTH-clause-meaning : goal.returns-then-packed-ne-LENGTH-clause-meaning
returns-then-packed-ne-LENGTH-clause-meaning c = answers _

-- the library writes the policy of no states
pub returns-in-Err-clause-policy : goal.returns-in-Err-clause-policy
unfolding zero_policy
returns-in-Err-clause-policy c = rw (eq-eqb _ record_length c.if-packed-ne-LENGTH.false) (c.put_record-in-Err.ensures ∙ (ap record_of c.counted.ensures ∙ ap (λ r. record_of (policy_read r)) (sym c.in-Err.is ∙ c.read.ensures.answer)))
