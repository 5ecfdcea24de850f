-- `wulfrenda::wulfrenda_read` meets its contract: the number, the policy and the offset of the reading, or 7 where there is no place for a record. Assumes nothing.
use mathlib.Core.Path.{refl, sym, ap, ◌∙◌}
use borrow.Author.Tests.{eq-eqb, ne_eqb}
use Rattle.policy.specs.Making.{zero_policy}
use Rattle.reading.specs.Reading.{number_of, offset_of, policy_read}
use Rattle.records.specs.Records.{record_length, record_of}
use Rattle.wulfrenda.proofs.wulfrenda_read.Goals as goal

pub returns-then-packed-ne-LENGTH : goal.returns-then-packed-ne-LENGTH
returns-then-packed-ne-LENGTH c =
    let e = ne_eqb _ record_length c.if-packed-ne-LENGTH.true in
    record { number = rw e refl; policy = rw e refl; offset = rw e refl }

pub returns-in-Ok : goal.returns-in-Ok
returns-in-Ok c =
    let is = sym c.in-Ok.is ∙ c.read.ensures.answer_is in
    let e = eq-eqb _ record_length c.if-packed-ne-LENGTH.false in
    record {
      number = rw e (ap number_of is);
      policy = rw e (c.put_record.ensures ∙ ap record_of (ap policy_read is));
      offset = rw e (ap offset_of is);
    }

pub returns-in-Err : goal.returns-in-Err
unfolding zero_policy
returns-in-Err c =
    let is = sym c.in-Err.is ∙ c.read.ensures.answer_is in
    let e = eq-eqb _ record_length c.if-packed-ne-LENGTH.false in
    record {
      number = rw e (c.number.ensures ∙ ap number_of is);
      policy = rw e (c.put_record-in-Err.ensures ∙ ap record_of (c.counted.ensures ∙ ap policy_read is));
      offset = rw e (ap offset_of is);
    }
