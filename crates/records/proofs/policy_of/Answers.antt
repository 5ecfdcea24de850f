-- `records::policy_of` meets its contract: the definition, opened at each length. Assumes nothing.
use mathlib.Core.Path.{sym, ◌∙◌}
use Rattle.policy.proofs.Making.{zero-counted}
use Rattle.records.specs.Records.{unpacked}
use Rattle.records.proofs.Packing.{policy-of, policy-of-other}
use Rattle.records.proofs.policy_of.Goals as goal

pub returns-then-packed-ne-LENGTH : goal.returns-then-packed-ne-LENGTH
returns-then-packed-ne-LENGTH c = c.counted.ensures ∙ zero-counted ∙ sym (policy-of-other _ c.if-packed-ne-LENGTH.true)

pub returns : goal.returns
unfolding unpacked
returns c =
    let target = c.bytes_at.ensures in
    let colour = c.bytes_at-2.ensures in
    let family = c.flags_at.ensures in
    let quiet = c.quiet_at-quiet.ensures in
    rw (policy-of _ c.if-packed-ne-LENGTH.false, target, colour, family, quiet)
