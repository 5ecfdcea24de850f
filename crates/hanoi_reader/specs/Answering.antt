-- What is answered of a text that was read to its end, or stops before.
use Rattle.std.specs.Prelude.{Result, Ok, Err}
use Rattle.refusals.specs.declared.Refusal.{Refusal}
use Rattle.refusals.specs.declared.Refusal.TheVariants.{NotHanoi}
use Rattle.policy.specs.declared.Policy.{Policy}
use Rattle.hanoi.specs.Answers.{Answer, refused}
use Rattle.hanoi_tokens.specs.declared.Stop.{Stop}

abbrev pub answer_for : Result (Result Policy Refusal) Stop → Answer
answer_for (Ok (Ok p)) = Ok p
answer_for (Ok (Err refusal)) = refused refusal 0
answer_for (Err stop) = refused NotHanoi stop.at
