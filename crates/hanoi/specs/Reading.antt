-- The answer for a text as it is computed: by the reader of specs/Reader. `answers` (proofs/Answering) says what it means.
use Rattle.std.specs.Prelude.{ℕ, List}
use Rattle.refusals.specs.declared.Refusal.TheVariants.{NotHanoi}
use Rattle.hanoi.specs.Answers.{Answer, answer_of, refused}
use Rattle.hanoi.specs.Offers.{Spot, between, in_word, digits, in_name, dead, run}
use Rattle.hanoi.specs.Reader.{At, hoa, v1, states_word, states_number, start_word, start_number, ap_word, ap_number, naming, sets_number, operand, opening, mark, closing, after, body, state_number, edges, target, braces, finished, offers, first, alive_for}

-- what a document comes to at the end of its text; x elsewhere
abbrev pub answer_in : Answer → At → Answer
answer_in x hoa = x
answer_in x v1 = x
answer_in x states_word = x
answer_in x states_number = x
answer_in x (start_word n) = x
answer_in x (start_number n) = x
answer_in x (ap_word n i) = x
answer_in x (ap_number n i) = x
answer_in x (naming n i left ns) = x
answer_in x (sets_number n i ns) = x
answer_in x (operand h hs o) = x
answer_in x (opening h hs o b) = x
answer_in x (mark h hs o b) = x
answer_in x (closing h hs o b m) = x
answer_in x (after h hs l) = x
answer_in x (body h f) = x
answer_in x (state_number h f rs) = x
answer_in x (edges h f rs r) = x
answer_in x (target h f rs r t) = x
answer_in x (braces h f rs r t ms) = x
answer_in x (finished d) = answer_of d

abbrev pub answer_at : Answer → Spot At → Answer
answer_at x (between b s) = answer_in x s
answer_at x (in_word y r a) = x
answer_at x (digits s n) = x
answer_at x (in_name s q b) = x
answer_at x dead = x

unfoldable pub hanoi_of : List ℕ → Answer
hanoi_of text = answer_at (refused NotHanoi (alive_for text first)) (run offers first text)
