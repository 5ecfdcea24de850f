-- Premises that are met: every text has a call of reading that meets the contract, what this one comes to is computed, and demand 3's own instances have the calls after it. Assumes nothing.
use mathlib.Core.Path.{◌≡◌, refl, sym, ap, ◌∙◌}
use Prim.Native.Nat.{ℕ}
use mathlib.Core.Bool.{true, false, cond}
use Rattle.std.specs.Prelude.{Ok}
use mathlib.Core.List.{List, []}
use lib.Dec.{ltb}
use lib.ListN.{replicate}
use Rattle.lists.specs.Lists.{any}
use Rattle.lists.specs.Questions.{ask}
use Rattle.records.specs.Records.{is_record, policy_of, record_of}
use Rattle.masks.specs.Masks.{has, insert, set_of}
use Rattle.mark_sets.specs.MarkSets.{firsts, colour_in, union_at}
use Rattle.hanoi.specs.Texts.{white, goes_on, decimal_in, decimal}
use Rattle.hanoi.specs.Documents.{letters, Says}
use Rattle.hanoi.specs.Meaning.{holds, mark_set, edges_of, mark_sets, colour_of, named, policy_of as policy_of_text}
use Rattle.hanoi.specs.Offers.{takes, ends, takes_name, is_new, numbered, named as name_read, word_on, begin_word, begin, byte_at, between, step_byte, run}
use Rattle.hanoi.specs.Reader.{finished, plug, whole, and_then, marking, document_of, row_over, edge_next, row_next, marks_next, close, names_next, offers, first}
use Rattle.hanoi.specs.Answers.{Answer, answer_of, number_of, shared_of, policy_read}
use Rattle.hanoi.specs.Reading.{hanoi_of}
use Rattle.hanoi.proofs.Answering.{said-back, answers}
use Rattle.correctness.specs.Calls.{Call, translate, translate_shows, read, read_shows, wulfrenda_translate, wulfrenda_translate_shows, wulfrenda_run, wulfrenda_run_shows}
use Rattle.correctness.specs.Known.{B}
use Rattle.correctness.specs.Instances.{loop}
use Rattle.correctness.proofs.Instances.{policy-back, place_of, mut_of, instances as calls_met}
use Rattle.hanoi_agreement.specs.TextCalls.{read_text, read_text_shows, wulfrenda_read_hanoi, wulfrenda_read_hanoi_shows}
use Rattle.hanoi_agreement.specs.Instances.{text, document, PremisesMet, Instances}

-- the reader takes the text, and ends with the document
taken : run offers first text ≡ between false (finished document)
unfolding white goes_on decimal_in decimal takes ends takes_name is_new numbered name_read word_on begin_word begin byte_at step_byte plug whole and_then marking document_of row_over edge_next row_next marks_next close names_next offers first
taken = refl

said : Says text document
said = said-back text false document taken

document-read : answer_of document ≡ Ok B
unfolding has insert set_of firsts colour_in union_at letters holds mark_set edges_of mark_sets colour_of named policy_of_text answer_of
document-read = refl

read_is : hanoi_of text ≡ Ok B
read_is = (answers text).said document said ∙ document-read

-- ---- a call of reading for every text
read-text-call : List ℕ → Call read_text
unfolding place_of
read-text-call t = record { at = record { lifetimes = ([], tt); given = (place_of t, tt); answer = hanoi_of t; left = (place_of t, tt) }; learnt = (refl, answers t) }

wulfrenda-read-hanoi-call : List ℕ → List ℕ → Call wulfrenda_read_hanoi
unfolding place_of mut_of
wulfrenda-read-hanoi-call t place =
    let a = hanoi_of t in
    record {
      at = record {
        lifetimes = ([], ([], ([], tt)));
        given = (place_of t, (mut_of place, (mut_of 0, tt)));
        answer = ask (is_record place) 7 (number_of a);
        left = (place_of t, (mut_of (cond (is_record place) (record_of (policy_read a)) place), (mut_of (cond (is_record place) (shared_of a) 0), tt)));
      };
      learnt = (refl, (refl, (refl, answers t)));
    }

-- ---- the calls of demand 3's instances were given B
has_letter : any (λ a. ltb a (letters document)) loop ≡ true
unfolding letters
has_letter = refl

core : PremisesMet read_text read_text_shows translate translate_shows read read_shows
unfolding place_of read-text-call
core =
    let m = calls_met.of_the_core in
    record {
      reading = read-text-call text;
      text_is = refl;
      read = ap number_of read_is;
      call = m.call;
      policy_is = m.policy_is ∙ sym (ap policy_read read_is);
      succeeded = m.succeeded;
      calls = m.calls;
      run = m.run;
      letter = has_letter;
    }

library : PremisesMet wulfrenda_read_hanoi wulfrenda_read_hanoi_shows wulfrenda_translate wulfrenda_translate_shows wulfrenda_run wulfrenda_run_shows
unfolding place_of mut_of wulfrenda-read-hanoi-call
library =
    let m = calls_met.of_the_library in
    record {
      reading = wulfrenda-read-hanoi-call text (replicate 452 0);
      text_is = refl;
      read = ap number_of read_is;
      call = m.call;
      policy_is = m.policy_is ∙ sym (ap (λ (a : Answer). policy_of (record_of (policy_read a))) read_is ∙ policy-back);
      succeeded = m.succeeded;
      calls = m.calls;
      run = m.run;
      letter = has_letter;
    }

pub instances : Instances
instances = record { says = said; read_is = read_is; of_the_core = core; of_the_library = library }
