-- Premises that are met. Every policy and all tables have a call of translating that meets the contract, and after one that succeeded there are calls of running that are a run, from each
-- built state and over all letters. What B's bytes give, and what translating answers of B, is computed. Assumes nothing.
use Prim.Native.Nat.{ℕ, zero, suc, ◌*◌, ◌<◌}
use mathlib.Core.Path.{◌≡◌, refl, ap, ◌∙◌}
use mathlib.Core.List.{List, [], ◌∷◌}
use lib.Dec.{ltb}
use lib.ListN.{length, get_or, take}
use Rattle.lists.specs.Lists.{any, greatest, lowest}
use Rattle.std.specs.Borrow.{Bor, MutBor}
use Rattle.std.specs.Prelude.{Result}
use Rattle.masks.specs.Masks.{has, insert, inside, properly, members, submasks, set_of}
use Rattle.tables.specs.Tables.{padded, zeros, places}
use Rattle.policy.specs.declared.Policy.{Policy}
use Rattle.policy.specs.Policies.{edges, edge_of, source, target_of, colour_of, is_quiet, edge_colours, colours_of, in_family, accepting, counts_fit, legal_counts, legal_edge, legal_edges, uncoloured, legal_quiet, legal_set, legal_family, legal_graph, legal, full}
use Rattle.policy.specs.Making.{counted, zero_policy, with_edge, with_set, with_tables}
use Rattle.reading.specs.Reading.{operand_count, command_at, is_shape, is_end, operands_there, in_place, within_limits, first_time, all_given, complete_at_end, empty_draft, draft_after, next_offset, stop_most, stop_from, stop_of, number_at, answer_at, reading_of as bytes_reading_of, refusal_of as read_refusal_of, offset_of, policy_read, number_of as read_number_of}
use Rattle.reading.specs.declared.Found.{Found}
use Rattle.reading.specs.declared.Refused.{Refused}
use Rattle.graph.specs.Cycles.{spread, closure, reach, is_cycle, contains, cycles_in}
use Rattle.forest.specs.Forest.{before, place, in_order, largest, roots, opposed, children, trees, tree, forest, greatest_level, from_zero, root_priority, priority, transient_priority, node, up_from, chain, child_of, in_root, node_masks, node_parents, node_priorities_of, forest_fits}
use Rattle.automaton.specs.Automaton.{next, holds, kids, is_leaf, leaves, first_leaf, states_over, built_states, deepest, lead, entered, first_leaf_below, leaf_after, priority_after, built, state_at, number, start, row_target, row_priority, row_targets, row_priorities, state_sources, state_leaves, built_fit}
use Rattle.builder.specs.Tables.{Tables, counts_of, number_of as translate_number_of, sizes_fit, lengths_fit, nodes_fit, states_fit, filled, cleared, translation_of, tables_after}
use Rattle.builder.proofs.TranslateLaws.{number-of, counts-of, hold-same}
use Rattle.running.specs.declared.Run.{Run}
use Rattle.running.specs.Running.{reading_of, run_after, priority_of, number_of}
use Rattle.running.proofs.Steps.{reads-letter}
use Rattle.records.specs.Records.{policy_of, record_of}
use Rattle.records.proofs.Packing.{policy-record}
use lib.Pow.{pow_pos}
use Rattle.answers.specs.Answers.{first_of, offset_after}
use Rattle.correctness.specs.Calls.{Call, Translating, Running, Slice, translate, translate_shows, read, read_shows, wulfrenda_translate, wulfrenda_translate_shows, wulfrenda_translate_bytes, wulfrenda_translate_bytes_shows, wulfrenda_run, wulfrenda_run_shows}
use Rattle.correctness.specs.Demand3.{state_count, letter_at, BuiltRun}
use Rattle.correctness.specs.Known.{B}
use Rattle.correctness.specs.Instances.{bytes_of_b, BytesGiveB, filled_with, cases, CasesHold, stem, loop, PremisesMet, Instances}
use Rattle.correctness.proofs.Translated.{Success, success-start, exact-beginning}
use Rattle.correctness.proofs.Demand3.{translated, wulfrenda-translated, wulfrenda-translated-bytes}

-- ---- by computation
pub bytes-give : BytesGiveB
unfolding has insert edges edge_of in_family counts_fit legal_counts counted zero_policy with_tables with_edge with_set operand_count command_at is_shape is_end operands_there in_place within_limits first_time all_given complete_at_end empty_draft draft_after next_offset stop_most stop_from stop_of number_at answer_at bytes_reading_of read_refusal_of
bytes-give = refl

cases-hold : CasesHold cases
unfolding has insert inside properly set_of members submasks padded zeros edges edge_of source target_of colour_of is_quiet edge_colours colours_of in_family accepting counts_fit legal_counts legal_edge legal_edges uncoloured legal_quiet legal_set legal_family legal_graph legal counted zero_policy spread closure reach is_cycle contains before place in_order largest full cycles_in roots opposed children trees tree forest greatest lowest greatest_level from_zero root_priority priority transient_priority node up_from chain child_of in_root node_masks node_parents node_priorities_of places next holds kids is_leaf leaves first_leaf states_over built_states deepest lead entered first_leaf_below leaf_after priority_after built state_at number start row_target row_priority row_targets row_priorities state_sources state_leaves built_fit forest_fits sizes_fit lengths_fit nodes_fit states_fit filled cleared translation_of tables_after
cases-hold = (refl, refl, (refl, refl, (refl, refl, (refl, refl, (refl, refl, tt)))))

pub policy-back : policy_of (record_of B) ≡ B
policy-back = policy-record B (record { targets = refl; colours = refl; sets = refl; quiet_lt = pow_pos 64 })

-- ---- places
-- a place that holds x
unfoldable pub place_of : {X : Type 0} → X → Bor X
place_of x = record { ref_ptr = (0, 0); now = x }

-- a place that holds x and may be written
unfoldable pub mut_of : {X : Type 0} → X → MutBor X
mut_of x = record { ref_ptr = (0, 0); ghost_name = 0; now = x }

unfoldable pub slices : {Rest : Type 0} → Tables → Rest → Slice × (Slice × (Slice × (Slice × (Slice × (Slice × (Slice × Rest))))))
slices t rest =
    (mut_of t.masks, (mut_of t.parents, (mut_of t.node_priorities, (mut_of t.sources, (mut_of t.leaves, (mut_of t.targets, (mut_of t.priorities, rest)))))))

-- ---- a call of translating for every policy and all tables
translate-call : Policy → Tables → Call translate
unfolding place_of mut_of slices
translate-call p t = record {
  at = record {
    lifetimes = ([], ([], ([], ([], ([], ([], ([], ([], tt))))))));
    given = (place_of p, slices t tt);
    answer = translation_of p t;
    left = (place_of p, slices (tables_after p t) tt);
  };
  learnt = record { answer_is = refl; number_is = number-of p t; counts_are = counts-of p t; tables_are = hold-same (tables_after p t) };
}

wulfrenda-translate-call : List ℕ → Tables → Call wulfrenda_translate
unfolding place_of mut_of slices
wulfrenda-translate-call packed t =
    let q = translation_of (policy_of packed) t in
    record {
      at = record {
        lifetimes = ([], ([], ([], ([], ([], ([], ([], ([], ([], tt)))))))));
        given = (place_of packed, slices t (mut_of (0 ∷ 0 ∷ 0 ∷ []), tt));
        answer = translate_number_of q;
        left = (place_of packed, slices (tables_after (policy_of packed) t) (mut_of (counts_of q), tt));
      };
      learnt = (refl, (refl, hold-same (tables_after (policy_of packed) t)));
    }

wulfrenda-translate-bytes-call : List ℕ → Tables → Call wulfrenda_translate_bytes
unfolding place_of mut_of slices
wulfrenda-translate-bytes-call bytes t =
    let a = bytes_reading_of bytes in
    let q = translation_of (policy_read a) t in
    record {
      at = record {
        lifetimes = ([], ([], ([], ([], ([], ([], ([], ([], ([], ([], tt))))))))));
        given = (place_of bytes, slices t (mut_of (0 ∷ 0 ∷ 0 ∷ []), (mut_of 0, tt)));
        answer = first_of (read_number_of a) (translate_number_of q);
        left = (place_of bytes, slices (tables_after (policy_read a) t) (mut_of (counts_of q), (mut_of (offset_after (read_number_of a) (translate_number_of q) (offset_of a)), tt)));
      };
      learnt = (refl, (refl, (hold-same (tables_after (policy_read a) t), refl)));
    }

-- ---- calls of running
unfoldable pub read-call : ℕ → List ℕ → List ℕ → ℕ → ℕ → Call read
unfolding place_of
read-call letters targets priorities s a =
    let run : Run = record { state = s } in
    let x = reading_of letters targets priorities run a in
    record {
      at = record {
        lifetimes = ([], ([], tt));
        given = (run, (a, (letters, (place_of targets, (place_of priorities, tt)))));
        answer = x;
        left = (run, (a, (letters, (place_of targets, (place_of priorities, tt)))));
      };
      learnt = reads-letter letters targets priorities run a x refl;
    }

unfoldable pub wulfrenda-run-call : ℕ → List ℕ → List ℕ → ℕ → ℕ → Call wulfrenda_run
unfolding place_of mut_of
wulfrenda-run-call letters targets priorities s a =
    let x = reading_of letters targets priorities (record { state = s }) a in
    record {
      at = record {
        lifetimes = ([], ([], ([], ([], tt))));
        given = (letters, (place_of targets, (place_of priorities, (mut_of s, (a, (mut_of 0, tt))))));
        answer = number_of x;
        left = (letters, (place_of targets, (place_of priorities, (mut_of (run_after (record { state = s }) x).state, (a, (mut_of (priority_of x), tt))))));
      };
      learnt = (refl, (refl, refl));
    }

-- ---- after a call of translating that succeeded: a run from each built state, over all letters
running_of : ℕ → List ℕ → List ℕ → ℕ → ℕ → Running
running_of letters targets priorities s a =
    let x = reading_of letters targets priorities (record { state = s }) a in
    record {
      letters = letters;
      targets = targets;
      priorities = priorities;
      state = s;
      letter = a;
      number = number_of x;
      next = (run_after (record { state = s }) x).state;
      priority = priority_of x;
    }

module _ (t : Translating) (done : Success t) (stem loop : List ℕ) (s : ℕ) (h : s < state_count t) where
  abbrev size : ℕ
  size = length (built t.policy) * t.policy.letters

  abbrev targets : List ℕ
  targets = take size t.exit.targets

  abbrev priorities : List ℕ
  priorities = take size t.exit.priorities

  state : ℕ → ℕ
  state zero = s
  state (suc i) = (run_after (record { state = state i }) (reading_of t.policy.letters targets priorities (record { state = state i }) (letter_at stem loop i))).state

  a-run : BuiltRun stem loop t (λ i. running_of t.policy.letters targets priorities (state i) (letter_at stem loop i))
  unfolding running_of state
  a-run = record {
    size = size;
    beginning = exact-beginning t done;
    letters_are = λ i. refl;
    targets_are = λ i. refl;
    priorities_are = λ i. refl;
    begins = h;
    goes_on = λ i. refl;
    reads = λ i. refl;
  }

  reads : ℕ → Call read
  reads i = read-call t.policy.letters targets priorities (state i) (letter_at stem loop i)

  reads-run : BuiltRun stem loop t (λ i. read_shows (reads i).at)
  unfolding place_of read-call running_of reads
  reads-run = a-run

  runs : ℕ → Call wulfrenda_run
  runs i = wulfrenda-run-call t.policy.letters targets priorities (state i) (letter_at stem loop i)

  runs-run : BuiltRun stem loop t (λ i. wulfrenda_run_shows (runs i).at)
  unfolding place_of wulfrenda-run-call running_of runs
  runs-run = a-run

-- ---- B, with a place to spare in each table
abbrev room : Tables
room = filled_with 7 4 3 6

core : PremisesMet translate translate_shows read read_shows
unfolding place_of mut_of slices translate-call
core =
    let t = translate-call B room in
    let returned : (translate_shows t.at).number ≡ 0 = ap translate_number_of cases-hold.0 in
    let done = translated t returned in
    let begins = (success-start (translate_shows t.at) done).0 in
    record {
      call = t;
      policy_is = refl;
      succeeded = returned;
      calls = reads (translate_shows t.at) done stem loop (get_or (translate_shows t.at).counts 2 0) begins;
      run = reads-run (translate_shows t.at) done stem loop (get_or (translate_shows t.at).counts 2 0) begins;
      letter = refl;
    }

library : PremisesMet wulfrenda_translate wulfrenda_translate_shows wulfrenda_run wulfrenda_run_shows
unfolding place_of mut_of slices wulfrenda-translate-call
library =
    let t = wulfrenda-translate-call (record_of B) room in
    let shown = wulfrenda_translate_shows t.at in
    let returned : shown.number ≡ 0 = ap (λ (p : Policy). translate_number_of (translation_of p room)) policy-back ∙ ap translate_number_of cases-hold.0 in
    let done = wulfrenda-translated t returned in
    let begins = (success-start shown done).0 in
    record {
      call = t;
      policy_is = policy-back;
      succeeded = returned;
      calls = runs shown done stem loop (get_or shown.counts 2 0) begins;
      run = runs-run shown done stem loop (get_or shown.counts 2 0) begins;
      letter = rw policy-back refl;
    }

library-from-bytes : PremisesMet wulfrenda_translate_bytes wulfrenda_translate_bytes_shows wulfrenda_run wulfrenda_run_shows
unfolding place_of mut_of slices wulfrenda-translate-bytes-call first_of
library-from-bytes =
    let t = wulfrenda-translate-bytes-call bytes_of_b room in
    let shown = wulfrenda_translate_bytes_shows t.at in
    let number : Result Found Refused → ℕ = λ (a : Result Found Refused). first_of (read_number_of a) (translate_number_of (translation_of (policy_read a) room)) in
    let returned : shown.number ≡ 0 = ap number bytes-give ∙ ap translate_number_of cases-hold.0 in
    let done = wulfrenda-translated-bytes t returned in
    let begins = (success-start shown done).0 in
    let is-B = ap policy_read bytes-give in
    record {
      call = t;
      policy_is = is-B;
      succeeded = returned;
      calls = runs shown done stem loop (get_or shown.counts 2 0) begins;
      run = runs-run shown done stem loop (get_or shown.counts 2 0) begins;
      letter = ap (λ (a : Result Found Refused). any (λ x. ltb x (policy_read a).letters) loop) bytes-give;
    }

pub instances : Instances
instances = record { bytes = bytes-give; translated = cases-hold; of_the_core = core; of_the_library = library; of_the_library_from_bytes = library-from-bytes }
