-- Premises that are met: every policy, all owners and all tables have a call of solving that meets the contract, and after one that succeeded there is a play by its letters from each built
-- state. What solving answers of B is computed. Assumes nothing.
use Prim.Native.Nat.{ℕ, zero, suc, ◌*◌, ◌<◌}
use mathlib.Core.Path.{◌≡◌, refl, sym, ap, ◌∙◌, subst}
use mathlib.Core.Logic.{◌⊎◌, inl, inr}
use mathlib.Core.Bool.{Bool, true, false, cond}
use mathlib.Core.List.{List, [], ◌∷◌}
use lib.Dec.{eqb}
use lib.ListN.{length, get_or, take, replicate}
use Rattle.lists.specs.Lists.{greatest, lowest}
use Rattle.lists.proofs.Bools.{test, eqb≡, ≡eqb}
use Rattle.masks.specs.Masks.{has, insert, inside, properly, members, submasks, set_of}
use Rattle.tables.specs.Tables.{padded, zeros, places}
use Rattle.policy.specs.declared.Policy.{Policy}
use Rattle.policy.specs.Policies.{edges, edge_of, source, target_of, colour_of, is_quiet, edge_colours, colours_of, in_family, accepting, counts_fit, legal_counts, legal_edge, legal_edges, uncoloured, legal_quiet, legal_set, legal_family, legal_graph, legal, full}
use Rattle.policy.proofs.Laws.{legal-counts}
use Rattle.graph.specs.Cycles.{spread, closure, reach, is_cycle, contains, cycles_in}
use Rattle.forest.specs.Forest.{before, place, in_order, largest, roots, opposed, children, trees, tree, forest, greatest_level, from_zero, root_priority, priority, transient_priority, node, up_from, chain, child_of, in_root, forest_fits}
use Rattle.automaton.specs.Automaton.{next, holds, kids, is_leaf, leaves, first_leaf, states_over, built_states, deepest, lead, entered, first_leaf_below, leaf_after, priority_after, built, state_at, number, start, row_target, row_priority, built_fit}
use Rattle.builder.specs.Tables.{Tables, sizes_fit, lengths_fit, nodes_fit, states_fit, translated, counts_of, number_of as translate_number_of}
use Rattle.builder.proofs.TranslateLaws.{hold-same}
use Rattle.running.specs.declared.Met.{Met}
use Rattle.std.specs.Prelude.{Result}
use Rattle.refusals.specs.declared.Refusal.{Refusal}
use Rattle.running.specs.Running.{reading_of, run_after}
use Rattle.records.specs.Records.{policy_of, record_of}
use Rattle.reading.specs.Reading.{reading_of as bytes_reading_of, offset_of, policy_read, number_of as read_number_of}
use Rattle.reading.specs.declared.Found.{Found}
use Rattle.reading.specs.declared.Refused.{Refused}
use Rattle.answers.specs.Answers.{first_of, offset_after}
use Rattle.correctness.specs.Calls.{Call, Translating, read, read_shows, wulfrenda_run, wulfrenda_run_shows}
use Rattle.correctness.specs.Known.{B}
use Rattle.correctness.specs.Instances.{bytes_of_b, filled_with}
use Rattle.correctness.proofs.Translated.{exact-beginning}
use Rattle.correctness.proofs.Instances.{place_of, mut_of, slices, policy-back, bytes-give, read-call, wulfrenda-run-call}
use Rattle.supervision.specs.Supervision.{player_of, game_of}
use Rattle.supervision.proofs.Rows.{row-leads}
use Rattle.solving.specs.Solving.{winner_of, owners_fit, owners_legal, solving_fits, solving_of, seven_after, winners_after}
use Rattle.solving.proofs.Winners.{same_byte}
use Rattle.solving.proofs.SolveLaws.{number-of, counts-of}
use Rattle.winning.specs.Calls.{Solving, solve, solve_shows, wulfrenda_solve, wulfrenda_solve_shows, wulfrenda_solve_bytes, wulfrenda_solve_bytes_shows}
use Rattle.winning.specs.Solved.{states, winner_at, owner_at, Play}
use Rattle.winning.specs.Instances.{owners_of_b, PremisesMet, Instances}
use Rattle.winning.proofs.Exists.{letters-exist}
use Rattle.winning.proofs.Done.{Done, done-legal, done-success, done-winners, states_are, is_state, winner-at, owner-is, owner-few, chosen, reads-row}
use Rattle.winning.proofs.Solved.{solved, wulfrenda-solved, wulfrenda-solved-bytes}

-- ---- by computation
abbrev room : Tables
room = filled_with 7 4 3 6

abbrev wide : List ℕ
wide = replicate 3 7

b-solved : solving_of B owners_of_b room wide wide ≡ translated 3 2 0
unfolding has insert inside properly set_of members submasks padded zeros edges edge_of source target_of colour_of is_quiet edge_colours colours_of in_family accepting counts_fit legal_counts legal_edge legal_edges uncoloured legal_quiet legal_set legal_family legal_graph legal spread closure reach is_cycle contains before place in_order largest full cycles_in roots opposed children trees tree forest greatest lowest greatest_level from_zero root_priority priority transient_priority node up_from chain child_of in_root places next holds kids is_leaf leaves first_leaf states_over built_states deepest lead entered first_leaf_below leaf_after priority_after built state_at number start row_target row_priority built_fit forest_fits sizes_fit lengths_fit nodes_fit states_fit owners_fit owners_legal solving_fits solving_of
b-solved = refl

-- ---- a call of solving for every policy, all owners and all tables
solve-call : Policy → List ℕ → Tables → List ℕ → List ℕ → Call solve
unfolding place_of mut_of slices
solve-call p owners t winners letters =
    let l = letters-exist p owners t winners letters in
    let q = solving_of p owners t winners letters in
    record {
      at = record {
        lifetimes = ([], ([], ([], ([], ([], ([], ([], ([], ([], ([], ([], tt)))))))))));
        given = (place_of p, (place_of owners, slices t (mut_of winners, (mut_of letters, tt))));
        answer = q;
        left = (place_of p, (place_of owners, slices (seven_after p owners t winners letters) (mut_of (winners_after p owners t winners letters), (mut_of l.0, tt))));
      };
      learnt = record {
        answer_is = refl;
        number_is = number-of p owners t winners letters;
        counts_are = counts-of p owners t winners letters;
        tables_are = hold-same (seven_after p owners t winners letters);
        winners_are = refl;
        letters_are = l.1;
      };
    }

wulfrenda-solve-call : List ℕ → List ℕ → Tables → List ℕ → List ℕ → Call wulfrenda_solve
unfolding place_of mut_of slices
wulfrenda-solve-call packed owners t winners letters =
    let p = policy_of packed in
    let l = letters-exist p owners t winners letters in
    let q = solving_of p owners t winners letters in
    record {
      at = record {
        lifetimes = ([], ([], ([], ([], ([], ([], ([], ([], ([], ([], ([], ([], tt))))))))))));
        given = (place_of packed, (place_of owners, slices t (mut_of winners, (mut_of letters, (mut_of (0 ∷ 0 ∷ 0 ∷ []), tt)))));
        answer = translate_number_of q;
        left = (place_of packed, (place_of owners, slices (seven_after p owners t winners letters) (mut_of (winners_after p owners t winners letters), (mut_of l.0, (mut_of (counts_of q), tt)))));
      };
      learnt = (refl, (refl, (hold-same (seven_after p owners t winners letters), (refl, l.1))));
    }

wulfrenda-solve-bytes-call : List ℕ → List ℕ → Tables → List ℕ → List ℕ → Call wulfrenda_solve_bytes
unfolding place_of mut_of slices
wulfrenda-solve-bytes-call bytes owners t winners letters =
    let a = bytes_reading_of bytes in
    let p = policy_read a in
    let l = letters-exist p owners t winners letters in
    let q = solving_of p owners t winners letters in
    record {
      at = record {
        lifetimes = ([], ([], ([], ([], ([], ([], ([], ([], ([], ([], ([], ([], ([], tt)))))))))))));
        given = (place_of bytes, (place_of owners, slices t (mut_of winners, (mut_of letters, (mut_of (0 ∷ 0 ∷ 0 ∷ []), (mut_of 0, tt))))));
        answer = first_of (read_number_of a) (translate_number_of q);
        left = (place_of bytes, (place_of owners, slices (seven_after p owners t winners letters) (mut_of (winners_after p owners t winners letters), (mut_of l.0, (mut_of (counts_of q), (mut_of (offset_after (read_number_of a) (translate_number_of q) (offset_of a)), tt))))));
      };
      learnt = (refl, (refl, (hold-same (seven_after p owners t winners letters), (refl, (l.1, refl)))));
    }

-- ---- after one that succeeded: a play from each built state, in which the other player always picks letter 0
module _ (s : Solving) (done : Done s) (n : ℕ) (h : n < states s) where
  abbrev t : Translating
  t = s.translating

  abbrev p : Policy
  p = t.policy

  abbrev size : ℕ
  size = length (built p) * p.letters

  abbrev targets : List ℕ
  targets = take size t.exit.targets

  abbrev priorities : List ℕ
  priorities = take size t.exit.priorities

  pick : ℕ → ℕ
  pick m = cond (eqb (owner_at s m) (winner_at s n)) (get_or s.letters m 0) 0

  state : ℕ → ℕ
  state zero = n
  state (suc i) = (run_after (record { state = state i }) (reading_of p.letters targets priorities (record { state = state i }) (pick (state i)))).state

  abbrev winner : ℕ → Bool
  winner m = player_of (winner_of p s.owners m)

  -- a state of the play, and who wins it
  record Stands (m : ℕ) : Type 0 where
    is-built : m < length (built p)
    wins : winner m ≡ winner n

  in-states : (m : ℕ) → m < length (built p) → m < states s
  in-states m l = subst (λ (k : ℕ). m < k) (sym (states_are s done)) l

  own-pick : (m : ℕ) → owner_at s m ≡ winner_at s n → pick m ≡ get_or s.letters m 0
  unfolding pick
  own-pick m e = rw (≡eqb (owner_at s m) (winner_at s n) e) refl

  owner-wins : (m : ℕ) → m < length (built p) → (game_of p s.owners).owner m ≡ winner n → owner_at s m ≡ winner_at s n
  owner-wins m l e =
      same_byte (owner_at s m) (winner_at s n) (owner-few s done m (in-states m l)) ((done-winners s done).few n h)
      (ap player_of (sym (owner-is s done m (in-states m l))) ∙ e ∙ ap player_of (sym (winner-at s done n h)))

  pick-legal : (m : ℕ) → Stands m → pick m < p.letters
  unfolding pick
  pick-legal m x = go (test (eqb (owner_at s m) (winner_at s n)))
    where
      go : (eqb (owner_at s m) (winner_at s n) ≡ true) ⊎ (eqb (owner_at s m) (winner_at s n) ≡ false) → pick m < p.letters
      go (inl e) =
          let o = ap player_of (owner-is s done m (in-states m x.is-built) ∙ eqb≡ (owner_at s m) (winner_at s n) e ∙ winner-at s done n h) in
          rw e ((chosen s done).solved.letters m x.is-built (o ∙ sym x.wins))
      go (inr f) = rw f (legal-counts p (done-legal s done)).letters_some

  next_row : (m : ℕ) → Stands m → (run_after (record { state = m }) (reading_of p.letters targets priorities (record { state = m }) (pick m))).state ≡ row_target p m (pick m)
  next_row m x = ap (λ (q : Result Met Refusal). (run_after (record { state = m }) q).state) (reads-row s done size (exact-beginning t (done-success s done)) m (pick m) x.is-built (pick-legal m x))

  next-stands : (m : ℕ) → Stands m → Stands (row_target p m (pick m))
  next-stands m x =
      let l = pick-legal m x in
      record {
        is-built = (row-leads p (done-legal s done) m (pick m) x.is-built l).0;
        wins = (chosen s done).solved.stays m (pick m) x.is-built l (λ o. own-pick m (owner-wins m x.is-built (o ∙ x.wins))) ∙ x.wins;
      }

  stands : (i : ℕ) → Stands (state i)
  unfolding state
  stands zero = record { is-built = is_state s done n h; wins = refl }
  stands (suc i) = go (stands i)
    where
      go : Stands (state i) → Stands (run_after (record { state = state i }) (reading_of p.letters targets priorities (record { state = state i }) (pick (state i)))).state
      go x = subst Stands (sym (next_row (state i) x)) (next-stands (state i) x)

  reads : ℕ → Call read
  reads i = read-call p.letters targets priorities (state i) (pick (state i))

  reads-play : Play s (λ i. read_shows (reads i).at)
  unfolding place_of mut_of read-call reads state
  reads-play = record {
    size = size;
    beginning = exact-beginning t (done-success s done);
    letters_are = λ i. refl;
    targets_are = λ i. refl;
    priorities_are = λ i. refl;
    begins = h;
    goes_on = λ i. refl;
    reads = λ i. pick-legal (state i) (stands i);
    follows = λ i e. own-pick (state i) e;
  }

  reads-begin : (read_shows (reads 0).at).state ≡ n
  unfolding place_of mut_of read-call reads state
  reads-begin = refl

  runs : ℕ → Call wulfrenda_run
  runs i = wulfrenda-run-call p.letters targets priorities (state i) (pick (state i))

  runs-play : Play s (λ i. wulfrenda_run_shows (runs i).at)
  unfolding place_of mut_of read-call wulfrenda-run-call reads runs state
  runs-play = record {
    size = size;
    beginning = exact-beginning t (done-success s done);
    letters_are = λ i. refl;
    targets_are = λ i. refl;
    priorities_are = λ i. refl;
    begins = h;
    goes_on = λ i. refl;
    reads = λ i. pick-legal (state i) (stands i);
    follows = λ i e. own-pick (state i) e;
  }

  runs-begin : (wulfrenda_run_shows (runs 0).at).state ≡ n
  unfolding place_of mut_of wulfrenda-run-call runs state
  runs-begin = refl

-- ---- B
core : PremisesMet solve solve_shows read read_shows
unfolding place_of mut_of slices solve-call
core =
    let c = solve-call B owners_of_b room wide wide in
    let returned : (solve_shows c.at).translating.number ≡ 0 = ap translate_number_of b-solved in
    let s = solve_shows c.at in
    let done = solved c returned in
    record {
      call = c;
      policy_is = refl;
      owners_are = refl;
      succeeded = returned;
      calls = λ n h. reads s done n h;
      begins = λ n h. reads-begin s done n h;
      play = λ n h. reads-play s done n h;
    }

library : PremisesMet wulfrenda_solve wulfrenda_solve_shows wulfrenda_run wulfrenda_run_shows
unfolding place_of mut_of slices wulfrenda-solve-call
library =
    let c = wulfrenda-solve-call (record_of B) owners_of_b room wide wide in
    let s = wulfrenda_solve_shows c.at in
    let returned : s.translating.number ≡ 0 = ap (λ (p : Policy). translate_number_of (solving_of p owners_of_b room wide wide)) policy-back ∙ ap translate_number_of b-solved in
    let done = wulfrenda-solved c returned in
    record {
      call = c;
      policy_is = policy-back;
      owners_are = refl;
      succeeded = returned;
      calls = λ n h. runs s done n h;
      begins = λ n h. runs-begin s done n h;
      play = λ n h. runs-play s done n h;
    }

library-from-bytes : PremisesMet wulfrenda_solve_bytes wulfrenda_solve_bytes_shows wulfrenda_run wulfrenda_run_shows
unfolding place_of mut_of slices wulfrenda-solve-bytes-call first_of
library-from-bytes =
    let c = wulfrenda-solve-bytes-call bytes_of_b owners_of_b room wide wide in
    let s = wulfrenda_solve_bytes_shows c.at in
    let number : Result Found Refused → ℕ = λ (a : Result Found Refused). first_of (read_number_of a) (translate_number_of (solving_of (policy_read a) owners_of_b room wide wide)) in
    let returned : s.translating.number ≡ 0 = ap number bytes-give ∙ ap translate_number_of b-solved in
    let done = wulfrenda-solved-bytes c returned in
    record {
      call = c;
      policy_is = ap policy_read bytes-give;
      owners_are = refl;
      succeeded = returned;
      calls = λ n h. runs s done n h;
      begins = λ n h. runs-begin s done n h;
      play = λ n h. runs-play s done n h;
    }

pub instances : Instances
instances = record { of_the_core = core; of_the_library = library; of_the_library_from_bytes = library-from-bytes }
