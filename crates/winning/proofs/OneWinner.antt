-- Built states over one policy state have one winner. Were one of them one player's and another the other's, let each player follow its letters in the two runs at once, over the same letters:
-- both runs stay over one policy state, so one player moves in both. The pair of built states comes back, so the letters are a stem and a loop, and by demand 3 both runs have the same verdict:
-- but each player has won its run. Assumes nothing.
use Prim.Native.Nat.{ℕ, zero, suc, ◌+◌, ◌-◌, ◌*◌, ◌/◌, ◌%◌, ◌≤◌, ◌<◌}
use native.Mathlib.Omega.{arith}
use mathlib.Core.Path.{◌≡◌, refl, sym, ap, ap₂, ◌∙◌, subst}
use mathlib.Core.Logic.{◌⊎◌, inl, inr}
use mathlib.Core.Bool.{Bool, true, false, not, cond}
use mathlib.Core.List.{List, [], ◌∷◌, map}
use lib.Arith.{digits_lt, digits_div, digits_mod}
use lib.Dec.{ltb}
use lib.ListN.{length, get_or}
use borrow.Author.Tests.{lt-ltb}
use Rattle.lists.specs.Lists.{below}
use Rattle.lists.proofs.Bools.{test, bool-ext, not_itself, same_or_not}
use Rattle.lists.proofs.Lists.{each_all, map-mem, length-map-below}
use Rattle.masks.specs.Masks.{has}
use Rattle.masks.proofs.Bits.{mask-ext}
use Rattle.recurrence.proofs.Pigeon.{pigeon}
use Rattle.policy.specs.declared.Policy.{Policy}
use Rattle.policy.specs.Policies.{legal, in_family, edge_of, target_of}
use Rattle.automaton.specs.Automaton.{built, state_at, row_target}
use Rattle.judging.specs.Judging.{non_empty, in_range}
use Rattle.correctness.specs.Demand3.{Recurs, colours_met}
use Rattle.games.specs.Games.{serves, Solved}
use Rattle.games.proofs.Sets.{is, is_true, true-is}
use Rattle.supervision.specs.Supervision.{player_of, game_of}
use Rattle.supervision.proofs.Rows.{row-leads}
use Rattle.solving.specs.Solving.{winner_of}
use Rattle.winning.specs.Winning.{OneWinner, LoopPlay, OneLeast}
use Rattle.solving.proofs.Winners.{winner_few, same_byte, winner-has-letters}
use Rattle.winning.proofs.Periods.{Periodic, comes_back, stem_of, loop_of, reads-stem-and-loop}
use Rattle.winning.proofs.Recurring.{serves-odd}
use Rattle.winning.proofs.StemAndLoop.{one_least}

-- ---- words of letters of the policy
mapped-range : (letters : ℕ) (g : ℕ → ℕ) (l : List ℕ) → ((i : ℕ) → g i < letters) → in_range letters (map g l) ≡ true
unfolding in_range
mapped-range letters g l h = each_all (λ a. ltb a letters) (map g l) (λ a m. let q = map-mem g l a m in lt-ltb a letters (subst (λ (z : ℕ). z < letters) (sym q.2) (h q.0)))

mapped-some : (g : ℕ → ℕ) (n : ℕ) → 0 < n → non_empty (map g (below n)) ≡ true
mapped-some g n h = go (map g (below n)) (length-map-below g n)
  where
    go : (l : List ℕ) → length l ≡ n → non_empty l ≡ true
    go [] e = absurd (omega (arith, e))
    go (x ∷ xs) e = refl

module _ (p : Policy) (ok : legal p ≡ true) (few : length (built p) ≤ 65535) (owners : List ℕ) (w : ℕ → Bool) (c : ℕ → ℕ) (solved : Solved (game_of p owners) w c) where
  abbrev owner : ℕ → Bool
  owner s = player_of (get_or owners (state_at p s).state 0)

  module _ (s t : ℕ) (hs : s < length (built p)) (ht : t < length (built p)) (same : (state_at p s).state ≡ (state_at p t).state) (apart : w t ≡ not (w s)) where
    -- ---- the two runs
    pick : ℕ × ℕ → ℕ
    pick q = cond (is (w s) (owner q.0)) (c q.0) (c q.1)

    next : ℕ × ℕ → ℕ × ℕ
    next q = (row_target p q.0 (pick q), row_target p q.1 (pick q))

    pair : ℕ → ℕ × ℕ
    pair zero = (s, t)
    pair (suc n) = next (pair n)

    abbrev left : ℕ → ℕ
    left n = (pair n).0

    abbrev right : ℕ → ℕ
    right n = (pair n).1

    abbrev letter : ℕ → ℕ
    letter n = pick (pair n)

    record Both (x y : ℕ) : Type 0 where
      left_built : x < length (built p)
      right_built : y < length (built p)
      over : (state_at p x).state ≡ (state_at p y).state
      left_won : w x ≡ w s
      right_won : w y ≡ w t

    same-owner : (x y : ℕ) → Both x y → owner x ≡ owner y
    same-owner x y b = ap (λ (v : ℕ). player_of (get_or owners v 0)) b.over

    pick-left : (x y : ℕ) → owner x ≡ w s → pick (x, y) ≡ c x
    unfolding pick
    pick-left x y o = rw (true-is (w s) (owner x) o)

    pick-right : (x y : ℕ) → owner x ≡ w t → pick (x, y) ≡ c y
    unfolding pick
    pick-right x y o = rw (other (test (is (w s) (owner x))))
      where
        other : (is (w s) (owner x) ≡ true) ⊎ (is (w s) (owner x) ≡ false) → is (w s) (owner x) ≡ false
        other (inl e) = absurd (not_itself (w s) (sym (is_true (w s) (owner x) e) ∙ o ∙ apart))
        other (inr e) = e

    pick-legal : (x y : ℕ) → Both x y → (owner x ≡ w s) ⊎ (owner x ≡ not (w s)) → pick (x, y) < p.letters
    pick-legal x y b (inl o) = subst (λ (z : ℕ). z < p.letters) (sym (pick-left x y o)) (solved.letters x b.left_built (o ∙ sym b.left_won))
    pick-legal x y b (inr o) =
        let q : owner x ≡ w t = o ∙ sym apart in
        subst (λ (z : ℕ). z < p.letters) (sym (pick-right x y q)) (solved.letters y b.right_built (sym (same-owner x y b) ∙ q ∙ sym b.right_won))

    both-next : (x y : ℕ) → Both x y → Both (row_target p x (pick (x, y))) (row_target p y (pick (x, y)))
    both-next x y b =
        let a = pick (x, y) in
        let l = pick-legal x y b (same_or_not (owner x) (w s)) in
        let u = row-leads p ok x a b.left_built l in
        let v = row-leads p ok y a b.right_built l in
        record {
          left_built = u.0;
          right_built = v.0;
          over = u.1 ∙ ap (λ (z : ℕ). target_of p (edge_of p z a)) b.over ∙ sym v.1;
          left_won = solved.stays x a b.left_built l (λ o. pick-left x y (o ∙ b.left_won)) ∙ b.left_won;
          right_won = solved.stays y a b.right_built l (λ o. pick-right x y (same-owner x y b ∙ o ∙ b.right_won)) ∙ b.right_won;
        }

    both_at : (n : ℕ) → Both (left n) (right n)
    unfolding pair next
    both_at zero = record { left_built = hs; right_built = ht; over = same; left_won = refl; right_won = refl }
    both_at (suc n) = both-next (left n) (right n) (both_at n)

    letter-lt : (n : ℕ) → letter n < p.letters
    letter-lt n = pick-legal (left n) (right n) (both_at n) (same_or_not (owner (left n)) (w s))

    -- ---- the pair comes back: both runs read one stem and one loop
    module _ (from period : ℕ) (pairs : Periodic pair from period) where
      abbrev stem : List ℕ
      stem = stem_of letter from

      abbrev loop : List ℕ
      loop = loop_of letter from period

      letters-back : Periodic letter from period
      letters-back = record { some = pairs.some; back = λ n. ap pick (pairs.back n) }

      play : (state : ℕ → ℕ) → state 0 < length (built p) → ((n : ℕ) → state (suc n) ≡ row_target p (state n) (letter n)) → LoopPlay p stem loop state letter
      play state begins goes = record {
        stem_range = mapped-range p.letters letter (below from) letter-lt;
        loop_range = mapped-range p.letters (λ i. letter (from + i)) (below period) (λ i. letter-lt (from + i));
        loop_some = mapped-some (λ i. letter (from + i)) period pairs.some;
        begins = begins;
        reads = reads-stem-and-loop letter from period letters-back;
        goes = goes;
      }

      left-play : LoopPlay p stem loop left letter
      unfolding pair next
      left-play = play left hs (λ n. refl)

      right-play : LoopPlay p stem loop right letter
      unfolding pair next
      right-play = play right ht (λ n. refl)

      abbrev one : OneLeast p stem loop left letter owners
      one = one_least p ok few stem loop left letter left-play owners

      abbrev two : OneLeast p stem loop right letter owners
      two = one_least p ok few stem loop right letter right-play owners

      -- both stand over one run of the policy, so one set of colours recurs
      same-colours : one.colours ≡ two.colours
      unfolding pair
      same-colours =
          mask-ext one.colours two.colours
          (λ k.
          bool-ext (has one.colours k) (has two.colours k)
          (λ e. (two.colours_recur k).1 (over same k ((one.colours_recur k).0 e)))
          (λ e. (one.colours_recur k).1 (over (sym same) k ((two.colours_recur k).0 e))))
        where
          over : {u v : ℕ} → u ≡ v → (k : ℕ) → Recurs stem loop (colours_met stem loop p u) k → Recurs stem loop (colours_met stem loop p v) k
          over e k h = subst (λ (z : ℕ). Recurs stem loop (colours_met stem loop p z) k) e h

      same-parity : serves one.least ≡ serves two.least
      same-parity = serves-odd one.least ∙ ap not (one.verdict ∙ ap (in_family p) same-colours ∙ sym two.verdict) ∙ sym (serves-odd two.least)

      -- but each player has won its run
      left-serves : serves one.least ≡ w s
      unfolding pair next
      left-serves =
          (solved.wins left letter hs (record { legal = letter-lt; goes = λ n. refl; chosen = λ n o. pick-left (left n) (right n) o })).least one.least ((one.in_the_game one.least).1 refl)

      right-serves : serves two.least ≡ w t
      unfolding pair next
      right-serves =
          (solved.wins right letter ht (record { legal = letter-lt; goes = λ n. refl; chosen = λ n o. pick-right (left n) (right n) (same-owner (left n) (right n) (both_at n) ∙ o) })
          ).least two.least ((two.in_the_game two.least).1 refl)

      contradiction : ⊥
      contradiction = not_itself (w s) (sym left-serves ∙ same-parity ∙ right-serves ∙ apart)

    abbrev S : ℕ
    S = length (built p)

    repeats : (i : ℕ) × (j : ℕ) × (i < j) × (pair j ≡ pair i)
    repeats =
        let r = pigeon (S * S) (λ n. left n * S + right n) (λ n h. digits_lt (both_at n).left_built (both_at n).right_built) in
        (r.0, r.1, r.2, ap₂ (λ (x y : ℕ). (x, y)) (lefts r.0 r.1 r.4) (rights r.0 r.1 r.4))
      where
        lefts : (i j : ℕ) → left i * S + right i ≡ left j * S + right j → left j ≡ left i
        lefts i j q = sym (digits_div (left j) (both_at j).right_built) ∙ ap (λ (z : ℕ). z / S) (sym q) ∙ digits_div (left i) (both_at i).right_built

        rights : (i j : ℕ) → left i * S + right i ≡ left j * S + right j → right j ≡ right i
        rights i j q = sym (digits_mod (left j) (both_at j).right_built) ∙ ap (λ (z : ℕ). z % S) (sym q) ∙ digits_mod (left i) (both_at i).right_built

    not-apart : ⊥
    unfolding pair
    not-apart =
        let r = repeats in
        let e : r.0 + (r.1 - r.0) ≡ r.1 = omega (arith, r.2) in
        contradiction r.0 (r.1 - r.0) (comes_back pair (λ n. next) (λ n. refl) r.0 (r.1 - r.0) (omega (arith, r.2)) (λ n y. refl) (ap pair e ∙ r.3))

  pub solution-one-winner : (s t : ℕ) → s < length (built p) → t < length (built p) → (state_at p s).state ≡ (state_at p t).state → w t ≡ w s
  solution-one-winner s t hs ht same = go (same_or_not (w t) (w s))
    where
      go : (w t ≡ w s) ⊎ (w t ≡ not (w s)) → w t ≡ w s
      go (inl e) = e
      go (inr e) = absurd (not-apart s t hs ht same e)

pub one_winner : (p : Policy) → legal p ≡ true → length (built p) ≤ 65535 → (owners : List ℕ) → OneWinner p owners
one_winner p ok few owners s t hs ht same =
    let r = winner-has-letters p ok owners in
    same_byte (winner_of p owners s) (winner_of p owners t) (winner_few p owners s) (winner_few p owners t)
    (sym (solution-one-winner p ok few owners (λ s. player_of (winner_of p owners s)) r.0 r.1 s t hs ht same))
