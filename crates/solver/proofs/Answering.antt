-- From the marks of level 0 to the tables. Assumes nothing.
use Prim.Native.Nat.{ℕ, ◌+◌, ◌-◌, ◌*◌, ◌≤◌, ◌<◌}
use native.Mathlib.Omega.{arith}
use native.Mathlib.Decide.{ℕ_discrete}
use mathlib.Core.Path.{◌≡◌, refl, sym, ap, ap₂, ◌∙◌, subst}
use mathlib.Core.Logic.{◌⊎◌, inl, inr, ◌≢◌}
use mathlib.Core.Bool.{Bool, true, false, cond}
use mathlib.Core.List.{List, ◌++◌}
use lib.Dec.{eqb, ltb}
use lib.ListN.{length, get_or, set, take, drop, replicate, length-set, length-append, length-drop, get_or-append}
use lib.Seq.{get_or-set_same, get_or-set_other}
use Rattle.std.proofs.lemmas.List.{get_or-append_right, get_or-replicate, get_or-drop, length-replicate}
use Rattle.orders.proofs.Walks.{front-long}
use borrow.Author.Tests.{lt-ltb}
use Rattle.lists.proofs.Bools.{test, ≡eqb, neqb, and_l, both, not_itself, lt-true, bool-ext}
use Rattle.games.specs.Games.{Game, Total, Solved}
use Rattle.games.proofs.Regions.{Arena, Solution}
use Rattle.games.proofs.Peel.{region-move}
use Rattle.games.proofs.Plays.{solution-solved, solved-with}
use Rattle.orders.specs.Orders.{Lists, Numbered}
use Rattle.attracting.specs.Attracting.{owns, Rows, table_game}
use Rattle.levels.specs.Levels.{won_mark, live, Headed, SolvedAt}
use Rattle.levels.proofs.Marks.{out_of_range}
use Rattle.solver.specs.Answers.{Finished, Answers}
use Rattle.attracting.proofs.Sweeping.{owns-true, owns-false}

-- ---- filling
-- the places before n hold 255
pub record Fills (n : ℕ) (m m' : List ℕ) : Type 0 where
  pub long : length m' ≡ length m
  pub done : (s : ℕ) → s < n → get_or m' s 0 ≡ 255
  pub rest : (s : ℕ) → n ≤ s → get_or m' s 0 ≡ get_or m s 0

pub filled : (n : ℕ) (m f : List ℕ) → n ≤ length m → f ≡ replicate (length (take n m)) 255 → Fills n m (f ++ drop n m)
filled n m f le e = record {
  long = omega (arith, length-append f (drop n m), length-drop n m, long);
  done = λ s h. get_or-append f (drop n m) 0 s (omega (arith, long)) ∙ ap (λ (l : List ℕ). get_or l s 0) e ∙ get_or-replicate (length (take n m)) s 255 0 (omega (arith, front-long n m le));
  rest = λ s h. get_or-append_right f (drop n m) n s 0 long h ∙ get_or-drop n m (s - n) 0 ∙ ap (λ (i : ℕ). get_or m i 0) (past s h);
}
  where
    long : length f ≡ n
    long = ap length e ∙ length-replicate (length (take n m)) 255 ∙ front-long n m le

    past : (s : ℕ) → n ≤ s → n + (s - n) ≡ s
    past s h = omega arith

-- ---- finishing
-- a letter where the owner wins, and 255 elsewhere
pub letter-own : (own : Bool) (y x : ℕ) → own ≡ true → y ≡ x → y ≡ cond own x 255
letter-own own y x t e = rw t e

pub letter-other : (own : Bool) (y x : ℕ) → own ≡ false → y ≡ 255 → y ≡ cond own x 255
letter-other own y x f e = rw f e

pub finished-more : (owners sources : List ℕ) (n : ℕ) (m c m' c' : List ℕ) (w y : ℕ) (own : Bool) → n < length m → n < length c → Finished owners sources n m c m' c'
    → w ≡ get_or m' n 0 - 1 → own ≡ owns (eqb w 1) (get_or owners (get_or sources n 0) 0) → y ≡ cond own (get_or c' n 0) 255 → Finished owners sources (n + 1) m c (set m' n w) (set c' n y)
finished-more owners sources n m c m' c' w y own hm hc x ew eo ey = record {
  marks_long = length-set m' n w ∙ x.marks_long;
  choices_long = length-set c' n y ∙ x.choices_long;
  marks_done = λ s l. marks s l (ℕ_discrete s n);
  choices_done = λ s l. choices s l (ℕ_discrete s n);
  marks_rest = λ s l. get_or-set_other m' n s w 0 (λ e. absurd (omega arith)) ∙ x.marks_rest s (omega arith);
  choices_rest = λ s l. get_or-set_other c' n s y 0 (λ e. absurd (omega arith)) ∙ x.choices_rest s (omega arith);
}
  where
    w-is : w ≡ get_or m n 0 - 1
    w-is = ew ∙ ap (λ (z : ℕ). z - 1) (x.marks_rest n (omega arith))

    y-is : y ≡ cond (owns (eqb (get_or m n 0 - 1) 1) (get_or owners (get_or sources n 0) 0)) (get_or c n 0) 255
    y-is =
        ey ∙ ap₂ (λ (b : Bool) (z : ℕ). cond b z 255) (eo ∙ ap (λ (a : ℕ). owns (eqb a 1) (get_or owners (get_or sources n 0) 0)) w-is) (x.choices_rest n (omega arith))

    marks : (s : ℕ) → s < n + 1 → Dec (s ≡ n) → get_or (set m' n w) s 0 ≡ get_or m s 0 - 1
    marks s l (yes e) = ap (λ (z : ℕ). get_or (set m' n w) z 0) e ∙ get_or-set_same m' n w 0 (omega (arith, x.marks_long)) ∙ w-is ∙ ap (λ (z : ℕ). get_or m z 0 - 1) (sym e)
    marks s l (no e) = get_or-set_other m' n s w 0 e ∙ x.marks_done s (omega arith)

    choices : (s : ℕ) → s < n + 1 → Dec (s ≡ n) → get_or (set c' n y) s 0 ≡ cond (owns (eqb (get_or m s 0 - 1) 1) (get_or owners (get_or sources s 0) 0)) (get_or c s 0) 255
    choices s l (yes e) =
        ap (λ (z : ℕ). get_or (set c' n y) z 0) e ∙ get_or-set_same c' n y 0 (omega (arith, x.choices_long)) ∙ y-is
        ∙ ap (λ (z : ℕ). cond (owns (eqb (get_or m z 0 - 1) 1) (get_or owners (get_or sources z 0) 0)) (get_or c z 0) 255) (sym e)
    choices s l (no e) = get_or-set_other c' n s y 0 e ∙ x.choices_done s (omega arith)

-- ---- the answer
module _ (owners sources targets priorities : List ℕ) (letters states : ℕ) (rows : Rows owners sources targets priorities letters states) (some : 0 < letters)
    (priorities-few : (s a : ℕ) → s < states → a < letters → get_or priorities (s * letters + a) 0 < 10) where
  abbrev G : Game
  G = table_game owners sources targets priorities letters states

  total : Total G 10
  total = record { some = some; targets = rows.targets_few; priorities = priorities-few }

  module _ (w₀ m₀ : List ℕ) (x : Fills states w₀ m₀) where
    all_live : (s : ℕ) → live states m₀ s ≡ ltb s states
    all_live s = bool-ext (live states m₀ s) (ltb s states) (λ e. and_l (ltb s states) (eqb (get_or m₀ s 0) 255) e)
        (λ e. both (ltb s states) (eqb (get_or m₀ s 0) 255) e (≡eqb (get_or m₀ s 0) 255 (x.done s (lt-true s states e))))

    pub answer-head : Headed states 0 m₀
    answer-head = record { low = λ s h e. absurd (e (x.done s h)) }

    pub answer-arena : Arena G 0 (live states m₀)
    answer-arena = record {
      below = λ s e. lt-true s states (sym (all_live s) ∙ e);
      row = λ s e. let h = lt-true s states (sym (all_live s) ∙ e) in
          (0, record { letter = some; within = all_live (G.target s 0) ∙ lt-ltb (G.target s 0) states (rows.targets_few s 0 h some); above = omega arith });
    }

    -- every state is live, and stands in the order
    pub answer-listed : (o₀ o : List ℕ) → states ≤ length o₀ → Numbered states o₀ o → Lists (live states m₀) states o
    answer-listed o₀ o h q = record {
      long = omega (arith, q.long);
      each = λ i l. all_live (get_or o i 0) ∙ lt-ltb (get_or o i 0) states (subst (λ (z : ℕ). z < states) (sym (q.own i l)) l);
      all = λ s e. let l = lt-true s states (sym (all_live s) ∙ e) in (s, l, q.own s l);
    }

    module _ (c₀ m c : List ℕ) (b : SolvedAt owners sources targets priorities letters states 0 m₀ c₀ m c) where
      mark-cases : (s : ℕ) → s < states → (get_or m s 0 ≡ 1) ⊎ (get_or m s 0 ≡ 2)
      mark-cases s h = let q = b.inside s (all_live s ∙ lt-ltb s states h) in go q.0 q.1
        where
          go : (j : Bool) → get_or m s 0 ≡ won_mark 0 j → (get_or m s 0 ≡ 1) ⊎ (get_or m s 0 ≡ 2)
          go true e = inr (omega (arith, e))
          go false e = inl (omega (arith, e))

      solution : Solution G 0 (λ s. ltb s states)
      solution = record {
        winner = λ s. eqb (get_or m s 0) (won_mark 0 true);
        choice = λ s. get_or c s 0;
        region = λ j. region-move G j 0 (live states m₀) (λ s. ltb s states) (λ s. eqb (get_or m s 0) (won_mark 0 true)) (λ s. get_or c s 0) all_live (b.region j);
      }

      solved : Solved G (λ s. eqb (get_or m s 0) (won_mark 0 true)) (λ s. get_or c s 0)
      unfolding solution
      solved = solution-solved G 10 total solution

      module _ (w l : List ℕ) (f : Finished owners sources states m c w l) where
        winner-same : (s : ℕ) → s < states → eqb (get_or w s 0) 1 ≡ eqb (get_or m s 0) (won_mark 0 true)
        winner-same s h = go (mark-cases s h)
          where
            go : (get_or m s 0 ≡ 1) ⊎ (get_or m s 0 ≡ 2) → eqb (get_or w s 0) 1 ≡ eqb (get_or m s 0) (won_mark 0 true)
            go (inl e) = neqb (get_or w s 0) 1 (λ z. absurd (omega (arith, f.marks_done s h))) ∙ sym (neqb (get_or m s 0) (won_mark 0 true) (λ z. absurd (omega arith)))
            go (inr e) = ≡eqb (get_or w s 0) 1 (omega (arith, f.marks_done s h)) ∙ sym (≡eqb (get_or m s 0) (won_mark 0 true) (omega arith))

        letter-is : (s : ℕ) → s < states → get_or l s 0 ≡ cond (owns (eqb (get_or w s 0) 1) (get_or owners (get_or sources s 0) 0)) (get_or c s 0) 255
        letter-is s h = f.choices_done s h ∙ ap (λ (z : ℕ). cond (owns (eqb z 1) (get_or owners (get_or sources s 0) 0)) (get_or c s 0) 255) (sym (f.marks_done s h))

        letter-kept : (s : ℕ) → s < states → G.owner s ≡ eqb (get_or m s 0) (won_mark 0 true) → get_or l s 0 ≡ get_or c s 0
        letter-kept s h o = letter-is s h ∙ go (test (owns (eqb (get_or w s 0) 1) (get_or owners (get_or sources s 0) 0)))
          where
            go : (owns (eqb (get_or w s 0) 1) (get_or owners (get_or sources s 0) 0) ≡ true) ⊎ (owns (eqb (get_or w s 0) 1) (get_or owners (get_or sources s 0) 0) ≡ false)
                → cond (owns (eqb (get_or w s 0) 1) (get_or owners (get_or sources s 0) 0)) (get_or c s 0) 255 ≡ get_or c s 0
            go (inl t) = rw t refl
            go (inr n) = absurd (not_itself (eqb (get_or w s 0) 1) (winner-same s h ∙ sym o ∙ owns-false (eqb (get_or w s 0) 1) (get_or owners (get_or sources s 0) 0) n))

        letter-none : (s : ℕ) → s < states → G.owner s ≢ eqb (get_or w s 0) 1 → get_or l s 0 ≡ 255
        letter-none s h o = letter-is s h ∙ go (test (owns (eqb (get_or w s 0) 1) (get_or owners (get_or sources s 0) 0)))
          where
            go : (owns (eqb (get_or w s 0) 1) (get_or owners (get_or sources s 0) 0) ≡ true) ⊎ (owns (eqb (get_or w s 0) 1) (get_or owners (get_or sources s 0) 0) ≡ false)
                → cond (owns (eqb (get_or w s 0) 1) (get_or owners (get_or sources s 0) 0)) (get_or c s 0) 255 ≡ 255
            go (inl t) = absurd (o (owns-true (eqb (get_or w s 0) 1) (get_or owners (get_or sources s 0) 0) t))
            go (inr n) = rw n refl

        few : (s : ℕ) → s < states → get_or w s 0 ≤ 1
        few s h = go (mark-cases s h)
          where
            go : (get_or m s 0 ≡ 1) ⊎ (get_or m s 0 ≡ 2) → get_or w s 0 ≤ 1
            go (inl e) = omega (arith, f.marks_done s h)
            go (inr e) = omega (arith, f.marks_done s h)

        pub answers : Answers owners sources targets priorities letters states w₀ c₀ w l
        answers = record {
          winners_long = f.marks_long ∙ b.marks_long ∙ x.long;
          letters_long = f.choices_long ∙ b.choices_long;
          winner_few = few;
          solved = solved-with G 10 total (λ s. eqb (get_or m s 0) (won_mark 0 true)) (λ s. eqb (get_or w s 0) 1) (λ s. get_or c s 0) (λ s. get_or l s 0) solved winner-same letter-kept;
          no_letter = letter-none;
          winners_past = λ s h. f.marks_rest s h ∙ (b.outside s (out_of_range states m₀ s h)).0 ∙ x.rest s h;
          letters_past = λ s h. f.choices_rest s h ∙ (b.outside s (out_of_range states m₀ s h)).1;
        }
