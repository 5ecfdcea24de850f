-- Judging rows: what reading letters collects, and that the search for a repeat finds the least priority that recurs and reads every row that any round reads. Assumes nothing.
use Prim.Native.Nat.{ℕ, suc, ◌+◌, ◌-◌, ◌*◌, ◌≤◌, ◌<◌, min}
use native.Mathlib.Omega.{arith}
use mathlib.Core.Path.{◌≡◌, refl, sym, ap, ap₂, ◌∙◌, subst}
use mathlib.Core.Bool.{Bool, true, false, ◌||◌, cond, or-true, or-false, false≢true}
use mathlib.Core.List.{List, [], ◌∷◌, ◌++◌, append-nil}
use lib.Dec.{eqb}
use lib.ListN.{get_or}
use Rattle.recurrence.specs.declared.Search.{Search}
use Rattle.recurrence.specs.Iterates.{iter, rounds}
use Rattle.recurrence.specs.Runs.{after, met, window}
use Rattle.recurrence.specs.Search.{search_from, search_next}
use Rattle.recurrence.proofs.Runs.{after-keeps, after_any, through-run, through-value}
use Rattle.recurrence.proofs.Repeats.{iter-any, rounds-snoc, before-first}
use Rattle.recurrence.proofs.Seeking.{search_left, Numbered, Collects, Searched, seeking-few, seeking-within, searched-start, round-more, round-less}
use Rattle.running.specs.declared.Run.{Run}
use Rattle.running.specs.declared.Met.{Met}
use Rattle.std.specs.Prelude.{Result, Ok, Err}
use Rattle.refusals.specs.declared.Refusal.{Refusal}
use Rattle.refusals.specs.Refusals.{number}
use Rattle.running.specs.Running.{row_of, row_states, shaped, reading_of, row_step, row_meets, run_after, priorities_of}
use Rattle.running.proofs.Steps.{refusal-13, refusal-none, reading-moved, reading-refused, row_within}
use Rattle.judging.specs.declared.Seen.{Seen}
use Rattle.judging.specs.Judging.{non_empty, least_of, no_state, dangling_meets, ever_dangling, least_recurring}
use Rattle.judging.specs.Rounds.{run_of, seen_with, seen_step, seen_after}
use Rattle.judging.proofs.Laws.{least-with, least-append, least-same, non_empty-append, non_empty-same}

-- ---- one reading
seen-run : (s : Seen) (x : Result Met Refusal) → run_of (seen_with s x) ≡ run_after (run_of s) x
seen-run s (Ok m) = refl
seen-run s (Err e) = refl

seen-least : (s : Seen) (x : Result Met Refusal) (l : List ℕ) → s.least ≡ least_of l → (seen_with s x).least ≡ least_of (l ++ priorities_of x)
seen-least s (Ok m) l e = least-with l m.priority s.least e
seen-least s (Err q) l e = e ∙ ap least_of (sym (append-nil l))

leasts : Collects least_of min
leasts = record { same = least-same; joins = λ l r. sym (least-append l r) }

-- `b ||` for what was read before
abbrev pub dangling_in : Bool → List ℕ → Bool
dangling_in b l = b || non_empty l

dangling-append : (b : Bool) (l r : List ℕ) → dangling_in b l || non_empty r ≡ dangling_in b (l ++ r)
dangling-append true l r = refl
dangling-append false l r = sym (non_empty-append l r)

seen-dangling : (b : Bool) (s : Seen) (x : Result Met Refusal) (a : ℕ) (l : List ℕ) → s.dangling ≡ dangling_in b l → (seen_with s x).dangling ≡ dangling_in b (l ++ cond (no_state x) (a ∷ []) [])
seen-dangling b s (Ok m) a l e = e ∙ ap (dangling_in b) (sym (append-nil l))
seen-dangling b s (Err q) a l e = ap₂ ◌||◌ e (go (eqb (number q) 13)) ∙ dangling-append b l (cond (eqb (number q) 13) (a ∷ []) [])
  where
    go : (b : Bool) → b ≡ non_empty (cond b (a ∷ []) [])
    go true = refl
    go false = refl

module _ (letters : ℕ) (targets priorities : List ℕ) where
  -- ---- one letter, past questions 8, 11 and 12
  module _ (ok : shaped letters targets priorities ≡ true) (s : Seen) (a : ℕ) (state : s.state < row_states letters targets priorities) (letter : a < letters) where
    pub seen-dangles : row_states letters targets priorities ≤ get_or targets (row_of letters s.state a) 0
        → record { state = s.state; least = s.least; dangling = true } ≡ seen_step letters targets priorities s a
    unfolding seen_step
    seen-dangles h =
        rw (reading-refused letters targets priorities (run_of s) a 13 (refusal-13 letters targets priorities (run_of s) a ok state letter h) refl)
        (ap (λ (b : Bool). record { state = s.state; least = s.least; dangling = b }) (sym (or-true s.dangling)))

    pub seen_moves : get_or targets (row_of letters s.state a) 0 < row_states letters targets priorities → (k : ℕ)
        → k ≡ min (get_or priorities (row_of letters s.state a) 0) s.least
        → record { state = get_or targets (row_of letters s.state a) 0; least = k; dangling = s.dangling } ≡ seen_step letters targets priorities s a
    unfolding seen_step
    seen_moves h k e =
        rw (reading-moved letters targets priorities (run_of s) a (refusal-none letters targets priorities (run_of s) a ok state letter h))
        (ap (λ (x : ℕ). record { state = get_or targets (row_of letters s.state a) 0; least = x; dangling = s.dangling }) e)

  pub moves : (s : Seen) (a : ℕ) → run_of (seen_step letters targets priorities s a) ≡ row_step letters targets priorities (run_of s) a
  unfolding seen_step row_step
  moves s a = seen-run s (reading_of letters targets priorities (run_of s) a)

  pub adds-least : (s : Seen) (a : ℕ) (l : List ℕ) → s.least ≡ least_of l → (seen_step letters targets priorities s a).least ≡ least_of (l ++ row_meets letters targets priorities (run_of s) a)
  unfolding seen_step row_meets
  adds-least s a l e = seen-least s (reading_of letters targets priorities (run_of s) a) l e

  pub adds-dangling : (b : Bool) (s : Seen) (a : ℕ) (l : List ℕ) → s.dangling ≡ dangling_in b l → (seen_step letters targets priorities s a).dangling ≡ dangling_in b (l ++ dangling_meets letters targets priorities (run_of s) a)
  unfolding seen_step dangling_meets
  adds-dangling b s a l e = seen-dangling b s (reading_of letters targets priorities (run_of s) a) a l e

  stays : (r : Run) (a : ℕ) → r.state < row_states letters targets priorities → (row_step letters targets priorities r a).state < row_states letters targets priorities
  stays r a h = row_within letters targets priorities r a h

  pub step_stays : (s : Seen) (a : ℕ) → s.state < row_states letters targets priorities → (seen_step letters targets priorities s a).state < row_states letters targets priorities
  step_stays s a h = subst (λ (r : Run). r.state < row_states letters targets priorities) (sym (moves s a)) (stays (run_of s) a h)

  pub word-stays : (w : List ℕ) (s : Seen) → s.state < row_states letters targets priorities → (seen_after letters targets priorities w s).state < row_states letters targets priorities
  word-stays w s h =
      subst (λ (x : Run). x.state < row_states letters targets priorities)
      (sym (through-run (row_step letters targets priorities) (row_meets letters targets priorities) (seen_step letters targets priorities) run_of (λ s. s.least) least_of moves adds-least w s))
      (after-keeps (row_step letters targets priorities) (row_meets letters targets priorities) (λ r. r.state < row_states letters targets priorities) stays w (run_of s) h)

  abbrev n : ℕ
  n = row_states letters targets priorities

  abbrev step : Run → ℕ → Run
  step = row_step letters targets priorities

  abbrev next : Seen → ℕ → Seen
  next = seen_step letters targets priorities

  abbrev meets : Run → ℕ → List ℕ
  meets = row_meets letters targets priorities

  abbrev dangles : Run → ℕ → List ℕ
  dangles = dangling_meets letters targets priorities

  -- where a round begins
  abbrev pub begun : ℕ → Bool → Seen
  begun v b = record { state = v; least = 255; dangling = b }

  -- ---- the search for a repeat, in rounds from the state v, after letters that read a dangling target or not
  module _ (loop : List ℕ) (v : ℕ) (before : Bool) where
    abbrev first : Run
    first = record { state = v }

    abbrev round : Run → Run
    round = after step meets loop

    abbrev priorities-met : Run → List ℕ
    priorities-met = met step meets loop

    -- all rows with a dangling target that the first k rounds read
    abbrev dangling_first : ℕ → List ℕ
    dangling_first k = rounds (after step dangles loop) (met step dangles loop) first 0 k

    abbrev pub LeastSearched : Search → Type 0
    LeastSearched t = Searched round priorities-met first (λ r. r.state) least_of n t

    -- the least since the kept state, and whether any round read a dangling target; t.limit + t.since counts the rounds run, and one more
    pub record SeenSearched (t : Search) (b : Bool) : Type 0 where
      pub least : LeastSearched t
      pub so_far : t.found ≡ false → (k : ℕ) → t.limit + t.since ≡ suc k → b ≡ dangling_in before (dangling_first k)
      pub ever : t.found ≡ true → b ≡ before || ever_dangling letters targets priorities first [] loop

    module _ (start : v < n) where
      keeps : {B : Type 0} (m : Run → ℕ → List B) (r : Run) → r.state < n → (after step m loop r).state < n
      keeps m r h = after-keeps step m (λ r. r.state < n) stays loop r h

      abbrev numbered : {B : Type 0} (m : Run → ℕ → List B) → Numbered (after step m loop) first (λ r. r.state) n
      numbered m = record { decode = λ c. record { state = c }; decoded = λ r. refl; coded = λ c. refl; stays = keeps m; start = start }

      pub seen_start : SeenSearched (search_from v 255) before
      unfolding least_of rounds
      seen_start = record {
        least = searched-start round priorities-met first (λ r. r.state) least_of n (numbered meets);
        so_far = λ e k q. none k q;
        ever = λ e. absurd (false≢true e);
      }
        where
          none : (k : ℕ) → 1 ≡ suc k → before ≡ dangling_in before (dangling_first k)
          none k q = let e : 0 ≡ k = omega (arith, q) in subst (λ (j : ℕ). before ≡ dangling_in before (dangling_first j)) e (sym (or-false before))

      module _ (t : Search) (b : Bool) (h : SeenSearched t b) (going : t.found ≡ false) where
        pub seen-within : t.state < n
        seen-within = seeking-within round priorities-met first (λ r. r.state) least_of n (numbered meets) t (h.least.seeks going)

        pub seen_few : t.limit + t.since < 3 * n
        seen_few = seeking-few round priorities-met first (λ r. r.state) least_of n (numbered meets) t (h.least.seeks going)

        -- how many rounds were run
        abbrev k : ℕ
        k = (h.least.seeks going).from + t.since

        rounds-are : t.limit + t.since ≡ suc k
        rounds-are = omega (arith, (h.least.seeks going).limit_is)

        here : ◌≡◌ {A = Run} (record { state = t.state }) (iter (after step dangles loop) k first)
        here =
            ap (λ (c : ℕ). record { state = c }) (h.least.seeks going).state_is
            ∙ iter-any round (after step dangles loop) (λ r. after_any step meets dangles loop r) k first

        module _ (one : Seen) (is : one ≡ seen_after letters targets priorities loop (begun t.state b)) where
          ended : one.state ≡ (round (record { state = t.state })).state
          ended = ap (λ (x : Seen). x.state) is
              ∙ ap (λ (r : Run). r.state) (through-run step meets next run_of (λ s. s.least) least_of moves adds-least loop (begun t.state b))

          added : one.least ≡ least_of (priorities-met (record { state = t.state }))
          unfolding least_of
          added = ap (λ (x : Seen). x.least) is ∙ through-value step meets next run_of (λ s. s.least) least_of moves adds-least loop (begun t.state b) [] refl

          dangling-so-far : one.dangling ≡ dangling_in before (dangling_first (suc k))
          dangling-so-far =
              let f = after step dangles loop in
              let out = met step dangles loop in
              let at : 0 + k ≡ k = omega arith in
              ap (λ (x : Seen). x.dangling) is
              ∙ through-value step dangles next run_of (λ s. s.dangling) (dangling_in before) moves (adds-dangling before) loop (begun t.state b) (dangling_first k) (h.so_far going k rounds-are)
              ∙ ap (λ (r : Run). dangling_in before (dangling_first k ++ out r)) (here ∙ ap (λ (j : ℕ). iter f j first) (sym at))
              ∙ ap (dangling_in before) (sym (rounds-snoc f out first 0 k))

          -- a state seen again: the rounds so far read all that any round reads
          dangling-ever : (i : ℕ) → i < t.limit + t.since → one.state ≡ (iter round i first).state
              → one.dangling ≡ before || ever_dangling letters targets priorities first [] loop
          unfolding ever_dangling after met iter
          dangling-ever i l q =
              let f = after step dangles loop in
              let out = met step dangles loop in
              let j = suc k - i in
              let e : suc k ≡ i + j = omega (arith, rounds-are) in
              let there : iter f i first ≡ iter f (i + j) first
              = sym (iter-any round f (λ r. after_any step meets dangles loop r) i first) ∙ ap (λ (c : ℕ). record { state = c }) (sym q ∙ ended)
              ∙ after_any step meets dangles loop (record { state = t.state }) ∙ ap f here ∙ ap (λ (x : ℕ). iter f x first) e in
              dangling-so-far ∙ ap (λ (x : ℕ). dangling_in before (dangling_first x)) e
              ∙ ap (λ (b : Bool). before || b) (non_empty-same (dangling_first (i + j)) (dangling_first n)
              (before-first f out first (λ r. r.state) (λ c. record { state = c }) (λ r. refl) (λ c. refl) n (keeps dangles) start i j (omega (arith, rounds-are)) there))

          pub seen_next : (u : Search) → u ≡ search_next t one.state one.least (min t.value one.least) 255 → SeenSearched u one.dangling × (search_left n u < search_left n t)
          unfolding least_of
          seen_next u ue =
              let more = round-more round priorities-met first (λ r. r.state) least_of n (numbered meets) min leasts t (h.least.seeks going) going one.state one.least ended added in
              rw ue (
                record {
                  least = more.sought;
                  so_far = λ e j q. dangling-so-far ∙ ap (λ (x : ℕ). dangling_in before (dangling_first x)) (omega (arith, more.counted e, rounds-are, q));
                  ever = λ e. let w = more.back e in dangling-ever w.0 w.1 w.2;
                },
                round-less round priorities-met first (λ r. r.state) least_of n (numbered meets) min leasts t (h.least.seeks going) going one.state one.least ended added,
              )

    pub seen-found : (t : Search) (b : Bool) → SeenSearched t b → t.found ≡ true
        → (t.value ≡ least_recurring letters targets priorities first [] loop) × (b ≡ before || ever_dangling letters targets priorities first [] loop)
    unfolding least_recurring window after
    seen-found t b h e = (h.least.recurs e, h.ever e)

  module _ (r : Run) (stem loop : List ℕ) where
    -- the stem leads to where the rounds begin
    module _ (s : Seen) (e : s ≡ seen_after letters targets priorities stem (record { state = r.state; least = 255; dangling = false })) where
      pub least-after : least_recurring letters targets priorities (run_of s) [] loop ≡ least_recurring letters targets priorities r stem loop
      unfolding least_recurring window after
      least-after = ap (λ (x : Run). least_of (window step meets n [] loop x)) (ap run_of e
          ∙ through-run step meets next run_of (λ s. s.least) least_of moves adds-least stem (record { state = r.state; least = 255; dangling = false }))

      pub dangling-after : s.dangling || ever_dangling letters targets priorities (run_of s) [] loop ≡ ever_dangling letters targets priorities r stem loop
      unfolding ever_dangling after met
      dangling-after = ap₂ (λ (b : Bool) (x : Run). b || ever_dangling letters targets priorities x [] loop)
          (ap (λ (s : Seen). s.dangling) e ∙ through-value step dangles next run_of (λ s. s.dangling) (dangling_in false) moves (adds-dangling false) stem (record { state = r.state; least = 255; dangling = false }) [] refl)
          (ap run_of e ∙ through-run step dangles next run_of (λ s. s.dangling) (dangling_in false) moves (adds-dangling false) stem (record { state = r.state; least = 255; dangling = false }))
