-- The search for a repeat, over any rounds among n numbered states: what it holds before it has found one, that what it then holds is what recurs, and that it finds one
-- within 3 n rounds. Assumes nothing.
use Prim.Native.Nat.{ℕ, suc, ◌+◌, ◌-◌, ◌*◌, ◌≤◌, ◌<◌}
use native.Mathlib.Omega.{arith}
use native.Mathlib.Nat.{add-zero}
use native.Mathlib.Decide.{dec_lt, ℕ_discrete}
use mathlib.Core.Path.{◌≡◌, refl, sym, ap, ◌∙◌, subst}
use mathlib.Core.Logic.{◌⊎◌, inl, inr, ◌≢◌, ◌↔◌}
use mathlib.Core.Bool.{true, false, cond, false≢true}
use mathlib.Core.List.{List, [], ◌++◌, append-nil, Memᴰ}
use lib.Dec.{eqb}
use borrow.Author.Tests.{eqb-false}
use Rattle.lists.proofs.Bools.{test, eqb≡}
use Rattle.recurrence.specs.declared.Search.{Search}
use Rattle.recurrence.specs.Iterates.{iter, rounds}
use Rattle.recurrence.specs.Search.{search_from, search_next}
use Rattle.recurrence.proofs.Repeats.{iter-keeps, rounds-snoc, back-later, repeats, period-window}

-- the measure of a search among n states
abbrev pub search_left : ℕ → Search → ℕ
search_left n s = cond s.found 0 (3 * n - (s.limit + s.since))

left-none : (n : ℕ) (s : Search) → s.found ≡ true → search_left n s ≡ 0
left-none n s e = rw e refl

left-some : (n : ℕ) (s : Search) → s.found ≡ false → search_left n s ≡ 3 * n - (s.limit + s.since)
left-some n s e = rw e refl

-- rounds from x lead through states that are numbered, and those from x on have numbers below n
pub record Numbered {A : Type 0} (f : A → A) (x : A) (code : A → ℕ) (n : ℕ) : Type 0 where
  pub decode : ℕ → A
  pub decoded : (y : A) → decode (code y) ≡ y
  pub coded : (c : ℕ) → code (decode c) ≡ c
  pub stays : (y : A) → code y < n → code (f y) < n
  pub start : code x < n

-- a value of what rounds meet depends on its members alone, and joins
pub record Collects {B : Type 0} (val : List B → ℕ) (join : ℕ → ℕ → ℕ) : Type 0 where
  pub same : (l r : List B) → ((y : B) → Memᴰ y l ↔ Memᴰ y r) → val l ≡ val r
  pub joins : (l r : List B) → join (val l) (val r) ≡ val (l ++ r)

module _ {A B : Type 0} (f : A → A) (out : A → List B) (x : A) (code : A → ℕ) (val : List B → ℕ) (n : ℕ) where
  -- before a repeat is found: round `from` began in the kept state, and no round since ended in it
  pub record Seeking (s : Search) : Type 0 where
    pub from : ℕ
    pub limit_is : s.limit ≡ suc from
    pub since_le : s.since ≤ from
    pub state_is : s.state ≡ code (iter f (from + s.since) x)
    pub kept_is : s.kept ≡ code (iter f from x)
    pub holds : s.value ≡ val (rounds f out x from s.since)
    pub missed : (k : ℕ) → 0 < k → k ≤ s.since → code (iter f (from + k) x) ≢ code (iter f from x)
    pub early : from < 2 * n

  -- what the search holds at any time
  pub record Searched (s : Search) : Type 0 where
    pub seeks : s.found ≡ false → Seeking s
    pub recurs : s.found ≡ true → s.value ≡ val (rounds f out x n n)

  module _ (m : Numbered f x code n) where
    -- a kept state that recurs is seen again within n rounds
    since-short : (s : Search) (h : Seeking s) → n ≤ h.from → s.since < n
    since-short s h l =
        let r = repeats f out x code m.decode m.decoded m.coded n m.stays m.start in
        go r (dec_lt s.since r.1)
      where
        go : (r : (i : ℕ) × (k : ℕ) × (0 < k) × (i + k ≤ n) × (iter f i x ≡ iter f (i + k) x)) → Dec (s.since < r.1) → s.since < n
        go r (yes k) = omega (arith, r.3)
        go r (no k) = absurd (h.missed r.1 r.2 (omega arith) (ap code (sym (back-later f out x r.0 r.1 r.2 r.4 h.from (omega (arith, r.3))))))

    pub seeking-few : (s : Search) → Seeking s → s.limit + s.since < 3 * n
    seeking-few s h = go (dec_lt h.from n)
      where
        go : Dec (h.from < n) → s.limit + s.since < 3 * n
        go (yes l) = omega (arith, h.limit_is, h.since_le)
        go (no l) = omega (arith, h.limit_is, h.early, since-short s h (omega arith))

    pub seeking-within : (s : Search) → Seeking s → s.state < n
    seeking-within s h = subst (λ (c : ℕ). c < n) (sym h.state_is) (iter-keeps f (λ y. code y < n) m.stays x m.start (h.from + s.since))

    seeking-start : Seeking (search_from (code x) (val []))
    unfolding iter rounds
    seeking-start = record {
      from = 0;
      limit_is = refl;
      since_le = omega arith;
      state_is = refl;
      kept_is = refl;
      holds = refl;
      missed = λ k some low. absurd (omega arith);
      early = omega (arith, m.start);
    }

    pub searched-start : Searched (search_from (code x) (val []))
    searched-start = record { seeks = λ e. seeking-start; recurs = λ e. absurd (false≢true e) }

    none-holds : (i : ℕ) → val [] ≡ val (rounds f out x i 0)
    unfolding rounds
    none-holds i = refl

    -- ---- a round more, from the state that is held
    module _ (join : ℕ → ℕ → ℕ) (v : Collects val join) (s : Search) (h : Seeking s) (none : s.found ≡ false)
        (ended one : ℕ) (ended_is : ended ≡ code (f (m.decode s.state))) (one-is : one ≡ val (out (m.decode s.state))) where
      abbrev round : ℕ
      round = h.from + s.since

      begun : m.decode s.state ≡ iter f round x
      begun = ap m.decode h.state_is ∙ m.decoded (iter f round x)

      ends : ended ≡ code (iter f (suc round) x)
      unfolding iter
      ends = ended_is ∙ ap (λ (y : A). code (f y)) begun

      one-round : one ≡ val (rounds f out x round 1)
      unfolding rounds
      one-round = one-is ∙ ap (λ (y : A). val (out y)) begun ∙ ap val (sym (append-nil (out (iter f round x))))

      all-rounds : join s.value one ≡ val (rounds f out x h.from (suc s.since))
      all-rounds =
          let o = out (iter f round x) in
          let is : one ≡ val o = one-is ∙ ap (λ (y : A). val (out y)) begun in
          rw (h.holds, is) (v.joins (rounds f out x h.from s.since) o ∙ ap val (sym (rounds-snoc f out x h.from s.since)))

      -- the k rounds from round i on lead back to where they began: what they met is what recurs
      back : (i k w : ℕ) → i + k ≡ suc round → 0 < k → w ≡ val (rounds f out x i k) → ended ≡ code (iter f i x) → w ≡ val (rounds f out x n n)
      back i k w e some is q =
          let there : iter f i x ≡ iter f (i + k) x
          = sym (m.decoded (iter f i x)) ∙ ap m.decode (sym q ∙ ends) ∙ m.decoded (iter f (suc round) x) ∙ ap (λ (j : ℕ). iter f j x) (sym e) in
          is ∙ v.same (rounds f out x i k) (rounds f out x n n) (period-window f out x code m.decode m.decoded m.coded n m.stays m.start i k some there)

      abbrev next : Search
      next = search_next s ended one (join s.value one) (val [])

      -- the kept state gives way only where it need not recur
      way : s.since + 1 ≡ s.limit → h.from < n
      way e = go (dec_lt h.from n)
        where
          go : Dec (h.from < n) → h.from < n
          go (yes l) = l
          go (no l) = absurd (omega (arith, since-short s h (omega arith), h.limit_is))

      -- after it: a state seen again is one in which some round so far began, and otherwise one round more was run
      pub record RoundMore (t : Search) : Type 0 where
        pub sought : Searched t
        pub back : t.found ≡ true → (i : ℕ) × (i < s.limit + s.since) × (ended ≡ code (iter f i x))
        pub counted : t.found ≡ false → t.limit + t.since ≡ s.limit + s.since + 1

      pub round-more : RoundMore next
      unfolding search_next
      round-more = go (test (eqb ended s.state)) (test (eqb ended s.kept)) (test (eqb (s.since + 1) s.limit))
        where
          seen : (i k w : ℕ) → i + k ≡ suc round → 0 < k → w ≡ val (rounds f out x i k) → ended ≡ code (iter f i x)
              → RoundMore (record { state = ended; value = w; kept = s.kept; since = s.since; limit = s.limit; found = true })
          seen i k w e some is q = record {
            sought = record { seeks = λ e. absurd (false≢true (sym e)); recurs = λ _. back i k w e some is q };
            back = λ _. (i, omega (arith, h.limit_is, e, some), q);
            counted = λ e. absurd (false≢true (sym e));
          }

          unseen : (t : Search) → t.found ≡ s.found → Seeking t → t.limit + t.since ≡ s.limit + s.since + 1 → RoundMore t
          unseen t e g q = record {
            sought = record { seeks = λ _. g; recurs = λ y. absurd (false≢true (sym none ∙ sym e ∙ y)) };
            back = λ y. absurd (false≢true (sym none ∙ sym e ∙ y));
            counted = λ _. q;
          }

          miss : eqb ended s.kept ≡ false → (k : ℕ) → 0 < k → Dec (k ≡ s.since + 1) → k ≤ s.since + 1 → code (iter f (h.from + k) x) ≢ code (iter f h.from x)
          miss b k some (yes e) low q = eqb-false ended s.kept b (ends ∙ ap (λ (j : ℕ). code (iter f j x)) (omega arith) ∙ q ∙ sym h.kept_is)
          miss b k some (no e) low q = h.missed k some (omega arith) q

          go : (eqb ended s.state ≡ true) ⊎ (eqb ended s.state ≡ false) → (eqb ended s.kept ≡ true) ⊎ (eqb ended s.kept ≡ false)
              → (eqb (s.since + 1) s.limit ≡ true) ⊎ (eqb (s.since + 1) s.limit ≡ false) → RoundMore next
          go (inl a) b c = rw a (seen round 1 one (omega arith) (omega arith) one-round (eqb≡ ended s.state a ∙ h.state_is))
          go (inr a) (inl b) c = rw (a, b) (seen h.from (suc s.since) (join s.value one) (omega arith) (omega arith) all-rounds (eqb≡ ended s.kept b ∙ h.kept_is))
          go (inr a) (inr b) (inl c) = rw (a, b, c) (unseen _ refl (record {
            from = suc round;
            limit_is = omega (arith, eqb≡ (s.since + 1) s.limit c, h.limit_is);
            since_le = omega arith;
            state_is = ends ∙ ap (λ (j : ℕ). code (iter f j x)) (sym (add-zero (suc round)));
            kept_is = ends;
            holds = none-holds (suc round);
            missed = λ k some low. absurd (omega arith);
            early = omega (arith, way (eqb≡ (s.since + 1) s.limit c), h.since_le);
          }) (omega (arith, eqb≡ (s.since + 1) s.limit c)))
          go (inr a) (inr b) (inr c) = rw (a, b, c) (unseen _ refl (record {
            from = h.from;
            limit_is = h.limit_is;
            since_le = omega (arith, h.since_le, h.limit_is, eqb-false (s.since + 1) s.limit c);
            state_is = ends ∙ ap (λ (j : ℕ). code (iter f j x)) (omega arith);
            kept_is = h.kept_is;
            holds = all-rounds ∙ ap (λ (j : ℕ). val (rounds f out x h.from j)) (omega arith);
            missed = λ k some low. miss b k some (ℕ_discrete k (s.since + 1)) low;
            early = h.early;
          }) (omega arith))

      pub round-less : search_left n next < search_left n s
      round-less = go (test next.found)
        where
          go : (next.found ≡ true) ⊎ (next.found ≡ false) → search_left n next < search_left n s
          go (inl t) = omega (arith, left-none n next t, left-some n s none, seeking-few s h)
          go (inr e) = omega (arith, left-some n next e, left-some n s none, seeking-few s h, round-more.counted e)
