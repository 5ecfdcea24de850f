-- Laws of reading a header, step by step. Assumes nothing.
use Prim.Native.Nat.{ℕ, ◌≤◌, ◌<◌}
use native.Mathlib.Omega.{arith}
use mathlib.Core.Path.{refl, subst}
use mathlib.Core.Bool.{Bool, true, false}
use mathlib.Core.List.{List, []}
use lib.Dec.{ltb}
use lib.ListN.{length}
use Rattle.lists.proofs.Bools.{and_l, and_r, lt-true}
use Rattle.hanoi.specs.Words as w
use Rattle.hanoi.specs.Texts.{spelling}
use Rattle.hanoi.specs.Offers.{between}
use Rattle.hanoi.specs.Reader.{Head, At, hoa, v1, states_word, states_number, start_word, start_number, ap_word, ap_number, naming, sets_number, operand, fresh, names_next, offers, first}
use Rattle.std.specs.Prelude.{Result, Ok, Err}
use Rattle.hanoi_tokens.specs.declared.Stop.{Stop}
use Rattle.hanoi_tokens.specs.declared.Wanted.{Wanted}
use Rattle.hanoi_tokens.specs.declared.Wanted.TheVariants.{Below, Positive}
use Rattle.hanoi_tokens.specs.declared.Number.{Number}
use Rattle.hanoi_tokens.specs.Moves.{Moves, Stops, ReadsTo, Reads}
use Rattle.hanoi_tokens.specs.Tokens.{numbers_for, ReadsWord, ReadsNumber}
use Rattle.hanoi_tokens.proofs.Moves.{moves-on, moves-stops, moves-reads}
use Rattle.hanoi_header.specs.declared.Counts.{Counts}
use Rattle.hanoi_header.specs.Names.{ReadsNames}
use Rattle.hanoi_header.specs.Header.{Offered, ReadsField, ReadsVersion, ReadsCounts, ReadsHeader}

-- ---- a word and a number
module _ (text : List ℕ) (m : ℕ) (bar : Bool) (bytes : List ℕ) (wanted : Wanted) where
  pub field-within : (i : ℕ) → ReadsWord text m bar bytes (Ok i) → Offered bytes → i ≤ length text
  field-within i g o = (g o.before o.after o.word o.bytes_are o.alone o.unfinished).within

  pub field-stopped : (e : Stop) → ReadsWord text m bar bytes (Err e) → ReadsField text m bar bytes wanted (Err e)
  field-stopped e g = record { reads = λ s a x to k f o u p v. g s a x k o u; taken = tt }

  pub field-all : (i : ℕ) (r : Result Number Stop) → ReadsWord text m bar bytes (Ok i) → ReadsNumber text i wanted r → ReadsField text m bar bytes wanted r
  field-all i r g k = record {
    reads =
        λ s a x to e f o u p v. moves-reads text r (λ n. n.at) (λ n. between false (to n.value)) (subst (λ (b : Bool). Moves text m (between bar s) i (between b a)) f (g s a x e o u)) (k.reads a to p v);
    taken = k.taken;
  }

-- ---- the words of a header, and where each comes
pub offered-states : Offered (spelling w.States)
unfolding offers
offered-states = record { before = states_word; after = states_number; word = w.States; bytes_are = refl; alone = refl; unfinished = λ x. refl }

pub offered-start : Offered (spelling w.Start)
unfolding offers
offered-start = record { before = start_word 0; after = start_number 0; word = w.Start; bytes_are = refl; alone = refl; unfinished = λ x. refl }

pub offered-ap : Offered (spelling w.Ap)
unfolding offers
offered-ap = record { before = ap_word 0 0; after = ap_number 0 0; word = w.Ap; bytes_are = refl; alone = refl; unfinished = λ x. refl }

pub offered-acceptance : Offered (spelling w.Acceptance)
unfolding offers names_next
offered-acceptance = record { before = naming 0 0 0 []; after = sets_number 0 0 []; word = w.Acceptance; bytes_are = refl; alone = refl; unfinished = λ x. refl }

module _ (text : List ℕ) where
  abbrev FieldTo : ℕ → Bool → At → Result Number Stop → (ℕ → At) → Type 0
  FieldTo m bar s r to = ReadsTo text m (between bar s) r (λ n. n.at) (λ n. between false (to n.value))

  pub read-hoa : (r : Result ℕ Stop) → ReadsWord text 0 false (spelling w.Hoa) r → Reads text 0 first r (between false v1)
  unfolding offers first
  read-hoa r g = g hoa v1 w.Hoa refl refl (λ x. refl)

  read-v1 : (m : ℕ) (r : Result ℕ Stop) → ReadsWord text m false (spelling w.V1) r → Reads text m (between false v1) r (between true states_word)
  unfolding offers
  read-v1 m r g = g v1 states_word w.V1 refl refl (λ x. refl)

  read-states : (m : ℕ) (r : Result Number Stop) → ReadsField text m true (spelling w.States) Positive r → FieldTo m true states_word r start_word
  unfolding offers numbers_for
  read-states m r g = g.reads states_word states_number w.States start_word refl refl refl (λ x. refl) refl (λ x. refl)

  read-start : (m n : ℕ) (r : Result Number Stop) → ReadsField text m false (spelling w.Start) (Below n) r → FieldTo m false (start_word n) r (ap_word n)
  unfolding offers numbers_for
  read-start m n r g = g.reads (start_word n) (start_number n) w.Start (ap_word n) refl refl refl (λ x. refl) refl (λ x. refl)

  read-ap : (m n i : ℕ) (r : Result Number Stop) → ReadsField text m false (spelling w.Ap) (Below 4) r → FieldTo m false (ap_word n i) r (λ k. naming n i k [])
  unfolding offers numbers_for
  read-ap m n i r g = g.reads (ap_word n i) (ap_number n i) w.Ap (λ k. naming n i k []) refl refl refl (λ x. refl) refl (λ x. refl)

  abbrev head_of : ℕ → ℕ → List (List ℕ) → ℕ → Head
  head_of n i ns k = record { states = n; start = i; names = ns; sets = k }

  read-sets : (m n i : ℕ) (ns : List (List ℕ)) (r : Result Number Stop) → ReadsField text m false (spelling w.Acceptance) (Below 33) r
      → FieldTo m false (naming n i 0 ns) r (λ k. operand (head_of n i ns k) [] fresh)
  unfolding offers numbers_for names_next
  read-sets m n i ns r g = g.reads (naming n i 0 ns) (sets_number n i ns) w.Acceptance (λ k. operand (head_of n i ns k) [] fresh) refl refl refl (λ x. refl) refl (λ x. refl)

  -- ---- HOA: v1
  pub version-stopped : (e : Stop) → ReadsWord text 0 false (spelling w.Hoa) (Err e) → ReadsVersion text (Err e)
  version-stopped e g = read-hoa (Err e) g

  module _ (i : ℕ) (g : ReadsWord text 0 false (spelling w.Hoa) (Ok i)) where
    pub version-within : i ≤ length text
    version-within = (read-hoa (Ok i) g).within

    pub version-all : (r : Result ℕ Stop) → ReadsWord text i false (spelling w.V1) r → ReadsVersion text r
    version-all r k = moves-reads text r (λ n. n) (λ n. between true states_word) (read-hoa (Ok i) g) (read-v1 i r k)

  -- ---- up to the number of names
  pub uncounted : (e : Stop) → Stops text 0 first e.at → ReadsCounts text (Err e)
  uncounted e z = record { reads = z; states_few = tt; start_is = tt; names_few = tt }

  module _ (v : ℕ) (g : ReadsVersion text (Ok v)) where
    pub within-version : v ≤ length text
    within-version = g.within

    pub counts-states : (e : Stop) → ReadsField text v true (spelling w.States) Positive (Err e) → ReadsCounts text (Err e)
    counts-states e k = uncounted e (moves-stops text g (read-states v (Err e) k))

    module _ (s : Number) (gs : ReadsField text v true (spelling w.States) Positive (Ok s)) where
      to-states : Moves text 0 first s.at (between false (start_word s.value))
      to-states = moves-on text g (read-states v (Ok s) gs)

      pub within-states : s.at ≤ length text
      within-states = to-states.within

      pub states_some : 0 < s.value
      states_some = lt-true 0 s.value (and_l (ltb 0 s.value) (ltb s.value 2147483648) gs.taken)

      pub states-below : s.value < 2147483648
      states-below = lt-true s.value 2147483648 (and_r (ltb 0 s.value) (ltb s.value 2147483648) gs.taken)

      pub counts_start : (e : Stop) → ReadsField text s.at false (spelling w.Start) (Below s.value) (Err e) → ReadsCounts text (Err e)
      counts_start e k = uncounted e (moves-stops text to-states (read-start s.at s.value (Err e) k))

      module _ (i : Number) (gi : ReadsField text s.at false (spelling w.Start) (Below s.value) (Ok i)) where
        to_start : Moves text 0 first i.at (between false (ap_word s.value i.value))
        to_start = moves-on text to-states (read-start s.at s.value (Ok i) gi)

        pub within-start : i.at ≤ length text
        within-start = to_start.within

        pub counts-names : (e : Stop) → ReadsField text i.at false (spelling w.Ap) (Below 4) (Err e) → ReadsCounts text (Err e)
        counts-names e k = uncounted e (moves-stops text to_start (read-ap i.at s.value i.value (Err e) k))

        pub counts_all : (k : Number) → ReadsField text i.at false (spelling w.Ap) (Below 4) (Ok k) → ReadsCounts text (Ok (record { at = k.at; states = s.value; start = i.value; names = k.value }))
        counts_all k gk = record {
          reads = moves-on text to_start (read-ap i.at s.value i.value (Ok k) gk);
          states_few = (states_some, states-below);
          start_is = lt-true i.value s.value gi.taken;
          names_few = omega (arith, lt-true k.value 4 gk.taken);
        }

  -- ---- up to the formula
  headless : (e : Stop) → Stops text 0 first e.at → ReadsHeader text (Err e)
  headless e z = record { moves = tt; stops = z; states_few = tt; start_is = tt; names_few = tt; sets_few = tt }

  module _ (c : Counts) (g : ReadsCounts text (Ok c)) where
    module _ (i : ℕ) (gi : ReadsNames text c.at c.names (Ok i)) where
      abbrev names : List (List ℕ)
      names = gi.0

      named : Moves text 0 first i (between false (naming c.states c.start 0 names))
      named = moves-on text g.reads (gi.2 c.states c.start)

      pub within-names : i ≤ length text
      within-names = named.within

      pub header-sets : (e : Stop) → ReadsField text i false (spelling w.Acceptance) (Below 33) (Err e) → ReadsHeader text (Err e)
      header-sets e k = headless e (moves-stops text named (read-sets i c.states c.start names (Err e) k))

      pub header-all : (k : Number) → ReadsField text i false (spelling w.Acceptance) (Below 33) (Ok k) → ReadsHeader text (Ok (record { at = k.at; states = c.states; start = c.start; names = c.names; sets = k.value }))
      header-all k gk = record {
        moves = (names, gi.1, moves-on text named (read-sets i c.states c.start names (Ok k) gk));
        stops = tt;
        states_few = g.states_few;
        start_is = g.start_is;
        names_few = g.names_few;
        sets_few = omega (arith, lt-true k.value 33 gk.taken);
      }
