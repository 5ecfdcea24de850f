-- Judging a policy: what reading letters collects, and that the search for a repeat finds the colours that recur. Assumes nothing.
use Prim.Native.Nat.{ℕ, ◌+◌, ◌*◌, ◌^◌, ◌<◌}
use native.Mathlib.Omega.{arith}
use mathlib.Core.Path.{◌≡◌, refl, sym, ap, ap₂, ◌∙◌, subst}
use mathlib.Core.Bool.{Bool, true, false, not, cond}
use mathlib.Core.List.{List, [], ◌∷◌, ◌++◌}
use lib.Bits.{bit_or, or_zero_l, or_zero_r}
use borrow.Author.Tests.{lt-ltb}
use Rattle.recurrence.specs.declared.Search.{Search}
use Rattle.recurrence.specs.Runs.{after, met, window}
use Rattle.recurrence.specs.Search.{search_from, search_next}
use Rattle.recurrence.proofs.Runs.{after-keeps, through-run, through-value}
use Rattle.recurrence.proofs.Seeking.{search_left, Numbered, Collects, Searched, seeking-few, seeking-within, searched-start, round-more, round-less}
use Rattle.masks.specs.Masks.{insert, set_of}
use Rattle.masks.proofs.SetOf.{set_same, set-append}
use Rattle.policy.specs.declared.Policy.{Policy}
use Rattle.policy.specs.Policies.{legal, edge_of, target_of, colour_of, is_quiet, edge_colours}
use Rattle.policy.proofs.Laws.{legal-counts, legal-target, legal-colour, edges_le, edge-lt}
use Rattle.running.specs.Running.{policy_step, policy_meets}
use Rattle.running.proofs.Steps.{policy-moves, policy-within}
use Rattle.judging.specs.declared.Coloured.{Coloured}
use Rattle.judging.specs.Judging.{recurring_colours}
use Rattle.judging.specs.Rounds.{coloured_step, coloured_after}

abbrev coloured : ℕ → ℕ → Coloured
coloured v c = record { state = v; colours = c }

module _ (p : Policy) where
  -- ---- one letter
  -- the edge's colour is added; none, if it is quiet
  edge-adds : (s e : ℕ) → cond (not (is_quiet p e)) (insert s (colour_of p e)) s ≡ bit_or s (set_of (edge_colours p e))
  unfolding set_of insert edge_colours
  edge-adds s e = go (is_quiet p e)
    where
      go : (b : Bool) → cond (not b) (bit_or s (2 ^ colour_of p e)) s ≡ bit_or s (set_of (cond b [] (colour_of p e ∷ [])))
      go true = sym (or_zero_r s)
      go false = ap (bit_or s) (sym (or_zero_l (2 ^ colour_of p e)))

  pub coloured-moves : (m : Coloured) (a : ℕ) → a < p.letters
      → (t c : ℕ) (b : Bool) → t ≡ target_of p (m.state * p.letters + a) → b ≡ is_quiet p (m.state * p.letters + a) → c ≡ cond (not b) (insert m.colours (colour_of p (m.state * p.letters + a))) m.colours
      → record { state = t; colours = c } ≡ coloured_step p m a
  unfolding coloured_step edge_of
  coloured-moves m a h t c b te be ce =
      let q = policy-moves p m.state a (lt-ltb a p.letters h) in
      let e = m.state * p.letters + a in
      ap₂ coloured (te ∙ sym q.0)
      (ce ∙ ap (λ (b : Bool). cond (not b) (insert m.colours (colour_of p e)) m.colours) be ∙ edge-adds m.colours e ∙ ap (λ (l : List ℕ). bit_or m.colours (set_of l)) (sym q.1))

  pub edge-small : legal p ≡ true → (v a : ℕ) → v < p.states → a < p.letters → v * p.letters + a < 64
  unfolding edge_of
  edge-small ok v a h l = omega (arith, edge-lt p v a h l, edges_le p ok)

  pub target_small : legal p ≡ true → (v a : ℕ) → v < p.states → a < p.letters → target_of p (v * p.letters + a) < 16
  unfolding edge_of
  target_small ok v a h l = omega (arith, legal-target p ok (v * p.letters + a) (edge-lt p v a h l), (legal-counts p ok).states_few)

  pub colour-small : legal p ≡ true → (v a : ℕ) → v < p.states → a < p.letters → colour_of p (v * p.letters + a) < 8
  unfolding edge_of
  colour-small ok v a h l = omega (arith, legal-colour p ok (v * p.letters + a) (edge-lt p v a h l), (legal-counts p ok).colours_few)

  pub step-within : legal p ≡ true → (m : Coloured) (a : ℕ) → m.state < p.states → (coloured_step p m a).state < p.states
  unfolding coloured_step
  step-within ok m a h = policy-within p ok m.state a h

  pub moves : (m : Coloured) (a : ℕ) → (coloured_step p m a).state ≡ policy_step p m.state a
  unfolding coloured_step
  moves m a = refl

  pub adds : (m : Coloured) (a : ℕ) (l : List ℕ) → m.colours ≡ set_of l → (coloured_step p m a).colours ≡ set_of (l ++ policy_meets p m.state a)
  unfolding coloured_step
  adds m a l e = ap (λ (s : ℕ). bit_or s (set_of (policy_meets p m.state a))) e ∙ sym (set-append l (policy_meets p m.state a))

  word-is : (w : List ℕ) (m : Coloured) → (coloured_after p w m).state ≡ after (policy_step p) (policy_meets p) w m.state
  word-is w m = through-run (policy_step p) (policy_meets p) (coloured_step p) (λ m. m.state) (λ m. m.colours) set_of moves adds w m

  pub word-within : legal p ≡ true → (w : List ℕ) (m : Coloured) → m.state < p.states → (coloured_after p w m).state < p.states
  word-within ok w m h = subst (λ (v : ℕ). v < p.states) (sym (word-is w m)) (after-keeps (policy_step p) (policy_meets p) (λ v. v < p.states) (policy-within p ok) w m.state h)

  sets : Collects set_of bit_or
  sets = record { same = set_same; joins = λ l r. sym (set-append l r) }

  -- what a list of letters adds to nothing
  word-adds : (w : List ℕ) (v : ℕ) → (coloured_after p w (coloured v 0)).colours ≡ set_of (met (policy_step p) (policy_meets p) w v)
  unfolding set_of
  word-adds w v = through-value (policy_step p) (policy_meets p) (coloured_step p) (λ m. m.state) (λ m. m.colours) set_of moves adds w (coloured v 0) [] refl

  -- ---- the search for a repeat, in rounds from state v
  module _ (loop : List ℕ) (v : ℕ) where
    abbrev round : ℕ → ℕ
    round = after (policy_step p) (policy_meets p) loop

    abbrev colours : ℕ → List ℕ
    colours = met (policy_step p) (policy_meets p) loop

    abbrev pub ColoursSearched : Search → Type 0
    ColoursSearched s = Searched round colours v (λ v. v) set_of p.states s

    module _ (ok : legal p ≡ true) (start : v < p.states) where
      abbrev numbered : Numbered round v (λ v. v) p.states
      numbered = record {
        decode = λ v. v;
        decoded = λ v. refl;
        coded = λ v. refl;
        stays = λ y h. after-keeps (policy_step p) (policy_meets p) (λ v. v < p.states) (policy-within p ok) loop y h;
        start = start;
      }

      pub colours-start : ColoursSearched (search_from v 0)
      unfolding set_of
      colours-start = searched-start round colours v (λ v. v) set_of p.states numbered

      module _ (s : Search) (h : ColoursSearched s) (going : s.found ≡ false) where
        pub colours-within : s.state < p.states
        colours-within = seeking-within round colours v (λ v. v) set_of p.states numbered s (h.seeks going)

        pub colours_few : s.limit + s.since < 3 * p.states
        colours_few = seeking-few round colours v (λ v. v) set_of p.states numbered s (h.seeks going)

        module _ (one : Coloured) (is : one ≡ coloured_after p loop (coloured s.state 0)) where
          ended : one.state ≡ round s.state
          ended = ap (λ (m : Coloured). m.state) is ∙ word-is loop (coloured s.state 0)

          added : one.colours ≡ set_of (colours s.state)
          added = ap (λ (m : Coloured). m.colours) is ∙ word-adds loop s.state

          pub colours-next : (t : Search) → t ≡ search_next s one.state one.colours (bit_or s.value one.colours) 0 → ColoursSearched t × (search_left p.states t < search_left p.states s)
          unfolding set_of
          colours-next t e =
              rw e (
                (round-more round colours v (λ v. v) set_of p.states numbered bit_or sets s (h.seeks going) going
                    one.state one.colours ended added).sought,
                round-less round colours v (λ v. v) set_of p.states numbered bit_or sets s (h.seeks going) going
                    one.state one.colours ended added,
              )

    pub colours-found : (s : Search) → ColoursSearched s → s.found ≡ true → s.value ≡ recurring_colours p v [] loop
    unfolding recurring_colours window after
    colours-found s h e = h.recurs e

  module _ (v : ℕ) (stem loop : List ℕ) where
    -- the stem leads to where the rounds begin
    pub colours-after : (s : Coloured) → s ≡ coloured_after p stem (coloured v 0) → recurring_colours p s.state [] loop ≡ recurring_colours p v stem loop
    unfolding recurring_colours window after
    colours-after s e = ap (λ (x : ℕ). set_of (window (policy_step p) (policy_meets p) p.states [] loop x)) (ap (λ (s : Coloured). s.state) e ∙ word-is stem (coloured v 0))
