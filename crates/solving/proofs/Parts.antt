-- The game of row tables on the built sources alone: what is asked of it, and what its answer says. Assumes nothing.
use Prim.Native.Nat.{ℕ, ◌+◌, ◌*◌, ◌<◌}
use native.Mathlib.Omega.{arith}
use mathlib.Core.Path.{◌≡◌, refl, sym, ap, ◌∙◌, subst}
use mathlib.Core.Bool.{true}
use mathlib.Core.List.{List}
use lib.Dec.{eqb}
use lib.ListN.{length, get_or, take, length-take}
use lib.Seq.{get_or-take}
use Rattle.games.proofs.Agree.{solved-agree}
use Rattle.attracting.specs.Attracting.{Rows, table_game}
use Rattle.solver.specs.Answers.{Answers}
use Rattle.policy.specs.declared.Policy.{Policy}
use Rattle.policy.specs.Policies.{legal}
use Rattle.std.specs.Prelude.{Result, Ok}
use Rattle.refusals.specs.declared.Refusal.{Refusal}
use Rattle.builder.specs.declared.Counts.{Counts}
use Rattle.solving.specs.Stages.{answer_after, Ready}
use Rattle.solving.proofs.OwnersLaws.{ready-holds}
use Rattle.solving.proofs.Bridge.{solver-asks}

module _ (owners sources targets priorities : List ℕ) (letters states : ℕ) (rows : Rows owners sources targets priorities letters states) where
  abbrev part : List ℕ
  part = take states sources

  pub part-long : length (take states sources) ≡ states
  part-long = simp length-take (omega (arith, rows.sources_long))

  part_at : (s : ℕ) → s < states → get_or part s 0 ≡ get_or sources s 0
  part_at s h = get_or-take states sources s 0 h

  pub part-rows : Rows owners (take states sources) targets priorities letters (length (take states sources))
  part-rows = subst (λ (n : ℕ). Rows owners part targets priorities letters n) (sym part-long) (record {
    letters_few = rows.letters_few;
    states_few = rows.states_few;
    sources_long = omega (arith, part-long);
    sources_few = λ s h. subst (λ (v : ℕ). v < length owners) (sym (part_at s h)) (rows.sources_few s h);
    targets_long = rows.targets_long;
    priorities_long = rows.priorities_long;
    targets_few = rows.targets_few;
  })

  -- what is asked of the part
  pub part-few : ((s a : ℕ) → s < states → a < letters → get_or priorities (s * letters + a) 0 < 10) → (s a : ℕ) → s < length (take states sources) → a < letters → get_or priorities (s * letters + a) 0 < 10
  part-few few s a h l = few s a (omega (arith, part-long)) l

  pub part-answers : 0 < letters → ((s a : ℕ) → s < states → a < letters → get_or priorities (s * letters + a) 0 < 10) → (w₀ l₀ w l : List ℕ) → Answers owners (take states sources) targets priorities letters (length (take states sources)) w₀ l₀ w l
      → Answers owners sources targets priorities letters states w₀ l₀ w l
  part-answers some few w₀ l₀ w l x = go (subst (λ (n : ℕ). Answers owners part targets priorities letters n w₀ l₀ w l) part-long x)
    where
      owner-same : (s : ℕ) → s < states → eqb (get_or owners (get_or part s 0) 0) 1 ≡ eqb (get_or owners (get_or sources s 0) 0) 1
      owner-same s h = ap (λ (v : ℕ). eqb (get_or owners v 0) 1) (part_at s h)

      go : Answers owners part targets priorities letters states w₀ l₀ w l → Answers owners sources targets priorities letters states w₀ l₀ w l
      go y = record {
        winners_long = y.winners_long;
        letters_long = y.letters_long;
        winner_few = y.winner_few;
        solved = solved-agree (table_game owners part targets priorities letters states) (table_game owners sources targets priorities letters states) 10 (record { some = some; targets = rows.targets_few; priorities = few })
            refl refl owner-same (λ s a h k. refl) (λ s a h k. refl) (λ s. eqb (get_or w s 0) 1) (λ s. get_or l s 0) y.solved;
        no_letter = λ s h o. y.no_letter s h (λ e. o (sym (owner-same s h) ∙ e));
        winners_past = y.winners_past;
        letters_past = y.letters_past;
      }

-- after a translation that is not refused
pub ready-asks : (p : Policy) → legal p ≡ true → (owners sources targets priorities : List ℕ) (answer : Result Counts Refusal) {counts : Counts} → Ready p sources targets priorities answer
    → Ok counts ≡ answer_after answer p.states owners
    → Rows owners sources targets priorities p.letters counts.states × ((0 < p.letters) × ((s a : ℕ) → s < counts.states → a < p.letters → get_or priorities (s * p.letters + a) 0 < 10))
ready-asks p lawful owners sources targets priorities answer ready is =
    let r = ready-holds p owners answer ready is in solver-asks p lawful owners sources targets priorities r.2 r.0 r.1
