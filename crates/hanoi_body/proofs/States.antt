-- Laws of reading all states, and the end. Assumes nothing.
use Prim.Native.Nat.{ℕ, ◌+◌, ◌≤◌, ◌<◌}
use native.Mathlib.Omega.{arith}
use native.Mathlib.Nat.{zero-mul}
use mathlib.Core.Path.{◌≡◌, refl, sym, ◌∙◌}
use mathlib.Core.Bool.{Bool, true, false, cond}
use mathlib.Core.List.{List, []}
use lib.Dec.{ltb}
use lib.ListN.{length, replicate}
use Rattle.std.specs.Prelude.{Ok, Err}
use Rattle.lists.specs.Lists.{flat}
use Rattle.hanoi.specs.Words as w
use Rattle.hanoi.specs.Documents.{Formula}
use Rattle.hanoi.specs.Offers.{between}
use Rattle.hanoi.specs.Reader.{Head, body, state_number, finished, document_of, only, offers}
use Rattle.hanoi.proofs.Digits.{lt_yes, lt_no}
use Rattle.hanoi_tokens.specs.declared.Stop.{Stop}
use Rattle.hanoi_tokens.specs.Moves.{Moves}
use Rattle.hanoi_tokens.proofs.Moves.{stay, moves-on, moves-stops}
use Rattle.hanoi_body.specs.declared.Body.{Body}
use Rattle.hanoi_body.specs.Body.{Counts, Stored, ReadsBody}
use Rattle.hanoi_body.specs.Rows.{RowsAt, ReadsRow, ReadsEnd}

body-offers : (h : Head) (f : Formula) (states : ℕ) → 0 < states → offers (body h f) ≡ cond (ltb 0 states) (only w.State (state_number h f [])) (only w.End (finished (document_of h f [])))
unfolding offers
body-offers h f states p = rw (lt_yes 0 states p) refl

module _ (text : List ℕ) (m states letters sets : ℕ) (fits : Bool) where
  -- the states before number i
  pub record Rows (h : Head) (f : Formula) (i : ℕ) (b : Body) : Type 0 where
    pub place : RowsAt h f states letters sets i
    pub moves : Moves text m (between false (body h f)) b.at (between false place.state)
    pub stored : fits ≡ true → Stored (flat place.rows) b

  pub record Reading (i : ℕ) (b : Body) : Type 0 where
    pub few : i ≤ states
    pub within : b.at ≤ length text
    pub rows : (h : Head) (f : Formula) → Counts h states letters sets → Rows h f i b

  pub body-none : 0 < states → m ≤ length text → Reading 0 (record { at = m; target = replicate 64 0; marks = replicate 64 0 })
  body-none some l = record {
    few = omega arith;
    within = l;
    rows = λ h f c. record {
      place = record {
        counts = c;
        rows = [];
        state = body h f;
        rows_are = refl;
        edges_are = sym (zero-mul letters);
        offers_are = body-offers h f states some;
        unfinished = λ x. refl;
      };
      moves = stay text m (between false (body h f)) l;
      stored = λ e. (refl, refl);
    };
  }

  module _ (i : ℕ) (b : Body) (k : Reading i b) where
    pub body_more : i < states → (r : Body) → ReadsRow text states letters sets fits i b (Ok r) → Reading (i + 1) r
    body_more less r q = record {
      few = omega arith;
      within = q.within;
      rows = λ h f c.
          let v = k.rows h f c in
          let n = q.follows h f v.place in
          record { place = n.next; moves = moves-on text v.moves n.moves; stored = λ e. n.stored e (v.stored e) };
    }

    pub body-stops : (e : Stop) → ReadsRow text states letters sets fits i b (Err e) → ReadsBody text m states letters sets fits (Err e)
    body-stops e q = record { finishes = tt; stops = λ h f c. let v = k.rows h f c in moves-stops text v.moves (q.stops h f v.place) }

    module _ (all : states ≤ i) where
      at_end : (h : Head) (f : Formula) (p : RowsAt h f states letters sets i) → offers p.state ≡ only w.End (finished (document_of h f p.rows))
      at_end h f p = p.offers_are ∙ rw (lt_no i states all) refl

      pub body-no-end : (e : Stop) → ReadsEnd text b.at (Err e) → ReadsBody text m states letters sets fits (Err e)
      body-no-end e q = record {
        finishes = tt;
        stops = λ h f c.
            let v = k.rows h f c in
            moves-stops text v.moves (q.stops v.place.state (document_of h f v.place.rows) (at_end h f v.place) v.place.unfinished);
      }

      pub body-read : (n : ℕ) → ReadsEnd text b.at (Ok n) → ReadsBody text m states letters sets fits (Ok (record { at = n; target = b.target; marks = b.marks }))
      body-read n q = record {
        finishes = λ h f c.
            let v = k.rows h f c in
            let d = document_of h f v.place.rows in (
              v.place.rows,
              false,
              v.moves.runs ∙ q.finishes v.place.state d (at_end h f v.place) v.place.unfinished,
              λ fit. let s = v.stored fit in (s.0, s.1),
            );
        stops = tt;
      }
