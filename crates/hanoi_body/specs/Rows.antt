-- What reading a state with its edges promises, and the end.
use Rattle.std.specs.Prelude.{ℕ, ◌+◌, ◌*◌, ◌≤◌, ◌<◌, ◌≡◌, Bool, true, false, cond, List, [], ltb, length, get_or, drop, set, Result, IfOk, IfErr}
use Rattle.lists.specs.Lists.{flat}
use Rattle.hanoi.specs.Words as w
use Rattle.hanoi.specs.Texts.{white}
use Rattle.hanoi.specs.Documents.{Formula, Edge, Document}
use Rattle.hanoi.specs.Offers.{between, run}
use Rattle.hanoi.specs.Reader.{Head, At, state_number, edges, finished, document_of, only, offers}
use Rattle.hanoi_tokens.specs.declared.Stop.{Stop}
use Rattle.hanoi_tokens.specs.Moves.{Moves, Stops, Reads, Unfinished}
use Rattle.hanoi_body.specs.declared.Step.{Step}
use Rattle.hanoi_body.specs.declared.Body.{Body}
use Rattle.hanoi_body.specs.Body.{Counts, Stored}

-- the tables with an edge more
abbrev pub WithEdge : Body → Step → ℕ → Bool → Body → Type 0
WithEdge b e i fits r = fits ≡ true → (r.target ≡ set b.target i e.target) × (r.marks ≡ set b.marks i e.marks)

-- before the states from number i on, or before the end
pub record RowsAt (h : Head) (f : Formula) (states letters sets i : ℕ) : Type 0 where
  pub counts : Counts h states letters sets
  pub rows : List (List Edge)
  pub state : At
  pub rows_are : length rows ≡ i
  pub edges_are : length (flat rows) ≡ i * letters
  pub offers_are : offers state ≡ cond (ltb i states) (only w.State (state_number h f rows)) (only w.End (finished (document_of h f rows)))
  pub unfinished : Unfinished state

module _ (text : List ℕ) where
  -- the number of a state, up to the first byte of its first edge
  pub record ReadsState (m row : ℕ) (r : Result ℕ Stop) : Type 0 where
    pub there : IfOk r (λ n. n < length text)
    pub begins : IfOk r (λ n. white (get_or text n 0) ≡ false)
    pub reads : (h : Head) (f : Formula) (rs : List (List Edge)) (s : At) → length rs ≡ row → offers s ≡ only w.State (state_number h f rs) → Unfinished s → Reads text m (between false s) r (between false (edges h f rs []))

  module _ (states letters sets : ℕ) (fits : Bool) where
    -- a state more, with its edges
    pub record RowFollows (h : Head) (f : Formula) (i : ℕ) (p : RowsAt h f states letters sets i) (b r : Body) : Type 0 where
      pub next : RowsAt h f states letters sets (i + 1)
      pub moves : Moves text b.at (between false p.state) r.at (between false next.state)
      pub stored : fits ≡ true → Stored (flat p.rows) b → Stored (flat next.rows) r

    pub record ReadsRow (i : ℕ) (b : Body) (r : Result Body Stop) : Type 0 where
      pub within : IfOk r (λ c. c.at ≤ length text)
      pub follows : IfOk r (λ c. (h : Head) (f : Formula) (p : RowsAt h f states letters sets i) → RowFollows h f i p b c)
      pub stops : IfErr r (λ e. (h : Head) (f : Formula) (p : RowsAt h f states letters sets i) → Stops text b.at (between false p.state) e.at)

  -- the end, and only white space behind it
  pub record ReadsEnd (m : ℕ) (r : Result ℕ Stop) : Type 0 where
    pub finishes : IfOk r (λ _. (s : At) (d : Document) → offers s ≡ only w.End (finished d) → Unfinished s → run offers (between false s) (drop m text) ≡ between false (finished d))
    pub stops : IfErr r (λ e. (s : At) (d : Document) → offers s ≡ only w.End (finished d) → Unfinished s → Stops text m (between false s) e.at)
