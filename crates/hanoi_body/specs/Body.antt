-- What reading the rest of a text behind --BODY-- promises.
use Rattle.std.specs.Prelude.{ℕ, ◌^◌, ◌≡◌, Bool, true, false, List, map, length, drop, Result, IfOk, IfErr}
use Rattle.lists.specs.Lists.{flat}
use Rattle.hanoi.specs.Documents.{Formula, Edge, target_of}
use Rattle.hanoi.specs.Meaning.{filled, mark_set}
use Rattle.hanoi.specs.Offers.{between, run}
use Rattle.hanoi.specs.Reader.{Head, body, finished, document_of, offers}
use Rattle.hanoi_tokens.specs.declared.Stop.{Stop}
use Rattle.hanoi_tokens.specs.Moves.{Stops}
use Rattle.hanoi_body.specs.declared.Body.{Body}

pub record Counts (h : Head) (states letters sets : ℕ) : Type 0 where
  pub states_are : h.states ≡ states
  pub letters_are : 2 ^ length h.names ≡ letters
  pub sets_are : h.sets ≡ sets

-- the tables have these edges by number
abbrev pub Stored : List Edge → Body → Type 0
Stored es b = (b.target ≡ filled 64 (map target_of es)) × (b.marks ≡ filled 64 (map mark_set es))

-- wherever the reader of documents stands before the states of a document with these counts
pub record ReadsBody (text : List ℕ) (m states letters sets : ℕ) (fits : Bool) (r : Result Body Stop) : Type 0 where
  pub finishes : IfOk r (λ b. (h : Head) (f : Formula) → Counts h states letters sets
      → (rows : List (List Edge)) × (bar : Bool) × (run offers (between false (body h f)) (drop m text) ≡ between bar (finished (document_of h f rows))) × (fits ≡ true → Stored (flat rows) b))
  pub stops : IfErr r (λ e. (h : Head) (f : Formula) → Counts h states letters sets → Stops text m (between false (body h f)) e.at)
