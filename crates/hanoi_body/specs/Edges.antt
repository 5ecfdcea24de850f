-- What reading an edge promises, of whatever place the reader of documents is at.
use Rattle.std.specs.Prelude.{ℕ, ◌≤◌, ◌<◌, ◌≡◌, false, List, [], ◌∷◌, ◌++◌, length, get_or, Result, IfOk, IfErr}
use Rattle.masks.specs.Masks.{set_of}
use Rattle.hanoi.specs.Texts.{white, digit}
use Rattle.hanoi.specs.Documents.{Formula, Edge, marked, target_of}
use Rattle.hanoi.specs.Meaning.{mark_set}
use Rattle.hanoi.specs.Offers.{between, step_byte}
use Rattle.hanoi.specs.Reader.{Head, At, edges, braces, row_over, edge_next, offers}
use Rattle.hanoi_tokens.specs.declared.Stop.{Stop}
use Rattle.hanoi_tokens.specs.Moves.{Moves, Stops}
use Rattle.hanoi_body.specs.declared.Marks.{Marks}
use Rattle.hanoi_body.specs.declared.Step.{Step}

module _ (text : List ℕ) where
  -- the marks behind an opening brace, with the closing one
  pub record ReadsMarks (m sets : ℕ) (r : Result Marks Stop) : Type 0 where
    pub within : IfOk r (λ x. x.at ≤ length text)
    pub moves : IfOk r (λ x. (h : Head) (f : Formula) (rs : List (List Edge)) (es : List Edge) (t : ℕ) → h.sets ≡ sets
        → (ms : List ℕ) × (x.marks ≡ set_of ms) × Moves text m (between false (braces h f rs es t [])) x.at (between false (edges h f rs (es ++ (marked t ms ∷ [])))))
    pub stops : IfErr r (λ e. (h : Head) (f : Formula) (rs : List (List Edge)) (es : List Edge) (t : ℕ) → h.sets ≡ sets → Stops text m (between false (braces h f rs es t [])) e.at)

  -- Before byte n, which begins a token, s stands behind the edges es of a state: it offers the same numbers, and any byte but a digit leads on as behind them. Behind a target with no marks the
  -- reader stands so, but not at `edges`, since it still offers a brace; and a number keeps the state that it began in up to its last digit.
  pub record Behind (h : Head) (f : Formula) (rs : List (List Edge)) (es : List Edge) (n : ℕ) (s : At) : Type 0 where
    pub begins : white (get_or text n 0) ≡ false
    pub numbers_are : (offers s).numbers ≡ edge_next h f rs es
    pub others_are : digit (get_or text n 0) ≡ false → step_byte offers (between false s) (get_or text n 0) ≡ step_byte offers (between false (edges h f rs es)) (get_or text n 0)

  -- before byte m a state has not all of its edges
  pub record EdgeAt (m states sets : ℕ) : Type 0 where
    pub head : Head
    pub formula : Formula
    pub rows : List (List Edge)
    pub row : List Edge
    pub state : At
    pub states_are : head.states ≡ states
    pub sets_are : head.sets ≡ sets
    pub more : row_over head row ≡ false
    pub behind : Behind head formula rows row m state

  -- it has an edge more before byte n
  pub record Follows (m states sets : ℕ) (w : EdgeAt m states sets) (n target marks : ℕ) : Type 0 where
    pub edge : Edge
    pub state : At
    pub target_is : target ≡ target_of edge
    pub marks_are : marks ≡ mark_set edge
    pub behind : Behind w.head w.formula w.rows (w.row ++ (edge ∷ [])) n state
    pub moves : Moves text m (between false w.state) n (between false state)

  pub record ReadsEdge (m states sets : ℕ) (r : Result Step Stop) : Type 0 where
    pub there : IfOk r (λ e. e.at < length text)
    pub below : IfOk r (λ e. e.target < states)
    pub follows : IfOk r (λ e. (w : EdgeAt m states sets) → Follows m states sets w e.at e.target e.marks)
    pub stops : IfErr r (λ e. (w : EdgeAt m states sets) → Stops text m (between false w.state) e.at)
