-- What reading an acceptance formula promises: up to the words behind it, and its value in each lane, where the marks of the lane's set recur and no others.
use Rattle.std.specs.Prelude.{ℕ, ◌<◌, ◌≡◌, Bool, true, false, List, [], ◌∷◌, get_or, Result, Ok, Err, IfOk, IfErr}
use Rattle.masks.specs.Masks.{has, minus}
use Rattle.hanoi.specs.Documents.{Formula, group, formed}
use Rattle.hanoi.specs.Meaning.{holds}
use Rattle.hanoi.specs.Formulas.{events_of}
use Rattle.hanoi.specs.Formulas as event
use Rattle.hanoi.specs.Words.{Word}
use Rattle.hanoi.specs.Texts.{open_ended}
use Rattle.hanoi.specs.Offers.{between, word_on}
use Rattle.hanoi.specs.Reader.{Head, Hole, fresh, or_else, Level, plug, whole, and_then, marking, operand, opening, after, body}
use Rattle.hanoi_tokens.specs.Moves.{Moves, Stops, ReadsTo}
use Rattle.hanoi_tokens.specs.declared.Stop.{Stop}
use Rattle.hanoi_formula.specs.declared.Mark.{Mark}
use Rattle.hanoi_formula.specs.declared.Operand.{Operand}
use Rattle.hanoi_formula.specs.declared.Operand.TheVariants as operands
use Rattle.hanoi_formula.specs.declared.Sign.{Sign}
use Rattle.hanoi_formula.specs.declared.Sign.TheVariants as signs
use Rattle.hanoi_formula.specs.declared.Valued.{Valued}

-- a parenthesis is open, or none
abbrev pub Deep : Bool → List Hole → Type 0
Deep true hs = (o : Hole) × (os : List Hole) × (hs ≡ o ∷ os)
Deep false hs = hs ≡ []

-- the lanes in which Inf or Fin with a mark holds
abbrev pub mark_lanes : ℕ → List ℕ → Bool → ℕ → ℕ
mark_lanes all lanes true m = get_or lanes m 0
mark_lanes all lanes false m = minus all (get_or lanes m 0)

-- lane s is one of `all`, and its set is u: the lanes of each mark say so
pub record IsLane (sets all : ℕ) (lanes : List ℕ) (s u : ℕ) : Type 0 where
  pub in_all : has all s ≡ true
  pub marks_are : (m : ℕ) → m < sets → has (get_or lanes m 0) s ≡ has u m

module _ (text : List ℕ) (m : ℕ) where
  -- a mark in its parentheses, behind Inf or Fin
  pub record ReadsMark (sets : ℕ) (r : Result Mark Stop) : Type 0 where
    pub reads : (h : Head) (hs : List Hole) (o : Hole) (b : Bool) → h.sets ≡ sets → ReadsTo text m (between true (opening h hs o b)) r (λ x. x.at) (λ x. between false (after h hs (plug o (marking b x.mark))))
    pub below : IfOk r (λ x. x.mark < sets)

  -- the same behind the first letter of Inf or Fin
  pub record ReadsMarked (rest : List ℕ) (sets : ℕ) (r : Result Mark Stop) : Type 0 where
    pub reads : (x : Word) → open_ended x ≡ true → (h : Head) (hs : List Hole) (o : Hole) (b : Bool) → h.sets ≡ sets
        → ReadsTo text m (word_on x rest (opening h hs o b)) r (λ y. y.at) (λ y. between false (after h hs (plug o (marking b y.mark))))
    pub below : IfOk r (λ x. x.mark < sets)

  -- an operand, or a parenthesis that opens
  abbrev pub ReadsOperand : ℕ → ℕ → List ℕ → Result Operand Stop → Type 0
  ReadsOperand sets all lanes (Ok (operands.Opens n)) = (m < n) × ((h : Head) (hs : List Hole) (o : Hole) → h.sets ≡ sets → Moves text m (between false (operand h hs o)) n (between false (operand h (o ∷ hs) fresh)))
  ReadsOperand sets all lanes (Ok (operands.Value n v bar)) =
      (m < n) × ((h : Head) (hs : List Hole) (o : Hole) → h.sets ≡ sets → (f : Formula) × ((s u : ℕ) → IsLane sets all lanes s u → events_of u f ≡ event.operand (has v s) ∷ []) × Moves text m (between false (operand h hs o)) n (between bar (after h hs (plug o f))))
  ReadsOperand sets all lanes (Err e) = (h : Head) (hs : List Hole) (o : Hole) → h.sets ≡ sets → Stops text m (between false (operand h hs o)) e.at

  -- what follows an operand; `deep` says that a parenthesis is open
  abbrev pub ReadsSign : Bool → Bool → Result Sign Stop → Type 0
  ReadsSign bar deep (Ok (signs.And n)) = (m < n) × ((h : Head) (hs : List Hole) (l : Level) → Moves text m (between bar (after h hs l)) n (between false (operand h hs (and_then l))))
  ReadsSign bar deep (Ok (signs.Or n)) = (m < n) × ((h : Head) (hs : List Hole) (l : Level) → Moves text m (between bar (after h hs l)) n (between false (operand h hs (or_else (whole l)))))
  ReadsSign bar deep (Ok (signs.Closes n)) =
      (deep ≡ true) × (m < n) × ((h : Head) (hs : List Hole) (o : Hole) (l : Level) → Moves text m (between bar (after h (o ∷ hs) l)) n (between false (after h hs (plug o (group (whole l))))))
  ReadsSign bar deep (Ok (signs.Body n)) = (deep ≡ false) × ((h : Head) (l : Level) → Moves text m (between bar (after h [] l)) n (between false (body h (whole l))))
  ReadsSign bar deep (Err e) = (h : Head) (hs : List Hole) (l : Level) → Deep deep hs → Stops text m (between bar (after h hs l)) e.at

  -- the whole formula
  pub record ReadsFormula (sets all : ℕ) (lanes : List ℕ) (r : Result Valued Stop) : Type 0 where
    pub moves : IfOk r (λ v. (h : Head) → h.sets ≡ sets
        → (f : Formula) × Moves text m (between false (operand h [] fresh)) v.at (between false (body h f)) × (formed sets f ≡ true → (s u : ℕ) → IsLane sets all lanes s u → has v.value s ≡ holds u f))
    pub stops : IfErr r (λ e. (h : Head) → h.sets ≡ sets → Stops text m (between false (operand h [] fresh)) e.at)
