-- The events of a formula so far, with the operand or the sign that comes next, and what is told of them. Assumes nothing.
use Prim.Native.Nat.{ℕ}
use mathlib.Core.Path.{◌≡◌, refl, sym, ap, ◌∙◌}
use mathlib.Core.List.{List, [], ◌∷◌, ◌++◌, append_assoc, append-nil}
use mathlib.Core.Bool.{true}
use Rattle.hanoi.specs.Documents.{Formula, group}
use Rattle.hanoi.specs.Formulas.{Event, opens, closes, and, or, events_of, Reading, Told, told, tell, tell_all}
use Rattle.hanoi.specs.Reader.{Hole, fresh, or_else, and_also, or_and, Level, alone, beside, plug, whole, and_then}
use Rattle.hanoi.proofs.Telling.{tell-append}

told-snoc : (xs : List Event) (e : Event) (t : Told) → tell_all (xs ++ (e ∷ [])) t ≡ tell (tell_all xs t) e
unfolding tell_all
told-snoc xs e t = tell-append xs (e ∷ []) t

module _ (u : ℕ) where
  abbrev pub hole_events : Hole → List Event
  hole_events fresh = []
  hole_events (or_else f) = events_of u f ++ (or ∷ [])
  hole_events (and_also f) = events_of u f ++ (and ∷ [])
  hole_events (or_and f g) = (events_of u f ++ (or ∷ events_of u g)) ++ (and ∷ [])

  abbrev pub holes_events : List Hole → List Event
  holes_events [] = []
  holes_events (o ∷ hs) = (holes_events hs ++ hole_events o) ++ (opens ∷ [])

  -- what is told before an operand, and behind one
  unfoldable pub before : List Hole → Hole → Told
  before hs o = tell_all (holes_events hs ++ hole_events o) (told true Reading)

  unfoldable pub behind : List Hole → Level → Told
  behind hs l = tell_all (holes_events hs ++ events_of u (whole l)) (told true Reading)

  plug-events : (o : Hole) (f : Formula) → events_of u (whole (plug o f)) ≡ hole_events o ++ events_of u f
  unfolding whole plug events_of
  plug-events fresh f = refl
  plug-events (or_else e) f = simp append_assoc refl
  plug-events (and_also g) f = simp append_assoc refl
  plug-events (or_and e g) f = simp append_assoc refl

  and-events : (l : Level) → hole_events (and_then l) ≡ events_of u (whole l) ++ (and ∷ [])
  unfolding and_then whole events_of
  and-events (alone f) = refl
  and-events (beside e f) = refl

  -- an operand that was read
  plugged : (hs : List Hole) (o : Hole) (f : Formula) (e : Event) → events_of u f ≡ e ∷ [] → tell_all (holes_events hs ++ events_of u (whole (plug o f))) (told true Reading) ≡ tell (tell_all (holes_events hs ++ hole_events o) (told true Reading)) e
  plugged hs o f e h =
      let z : holes_events hs ++ (hole_events o ++ (e ∷ [])) ≡ (holes_events hs ++ hole_events o) ++ (e ∷ []) = simp append_assoc refl in
      ap (λ (l : List Event). tell_all (holes_events hs ++ l) (told true Reading)) (plug-events o f ∙ ap (λ (l : List Event). hole_events o ++ l) h) ∙
      (ap (λ (l : List Event). tell_all l (told true Reading)) z ∙ told-snoc (holes_events hs ++ hole_events o) e (told true Reading))

  opened : (hs : List Hole) (o : Hole) → tell_all (((holes_events hs ++ hole_events o) ++ (opens ∷ [])) ++ []) (told true Reading) ≡ tell (tell_all (holes_events hs ++ hole_events o) (told true Reading)) opens
  opened hs o = ap (λ (l : List Event). tell_all l (told true Reading)) (append-nil ((holes_events hs ++ hole_events o) ++ (opens ∷ []))) ∙ told-snoc (holes_events hs ++ hole_events o) opens (told true Reading)

  closed : (hs : List Hole) (o : Hole) (l : Level) → tell_all (holes_events hs ++ events_of u (whole (plug o (group (whole l))))) (told true Reading) ≡ tell (tell_all (((holes_events hs ++ hole_events o) ++ (opens ∷ [])) ++ events_of u (whole l)) (told true Reading)) closes
  unfolding events_of
  closed hs o l =
      let x = events_of u (whole l) in
      let z : holes_events hs ++ (hole_events o ++ (opens ∷ (x ++ (closes ∷ [])))) ≡ (((holes_events hs ++ hole_events o) ++ (opens ∷ [])) ++ x) ++ (closes ∷ []) = simp append_assoc refl in
      ap (λ (y : List Event). tell_all (holes_events hs ++ y) (told true Reading)) (plug-events o (group (whole l))) ∙
      (ap (λ (y : List Event). tell_all y (told true Reading)) z ∙ told-snoc (((holes_events hs ++ hole_events o) ++ (opens ∷ [])) ++ x) closes (told true Reading))

  joined : (hs : List Hole) (l : Level) (e : Event) (o : Hole) → hole_events o ≡ events_of u (whole l) ++ (e ∷ []) → tell_all (holes_events hs ++ hole_events o) (told true Reading) ≡ tell (tell_all (holes_events hs ++ events_of u (whole l)) (told true Reading)) e
  joined hs l e o h =
      let x = events_of u (whole l) in
      ap (λ (y : List Event). tell_all (holes_events hs ++ y) (told true Reading)) h ∙
      (ap (λ (y : List Event). tell_all y (told true Reading)) (sym (append_assoc (holes_events hs) x (e ∷ []))) ∙ told-snoc (holes_events hs ++ x) e (told true Reading))

  -- ---- the same by name
  pub before-none : before [] fresh ≡ told true Reading
  unfolding before tell_all
  before-none = refl

  pub before-opens : (hs : List Hole) (o : Hole) → before (o ∷ hs) fresh ≡ tell (before hs o) opens
  unfolding before
  before-opens hs o = opened hs o

  pub behind-operand : (hs : List Hole) (o : Hole) (f : Formula) (e : Event) → events_of u f ≡ e ∷ [] → behind hs (plug o f) ≡ tell (before hs o) e
  unfolding before behind
  behind-operand hs o f e h = plugged hs o f e h

  pub behind-closes : (hs : List Hole) (o : Hole) (l : Level) → behind hs (plug o (group (whole l))) ≡ tell (behind (o ∷ hs) l) closes
  unfolding behind
  behind-closes hs o l = closed hs o l

  pub before-and : (hs : List Hole) (l : Level) → before hs (and_then l) ≡ tell (behind hs l) and
  unfolding before behind
  before-and hs l = joined hs l and (and_then l) (and-events l)

  pub before-or : (hs : List Hole) (l : Level) → before hs (or_else (whole l)) ≡ tell (behind hs l) or
  unfolding before behind
  before-or hs l = joined hs l or (or_else (whole l)) refl

  pub behind-whole : (l : Level) → behind [] l ≡ tell_all (events_of u (whole l)) (told true Reading)
  unfolding behind
  behind-whole l = refl
