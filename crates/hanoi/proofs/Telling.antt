-- What is told of a formula from left to right is its value. Assumes nothing.
use Prim.Native.Nat.{ℕ, suc}
use mathlib.Core.Path.{◌≡◌, refl, sym, ap, ◌∙◌, subst}
use mathlib.Core.Logic.{◌⊎◌, inl, inr}
use mathlib.Core.Bool.{Bool, true, false, not, ◌&&◌, ◌||◌, false≢true}
use mathlib.Core.List.{List, [], ◌∷◌, ◌++◌}
use Rattle.lists.proofs.Bools.{and_l, and_r, not-true}
use Rattle.hanoi.specs.Documents.{Formula, truth, inf, fin, group, both, either, is_either, is_both, formed}
use Rattle.hanoi.specs.Meaning.{holds}
use Rattle.hanoi.specs.Formulas.{Event, closes, and, or, events_of, Told, Reading, PastAnd, PastOr, told, tell_in, tell, tell_all}

pub tell-append : (a b : List Event) (t : Told) → tell_all (a ++ b) t ≡ tell_all b (tell_all a t)
unfolding tell_all
tell-append [] b t = refl
tell-append (e ∷ a) b t = tell-append a b (tell t e)

module _ (u : ℕ) where
  -- a part that is read after another
  then : (a b : List Event) (t t' : Told) → tell_all a t ≡ t' → tell_all (a ++ b) t ≡ tell_all b t'
  then a b t t' e = tell-append a b t ∙ ap (tell_all b) e

  -- ---- what is passed by
  past-or : (f : Formula) (v : Bool) (d : ℕ) → tell_all (events_of u f) (told v (PastOr d)) ≡ told v (PastOr d)
  unfolding events_of tell_all tell tell_in
  past-or (truth b) v d = refl
  past-or (inf m) v d = refl
  past-or (fin m) v d = refl
  past-or (group f) v d = then (events_of u f) (closes ∷ []) (told v (PastOr (suc d))) (told v (PastOr (suc d))) (past-or f v (suc d))
  past-or (both f g) v d = then (events_of u f) (and ∷ events_of u g) (told v (PastOr d)) (told v (PastOr d)) (past-or f v d) ∙ past-or g v d
  past-or (either f g) v d = then (events_of u f) (or ∷ events_of u g) (told v (PastOr d)) (told v (PastOr d)) (past-or f v d) ∙ past-or g v d

  past-deep : (f : Formula) (v : Bool) (d : ℕ) → tell_all (events_of u f) (told v (PastAnd (suc d))) ≡ told v (PastAnd (suc d))
  unfolding events_of tell_all tell tell_in
  past-deep (truth b) v d = refl
  past-deep (inf m) v d = refl
  past-deep (fin m) v d = refl
  past-deep (group f) v d = then (events_of u f) (closes ∷ []) (told v (PastAnd (suc (suc d)))) (told v (PastAnd (suc (suc d)))) (past-deep f v (suc d))
  past-deep (both f g) v d = then (events_of u f) (and ∷ events_of u g) (told v (PastAnd (suc d))) (told v (PastAnd (suc d))) (past-deep f v d) ∙ past-deep g v d
  past-deep (either f g) v d = then (events_of u f) (or ∷ events_of u g) (told v (PastAnd (suc d))) (told v (PastAnd (suc d))) (past-deep f v d) ∙ past-deep g v d

  module _ (sets : ℕ) where
    not-either : (f g : Formula) → formed sets (both f g) ≡ true → (is_either f ≡ false) × (is_either g ≡ false) × (formed sets f ≡ true) × (formed sets g ≡ true)
    unfolding formed
    not-either f g h =
        let a : Bool = not (is_either f) in let b : Bool = not (is_either g) in let e : Bool = not (is_both g) in let c : Bool = formed sets f in let d : Bool = formed sets g in
        let h₃ = and_l (a && b && e && c) d h in
        let h₂ = and_l (a && b && e) c h₃ in
        let h₁ = and_l (a && b) e h₂ in
        (not-true (is_either f) (and_l a b h₁), not-true (is_either g) (and_r a b h₁), and_r (a && b && e) c h₃, and_r (a && b && e && c) d h)

    past-and : (f : Formula) (v : Bool) → is_either f ≡ false → formed sets f ≡ true → tell_all (events_of u f) (told v (PastAnd 0)) ≡ told v (PastAnd 0)
    unfolding events_of tell_all tell tell_in
    past-and (truth b) v n h = refl
    past-and (inf m) v n h = refl
    past-and (fin m) v n h = refl
    past-and (group f) v n h = then (events_of u f) (closes ∷ []) (told v (PastAnd 1)) (told v (PastAnd 1)) (past-deep f v 0)
    past-and (both f g) v n h =
        let k = not-either f g h in
        then (events_of u f) (and ∷ events_of u g) (told v (PastAnd 0)) (told v (PastAnd 0)) (past-and f v k.0 k.2) ∙ past-and g v k.1 k.3
    past-and (either f g) v n h = absurd (false≢true (sym n))

    -- ---- what is read
    -- the value of what was read is b, and what follows may be passed by
    abbrev Settled : Bool → Told → Type 0
    Settled b t = (t ≡ told b Reading) ⊎ ((b ≡ false) × (t ≡ told false (PastAnd 0))) ⊎ ((b ≡ true) × (t ≡ told true (PastOr 0)))

    -- the same of a conjunction
    abbrev Joined : Bool → Told → Type 0
    Joined b t = (t ≡ told b Reading) ⊎ ((b ≡ false) × (t ≡ told false (PastAnd 0)))

    settled : {b : Bool} {t : Told} → Joined b t → Settled b t
    settled (inl e) = inl e
    settled (inr e) = inr (inl e)

    -- behind a closing parenthesis
    closed : (b : Bool) (t : Told) → Settled b t → tell t closes ≡ told b Reading
    unfolding tell tell_in
    closed b t (inl e) = ap (λ (s : Told). tell s closes) e
    closed b t (inr (inl e)) = ap (λ (s : Told). tell s closes) e.1 ∙ ap (λ (x : Bool). told x Reading) (sym e.0)
    closed b t (inr (inr e)) = ap (λ (s : Told). tell s closes) e.1 ∙ ap (λ (x : Bool). told x Reading) (sym e.0)

    -- behind &, then a conjunct g
    anded : (g : Formula) (b : Bool) (t : Told) → is_either g ≡ false → formed sets g ≡ true → Joined b t → ((v : Bool) → Joined (holds u g) (tell_all (events_of u g) (told v Reading)))
        → Joined (b && holds u g) (tell_all (events_of u g) (tell t and))
    unfolding tell tell_in
    anded g true t n h (inl e) k = subst (λ (s : Told). Joined (holds u g) (tell_all (events_of u g) (tell s and))) (sym e) (k true)
    anded g false t n h (inl e) k = inr (refl, ap (λ (s : Told). tell_all (events_of u g) (tell s and)) e ∙ past-and g false n h)
    anded g true t n h (inr e) k = absurd (false≢true (sym e.0))
    anded g false t n h (inr e) k = inr (refl, ap (λ (s : Told). tell_all (events_of u g) (tell s and)) e.1 ∙ past-and g false n h)

    -- behind |, then g
    ored : (g : Formula) (b : Bool) (t : Told) → Settled b t → ((v : Bool) → Settled (holds u g) (tell_all (events_of u g) (told v Reading))) → Settled (b || holds u g) (tell_all (events_of u g) (tell t or))
    unfolding tell tell_in
    ored g true t (inl e) k = inr (inr (refl, ap (λ (s : Told). tell_all (events_of u g) (tell s or)) e ∙ past-or g true 0))
    ored g false t (inl e) k = subst (λ (s : Told). Settled (holds u g) (tell_all (events_of u g) (tell s or))) (sym e) (k false)
    ored g true t (inr (inl e)) k = absurd (false≢true (sym e.0))
    ored g false t (inr (inl e)) k = subst (λ (s : Told). Settled (holds u g) (tell_all (events_of u g) (tell s or))) (sym e.1) (k false)
    ored g true t (inr (inr e)) k = inr (inr (refl, ap (λ (s : Told). tell_all (events_of u g) (tell s or)) e.1 ∙ past-or g true 0))
    ored g false t (inr (inr e)) k = absurd (false≢true e.0)

    both-kinds : {b : Bool} {t : Told} {A : Type 0} → Joined b t → (A → Joined b t) × Settled b t
    both-kinds j = (λ _. j, settled j)

    telling : (f : Formula) (v : Bool) → formed sets f ≡ true → (is_either f ≡ false → Joined (holds u f) (tell_all (events_of u f) (told v Reading))) × Settled (holds u f) (tell_all (events_of u f) (told v Reading))
    unfolding events_of tell_all tell tell_in holds formed
    telling (truth b) v h = both-kinds (inl refl)
    telling (inf m) v h = both-kinds (inl refl)
    telling (fin m) v h = both-kinds (inl refl)
    telling (group f) v h = both-kinds (inl (tell-append (events_of u f) (closes ∷ []) (told v Reading) ∙ closed (holds u f) (tell_all (events_of u f) (told v Reading)) (telling f v h).1))
    telling (both f g) v h =
        let k = not-either f g h in
        let t : Told = tell_all (events_of u f) (told v Reading) in
        both-kinds
        (subst (λ (s : Told). Joined (holds u f && holds u g) s) (sym (tell-append (events_of u f) (and ∷ events_of u g) (told v Reading)))
        (anded g (holds u f) t k.1 k.3 ((telling f v k.2).0 k.0) (λ w. (telling g w k.3).0 k.1)))
    telling (either f g) v h =
        let t : Told = tell_all (events_of u f) (told v Reading) in
        let e : Bool = not (is_either g) in
        let h₁ = and_r e (formed sets f) (and_l (e && formed sets f) (formed sets g) h) in (
          λ n. absurd (false≢true (sym n)),
          subst (λ (s : Told). Settled (holds u f || holds u g) s) (sym (tell-append (events_of u f) (or ∷ events_of u g) (told v Reading)))
              (ored g (holds u f) t (telling f v h₁).1 (λ w. (telling g w (and_r (e && formed sets f) (formed sets g) h)).1)),
        )

    -- the value told at the end is the formula's
    pub told-value : (f : Formula) (v : Bool) → formed sets f ≡ true → (tell_all (events_of u f) (told v Reading)).value ≡ holds u f
    told-value f v h = go (telling f v h).1
      where
        go : Settled (holds u f) (tell_all (events_of u f) (told v Reading)) → (tell_all (events_of u f) (told v Reading)).value ≡ holds u f
        go (inl e) = ap (λ (t : Told). t.value) e
        go (inr (inl e)) = ap (λ (t : Told). t.value) e.1 ∙ sym e.0
        go (inr (inr e)) = ap (λ (t : Told). t.value) e.1 ∙ sym e.0
