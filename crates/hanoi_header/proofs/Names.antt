-- Laws of reading the names of a header. Assumes nothing.
use Prim.Native.Nat.{ℕ, zero, suc, ◌+◌, ◌-◌, ◌≤◌, ◌<◌}
use native.Mathlib.Omega.{arith}
use mathlib.Core.Path.{◌≡◌, refl, sym, ap, ◌∙◌, subst}
use mathlib.Core.Bool.{Bool, true, false}
use mathlib.Core.List.{List, [], ◌∷◌, ◌++◌}
use lib.ListN.{length, get_or, set, take, length-set, length-take}
use Rattle.std.specs.Prelude.{All, Ok, Err}
use Rattle.std.proofs.lemmas.List.{take_more, take_more_set}
use Rattle.std.proofs.lemmas.List.Elements.{All-push}
use Rattle.lists.specs.Lists.{any}
use Rattle.lists.proofs.AnyAll.{any-more, any_at}
use Rattle.hanoi.specs.Documents.{same_bytes}
use Rattle.hanoi.specs.Offers.{no_number, new_name, is_new, named, between, in_name, dead, step_byte}
use Rattle.hanoi.specs.Reader.{At, naming, offer, names_next, offers}
use Rattle.hanoi_tokens.specs.declared.Stop.{Stop}
use Rattle.hanoi_tokens.specs.declared.Name.{Name}
use Rattle.hanoi_tokens.specs.Moves.{Moves}
use Rattle.hanoi_tokens.specs.Tokens.{ReadsName}
use Rattle.hanoi_tokens.proofs.Moves.{moves-on, moves-stops, one, none}
use Rattle.hanoi_header.specs.Names.{InText, name_in, names_in, ReadsNames}

-- ---- names as places
module _ (text : List ℕ) where
  -- one name more
  names-push : (ns : List Name) (x : Name) → names_in text (ns ++ (x ∷ [])) ≡ names_in text ns ++ (name_in text x ∷ [])
  names-push [] x = refl
  names-push (y ∷ ns) x = ap (λ (l : List (List ℕ)). name_in text y ∷ l) (names-push ns x)

  names-long : (ns : List Name) → length (names_in text ns) ≡ length ns
  names-long [] = refl
  names-long (x ∷ ns) = ap suc (names-long ns)

  names-at : (ns : List Name) (i : ℕ) (d : Name) → i < length ns → get_or (names_in text ns) i [] ≡ name_in text (get_or ns i d)
  names-at [] i d h = absurd (omega (arith, h))
  names-at (x ∷ ns) zero d h = refl
  names-at (x ∷ ns) (suc i) d h = names-at ns i d (omega (arith, h))

  -- none of the names has the bytes of x
  abbrev pub New : Name → List Name → Type 0
  New x ns = any (same_bytes (name_in text x)) (names_in text ns) ≡ false

  module _ (x : Name) (ns : List Name) (i : ℕ) (d : Name) (h : i < length ns) where
    pub new-more : New x (take i ns) → same_bytes (name_in text x) (name_in text (get_or ns i d)) ≡ false → New x (take (i + 1) ns)
    new-more n s =
        let t : List ℕ → Bool = same_bytes (name_in text x) in
        subst (λ (l : List Name). New x l) (sym (take_more ns i d h))
        (subst (λ (l : List (List ℕ)). any t l ≡ false) (sym (names-push (take i ns) (get_or ns i d))) (any-more t (names_in text (take i ns)) (name_in text (get_or ns i d)) n s))

    pub new-not : same_bytes (name_in text x) (name_in text (get_or ns i d)) ≡ true → any (same_bytes (name_in text x)) (names_in text ns) ≡ true
    new-not s =
        let t : List ℕ → Bool = same_bytes (name_in text x) in
        any_at t (names_in text ns) i [] (omega (arith, names-long ns, h)) (ap t (names-at ns i d h) ∙ s)

-- ---- the closing quote
names-offered : (n i left : ℕ) (ns : List (List ℕ)) → offers (naming n i (suc left) ns) ≡ offer [] no_number (new_name ns (λ q. naming n i left (ns ++ (q ∷ []))))
unfolding offers names_next
names-offered n i left ns = refl

quote-new : (s : At) (ns : List (List ℕ)) (to : List ℕ → At) (q : List ℕ) → offers s ≡ offer [] no_number (new_name ns to) → any (same_bytes q) ns ≡ false → step_byte offers (in_name s q false) 34 ≡ between false (to q)
unfolding step_byte is_new named
quote-new s ns to q o e = rw (o, e) refl

quote-old : (s : At) (ns : List (List ℕ)) (to : List ℕ → At) (q : List ℕ) → offers s ≡ offer [] no_number (new_name ns to) → any (same_bytes q) ns ≡ true → step_byte offers (in_name s q false) 34 ≡ dead
unfolding step_byte is_new
quote-old s ns to q o e = rw (o, e) refl

-- ---- reading them
module _ (text : List ℕ) (m count : ℕ) where
  -- n names stand in the text, and the others are to come from byte i on
  pub record Naming (i n : ℕ) (names : List Name) : Type 0 where
    pub three : length names ≡ 3
    pub inside : All (InText text) (take n names)
    pub within : i ≤ length text
    pub moves : (s v : ℕ) → Moves text m (between false (naming s v count [])) i (between false (naming s v (count - n) (names_in text (take n names))))

  pub naming-all : (i n : ℕ) (names : List Name) → Naming i n names → n ≤ count → count ≤ n → count ≤ 3 → ReadsNames text m count (Ok i)
  naming-all i n names k h l few = (
    names_in text (take n names),
    names-long text (take n names) ∙ omega (arith, length-take n names, k.three, h, l, few),
    λ s v. let z : count - n ≡ 0 = omega arith in subst (λ (c : ℕ). Moves text m (between false (naming s v count [])) i (between false (naming s v c (names_in text (take n names))))) z (k.moves s v),
  )

  module _ (few : count ≤ 3) (i n : ℕ) (names : List Name) (k : Naming i n names) (b : n < count) where
    -- one name is to come, and then so many
    abbrev left : ℕ
    left = count - (n + 1)

    abbrev so_far : List (List ℕ)
    so_far = names_in text (take n names)

    abbrev at : ℕ → ℕ → At
    at s v = naming s v (suc left) so_far

    abbrev to : ℕ → ℕ → List ℕ → At
    to s v q = naming s v left (so_far ++ (q ∷ []))

    here : (s v : ℕ) → Moves text m (between false (naming s v count [])) i (between false (at s v))
    here s v =
        let e : count - n ≡ suc left = omega arith in
        subst (λ (c : ℕ). Moves text m (between false (naming s v count [])) i (between false (naming s v c so_far))) e (k.moves s v)

    pub names-stopped : (e : Stop) → ReadsName text i (Err e) → ReadsNames text m count (Err e)
    names-stopped e g s v = moves-stops text (here s v) (g.reads (at s v) so_far (to s v) (names-offered s v left so_far) (λ y. refl))

    module _ (x : Name) (g : ReadsName text i (Ok x)) where
      -- up to the closing quote
      up_to : (s v : ℕ) → Moves text m (between false (naming s v count [])) x.end (in_name (at s v) (name_in text x) false)
      up_to s v = moves-on text (here s v) (g.reads (at s v) so_far (to s v) (names-offered s v left so_far) (λ y. refl))

      pub names-old : any (same_bytes (name_in text x)) so_far ≡ true → ReadsNames text m count (Err (record { at = x.end }))
      names-old old s v =
          moves-stops text (up_to s v) (none text g.there
          (ap (step_byte offers (in_name (at s v) (name_in text x) false)) g.quote_is ∙ quote-old (at s v) so_far (to s v) (name_in text x) (names-offered s v left so_far) old))

      pub naming-more : New text x (take n names) → Naming (x.end + 1) (n + 1) (set names n x)
      naming-more new =
          let e : take (n + 1) (set names n x) ≡ take n names ++ (x ∷ []) = take_more_set names n x (omega (arith, k.three)) in
          record {
            three = length-set names n x ∙ k.three;
            inside = rw e (All-push (InText text) (take n names) x k.inside (record { ordered = g.ordered; there = omega (arith, g.there) }));
            within = omega (arith, g.there);
            moves =
                λ s v. rw (e, names-push text (take n names) x) (moves-on text (up_to s v) (one text g.there
                (ap (step_byte offers (in_name (at s v) (name_in text x) false)) g.quote_is ∙ quote-new (at s v) so_far (to s v) (name_in text x) (names-offered s v left so_far) new) refl));
          }
