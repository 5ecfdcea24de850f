-- The loops that number mark sets: a search among those so far, and one edge more, whose mark set is new, a ninth, or one of those so far. Assumes nothing.
use Prim.Native.Nat.{ℕ, suc, ◌+◌, ◌-◌, ◌≤◌, ◌<◌}
use native.Mathlib.Omega.{arith}
use mathlib.Core.Path.{◌≡◌, refl, sym, ap, ap₂, ◌∙◌, subst}
use mathlib.Core.Logic.{◌⊎◌, inl, inr, ◌≢◌}
use mathlib.Core.Bool.{Bool, true, false, not, cond}
use mathlib.Core.List.{List, [], ◌∷◌, ◌++◌, map, map-append, append_assoc, Memᴰ}
use lib.Dec.{eqb, ltb}
use lib.ListN.{length, get_or, set, take, drop, replicate, length-append, length-map}
use lib.Seq.{take_at, set_at, split_at, length-take-le}
use Rattle.std.specs.Prelude.{Some, None}
use Rattle.std.specs.List as std
use Rattle.std.proofs.lemmas.List.Recursion.{is_position_or_len}
use Rattle.std.proofs.lemmas.List.Sums.{prefix_len-le-length}
use Rattle.lists.specs.Lists.{any, position}
use Rattle.lists.proofs.Bools.{test, eqb≡, ≡eqb, bool-ext, lt-true, lt-false}
use Rattle.lists.proofs.Lists.{map_same}
use Rattle.mark_sets.specs.declared.Colouring.{Colouring}
use Rattle.mark_sets.specs.MarkSets.{firsts, colour_in, Coloured}
use Rattle.mark_sets.proofs.Firsts.{position-missed, met, firsts-old, firsts-new, firsts-grow, colour-below, colour-kept, colour-none}

-- ---- the search for a mark set: what std finds
place-is : (l : List ℕ) (x : ℕ) → position (eqb x) l ≡ std.position_or_len (λ y. eqb y x) l
place-is l x = is_position_or_len (position (eqb x)) (λ (y : ℕ). eqb y x) refl (λ y ys. ap (λ (b : Bool). cond b 0 (suc (position (eqb x) ys))) (turned y) ∙ one (eqb y x) (position (eqb x) ys)) l
  where
    turned : (y : ℕ) → eqb x y ≡ eqb y x
    turned y = bool-ext (eqb x y) (eqb y x) (λ t. ≡eqb y x (sym (eqb≡ x y t))) (λ t. ≡eqb x y (sym (eqb≡ y x t)))

    one : (b : Bool) (n : ℕ) → cond b 0 (suc n) ≡ cond b 0 (1 + n)
    one true n = refl
    one false n = omega arith

place-found : (l : List ℕ) (x c : ℕ) → std.position (λ y. eqb y x) l ≡ Some c → (c < length l) × (c ≡ position (eqb x) l)
place-found l x c e = go (test (ltb k (length l)))
  where
    k : ℕ
    k = std.position_or_len (λ y. eqb y x) l

    go : (ltb k (length l) ≡ true) ⊎ (ltb k (length l) ≡ false) → (c < length l) × (c ≡ position (eqb x) l)
    go (inl t) = let f : Some c ≡ Some k = sym e ∙ rw t refl in let g : c ≡ k = cc in (omega (arith, g, lt-true k (length l) t), g ∙ sym (place-is l x))
    go (inr t) = let f : Some c ≡ None = sym e ∙ rw t refl in absurd (cc)

place-none : (l : List ℕ) (x : ℕ) → std.position (λ y. eqb y x) l ≡ None → length l ≡ position (eqb x) l
place-none l x e = go (test (ltb k (length l)))
  where
    k : ℕ
    k = std.position_or_len (λ y. eqb y x) l

    go : (ltb k (length l) ≡ true) ⊎ (ltb k (length l) ≡ false) → length l ≡ position (eqb x) l
    go (inl t) = let f : None ≡ Some k = sym e ∙ rw t refl in absurd (cc)
    go (inr t) = omega (arith, place-is l x, lt-false k (length l) t, prefix_len-le-length (λ (y : ℕ). not (eqb y x)) l)

-- ---- one number more in a list that is filled with 0
filled_more : (l : List ℕ) (x n k : ℕ) → length l ≡ k → k < n → set (l ++ replicate (n - k) 0) k x ≡ (l ++ (x ∷ [])) ++ replicate (n - (k + 1)) 0
filled_more l x n k long h =
    let e : n - k ≡ suc (n - (k + 1)) = omega arith in
    ap (λ (j : ℕ). set (l ++ replicate j 0) k x) e ∙ set_at l 0 (replicate (n - (k + 1)) 0) x k long ∙ sym (append_assoc l (x ∷ []) (replicate (n - (k + 1)) 0))

-- ---- one edge more, whose mark set is x
pub coloured-none : Coloured [] (record { colour = replicate 64 0; sets = replicate 8 0; count = 0 })
unfolding firsts
coloured-none = record { few = omega arith; count_is = refl; colours_are = refl; sets_are = refl }

module _ (l : List ℕ) (s : Colouring) (x c : ℕ) (is : Coloured l s) (at : c ≡ position (eqb x) (take s.count s.sets)) (e : ℕ) (long : length l ≡ e) (fits : e < 64) where
  is-colour : c ≡ colour_in l x
  unfolding colour_in
  is-colour = at ∙ ap (position (eqb x)) (ap (take s.count) is.sets_are ∙ take_at (firsts l) (replicate (8 - length (firsts l)) 0) s.count (sym is.count_is))

  -- the colours of the edges before, and of this one
  colours : map (colour_in (l ++ (x ∷ []))) (l ++ (x ∷ [])) ≡ map (colour_in l) l ++ (colour_in (l ++ (x ∷ [])) x ∷ [])
  colours =
      map-append (colour_in (l ++ (x ∷ []))) l (x ∷ [])
      ∙ ap (λ (a : List ℕ). a ++ (colour_in (l ++ (x ∷ [])) x ∷ [])) (map_same (colour_in (l ++ (x ∷ []))) (colour_in l) l (λ y m. colour-kept l (x ∷ []) y m))

  stored : colour_in (l ++ (x ∷ [])) x ≡ c → set s.colour e c ≡ map (colour_in (l ++ (x ∷ []))) (l ++ (x ∷ [])) ++ replicate (64 - length (l ++ (x ∷ []))) 0
  stored k =
      ap₂ (λ (a : List ℕ) (i : ℕ). set a i c) is.colours_are (sym long)
      ∙ filled_more (map (colour_in l) l) c 64 (length l) (length-map l (colour_in l)) (omega (arith, long))
      ∙ ap₂ (λ (a : List ℕ) (n : ℕ). a ++ replicate (64 - n) 0) (sym (colours ∙ ap (λ (y : ℕ). map (colour_in l) l ++ (y ∷ [])) k)) (sym (length-append l (x ∷ [])))

  -- one of those before exactly if it was found
  found : c ≢ length (firsts l) → Memᴰ x l
  found n = go (met l x)
    where
      go : Memᴰ x l ⊎ (any (eqb x) l ≡ false) → Memᴰ x l
      go (inl m) = m
      go (inr f) = absurd (n (is-colour ∙ colour-none l x f))

  missed : c ≡ length (firsts l) → any (eqb x) l ≡ false
  missed k = go (met l x)
    where
      go : Memᴰ x l ⊎ (any (eqb x) l ≡ false) → any (eqb x) l ≡ false
      go (inl m) = absurd (omega (arith, colour-below l x m, is-colour))
      go (inr f) = f

  one_more : c ≡ length (firsts l) → firsts (l ++ (x ∷ [])) ≡ firsts l ++ (x ∷ [])
  one_more k = firsts-new l x (missed k)

  length_more : c ≡ length (firsts l) → length (firsts (l ++ (x ∷ []))) ≡ length (firsts l) + 1
  length_more k = ap length (one_more k) ∙ length-append (firsts l) (x ∷ [])

  colours-old : c ≢ s.count → Coloured (l ++ (x ∷ [])) (record { colour = set s.colour e c; sets = s.sets; count = s.count })
  colours-old n =
      let m = found (λ k. n (k ∙ sym is.count_is)) in
      let same = sym (firsts-old l x m) in
      record {
        few = subst (λ (a : List ℕ). length a ≤ 8) same is.few;
        count_is = is.count_is ∙ ap length same;
        colours_are = stored (colour-kept l (x ∷ []) x m ∙ sym is-colour);
        sets_are = is.sets_are ∙ ap (λ (a : List ℕ). a ++ replicate (8 - length a) 0) same;
      }

  colours-new : c ≡ s.count → c ≢ 8 → Coloured (l ++ (x ∷ [])) (record { colour = set s.colour e c; sets = set s.sets c x; count = s.count + 1 })
  unfolding colour_in
  colours-new last n =
      let k : c ≡ length (firsts l) = last ∙ is.count_is in
      let more = one_more k in
      record {
        few = omega (arith, length_more k, is.few, k, n);
        count_is = omega (arith, length_more k, is.count_is);
        colours_are =
            stored
            (ap (position (eqb x)) more ∙ position-missed (eqb x) (firsts l) (x ∷ []) (sym is-colour ∙ k) ∙ rw (≡eqb x x refl) (omega (arith, k)));
        sets_are =
            ap₂ (λ (a : List ℕ) (n : ℕ). set a n x) is.sets_are k
            ∙ filled_more (firsts l) x 8 (length (firsts l)) refl (omega (arith, k, is.few, n))
            ∙ ap₂ (λ (a : List ℕ) (n : ℕ). a ++ replicate (8 - n) 0) (sym more) (sym (length_more k));
      }

  ninth : c ≡ s.count → c ≡ 8 → 8 < length (firsts (l ++ (x ∷ [])))
  ninth last n = let k : c ≡ length (firsts l) = last ∙ is.count_is in omega (arith, length_more k, n, k)

-- the same by what std finds among the mark sets so far
module _ (l : List ℕ) (s : Colouring) (x : ℕ) (is : Coloured l s) (n : ℕ) (counted : n ≡ s.count) (e : ℕ) (long : length l ≡ e) (fits : e < 64) where
  few-sets : length (take n s.sets) ≡ n
  few-sets =
      length-take-le n s.sets
      (omega (arith, counted, is.count_is, ap length is.sets_are, length-append (firsts l) (replicate (8 - length (firsts l)) 0)))

  not-found : std.position (λ y. eqb y x) (take n s.sets) ≡ None → n ≡ position (eqb x) (take s.count s.sets)
  not-found h = sym few-sets ∙ place-none (take n s.sets) x h ∙ ap (λ (k : ℕ). position (eqb x) (take k s.sets)) counted

  pub coloured-old : (c : ℕ) → std.position (λ y. eqb y x) (take n s.sets) ≡ Some c → Coloured (l ++ (x ∷ [])) (record { colour = set s.colour e c; sets = s.sets; count = s.count })
  coloured-old c h =
      let f = place-found (take n s.sets) x c h in
      colours-old l s x c is (f.1 ∙ ap (λ (k : ℕ). position (eqb x) (take k s.sets)) counted) e long fits (omega (arith, f.0, few-sets, counted))

  pub coloured-new : std.position (λ y. eqb y x) (take n s.sets) ≡ None → n ≢ 8 → Coloured (l ++ (x ∷ [])) (record { colour = set s.colour e n; sets = set s.sets n x; count = s.count + 1 })
  coloured-new h = colours-new l s x n is (not-found h) e long fits counted

  pub coloured-ninth : std.position (λ y. eqb y x) (take n s.sets) ≡ None → n ≡ 8 → 8 < length (firsts (l ++ (x ∷ [])))
  coloured-ninth h = ninth l s x n is (not-found h) e long fits counted

-- ---- a ninth mark set is too many whatever follows
pub coloured-many : (marks : List ℕ) (e : ℕ) (s : Colouring) → e < length marks → ((l : List ℕ) → length l ≡ e → Coloured l s → 8 < length (firsts (l ++ (get_or marks e 0 ∷ [])))) → Coloured (take e marks) s
    → 8 < length (firsts marks)
coloured-many marks e s h more is =
    let l = take e marks in
    let rest = drop (suc e) marks in
    let whole : marks ≡ (l ++ (get_or marks e 0 ∷ [])) ++ rest = split_at marks e 0 h ∙ sym (append_assoc l (get_or marks e 0 ∷ []) rest) in
    omega (arith, more l (length-take-le e marks (omega arith)) is, firsts-grow (l ++ (get_or marks e 0 ∷ [])) rest, ap (λ (m : List ℕ). length (firsts m)) whole)
