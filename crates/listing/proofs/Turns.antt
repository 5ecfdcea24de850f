-- The lists of a root, set by set. Assumes nothing.
use Prim.Native.Nat.{ℕ, zero, suc, ◌+◌, ◌-◌, ◌≤◌, ◌<◌}
use native.Mathlib.Omega.{arith}
use native.Mathlib.Decide.{ℕ_discrete}
use native.Mathlib.Numerals.{add-one}
use mathlib.Core.Path.{◌≡◌, refl, sym, ap, ap₂, ◌∙◌, subst}
use mathlib.Core.Logic.{◌⊎◌, inl, inr, ◌≢◌}
use mathlib.Core.Bool.{Bool, true, false, not, ◌&&◌, cond, true≢false, false≢true}
use mathlib.Core.List.{List, [], ◌∷◌, Memᴰ}
use lib.Dec.{ltb}
use lib.ListN.{length, get_or, take, set, replicate, length-set}
use lib.Seq.{length-take-le, get_or-set_same, get_or-set_other}
use Rattle.lists.specs.Bools.{differs}
use Rattle.lists.proofs.Bools.{test, or_cases, or-none, or-rest, lt-true, lt-false}
use Rattle.masks.specs.Masks.{inside}
use Rattle.policy.specs.declared.Policy.{Policy}
use Rattle.policy.specs.Policies.{colours_of, in_family, legal}
use Rattle.policy.specs.ByColour.{by_colour, table_colours}
use Rattle.policy.proofs.Laws.{accepting-is, colours-up}
use Rattle.policy.proofs.ByColour.{table-colours-are}
use Rattle.graph.specs.Cycles.{is_cycle}
use Rattle.forest.specs.Forest.{roots}
use Rattle.candidates.specs.Candidates.{is_open, is_wanted, with_set, candidates_to, candidates, Live}
use Rattle.candidates.proofs.Candidates.{listing-few}
use Rattle.candidates.proofs.Live.{live-root, absent_none}
use Rattle.listing.specs.declared.Counts.{Counts}
use Rattle.listing.specs.Listing.{Hued, PartsOf, Passed, Listed, lacks_room, Outcome}
use Rattle.listing.proofs.Appending.{take-set, hued-more, set-closed, set-unwanted}

-- ---- one set more
module _ {p : Policy} {by : List ℕ} {r n : ℕ} {a₀ ah₀ r₀ rh₀ live : List ℕ} {k : Counts} (s : Listed p by r n a₀ ah₀ r₀ rh₀ live k) (c : ℕ) (ec : c ≡ colours_of p r - 1 - n) where
  -- the list of verdict b, with this set
  next_is : (b d f : Bool) → inside c (colours_of p r) ≡ d → in_family p c ≡ f → candidates_to p r (n + 1) b ≡ cond (d && not (differs b f)) (with_set p r c (candidates_to p r n (not b)) (candidates_to p r n b)) (candidates_to p r n b)
  unfolding candidates_to
  next_is b d f ed ef =
      ap (λ (i : ℕ). candidates_to p r i b) (add-one n)
      ∙ ap (λ (x : ℕ). cond (inside x (colours_of p r) && not (differs b (in_family p x))) (with_set p r x (candidates_to p r n (not b)) (candidates_to p r n b)) (candidates_to p r n b)) (sym ec)
      ∙ ap₂ (λ (x y : Bool). cond (x && not (differs b y)) (with_set p r c (candidates_to p r n (not b)) (candidates_to p r n b)) (candidates_to p r n b)) ed ef

  -- whatever the live edges become
  module _ {live' : List ℕ} (la : (d : ℕ) → d < length live' → Live p r d (get_or live' d 0)) where
    pub listed-accepting : {a ah : List ℕ} {m : ℕ} → inside c (colours_of p r) ≡ true → in_family p c ≡ true → take m a ≡ with_set p r c (take k.rejecting r₀) (take k.accepting a₀) → Hued (table_colours by) a ah m
        → Listed p by r (n + 1) a ah r₀ rh₀ live' (record { accepting = m; rejecting = k.rejecting })
    listed-accepting d f q h = record {
      accepting_are = q ∙ ap₂ (with_set p r c) s.rejecting_are s.accepting_are ∙ sym (next_is true true true d f);
      rejecting_are = s.rejecting_are ∙ sym (next_is false true true d f);
      accepting_hued = h;
      rejecting_hued = s.rejecting_hued;
      live_are = la;
    }

    pub listed-rejecting : {t th : List ℕ} {m : ℕ} → inside c (colours_of p r) ≡ true → in_family p c ≡ false → take m t ≡ with_set p r c (take k.accepting a₀) (take k.rejecting r₀) → Hued (table_colours by) t th m
        → Listed p by r (n + 1) a₀ ah₀ t th live' (record { accepting = k.accepting; rejecting = m })
    listed-rejecting d f q h = record {
      accepting_are = s.accepting_are ∙ sym (next_is true true false d f);
      rejecting_are = q ∙ ap₂ (with_set p r c) s.accepting_are s.rejecting_are ∙ sym (next_is false true false d f);
      accepting_hued = s.accepting_hued;
      rejecting_hued = h;
      live_are = la;
    }

  -- nothing is listed where no cycle has its colours
  listed-absent : legal p ≡ true → ((y : ℕ) → is_cycle p y ≡ true → inside y r ≡ true → colours_of p y ≢ c) → Listed p by r (n + 1) a₀ ah₀ r₀ rh₀ live k
  listed-absent lawful none = record {
    accepting_are = s.accepting_are ∙ sym (still true);
    rejecting_are = s.rejecting_are ∙ sym (still false);
    accepting_hued = s.accepting_hued;
    rejecting_hued = s.rejecting_hued;
    live_are = s.live_are;
  }
    where
      alike : (b : Bool) {x y : List ℕ} → x ≡ y → cond b x y ≡ y
      alike true e = e
      alike false e = refl

      still : (b : Bool) → candidates_to p r (n + 1) b ≡ candidates_to p r n b
      still b = next_is b (inside c (colours_of p r)) (in_family p c) refl refl ∙ alike (inside c (colours_of p r) && not (differs b (in_family p c))) (absent_none p lawful r c (candidates_to p r n (not b)) (candidates_to p r n b) none)

-- live edges of one set more
pub live-set : (p : Policy) (r c e : ℕ) (live : List ℕ) → ((d : ℕ) → d < length live → Live p r d (get_or live d 0)) → Live p r c e → (d : ℕ) → d < length (set live c e) → Live p r d (get_or (set live c e) d 0)
live-set p r c e live are v d b = go (ℕ_discrete d c)
  where
    inner : d < length live
    inner = omega (arith, b, length-set live c e)

    go : Dec (d ≡ c) → Live p r d (get_or (set live c e) d 0)
    go (yes q) = subst (λ (x : ℕ). Live p r x (get_or (set live c e) x 0)) (sym q) (subst (Live p r c) (sym (get_or-set_same live c e 0 (omega (arith, inner, q)))) v)
    go (no q) = subst (Live p r d) (sym (get_or-set_other live c d e 0 q)) (are d inner)

-- ---- of the list of verdict v, and of the other one
abbrev pub other_hues : Bool → Counts → List ℕ → List ℕ → List ℕ
other_hues v k ah th = cond v (take k.rejecting th) (take k.accepting ah)

abbrev pub same_count : Bool → Counts → ℕ
same_count v k = cond v k.accepting k.rejecting

abbrev pub other_masks : Bool → Counts → List ℕ → List ℕ → List ℕ
other_masks v k a t = cond v (take k.rejecting t) (take k.accepting a)

abbrev pub same_masks : Bool → Counts → List ℕ → List ℕ → List ℕ
same_masks v k a t = cond v (take k.accepting a) (take k.rejecting t)

-- ---- sets that are passed, of the colours `used` of the root
module _ {p : Policy} {states letters : ℕ} {heads out into by : List ℕ} (t : PartsOf p states letters heads out into by) (r used : ℕ) (eu : used ≡ colours_of p r)
    (a₀ ah₀ r₀ rh₀ live : List ℕ) (k : Counts) where
  abbrev Here : ℕ → Type 0
  Here n = Listed p by r n a₀ ah₀ r₀ rh₀ live k

  set_is : (x : ℕ) → x < used → x ≡ colours_of p r - 1 - (used - 1 - x)
  set_is x h = omega (arith, eu)

  -- a set that is not open
  closed : (v : Bool) (x : ℕ) → x < used → inside x (colours_of p r) ≡ true → in_family p x ≡ v → is_open x (other_hues v k ah₀ rh₀) (same_count v k) ≡ false → Here (used - 1 - x) → Here (used - 1 - x + 1)
  closed true x h i f o s =
      listed-accepting s x (set_is x h) s.live_are i f
      (set-closed t r x k.accepting (take k.rejecting r₀) (take k.rejecting rh₀) (take k.accepting a₀) s.rejecting_hued.hues_are (length-take-le k.accepting a₀ s.accepting_hued.long) o) s.accepting_hued
  closed false x h i f o s =
      listed-rejecting s x (set_is x h) s.live_are i f
      (set-closed t r x k.rejecting (take k.accepting a₀) (take k.accepting ah₀) (take k.rejecting r₀) s.accepting_hued.hues_are (length-take-le k.rejecting r₀ s.rejecting_hued.long) o) s.rejecting_hued

  -- a set of which no cycle is wanted
  unwanted : (v : Bool) (x : ℕ) → x < used → inside x (colours_of p r) ≡ true → in_family p x ≡ v
      → ((y : ℕ) → is_cycle p y ≡ true → inside y r ≡ true → colours_of p y ≡ x → is_wanted (colours_of p) x y (other_masks v k a₀ r₀) (same_masks v k a₀ r₀) ≡ false) → Here (used - 1 - x) → Here (used - 1 - x + 1)
  unwanted true x h i f w s = listed-accepting s x (set_is x h) s.live_are i f (set-unwanted t r x (take k.rejecting r₀) (take k.accepting a₀) w) s.accepting_hued
  unwanted false x h i f w s = listed-rejecting s x (set_is x h) s.live_are i f (set-unwanted t r x (take k.accepting a₀) (take k.rejecting r₀) w) s.rejecting_hued

  abbrev Pass : Bool → ℕ → Type 0
  Pass v x = Passed p r v (other_masks v k a₀ r₀) (other_hues v k ah₀ rh₀) (same_masks v k a₀ r₀) (same_count v k) x

  -- a cycle of the root has its colours
  outside : (x : ℕ) → inside x (colours_of p r) ≡ false → (y : ℕ) → is_cycle p y ≡ true → inside y r ≡ true → colours_of p y ≢ x
  outside x f y cy i e = true≢false (sym (subst (λ (d : ℕ). inside d (colours_of p r) ≡ true) e (colours-up p y r i)) ∙ f)

  pass : (v : Bool) (x : ℕ) → x < used → Pass v x → Here (used - 1 - x) → Here (used - 1 - x + 1)
  pass v x h (inl none) s = listed-absent s x (set_is x h) t.graph.lawful none
  pass v x h (inr o) s = go (test (inside x (colours_of p r)))
    where
      go : (inside x (colours_of p r) ≡ true) ⊎ (inside x (colours_of p r) ≡ false) → Here (used - 1 - x + 1)
      go (inl i) = by-reason o.1 i
        where
          by-reason : (is_open x (other_hues v k ah₀ rh₀) (same_count v k) ≡ false) ⊎ ((y : ℕ) → is_cycle p y ≡ true → inside y r ≡ true → colours_of p y ≡ x → is_wanted (colours_of p) x y (other_masks v k a₀ r₀) (same_masks v k a₀ r₀) ≡ false)
              → inside x (colours_of p r) ≡ true → Here (used - 1 - x + 1)
          by-reason (inl c) i = closed v x h i o.0 c s
          by-reason (inr w) i = unwanted v x h i o.0 w s
      go (inr f) = listed-absent s x (set_is x h) t.graph.lawful (outside x f)

  -- all sets from `low` up to `high`, in turn
  pub passed : (v : Bool) (low high : ℕ) → low ≤ high → high ≤ used → ((x : ℕ) → low ≤ x → x < high → inside x used ≡ true → Pass v x) → Here (used - high) → Here (used - low)
  passed v low zero l h each s = subst Here (ap (λ (x : ℕ). used - x) (omega arith)) s
  passed v low (suc x) l h each s = go (ℕ_discrete low (suc x)) (λ b. passed v low x b (omega arith) (λ y c d i. each y c (omega arith) i))
    where
      here : Here (used - 1 - x)
      here = subst Here (omega arith) s

      by-colours : (inside x used ≡ true) ⊎ (inside x used ≡ false) → low ≤ x → Pass v x
      by-colours (inl i) b = each x b (omega arith) i
      by-colours (inr f) b = inl (outside x (ap (inside x) (sym eu) ∙ f))

      go : Dec (low ≡ suc x) → (low ≤ x → Here (used - x) → Here (used - low)) → Here (used - low)
      go (yes e) on = subst Here (ap (λ (y : ℕ). used - y) (sym e)) s
      go (no ne) on =
          let b : low ≤ x = omega (arith, ne, l) in
          let e : used - 1 - x + 1 ≡ used - x = omega (arith, h) in
          on b (subst Here e (pass v x (omega arith) (by-colours (test (inside x used)) b) here))

-- ---- the root alone
pub replicate-in : (n i x z : ℕ) → i < n → get_or (replicate n x) i z ≡ x
replicate-in zero i x z h = absurd (omega arith)
replicate-in (suc n) zero x z h = refl
replicate-in (suc n) (suc i) x z h = replicate-in n i x z (omega arith)

module _ (p : Policy) (lawful : legal p ≡ true) (by : List ℕ) (e : by ≡ by_colour p) (r used : ℕ) (eu : used ≡ table_colours by r) where
  none-hued : (t own : List ℕ) → Hued (table_colours by) t own 0
  none-hued t own = record { long = omega arith; hues_long = omega arith; hues_are = refl }

  used-is : used ≡ colours_of p r
  used-is = eu ∙ ap (λ (t : List ℕ). table_colours t r) e ∙ table-colours-are p lawful r

  first-is : (b d : Bool) → in_family p used ≡ d → candidates_to p r 0 b ≡ cond (differs b d) [] (r ∷ [])
  unfolding candidates_to
  first-is b d q = ap (λ (v : Bool). cond (differs b v) [] (r ∷ [])) (accepting-is p r ∙ ap (in_family p) (sym used-is) ∙ q)

  module _ (live : List ℕ) (are : (d : ℕ) → d < length live → get_or live d 0 ≡ r) where
    root_live : (d : ℕ) → d < length live → Live p r d (get_or live d 0)
    root_live d b = subst (Live p r d) (sym (are d b)) (live-root p lawful r d)

    pub begun-accepting : (a ah t th : List ℕ) → 0 < length a → 0 < length ah → in_family p used ≡ true → Listed p by r 0 (set a 0 r) (set ah 0 used) t th live (record { accepting = 1; rejecting = 0 })
    begun-accepting a ah t th h g q = record {
      accepting_are = take-set a 0 r h ∙ sym (first-is true true q);
      rejecting_are = sym (first-is false true q);
      accepting_hued = hued-more (none-hued a ah) used r h g (sym eu);
      rejecting_hued = none-hued t th;
      live_are = root_live;
    }

    pub begun-rejecting : (a ah t th : List ℕ) → 0 < length t → 0 < length th → in_family p used ≡ false → Listed p by r 0 a ah (set t 0 r) (set th 0 used) live (record { accepting = 0; rejecting = 1 })
    begun-rejecting a ah t th h g q = record {
      accepting_are = sym (first-is true false q);
      rejecting_are = take-set t 0 r h ∙ sym (first-is false false q);
      accepting_hued = none-hued a ah;
      rejecting_hued = hued-more (none-hued t th) used r h g (sym eu);
      live_are = root_live;
    }

-- ---- room
pub room-some : (x y : ℕ) (k : Counts) → k.accepting ≤ x → k.rejecting ≤ y → lacks_room x y k ≡ false → (k.accepting + 16 ≤ x) × (k.rejecting + 16 ≤ y)
unfolding lacks_room
room-some x y k a b f =
    (omega (arith, lt-false (x - k.accepting) 16 (or-none (ltb (x - k.accepting) 16) (ltb (y - k.rejecting) 16) f)), omega (arith, lt-false (y - k.rejecting) 16 (or-rest (ltb (x - k.accepting) 16) (ltb (y - k.rejecting) 16) f)))

-- ---- the end
module _ {p : Policy} {by : List ℕ} {r n : ℕ} {a ah t th live : List ℕ} {k : Counts} (s : Listed p by r n a ah t th live k) where
  pub outcome-whole : n ≡ colours_of p r → Outcome p r a t true k
  unfolding candidates
  outcome-whole e = record {
    accepting_long = s.accepting_hued.long;
    rejecting_long = s.rejecting_hued.long;
    accepting_are = λ _. s.accepting_are ∙ ap (λ (i : ℕ). candidates_to p r i true) e;
    rejecting_are = λ _. s.rejecting_are ∙ ap (λ (i : ℕ). candidates_to p r i false) e;
    enough = λ _ _. refl;
  }

  pub counts_are : (k.accepting ≡ length (candidates_to p r n true)) × (k.rejecting ≡ length (candidates_to p r n false))
  counts_are = (
    sym (length-take-le k.accepting a s.accepting_hued.long) ∙ ap length s.accepting_are,
    sym (length-take-le k.rejecting t s.rejecting_hued.long) ∙ ap length s.rejecting_are,
  )

  -- with places enough there is room
  pub outcome-part : legal p ≡ true → Memᴰ r (roots p) → n < colours_of p r → lacks_room (length a) (length t) k ≡ true → Outcome p r a t false k
  unfolding lacks_room
  outcome-part lawful root h lacks = record {
    accepting_long = s.accepting_hued.long;
    rejecting_long = s.rejecting_hued.long;
    accepting_are = λ w. absurd (false≢true w);
    rejecting_are = λ w. absurd (false≢true w);
    enough = λ u v. absurd (go u v (or_cases (ltb (length a - k.accepting) 16) (ltb (length t - k.rejecting) 16) lacks));
  }
    where
      go : 4096 ≤ length a → 4096 ≤ length t → (ltb (length a - k.accepting) 16 ≡ true) ⊎ (ltb (length t - k.rejecting) 16 ≡ true) → ⊥
      go u v (inl e) = omega (arith, lt-true (length a - k.accepting) 16 e, counts_are.0, listing-few p lawful r root n h)
      go u v (inr e) = omega (arith, lt-true (length t - k.rejecting) 16 e, counts_are.1, listing-few p lawful r root n h)
