-- What is held is looked through until nothing has to be let go. Assumes nothing.
use Prim.Native.Nat.{ℕ, suc, ◌+◌, ◌-◌, ◌≤◌, ◌<◌}
use native.Mathlib.Omega.{arith}
use native.Mathlib.Decide.{ℕ_discrete}
use mathlib.Core.Path.{◌≡◌, sym, ap, ◌∙◌, subst}
use mathlib.Core.Logic.{◌⊎◌, inl, inr}
use mathlib.Core.Bool.{Bool, true, false, cond, true≢false}
use mathlib.Core.List.{List}
use lib.Dec.{ltb}
use lib.ListN.{length, get_or, set, length-set}
use lib.Seq.{get_or-set_same, get_or-set_other}
use Rattle.lists.proofs.Bools.{test, lt-true}
use Rattle.orders.specs.Orders.{Among, Rearranged, Kept}
use Rattle.orders.proofs.Orders.{Parted, parted-more, front-more, others-more}
use Rattle.holding.specs.declared.Hold.{Hold}
use Rattle.holding.specs.Holding.{Firm}

-- ---- one state
-- a mark that is set if it is wanted
pub record SetIf (wanted : Bool) (s b : ℕ) (m m' : List ℕ) : Type 0 where
  pub yes : wanted ≡ true → m' ≡ set m s b
  pub no : wanted ≡ false → m' ≡ m

pub set-yes : (b : Bool) (s x : ℕ) (m m' : List ℕ) → b ≡ true → m' ≡ set m s x → SetIf b s x m m'
set-yes b s x m m' t e = record { yes = λ _. e; no = λ f. absurd (true≢false (sym t ∙ f)) }

pub set-no : (b : Bool) (s x : ℕ) (m m' : List ℕ) → b ≡ false → m' ≡ m → SetIf b s x m m'
set-no b s x m m' f e = record { yes = λ t. absurd (true≢false (sym t ∙ f)); no = λ _. e }

-- ---- a sweep
module _ (owners sources targets priorities : List ℕ) (letters : ℕ) (k : Hold) where
  pub record Sifting (f n : ℕ) (o m c : List ℕ) (w i : ℕ) (o' m' : List ℕ) : Type 0 where
    pub from : f ≤ w
    pub parted : Parted n o o' w i
    pub first : (h : ℕ) → h < f → get_or o' h 0 ≡ get_or o h 0
    pub long : length m' ≡ length m
    pub each : (s : ℕ) → (get_or m' s 0 ≡ get_or m s 0) ⊎ Among o' w s
    pub live : ((h : ℕ) → h < f → get_or m (get_or o h 0) 0 ≡ 255) → (h : ℕ) → h < w → get_or m' (get_or o' h 0) 0 ≡ 255
    pub same : w ≡ f → (m' ≡ m) × ((h : ℕ) → f ≤ h → h < i → Firm owners sources targets priorities letters k m c (get_or o' h 0))

  module _ (f n : ℕ) (o m c : List ℕ) (w i : ℕ) (o' m' : List ℕ) (s : ℕ) (out : Bool) (m'' : List ℕ) (r : ℕ) (o'' : List ℕ) (x : Sifting f n o m c w i o' m') (lt : i < n) (at : s ≡ get_or o' i 0)
      (h : s < length m) (firm : out ≡ false → Firm owners sources targets priorities letters k m' c s) (b : SetIf out s 255 m' m'') (q : Kept out w i o' r o'') where
    long : (out ≡ true) ⊎ (out ≡ false) → length m'' ≡ length m
    long (inl t) = ap length (b.yes t) ∙ length-set m' s 255 ∙ x.long
    long (inr e) = ap length (b.no e) ∙ x.long

    -- the front stays in front
    in-front : (t : ℕ) → Among o' w t → Among o'' r t
    in-front t y = go (test out)
      where
        go : (out ≡ true) ⊎ (out ≡ false) → Among o'' r t
        go (inl e) =
            let z = q.yes e in
            (y.0, omega (arith, y.1, z.0), z.1.rest y.0 (λ u. absurd (omega (arith, y.1))) (λ u. absurd (omega (arith, y.1, x.parted.before))) ∙ y.2)
        go (inr e) = let z = q.no e in (y.0, omega (arith, y.1, z.0), ap (λ (l : List ℕ). get_or l y.0 0) z.1 ∙ y.2)

    each : (t : ℕ) → (get_or m'' t 0 ≡ get_or m t 0) ⊎ Among o'' r t
    each t = go (test out) (ℕ_discrete t s) (x.each t)
      where
        go : (out ≡ true) ⊎ (out ≡ false) → Dec (t ≡ s) → (get_or m' t 0 ≡ get_or m t 0) ⊎ Among o' w t → (get_or m'' t 0 ≡ get_or m t 0) ⊎ Among o'' r t
        go (inl e) (yes u) (inl y) = let z = q.yes e in inr (w, omega (arith, z.0), z.1.first ∙ sym at ∙ sym u)
        go (inl e) (yes u) (inr y) = inr (in-front t y)
        go (inl e) (no u) (inl y) = inl (ap (λ (l : List ℕ). get_or l t 0) (b.yes e) ∙ get_or-set_other m' s t 255 0 u ∙ y)
        go (inr e) d (inl y) = inl (ap (λ (l : List ℕ). get_or l t 0) (b.no e) ∙ y)
        go (inl e) (no u) (inr y) = inr (in-front t y)
        go (inr e) d (inr y) = inr (in-front t y)

    -- a live state stays live
    still : (t : ℕ) → get_or m' t 0 ≡ 255 → get_or m'' t 0 ≡ 255
    still t e = go (test out) (ℕ_discrete t s)
      where
        go : (out ≡ true) ⊎ (out ≡ false) → Dec (t ≡ s) → get_or m'' t 0 ≡ 255
        go (inl y) (yes u) = ap (λ (l : List ℕ). get_or l t 0) (b.yes y) ∙ ap (λ (z : ℕ). get_or (set m' s 255) z 0) u ∙ get_or-set_same m' s 255 0 (omega (arith, x.long))
        go (inl y) (no u) = ap (λ (l : List ℕ). get_or l t 0) (b.yes y) ∙ get_or-set_other m' s t 255 0 u ∙ e
        go (inr y) d = ap (λ (l : List ℕ). get_or l t 0) (b.no y) ∙ e

    now-live : out ≡ true → get_or m'' (get_or o' i 0) 0 ≡ 255
    now-live e = ap (λ (l : List ℕ). get_or l (get_or o' i 0) 0) (b.yes e) ∙ ap (λ (z : ℕ). get_or (set m' s 255) z 0) (sym at) ∙ get_or-set_same m' s 255 0 (omega (arith, x.long))

    stays : r ≡ f → out ≡ false
    stays e = go (test out)
      where
        go : (out ≡ true) ⊎ (out ≡ false) → out ≡ false
        go (inl t) = absurd (omega (arith, (q.yes t).0, x.from, e))
        go (inr z) = z

    same : r ≡ f → (m'' ≡ m) × ((h : ℕ) → f ≤ h → h < i + 1 → Firm owners sources targets priorities letters k m c (get_or o'' h 0))
    same e = (b.no (stays e) ∙ y.0, all)
      where
        level : w ≡ f
        level = omega (arith, (q.no (stays e)).0)

        y : (m' ≡ m) × ((h : ℕ) → f ≤ h → h < i → Firm owners sources targets priorities letters k m c (get_or o' h 0))
        y = x.same level

        here : Firm owners sources targets priorities letters k m c (get_or o' i 0)
        here = subst (λ (t : ℕ). Firm owners sources targets priorities letters k m c t) at (subst (λ (l : List ℕ). Firm owners sources targets priorities letters k l c s) y.0 (firm (stays e)))

        all : (h : ℕ) → f ≤ h → h < i + 1 → Firm owners sources targets priorities letters k m c (get_or o'' h 0)
        all h a l = others-more n o o' o'' w i r out x.parted lt q (Firm owners sources targets priorities letters k m c) (λ _. here) (λ g u v. y.1 g (omega (arith, level)) v) h (omega (arith, e)) l

    pub sifting-more : Sifting f n o m c r (i + 1) o'' m''
    sifting-more = record {
      from = from (test out);
      parted = parted-more n o o' o'' w i r out x.parted lt q;
      first = λ h l. first h l (test out);
      long = long (test out);
      each = each;
      live = λ old. front-more n o o' o'' w i r out x.parted lt q (λ t. get_or m'' t 0 ≡ 255) now-live (λ h l. still (get_or o' h 0) (x.live old h l));
      same = same;
    }
      where
        from : (out ≡ true) ⊎ (out ≡ false) → f ≤ r
        from (inl t) = omega (arith, (q.yes t).0, x.from)
        from (inr e) = omega (arith, (q.no e).0, x.from)

        first : (h : ℕ) → h < f → (out ≡ true) ⊎ (out ≡ false) → get_or o'' h 0 ≡ get_or o h 0
        first h l (inl t) = (q.yes t).1.rest h (λ u. absurd (omega (arith, x.from))) (λ u. absurd (omega (arith, x.from, x.parted.before))) ∙ x.first h l
        first h l (inr e) = ap (λ (z : List ℕ). get_or z h 0) (q.no e).1 ∙ x.first h l

  -- ---- sweeps until one changes nothing
  pub record Releasing (n : ℕ) (o₀ m₀ c : List ℕ) (f : ℕ) (o m : List ℕ) (again : Bool) : Type 0 where
    pub few : f ≤ n
    pub moved : Rearranged n o₀ o
    pub long : length m ≡ length m₀
    pub each : (s : ℕ) → (get_or m s 0 ≡ get_or m₀ s 0) ⊎ Among o f s
    pub live : (i : ℕ) → i < f → get_or m (get_or o i 0) 0 ≡ 255
    pub done : again ≡ false → (i : ℕ) → f ≤ i → i < n → Firm owners sources targets priorities letters k m c (get_or o i 0)

-- how many sweeps there may still be
unfoldable pub sifts_left : ℕ → ℕ → Bool → ℕ
sifts_left n f again = cond again (suc (n - f)) 0

pub sifts-fewer : (n f r : ℕ) (b : Bool) → b ≡ true → f ≤ r → r ≤ n → sifts_left n r (ltb f r) < sifts_left n f b
unfolding sifts_left
sifts-fewer n f r b t le few = go (test (ltb f r))
  where
    go : (ltb f r ≡ true) ⊎ (ltb f r ≡ false) → cond (ltb f r) (suc (n - r)) 0 < cond b (suc (n - f)) 0
    go (inl e) = rw (e, t) (omega (arith, lt-true f r e))
    go (inr e) = rw (e, t) (omega arith)
