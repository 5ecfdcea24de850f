-- Larger ones first: a full cycle that lies properly inside another has fewer colours, so its colours are the lesser mask, and masks of colours fall along a list of
-- candidates. Assumes nothing.
use Prim.Native.Nat.{ℕ, zero, suc, ◌≤◌, ◌<◌}
use native.Mathlib.Omega.{arith}
use native.Mathlib.Decide.{ℕ_discrete}
use mathlib.Core.Path.{◌≡◌, refl, sym, subst}
use mathlib.Core.Logic.{◌⊎◌, inl, inr}
use mathlib.Core.Bool.{true, false}
use mathlib.Core.List.Memᴰ
use mathlib.Core.List.{List, [], ◌∷◌, ◌++◌, Memᴰ}
use lib.ListN.{length, get_or}
use Rattle.lists.proofs.Bools.{test}
use Rattle.lists.proofs.Lists.{get_or-mem}
use Rattle.masks.specs.Masks.{inside, properly}
use Rattle.masks.proofs.Bits.{inside-refl, inside-le, properly-lt, properly-inside}
use Rattle.policy.specs.declared.Policy.{Policy}
use Rattle.policy.specs.Policies.{colours_of, legal}
use Rattle.policy.proofs.Laws.{colours-up}
use Rattle.graph.proofs.Cycles.{contains-inside}
use Rattle.candidates.specs.Candidates.{LargerFirst}
use Rattle.candidates.proofs.Full.{Full, full-cycle, full-state, full-largest}

-- ---- lists along which a number never rises
module _ (f : ℕ → ℕ) where
  abbrev pub Falling : List ℕ → Type 0
  Falling [] = Unit {0}
  Falling (x ∷ xs) = ((y : ℕ) → Memᴰ y xs → f y ≤ f x) × Falling xs

  pub falling-append : (l r : List ℕ) → Falling l → Falling r → ((x y : ℕ) → Memᴰ x l → Memᴰ y r → f y ≤ f x) → Falling (l ++ r)
  falling-append [] r a b h = b
  falling-append (x ∷ l) r a b h = (λ y m. go y (Memᴰ.append_cases l m), falling-append l r a.1 b (λ y z m n. h y z (Memᴰ.tail m) n))
    where
      go : (y : ℕ) → Memᴰ y l ⊎ Memᴰ y r → f y ≤ f x
      go y (inl m) = a.0 y m
      go y (inr m) = h x y (Memᴰ.head refl) m

  falling-at : (l : List ℕ) → Falling l → (i j : ℕ) → i < j → j < length l → f (get_or l j 0) ≤ f (get_or l i 0)
  falling-at [] d i j l h = absurd (omega arith)
  falling-at (x ∷ xs) d i zero l h = absurd (omega arith)
  falling-at (x ∷ xs) d zero (suc j) l h = d.0 (get_or xs j 0) (get_or-mem xs j 0 (omega arith))
  falling-at (x ∷ xs) d (suc i) (suc j) l h = falling-at xs d.1 i j (omega arith) (omega arith)

module _ (p : Policy) (lawful : legal p ≡ true) where
  -- of two full cycles, the one properly inside the other has the lesser mask of colours
  pub lesser-colours : (x y : ℕ) → Full p x → Full p y → properly x y ≡ true → colours_of p x < colours_of p y
  lesser-colours x y f g t = go (ℕ_discrete (colours_of p x) (colours_of p y))
    where
      i : inside x y ≡ true
      i = properly-inside x y t

      up : inside (colours_of p x) (colours_of p y) ≡ true
      up = colours-up p x y i

      on : (e : colours_of p x ≡ colours_of p y) → inside y x ≡ true
      on e =
          full-largest p lawful x f y f.state (full-cycle p lawful y g) (subst (λ (c : ℕ). inside (colours_of p y) c ≡ true) (sym e) (inside-refl (colours_of p y)))
          (full-state p lawful x f) (contains-inside p f.state x y i (full-state p lawful x f))

      go : Dec (colours_of p x ≡ colours_of p y) → colours_of p x < colours_of p y
      go (yes e) = absurd (omega (arith, properly-lt x y t, inside-le y x (on e)))
      go (no n) = omega (arith, inside-le (colours_of p x) (colours_of p y) up)

  pub larger-first : (l : List ℕ) → ((x : ℕ) → Memᴰ x l → Full p x) → Falling (colours_of p) l → LargerFirst l
  larger-first l full fall i j lt h = go (test (properly x y))
    where
      x : ℕ
      x = get_or l i 0

      y : ℕ
      y = get_or l j 0

      go : (properly x y ≡ true) ⊎ (properly x y ≡ false) → properly x y ≡ false
      go (inl t) =
          absurd (omega (arith, falling-at (colours_of p) l fall i j lt h, lesser-colours x y (full x (get_or-mem l i 0 (omega arith))) (full y (get_or-mem l j 0 h)) t))
      go (inr f) = f
