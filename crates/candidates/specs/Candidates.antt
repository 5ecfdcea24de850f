-- Where the nodes of a tree are looked for: two lists of cycles inside the root, one for each verdict, that hold the root and the children of each of their members.
use Rattle.std.specs.Prelude.{ℕ, zero, suc, ◌+◌, ◌-◌, ◌<◌, ◌≤◌, ◌≡◌, Bool, true, false, not, ◌&&◌, ◌||◌, cond, eqb, ltb, length, get_or}
use mathlib.Core.List.{List, [], ◌∷◌, ◌++◌, map, Memᴰ}
use Rattle.std.specs.Int.Bits.{bit_and}
use Rattle.lists.specs.Lists.{any, filter, below, Distinct}
use Rattle.lists.specs.Bools.{differs}
use Rattle.masks.specs.Masks.{inside, properly}
use Rattle.policy.specs.declared.Policy.{Policy}
use Rattle.policy.specs.Policies.{colours_of, in_family, accepting, legal, full}
use Rattle.policy.specs.ByColour.{edges_in}
use Rattle.graph.specs.Cycles.{is_cycle}
use Rattle.components.specs.Components.{largest_in}
use Rattle.forest.specs.Forest.{in_order, largest, children}

-- ---- what is worth a search
-- k has all of e, and lies inside y
unfoldable pub covers : ℕ → ℕ → ℕ → Bool
covers e y k = inside e k && inside k y

-- a cycle inside m with exactly the colours c may be a child of y, whose colours are h: y has them all and an edge of m, and what it has of m lies in no listed cycle
-- inside y. `same` are the listed cycles with the verdict of c
unfoldable pub may_hold : ℕ → ℕ → List ℕ → ℕ → ℕ → Bool
may_hold c m same h y = inside c h && not (eqb (bit_and m y) 0) && not (any (covers (bit_and m y) y) same)

-- lists of so many cycles are long: a look at them costs more than it saves
unfoldable pub are_long : ℕ → ℕ → Bool
are_long a b = (ltb 16 a && ltb 16 b) || ltb 64 a || ltb 64 b

-- the same of some listed cycle of the other verdict. Where the lists are long the answer is yes
unfoldable pub wanted : ℕ → ℕ → List ℕ → List ℕ → List ℕ → Bool
wanted c m other hues same = are_long (length other) (length same) || any (λ i. may_hold c m same (get_or hues i 0) (get_or other i 0)) (below (length other))

-- some listed cycle of the other verdict has all the colours c: `hues` are their colours, and there are `same` of the verdict of c. Nothing is wanted where the answer is no
unfoldable pub is_open : ℕ → List ℕ → ℕ → Bool
is_open c hues same = are_long (length hues) same || any (inside c) hues

-- ---- wanted cycles after a list; `hue` gives the colours of an edge set
module _ (hue : ℕ → ℕ) where
  unfoldable pub is_wanted : ℕ → ℕ → List ℕ → List ℕ → Bool
  is_wanted c m other same = wanted c m other (map hue other) same

  -- a list, and x after it where its colours are exactly c and it is wanted
  unfoldable pub with_cycle : ℕ → List ℕ → List ℕ → ℕ → List ℕ
  with_cycle c other same x = cond (eqb (hue x) c && is_wanted c x other same) (same ++ (x ∷ [])) same

  unfoldable pub with_cycles : ℕ → List ℕ → List ℕ → List ℕ → List ℕ
  with_cycles c other same [] = same
  with_cycles c other same (x ∷ xs) = with_cycles c other (with_cycle c other same x) xs

-- ---- the candidates of a root
module _ (p : Policy) where
  -- a list of the verdict of c, and after it the wanted cycles inside the root r with exactly the colours c
  unfoldable pub with_set : ℕ → ℕ → List ℕ → List ℕ → List ℕ
  with_set r c other same = with_cycles (colours_of p) c other same (largest_in p (bit_and (edges_in p c) r))

  -- the list of verdict b, after the first n sets below the colours of the root r, by falling mask: r itself, and the wanted cycles of each set of its colours
  unfoldable pub candidates_to : ℕ → ℕ → Bool → List ℕ
  candidates_to r zero b = cond (differs b (accepting p r)) [] (r ∷ [])
  candidates_to r (suc n) b =
      let c = colours_of p r - 1 - n in
      let same = candidates_to r n b in
      cond (inside c (colours_of p r) && not (differs b (in_family p c))) (with_set r c (candidates_to r n (not b)) same) same

  unfoldable pub candidates : ℕ → Bool → List ℕ
  candidates r b = candidates_to r (colours_of p r) b

  -- of the root r: the edges l lie inside it, and have every cycle inside it whose colours are in c
  pub record Live (r c l : ℕ) : Type 0 where
    pub within : inside l r ≡ true
    pub cycles : (x : ℕ) → is_cycle p x ≡ true → inside x r ≡ true → inside (colours_of p x) c ≡ true → inside x l ≡ true

  -- the candidates for a root: the largest cycles of all
  unfoldable pub root_candidates : List ℕ
  root_candidates = largest_in p (full p)

-- ---- the children of a node on a list
-- the largest of l properly inside n, in sibling order
unfoldable pub children_in : List ℕ → ℕ → List ℕ
children_in l n = in_order (largest (filter (λ m. properly m n) l))

-- the order that a search for them goes by: no member stands before one that it lies properly inside
abbrev pub LargerFirst : List ℕ → Type 0
LargerFirst l = (i j : ℕ) → i < j → j < length l → properly (get_or l i 0) (get_or l j 0) ≡ false

-- what a search for nodes goes by: lists of accepting and of rejecting cycles of a legal policy, by the verdict v, each once and larger ones first, with the children of
-- each of their members
pub record Candidates (p : Policy) (a r : List ℕ) : Type 0 where
  pub lawful : legal p ≡ true
  pub are : (v : Bool) (x : ℕ) → Memᴰ x (cond v a r) → (is_cycle p x ≡ true) × (accepting p x ≡ v)
  pub ordered : (v : Bool) → Distinct (cond v a r) × LargerFirst (cond v a r)
  pub closed : (v : Bool) (x c : ℕ) → Memᴰ x (cond v a r) → Memᴰ c (children p x) → Memᴰ c (cond v r a)
  pub few : length a + length r ≤ 4096
