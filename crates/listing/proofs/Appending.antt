-- One cycle after a list, and some in turn. Assumes nothing.
use Prim.Native.Nat.{ℕ, zero, suc, ◌+◌, ◌≤◌, ◌<◌}
use native.Mathlib.Omega.{arith}
use native.Mathlib.Decide.{ℕ_discrete}
use native.Mathlib.Numerals.{add-one}
use mathlib.Core.Path.{◌≡◌, refl, sym, ap, ap₂, ◌∙◌, subst, fun_ext}
use mathlib.Core.Logic.{◌⊎◌, inl, inr, ◌≢◌}
use mathlib.Core.Bool.{Bool, true, false, ◌&&◌, cond, false≢true}
use mathlib.Core.List.{List, [], ◌∷◌, ◌++◌, map, Memᴰ}
use lib.Bits.{bit_and, bit_or}
use lib.Dec.{eqb}
use lib.ListN.{length, get_or, take, drop, set, length-set, get_or-append, take-append-drop}
use lib.Seq.{length-take-le, take-suc, take-set-le, take_all, get_or-set_same}
use Rattle.lists.proofs.Bools.{≡eqb, neqb, or_cases, or_left, or_right}
use Rattle.lists.proofs.Lists.{get_or-mem, mem-at}
use Rattle.masks.specs.Masks.{has, inside}
use Rattle.masks.proofs.Bits.{has-or, has-none, inside-all, all-inside, inside-refl, inside-trans, and-inside}
use Rattle.policy.specs.declared.Policy.{Policy}
use Rattle.policy.specs.Policies.{colours_of, legal}
use Rattle.policy.specs.ByColour.{edges_in, table_edges, table_colours}
use Rattle.policy.proofs.ByColour.{table-edges-are, table-colours-are}
use Rattle.policy.proofs.Laws.{legal-counts}
use Rattle.graph.specs.Cycles.{is_cycle}
use Rattle.graph.specs.declared.Graph.{Graph}
use Rattle.graph.proofs.CodeLaws.{own_graph}
use Rattle.components.specs.Components.{largest_in}
use Rattle.components.specs.Finding.{Found}
use Rattle.components.proofs.Finding.{found_first}
use Rattle.candidates.specs.Candidates.{wanted, is_open, is_wanted, with_cycle, with_cycles, with_set, Live}
use Rattle.candidates.proofs.Live.{and_none, none-listed, unwanted-none, closed_none, largest-within, largest-cycle, in-largest, live-exact}
use Rattle.listing.specs.Listing.{Hued, PartsOf, union_to, OnCycles}

-- the parts of a graph
pub parts_of : (g : Graph) → PartsOf g.policy.now g.policy.now.states g.policy.now.letters g.policy.now.target g.out g.into g.by
parts_of g = record { graph = own_graph g.policy.now g.lawful; ends = g.ends; by_is = g.by_is }

-- ---- a list with one more
pub take-set : (t : List ℕ) (n x : ℕ) → n < length t → take (n + 1) (set t n x) ≡ take n t ++ (x ∷ [])
take-set t n x h =
    ap (λ (k : ℕ). take k (set t n x)) (add-one n) ∙ take-suc (set t n x) n 0 (omega (arith, length-set t n x))
    ∙ ap₂ (λ (l : List ℕ) (y : ℕ). l ++ (y ∷ [])) (take-set-le n t n x (omega arith)) (get_or-set_same t n x 0 h)

map_snoc : (f : ℕ → ℕ) (l : List ℕ) (x : ℕ) → map f (l ++ (x ∷ [])) ≡ map f l ++ (f x ∷ [])
map_snoc f [] x = refl
map_snoc f (y ∷ l) x = ap (λ (r : List ℕ). f y ∷ r) (map_snoc f l x)

module _ {hue : ℕ → ℕ} {same own : List ℕ} {n : ℕ} (s : Hued hue same own n) where
  pub hued-more : (c x : ℕ) → n < length same → n < length own → hue x ≡ c → Hued hue (set same n x) (set own n c) (n + 1)
  hued-more c x h g e = record {
    long = omega (arith, length-set same n x);
    hues_long = omega (arith, length-set own n c);
    hues_are = take-set own n c g ∙ ap₂ (λ (l : List ℕ) (k : ℕ). l ++ (k ∷ [])) s.hues_are (sym e) ∙ sym (map_snoc hue (take n same) x) ∙ ap (map hue) (sym (take-set same n x h));
  }

module _ (hue : ℕ → ℕ) (c : ℕ) (other hues : List ℕ) (are : hues ≡ map hue other) (same : List ℕ) (n x : ℕ) where
  pub other-colours : hue x ≢ c → take n same ≡ with_cycle hue c other (take n same) x
  unfolding with_cycle
  other-colours e = sym (ap (λ (b : Bool). cond (b && is_wanted hue c x other (take n same)) (take n same ++ (x ∷ [])) (take n same)) (neqb (hue x) c e))

  unwanted : (b : Bool) → b ≡ wanted c x other hues (take n same) → hue x ≡ c → with_cycle hue c other (take n same) x ≡ cond b (take n same ++ (x ∷ [])) (take n same)
  unfolding with_cycle is_wanted
  unwanted b q e =
      ap₂ (λ (a d : Bool). cond (a && d) (take n same ++ (x ∷ [])) (take n same)) (≡eqb (hue x) c e) (ap (λ (h : List ℕ). wanted c x other h (take n same)) (sym are) ∙ sym q)

  pub left_out : wanted c x other hues (take n same) ≡ false → hue x ≡ c → take n same ≡ with_cycle hue c other (take n same) x
  left_out w e = sym (unwanted false (sym w) e)

  pub appended : n < length same → wanted c x other hues (take n same) ≡ true → hue x ≡ c → take (n + 1) (set same n x) ≡ with_cycle hue c other (take n same) x
  appended h w e = take-set same n x h ∙ sym (unwanted true (sym w) e)

-- ---- one cycle after another
pub cycles-more : (hue : ℕ → ℕ) (c : ℕ) (other same xs : List ℕ) (x : ℕ) → with_cycle hue c other (with_cycles hue c other same xs) x ≡ with_cycles hue c other same (xs ++ (x ∷ []))
unfolding with_cycles
cycles-more hue c other same [] x = refl
cycles-more hue c other same (y ∷ xs) x = cycles-more hue c other (with_cycle hue c other same y) xs x

pub cycles-none : (hue : ℕ → ℕ) (c : ℕ) (other same xs : List ℕ) → same ≡ with_cycles hue c other same (take 0 xs)
unfolding with_cycles
cycles-none hue c other same xs = refl

pub cycles-next : (hue : ℕ → ℕ) (c : ℕ) (other same cycles : List ℕ) (i : ℕ) {l r : List ℕ} → i < length cycles → l ≡ with_cycles hue c other same (take i cycles)
    → r ≡ with_cycle hue c other l (get_or cycles i 0) → r ≡ with_cycles hue c other same (take (i + 1) cycles)
cycles-next hue c other same cycles i h e q =
    q ∙ ap (λ (l : List ℕ). with_cycle hue c other l (get_or cycles i 0)) e ∙ cycles-more hue c other same (take i cycles) (get_or cycles i 0)
    ∙ ap (with_cycles hue c other same) (sym (ap (λ (k : ℕ). take k cycles) (add-one i) ∙ take-suc cycles i 0 h))

-- ---- the wanted cycles of a colour set
module _ {p : Policy} {states letters : ℕ} {heads out into by : List ℕ} (s : PartsOf p states letters heads out into by) where
  -- by the table, the colours of an edge set are those in the policy
  pub hue-is : table_colours by ≡ colours_of p
  hue-is = ap table_colours s.by_is ∙ fun_ext (table-colours-are p s.graph.lawful)

  -- the edges of a colour set, by the table
  pub set-edges : (c : ℕ) → table_edges by c ≡ edges_in p c
  set-edges c = ap (λ (t : List ℕ). table_edges t c) s.by_is ∙ table-edges-are p s.graph.lawful c

  pub set-listed : (root c m : ℕ) (other same : List ℕ) → Live p root c m → inside m (edges_in p c) ≡ true → {t : List ℕ} → t ≡ with_cycles (table_colours by) c other same (largest_in p m) → t ≡ with_set p root c other same
  unfolding with_set
  set-listed root c m other same v em e = e ∙ ap (λ (f : ℕ → ℕ). with_cycles f c other same (largest_in p m)) hue-is ∙ live-exact p s.graph.lawful root c m v em other same

  -- nothing is listed where no cycle of the other verdict has the colours c
  pub set-closed : (root c k : ℕ) (other hues same : List ℕ) → hues ≡ map (table_colours by) other → length same ≡ k → is_open c hues k ≡ false → same ≡ with_set p root c other same
  unfolding with_set
  set-closed root c k other hues same are n f =
      sym (closed_none (colours_of p) c other same (largest_in p (bit_and (edges_in p c) root)) (ap₂ (is_open c) (sym (are ∙ ap (λ (h : ℕ → ℕ). map h other) hue-is)) n ∙ f))

  -- nor where none of its cycles is wanted
  pub set-unwanted : (root c : ℕ) (other same : List ℕ) → ((y : ℕ) → is_cycle p y ≡ true → inside y root ≡ true → colours_of p y ≡ c → is_wanted (colours_of p) c y other same ≡ false) → same ≡ with_set p root c other same
  unfolding with_set
  set-unwanted root c other same h = let m = bit_and (edges_in p c) root in sym (none-listed (colours_of p) c other same (largest_in p m) (λ y k. go y k (ℕ_discrete (colours_of p y) c)))
    where
      go : (y : ℕ) → Memᴰ y (largest_in p (bit_and (edges_in p c) root)) → Dec (colours_of p y ≡ c) → eqb (colours_of p y) c && is_wanted (colours_of p) c y other same ≡ false
      go y k (no e) = ap (λ (b : Bool). b && is_wanted (colours_of p) c y other same) (neqb (colours_of p y) c e)
      go y k (yes e) =
          let m = bit_and (edges_in p c) root in
          ap (λ (b : Bool). eqb (colours_of p y) c && b) (h y (largest-cycle p s.graph.lawful m y k) (inside-trans y m root (largest-within p s.graph.lawful m y k) (and-inside (edges_in p c) root)) e) ∙ and_none (eqb (colours_of p y) c)

  -- nor where the edge set is not wanted
  pub none-wanted : (c m : ℕ) (other hues same : List ℕ) → hues ≡ map (table_colours by) other → wanted c m other hues same ≡ false → same ≡ with_cycles (table_colours by) c other same (largest_in p m)
  unfolding is_wanted
  none-wanted c m other hues same are w =
      sym (unwanted-none (table_colours by) c other m same (largest_in p m) (ap (λ (h : List ℕ). wanted c m other h same) (sym are) ∙ w) (largest-within p s.graph.lawful m))

-- ---- the edges on the cycles found
module _ (l : List ℕ) where
  pub union-start : 0 ≡ union_to l 0
  unfolding union_to
  union-start = refl

  pub union-next : (n : ℕ) → bit_or (union_to l n) (get_or l n 0) ≡ union_to l (n + 1)
  unfolding union_to
  union-next n = sym (ap (union_to l) (add-one n))

  in-union : (n i : ℕ) → i < n → inside (get_or l i 0) (union_to l n) ≡ true
  unfolding union_to
  in-union zero i h = absurd (omega arith)
  in-union (suc n) i h = go (ℕ_discrete i n) (λ b. in-union n i b)
    where
      left : (a b : ℕ) → inside a (bit_or a b) ≡ true
      left a b = all-inside a (bit_or a b) (λ e q. has-or e a b ∙ or_left (has a e) (has b e) q)

      right : (a b : ℕ) → inside b (bit_or a b) ≡ true
      right a b = all-inside b (bit_or a b) (λ e w. has-or e a b ∙ or_right (has a e) (has b e) w)

      go : Dec (i ≡ n) → (i < n → inside (get_or l i 0) (union_to l n) ≡ true) → inside (get_or l i 0) (bit_or (union_to l n) (get_or l n 0)) ≡ true
      go (yes e) ih = subst (λ (k : ℕ). inside (get_or l k 0) (bit_or (union_to l n) (get_or l n 0)) ≡ true) (sym e) (right (union_to l n) (get_or l n 0))
      go (no e) ih = inside-trans (get_or l i 0) (union_to l n) (bit_or (union_to l n) (get_or l n 0)) (ih (omega arith)) (left (union_to l n) (get_or l n 0))

  union-in : (n m : ℕ) → ((i : ℕ) → i < n → inside (get_or l i 0) m ≡ true) → inside (union_to l n) m ≡ true
  unfolding union_to
  union-in zero m h = all-inside 0 m (λ e t. absurd (false≢true (sym (has-none e) ∙ t)))
  union-in (suc n) m h =
      let a = union-in n m (λ i b. h i (omega arith)) in
      all-inside (bit_or (union_to l n) (get_or l n 0)) m (λ e t. go e (or_cases (has (union_to l n) e) (has (get_or l n 0) e) (sym (has-or e (union_to l n) (get_or l n 0)) ∙ t)) a)
    where
      go : (e : ℕ) → (has (union_to l n) e ≡ true) ⊎ (has (get_or l n 0) e ≡ true) → inside (union_to l n) m ≡ true → has m e ≡ true
      go e (inl t) a = inside-all (union_to l n) m a e t
      go e (inr t) a = inside-all (get_or l n 0) m (h n (omega arith)) e t

pub union-on : (p : Policy) → legal p ≡ true → (m : ℕ) (t : List ℕ) (n e : ℕ) → n ≤ length t → take n t ≡ largest_in p m → e ≡ union_to t n → OnCycles p m e
union-on p lawful m t n e h q w = subst (OnCycles p m) (sym w) (record {
  within = union-in t n m (λ i b. largest-within p lawful m (get_or t i 0) (subst (Memᴰ (get_or t i 0)) q (subst (λ (x : ℕ). Memᴰ x (take n t)) (front i b) (get_or-mem (take n t) i 0 (omega (arith, length-take-le n t h))))));
  cycles = λ x cy i.
      let y = in-largest p lawful m x cy i in
      let at = mem-at (take n t) 0 y.0 (subst (Memᴰ y.0) (sym q) y.1) in
      let b : at.0 < n = omega (arith, at.1, length-take-le n t h) in
      let same : get_or t at.0 0 ≡ y.0 = sym (front at.0 b) ∙ at.2 in
      inside-trans x y.0 (union_to t n) y.2 (subst (λ (z : ℕ). inside z (union_to t n) ≡ true) same (in-union t n at.0 b));
})
  where
    front : (i : ℕ) → i < n → get_or (take n t) i 0 ≡ get_or t i 0
    front i b = sym (get_or-append (take n t) (drop n t) 0 i (omega (arith, length-take-le n t h))) ∙ ap (λ (l : List ℕ). get_or l i 0) (take-append-drop n t)

-- nothing was found to be off all cycles
pub all-on : (p : Policy) (m : ℕ) → OnCycles p m m
all-on p m = record { within = inside-refl m; cycles = λ x cy i. i }

-- ---- the cycles found inside m, as a list
module _ (p : Policy) (lawful : legal p ≡ true) (m : ℕ) {t₀ t : List ℕ} {n : ℕ} (f : Found p m t₀ t n) where
  pub found-few : n ≤ 16
  found-few = omega (arith, f.few, (legal-counts p lawful).states_few)

  -- so many are read
  pub found-length : length (take n t) ≡ n
  found-length = length-take-le n t (omega (arith, found-few, f.long))

  pub found-all : take (length (take n t)) (take n t) ≡ largest_in p m
  found-all = take_all (length (take n t)) (take n t) (omega arith) ∙ found_first p lawful f

  pub found-on : (e : ℕ) → e ≡ union_to (take n t) (length (take n t)) → OnCycles p m e
  found-on e w = union-on p lawful m (take n t) (length (take n t)) e (omega arith) found-all w
