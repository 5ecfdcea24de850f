-- The greatest entry of a part of a table: as it is looked for, and as the table is written. Assumes nothing.
use Prim.Native.Nat.{ℕ, ◌+◌, ◌-◌, ◌≤◌, ◌<◌, max}
use native.Mathlib.Omega.{arith}
use mathlib.Core.Path.{◌≡◌, sym, ap, ap₂, ◌∙◌}
use mathlib.Core.List.{List}
use lib.ListN.{length, get_or, drop, set, length-set, length-drop}
use lib.Seq.{get_or-take, get_or-drop, get_or-set_same, get_or-set_other, ext_get_or}
use Rattle.lists.specs.Lists.{greatest}
use Rattle.lists.proofs.Extremes.{greatest-more}
use Rattle.tables.specs.Copies.{part}
use Rattle.tables.proofs.Copies.{length_part}

pub part_none : (t : List ℕ) (from : ℕ) → 0 ≡ greatest (part (from - from) from t)
unfolding greatest
part_none t from = let z : 0 ≡ from - from = omega arith in ap (λ (k : ℕ). greatest (part k from t)) z

pub part-more : (t : List ℕ) (from n : ℕ) → from ≤ n → n < length t → greatest (part (n + 1 - from) from t) ≡ max (greatest (part (n - from) from t)) (get_or t n 0)
part-more t from n h l =
    let e : n + 1 - from ≡ (n - from) + 1 = omega (arith, h) in
    let i : from + (n - from) ≡ n = omega (arith, h) in
    ap (λ (k : ℕ). greatest (part k from t)) e ∙ greatest-more (drop from t) (n - from) (omega (arith, length-drop from t, h)) ∙ ap (max (greatest (part (n - from) from t))) (get_or-drop from t (n - from) 0 ∙ ap (λ (j : ℕ). get_or t j 0) i)

-- what stands before place n does not change with it
part-before : (t : List ℕ) (from n x : ℕ) → from ≤ n → n < length t → part (n - from) from (set t n x) ≡ part (n - from) from t
part-before t from n x h l =
    ext_get_or 0 (part (n - from) from (set t n x)) (part (n - from) from t) (long (set t n x) (omega (arith, length-set t n x)) ∙ sym (long t l))
    (λ i q. let k : i < n - from = omega (arith, q, long (set t n x) (omega (arith, length-set t n x))) in at (set t n x) i k ∙ get_or-set_other t n (from + i) x 0 (λ z. absurd (omega (arith, z, k))) ∙ sym (at t i k))
  where
    long : (u : List ℕ) → n < length u → length (part (n - from) from u) ≡ n - from
    long u l = length_part (n - from) from u (omega (arith, h))

    at : (u : List ℕ) (i : ℕ) → i < n - from → get_or (part (n - from) from u) i 0 ≡ get_or u (from + i) 0
    at u i k = get_or-take (n - from) (drop from u) i 0 k ∙ get_or-drop from u i 0

-- a tree grows by a node
pub tree-more : (t : List ℕ) (from n x : ℕ) → from ≤ n → n < length t → greatest (part (n + 1 - from) from (set t n x)) ≡ max (greatest (part (n - from) from t)) x
tree-more t from n x h l =
    part-more (set t n x) from n h (omega (arith, length-set t n x)) ∙ ap₂ max (ap greatest (part-before t from n x h l)) (get_or-set_same t n x 0 l)

-- or begins
pub tree-first : (t : List ℕ) (n x : ℕ) → n < length t → greatest (part (n + 1 - n) n (set t n x)) ≡ x
tree-first t n x l = tree-more t n n x (omega arith) l ∙ omega (arith, part_none t n)
