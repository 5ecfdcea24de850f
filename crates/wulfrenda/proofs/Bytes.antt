-- What translating says of a reading: after a refusal it would be question 7 that is answered no, the counts would be 0 and the tables as they were. Assumes nothing.
use Prim.Native.Nat.{ℕ}
use mathlib.Core.Path.{◌≡◌, refl}
use mathlib.Core.Bool.{false}
use mathlib.Core.List.{List, [], ◌∷◌}
use Rattle.policy.specs.declared.Policy.{Policy}
use Rattle.policy.specs.Policies.{legal}
use Rattle.builder.specs.Tables.{Hold, counts_of, translation_of, tables_after, tables}

module _ (p : Policy) (m q r s l t k : List ℕ) where
  pub illegal-counts : legal p ≡ false → 0 ∷ 0 ∷ 0 ∷ [] ≡ counts_of (translation_of p (tables m q r s l t k))
  unfolding translation_of
  illegal-counts f = rw f refl

  pub illegal-tables : legal p ≡ false → Hold (tables_after p (tables m q r s l t k)) m q r s l t k
  unfolding tables_after
  illegal-tables f = rw f (record {
    masks_are = refl;
    parents_are = refl;
    node_priorities_are = refl;
    sources_are = refl;
    leaves_are = refl;
    targets_are = refl;
    priorities_are = refl;
  })
