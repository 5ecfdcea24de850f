-- The tree of a root, grown with the records cleared. Assumes nothing.
use Prim.Native.Nat.{ℕ, ◌+◌, ◌*◌, ◌≤◌, ◌<◌, min, max}
use native.Mathlib.Omega.{arith}
use native.Mathlib.Nat.{mul-le-mul_right}
use mathlib.Core.Path.{◌≡◌, ap, ◌∙◌}
use mathlib.Core.Bool.{Bool}
use mathlib.Core.List.{List, ◌++◌}
use lib.ListN.{length, get_or, take, drop, length-append, length-replicate, get_or-append, take-append-drop}
use lib.Seq.{length-take-le}
use Rattle.lists.proofs.Lists.{replicate-at}
use Rattle.tables.specs.Tables.{places, zeros}
use Rattle.policy.specs.declared.Policy.{Policy}
use Rattle.forest.proofs.Levels.{levels-most}
use Rattle.trees.specs.Growing.{TreeToWrite, TreeWritten, RootToWrite, RootWritten}

-- the first places cleared, and the others behind them
pub cleared-front : (scratch t : List ℕ) (free : ℕ) → free ≤ length scratch → t ≡ zeros (take free scratch) → (length (t ++ drop free scratch) ≡ length scratch) × ((i : ℕ) → i < free → get_or (t ++ drop free scratch) i 0 ≡ 0)
unfolding zeros
cleared-front scratch t free h e =
    let l : length t ≡ free = ap length e ∙ length-replicate {A = ℕ} (length (take free scratch)) 0 ∙ length-take-le free scratch h in (
      omega (arith, length-append t (drop free scratch), ap length (take-append-drop free scratch), length-append (take free scratch) (drop free scratch), length-take-le free scratch h),
      λ i b. get_or-append t (drop free scratch) 0 i (omega arith) ∙ ap (λ (s : List ℕ). get_or s i 0) e ∙ replicate-at (length (take free scratch)) i 0,
    )

-- no tree is recorded in the first places of the scratch
pub root-to-write : {p : Policy} {a r : List ℕ} {m : ℕ} {verdict : Bool} {n places free : ℕ} {masks parents scratch₀ scratch : List ℕ} → RootToWrite p a r m verdict n masks parents scratch₀
    → places ≡ min (length masks) 65535 → free ≡ 2 * (length a + length r) → length scratch ≡ length scratch₀ → ((i : ℕ) → i < free → get_or scratch i 0 ≡ 0)
    → TreeToWrite p a r m verdict places n masks parents scratch free
unfolding Rattle.tables.specs.Tables.places
root-to-write {p} {a} {r} {m} w ep ef l none = record {
  lists = w.lists;
  tables = record {
    few = omega arith;
    at_most = omega (arith, w.at_most);
    masks_long = omega arith;
    parents_long = omega (arith, w.one_length);
    recorded = record {
      size_is = λ i b z. absurd (z (none (2 * i + 1) (omega (arith, length-append a r))));
      stands = λ i b z. absurd (z (none (2 * i + 1) (omega (arith, length-append a r))));
    };
  };
  root = record {
    candidate = w.candidate;
    past_records = omega (arith, length-append a r);
    room = omega (arith, length-append a r, w.room, mul-le-mul_right (max (length a) (length r)) (levels-most p w.lists.lawful m));
  };
}

pub root-written : {p : Policy} {list : List ℕ} {n next m k : ℕ} {masks₀ parents₀ masks parents scratch : List ℕ} → k ≡ min (length masks₀) 65535 → TreeWritten p list k m 65535 n next masks₀ parents₀ masks parents scratch
    → RootWritten p m n next masks₀ parents₀ masks parents
unfolding places
root-written e w = record {
  next_is = omega (arith, w.next_is);
  masks_are = λ l. w.masks_are (omega arith);
  parents_are = λ l. w.parents_are (omega arith);
  recorded = λ _. record { size_is = λ i b z. absurd (omega arith); stands = λ i b z. absurd (omega arith) };
}
