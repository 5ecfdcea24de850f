-- Two more for accepting trees, where priorities begin at 1: the first n nodes have their priorities. Assumes nothing.
use Prim.Native.Nat.{ℕ, zero, suc, ◌+◌, ◌≤◌, ◌<◌}
use native.Mathlib.Omega.{arith}
use mathlib.Core.Path.{◌≡◌, refl, sym, ap, ◌∙◌}
use mathlib.Core.Logic.{◌⊎◌, inl, inr, ◌≢◌}
use mathlib.Core.Bool.{Bool, true, false, cond}
use mathlib.Core.List.{List}
use lib.ListN.{length, get_or, take, set}
use lib.Seq.{sets, length-take-le}
use Rattle.lists.proofs.Bools.{test}
use Rattle.tables.specs.Tables.{padded, Column}
use Rattle.tables.proofs.Tables.{get_or-padded}
use Rattle.tables.proofs.Columns.{copying-next, sets-past, sets_over}
use Rattle.tables.proofs.Copies.{Copying, copying-none, copying-long, copying-all}
use Rattle.policy.specs.declared.Policy.{Policy}
use Rattle.policy.specs.Policies.{legal}
use Rattle.forest.specs.Forest.{forest, node, from_zero, priority, node_parents, node_priorities_of}
use Rattle.forest.specs.Numbering.{plain_priority}
use Rattle.forest.proofs.Priorities.{plain-rejecting, plain-raised}
use Rattle.forest.proofs.Columns.{length-node-priorities, node-priorities-at}
use Rattle.decomposition.specs.FromZero.{plain_priorities}
use Rattle.decomposition.proofs.Plain.{plain-root, length-plain, plain_at, plain-small, is-root, parent_before, same-tree}

module _ (p : Policy) where
  -- what raising is called with
  abbrev pub Unraised : List ℕ → List ℕ → ℕ → Type 0
  Unraised parents t₀ count =
      ((legal p ≡ true) × (from_zero p ≡ false)) × (((count ≡ length (forest p)) × (count ≤ 65535) × Column (node_parents p) parents) × ((count ≤ length t₀) × (t₀ ≡ padded (length t₀) (plain_priorities p))))

  pub record Raised (t₀ t : List ℕ) (n more : ℕ) : Type 0 where
    pub is : Copying (node_priorities_of p) t₀ 0 t n
    pub more_is : (m : ℕ) → n ≡ suc m → more ≡ cond (node (forest p) m).accepted 2 0

  pub raised-none : (t : List ℕ) → Raised t t 0 0
  raised-none t = record { is = copying-none (node_priorities_of p) t 0; more_is = λ m q. absurd (omega (arith, q)) }

  module _ {parents t₀ : List ℕ} {count : ℕ} (u : Unraised parents t₀ count) {t : List ℕ} {n more : ℕ} (v : Raised t₀ t n more) where
    pub raised_long : (length t ≡ length t₀) × (n ≤ count)
    raised_long = (copying-long v.is, omega (arith, v.is.at_most, length-node-priorities p, u.1.0.0))

    pub raised_all : count ≤ n → t ≡ padded (length t₀) (node_priorities_of p)
    raised_all h =
        copying-all v.is (omega (arith, length-node-priorities p, u.1.0.0)) ∙ ap (λ (l : List ℕ). sets l 0 (node_priorities_of p)) u.1.1.1
        ∙ sets_over (length t₀) (plain_priorities p) (node_priorities_of p) (length-node-priorities p ∙ sym (length-plain p)) (omega (arith, length-plain p, u.1.0.0, u.1.1.0))

    module _ (l : n < count) where
      there : n < length (forest p)
      there = omega (arith, u.1.0.0)

      few : length (forest p) ≤ 65535
      few = omega (arith, u.1.0.0, u.1.0.1)

      -- the priority from 0 is still there
      unraised : get_or t n 0 ≡ plain_priority (node (forest p) n)
      unraised =
          let so = length-take-le n (node_priorities_of p) v.is.at_most in
          ap (λ (z : List ℕ). get_or z n 0) v.is.is ∙ sets-past t₀ (take n (node_priorities_of p)) (omega (arith, so, u.1.1.0)) n (omega (arith, so))
          ∙ ap (λ (z : List ℕ). get_or z n 0) u.1.1.1 ∙ get_or-padded (length t₀) (plain_priorities p) n (omega (arith, length-plain p, there)) ∙ plain_at p n there

      pub raised-small : get_or t n 0 < 100
      raised-small = omega (arith, unraised, plain-small p u.0.0 n there)

      raised-more : (x more' : ℕ) → more' ≡ cond (node (forest p) n).accepted 2 0 → x ≡ get_or t n 0 + more' → Raised t₀ (set t n x) (n + 1) more'
      raised-more x more' em e = record {
        is = copying-next v.is (omega (arith, length-node-priorities p, there)) x (priority-here (test (node (forest p) n).accepted) ∙ sym (node-priorities-at p n there));
        more_is = λ m q. let same : n ≡ m = omega (arith, q) in em ∙ ap (λ (i : ℕ). cond (node (forest p) i).accepted 2 0) same;
      }
        where
          priority-here : ((node (forest p) n).accepted ≡ true) ⊎ ((node (forest p) n).accepted ≡ false) → x ≡ priority p (node (forest p) n)
          priority-here (inl a) =
              let two : more' ≡ 2 = em ∙ ap (λ (b : Bool). cond b 2 0) a in
              omega (arith, e, unraised, two, plain-raised p u.0.1 (node (forest p) n) a)
          priority-here (inr r) =
              let none : more' ≡ 0 = em ∙ ap (λ (b : Bool). cond b 2 0) r in
              omega (arith, e, unraised, none, plain-rejecting p (node (forest p) n) r)

      -- a root has 0 exactly if it is accepting
      module _ (q : get_or parents n 0 ≡ 65535) where
        root_is : get_or t n 0 ≡ cond (node (forest p) n).accepted 0 1
        root_is = unraised ∙ plain-root (node (forest p) n) (is-root p u.0.0 few u.1.0.2 n there q)

        pub raised-accepting : {x more' : ℕ} → get_or t n 0 ≡ 0 → more' ≡ 2 → x ≡ get_or t n 0 + more' → Raised t₀ (set t n x) (n + 1) more'
        raised-accepting {x} {more'} z em e = raised-more x more' (go (test (node (forest p) n).accepted)) e
          where
            go : ((node (forest p) n).accepted ≡ true) ⊎ ((node (forest p) n).accepted ≡ false) → more' ≡ cond (node (forest p) n).accepted 2 0
            go (inl a) = rw a em
            go (inr r) = let one : get_or t n 0 ≡ 1 = root_is ∙ ap (λ (b : Bool). cond b 0 1) r in absurd (omega (arith, z, one))

        pub raised-rejecting : {x more' : ℕ} → get_or t n 0 ≢ 0 → more' ≡ 0 → x ≡ get_or t n 0 + more' → Raised t₀ (set t n x) (n + 1) more'
        raised-rejecting {x} {more'} z em e = raised-more x more' (go (test (node (forest p) n).accepted)) e
          where
            go : ((node (forest p) n).accepted ≡ true) ⊎ ((node (forest p) n).accepted ≡ false) → more' ≡ cond (node (forest p) n).accepted 2 0
            go (inl a) = absurd (z (root_is ∙ ap (λ (b : Bool). cond b 0 1) a))
            go (inr r) = rw r em

      -- a child goes on with its tree
      pub raised-child : {x more' : ℕ} → get_or parents n 0 ≢ 65535 → more' ≡ more → x ≡ get_or t n 0 + more' → Raised t₀ (set t n x) (n + 1) more'
      raised-child {x} {more'} q em e = go n refl (parent_before p u.0.0 few u.1.0.2 n there q)
        where
          go : (k : ℕ) → n ≡ k → get_or parents n 0 < k → Raised t₀ (set t n x) (n + 1) more'
          go zero d h = absurd (omega (arith, h))
          go (suc m) d h = raised-more x more' (em ∙ v.more_is m d ∙ ap (λ (b : Bool). cond b 2 0) (sym (same-tree p u.0.0 few u.1.0.2 n there q m d))) e
