-- The loop of a level: turns until nothing is live. Assumes nothing.
use Prim.Native.Nat.{ℕ, ◌+◌, ◌*◌, ◌≤◌, ◌<◌}
use native.Mathlib.Omega.{arith}
use mathlib.Core.Path.{◌≡◌, sym, ◌∙◌, subst}
use mathlib.Core.List.{List}
use lib.ListN.{length, get_or}
use Rattle.games.proofs.Regions.{Arena}
use Rattle.orders.specs.Orders.{Among, Lists, Rearranged}
use Rattle.orders.proofs.Orders.{same-order, order-of-order, wider-order, lists-moved, lists-same}
use Rattle.attracting.specs.declared.Task.{Task}
use Rattle.attracting.specs.Attracting.{Rows, table_game, from_of, Attracts, Waits}
use Rattle.levels.specs.Levels.{live, Headed, rows_task, SolvedAt, Turning, Turns}
use Rattle.levels.proofs.Marks.{mark-live, live-waits}
use Rattle.levels.proofs.Levels.{Level, level-start, level-end, turn-lt, low, next_level}
use Rattle.levels.proofs.Turning.{Turn, turn-head, turn-arena, Above}
use Rattle.levels.proofs.Turns.{turning, turned}

module _ (owners sources targets priorities : List ℕ) (letters states p : ℕ) (m₀ c₀ : List ℕ) (n₀ : ℕ) (o₀ : List ℕ) where
  -- what is live is the front of the order, and still to be solved
  pub record Going (left : ℕ) (o m c : List ℕ) : Type 0 where
    pub small : p ≤ 32
    pub level : Level owners sources targets priorities letters states p m₀ c₀ m c
    pub listed : Lists (live states m) left o
    pub moved : Rearranged n₀ o₀ o
    pub few : left ≤ n₀

  pub going_start : p ≤ 10 → Headed states p m₀ → Arena (table_game owners sources targets priorities letters states) p (live states m₀) → Lists (live states m₀) n₀ o₀ → Going n₀ o₀ m₀ c₀
  going_start h head arena listed =
      record { small = omega arith; level = level-start owners sources targets priorities letters states p m₀ c₀ head arena; listed = listed; moved = same-order n₀ o₀; few = omega arith }

  pub going_end : (left : ℕ) (o m c : List ℕ) → left ≤ 0 → Going left o m c → SolvedAt owners sources targets priorities letters states p m₀ c₀ m c × Rearranged n₀ o₀ o
  going_end left o m c h x =
      (level-end owners sources targets priorities letters states p m₀ c₀ m c x.level (λ s l e. none s (x.listed.all s (mark-live states m s l e))), x.moved)
    where
      none : (s : ℕ) → Among o left s → ⊥
      none s q = omega (arith, q.1)

  module _ (left : ℕ) (o m c : List ℕ) (x : Going left o m c) where
    -- a live state has a row of the level
    pub going-lt : 0 < left → ((s a : ℕ) → s < states → a < letters → get_or priorities (s * letters + a) 0 < 10) → p < 10
    going-lt h few = turn-lt owners sources targets priorities letters states p m₀ c₀ m c x.level 10 few (get_or o 0 0) (x.listed.each 0 h)

    module _ (k : Task) (rest : ℕ) (o₁ m₁ c₁ : List ℕ) (is : k ≡ rows_task p)
        (a : Attracts owners sources targets priorities letters states k m c m₁ c₁ × Waits owners sources targets priorities letters states k left o rest o₁ m₁) where
      attracts : Attracts owners sources targets priorities letters states (rows_task p) m c m₁ c₁
      attracts = subst (λ (z : Task). Attracts owners sources targets priorities letters states z m c m₁ c₁) is a.0

      waits : Waits owners sources targets priorities letters states (rows_task p) left o rest o₁ m₁
      waits = subst (λ (z : Task). Waits owners sources targets priorities letters states z left o rest o₁ m₁) is a.1

      abbrev turn : Turn
      turn = record {
        owners = owners;
        sources = sources;
        targets = targets;
        priorities = priorities;
        letters = letters;
        states = states;
        p = p;
        small = x.small;
        m = m;
        c = c;
        arena = x.level.arena;
        low = low owners sources targets priorities letters states p m₀ c₀ m c x.level;
        m₁ = m₁;
        c₁ = c₁;
        attracts = attracts;
      }

      pub going-head : Headed states (p + 1) m₁
      going-head = turn-head turn

      pub going-arena : Arena (table_game owners sources targets priorities letters states) (p + 1) (live states m₁)
      going-arena = turn-arena turn

      pub going-listed : Lists (live states m₁) rest o₁
      going-listed = lists-same (from_of owners sources targets priorities letters states (rows_task p) m₁) (live states m₁) rest o₁ (λ s. sym (live-waits states m₁ s)) waits.listed

      module _ (rows : Rows owners sources targets priorities letters states) (m₂ c₂ o₂ : List ℕ)
          (b : SolvedAt owners sources targets priorities letters states (p + 1) m₁ c₁ m₂ c₂ × Rearranged rest o₁ o₂) where
        moved : Rearranged left o o₂
        moved = order-of-order left o o₁ o₂ waits.moved (wider-order rest left o₁ o₂ waits.few b.1)

        listed : Lists (live states m) left o₂
        listed = lists-moved (live states m) left o o₂ x.listed moved

        abbrev above : Above
        above = record { turn = turn; m₂ = m₂; c₂ = c₂; solved = b.0 }

        pub going-turning : Turning owners sources targets priorities letters states p left o₂ m₂
        going-turning = turning above rows left o₂ listed

        pub going-long : (length m₂ ≡ length m) × (length c₂ ≡ length c)
        going-long = (b.0.marks_long ∙ attracts.so_far.marks_long, b.0.choices_long ∙ attracts.so_far.choices_long)

        module _ (again : ℕ) (o₃ m₃ c₃ : List ℕ) (t : Turns owners sources targets priorities letters states p left o₂ m₂ c₂ again o₃ m₃ c₃) where
          pub going_less : 0 < left → again < left
          going_less h = (turned above rows left o₂ listed again o₃ m₃ c₃ t).fewer h

          pub going_more : 0 < left → Going again o₃ m₃ c₃
          going_more h =
              let q = turned above rows left o₂ listed again o₃ m₃ c₃ t in
              record {
                small = x.small;
                level = next_level owners sources targets priorities letters states p x.small m₀ c₀ m c m₃ c₃ x.level q.step;
                listed = q.listed';
                moved = order-of-order n₀ o₀ o o₃ x.moved (wider-order left n₀ o o₃ x.few (order-of-order left o o₂ o₃ moved q.moved));
                few = omega (arith, x.few, q.fewer h);
              }
