-- Laws of the loop over a formula: what the reader of documents has read, and what is told of it in each lane. Assumes nothing.
use Prim.Native.Nat.{ℕ, zero, suc, ◌+◌, ◌-◌, ◌^◌, ◌≤◌, ◌<◌}
use native.Mathlib.Omega.{arith}
use mathlib.Core.Path.{◌≡◌, refl, sym, ap, ◌∙◌, subst}
use mathlib.Core.Bool.{Bool, true, false, false≢true, true≢false}
use mathlib.Core.List.{List, [], ◌∷◌}
use lib.Dec.{ltb}
use lib.ListN.{length, replicate}
use Rattle.hanoi.specs.Documents.{Formula, truth, formed, group}
use Rattle.hanoi.specs.Meaning.{holds}
use Rattle.hanoi.specs.Formulas.{Event, opens, closes, and, or, events_of, Mode, Reading, PastAnd, PastOr, Told, tell_in, tell}
use Rattle.hanoi.specs.Formulas as event
use Rattle.hanoi.specs.Offers.{between}
use Rattle.hanoi.specs.Reader.{Head, Hole, fresh, or_else, Level, alone, operand, after, body, plug, whole, and_then}
use Rattle.hanoi.proofs.Digits.{lt_yes}
use Rattle.hanoi.proofs.Telling.{told-value}
use Rattle.masks.specs.Masks.{has}
use Rattle.hanoi_lanes.specs.declared.Lanes.{Lanes}
use Rattle.hanoi_lanes.specs.Lanes.{depth_of, Shows, Starts, TellsOperand, TellsAnd, TellsOr, TellsOpens, TellsCloses}
use Rattle.hanoi_lanes.proofs.Counts.{count_none}
use Rattle.hanoi_tokens.specs.Moves.{Moves}
use Rattle.hanoi_tokens.proofs.Moves.{stay, moves-on, moves-stops}
use Rattle.std.specs.Prelude.{Ok, Err}
use Rattle.hanoi_tokens.specs.declared.Stop.{Stop}
use Rattle.hanoi_formula.specs.declared.Operand.TheVariants as operands
use Rattle.hanoi_formula.specs.declared.Sign.TheVariants as signs
use Rattle.hanoi_formula.specs.Formula.{Deep, IsLane, ReadsOperand, ReadsSign, ReadsFormula}
use Rattle.hanoi_formula.proofs.Events.{before, behind, before-none, before-opens, behind-operand, behind-closes, before-and, before-or, behind-whole}

-- ---- how deep the rest that is passed by is
opens-depth : (v : Bool) (m : Mode) → depth_of (tell_in v m opens).mode ≤ suc (depth_of m)
unfolding tell_in
opens-depth v Reading = omega arith
opens-depth v (PastAnd d) = omega arith
opens-depth v (PastOr d) = omega arith

operand-depth : (v b : Bool) (m : Mode) → depth_of (tell_in v m (event.operand b)).mode ≤ depth_of m
unfolding tell_in
operand-depth v b Reading = omega arith
operand-depth v b (PastAnd d) = omega arith
operand-depth v b (PastOr d) = omega arith

and-depth : (v : Bool) (m : Mode) → depth_of (tell_in v m and).mode ≤ depth_of m
unfolding tell_in
and-depth true Reading = omega arith
and-depth false Reading = omega arith
and-depth v (PastAnd d) = omega arith
and-depth v (PastOr d) = omega arith

or-depth : (v : Bool) (m : Mode) → depth_of (tell_in v m or).mode ≤ depth_of m
unfolding tell_in
or-depth true Reading = omega arith
or-depth false Reading = omega arith
or-depth v (PastAnd zero) = omega arith
or-depth v (PastAnd (suc d)) = omega arith
or-depth v (PastOr d) = omega arith

closes-depth : (v : Bool) (m : Mode) (k : ℕ) → depth_of m ≤ k → depth_of (tell_in v m closes).mode ≤ k - 1
unfolding tell_in
closes-depth v Reading k h = omega arith
closes-depth v (PastAnd zero) k h = omega arith
closes-depth v (PastAnd (suc d)) k h = omega (arith, h)
closes-depth v (PastOr zero) k h = omega arith
closes-depth v (PastOr (suc d)) k h = omega (arith, h)

depth-after : (t r : Told) (e : Event) → r ≡ tell t e → depth_of r.mode ≡ depth_of (tell_in t.value t.mode e).mode
unfolding tell
depth-after t r e h = ap (λ (x : Told). depth_of x.mode) h

-- lane s shows x, which is no deeper than the parentheses that are open
pub record Follows (t : Lanes) (planes : List ℕ) (depth s : ℕ) (x : Told) : Type 0 where
  pub shows : Shows t planes s x
  pub passed : depth_of x.mode ≤ depth

follow : (r : Lanes) (planes : List ℕ) (depth s : ℕ) (x y : Told) (e : Event) → y ≡ tell x e → Shows r planes s (tell x e) → depth_of (tell_in x.value x.mode e).mode ≤ depth → Follows r planes depth s y
follow r planes depth s x y e h k l = record { shows = subst (Shows r planes s) (sym h) k; passed = omega (arith, depth-after x y e h, l) }

-- a parenthesis is open exactly if the depth says so
deep_is : (hs : List Hole) (depth : ℕ) → length hs ≡ depth → Deep (ltb 0 depth) hs
deep_is [] depth e = subst (λ (k : ℕ). Deep (ltb 0 k) []) e refl
deep_is (o ∷ hs) depth e = subst (λ (b : Bool). Deep b (o ∷ hs)) (sym (lt_yes 0 depth (omega (arith, e)))) (o, hs, refl)

module _ (text : List ℕ) (m sets all : ℕ) (lanes : List ℕ) where
  -- an operand comes next
  pub record AtOperand (h : Head) (i depth : ℕ) (t : Lanes) (planes : List ℕ) : Type 0 where
    pub hs : List Hole
    pub o : Hole
    pub deep : length hs ≡ depth
    pub moves : Moves text m (between false (operand h [] fresh)) i (between false (operand h hs o))
    pub told_is : (s u : ℕ) → IsLane sets all lanes s u → Follows t planes depth s (before u hs o)

  -- a sign comes next
  pub record AtSign (h : Head) (i depth : ℕ) (bar : Bool) (t : Lanes) (planes : List ℕ) : Type 0 where
    pub hs : List Hole
    pub l : Level
    pub deep : length hs ≡ depth
    pub moves : Moves text m (between false (operand h [] fresh)) i (between bar (after h hs l))
    pub told_is : (s u : ℕ) → IsLane sets all lanes s u → Follows t planes depth s (behind u hs l)

  pub record Going (next : Bool) (i depth : ℕ) (bar : Bool) (t : Lanes) (planes : List ℕ) : Type 0 where
    pub within : i ≤ length text
    pub deep : depth ≤ i
    pub long : length planes ≡ 64
    pub at_operand : next ≡ true → (h : Head) → h.sets ≡ sets → AtOperand h i depth t planes
    pub at_sign : next ≡ false → (h : Head) → h.sets ≡ sets → AtSign h i depth bar t planes

  abbrev any_head : Head
  any_head = record { states = 0; start = 0; names = []; sets = sets }

  first-follows : (t : Lanes) → Starts all t → (s u : ℕ) → IsLane sets all lanes s u → Follows t (replicate 64 0) 0 s (before u [] fresh)
  first-follows t e s u l = subst (Follows t (replicate 64 0) 0 s) (sym (before-none u)) (record { shows = e s (replicate 64 0) l.in_all (count_none 64 s); passed = omega arith })

  pub going-first : (t : Lanes) → Starts all t → m ≤ length text → Going true m 0 false t (replicate 64 0)
  going-first t e h = record {
    within = h;
    deep = omega arith;
    long = refl;
    at_operand = λ n h' s. record { hs = []; o = fresh; deep = refl; moves = stay text m (between false (operand h' [] fresh)) h; told_is = first-follows t e };
    at_sign = λ n. absurd (true≢false n);
  }

  module _ (next bar : Bool) (i depth : ℕ) (t : Lanes) (planes : List ℕ) (g : Going next i depth bar t planes) where
    -- ---- an operand
    module _ (yes : next ≡ true) where
      pub going-opens : (n : ℕ) (new : List ℕ) → ReadsOperand text i sets all lanes (Ok (operands.Opens n)) → depth + 1 < 18446744073709551616 → TellsOpens t all planes new → Going next n (depth + 1) bar t new
      going-opens n new (l, k) few e = record {
        within = (k any_head [] fresh refl).within;
        deep = omega (arith, g.deep, l);
        long = e.long ∙ g.long;
        at_operand =
            λ x h s. let a = g.at_operand yes h s in
            record {
              hs = a.o ∷ a.hs;
              o = fresh;
              deep = omega (arith, a.deep);
              moves = moves-on text a.moves (k h a.hs a.o s);
              told_is = λ j u q. told a.hs a.o j u q (a.told_is j u q);
            };
        at_sign = λ x. absurd (true≢false (sym yes ∙ x));
      }
        where
          told : (hs : List Hole) (o : Hole) (j u : ℕ) → IsLane sets all lanes j u → Follows t planes depth j (before u hs o) → Follows t new (depth + 1) j (before u (o ∷ hs) fresh)
          told hs o j u q f =
              let x : Told = before u hs o in
              let room : depth_of x.mode + 1 < 2 ^ length planes = subst (λ (n : ℕ). depth_of x.mode + 1 < 2 ^ n) (sym g.long) (omega (arith, few, f.passed)) in
              follow t new (depth + 1) j x (before u (o ∷ hs) fresh) opens (before-opens u hs o) (e.shows j x q.in_all room f.shows) (omega (arith, opens-depth x.value x.mode, f.passed))

      pub going-value : (n v : ℕ) (b : Bool) (r : Lanes) → ReadsOperand text i sets all lanes (Ok (operands.Value n v b)) → TellsOperand t v r → Going false n depth b r planes
      going-value n v b r (l, k) e = record {
        within = (k any_head [] fresh refl).2.within;
        deep = omega (arith, g.deep, l);
        long = g.long;
        at_operand = λ x. absurd (false≢true x);
        at_sign =
            λ x h s. let a = g.at_operand yes h s in let f = k h a.hs a.o s in
            record {
              hs = a.hs;
              l = plug a.o f.0;
              deep = a.deep;
              moves = moves-on text a.moves f.2;
              told_is = λ j u q. told a.hs a.o f.0 j u (f.1 j u q) (a.told_is j u q);
            };
      }
        where
          told : (hs : List Hole) (o : Hole) (f : Formula) (j u : ℕ) → events_of u f ≡ event.operand (has v j) ∷ [] → Follows t planes depth j (before u hs o) → Follows r planes depth j (behind u hs (plug o f))
          told hs o f j u z y =
              let x : Told = before u hs o in
              follow r planes depth j x (behind u hs (plug o f)) (event.operand (has v j)) (behind-operand u hs o f (event.operand (has v j)) z) (e planes j x y.shows) (omega (arith, operand-depth x.value (has v j) x.mode, y.passed))

      pub operand-stops : (e : Stop) → ReadsOperand text i sets all lanes (Err e) → ReadsFormula text m sets all lanes (Err e)
      operand-stops e k = record { moves = tt; stops = λ h s. let a = g.at_operand yes h s in moves-stops text a.moves (k h a.hs a.o s) }

    -- ---- a sign
    module _ (other : next ≡ false) where
      pub going-and : (n : ℕ) (r : Lanes) → ReadsSign text i bar (ltb 0 depth) (Ok (signs.And n)) → TellsAnd t r → Going true n depth bar r planes
      going-and n r (l, k) e = record {
        within = (k any_head [] (alone (truth true))).within;
        deep = omega (arith, g.deep, l);
        long = g.long;
        at_operand =
            λ x h s. let a = g.at_sign other h s in
            record {
              hs = a.hs;
              o = and_then a.l;
              deep = a.deep;
              moves = moves-on text a.moves (k h a.hs a.l);
              told_is = λ j u q. told a.hs a.l j u (a.told_is j u q);
            };
        at_sign = λ x. absurd (true≢false x);
      }
        where
          told : (hs : List Hole) (v : Level) (j u : ℕ) → Follows t planes depth j (behind u hs v) → Follows r planes depth j (before u hs (and_then v))
          told hs v j u y =
              let x : Told = behind u hs v in
              follow r planes depth j x (before u hs (and_then v)) and (before-and u hs v) (e planes j x y.shows) (omega (arith, and-depth x.value x.mode, y.passed))

      pub going_or : (n : ℕ) (r : Lanes) → ReadsSign text i bar (ltb 0 depth) (Ok (signs.Or n)) → TellsOr t planes r → Going true n depth bar r planes
      going_or n r (l, k) e = record {
        within = (k any_head [] (alone (truth true))).within;
        deep = omega (arith, g.deep, l);
        long = g.long;
        at_operand =
            λ x h s. let a = g.at_sign other h s in
            record {
              hs = a.hs;
              o = or_else (whole a.l);
              deep = a.deep;
              moves = moves-on text a.moves (k h a.hs a.l);
              told_is = λ j u q. told a.hs a.l j u (a.told_is j u q);
            };
        at_sign = λ x. absurd (true≢false x);
      }
        where
          told : (hs : List Hole) (v : Level) (j u : ℕ) → Follows t planes depth j (behind u hs v) → Follows r planes depth j (before u hs (or_else (whole v)))
          told hs v j u y =
              let x : Told = behind u hs v in
              follow r planes depth j x (before u hs (or_else (whole v))) or (before-or u hs v) (e j x y.shows) (omega (arith, or-depth x.value x.mode, y.passed))

      pub going-closes : (n : ℕ) (r : Lanes) (new : List ℕ) → ReadsSign text i bar (ltb 0 depth) (Ok (signs.Closes n)) → TellsCloses t all planes r new → Going next n (depth - 1) false r new
      going-closes n r new (d, l, k) e = record {
        within = (k any_head [] fresh (alone (truth true))).within;
        deep = omega (arith, g.deep, l);
        long = e.long ∙ g.long;
        at_operand = λ x. absurd (true≢false (sym x ∙ other));
        at_sign = λ x h s. let a = g.at_sign other h s in closed h a.hs a.l a.deep a.moves a.told_is;
      }
        where
          told : (hs : List Hole) (o : Hole) (v : Level) (j u : ℕ) → IsLane sets all lanes j u → Follows t planes depth j (behind u (o ∷ hs) v) → Follows r new (depth - 1) j (behind u hs (plug o (group (whole v))))
          told hs o v j u q y =
              let x : Told = behind u (o ∷ hs) v in
              follow r new (depth - 1) j x (behind u hs (plug o (group (whole v)))) closes (behind-closes u hs o v) (e.shows j x q.in_all y.shows) (closes-depth x.value x.mode depth y.passed)

          closed : (h : Head) (hs : List Hole) (x : Level) → length hs ≡ depth → Moves text m (between false (operand h [] fresh)) i (between bar (after h hs x))
              → ((s u : ℕ) → IsLane sets all lanes s u → Follows t planes depth s (behind u hs x)) → AtSign h n (depth - 1) false r new
          closed h [] x z a y = absurd (true≢false (sym d ∙ subst (λ (j : ℕ). ltb 0 j ≡ false) z refl))
          closed h (o ∷ hs) x z a y = record {
            hs = hs;
            l = plug o (group (whole x));
            deep = omega (arith, z);
            moves = moves-on text a (k h hs o x);
            told_is = λ j u q. told hs o x j u q (y j u q);
          }

      pub formula-read : (n : ℕ) → ReadsSign text i bar (ltb 0 depth) (Ok (signs.Body n)) → ReadsFormula text m sets all lanes (Ok (record { at = n; value = t.value }))
      formula-read n (d, k) = record {
        moves = λ h s. let a = g.at_sign other h s in whole-read h a.hs a.l a.deep a.moves a.told_is;
        stops = tt;
      }
        where
          whole-read : (h : Head) (hs : List Hole) (x : Level) → length hs ≡ depth → Moves text m (between false (operand h [] fresh)) i (between bar (after h hs x))
              → ((s u : ℕ) → IsLane sets all lanes s u → Follows t planes depth s (behind u hs x))
              → (f : Formula) × Moves text m (between false (operand h [] fresh)) n (between false (body h f)) × (formed sets f ≡ true → (s u : ℕ) → IsLane sets all lanes s u → has t.value s ≡ holds u f)
          whole-read h [] x z a y =
              (whole x, moves-on text a (k h x), λ w s u l. (y s u l).shows.value_is ∙ (ap (λ (v : Told). v.value) (behind-whole u x) ∙ told-value u sets (whole x) true w))
          whole-read h (o ∷ hs) x z a y = absurd (true≢false (sym (lt_yes 0 depth (omega (arith, z))) ∙ d))

      pub sign-stops : (e : Stop) → ReadsSign text i bar (ltb 0 depth) (Err e) → ReadsFormula text m sets all lanes (Err e)
      sign-stops e k = record { moves = tt; stops = λ h s. let a = g.at_sign other h s in moves-stops text a.moves (k h a.hs a.l (deep_is a.hs depth a.deep)) }
