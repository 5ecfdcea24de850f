use Prim.Native.Nat.{ℕ, ◌+◌, ◌<◌}
use native.Mathlib.Omega.{arith}
use mathlib.Core.Path.{◌≡◌, refl, sym, ap, ◌∙◌}
use mathlib.Core.List.{List}
use lib.ListN.{length}
use Rattle.std.specs.Prelude.{Result, Ok}
use Rattle.refusals.specs.declared.Refusal.{Refusal}
use Rattle.policy.specs.Policies.{edge_of}
use Rattle.policy.specs.Making.{with_edge, with_set, with_tables}
use Rattle.reading.specs.declared.Command.{Command}
use Rattle.reading.specs.declared.Command.TheVariants.{Edge, Quiet}
use Rattle.reading.specs.declared.Draft.{Draft}
use Rattle.reading.specs.Reading.{command_at, is_end, refusal_of, taken_at, within_limits}
use Rattle.reading.proofs.Questions.{taken-all, passed, edge-within, quiet-within}
use Rattle.reading.proofs.Commands.{Onway, onway-start, onway-shape, onway-refused, onway-end, onway-on, Taken, taken-shape, taken-edge, taken-quiet, taken-accept, reads}
use Rattle.reading.proofs.read.Goals.{in-Shape, in-Edge, in-Accept, in-Quiet}
use Rattle.reading.proofs.read.Goals as goal

-- what is known of a command that is taken
module _ {b : List ℕ} {at : ℕ} {d : Draft} (o : Onway b at d) {c : Command} {x : Result Command Refusal} (i : x ≡ Ok c) (e : x ≡ taken_at b at d) where
  none : refusal_of b at d ≡ 0
  none = (taken-all b at d (sym i ∙ e)).0

  its : c ≡ command_at b at
  its = (taken-all b at d (sym i ∙ e)).1

  byte : at < length b
  byte = (passed none).byte

  -- an edge's number is a bit of the mask
  in-mask : {v a t k n : ℕ} → c ≡ Edge v a t k → n ≡ edge_of d.policy v a → n < 64
  in-mask w g = rw g (edge-within o.bounded _ _ _ _ (ap (within_limits d.policy) (sym w ∙ its) ∙ (passed none).within))

  in-mask-2 : {v a t n : ℕ} → c ≡ Quiet v a t → n ≡ edge_of d.policy v a → n < 64
  in-mask-2 w g = rw g (quiet-within o.bounded _ _ _ (ap (within_limits d.policy) (sym w ∙ its) ∙ (passed none).within))

-- the draft after the command, and the next turn, which is on the way too
onward : (c : goal.After-operand_count) → Onway c.args.bytes.now (c.loop-c.at + 1 + c.operand_count.result) (record { policy = c.match-c.p; given = c.match-c.given })
unfolding with_tables with_edge with_set
onward c =
    let z = none c.loop-c.invariant c.in-Ok.is c.taken_at.ensures in
    let t : Taken (record { policy = c.loop-c.p; given = c.loop-c.given }) c.in-Ok.c c.match-c.p c.match-c.given = elim c.match-c.branch [
      | in-Shape w ↦ taken-shape w.in-Shape.is (onway-shape c.loop-c.invariant z (sym (its c.loop-c.invariant c.in-Ok.is c.taken_at.ensures) ∙ w.in-Shape.is)) w.p-is w.given-is
      | in-Edge w ↦ taken-edge w.in-Edge.is w.edge_of-e.ensures w.p-is (w.given-is ∙ w.with-given.ensures)
      | in-Accept w ↦ taken-accept w.in-Accept.is refl w.p-is w.given-is
      | in-Quiet w ↦ taken-quiet w.in-Quiet.is w.edge_of-e-in-Quiet.ensures w.with.ensures w.p-is (w.given-is ∙ w.with-given-in-Quiet.ensures)
    ] in
    onway-on c.loop-c.invariant z (its c.loop-c.invariant c.in-Ok.is c.taken_at.ensures) t.goes_on t.is c.operand_count.ensures

pub loop-c-init : goal.loop-c-init
loop-c-init c = onway-start _ c.counted-p.ensures

pub returns-in-Err : goal.returns-in-Err
returns-in-Err c = reads _ _ (onway-refused c.loop-c.invariant (sym c.in-Err.is ∙ c.taken_at.ensures))

pub returns-in-End : goal.returns-in-End
unfolding is_end
returns-in-End c = reads _ _ (onway-end c.loop-c.invariant (none c.loop-c.invariant c.in-Ok.is c.taken_at.ensures) (its c.loop-c.invariant c.in-Ok.is c.taken_at.ensures) (ap is_end c.in-End.is))

pub bounds-p-e : goal.bounds-p-e
bounds-p-e c = in-mask c.loop-c.invariant c.in-Ok.is c.taken_at.ensures c.in-Edge.is c.edge_of-e.ensures

pub bounds-p-e-in-Edge : goal.bounds-p-e-in-Edge
bounds-p-e-in-Edge c = in-mask c.loop-c.invariant c.in-Ok.is c.taken_at.ensures c.in-Edge.is c.edge_of-e.ensures

pub with-given-requires : goal.with-given-requires
with-given-requires c = in-mask c.loop-c.invariant c.in-Ok.is c.taken_at.ensures c.in-Edge.is c.edge_of-e.ensures

pub bounds-p-e-in-Quiet : goal.bounds-p-e-in-Quiet
bounds-p-e-in-Quiet c = in-mask-2 c.loop-c.invariant c.in-Ok.is c.taken_at.ensures c.in-Quiet.is c.edge_of-e-in-Quiet.ensures

pub bounds-p-e-in-Quiet-2 : goal.bounds-p-e-in-Quiet-2
bounds-p-e-in-Quiet-2 c = in-mask-2 c.loop-c.invariant c.in-Ok.is c.taken_at.ensures c.in-Quiet.is c.edge_of-e-in-Quiet.ensures

pub with-requires : goal.with-requires
with-requires c = in-mask-2 c.loop-c.invariant c.in-Ok.is c.taken_at.ensures c.in-Quiet.is c.edge_of-e-in-Quiet.ensures

pub with-given-requires-in-Quiet : goal.with-given-requires-in-Quiet
with-given-requires-in-Quiet c = in-mask-2 c.loop-c.invariant c.in-Ok.is c.taken_at.ensures c.in-Quiet.is c.edge_of-e-in-Quiet.ensures

pub bounds-bytes-at : goal.bounds-bytes-at
bounds-bytes-at c = byte c.loop-c.invariant c.in-Ok.is c.taken_at.ensures

pub overflow_add-at-in-loop-c : goal.overflow_add-at-in-loop-c
overflow_add-at-in-loop-c c = omega (arith, (onward c).within)

pub loop-c-smaller : goal.loop-c-smaller
loop-c-smaller c = omega (arith, byte c.loop-c.invariant c.in-Ok.is c.taken_at.ensures)

pub loop-c-preserved : goal.loop-c-preserved
loop-c-preserved c = onward c
