-- `wulfrenda::wulfrenda_solve` meets its contract, which is that of the call that it hands on to. Assumes nothing.
use Rattle.wulfrenda.proofs.wulfrenda_solve.Goals as goal

pub shape_of-masks : goal.shape_of-masks
shape_of-masks c = c.solve_record.auto.masks

pub shape_of-parents : goal.shape_of-parents
shape_of-parents c = c.solve_record.auto.parents

pub shape_of-node_priorities : goal.shape_of-node_priorities
shape_of-node_priorities c = c.solve_record.auto.node_priorities

pub shape_of-sources : goal.shape_of-sources
shape_of-sources c = c.solve_record.auto.sources

pub shape_of-leaves : goal.shape_of-leaves
shape_of-leaves c = c.solve_record.auto.leaves

pub shape_of-targets : goal.shape_of-targets
shape_of-targets c = c.solve_record.auto.targets

pub shape_of-priorities : goal.shape_of-priorities
shape_of-priorities c = c.solve_record.auto.priorities

pub shape_of-winners : goal.shape_of-winners
shape_of-winners c = c.solve_record.auto.winners

pub shape_of-letters : goal.shape_of-letters
shape_of-letters c = c.solve_record.auto.letters

pub returns : goal.returns
returns c = let e = c.solve_record.ensures in
    let s = e.solved in record { number = e.number_is; counts = s.counts_are; tables = s.tables_are; winners = s.winners_are; letters = s.letters_are }
