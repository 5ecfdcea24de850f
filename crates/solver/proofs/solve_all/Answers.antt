-- `solver::solve_all` meets its contract: filled marks are a game at level 0, which the recursion solves, and what is finished answers it. Assumes nothing.
use Rattle.solver.proofs.Answering.{filled, answer-head, answer-arena, answer-listed, answers}
use native.Mathlib.Omega.{arith}
use Rattle.solver.proofs.solve_all.Goals as goal

pub solve-requires : goal.solve-requires
solve-requires c =
    let r = c.requires in
    record {
      levels = (omega arith, r.levels.1);
      long = (omega (arith, (filled _ _ _ c.requires.long.0 (c.fill.ensures.after (λ y e. e))).long, r.long.0), r.long.1);
      arena = (answer-head _ _ _ _ _ _ c.args.g.now.rows r.levels.0 r.levels.1 _ _ (filled _ _ _ c.requires.long.0 (c.fill.ensures.after (λ y e. e))), answer-arena _ _ _ _ _ _ c.args.g.now.rows r.levels.0 r.levels.1 _ _ (filled _ _ _ c.requires.long.0 (c.fill.ensures.after (λ y e. e))));
      lists = answer-listed _ _ _ _ _ _ c.args.g.now.rows r.levels.0 r.levels.1 _ _ (filled _ _ _ c.requires.long.0 (c.fill.ensures.after (λ y e. e))) _ _ r.sources_in_bounds c.number.ensures;
    }

pub returns : goal.returns
returns c = let r = c.requires in answers _ _ _ _ _ _ c.args.g.now.rows r.levels.0 r.levels.1 _ _ (filled _ _ _ c.requires.long.0 (c.fill.ensures.after (λ y e. e))) _ _ _ c.solve.ensures.0 _ _ c.finish.ensures
