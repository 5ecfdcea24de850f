-- `fill_candidates` meets its contract. Assumes nothing.
use native.Mathlib.Omega.{arith}
use Rattle.listing.proofs.Turns.{replicate-in}
use Rattle.listing.proofs.fill_candidates.Goals as goal

pub fill_lists-requires : goal.fill_lists-requires
fill_lists-requires c = record { policy = c.requires.policy; places = c.requires.places; live = (omega (arith, c.colours_in.ensures, c.if-colours_in-lt16.true), λ d b. replicate-in 16 d c.args.root 0 b) }

pub fill_lists-requires-2 : goal.fill_lists-requires-2
fill_lists-requires-2 c = record { policy = c.requires.policy; places = c.requires.places; live = (omega (arith, c.colours_in.ensures), λ d b. replicate-in 256 d c.args.root 0 b) }
