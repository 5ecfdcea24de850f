-- `lacks_room` meets its contract. Assumes nothing.
use mathlib.Core.Path.{refl}
use Rattle.listing.specs.Listing.{lacks_room}
use Rattle.listing.proofs.lacks_room.Goals as goal

pub returns : goal.returns
unfolding lacks_room
returns c = refl
