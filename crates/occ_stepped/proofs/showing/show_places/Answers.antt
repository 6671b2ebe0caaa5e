use Rattle.std.proofs.Common.{refl}
use Rattle.occ_stepped.proofs.Around.{shown_around}
use Rattle.occ_stepped.proofs.showing.show_places.Goals as goal

pub returns : goal.returns
returns c = shown_around c.joined.result c.args.names.now c.args.moves.now c.args.moves.now c.in_ok-listing.listing.rows.items refl c.in_ok-listing.ensures c.joined.ensures
