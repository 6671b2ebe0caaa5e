use Rattle.occ_draw.proofs.Drawn.{edges_are}
use Rattle.occ_draw.proofs.law.edges_are_offers.Goals as goal

pub returns : goal.returns
returns c = edges_are
