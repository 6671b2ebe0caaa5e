use Rattle.occ_engine_known.proofs.Given.{orders_give}
use Rattle.occ_engine_known.proofs.known_names.given_parts_declare_known_names.Goals as goal

pub returns : goal.returns
returns c = orders_give
