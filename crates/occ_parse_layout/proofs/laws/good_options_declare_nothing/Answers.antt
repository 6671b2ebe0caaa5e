use Rattle.occ_parse_layout.proofs.Options.{options_of}
use Rattle.occ_parse_layout.proofs.laws.good_options_declare_nothing.Goals as goal

pub returns : goal.returns
returns c = options_of
