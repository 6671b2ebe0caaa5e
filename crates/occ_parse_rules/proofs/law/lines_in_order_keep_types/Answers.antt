use Rattle.occ_parse_rules.proofs.Params.{program_kept}
use Rattle.occ_parse_rules.proofs.law.lines_in_order_keep_types.Goals as goal

pub returns : goal.returns
returns c = λ D N u params below i. program_kept D N u params below i
