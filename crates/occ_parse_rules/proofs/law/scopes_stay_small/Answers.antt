use Rattle.occ_parse_rules.proofs.Small.{scopes_small}
use Rattle.occ_parse_rules.proofs.law.scopes_stay_small.Goals as goal

pub returns : goal.returns
returns c = λ N params below q l f. scopes_small N params below q l f
