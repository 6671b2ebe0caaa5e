use Rattle.std.proofs.Common.{false, sym, ap, ◌∙◌}
use Rattle.occ_parse_forms.specs.Shape.{waiting}
use Rattle.occ_parse_rules.specs.Places.{for_some}
use Rattle.occ_parse_rules.specs.Types.{waiting_against}
use Rattle.occ_parse_scopes.proofs.Taken.{for_some_still}
use Rattle.occ_parse_types.proofs.directions.wants_against.Goals as goal

pub returns-in-Skip : goal.returns-in-Skip
returns-in-Skip c = sym (ap (λ w. for_some c.args.scopes.now (λ ρ. waiting_against c.args.scopes.now ρ (waiting w))) c.in-Skip.is ∙ for_some_still c.args.scopes.now false)
