use Rattle.occ_parse_types.proofs.Lines.{other_against}
use Rattle.occ_parse_types.proofs.directions.line_against.Goals as goal

pub returns-in_default : goal.returns-in_default
returns-in_default c = other_against c.args.scopes.now c.args.form.now c.in_default.not-Input c.in_default.not-Output c.in_default.not-Guard
