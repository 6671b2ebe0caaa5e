use Rattle.occ_script_lines.proofs.Scoping.{scopes}
use Rattle.occ_script_lines.proofs.laws.scopes_at_paths.Goals as goal

pub returns : goal.returns
returns c = scopes
