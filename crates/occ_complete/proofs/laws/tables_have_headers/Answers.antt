use Rattle.occ_complete.proofs.Headers.{tables_have_headers}
use Rattle.occ_complete.proofs.laws.tables_have_headers.Goals as goal

pub returns : goal.returns
returns c = tables_have_headers
