use Rattle.occ_law.proofs.Rows.{law_there}
use Rattle.occ_law.proofs.variants.row_at.Goals as goal

pub returns-clause-law : goal.returns-clause-law
returns-clause-law c = law_there c.args.rows.now c.args.place _ c.requires.numbers c.requires.place
