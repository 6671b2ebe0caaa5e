use Rattle.occ_parse_types.proofs.Expressions.{refused_fixed}
use Rattle.occ_parse_types.proofs.expression.refuses.Goals as goal

pub returns-in-Fixed : goal.returns-in-Fixed
returns-in-Fixed c = refused_fixed c.args.scopes.now c.args.asker c.in-Fixed.width c.args.asked c.refuses_width.result c.in-Fixed.is c.refuses_width.ensures
