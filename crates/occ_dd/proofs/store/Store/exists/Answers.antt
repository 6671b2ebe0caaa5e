use Rattle.occ_dd.proofs.Sets.{known_size, keeps_grown, union_set}
use Rattle.occ_dd.proofs.store.Store.exists.Goals as goal

pub unite-requires-clause-known : goal.unite-requires-clause-known
unite-requires-clause-known c = known_size c.args.self.now c.args.a c.requires.a

pub returns-in_err-unite-clause-keeps : goal.returns-in_err-unite-clause-keeps
returns-in_err-unite-clause-keeps c = keeps_grown c.args.self.now c.unite.new.self c.unite.ensures.grows

pub returns-clause-keeps : goal.returns-clause-keeps
returns-clause-keeps c = keeps_grown c.args.self.now c.unite.new.self c.unite.ensures.grows

pub returns-clause-set : goal.returns-clause-set
returns-clause-set c = union_set c.args.self.now c.unite.new.self c.unite.ensures.grows c.args.a c.args.bit c.in_ok-unite.field-0 c.requires.a c.in_ok-unite.ensures.united
