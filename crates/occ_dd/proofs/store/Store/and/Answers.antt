use Rattle.occ_dd.proofs.Sets.{known_size, keeps_grown, and_set}
use Rattle.occ_dd.proofs.store.Store.and.Goals as goal

pub choose-requires-clause-test : goal.choose-requires-clause-test
choose-requires-clause-test c = known_size c.args.self.now c.args.a c.requires.a

pub choose-requires-clause-yes : goal.choose-requires-clause-yes
choose-requires-clause-yes c = known_size c.args.self.now c.args.b c.requires.b

pub returns-in_err-choose-clause-keeps : goal.returns-in_err-choose-clause-keeps
returns-in_err-choose-clause-keeps c = keeps_grown c.args.self.now c.choose.new.self c.choose.ensures.grows

pub returns-clause-keeps : goal.returns-clause-keeps
returns-clause-keeps c = keeps_grown c.args.self.now c.choose.new.self c.choose.ensures.grows

pub returns-clause-set : goal.returns-clause-set
returns-clause-set c = and_set c.args.self.now c.choose.new.self c.choose.ensures.grows c.args.a c.args.b c.in_ok-choose.field-0 c.requires.a c.requires.b c.in_ok-choose.ensures.chosen
