use Rattle.occ_dd.proofs.Sets.{known_size, has_label}
use Rattle.occ_dd.proofs.store.Store.has.Goals as goal

pub label-requires : goal.label-requires
label-requires c = known_size c.args.self.now c.args.a c.requires

pub returns : goal.returns
returns c = has_label c.args.self.now c.args.a c.args.bits c.label.result c.requires c.label.ensures
