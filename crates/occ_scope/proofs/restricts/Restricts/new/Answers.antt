use Rattle.std.proofs.Common.{refl}
use Rattle.occ_scope.specs.Tables.{KeepRestricted, chan_of}
use Rattle.occ_scope.specs.declared.change.Change.TheVariants.{Restrict}
use Rattle.occ_scope.proofs.Altering.{are_changed_none}
use Rattle.occ_scope.proofs.restricts.Restricts.new.Goals as goal

pub returns-clause-chan : goal.returns-clause-chan
unfolding chan_of
returns-clause-chan c = refl

pub returns-clause-none : goal.returns-clause-none
unfolding KeepRestricted
returns-clause-none c = λ w. are_changed_none w (Restrict c.args.chan) c.new.result c.new.ensures
