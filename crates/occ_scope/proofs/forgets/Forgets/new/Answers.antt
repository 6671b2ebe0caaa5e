use Rattle.std.proofs.Common.{refl}
use Rattle.occ_scope.specs.Tables.{KeepForgotten, bits_of}
use Rattle.occ_scope.specs.declared.change.Change.TheVariants.{Forget}
use Rattle.occ_scope.proofs.Altering.{are_changed_none}
use Rattle.occ_scope.proofs.forgets.Forgets.new.Goals as goal

pub returns-clause-bits : goal.returns-clause-bits
unfolding bits_of
returns-clause-bits c = refl

pub returns-clause-none : goal.returns-clause-none
unfolding KeepForgotten
returns-clause-none c = λ w. are_changed_none w (Forget c.args.bits) c.new.result c.new.ensures
