use Rattle.std.proofs.Common.{sym, ◌∙◌, subst}
use Rattle.occ_choice.specs.Branches.{AreBranches}
use Rattle.occ_choice.proofs.Choosing.{inputs_known}
use Rattle.occ_choice.proofs.prefix.prefix_in.Goals as goal

pub alt-requires : goal.alt-requires
alt-requires c = subst (λ bs. AreBranches c.args.world.now bs) (sym (c.deref.ensures.value ∙ c.in_ok-branches.ensures)) (inputs_known c.args.world.now c.args.chan 0 c.args.nexts.now c.requires.nexts)
