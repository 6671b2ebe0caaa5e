use Rattle.std.proofs.Common.{◌||◌, drop, ap}
use Rattle.occ_names.specs.Once.{same_number}
use Rattle.occ_names.proofs.Listed.{numbers_tested}
use Rattle.occ_syntax.specs.Names.{is_in}
use Rattle.occ_syntax.specs.View.{numbers}
use Rattle.occ_usage.proofs.Shared.{add_step, all_added, next_name, no_name}
use Rattle.occ_usage.proofs.sets.name_set.Goals as goal

pub loop-name-init : goal.loop-name-init
loop-name-init c = λ x. ap (λ ys. is_in ys x || is_in (numbers (drop 0 c.args.names.now)) x) c.new-set.ensures

pub loop-name-preserved : goal.loop-name-preserved
loop-name-preserved c = λ x. add_step same_number numbers_tested _ _ _ _ _ x _ c.in_ok-insert.ensures.ok (next_name _ _ c.loop-name-test.true) (c.loop-name.invariant x)

pub returns : goal.returns
returns c = λ x. all_added same_number numbers_tested _ _ x _ (no_name _ _ c.loop-name-test.false) (c.loop-name.invariant x)
