use Rattle.std.proofs.Common.{ap}
use Rattle.std.specs.Int.Bits.{bit_and}
use Rattle.occ_norm_frame.proofs.Alone.{ending_made, skip_later}
use Rattle.occ_norm_frame.proofs.Changing.{changed_by}
use Rattle.occ_norm_frame.proofs.ends.ending.Goals as goal

pub returns-clause-ending : goal.returns-clause-ending
returns-clause-ending c =
    ending_made c.rebased.new.world c.args.all c.args.keep c.in_ok-ended.ended c.in_ok-ending.ending
    (skip_later c.skip.new.self c.rebased.new.world c.rebased.ensures.extends c.args.all c.in_ok-ended.ended c.in_ok-ended.ensures.skip)
    (changed_by c.rebased.new.world _ _ c.in_ok-ended.ended c.in_ok-ending.ending (λ x. ap (bit_and x) c.except-values.ensures) c.in_ok-ending.ensures.changed)
