use Rattle.std.proofs.Common.{sym, ◌∙◌}
use Rattle.occ_parse_part.specs.Arrays.{declared_array}
use Rattle.occ_parse_part.proofs.Listed.{noted_done, noted_at}
use Rattle.occ_parse_part.proofs.arrays.add_all_declared.Goals as goal

pub loop-one-preserved : goal.loop-one-preserved
loop-one-preserved c = noted_at declared_array c.args.declared.now c.loop-one.one-index _ _ _ c.loop-one-test.true c.in_ok-add_declared.ensures ∙ c.loop-one.invariant

pub returns : goal.returns
returns c = sym (noted_done declared_array c.args.declared.now c.loop-one.one-index _ c.loop-one-test.false) ∙ c.loop-one.invariant
