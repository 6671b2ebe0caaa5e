use Rattle.std.proofs.Common.{sym, ◌∙◌}
use Rattle.occ_parse_forms.specs.declared.form.Param.{Param}
use Rattle.occ_parse_part.specs.Arrays.{declared_array}
use Rattle.occ_parse_part.proofs.Listed.{noted_done, noted_at}
use Rattle.occ_parse_part.proofs.arrays.add_params.Goals as goal

pub loop-param-preserved : goal.loop-param-preserved
loop-param-preserved c =
    noted_at (λ (p : Param). declared_array p.declared) c.args.params.now c.loop-param.param-index _ _ _ c.loop-param-test.true c.in_ok-add_declared.ensures ∙ c.loop-param.invariant

pub returns : goal.returns
returns c = sym (noted_done (λ (p : Param). declared_array p.declared) c.args.params.now c.loop-param.param-index _ c.loop-param-test.false) ∙ c.loop-param.invariant
