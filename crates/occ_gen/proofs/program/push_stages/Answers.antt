use Rattle.std.proofs.Common.{◌≡◌, ◌∙◌, arith}
use Rattle.occ_gen.proofs.Texts.{stage_more, stage_last}
use Rattle.occ_gen.proofs.program.push_stages.Goals as goal

pub loop-stage-preserved : goal.loop-stage-preserved
loop-stage-preserved c =
    stage_more c.args.shape c.loop-stage.stage c.args.n _ _ (omega arith) c.in_ok-push_stage.ensures ∙ c.loop-stage.invariant

pub returns : goal.returns
returns c =
    let last : c.loop-stage.stage ≡ c.args.n = omega arith in
    stage_last c.args.shape c.loop-stage.stage c.args.n _ _ _ last c.in_ok-push.ensures c.loop-stage.invariant
