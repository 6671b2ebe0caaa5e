use Rattle.std.proofs.Common.{ap, sym, ◌∙◌}
use Rattle.occ_syntax.specs.Tree.{alt}
use Rattle.occ_syntax.specs.View.{in_alternatives}
use Rattle.occ_syntax.proofs.Views.{tree-Alt}
use Rattle.occ_law_seq.specs.occ_law.Scope.{without_channel}
use Rattle.occ_law_right.proofs.Written.{branch_passed, branch_written, branches_from, branches_written, no_branches, off_channel_more, on_channel_more}
use Rattle.occ_law_right.proofs.unheard.off_channel.Goals.{then-not-is_on+in_ok-guard+in_ok-under+in_ok-push, else-not-is_on}
use Rattle.occ_law_right.proofs.unheard.off_channel.Goals as goal

pub loop-guard-preserved : goal.loop-guard-preserved
loop-guard-preserved c =
    let from = branches_from c.args.alternatives.now c.loop-guard.guard-index c.loop-guard-item.result c.loop-guard-test.true c.loop-guard-item.is in
    elim c.if-not-is_on.branch [
      | then-not-is_on+in_ok-guard+in_ok-under+in_ok-push w ↦
          branch_written _ _ _ _ _ _ _ _ _ _ (ap in_alternatives w.made-is ∙ w.in_ok-push.ensures.ok) w.in_ok-guard.ensures.condition w.in_ok-guard.ensures.wait w.in_ok-under.ensures
          (off_channel_more c.args.channel.0 c.args.width _ _ _ _ _ (sym c.is_on.ensures ∙ w.if-not-is_on.true) from) c.loop-guard.invariant
      | else-not-is_on w ↦
          branch_passed _ _ _ _ _ (ap in_alternatives w.made-is)
          (on_channel_more c.args.channel.0 c.args.width _ _ _ _ _ (sym c.is_on.ensures ∙ w.if-not-is_on.false) from) c.loop-guard.invariant
    ]

pub returns : goal.returns
returns c =
    tree-Alt _ ∙ ap alt (branches_written _ _ _ (ap (without_channel c.args.channel.0 c.args.width) (no_branches _ _ c.loop-guard-test.false)) c.loop-guard.invariant)
