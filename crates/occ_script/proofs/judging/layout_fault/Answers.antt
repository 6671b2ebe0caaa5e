use Rattle.std.proofs.Common.{sym, ◌∙◌}
use Rattle.occ_parse_part.specs.occ_parse_layout.Layout.{laid_rows, least_bad}
use Rattle.occ_script.specs.Contents.{frame_of}
use Rattle.occ_script.specs.Lines.{badly}
use Rattle.occ_script.proofs.Judged.{layout_end}
use Rattle.occ_script.proofs.judging.layout_fault.Goals as goal

pub returns-in-Some : goal.returns-in-Some
returns-in-Some c =
    badly _ (sym (c.in_ok-line.ensures ∙ (λ i. least_bad (c.frame.ensures i) (c.is_some-more.ensures i) (laid_rows (c.deref.ensures.value i)))) ∙ c.in-Some.is)

pub returns : goal.returns
returns c =
    layout_end (frame_of c.args.content) (laid_rows c.args.judged.now.lines.items) c.args.judged.now.stop
    (sym (c.in_ok-line.ensures ∙ (λ i. least_bad (c.frame.ensures i) (c.is_some-more.ensures i) (laid_rows (c.deref.ensures.value i)))) ∙ c.in_default.is)
