use Rattle.std.proofs.Common.{◌+◌, drop, sym, ◌∙◌}
use Rattle.occ_parse_part.specs.occ_parse_layout.Layout.{laid_rows}
use Rattle.occ_script.specs.Lines.{lacks_part}
use Rattle.occ_script.proofs.Judged.{lacks_at, large_level, small_level}
use Rattle.occ_script.proofs.judging.lacks_part.Goals as goal

pub returns-then-line-lt2 : goal.returns-then-line-lt2
returns-then-line-lt2 c =
    let lines = c.args.lines.now in
    let i = c.loop-line.line-index in
    let p = c.line-item.result in
    small_level p.level (lacks_part (laid_rows (drop (i + 1) lines)) c.args.stop) c.if-line-lt2.true ∙ sym (lacks_at lines i p c.args.stop c.loop-line-test.true c.line-item.is) ∙ c.loop-line.invariant

pub loop-line-preserved : goal.loop-line-preserved
loop-line-preserved c =
    let lines = c.args.lines.now in
    let i = c.loop-line.line-index in
    let p = c.line-item.result in
    large_level p.level (lacks_part (laid_rows (drop (i + 1) lines)) c.args.stop) c.if-line-lt2.false ∙ sym (lacks_at lines i p c.args.stop c.loop-line-test.true c.line-item.is) ∙ c.loop-line.invariant
