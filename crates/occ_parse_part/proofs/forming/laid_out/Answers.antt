use Rattle.std.proofs.Common.{inl, ap, ◌∙◌}
use Rattle.occ_parse.specs.occ_parse_layout.declared.placed.Frame.TheVariants as frame
use Rattle.occ_parse.specs.occ_parse_layout.Layout.{laid_rows, least_bad}
use Rattle.occ_parse_part.proofs.Laid.{good_nests, bad_line, line_behind}
use Rattle.occ_parse_part.proofs.forming.laid_out.Goals as goal

pub grown-requires : goal.grown-requires
grown-requires c =
    good_nests (laid_rows c.args.judged.lines.items) c.args.judged.stop _ _ c.is_some.ensures
    (c.in_ok-line.ensures ∙ ap (λ rows. least_bad frame.Part c.is_some.result (laid_rows rows)) c.deref.ensures.value) c.in_default.is c.in-None.is

pub returns-in-Some-clause-refused : goal.returns-in-Some-clause-refused
returns-in-Some-clause-refused c =
    inl (bad_line (laid_rows c.args.judged.lines.items) c.args.judged.stop _ _ c.is_some.ensures
    (c.in_ok-line.ensures ∙ ap (λ rows. least_bad frame.Part c.is_some.result (laid_rows rows)) c.deref.ensures.value) _ c.in-Some.is)

pub returns-in-Some-stop-clause-refused : goal.returns-in-Some-stop-clause-refused
returns-in-Some-stop-clause-refused c =
    inl (line_behind (laid_rows c.args.judged.lines.items) c.args.judged.stop _ _ c.is_some.ensures
    (c.in_ok-line.ensures ∙ ap (λ rows. least_bad frame.Part c.is_some.result (laid_rows rows)) c.deref.ensures.value) _ c.in_default.is c.in-Some-stop.is)
