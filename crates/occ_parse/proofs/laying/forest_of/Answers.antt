use Rattle.std.proofs.Common.{ap, ◌∙◌}
use Rattle.occ_parse_layout.specs.Layout.{laid_rows, least_bad}
use Rattle.occ_parse.proofs.Forests.{good_rows_nest}
use Rattle.occ_parse.proofs.laying.forest_of.Goals as goal

pub grown-requires : goal.grown-requires
grown-requires c =
    let f = c.frame_of.result in
    let more = c.is_some.result in
    good_rows_nest c.args.bound f c.args.judged.stop more (laid_rows c.args.judged.lines.items) c.in_ok-line.field-0 c.frame_of.ensures c.is_some.ensures c.in-None.is
    (c.in_ok-line.ensures ∙ ap (λ rows. least_bad f more (laid_rows rows)) c.deref.ensures.value) c.in_default.is
