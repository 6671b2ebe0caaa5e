use Rattle.std.proofs.Common.{None, false, refl, sym, ap, subst, ◌∙◌}
use Rattle.std.specs.List.{AllByRecursion}
use Rattle.occ_parse.specs.declared.bound.Bound.TheVariants as bound
use Rattle.occ_parse.specs.occ_parse_layout.declared.placed.Frame.TheVariants as frame
use Rattle.occ_parse.specs.occ_parse_layout.Layout.{laid_rows, least_bad}
use Rattle.occ_parse.proofs.Forests.{good_rows_nest}
use Rattle.occ_parse_rules.specs.occ_lex.Placed.{IsLineOf}
use Rattle.occ_parse_rules.proofs.from_lex.Placing.{reading_placed}
use Rattle.occ_place.proofs.places.layout_of.Goals as goal

pub rows-requires : goal.rows-requires
rows-requires c =
    let text = c.args.text.now in
    subst (AllByRecursion (IsLineOf text)) (sym (c.deref.ensures.value ∙ ap (λ r. r.0) c.in_ok-reading.ensures)) (reading_placed text).lines_of_text

pub grown-requires : goal.grown-requires
grown-requires c = good_rows_nest bound.Program frame.Program None false (laid_rows c.in_ok-judged.judged.lines.items) _ refl refl refl (c.in_ok-least_bad.ensures ∙ ap (λ l. least_bad frame.Program false (laid_rows l)) c.deref-3.ensures.value) c.in_default.is
