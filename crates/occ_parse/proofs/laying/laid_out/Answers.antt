use Rattle.std.proofs.Common.{ap, sym, subst, ◌∙◌}
use Rattle.std.specs.List.{AllByRecursion}
use Rattle.occ_parse_rules.specs.occ_lex.Placed.{IsLineOf}
use Rattle.occ_parse_rules.proofs.from_lex.Placing.{reading_placed}
use Rattle.occ_parse_rules.specs.occ_lex.Symbols.{rows_of}
use Rattle.occ_parse_layout.specs.Layout.{laid_rows}
use Rattle.occ_parse.specs.Limits.{stopped}
use Rattle.occ_parse.specs.Reading.{AreForms}
use Rattle.occ_parse.proofs.Forests.{refused_from, if_err}
use Rattle.occ_parse.proofs.laying.laid_out.Goals as goal

pub rows-requires : goal.rows-requires
rows-requires c =
    let text = c.args.text.now in
    subst (AllByRecursion (IsLineOf text)) (sym (c.deref.ensures.value ∙ ap (λ r. r.0) c.in_ok-reading.ensures)) (reading_placed text).lines_of_text

pub returns-clause-refused : goal.returns-clause-refused
returns-clause-refused c =
    let b = c.args.bound in
    let text = c.args.text.now in
    let old = c.args.names.now in
    let found = c.in_ok-reading.reading.fault in
    let rows = c.in_ok-rows.rows.items in
    let laid = laid_rows c.in_ok-judged.judged.lines.items in
    let same = c.deref-2.ensures.value in
    if_err c.forest_of.result (λ fault h. refused_from b text old c.in_ok-reading.reading.lines.items found rows laid c.in_ok-judged.judged.stop fault c.requires.short c.in_ok-reading.ensures
    (c.in_ok-rows.ensures.rows ∙ ap (λ lines. rows_of text old lines) c.deref.ensures.value)
    (subst (λ rs. AreForms (stopped b rs found).0 laid) same c.in_ok-judged.ensures.forms)
    (sym (ap (λ rs. (stopped b rs found).1) same) ∙ c.in_ok-judged.ensures.stop) h) c.forest_of.ensures.refused
