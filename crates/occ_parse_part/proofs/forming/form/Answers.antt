use Rattle.std.proofs.Common.{ap, ◌∙◌}
use Rattle.occ_parse_forms.specs.occ_lex.Symbols.{with_names_of_all}
use Rattle.occ_parse_forms.proofs.from_lex.Interned.{extends_eq, extends_same, extends_trans}
use Rattle.occ_parse_rules.specs.Forest.{forest, in_nodes}
use Rattle.occ_parse.specs.occ_parse_layout.Layout.{laid_rows}
use Rattle.occ_parse_part.specs.Elements.{elements_in, with_arrays}
use Rattle.occ_parse_part.specs.Seen.{seen}
use Rattle.occ_parse_part.proofs.Known.{arrays_known}
use Rattle.occ_parse_part.proofs.Laid.{judged_of, named_here, part_single}
use Rattle.occ_parse_part.proofs.Formed.{good_part}
use Rattle.occ_parse_part.proofs.forming.form.Goals as goal

pub elements-requires : goal.elements-requires
elements-requires c =
    let text = c.args.text.now in
    let judged = c.in_ok-judged.judged in
    let laid = laid_rows judged.lines.items in
    let j = judged_of text c.args.names.now c.args.lines.now c.deref.result.now laid judged.stop (c.deref.ensures.value ∙ c.in_ok-rows.ensures.rows) c.in_ok-judged.ensures.forms c.in_ok-judged.ensures.stop in
    arrays_known text c.args.names.now c.rows.new.names c.args.lines.now laid judged.stop c.names.result.now c.requires
    (extends_eq (with_names_of_all text c.args.names.now c.args.lines.now) c.rows.new.names c.in_ok-rows.ensures.table) j (c.names.ensures ∙ c.in_ok-laid.ensures.arrays)

pub returns-clause-table : goal.returns-clause-table
returns-clause-table c =
    let arrays = c.names.result.now in
    let base = with_names_of_all c.args.text.now c.args.names.now c.args.lines.now in
    c.in_ok-elements.ensures.table ∙ ap (λ t. with_arrays t arrays) c.in_ok-rows.ensures.table
    ∙ ap (with_arrays base) (named_here arrays (laid_rows c.in_ok-judged.judged.lines.items) (forest (in_nodes c.in_ok-laid.laid.nodes)) (c.names.ensures ∙ c.in_ok-laid.ensures.arrays) c.in_ok-laid.ensures.found.lines)

pub returns-clause-elements : goal.returns-clause-elements
returns-clause-elements c = λ t f.
    c.in_ok-elements.ensures.elements t f
    ∙ ap (elements_in t) (named_here c.names.result.now (laid_rows c.in_ok-judged.judged.lines.items) (forest (in_nodes c.in_ok-laid.laid.nodes)) (c.names.ensures ∙ c.in_ok-laid.ensures.arrays) c.in_ok-laid.ensures.found.lines)

pub returns-clause-extends : goal.returns-clause-extends
returns-clause-extends c = extends_trans c.args.names.now c.rows.new.names c.elements.new.names c.in_ok-rows.ensures.extends c.in_ok-elements.ensures.extends

pub invariant_of-result : goal.invariant_of-result
invariant_of-result c =
    let text = c.args.text.now in
    let old = c.args.names.now in
    let judged = c.in_ok-judged.judged in
    let laid = laid_rows judged.lines.items in
    let f = forest (in_nodes c.in_ok-laid.laid.nodes) in
    let w = c.in_ok-laid.ensures.found in
    let new = c.elements.new.names in
    let arrays = c.names.result.now in
    let j = judged_of text old c.args.lines.now c.deref.result.now laid judged.stop (c.deref.ensures.value ∙ c.in_ok-rows.ensures.rows) c.in_ok-judged.ensures.forms c.in_ok-judged.ensures.stop in
    record {
      single = part_single laid judged.stop f w;
      good = ∣ good_part text old c.args.lines.now laid judged.stop f new c.requires j w arrays (c.names.ensures ∙ c.in_ok-laid.ensures.arrays)
          (c.in_ok-elements.ensures.table ∙ ap (λ t. with_arrays t arrays) c.in_ok-rows.ensures.table)
          (seen c.in_ok-elements.elements) (c.in_ok-elements.ensures.elements new (extends_same new)) c.in_ok-elements.ensures.distinct ∣₁;
    }
