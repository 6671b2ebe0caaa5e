use Rattle.std.proofs.Common.{List, Option, ap, inl, subst, sym, ◌∙◌}
use Rattle.occ_script.specs.declared.fault.ScriptFault.{ScriptFault}
use Rattle.occ_script.specs.Refusals.{IsBadPart, bad_part, no_part}
use Rattle.occ_script_lines.specs.Sections.{section}
use Rattle.std.specs.List.{AllByRecursion}
use Rattle.std.specs.Prelude.{MatchOption}
use Rattle.occ_script_lines.specs.occ_lex.declared.token.Line.{Line}
use Rattle.occ_script_lines.specs.occ_lex.Placed.{IsLineOf}
use Rattle.occ_parse_part.specs.occ_parse_layout.declared.placed.Frame.TheVariants as frame
use Rattle.occ_parse_part.specs.occ_parse_layout.Layout.{laid_rows}
use Rattle.occ_parse_part.specs.occ_parse.declared.fault.ParseFault.{ParseFault}
use Rattle.occ_script.specs.declared.content.Content.TheVariants as content
use Rattle.occ_script.specs.Lines.{IsIllLaid, IsWellLaid, lacks_part}
use Rattle.occ_script.proofs.Judged.{no_part_here, placed_here}
use Rattle.occ_script.proofs.part.part.Goals as goal

pub raw-requires-clause-placed : goal.raw-requires-clause-placed
raw-requires-clause-placed c =
    let s = c.args.section.now in
    subst (λ (ls : List Line). AllByRecursion (IsLineOf s.upto.now) ls) (sym c.deref-2.ensures.value) (placed_here content.Part c.args.names.now c.judged_lines.new.names s c.in_ok-found.found c.in_ok-found.ensures.found)

pub raw-requires-clause-well : goal.raw-requires-clause-well
raw-requires-clause-well c =
    let found = c.in_ok-found.found in
    let well = subst (λ (o : Option ParseFault). MatchOption o (IsWellLaid frame.Part (laid_rows found.judged.lines.items) found.judged.stop) (IsIllLaid frame.Part (laid_rows found.judged.lines.items) found.judged.stop)) c.in_default.is c.in_ok-fault.ensures in
    no_part_here c.one_form.ensures c.args.section.now c.args.names.now c.judged_lines.new.names found c.deref-2.result.now c.in_ok-found.ensures.found well c.deref-2.ensures.value

pub returns-then-lacks_part-clause-refused : goal.returns-then-lacks_part-clause-refused
returns-then-lacks_part-clause-refused c =
    let judged = c.in_ok-found.found.judged in
    inl (no_part (laid_rows judged.lines.items) judged.stop c.in_ok-found.ensures.found.judged
    (sym (c.lacks_part.ensures ∙ ap (λ ps. lacks_part (laid_rows ps) judged.stop) c.deref.ensures.value) ∙ c.if-lacks_part.true))

pub returns-in-Some-clause-refused : goal.returns-in-Some-clause-refused
returns-in-Some-clause-refused c =
    let judged = c.in_ok-found.found.judged in
    let s = section c.args.section.now in
    let ill = subst (λ (o : Option ParseFault). MatchOption o (IsWellLaid frame.Part (laid_rows judged.lines.items) judged.stop) (IsIllLaid frame.Part (laid_rows judged.lines.items) judged.stop)) c.in-Some.is c.in_ok-fault.ensures in
    inl (subst (λ (e : ScriptFault). IsBadPart c.args.names.now s e) (sym c.text_fault.ensures)
    (bad_part c.in-Some.fault
    (record { laid = laid_rows judged.lines.items; stop = judged.stop; judged = c.in_ok-found.ensures.found.judged; there = sym (c.lacks_part.ensures ∙ ap (λ ps. lacks_part (laid_rows ps) judged.stop) c.deref.ensures.value) ∙ c.if-lacks_part.false })
    (record { laid = laid_rows judged.lines.items; stop = judged.stop; judged = c.in_ok-found.ensures.found.judged; ill = ill })))
