use Rattle.std.proofs.Common.{List, Option, inl, subst, sym}
use Rattle.std.specs.List.{AllByRecursion}
use Rattle.std.specs.Prelude.{MatchOption}
use Rattle.occ_script_lines.specs.occ_lex.declared.token.Line.{Line}
use Rattle.occ_script_lines.specs.occ_lex.Placed.{IsLineOf}
use Rattle.occ_parse_part.specs.occ_parse_layout.declared.placed.Frame.TheVariants as frame
use Rattle.occ_parse_part.specs.occ_parse_layout.Layout.{laid_rows}
use Rattle.occ_parse_part.specs.occ_parse.declared.fault.ParseFault.{ParseFault}
use Rattle.occ_script.specs.declared.content.Content.TheVariants as content
use Rattle.occ_script.specs.Lines.{IsIllLaid, IsWellLaid}
use Rattle.occ_script.proofs.Judged.{no_part_here, placed_here}
use Rattle.occ_script.proofs.listing.part_there.Goals as goal

pub raw-requires-clause-placed : goal.raw-requires-clause-placed
raw-requires-clause-placed c =
    let s = c.args.section.now in
    subst (λ (ls : List Line). AllByRecursion (IsLineOf s.upto.now) ls) (sym c.deref.ensures.value) (placed_here content.Part c.args.names.now c.judged_lines.new.names s c.in_ok-found.found c.in_ok-found.ensures.found)

pub raw-requires-clause-well : goal.raw-requires-clause-well
raw-requires-clause-well c =
    let found = c.in_ok-found.found in
    let well = subst (λ (o : Option ParseFault). MatchOption o (IsWellLaid frame.Part (laid_rows found.judged.lines.items) found.judged.stop) (IsIllLaid frame.Part (laid_rows found.judged.lines.items) found.judged.stop)) c.in_default.is c.in_ok-fault.ensures in
    no_part_here c.one_form.ensures c.args.section.now c.args.names.now c.judged_lines.new.names found c.deref.result.now c.in_ok-found.ensures.found well c.deref.ensures.value

pub returns-in-Some-clause-refused : goal.returns-in-Some-clause-refused
returns-in-Some-clause-refused c =
    let judged = c.in_ok-found.found.judged in
    let ill = subst (λ (o : Option ParseFault). MatchOption o (IsWellLaid frame.Part (laid_rows judged.lines.items) judged.stop) (IsIllLaid frame.Part (laid_rows judged.lines.items) judged.stop)) c.in-Some.is c.in_ok-fault.ensures in
    inl (record { fault = c.in-Some.fault; ill = record { laid = laid_rows judged.lines.items; stop = judged.stop; judged = c.in_ok-found.ensures.found.judged; ill = ill }; is = c.text_fault.ensures })
