use Rattle.std.proofs.Common.{ℕ, List, Option, ap, refl, subst, sym, ◌∙◌}
use Rattle.std.specs.List.{AllByRecursion}
use Rattle.occ_script_lines.specs.occ_lex.declared.fault.LineFault.{LineFault}
use Rattle.occ_script_lines.specs.occ_lex.declared.token.Line.{Line}
use Rattle.occ_script_lines.specs.occ_lex.Placed.{IsLineOf}
use Rattle.occ_script_lines.specs.occ_lex.Symbols.{rows_of, with_names_of_all}
use Rattle.occ_script.proofs.Judged.{are_lines}
use Rattle.occ_script.proofs.judging.judged_lines.Goals as goal
use Rattle.occ_script_lines.proofs.Divided.{section_lines}

pub rows-requires : goal.rows-requires
rows-requires c =
    let s = c.args.section.now in
    subst (λ (ls : List Line). AllByRecursion (IsLineOf s.upto.now) ls) (sym (c.deref.ensures.value ∙ ap (λ (r : List Line × Option (ℕ × LineFault)). r.0) c.in_ok-reading.ensures)) (section_lines s s.within)

pub returns-clause-found : goal.returns-clause-found
returns-clause-found c =
    let s = c.args.section.now in
    let old = c.args.names.now in
    are_lines c.args.content c.bound.result old c.rows.new.names s c.in_ok-reading.reading.lines.items c.in_ok-reading.reading.fault c.deref-2.result.now _ s.within c.bound.ensures c.in_ok-reading.ensures
    (c.deref-2.ensures.value ∙ c.in_ok-rows.ensures.rows ∙ ap (λ ls. rows_of s.upto.now old ls) c.deref.ensures.value)
    (c.in_ok-rows.ensures.table ∙ ap (λ ls. with_names_of_all s.upto.now old ls) c.deref.ensures.value)
    c.in_ok-judged.ensures.forms c.in_ok-judged.ensures.stop refl
