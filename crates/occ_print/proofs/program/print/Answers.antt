use Rattle.std.proofs.Common.{◌<◌, ◌++◌, List, ap, length, subst, sym, ◌∙◌}
use Rattle.std.specs.List.{AllByRecursion}
use Rattle.occ_syntax.specs.occ_base.declared.names.Name.{Name}
use Rattle.occ_syntax.specs.declared.scope.Kind.{Kind}
use Rattle.occ_parse_forms.specs.occ_lex.declared.symbol.Symbol.{Symbol}
use Rattle.occ_parse_forms.specs.occ_lex.Symbols.{IsKnown}
use Rattle.occ_print.specs.Symbols.{header_symbols}
use Rattle.occ_print.proofs.Naming.{header_known, part_known}
use Rattle.occ_print.proofs.program.print.Goals as goal

pub push_line-requires : goal.push_line-requires
push_line-requires c =
    let names = c.args.names.now in
    let params = subst (λ (ps : List (Name × Kind)). AllByRecursion (λ (p : Name × Kind). p.0.0 < length names) ps) (sym c.items.ensures) c.requires.params_are in
    subst (λ (symbols : List Symbol). AllByRecursion (IsKnown names) symbols) (sym (c.items-2.ensures ∙ c.in_ok-push_header.ensures ∙ ap (λ (t : List Symbol). t ++ header_symbols c.args.program.now.name.0 c.items.result.now) c.new-header.ensures))
    (header_known names _ _ c.requires.name_is params)

pub push_part-requires : goal.push_part-requires
push_part-requires c = part_known _ _ _ c.requires.body_is
