use Rattle.std.proofs.Common.{sym, ap, ◌∙◌}
use Rattle.std.specs.List.{list_any}
use Rattle.occ_parse_rules.specs.Names.{is_there}
use Rattle.occ_parse_rules.specs.Places.{places}
use Rattle.occ_parse_scopes.proofs.Declares.{there_below}
use Rattle.occ_parse_scopes.proofs.names.is_declared.Goals as goal

pub returns-in-Array : goal.returns-in-Array
returns-in-Array c =
    let scopes = c.args.scopes.now in
    c.has_elements_below.ensures ∙ sym (there_below scopes c.in-Array.name.0 c.in-Array.count) ∙ ap (λ d. list_any (is_there scopes) (places d)) (sym c.in-Array.is)
