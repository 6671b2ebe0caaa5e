use Rattle.std.proofs.Common.{false, [], ◌∷◌, sym, ap, ◌∙◌, subst}
use Rattle.occ_parse_forms.specs.Shape.{said, waiting}
use Rattle.occ_parse_rules.specs.Names.{items_in, items_of_waiting}
use Rattle.occ_parse_rules.specs.Places.{for_some}
use Rattle.occ_parse_rules.specs.Types.{waiting_untyped}
use Rattle.occ_parse_scopes.proofs.Taken.{for_some_still}
use Rattle.occ_parse_types.specs.Asking.{AllThere}
use Rattle.occ_parse_types.proofs.Widths.{there_back}
use Rattle.occ_parse_types.proofs.line.wants_untyped.Goals as goal

pub untyped-requires-clause-there : goal.untyped-requires-clause-there
untyped-requires-clause-there c = there_back c.args.scopes.now (c.in-Output.chan ∷ []) (items_in (said c.in-Output.value)) (subst (λ w. AllThere c.args.scopes.now (items_of_waiting (waiting w))) c.in-Output.is c.requires.there)

pub returns-in-Skip : goal.returns-in-Skip
returns-in-Skip c = sym (ap (λ w. for_some c.args.scopes.now (λ ρ. waiting_untyped c.args.scopes.now ρ (waiting w))) c.in-Skip.is ∙ for_some_still c.args.scopes.now false)

pub returns-in-Input : goal.returns-in-Input
returns-in-Input c = sym (ap (λ w. for_some c.args.scopes.now (λ ρ. waiting_untyped c.args.scopes.now ρ (waiting w))) c.in-Input.is ∙ for_some_still c.args.scopes.now false)
