use Rattle.std.proofs.Common.{[], ap, ◌∙◌}
use Rattle.occ_parse_forms.proofs.from_lex.Interned.{extends_trans, longer}
use Rattle.occ_parse_rules.specs.Forest.{forest}
use Rattle.occ_parse_rules.specs.Places.{declared_in, param_entries}
use Rattle.occ_parse_rules.specs.Unrolled.{slot, unrolled}
use Rattle.occ_parse_unroll.specs.Numbers.{number_in}
use Rattle.occ_parse_unroll.specs.Present.{values_of}
use Rattle.occ_parse_unroll.proofs.Known.{lines_known}
use Rattle.occ_parse_unroll.specs.Elements.{elements, params_places, with_element, with_places}
use Rattle.occ_parse_unroll.proofs.Elements.{two_steps}
use Rattle.occ_parse_unroll.proofs.program.unroll.Goals as goal

pub slot-requires : goal.slot-requires
slot-requires c = λ n. lines_known _ _ (forest c.args.below.now) (longer _ _ c.in_ok-params.ensures.extends) c.requires.lines

pub returns-clause-params : goal.returns-clause-params
returns-clause-params c = λ t e. c.in_ok-params.ensures.params t (extends_trans c.declare_params.new.names c.slot.new.names t c.in_ok-body.ensures.extends e)

pub returns-clause-body : goal.returns-clause-body
returns-clause-body c = λ t e.
    let below = unrolled (number_in t) (forest c.args.below.now) in
    let entries = param_entries c.args.params.now in
    c.in_ok-body.ensures.tree t e
    ∙ ap (λ Γ. slot below Γ (values_of c.declare_params.new.context.values)) (c.in_ok-params.ensures.scopes ∙ ap (λ Γ. declared_in Γ entries) c.new-context.ensures.scopes)
    ∙ ap (λ vs. slot below (declared_in [] entries) (values_of vs)) (c.in_ok-params.ensures.values ∙ c.new-context.ensures.values)

pub returns-clause-table : goal.returns-clause-table
returns-clause-table c =
    let t = c.declare_params.new.names in
    let below = elements (forest c.args.below.now) in
    let entries = param_entries c.args.params.now in
    two_steps with_element _ _ _ (params_places c.args.params.now) (below.first (declared_in [] entries) (λ i. 0)) c.in_ok-params.ensures.table
    (c.in_ok-body.ensures.table
    ∙ ap (λ Γ. with_places t (below.first Γ (values_of c.declare_params.new.context.values))) (c.in_ok-params.ensures.scopes ∙ ap (λ Γ. declared_in Γ entries) c.new-context.ensures.scopes)
    ∙ ap (λ vs. with_places t (below.first (declared_in [] entries) (values_of vs))) (c.in_ok-params.ensures.values ∙ c.new-context.ensures.values))
