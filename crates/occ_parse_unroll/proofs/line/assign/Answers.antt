use Rattle.occ_parse_forms.specs.Shape.{all_said}
use Rattle.occ_parse_forms.proofs.from_lex.Interned.{longer}
use Rattle.occ_parse_unroll.proofs.Known.{all_said_known}
use Rattle.occ_parse_unroll.specs.Elements.{items_places, values_places}
use Rattle.occ_parse_unroll.specs.Present.{values_of}
use Rattle.occ_parse_unroll.proofs.Elements.{two_steps}
use Rattle.occ_parse_unroll.proofs.line.assign.Goals as goal

pub values-requires : goal.values-requires
values-requires g c = λ n. all_said_known _ _ (all_said c.args.right.now) (longer _ _ c.in_ok-vars.ensures.extends) (c.requires.right n)

pub returns-clause-table : goal.returns-clause-table
returns-clause-table g c =
    let Γ = c.args.context.now.scopes in
    let ρ = values_of c.args.context.now.values in
    two_steps (g.S.Numbering.brings c.args.source.now) _ _ _ (items_places ρ c.args.left.now) (values_places Γ ρ c.args.left.now (all_said c.args.right.now)) c.in_ok-vars.ensures.table c.in_ok-values.ensures.table
