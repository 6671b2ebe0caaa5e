use Rattle.std.proofs.Common.{Some, ap, ◌∙◌}
use Rattle.occ_parse_unroll.specs.Numbers.{numbering}
use Rattle.occ_parse_unroll.proofs.Declaring.{one_named}
use Rattle.occ_parse_unroll.proofs.Results.{on_ok}
use Rattle.occ_parse_unroll.proofs.naming.name_places.Goals as goal

pub returns-in_ok-element-in-Element-clause-waiting :
    goal.returns-in_ok-element-in-Element-clause-waiting
returns-in_ok-element-in-Element-clause-waiting g c =
    on_ok c.push-in-Element.result _ _
    (λ p t f. one_named (numbering (g.S.Numbering.number c.args.source.now t)) _ _ _ _ c.in_ok-element-in-Element.field-0 _ _ c.in-Element.is
    (c.in_ok-element-in-Element.ensures.number t f ∙ ap (λ k. numbering (g.S.Numbering.number c.args.source.now t) c.in-Element.array.0 (Some k)) c.from.ensures) p)
    c.push-in-Element.ensures.ok
