use Rattle.std.proofs.Common.{length, ap, sym, subst, ◌∙◌}
use Rattle.occ_parse_forms.specs.Shape.{said, shape, waiting}
use Rattle.occ_parse_forms.proofs.from_lex.Interned.{longer}
use Rattle.occ_parse_unroll.specs.Known.{IsKnownLine}
use Rattle.occ_parse_unroll.proofs.Known.{waiting_known}
use Rattle.occ_parse_unroll.specs.Elements.{guard_places, places_in, waiting_places, brought}
use Rattle.occ_parse_unroll.specs.Present.{values_of}
use Rattle.occ_parse_unroll.proofs.Elements.{two_steps}
use Rattle.occ_parse_unroll.proofs.line.guard.Goals as goal

pub wait-requires : goal.wait-requires
wait-requires g c =
    λ n.
    let both = subst (λ f. IsKnownLine (length c.args.names.now) (shape f)) c.in-Guard.is (c.requires.known n) in
    waiting_known _ _ (waiting c.in-Guard.wants) (longer _ _ c.in_ok-condition-in-Guard.ensures.extends) both.1

pub returns-in_ok-wait-in-Guard-clause-table : goal.returns-in_ok-wait-in-Guard-clause-table
returns-in_ok-wait-in-Guard-clause-table g c =
    let Γ = c.args.context.now.scopes in
    let ρ = values_of c.args.context.now.values in
    two_steps (g.S.Numbering.brings c.args.source.now) _ _ _ (places_in Γ ρ (said c.in-Guard.condition)) (waiting_places Γ ρ (waiting c.in-Guard.wants)) c.in_ok-condition-in-Guard.ensures.table c.in_ok-wait-in-Guard.ensures.table
    ∙ sym (ap (λ f. brought (g.S.Numbering.brings c.args.source.now) c.args.names.now (guard_places Γ ρ (shape f))) c.in-Guard.is)
