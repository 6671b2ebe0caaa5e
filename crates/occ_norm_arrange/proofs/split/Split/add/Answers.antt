use Rattle.std.proofs.Common.{ap, sym, ◌∙◌}
use Rattle.occ_syntax.specs.Names.{is_in}
use Rattle.occ_syntax.specs.View.{numbers}
use Rattle.occ_norm_arrange.proofs.Noting.{apart_from}
use Rattle.occ_norm_arrange.proofs.split.Split.add.Goals as goal

pub add_straight-requires-clause-off : goal.add_straight-requires-clause-off
add_straight-requires-clause-off c =
    apart_from c.as_slice-names.result.now _ _ (λ x. ap (λ ns. is_in (numbers ns) x) c.as_slice-names.ensures.value ∙ c.in_ok-found.ensures.members x) (sym c.has_any.ensures ∙ c.if-has_any.false)

pub add_other-requires-clause-off : goal.add_other-requires-clause-off
add_other-requires-clause-off c =
    apart_from c.as_slice-names.result.now _ _ (λ x. ap (λ ns. is_in (numbers ns) x) c.as_slice-names.ensures.value ∙ c.in_ok-found.ensures.members x) (sym c.has_any.ensures ∙ c.if-has_any.false)
