use Rattle.occ_parse_forms.specs.Shape.{said, waiting}
use Rattle.occ_parse_rules.specs.Names.{items_in, items_of_waiting}
use Rattle.occ_parse.proofs.from_parse_unroll.Results.{on_ok}
use Rattle.occ_parse_part.specs.Arrays.{item_array}
use Rattle.occ_parse_part.proofs.Listed.{noted_both}
use Rattle.occ_parse_part.proofs.arrays.add_guard.Goals as goal

pub returns : goal.returns
returns c =
    on_ok c.add_wants.result _ _
    (λ h. noted_both item_array (items_in (said c.args.condition.now)) (items_of_waiting (waiting c.args.wants.now)) c.args.arrays.now _ _ c.in_ok-add_phrase.ensures h)
    c.add_wants.ensures
