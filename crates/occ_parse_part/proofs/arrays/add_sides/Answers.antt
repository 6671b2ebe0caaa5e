use Rattle.occ_parse_forms.specs.Shape.{all_said}
use Rattle.occ_parse_rules.specs.Names.{items_in_all}
use Rattle.occ_parse.proofs.from_parse_unroll.Results.{on_ok}
use Rattle.occ_parse_part.specs.Arrays.{item_array}
use Rattle.occ_parse_part.proofs.Listed.{noted_both}
use Rattle.occ_parse_part.proofs.arrays.add_sides.Goals as goal

pub returns : goal.returns
returns c =
    on_ok c.add_phrases.result _ _
    (λ h. noted_both item_array c.args.left.now (items_in_all (all_said c.args.right.now)) c.args.arrays.now _ _ c.in_ok-add_items.ensures h)
    c.add_phrases.ensures
