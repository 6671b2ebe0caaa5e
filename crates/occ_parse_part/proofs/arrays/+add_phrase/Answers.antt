use Rattle.std.proofs.Common.{ap}
use Rattle.occ_parse_forms.specs.Shape.{said}
use Rattle.occ_parse.proofs.from_parse_unroll.Results.{on_ok}
use Rattle.occ_parse_part.proofs.Listed.{noted_two}
use Rattle.occ_parse_part.proofs.arrays.+add_phrase.Goals as goal

pub returns-in_ok-add_phrase-in-Two : goal.returns-in_ok-add_phrase-in-Two
returns-in_ok-add_phrase-in-Two t c =
    on_ok c.add_phrase-in-Two-2.result _ _
    (λ h. noted_two (said c.args.phrase.now) _ _ (said c.deref-in-Two.result.now) (said c.deref-in-Two-2.result.now) _ c.args.arrays.now _ _
    (ap said c.in-Two.is) (ap said c.deref-in-Two.ensures) (ap said c.deref-in-Two-2.ensures) c.in_ok-add_phrase-in-Two.ensures h)
    c.add_phrase-in-Two-2.ensures
