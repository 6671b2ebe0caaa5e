use Rattle.std.proofs.Common.{ap, ◌∙◌}
use Rattle.occ_syntax.specs.View.{cases, in_choices}
use Rattle.occ_law_shape.specs.occ_law.Lists.{all_cases}
use Rattle.occ_law_if.proofs.Putting.{put_is}
use Rattle.occ_law_if.proofs.made.copied.Goals as goal

pub returns : goal.returns
returns c =
    put_is (cases (in_choices c.new-made.result)) (cases (in_choices c.add_copies.new.made)) (cases c.args.choices.now) c.in_ok-add_copies.ensures
    ∙ ap (λ z. all_cases (cases z) (cases c.args.choices.now)) c.new-made.ensures
