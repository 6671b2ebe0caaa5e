use Rattle.std.proofs.Common.{◌++◌, ap, ◌∙◌}
use Rattle.occ_syntax.specs.View.{tree}
use Rattle.occ_names.specs.Mentions.{outside, mentions}
use Rattle.occ_names.proofs.Collected.{outside-none}
use Rattle.occ_names.proofs.collect.mentions.Goals as goal

pub returns : goal.returns
returns c =
    let all = mentions (tree c.args.part.now) in
    c.in_ok-part.ensures.found ∙ ap (λ fs. fs ++ outside c.new.result all) c.new-2.ensures ∙ ap (λ b. outside b all) c.new.ensures ∙ outside-none all
