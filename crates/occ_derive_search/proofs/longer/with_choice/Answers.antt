use Rattle.occ_derive_search.proofs.Lists.{if_more}
use Rattle.occ_syntax.specs.View.{tree}
use Rattle.occ_derive_search.proofs.longer.with_choice.Goals as goal

pub returns-in_ok-push-in-If : goal.returns-in_ok-push-in-If
returns-in_ok-push-in-If c =
    λ next h. if_more c.in-If.choices c.push.new.self c.args.condition c.args.part (tree c.args.whole) next c.in-If.ensures c.in_ok-push-in-If.ensures.ok h
