use Rattle.std.proofs.Common.{◌∙◌, sym}
use Rattle.std.specs.declared.cmp.Ordering.TheVariants.{Less, Equal, Greater}
use Rattle.occ_tool_run.proofs.Pairs.{of_alike, ordered}
use Rattle.occ_tool_run.proofs.judge.judge.Goals as goal

pub returns-in-Less-clause-settles : goal.returns-in-Less-clause-settles
returns-in-Less-clause-settles c = ordered Less c.args.question c.in_order.result c.args.first.now c.args.second.now (sym c.order.ensures ∙ c.in-Less.is) c.in_order.ensures.settles

pub returns-in-Equal-clause-settles : goal.returns-in-Equal-clause-settles
returns-in-Equal-clause-settles c = ordered Equal c.args.question c.alike.result c.args.first.now c.args.second.now (sym c.order.ensures ∙ c.in-Equal.is)
    (of_alike c.args.question c.alike.result c.args.first.now c.args.second.now c.alike.ensures.settles)

pub returns-in-Greater-clause-settles : goal.returns-in-Greater-clause-settles
returns-in-Greater-clause-settles c = ordered Greater c.args.question c.turned.result c.args.first.now c.args.second.now (sym c.order.ensures ∙ c.in-Greater.is) c.turned.ensures.settles
