use Rattle.std.proofs.Common.{IfOk, sym, subst}
use Rattle.occ_tool_run.specs.declared.judge.Question.{Question}
use Rattle.occ_tool_run.specs.Answers.{Replies}
use Rattle.occ_tool_run.specs.Stored.{seen}
use Rattle.occ_tool_run.proofs.judge.reply.Goals as goal

pub returns-in-WhetherSame-clause-settles : goal.returns-in-WhetherSame-clause-settles
returns-in-WhetherSame-clause-settles c =
    let P : Question → Type 0 = λ q. IfOk c.compared.result (Replies q (seen c.args.left.now.program) c.args.names (seen c.args.right.now.program)) in
    subst P (sym c.in-WhetherSame.is) c.compared.ensures.settles

pub returns-in-WhetherRefined-clause-settles : goal.returns-in-WhetherRefined-clause-settles
returns-in-WhetherRefined-clause-settles c =
    let P : Question → Type 0 = λ q. IfOk c.allowed.result (Replies q (seen c.args.left.now.program) c.args.names (seen c.args.right.now.program)) in
    subst P (sym c.in-WhetherRefined.is) c.allowed.ensures.settles
