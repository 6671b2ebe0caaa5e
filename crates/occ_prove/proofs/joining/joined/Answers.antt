use Rattle.std.proofs.Common.{◌≡◌, ◌++◌, List, reverse, subst}
use Rattle.std.proofs.lemmas.Result.{IfOk-weaker}
use Rattle.occ_tool_run.specs.occ_engine.Moved.{moves_of}
use Rattle.occ_tool_run.specs.occ_script_write.declared.writing.Done.{Done}
use Rattle.occ_syntax.specs.declared.scope.Program.{Program}
use Rattle.occ_syntax.specs.Scopes.{environment}
use Rattle.occ_syntax.specs.Usage.{Keeps}
use Rattle.occ_syntax.specs.View.{tree}
use Rattle.occ_prove.specs.Joined.{AreWritable, IsProof}
use Rattle.occ_prove.specs.Undone.{AreUndone}
use Rattle.occ_prove.proofs.Steps.{joined_proof, joined_writable}
use Rattle.occ_prove.proofs.joining.joined.Goals as goal

pub returns-clause-proof : goal.returns-clause-proof
returns-clause-proof c =
    let left = c.args.left.now.program in
    let right = c.args.right.now.program in
    let back = c.in_ok-back.back.items in
    let same = c.program.ensures.same in
    let P : Program → Type 0 = λ q. Keeps (environment q.params) (tree q.body) in
    let Q : Program → Type 0 = λ q. AreUndone (tree q.body) (moves_of c.args.back.now.steps) (moves_of back) in
    let whole : List Done → Type 0 = λ steps. steps ≡ c.args.there.steps ++ reverse back in
    IfOk-weaker c.behind.result whole (IsProof left right)
    (λ steps e. joined_proof c.steps_go_on.ensures c.undone_steps_lead_back.ensures left right c.args.there c.args.back.now back steps e c.requires.header c.requires.there
    c.requires.back c.requires.meet (subst P same c.program.ensures.accepted.keeps) (subst Q same c.in_ok-back.ensures))
    c.behind.ensures

pub returns-clause-writable : goal.returns-clause-writable
returns-clause-writable c = λ names w v known.
    let right = c.args.right.now.program in
    let back = c.in_ok-back.back.items in
    let Q : Program → Type 0 = λ q. AreUndone (tree q.body) (moves_of c.args.back.now.steps) (moves_of back) in
    let whole : List Done → Type 0 = λ steps. steps ≡ c.args.there.steps ++ reverse back in
    IfOk-weaker c.behind.result whole (AreWritable names)
    (λ steps e. joined_writable names (tree right.body) c.args.there.steps c.args.back.now.steps back steps e known.body_is w v (subst Q c.program.ensures.same c.in_ok-back.ensures))
    c.behind.ensures
