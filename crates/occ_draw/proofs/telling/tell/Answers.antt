use Rattle.std.proofs.Common.{refl, subst}
use Rattle.occ_tool_run.specs.occ_script.Shown.{shown_step}
use Rattle.occ_syntax.specs.View.{tree}
use Rattle.occ_draw.specs.Stopping.{IsOfTable}
use Rattle.occ_draw.proofs.Listed.{put_whole, with_all, without_law, without_part, without_path}
use Rattle.occ_draw.proofs.telling.tell.Goals as goal

pub returns-in_default-clause-refused : goal.returns-in_default-clause-refused
returns-in_default-clause-refused c = (refl, without_law c.args.program.params (tree c.args.program.body) c.args.number (shown_step c.args.step.now) c.in_default.is)

pub returns-in_default-at-clause-refused : goal.returns-in_default-at-clause-refused
returns-in_default-at-clause-refused c =
    (refl, without_path c.args.program.params (tree c.args.program.body) c.args.number (shown_step c.args.step.now) c.in-Some.law c.in-Some.is c.in_default-at.ensures)

pub returns-in-Err-clause-refused : goal.returns-in-Err-clause-refused
returns-in-Err-clause-refused c =
    without_part c.args.program.params (tree c.args.program.body) c.args.number (shown_step c.args.step.now) c.in-Some.law (tree c.in-Some-at.old.now) c.in_ok-scope.scope c.in-Err.untold
    c.in-Some.is c.in-Some-at.ensures c.in_ok-scope.ensures c.in-Err.ensures.refused

pub push_step-requires : goal.push_step-requires
push_step-requires c = subst IsOfTable c.in-Some.is c.requires

pub returns-clause-line : goal.returns-clause-line
returns-clause-line c =
    with_all c.args.program.params (tree c.args.program.body) c.args.number (shown_step c.args.step.now) c.in-Some.law (tree c.in-Some-at.old.now) (tree c.in-Ok.part) c.in_ok-scope.scope
    c.args.text.now.items c.push_step.new.text.items c.in-Some.is c.in-Some-at.ensures c.in_ok-scope.ensures c.in-Ok.ensures.faultless c.in-Ok.ensures.found c.in_ok-push_step.ensures

pub returns-clause-body : goal.returns-clause-body
returns-clause-body c =
    put_whole c.args.program.params (tree c.args.program.body) c.args.number (shown_step c.args.step.now) (tree c.in-Ok.part) (tree c.in_ok-next.next.body) c.in_ok-scope.scope
    c.in_ok-scope.ensures c.in-Ok.ensures.found c.in_ok-next.ensures.put.body
