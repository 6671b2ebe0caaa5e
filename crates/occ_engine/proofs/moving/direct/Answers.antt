use Rattle.occ_engine.proofs.Putting.{old_kept, scope_there_kept}
use Rattle.occ_syntax.specs.View.{tree}
use Rattle.occ_engine.proofs.moving.direct.Goals as goal

pub apply-requires-clause-scope : goal.apply-requires-clause-scope
apply-requires-clause-scope c = scope_there_kept c.args.program c.args.used.now.path.now c.args.used.now.scope.now c.requires.rules c.requires.scope

pub apply-requires-clause-part : goal.apply-requires-clause-part
apply-requires-clause-part c =
    old_kept c.args.program c.args.used.now.path.now c.args.used.now.scope.now (tree c.in-Some.old.now) c.requires.rules c.requires.scope c.in-Some.ensures
