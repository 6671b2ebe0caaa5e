use Rattle.std.proofs.Common.{sym, subst}
use Rattle.occ_engine.proofs.Putting.{old_kept, put_kept, scope_there_kept}
use Rattle.occ_engine.specs.Exchanged.{IsExchange, IsIn}
use Rattle.occ_syntax.specs.Scopes.{environment}
use Rattle.occ_syntax.specs.Usage.{Keeps}
use Rattle.occ_syntax.specs.View.{tree}
use Rattle.occ_engine.proofs.moving.given.Goals as goal

pub joins-requires-clause-scope : goal.joins-requires-clause-scope
joins-requires-clause-scope c = scope_there_kept c.args.program c.args.used.now.path.now c.args.used.now.scope.now c.requires.rules c.requires.scope

pub joins-requires-clause-old : goal.joins-requires-clause-old
joins-requires-clause-old c =
    let path = c.args.used.now.path.now in
    let within : IsIn c.args.program path (tree c.args.part) c.in-Some.exchange = subst (IsExchange c.args.program path (tree c.args.part)) c.in-Some.is c.in_ok-exchange.ensures in
    old_kept c.args.program path c.args.used.now.scope.now (tree c.in-Some.exchange.old) c.requires.rules c.requires.scope within.old

pub joins-requires-clause-new : goal.joins-requires-clause-new
joins-requires-clause-new c =
    let path = c.args.used.now.path.now in
    let scope = c.args.used.now.scope.now in
    let within : IsIn c.args.program path (tree c.args.part) c.in-Some.exchange = subst (IsExchange c.args.program path (tree c.args.part)) c.in-Some.is c.in_ok-exchange.ensures in
    subst (Keeps (environment scope)) (sym within.new_is)
    (put_kept c.args.program path scope (tree c.in-Some.exchange.old) (tree c.args.part) c.requires.rules c.requires.scope within.old within.admitted)
