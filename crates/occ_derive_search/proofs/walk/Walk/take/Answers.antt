use Rattle.std.proofs.Common.{subst}
use Rattle.occ_derive_search.proofs.Taking.{part_kept}
use Rattle.occ_derive_search.specs.Walking.{IsExchange, IsIn}
use Rattle.occ_engine.proofs.Putting.{old_kept, scope_there_kept}
use Rattle.occ_syntax.specs.View.{tree}
use Rattle.occ_derive_search.proofs.walk.Walk.take.Goals as goal

pub joins-requires-clause-scope : goal.joins-requires-clause-scope
joins-requires-clause-scope c = scope_there_kept c.args.self.here c.args.step.now.path c.in_ok-scope.scope c.requires c.in_ok-scope.ensures

pub joins-requires-clause-old : goal.joins-requires-clause-old
joins-requires-clause-old c =
    let in_it : IsIn c.args.self.here c.args.step.now c.in-Some-2.exchange = subst (IsExchange c.args.self.here c.args.step.now) c.in-Some-2.is c.in_ok-exchange.ensures in
    old_kept c.args.self.here c.args.step.now.path c.in_ok-scope.scope (tree c.in-Some-2.exchange.old) c.requires c.in_ok-scope.ensures in_it.old

pub joins-requires-clause-new : goal.joins-requires-clause-new
joins-requires-clause-new c =
    let step = c.args.step.now in
    let exchange = c.in-Some-2.exchange in
    let in_it : IsIn c.args.self.here step exchange = subst (IsExchange c.args.self.here step) c.in-Some-2.is c.in_ok-exchange.ensures in
    part_kept c.args.self.here exchange.whole step.path c.in_ok-scope.scope (tree exchange.old) (tree step.part) c.requires c.in_ok-scope.ensures in_it.old in_it.whole in_it.kept
