use Rattle.std.proofs.Common.{◌≡◌, ◌++◌, List}
use Rattle.occ_syntax.specs.occ_base.declared.names.Name.{Name}
use Rattle.occ_syntax.specs.declared.scope.Kind.{Kind}
use Rattle.occ_run.proofs.Channels.{on_top}
use Rattle.occ_run.proofs.place.Place.within.Given as goal

-- the channels that are left come on top of those so far
abbrev pub invariant-loop-name : goal.invariant-loop-name
invariant-loop-name l = (scope : List (Name × Kind)) → l.scope.items ++ on_top l.name-iterator.iter.rest.now scope ≡ on_top l.more scope
