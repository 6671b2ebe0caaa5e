-- Parts that orders give.
use Rattle.std.specs.Prelude.{ℕ, ◌≡◌, true, List, Some}
use Rattle.std.specs.List.{AllByRecursion}
use Rattle.occ_engine.specs.occ_base.declared.names.Name.{Name}
use Rattle.occ_engine.specs.occ_replay_rules.Orders.{IsGiven, Order}
use Rattle.occ_engine.specs.occ_parse.Known.{declares, is_below}
use Rattle.occ_engine.specs.occ_syntax.declared.scope.Kind.{Kind}
use Rattle.occ_engine.specs.occ_syntax.Tree.{Tree}

-- whatever process the order gives in a scope, the names that it declares are below n
abbrev pub GivesBelow : ℕ → Order → Type 0
GivesBelow n order = (scope : List (Name × Kind)) (p : Tree) → IsGiven scope order.part (Some p) → declares (is_below n) p ≡ true

abbrev pub AllGiveBelow : ℕ → List Order → Type 0
AllGiveBelow n orders = AllByRecursion (GivesBelow n) orders
