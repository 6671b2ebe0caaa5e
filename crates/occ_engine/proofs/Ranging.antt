-- Steps that are moves have laws of the table.
use Rattle.std.proofs.Common.{◌≡◌, List, [], ◌∷◌}
use Rattle.std.specs.List.{AllByRecursion}
use Rattle.occ_syntax.specs.occ_base.declared.names.Name.{Name}
use Rattle.occ_engine.specs.Moved.{moves_of}
use Rattle.occ_engine.specs.Outcomes.{IsLed, IsOutcome, IsTabled}
use Rattle.occ_engine.specs.declared.outcome.Outcome.{Outcome}
use Rattle.occ_replay_rules.proofs.Moving.{follows_moves}
use Rattle.occ_replay_rules.proofs.Numbers.{joined_number}
use Rattle.occ_replay_rules.specs.Moves.{IsMove, Move, Moves, and_move}
use Rattle.occ_replay_rules.specs.Orders.{Order}
use Rattle.occ_script_write.specs.occ_meaning.Context.{put}
use Rattle.occ_script_write.specs.declared.writing.Done.{Done}
use Rattle.occ_syntax.specs.declared.scope.Kind.{Kind}
use Rattle.occ_syntax.specs.declared.scope.Program.{Program}
use Rattle.occ_syntax.specs.Tree.{Tree}
use Rattle.occ_syntax.specs.View.{tree}

-- of moves one by one
pub first_move : (S : List (Name × Kind)) (p q : Tree) (move : Move) (moves : List Move) → Moves S p (move ∷ moves) q → IsMove S p move × Moves S (put move.path p move.part) moves q
first_move S p q move moves (and_move a b m rest here further) = (here, further)

tabled : (S : List (Name × Kind)) (p q : Tree) (steps : List Done) → Moves S p (moves_of steps) q → AllByRecursion IsTabled steps
tabled S p q [] m = tt
tabled S p q (done ∷ steps) m =
    let f = first_move S p q _ (moves_of steps) m in
    let n = joined_number done.dir done.law.0 _ f.0.old (tree done.part) f.0.joins in
    (record { low = n.0; high = n.1 }, tabled S (put done.path p (tree done.part)) q steps f.1)

-- moves are an outcome
pub outcome_of : (from : Program) (outcome : Outcome) → outcome.to.name ≡ from.name → outcome.to.params ≡ from.params
    → Moves from.params (tree from.body) (moves_of outcome.steps) (tree outcome.to.body) → IsOutcome from outcome
outcome_of from outcome name params moves = record {
  name = name;
  params = params;
  moves = moves;
  tabled = tabled from.params (tree from.body) (tree outcome.to.body) outcome.steps moves;
}

pub led_out : (from : Program) (orders : List Order) (outcome : Outcome) → IsLed from orders outcome.steps outcome.to → IsOutcome from outcome
led_out from orders outcome d =
    outcome_of from outcome d.name d.params (follows_moves from.params (tree from.body) (tree outcome.to.body) orders (moves_of outcome.steps) d.followed)
