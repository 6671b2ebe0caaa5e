-- One move of a program, and why it isn't made.
use Rattle.std.specs.Prelude.{ℕ, ◌≡◌, List, map, Option, None, Some, option_map}
use Rattle.occ_engine.specs.declared.fault.Stopped.{Stopped}
use Rattle.occ_engine.specs.declared.fault.Stopped.TheVariants as stopped
use Rattle.occ_engine.specs.declared.moving.Moved.{Moved}
use Rattle.occ_replay_rules.specs.Moves.{IsAdmitted, IsApplied, IsGranted, Move, Wish}
use Rattle.occ_replay_rules.specs.Orders.{Fails, IsFollowed, Order, no_law, no_path, not_accepted, not_applicable}
use Rattle.occ_script_write.specs.occ_law.declared.table.LawId.{LawId}
use Rattle.occ_script_write.specs.occ_meaning.Context.{part_at}
use Rattle.occ_script.specs.occ_parse_part.Shown.{part_of}
use Rattle.occ_replay_rules.specs.Steps.{Joins}
use Rattle.occ_script.specs.declared.script.Order.{Order as Read}
use Rattle.occ_script_write.specs.occ_script_lines.declared.direction.Direction.{Direction}
use Rattle.occ_script_write.specs.occ_script_lines.Places.{IsPutIn, scope_list}
use Rattle.occ_script_write.specs.declared.writing.Done.{Done}
use Rattle.occ_syntax.specs.declared.scope.Program.{Program}
use Rattle.occ_syntax.specs.Tree.{Tree}
use Rattle.occ_syntax.specs.View.{tree}

-- a step that was taken as a move
abbrev pub move_of : Done → Move
move_of done = record { law = done.law.0; dir = done.dir; path = done.path; part = tree done.part }

abbrev pub moves_of : List Done → List Move
moves_of steps = map move_of steps

abbrev pub wish_for : LawId → Direction → List ℕ → Option Tree → Wish
wish_for law dir path wanted = record { law = law.0; dir = dir; path = path; wanted = wanted }

-- a wish is granted by a move, which leads to a program
pub record IsMoved (program : Program) (wish : Wish) (moved : Moved) : Type 0 where
  pub granted : IsGranted program.params (tree program.body) wish (move_of moved.done)
  pub to : IsPutIn program wish.path (tree moved.done.part) moved.to

-- ---- a part that is given

-- The law doesn't join the part at the path with the one that is given, and may be put in.
pub record IsUnjoined (program : Program) (law : LawId) (dir : Direction) (path : List ℕ) (part : Tree) : Type 0 where
  pub old : Tree
  pub there : part_at path (tree program.body) ≡ Some old
  pub admitted : IsAdmitted program.params (tree program.body) path part
  pub apart : Joins dir law.0 (scope_list path program.params (tree program.body)) old part → ⊥

-- why a part that is given isn't taken
abbrev pub IsNotGiven : Program → LawId → Direction → List ℕ → Tree → Stopped → Type 0
IsNotGiven program law dir path part stopped.NotAccepted = IsAdmitted program.params (tree program.body) path part → ⊥
IsNotGiven program law dir path part stopped.NotApplicable = IsUnjoined program law dir path part
IsNotGiven program law dir path part stopped.Memory = Unit {0}
IsNotGiven program law dir path part stopped.NoLaw = ⊥
IsNotGiven program law dir path part stopped.NoPath = ⊥

-- ---- a direct result

-- the law has no direct result
pub record IsWithout (program : Program) (law : LawId) (dir : Direction) (path : List ℕ) : Type 0 where
  pub old : Tree
  pub there : part_at path (tree program.body) ≡ Some old
  pub none : (new : Tree) → IsApplied dir law.0 (scope_list path program.params (tree program.body)) None old new → ⊥

-- it has one, which may not be put in
pub record IsUnfit (program : Program) (law : LawId) (dir : Direction) (path : List ℕ) : Type 0 where
  pub old : Tree
  pub new : Tree
  pub there : part_at path (tree program.body) ≡ Some old
  pub applied : IsApplied dir law.0 (scope_list path program.params (tree program.body)) None old new
  pub refused : IsAdmitted program.params (tree program.body) path new → ⊥

-- why a direct result isn't taken
abbrev pub IsNotDirect : Program → LawId → Direction → List ℕ → Stopped → Type 0
IsNotDirect program law dir path stopped.NotApplicable = IsWithout program law dir path
IsNotDirect program law dir path stopped.NotAccepted = IsUnfit program law dir path
IsNotDirect program law dir path stopped.Memory = Unit {0}
IsNotDirect program law dir path stopped.NoLaw = ⊥
IsNotDirect program law dir path stopped.NoPath = ⊥

-- ---- an order

abbrev pub number_of : LawId → ℕ
number_of law = law.0

-- an order as the definitions have it
abbrev pub order_of : Read → Order
order_of o = record { law = option_map number_of o.law; dir = o.dir; path = o.path; part = option_map part_of o.part }

abbrev pub orders_of : List Read → List Order
orders_of orders = map order_of orders

-- an order is followed by a move, which leads to a program
pub record IsTaken (program : Program) (order : Order) (moved : Moved) : Type 0 where
  pub followed : IsFollowed program.params (tree program.body) order (move_of moved.done)
  pub to : IsPutIn program order.path (tree moved.done.part) moved.to

-- or it can't be followed
abbrev pub IsNotTaken : Program → Order → Stopped → Type 0
IsNotTaken program order stopped.NoLaw = Fails program.params (tree program.body) order no_law
IsNotTaken program order stopped.NoPath = Fails program.params (tree program.body) order no_path
IsNotTaken program order stopped.NotAccepted = Fails program.params (tree program.body) order not_accepted
IsNotTaken program order stopped.NotApplicable = Fails program.params (tree program.body) order not_applicable
IsNotTaken program order stopped.Memory = Unit {0}
