-- Orders followed one after the other, and why one can't be.
use Rattle.std.specs.Prelude.{ℕ, ◌≡◌, ◌+◌, List, [], ◌∷◌, ◌++◌, length, Option, Some, None}
use Rattle.occ_print.specs.occ_base.declared.names.Name.{Name}
use Rattle.occ_replay_rules.specs.Moves.{IsAdmitted, IsApplied, IsGranted, Move}
use Rattle.occ_parse_part.specs.occ_meaning.Context.{part_at, put}
use Rattle.occ_parse_part.specs.Parts.{Part}
use Rattle.occ_parse_part.specs.Resolving.{part_fault, part_process}
use Rattle.occ_replay_rules.specs.Steps.{Joins}
use Rattle.occ_script_lines.specs.declared.direction.Direction.{Direction}
use Rattle.occ_script_lines.specs.Places.{scope_list}
use Rattle.occ_print.specs.occ_syntax.declared.scope.Kind.{Kind}
use Rattle.occ_print.specs.occ_syntax.Tree.{Tree}

-- An order: the number of its law, where the name that it gives is that of one; the way; the path; and the part that is wanted there,
-- as it is read, if the order gives one.
pub record Order : Type 0 where
  pub law : Option ℕ
  pub dir : Direction
  pub path : List ℕ
  pub part : Option Part

-- the part that an order gives, as a process of the scope there, where it has no fault
pub data IsGiven (S : List (Name × Kind)) : Option Part → Option Tree → Type 0 where
  none_given : IsGiven S None None
  part_given : (part : Part) → part_fault part S ≡ None → IsGiven S (Some part) (Some (part_process part S))

-- The order is followed by a move.
pub record IsFollowed (S : List (Name × Kind)) (p : Tree) (order : Order) (move : Move) : Type 0 where
  pub named : order.law ≡ Some move.law
  pub wanted : Option Tree
  pub given : IsGiven (scope_list order.path S p) order.part wanted
  pub granted : IsGranted S p (record { law = move.law; dir = order.dir; path = order.path; wanted = wanted }) move

-- orders are followed, one after the other
pub data Follows (S : List (Name × Kind)) : Tree → List Order → List Move → Tree → Type 0 where
  no_order : (p : Tree) → Follows S p [] [] p
  and_order : (p q : Tree) (order : Order) (orders : List Order) (move : Move) (moves : List Move) → IsFollowed S p order move
      → Follows S (put move.path p move.part) orders moves q → Follows S p (order ∷ orders) (move ∷ moves) q

-- ---- why an order can't be followed: the first of these that stands

pub data Lack : Type 0 where
  no_law : Lack
  no_path : Lack
  not_accepted : Lack
  not_applicable : Lack

-- No law has its name. There is no part at its path. The part that it gives may not be put in, or the law doesn't join it with the one
-- there. Where it gives none, the law has no direct result, or that may not be put in.
pub data Fails (S : List (Name × Kind)) (p : Tree) (order : Order) : Lack → Type 0 where
  unnamed : order.law ≡ None → Fails S p order no_law
  nowhere : (law : ℕ) → order.law ≡ Some law → part_at order.path p ≡ None → Fails S p order no_path
  given_refused : (law : ℕ) (old : Tree) (part : Part) → order.law ≡ Some law → part_at order.path p ≡ Some old → order.part ≡ Some part
      → (part_fault part (scope_list order.path S p) ≡ None → IsAdmitted S p order.path (part_process part (scope_list order.path S p)) → ⊥)
      → Fails S p order not_accepted
  given_unjoined : (law : ℕ) (old : Tree) (part : Part) → order.law ≡ Some law → part_at order.path p ≡ Some old → order.part ≡ Some part
      → part_fault part (scope_list order.path S p) ≡ None → IsAdmitted S p order.path (part_process part (scope_list order.path S p))
      → (Joins order.dir law (scope_list order.path S p) old (part_process part (scope_list order.path S p)) → ⊥) → Fails S p order not_applicable
  no_direct : (law : ℕ) (old : Tree) → order.law ≡ Some law → part_at order.path p ≡ Some old → order.part ≡ None
      → ((new : Tree) → IsApplied order.dir law (scope_list order.path S p) None old new → ⊥) → Fails S p order not_applicable
  direct_refused : (law : ℕ) (old new : Tree) → order.law ≡ Some law → part_at order.path p ≡ Some old → order.part ≡ None
      → IsApplied order.dir law (scope_list order.path S p) None old new → (IsAdmitted S p order.path new → ⊥) → Fails S p order not_accepted

-- Orders stop at the one of that number, from 1, for that lack: those in front of it lead to a process from which it can't be followed.
pub record Stops (S : List (Name × Kind)) (p : Tree) (orders : List Order) (number : ℕ) (lack : Lack) : Type 0 where
  pub front : List Order
  pub order : Order
  pub rest : List Order
  pub parts : orders ≡ front ++ order ∷ rest
  pub number_is : number ≡ length front + 1
  pub moves : List Move
  pub here : Tree
  pub followed : Follows S p front moves here
  pub fails : Fails S here order lack
