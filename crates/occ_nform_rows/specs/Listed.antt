-- The row of a table that a node is.
use Rattle.std.specs.Prelude.{ℕ, ◌<◌, ◌≡◌, ◌==◌, ◌^◌, get_or, Bool, true, false, not, List, option_map}
use Rattle.std.specs.List.{list_all, list_any, AllByRecursion}
use Rattle.occ_syntax.specs.occ_base.declared.event.Event.{Event}
use Rattle.occ_syntax.specs.occ_base.declared.names.Name.{Name}
use Rattle.occ_syntax.specs.declared.scope.Kind.{Kind}
use Rattle.occ_syntax.specs.Counts.{bits_of_scope}
use Rattle.occ_syntax.specs.Scopes.{EventSet}
use Rattle.occ_compare.specs.occ_dd.Store.{has}
use Rattle.occ_compare.specs.occ_accept.Accept.{refuses}
use Rattle.occ_compare.specs.occ_node.Offers.{next_in}
use Rattle.occ_compare.specs.occ_node.World.{row_of}
use Rattle.occ_compare.specs.occ_node.declared.node.NodeId.{NodeId}
use Rattle.occ_compare.specs.occ_node.declared.world.World.{World}
use Rattle.occ_compare.specs.Places.{assignment_at}
use Rattle.occ_nform_table.specs.declared.table.TableRow.{TableRow}
use Rattle.occ_nform_table.specs.Behaviours.{next_row}
use Rattle.occ_nform_table.specs.Judging.{Fine, row_marks, is_empty_row}
use Rattle.occ_nform_table.specs.Lines.{state_place}
use Rattle.occ_nform_table.specs.Tables.{IsRowOf, is_marked}

-- the number that a list gives to a node
abbrev pub number_of : List ℕ → NodeId → ℕ
number_of numbers a = get_or numbers a.0 0

-- whether one of some states has a place
abbrev pub has_place : List (Name × Kind) → List (List (Name × ℕ)) → ℕ → Bool
has_place params states k = list_any (λ state. state_place params state == k) states

-- each channel of an interface is marked
abbrev pub are_marked : List (Name × Kind) → Bool
are_marked params = list_all (λ (p : Name × Kind). is_marked p.1) params

-- The row of a table that a node is, where `numbers` gives the row number of each node that it offers. Where a channel isn't
-- marked, events of both directions have one rank, and the lists can't increase.
pub record IsListed (w : World) (params : List (Name × Kind)) (numbers : List ℕ) (a : NodeId) (row : TableRow) : Type 0 where
  pub ends : (k : ℕ) → k < 2 ^ bits_of_scope params → has_place params row.ends k ≡ has w.store (row_of w a).ends (assignment_at params k)
  pub refusals : (X : EventSet) → list_any (list_all (λ e. not (X e))) row.accepts ≡ refuses (row_of w a).accepts X
  pub offers : (e : Event) → next_row row.offers e ≡ option_map (number_of numbers) (next_in (row_of w a).offers e)
  pub form : are_marked params ≡ true → (n : ℕ) → AllByRecursion (λ (o : Event × NodeId). number_of numbers o.1 < n) (row_of w a).offers
      → IsRowOf params n row
  pub fine : are_marked params ≡ true → AllByRecursion (λ mark. mark ≡ Fine) (row_marks params row)
  pub alive : is_empty_row row ≡ false
