-- Which steps a transition system has: those of the rows of its table.
use Rattle.std.specs.Prelude.{ℕ, ◌≡◌, ◌+◌, ◌<◌, List, [], length, take, get_or}
use Rattle.std.specs.List.{sum_by}
use Rattle.occ_syntax.specs.occ_base.declared.event.Event.{Event}
use Rattle.occ_syntax.specs.occ_base.declared.names.Name.{Name}
use Rattle.occ_syntax.specs.declared.scope.Kind.{Kind}
use Rattle.occ_tool_run.specs.occ_nform_table.Behaviours.{row_at}
use Rattle.occ_tool_run.specs.occ_nform_table.Lists.{In}
use Rattle.occ_tool_run.specs.occ_nform_table.Texts.{state_at_place}
use Rattle.occ_tool_run.specs.occ_nform_table.declared.table.TableRow.{TableRow}
use Rattle.occ_tool_run.specs.occ_target.Rows.{chosen}
use Rattle.occ_lts.specs.declared.graph.Label.TheVariants.{Starts, Unseen, Ends}
use Rattle.occ_lts.specs.declared.graph.Move.{Move}
use Rattle.occ_lts.specs.Moves.{offer_move, row_place, row_places, step}

-- the first place behind row n, where those behind all rows begin at a place
abbrev pub first_place : ℕ → List TableRow → ℕ → ℕ
first_place place rows n = place + sum_by row_places (take n rows)

-- the place of the k-th acceptance of row n, and that of its k-th end
abbrev pub set_place : List TableRow → ℕ → ℕ → ℕ
set_place rows n k = first_place (row_place (length rows)) rows n + k

abbrev pub end_place : List TableRow → ℕ → ℕ → ℕ
end_place rows n k = first_place (row_place (length rows)) rows n + length (row_at rows n).accepts + k

-- A step of the normal program: it begins in a state; it does an event that a row offers; it settles on an acceptance of a row, and then
-- does an event of that set; it settles on an end of a row, and then ends.
pub data IsStep (params : List (Name × Kind)) (rows : List TableRow) (states : List ℕ) (m : Move) : Type 0 where
  begins : (k : ℕ) → k < length states → m ≡ step 0 (Starts (state_at_place params k)) (row_place (get_or states k 0)) → IsStep params rows states m
  does : (n : ℕ) (o : Event × ℕ) → n < length rows → In o (row_at rows n).offers → m ≡ offer_move (row_place n) o → IsStep params rows states m
  settles : (n k : ℕ) → n < length rows → k < length (row_at rows n).accepts → m ≡ step (row_place n) Unseen (set_place rows n k) → IsStep params rows states m
  accepts : (n k : ℕ) (o : Event × ℕ) → n < length rows → k < length (row_at rows n).accepts
      → In o (chosen (get_or (row_at rows n).accepts k []) (row_at rows n).offers) → m ≡ offer_move (set_place rows n k) o → IsStep params rows states m
  leaves : (n k : ℕ) → n < length rows → k < length (row_at rows n).ends → m ≡ step (row_place n) Unseen (end_place rows n k) → IsStep params rows states m
  ends : (n k : ℕ) → n < length rows → k < length (row_at rows n).ends → m ≡ step (end_place rows n k) (Ends (get_or (row_at rows n).ends k [])) 1
      → IsStep params rows states m
