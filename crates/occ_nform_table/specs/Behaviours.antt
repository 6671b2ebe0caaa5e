-- The behaviours of the rows of a table.
use Rattle.std.specs.Prelude.{ℕ, ◌==◌, ◌≡◌, ◌↔◌, get_or, Bool, true, false, not, ◌&&◌, if◌then◌else◌, List, [], ◌∷◌, length, slice_get, Option, None, Some}
use Rattle.std.specs.List.{list_any, list_all}
use Rattle.occ_lex.specs.occ_base.declared.event.Event.{Event}
use Rattle.occ_lex.specs.occ_base.declared.names.Name.{Name}
use Rattle.occ_syntax.specs.declared.scope.Kind.{Kind}
use Rattle.occ_syntax.specs.Scopes.{EventSet, environment, in_interface, same_event, values}
use Rattle.occ_syntax.specs.Meaning.{fails, ends}
use Rattle.occ_syntax.specs.Tree.{Tree}
use Rattle.occ_behaviour.specs.States.{is_state}
use Rattle.occ_nform_table.specs.declared.table.TableRow.{TableRow}
use Rattle.occ_nform_table.specs.Lines.{state_place}

-- the row that is offered at an event
unfoldable pub next_row : List (Event × ℕ) → Event → Option ℕ
next_row [] e = None
next_row (offer ∷ offers) e = if same_event offer.0 e then Some offer.1 else next_row offers e

abbrev pub no_row : TableRow
no_row = record { ends = []; accepts = []; offers = [] }

abbrev pub there : Option TableRow → TableRow
there None = no_row
there (Some row) = row

abbrev pub row_at : List TableRow → ℕ → TableRow
row_at rows n = there (slice_get rows n)

abbrev pub goes_on : Option ℕ → (ℕ → Bool) → Bool
goes_on None test = false
goes_on (Some n) test = test n

-- After the trace, row n can fail with X: some ACCEPT set of the row that the trace leads to shares no event with X.
unfoldable pub row_fails : List TableRow → ℕ → List Event → EventSet → Bool
row_fails rows n [] X = list_any (list_all (λ e. not (X e))) (row_at rows n).accepts
row_fails rows n (e ∷ trace) X = goes_on (next_row (row_at rows n).offers e) (λ m. row_fails rows m trace X)

-- After the trace, row n can have ended in the state that has that place among the states.
unfoldable pub row_ends : List (Name × Kind) → List TableRow → ℕ → List Event → ℕ → Bool
row_ends params rows n [] place = list_any (λ state. state_place params state == place) (row_at rows n).ends
row_ends params rows n (e ∷ trace) place = goes_on (next_row (row_at rows n).offers e) (λ m. row_ends params rows m trace place)

-- each event of a trace is one of the interface, and so is each of a set
abbrev pub IsOfInterface : List (Name × Kind) → List Event → EventSet → Type 0
IsOfInterface params trace X = (list_all (in_interface (environment params)) trace ≡ true) × ((e : Event) → X e ≡ true → in_interface (environment params) e ≡ true)

-- The table with these rows, and with these rows of its states, stands for a program with these parameters: in each initial
-- state the state's row has exactly the failures and the ends of the program, over the events of the interface.
pub record Stands (params : List (Name × Kind)) (rows : List TableRow) (states : List ℕ) (p : Tree) : Type 0 where
  pub fails_so : (s : List (Name × ℕ)) (trace : List Event) (X : EventSet) → is_state params s ≡ true → IsOfInterface params trace X
      → (row_fails rows (get_or states (state_place params s) 0) trace X ≡ true) ↔ fails (environment params) p (values s) trace X
  pub ends_so : (s u : List (Name × ℕ)) (trace : List Event) → is_state params s ≡ true → is_state params u ≡ true → IsOfInterface params trace (λ e. false)
      → (row_ends params rows (get_or states (state_place params s) 0) trace (state_place params u) ≡ true) ↔ ends (environment params) p (values s) trace (values u)
