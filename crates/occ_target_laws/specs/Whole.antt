-- Tables of which normal programs can be made: an input is offered with all values of its channel, or with none.
use Rattle.std.specs.Prelude.{ℕ, ◌≡◌, true, List, map}
use Rattle.std.specs.List.{AllByRecursion}
use Rattle.occ_target.specs.occ_base.declared.event.Dir.TheVariants.{Input}
use Rattle.occ_target.specs.occ_base.declared.event.Event.{Event}
use Rattle.occ_target.specs.occ_base.declared.names.Name.{Name}
use Rattle.occ_target.specs.occ_syntax.declared.scope.Kind.{Kind}
use Rattle.occ_target.specs.occ_syntax.Scopes.{environment, in_interface}
use Rattle.occ_target.specs.occ_nform_table.declared.table.TableRow.{TableRow}
use Rattle.occ_target.specs.occ_nform_table.Lists.{In}
use Rattle.occ_target_laws.specs.Shapes.{event}

-- with an input the list has each other input from that channel
abbrev pub IsWhole : List (Name × Kind) → List Event → Type 0
IsWhole params events = (c v w : ℕ) → In (event c Input v) events → in_interface (environment params) (event c Input w) ≡ true
    → In (event c Input w) events

abbrev pub offered : List (Event × ℕ) → List Event
offered offers = map (λ (o : Event × ℕ). o.0) offers

-- so have the offers and each acceptance of each row
abbrev pub AreWhole : List (Name × Kind) → List TableRow → Type 0
AreWhole params rows =
    AllByRecursion (λ (row : TableRow). IsWhole params (offered row.offers) × AllByRecursion (IsWhole params) row.accepts) rows
