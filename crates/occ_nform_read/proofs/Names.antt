-- What the lines of a row keep, as the calls on its parts ask it.
use Rattle.std.proofs.Common.{◌≡◌, ℕ, ◌+◌, ◌<◌, ◌≤◌, true, List, [], ◌∷◌, length, arith}
use Rattle.std.specs.List.{list_all, All, AllByRecursion}
use Rattle.std.proofs.lemmas.List.Elements.{All-cons, All-nil}
use Rattle.occ_syntax.specs.occ_base.declared.event.Event.{Event}
use Rattle.occ_syntax.specs.occ_base.declared.names.Name.{Name}
use Rattle.occ_syntax.specs.declared.scope.Kind.{Kind}
use Rattle.occ_syntax.specs.Scopes.{environment, in_interface}
use Rattle.occ_nform_table.specs.declared.table.TableRow.{TableRow}
use Rattle.occ_nform_table.specs.Lines.{is_rising}
use Rattle.occ_nform_table.specs.Tables.{IsRowOf, AreRowsOf}
use Rattle.occ_nform_read.specs.Marks.{Offer}

sets_rising : (params : List (Name × Kind)) (sets : List (List Event))
    → AllByRecursion (λ (set : List Event). (list_all (in_interface (environment params)) set ≡ true) × (is_rising params 0 set ≡ true)) sets → All (λ set. is_rising params 0 set ≡ true) sets
sets_rising params [] h = All-nil (λ set. is_rising params 0 set ≡ true)
sets_rising params (set ∷ sets) h = All-cons (λ set. is_rising params 0 set ≡ true) set sets h.0.1 (sets_rising params sets h.1)

offers_below : (params : List (Name × Kind)) (n m : ℕ) (offers : List (Event × ℕ)) → n ≤ m
    → AllByRecursion (λ (o : Event × ℕ). (in_interface (environment params) o.0 ≡ true) × (o.1 < n)) offers → All (Offer m) offers
offers_below params n m [] le h = All-nil (Offer m)
offers_below params n m (o ∷ offers) le h = let lt : o.1 < n = h.0.1 in All-cons (Offer m) o offers (omega (arith, lt, le)) (offers_below params n m offers le h.1)

pub row_rising : (params : List (Name × Kind)) (n : ℕ) (row : TableRow) → IsRowOf params n row → All (λ set. is_rising params 0 set ≡ true) row.accepts
row_rising params n row h = sets_rising params row.accepts h.accepts

pub row_below : (params : List (Name × Kind)) (n m : ℕ) (row : TableRow) → n ≤ m → IsRowOf params n row → All (Offer m) row.offers
row_below params n m row le h = offers_below params n m row.offers le h.offers

pub rows_below : (params : List (Name × Kind)) (n m : ℕ) (rows : List TableRow) → n + length rows ≤ m → AreRowsOf params n rows → All (λ row. All (Offer m) row.offers) rows
rows_below params n m [] le h = All-nil (λ (row : TableRow). All (Offer m) row.offers)
rows_below params n m (row ∷ rows) le h =
    All-cons (λ (row : TableRow). All (Offer m) row.offers) row rows (row_below params n m row (omega (arith, le)) h.0) (rows_below params (n + 1) m rows (omega (arith, le)) h.1)
