-- How large the processes of rows are, by the sizes of the processes of the rows before them.
use Rattle.std.specs.Prelude.{ℕ, ◌+◌, List, [], ◌∷◌, ◌++◌, filter, get_or, length, Option, None, Some, if◌then◌else◌}
use Rattle.std.specs.List.{sum_by}
use Rattle.occ_syntax.specs.occ_base.declared.event.Dir.{Dir}
use Rattle.occ_syntax.specs.occ_base.declared.event.Dir.TheVariants.{Input, Output}
use Rattle.occ_syntax.specs.occ_base.declared.event.Event.{Event}
use Rattle.occ_syntax.specs.occ_base.declared.names.Name.{Name}
use Rattle.occ_syntax.specs.Counts.{capped}
use Rattle.occ_nform_table.specs.declared.table.TableRow.{TableRow}
use Rattle.occ_target.specs.Rows.{chosen, is_in_branch, is_on}

-- the choices of inputs from a channel
abbrev pub choices_size : List ℕ → ℕ → List (Event × ℕ) → ℕ
choices_size sizes c offers = sum_by (λ (o : Event × ℕ). 1 + get_or sizes o.1 1) (filter (is_on c) offers)

abbrev pub size_behind : List ℕ → Dir → ℕ → ℕ → List (Event × ℕ) → ℕ
size_behind sizes Input c n offers = 1 + choices_size sizes c offers
size_behind sizes Output c n offers = get_or sizes n 1

unfoldable pub events_size : List ℕ → Option Name → List (Event × ℕ) → ℕ
events_size sizes before [] = 0
events_size sizes before (o ∷ offers) = (if is_in_branch before o.0 then 0 else 1 + size_behind sizes o.0.dir o.0.chan.0 o.1 (o ∷ offers))
    + events_size sizes (Some o.0.chan) offers

abbrev pub acceptance_size : List ℕ → List (Event × ℕ) → List Event → ℕ
acceptance_size sizes offers set = 2 + events_size sizes None (chosen set offers)

-- the size of the process of a row; each end is a branch with one process
abbrev pub row_size : List ℕ → TableRow → ℕ
row_size sizes row =
    1 + events_size sizes None row.offers + sum_by (acceptance_size sizes row.offers) row.accepts + length row.ends + length row.ends

-- the sizes of the processes of rows, behind those of the rows before them; the greatest 64 bits stand for all greater sizes
unfoldable pub sizes_from : List ℕ → List TableRow → List ℕ
sizes_from sizes [] = sizes
sizes_from sizes (row ∷ rows) = sizes_from (sizes ++ capped (row_size sizes row) ∷ []) rows

-- the choices of initial states
abbrev pub states_size : List ℕ → List ℕ → ℕ
states_size sizes states = sum_by (λ (n : ℕ). 1 + get_or sizes n 1) states
