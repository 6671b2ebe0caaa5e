-- What the reading of a text finds.
use Rattle.std.specs.Prelude.{ℕ, ◌≡◌, ◌==◌, false, List, [], ◌∷◌, Result, Ok, Err}
use Rattle.std.specs.List.{AllByRecursion}
use Rattle.occ_syntax.specs.occ_base.declared.names.Name.{Name}
use Rattle.occ_syntax.specs.declared.scope.Kind.{Kind}
use Rattle.occ_nform_table.specs.declared.table.Table.{Table}
use Rattle.occ_nform_table.specs.declared.table.TableFault.{TableFault}
use Rattle.occ_nform_table.specs.Normal.{Parts}

-- none of the parameters has that name
abbrev pub IsAway : Name → List (Name × Kind) → Type 0
IsAway name params = AllByRecursion (λ (q : Name × Kind). (q.0.0 == name.0) ≡ false) params

-- no two parameters have one name
abbrev pub AreApart : List (Name × Kind) → Type 0
AreApart [] = Unit {0}
AreApart (p ∷ params) = IsAway p.0 params × AreApart params

-- the table or the fault that was found, with the table of names, is what is read
abbrev pub IsRead : List (List ℕ) → Result Table TableFault → Result Parts TableFault → Type 0
IsRead names (Ok t) read = read ≡ Ok (record { names = names; params = t.params; rows = t.rows; states = t.states })
IsRead names (Err fault) read = read ≡ Err fault
