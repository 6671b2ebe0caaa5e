-- Steps from one program to another.
use Rattle.std.specs.Prelude.{ℕ, ◌≡◌, List}
use Rattle.std.specs.List.{AllByRecursion}
use Rattle.occ_tool_run.specs.occ_derive_search.Derivations.{IsDerived}
use Rattle.occ_tool_run.specs.occ_script_write.declared.writing.Done.{Done}
use Rattle.occ_tool_run.specs.occ_script_write.Text.{IsWritable}
use Rattle.occ_syntax.specs.declared.scope.Program.{Program}

-- one name and the same parameters
abbrev pub HaveOneHeader : Program → Program → Type 0
HaveOneHeader left right = (left.name ≡ right.name) × (left.params ≡ right.params)

-- The steps lead from the one program to the other, which has the same header, each by a law of the table.
abbrev pub IsProof : Program → Program → List Done → Type 0
IsProof from to steps = IsDerived from (record { steps = steps; to = to })

-- all names of the parts of steps stand in a table of names, and their laws in the table of laws
abbrev pub AreWritable : List (List ℕ) → List Done → Type 0
AreWritable names steps = AllByRecursion (IsWritable names) steps
