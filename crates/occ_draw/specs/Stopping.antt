-- What the functions say of one step, and of a list that isn't made.
use Rattle.std.specs.Prelude.{ℕ, ◌≡◌, ◌≤◌, List, ◌++◌, Option, None, Some, Result, Ok, Err}
use Rattle.occ_tool_run.specs.occ_law.declared.table.LawId.{LawId}
use Rattle.occ_tool_run.specs.occ_parse.declared.fault.ParseFault.{ParseFault}
use Rattle.occ_tool_run.specs.occ_script.declared.script.Step.{Step}
use Rattle.occ_draw.specs.declared.fault.Lack.{Lack}
use Rattle.occ_draw.specs.declared.fault.Lack.TheVariants.{NotAccepted}
use Rattle.occ_draw.specs.declared.fault.Untold.{Untold}
use Rattle.occ_draw.specs.declared.fault.Untold.TheVariants.{Lacking, Memory}

-- a number of the table of laws
pub record IsLawNumber (law : LawId) : Type 0 where
  pub low : 1 ≤ law.0
  pub high : law.0 ≤ 63

-- the law of a step, where there is one, is one of the table
abbrev pub IsOfTable : Option LawId → Type 0
IsOfTable None = Unit {0}
IsOfTable (Some law) = IsLawNumber law

abbrev pub HasLaw : Step → Type 0
HasLaw step = IsOfTable step.law

-- the first step that lacks something, and what it lacks; out of memory says nothing
abbrev pub IsUntold : Result (List ℕ) (ℕ × Lack) → Untold → Type 0
IsUntold list (Lacking step lack) = list ≡ Err (step, lack)
IsUntold list Memory = Unit {0}

-- a line is added to a text
abbrev pub Adds : List ℕ → List ℕ → Result (List ℕ) Lack → Type 0
Adds old new (Ok line) = new ≡ old ++ line
Adds old new (Err lack) = ⊥

-- or step n lacks something
abbrev pub IsLacking : ℕ → Result (List ℕ) Lack → Untold → Type 0
IsLacking n line (Lacking step lack) = (step ≡ n) × (line ≡ Err lack)
IsLacking n line Memory = Unit {0}

-- the new part has a fault
abbrev pub IsUnresolved : ℕ → Option ParseFault → Untold → Type 0
IsUnresolved n fault (Lacking step lack) = (step ≡ n) × ((lack ≡ NotAccepted) × (fault ≡ None → ⊥))
IsUnresolved n fault Memory = Unit {0}
