-- Lines judged from top to bottom: the first line that has a fault, each judged in its scope.
use Rattle.std.specs.Prelude.{ℕ, ◌∷◌, Option, Some, None}
use Rattle.occ_parse_forms.specs.Shape.{Shape, header, group, declare}
use Rattle.occ_parse_rules.specs.Forest.{Forest, no_line, and_line}
use Rattle.occ_parse_rules.specs.Places.{Sorts, declared_in, entries_of, param_entries, counter_of}

-- the first fault, else the second one
abbrev pub or_else : {F : Type 0} → Option F → Option F → Option F
or_else (Some fault) other = Some fault
or_else None other = other

-- a fault on a line
abbrev pub on_line : {F : Type 0} → ℕ → Option F → Option (ℕ × F)
on_line number (Some fault) = Some (number, fault)
on_line number None = None

-- the scope of the lines below a line: a header has its parameters there, a replicator its index
abbrev pub inside : Sorts → Shape → Sorts
inside Γ (header name params) = declared_in Γ (param_entries params)
inside Γ (group g (Some times)) = counter_of times ∷ Γ
inside Γ other = Γ

-- The scope of the next line at the same level: behind a declaration it has what that declares, and behind the process
-- that it governs the outer scope again.
abbrev pub behind : Sorts → Sorts → Shape → Sorts
behind outer Γ (declare kind ds) = declared_in Γ (entries_of kind ds)
behind outer Γ other = outer

-- the first line with a fault by a judgement of single lines, and that fault
abbrev pub first_fault : {F : Type 0} → (Sorts → Shape → Option F) → Sorts → Sorts → Forest → Option (ℕ × F)
first_fault judge outer Γ no_line = None
first_fault judge outer Γ (and_line number s below rest) =
    or_else (on_line number (judge Γ s))
    (or_else (first_fault judge (inside Γ s) (inside Γ s) below)
    (first_fault judge outer (behind outer Γ s) rest))
