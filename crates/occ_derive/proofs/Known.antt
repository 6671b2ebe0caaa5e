-- Names up to one that stands in a table stand in it.
use Rattle.std.proofs.Common.{◌<◌, ℕ, arith, List, [], ◌∷◌, length}
use Rattle.std.specs.List.{AllByRecursion}
use Rattle.occ_syntax.specs.occ_base.declared.names.Name.{Name}
use Rattle.occ_derive.specs.Derived.{AreBelow, CanBeWritten, IsBelow, IsDerivation, IsProgramOf, ParamIsBelow, ProgramIsBelow}
use Rattle.occ_derive_search.specs.occ_engine.declared.outcome.Outcome.{Outcome}
use Rattle.occ_derive_search.specs.occ_engine.Outcomes.{IsTabled}
use Rattle.occ_script_back.specs.occ_print.Known.{PartIsKnown}
use Rattle.occ_script_back.specs.occ_print.Greatest.{greatest}
use Rattle.occ_script_back.specs.occ_script_write.declared.writing.Done.{Done}
use Rattle.occ_script_back.specs.occ_script_write.Text.{IsWritable}
use Rattle.occ_script_back.specs.Said.{IsSaid}
use Rattle.occ_syntax.specs.declared.scope.Kind.{Kind}
use Rattle.occ_syntax.specs.declared.scope.Program.{Program}
use Rattle.occ_syntax.specs.Tree.{Tree}
use Rattle.occ_syntax.specs.View.{tree}

abbrev pub KnownLaw : Type 0
KnownLaw = (n : ℕ) (p : Tree) → 0 < n → (greatest p 0 < n → PartIsKnown n p) × (PartIsKnown n p → greatest p 0 < n)

params_known : (last n : ℕ) (params : List (Name × Kind)) → last < n → AllByRecursion (ParamIsBelow last) params → AllByRecursion (λ (p : Name × Kind). p.0.0 < n) params
params_known last n [] l h = tt
params_known last n (p ∷ ps) l h = let a = h.0 in (omega (arith, a, l), params_known last n ps l h.1)

program_known : KnownLaw → (names : List (List ℕ)) (last : ℕ) (p : Program) → last < length names → ProgramIsBelow last p → IsProgramOf names p
program_known law names last p l h = record {
  name_is = let a = h.name in omega (arith, a, l);
  params_are = params_known last (length names) p.params l h.params;
  body_is = let a = h.body in (law (length names) (tree p.body) (omega (arith, l))).0 (omega (arith, a, l));
}

steps_known : KnownLaw → (names : List (List ℕ)) (last : ℕ) (steps : List Done) → last < length names → AllByRecursion (IsBelow last) steps → AllByRecursion IsTabled steps
    → AllByRecursion (IsWritable names) steps
steps_known law names last [] l h t = tt
steps_known law names last (s ∷ ss) l h t =
    let a = h.0.part in
    (record { low = t.0.low; high = t.0.high; known = (law (length names) (tree s.part) (omega (arith, l))).0 (omega (arith, a, l)) }, steps_known law names last ss l h.1 t.1)

steps_said : (last : ℕ) (steps : List Done) → AllByRecursion (IsBelow last) steps → AllByRecursion IsTabled steps → AllByRecursion IsSaid steps
steps_said last [] h t = tt
steps_said last (s ∷ ss) h t = (record { low = t.0.low; high = t.0.high; path = h.0.path }, steps_said last ss h.1 t.1)

-- a derivation whose names are below one of the table can be written
pub can_be_written : KnownLaw → (names : List (List ℕ)) (last : ℕ) (from : Program) (body : Tree) (o : Outcome) → last < length names → IsDerivation from body o → AreBelow last from o
    → CanBeWritten names from o
can_be_written law names last from body o l d h = record {
  first = program_known law names last from l h.first;
  steps = steps_known law names last o.steps l h.steps d.outcome_is.tabled;
  said = steps_said last o.steps h.steps d.outcome_is.tabled;
  last = program_known law names last o.to l h.to;
}
