-- What becomes of a program that was read.
use Rattle.std.proofs.Common.{◌≡◌, ℕ, true, List, [], Result, Ok, Err, IfOk, IfErr, refl, sym, subst}
use Rattle.occ_syntax.specs.occ_base.Names.{IsDistinct}
use Rattle.occ_syntax.specs.occ_base.declared.names.Name.{Name}
use Rattle.occ_engine_written.proofs.Known.{program_kept, program_typed}
use Rattle.occ_engine_written.proofs.Typed.{AreKept}
use Rattle.occ_read_renamed.proofs.Whole.{have_names}
use Rattle.occ_run_schedule.specs.occ_nform_table.Tables.{IsInterface, are_params}
use Rattle.occ_tool_words.specs.occ_parse.declared.bound.Bound.TheVariants as bound
use Rattle.occ_syntax.specs.Scopes.{environment}
use Rattle.occ_syntax.specs.declared.scope.Kind.{Kind}
use Rattle.occ_syntax.specs.declared.scope.Program.{Program as Stored}
use Rattle.occ_syntax.specs.View.{tree}
use Rattle.occ_syntax.specs.Usage.{KeepsUsage}
use Rattle.occ_tool_words.specs.occ_parse.Known.{NamesAreKnown}
use Rattle.occ_run_schedule.specs.occ_usage.Accepted.{IsTyped}
use Rattle.occ_run_schedule.specs.occ_usage.Faults.{names_of}
use Rattle.occ_run_schedule.proofs.from_usage.Law.{covers_scope, keeps_no_fault, no_fault_keeps}
use Rattle.occ_run_schedule.specs.occ_usage.declared.accepted.Accepted.{Accepted}
use Rattle.occ_tool_run.specs.declared.accept.Refusal.{Refusal}
use Rattle.occ_tool_run.specs.declared.accept.Refusal.TheVariants as refusal
use Rattle.occ_tool_run.specs.Accepts.{IsAcceptedText, Program, ReadsAs}
use Rattle.occ_tool_run.specs.Stored.{seen}
use Rattle.occ_tool_run.specs.Judged.{IsAcceptedAs, IsRefusedFor, IsFaulty}
use Rattle.occ_tool_run.proofs.Known.{first_named}

pub accepted_as : (text : List ℕ) (old new : List (List ℕ)) (program : Stored) (numbers : List ℕ) (r : Result Accepted Refusal) → ReadsAs text old new (seen program) numbers → NamesAreKnown new program
    → IfOk r (λ a. (a.program ≡ program) × KeepsUsage (tree program.body)) → IfOk r (λ a. IsAcceptedAs text old new a.program)
accepted_as text old new program numbers (Err f) read known h = tt
accepted_as text old new program numbers (Ok a) read known h =
    let P : Stored → Type 0 = λ p. IsAcceptedAs text old new p in
    subst P (sym h.0) (record { accepted = record { numbers = numbers; read = read; usage = keeps_no_fault (tree program.body) 0 (names_of program.params) h.1 }; known = known })

refused_by : (text : List ℕ) (old new : List (List ℕ)) (program : Stored) (numbers : List ℕ) (f : Refusal) → ReadsAs text old new (seen program) numbers → NamesAreKnown new program
    → IsFaulty program numbers f → IsRefusedFor text old new f
refused_by text old new program numbers (refusal.Text fault) read known h = absurd h
refused_by text old new program numbers (refusal.Usage line fault) read known h =
    (record { program = seen program; numbers = numbers; read = read; later = h.later; found = h.found; line_is = h.line_is }, first_named new program fault h.later known h.found)
refused_by text old new program numbers refusal.Memory read known h = tt

pub refused_for : (text : List ℕ) (old new : List (List ℕ)) (program : Stored) (numbers : List ℕ) (r : Result Accepted Refusal) → ReadsAs text old new (seen program) numbers → NamesAreKnown new program
    → IfErr r (IsFaulty program numbers) → IfErr r (IsRefusedFor text old new)
refused_for text old new program numbers (Ok a) read known h = tt
refused_for text old new program numbers (Err f) read known h = refused_by text old new program numbers f read known h

-- each text of the table stands once, and the parameters have names that can stand in a normal text
abbrev pub IsInterfaceIn : List (List ℕ) → List (Name × Kind) → Type 0
IsInterfaceIn names params = IsDistinct names × IsInterface names params × (are_params names [] params ≡ true)

pub names_read : (text : List ℕ) (old new : List (List ℕ)) (program : Program) (numbers : List ℕ) → IsDistinct old → ReadsAs text old new program numbers → IsInterfaceIn new program.params
names_read text old new program numbers d read = have_names text old new program.name program.params program.body numbers d read

-- a program that was read keeps names, types and directions
pub read_kept : (text : List ℕ) (old new : List (List ℕ)) (program : Program) (numbers : List ℕ) → IsDistinct old → ReadsAs text old new program numbers
    → AreKept program.params program.body
read_kept text old new program numbers d read =
    program_kept bound.Program text old new program.name program.params program.body numbers read (names_read text old new program numbers d read).0

-- and the limits of programs
pub read_typed : (text : List ℕ) (old new : List (List ℕ)) (program : Stored) (numbers : List ℕ) → IsDistinct old → ReadsAs text old new (seen program) numbers → IsTyped program
read_typed text old new program numbers d read =
    program_typed bound.Program text old new program numbers read
    (names_read text old new (seen program) numbers d read).0 refl

-- and, where it is accepted, the rule of usage
pub keeps_usage : (text : List ℕ) (old new : List (List ℕ)) (program : Program) → IsDistinct old → IsAcceptedText text old new program → KeepsUsage program.body
keeps_usage text old new program d a =
    no_fault_keeps program.body 0 (names_of program.params) (environment program.params) (read_kept text old new program a.numbers d a.read).types (covers_scope program.params) a.usage
