-- What a schedule text is read as: a state of the parameters and the numbers of steps, or the number of its least faulty line.
use Rattle.std.specs.Prelude.{ℕ, ◌+◌, ◌≡◌, Bool, true, if◌then◌else◌, List, [], ◌∷◌, drop, map, Option, None, Some, Result, Ok, Err, codes}
use Rattle.std.specs.Str.{bytes_eq}
use Rattle.occ_syntax.specs.occ_base.declared.names.Name.{Name}
use Rattle.occ_behaviour_read.specs.occ_lex.Rows.{rows}
use Rattle.occ_syntax.specs.declared.scope.Kind.{Kind}
use Rattle.occ_behaviour_read.specs.occ_nform_table.Words.{then_read, behind, small_number_of}
use Rattle.occ_behaviour_read.specs.Claims.{and_then, bare, bare_lines, found_at, line_read, state_line}
use Rattle.occ_run_schedule.specs.declared.schedule.Schedule.{Schedule}
use Rattle.occ_run_schedule.specs.declared.schedule.ScheduleFault.{ScheduleFault}
use Rattle.occ_run_schedule.specs.declared.schedule.ScheduleFault.TheVariants as fault

-- the line that each schedule begins with
unfoldable pub version_line : List ℕ → Option Bool
version_line line = if bytes_eq line (codes "occam-schedule 1") then Some true else None

-- the number of a step, below 2 ^ 32
unfoldable pub step_line : List ℕ → Option ℕ
step_line line = then_read (behind (codes "STEP ") line) small_number_of

-- the steps that lines say, of which the first has the number k, counted from 0
abbrev pub steps_from : ℕ → List (List ℕ) → Result (List ℕ) ℕ
steps_from k [] = Ok []
steps_from k (line ∷ lines) = and_then (found_at k (step_line line)) (λ n. and_then (steps_from (k + 1) lines) (λ ns. Ok (n ∷ ns)))

-- the lines behind the first two
abbrev pub later_lines : List ℕ → List (List ℕ)
later_lines text = map bare (drop 2 (rows text))

abbrev pub schedule_read : List (Name × Kind) → List ℕ → Result Schedule ℕ
schedule_read params text =
    and_then (line_read (bare_lines text) 0 version_line) (λ version.
    and_then (line_read (bare_lines text) 1 (state_line params)) (λ state.
    and_then (steps_from 2 (later_lines text)) (λ steps. Ok (record { state = state; steps = steps }))))

-- a fault is the one of that line, or memory ran out
abbrev pub IsFaultOf : {A : Type 0} → Result A ℕ → ScheduleFault → Type 0
IsFaultOf read (fault.Form line) = read ≡ Err line
IsFaultOf read fault.Memory = Unit {0}

abbrev pub Gives : {A : Type 0} → Result A ℕ → Result A ScheduleFault → Type 0
Gives read (Ok x) = read ≡ Ok x
Gives read (Err f) = IsFaultOf read f
