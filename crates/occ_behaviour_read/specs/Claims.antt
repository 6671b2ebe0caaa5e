-- What a behaviour text is read as: a behaviour of a program with these parameters, or the number of its least faulty line.
use Rattle.std.specs.Prelude.{ℕ, ◌+◌, ◌≡◌, ◌==◌, Bool, true, false, ◌||◌, if◌then◌else◌, List, [], ◌∷◌, length, map, max, slice_get, unwrap_or, Option, None, Some, Result, Ok, Err, codes}
use Rattle.std.specs.Str.{bytes_eq}
use Rattle.occ_syntax.specs.occ_base.declared.event.Event.{Event}
use Rattle.occ_syntax.specs.occ_base.declared.names.Name.{Name}
use Rattle.occ_nform_read.specs.occ_lex.Rows.{rows}
use Rattle.occ_syntax.specs.declared.scope.Kind.{Kind}
use Rattle.occ_compare.specs.occ_behaviour.States.{is_state}
use Rattle.occ_compare.specs.occ_behaviour.declared.behaviour.Behaviour.{Behaviour}
use Rattle.occ_compare.specs.occ_behaviour.declared.behaviour.Last.{Last}
use Rattle.occ_compare.specs.occ_behaviour.declared.behaviour.Last.TheVariants.{Refuses, Ends}
use Rattle.occ_nform_read.specs.occ_nform_table.Words.{then_read, or_else, behind, before, between, items_of, each}
use Rattle.occ_nform_read.specs.occ_nform_table.Lines.{event_of, set_of, state_of}
use Rattle.occ_behaviour_read.specs.declared.claim.ClaimFault.{ClaimFault}
use Rattle.occ_behaviour_read.specs.declared.claim.ClaimFault.TheVariants as fault

-- ---- lines

-- a row without its line end: a line feed (10), and a carriage return (13) directly before it
abbrev pub bare : List ℕ → List ℕ
bare row = unwrap_or (or_else (before (13 ∷ 10 ∷ []) row) (before (10 ∷ []) row)) row

abbrev pub bare_lines : List ℕ → List (List ℕ)
bare_lines text = map bare (rows text)

unfoldable pub state_line : List (Name × Kind) → List ℕ → Option (List (Name × ℕ))
state_line params line = then_read (between (codes "STATE [") (codes "]") line) (state_of params)

-- the words of a text, each behind one space (32)
abbrev pub spaced_words : List ℕ → Option (List (List ℕ))
spaced_words [] = Some []
spaced_words (b ∷ []) = None
spaced_words (b ∷ c ∷ text) = if b == 32 then Some (items_of (c ∷ text)) else None

unfoldable pub trace_line : List (List ℕ) → List (Name × Kind) → List ℕ → Option (List Event)
trace_line names params line = then_read (behind (codes "TRACE") line) (λ text. then_read (spaced_words text) (each (event_of names params)))

-- the refusal of a set, or a final state
unfoldable pub last_line : List (List ℕ) → List (Name × Kind) → List ℕ → Option Last
last_line names params line = or_else
    (then_read (between (codes "REFUSES {") (codes "}") line) (λ text. then_read (set_of names params text) (λ set. Some (Refuses set))))
    (then_read (between (codes "ENDS [") (codes "]") line) (λ text. then_read (state_of params text) (λ state. Some (Ends state))))

abbrev pub is_differ : Option (List ℕ) → Bool
is_differ None = false
is_differ (Some line) = bytes_eq line (codes "DIFFER")

unfoldable pub only_line : List ℕ → Option Bool
only_line line = if bytes_eq line (codes "ONLY FIRST") || bytes_eq line (codes "ONLY SECOND") then Some true else None

-- ---- the whole text

-- what was read of line k, counted from 0, or its number, counted from 1
abbrev pub found_at : {A : Type 0} → ℕ → Option A → Result A ℕ
found_at k None = Err (k + 1)
found_at k (Some x) = Ok x

-- what is read of line k, counted from 0: else the number, counted from 1, of the faulty line; a text that ends too early is
-- faulty on its last line, or on line 1
abbrev pub read_at : {A : Type 0} → List (List ℕ) → ℕ → Option (List ℕ) → (List ℕ → Option A) → Result A ℕ
read_at lines k None read = Err (max (length lines) 1)
read_at lines k (Some line) read = found_at k (read line)

abbrev pub line_read : {A : Type 0} → List (List ℕ) → ℕ → (List ℕ → Option A) → Result A ℕ
line_read lines k read = read_at lines k (slice_get lines k) read

-- no line is left at k
abbrev pub ends_at : ℕ → Option (List ℕ) → Result Bool ℕ
ends_at k None = Ok true
ends_at k (Some line) = Err (k + 1)

abbrev pub and_then : {A B : Type 0} → Result A ℕ → (A → Result B ℕ) → Result B ℕ
and_then (Err n) next = Err n
and_then (Ok x) next = next x

-- what stands behind the three lines of a behaviour
abbrev pub closed : List (List ℕ) → Bool → Result Bool ℕ
closed lines false = ends_at 3 (slice_get lines 3)
closed lines true = and_then (line_read lines 4 only_line) (λ one. ends_at 5 (slice_get lines 5))

abbrev pub first_of : Bool → ℕ
first_of false = 0
first_of true = 1

-- the behaviour, where its lines stand behind `DIFFER` or not
abbrev pub claim_in : List (List ℕ) → List (Name × Kind) → List (List ℕ) → Bool → Result Behaviour ℕ
claim_in names params lines marked =
    and_then (line_read lines (first_of marked) (state_line params)) (λ state.
    and_then (line_read lines (first_of marked + 1) (trace_line names params)) (λ trace.
    and_then (line_read lines (first_of marked + 2) (last_line names params)) (λ last.
    and_then (closed lines marked) (λ done. Ok (record { state = state; trace = trace; last = last })))))

abbrev pub claim_read : List (List ℕ) → List (Name × Kind) → List ℕ → Result Behaviour ℕ
claim_read names params text = claim_in names params (bare_lines text) (is_differ (slice_get (bare_lines text) 0))

-- ---- what a call answers

-- a fault is the one of that line, or memory ran out
abbrev pub IsFaultOf : {A : Type 0} → Result A ℕ → ClaimFault → Type 0
IsFaultOf read (fault.Form line) = read ≡ Err line
IsFaultOf read fault.Memory = Unit {0}

abbrev pub Gives : {A : Type 0} → Result A ℕ → Result A ClaimFault → Type 0
Gives read (Ok x) = read ≡ Ok x
Gives read (Err f) = IsFaultOf read f

abbrev pub LastIsOf : List (Name × Kind) → Last → Type 0
LastIsOf params (Refuses set) = Unit {0}
LastIsOf params (Ends state) = is_state params state ≡ true

-- its states are states of the interface
pub record IsOf (params : List (Name × Kind)) (b : Behaviour) : Type 0 where
  pub first_state : is_state params b.state ≡ true
  pub last_state : LastIsOf params b.last
