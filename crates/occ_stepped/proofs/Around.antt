-- What is shown of a machine.
use Rattle.std.proofs.Common.{◌≡◌, ◌<◌, ℕ, List, length, true, Option, Some, IfSome, Result, Ok, Err, IfOk, Vec, Global, ap, ◌∙◌, sym, subst}
use Rattle.std.specs.List.{All}
use Rattle.occ_place.specs.Steps.{MoveIsNamed, TellsSteps}
use Rattle.occ_place.specs.declared.places.Places.{Places}
use Rattle.occ_run.specs.occ_behaviour.States.{is_state}
use Rattle.occ_run.specs.Configurations.{moves_of}
use Rattle.occ_run.specs.Machines.{configuration}
use Rattle.occ_run.specs.Places.{values_at}
use Rattle.occ_run.specs.View.{control}
use Rattle.occ_run.specs.declared.answer.Move.{Move}
use Rattle.occ_run.specs.declared.machine.Machine.{Machine}
use Rattle.occ_syntax.specs.occ_base.declared.memory.Memory.{Memory}
use Rattle.occ_syntax.specs.occ_base.declared.names.Name.{Name}
use Rattle.occ_syntax.specs.declared.scope.Kind.{Kind}
use Rattle.occ_syntax.specs.declared.scope.Program.{Program}
use Rattle.occ_stepped.proofs.Named.{steps_named}
use Rattle.occ_stepped.specs.Shown.{IsAround, Shows}

-- the channels of its steps have names, where the parameters have
pub moves_named : (names : List (List ℕ)) (machine : Machine) (moves : List Move) → moves ≡ moves_of (configuration machine)
    → All (λ (entry : Name × Kind). entry.0.0 < length names) machine.point.place.scope.items → All (MoveIsNamed names) moves
moves_named names machine moves e known =
    subst (All (MoveIsNamed names)) (sym e)
    (steps_named names machine.point.place.scope.items known (values_at machine.point.place) (control machine.point.control) machine.point.kept machine.point.state)

-- a text round the rows shows the steps
pub shown_around : (r : Result (Vec ℕ Global) Memory) (names : List (List ℕ)) (moves those : List Move) (rows : List ℕ) → moves ≡ those → TellsSteps names moves rows
    → IfOk r (λ text. IsAround rows text.items) → IfOk r (λ text. Shows names those text.items)
shown_around (Err m) names moves those rows e tells around = tt
shown_around (Ok text) names moves those rows e tells around =
    record { rows = rows; tells = subst (λ (ms : List Move). TellsSteps names ms rows) e tells; around = around }

pub shown_same : (r : Result (Vec ℕ Global) Memory) (names : List (List ℕ)) (moves those : List Move) → moves ≡ those
    → IfOk r (λ text. Shows names moves text.items) → IfOk r (λ text. Shows names those text.items)
shown_same r names moves those e h = subst (λ (ms : List Move). IfOk r (λ text. Shows names ms text.items)) e h

-- a state of the program is one of its copy with places
pub state_kept : (o : Option Places) (places : Places) (seen p : Program) (s : List (Name × ℕ)) → o ≡ Some places
    → IfSome o (λ (found : Places). found.marked.accepted.program.params ≡ seen.params) → seen ≡ p → is_state p.params s ≡ true
    → is_state places.marked.accepted.program.params s ≡ true
state_kept o places seen p s e h same state =
    let P : Option Places → Type 0 = λ x. IfSome x (λ (found : Places). found.marked.accepted.program.params ≡ seen.params) in
    let params : places.marked.accepted.program.params ≡ seen.params = subst P e h in
    ap (λ ps. is_state ps s) (params ∙ ap (λ (q : Program). q.params) same) ∙ state
