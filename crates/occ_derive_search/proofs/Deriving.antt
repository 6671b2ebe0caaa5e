-- Each derivation has a code.
use Rattle.std.proofs.Common.{◌≡◌, ℕ, true, List, [], ◌∷◌, ◌++◌, Some, refl, ap, sym, subst, append_assoc}
use Rattle.std.proofs.lemmas.List.{append-nil}
use Rattle.occ_syntax.specs.occ_base.declared.names.Name.{Name}
use Rattle.occ_derive_moves.proofs.from_meaning.Contexts.{part_types}
use Rattle.occ_derive_moves.proofs.from_meaning.Places.{put_there}
use Rattle.occ_derive_moves.specs.occ_meaning.Context.{environment_at, put}
use Rattle.occ_derive_search.specs.Codes.{HasCode}
use Rattle.occ_derive_search.proofs.Coding.{coded_part, counted}
use Rattle.occ_derive_search.proofs.Leading.{Leads, at_once, by, then_on}
use Rattle.occ_derive_search.proofs.CodeNumbers.{number_small}
use Rattle.occ_derive_search.specs.Piles.{Held, and_part, begun, nothing, where_true}
use Rattle.occ_derive_search.specs.declared.instruction.Instruction.TheVariants as instruction
use Rattle.occ_derive_moves.specs.occ_replay_rules.Moves.{Move}
use Rattle.occ_derive_moves.specs.Steps.{IsStep, Steps, and_step}
use Rattle.occ_derive_moves.specs.occ_script_lines.Places.{scope_list}
use Rattle.occ_syntax.specs.declared.scope.Kind.{Kind}
use Rattle.occ_syntax.specs.Scopes.{Environment, environment}
use Rattle.occ_syntax.specs.Tree.{Tree}
use Rattle.occ_syntax.specs.Types.{types_kept}

-- nothing is held but these steps
abbrev holding : List Move → Held
holding moves = record nothing { moves = moves }

-- a path that goes on
coded_path : (path front : List ℕ) (s : Held) → Leads (begun (record s { path = front })) (begun (record s { path = front ++ path }))
coded_path [] front s =
    let P : List ℕ → Type 0 = λ path. Leads (begun (record s { path = front })) (begun (record s { path = path })) in
    subst P (sym (append-nil front)) (at_once _)
coded_path (k ∷ path) front s =
    let P : List ℕ → Type 0 = λ path. Leads (begun (record s { path = front })) (begun (record s { path = path })) in
    subst P (append_assoc front (k ∷ []) path) (then_on (counted k (record s { path = front }))
    (then_on (by instruction.Enter _ (begun (record s { path = front ++ k ∷ [] })) refl) (coded_path path (front ++ k ∷ []) s)))

-- the part of a step keeps types in some environment
part_typed : (S : List (Name × Kind)) (p : Tree) (move : Move) → IsStep S p move → (Γ : Environment) × (types_kept move.part Γ ≡ true)
part_typed S p move step = (
  environment_at move.path (environment S) (put move.path p move.part),
  part_types move.path (environment S) (put move.path p move.part) move.part step.keeps.types (put_there move.path p step.old move.part step.there),
)

-- a step
coded_step : (S : List (Name × Kind)) (p : Tree) (move : Move) (front : List Move) → IsStep S p move → Leads (holding front) (holding (front ++ move ∷ []))
coded_step S p move front step =
    let typed = part_typed S p move step in
    let s = holding front in
    let t : Held = and_part move.part s in
    let small = number_small move.dir move.law (scope_list move.path S p) step.old move.part step.joins in
    then_on (coded_part move.part typed.0 typed.1 s)
    (then_on (coded_path move.path [] t)
    (then_on (counted move.law (record t { path = move.path }))
    (by (instruction.Step move.dir) _ _ (ap (λ b. where_true b (Some (holding (front ++ move ∷ [])))) small))))

coded_steps : (S : List (Name × Kind)) (p q : Tree) (moves front : List Move) → Steps S p moves q → Leads (holding front) (holding (front ++ moves))
coded_steps S p q [] front steps =
    let P : List Move → Type 0 = λ moves. Leads (holding front) (holding moves) in subst P (sym (append-nil front)) (at_once _)
coded_steps S p q (move ∷ moves) front (and_step a b c rest here further) =
    let P : List Move → Type 0 = λ moves. Leads (holding front) (holding moves) in
    subst P (append_assoc front (move ∷ []) moves)
    (then_on (coded_step S p move front here) (coded_steps S (put move.path p move.part) q moves (front ++ move ∷ []) further))

-- each derivation has a code
pub derivation_coded : (S : List (Name × Kind)) (p q : Tree) (moves : List Move) → Steps S p moves q → HasCode moves
derivation_coded S p q moves steps =
    let leads = coded_steps S p q moves [] steps in
    record { code = leads.code; digits = leads.digits; spells = record { last = holding moves; leads = leads.run; built = refl } }
