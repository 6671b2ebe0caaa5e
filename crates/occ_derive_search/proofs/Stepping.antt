-- Steps that are taken one after the other.
use Rattle.std.proofs.Common.{◌≡◌, ℕ, ◌+◌, ◌<◌, suc, add-one, List, [], ◌∷◌, ◌++◌, length, take, drop, get_or, None, Some, sym, ap, subst, ◌∙◌}
use Rattle.std.proofs.lemmas.List.{map-append}
use Rattle.occ_syntax.specs.occ_base.declared.names.Name.{Name}
use Rattle.occ_derive_search.proofs.Numbers.{tabled}
use Rattle.occ_derive_search.specs.declared.walk.Walk.{Walk}
use Rattle.occ_derive_search.specs.Derivations.{IsDerived}
use Rattle.occ_derive_search.specs.Walking.{IsNext}
use Rattle.occ_derive_moves.proofs.Steps.{begun, go_on}
use Rattle.occ_derive_moves.specs.Steps.{IsStep, Steps, and_step, no_step}
use Rattle.occ_engine.proofs.Leading.{divided, taken_next}
use Rattle.occ_engine.specs.Followed.{ended}
use Rattle.occ_engine.specs.Moved.{move_of, moves_of}
use Rattle.occ_derive_moves.specs.occ_replay_rules.Moves.{Move}
use Rattle.occ_derive_moves.specs.occ_meaning.Context.{put}
use Rattle.occ_engine.specs.occ_script_write.declared.writing.Done.{Done}
use Rattle.occ_syntax.specs.declared.scope.Kind.{Kind}
use Rattle.occ_syntax.specs.declared.scope.Program.{Program}
use Rattle.occ_syntax.specs.Tree.{Tree}
use Rattle.occ_syntax.specs.View.{tree}

-- steps have led from one program to another
pub record IsOnWay (from : Program) (steps : List Done) (here : Program) : Type 0 where
  pub name : here.name ≡ from.name
  pub params : here.params ≡ from.params
  pub led : Steps from.params (tree from.body) (moves_of steps) (tree here.body)

-- none lead to a copy
pub sets_out : (from copy : Program) → copy.name ≡ from.name → copy.params ≡ from.params → tree copy.body ≡ tree from.body → IsOnWay from [] copy
sets_out from copy name params body = record {
  name = name;
  params = params;
  led = subst (Steps from.params (tree from.body) []) (sym body) (no_step (tree from.body));
}

-- one more
pub goes_on : (from : Program) (here next : Walk) (steps : List Done) (n : ℕ) (step : Done) → n < length steps → get_or steps n step ≡ step
    → IsOnWay from (take n steps) here.here → IsNext here.here (move_of step) (Some next) → IsOnWay from (take (n + 1) steps) next.here
goes_on from here next steps n step l e way (s, put_in) = record {
  name = put_in.name ∙ way.name;
  params = put_in.params ∙ way.params;
  led =
      let move = move_of step in
      let p = tree from.body in
      let q = tree here.here.body in
      let r = put move.path q move.part in
      let one = and_step q r move [] (subst (λ T. IsStep T q move) way.params s) (no_step r) in
      let led : Steps from.params p (moves_of (take n steps) ++ move ∷ []) (tree next.here.body) =
      subst (Steps from.params p (moves_of (take n steps) ++ move ∷ [])) (sym put_in.body) (go_on from.params p q r (moves_of (take n steps)) (move ∷ []) way.led one) in
      subst (λ ms. Steps from.params p ms (tree next.here.body))
      (sym (ap (λ k. moves_of (take k steps)) (add-one n) ∙ ap moves_of (taken_next steps n step l e) ∙ map-append move_of (take n steps) (step ∷ []))) led;
}

-- the step behind others is one of the process to which those lead
behind : (S : List (Name × Kind)) (p here q : Tree) (front : List Move) (move : Move) (rest : List Move) → Steps S p front here → Steps S p (front ++ move ∷ rest) q → IsStep S here move
behind S p here q front move rest (no_step a) all = (begun S a q move rest all).0
behind S p here q front move rest (and_step a b head others s further) all =
    behind S (put head.path a head.part) b q others move rest further (begun S a q head (others ++ move ∷ rest) all).1

-- what isn't a step leads nowhere, and so do all
pub ends_nowhere : (from : Program) (here : Walk) (steps : List Done) (n : ℕ) (step : Done) → n < length steps → get_or steps n step ≡ step
    → IsOnWay from (take n steps) here.here → IsNext here.here (move_of step) None → (q : Tree) → Steps from.params (tree from.body) (moves_of steps) q → ⊥
ends_nowhere from here steps n step l e way none q all =
    let move = move_of step in
    let rest = moves_of (drop (suc n) steps) in
    let parts : moves_of steps ≡ moves_of (take n steps) ++ move ∷ rest = ap moves_of (divided steps n step l e) ∙ map-append move_of (take n steps) (step ∷ drop (suc n) steps) in
    let whole = subst (λ ms. Steps from.params (tree from.body) ms q) parts all in
    let s : IsStep from.params (tree here.here.body) move = behind from.params (tree from.body) (tree here.here.body) q (moves_of (take n steps)) move rest way.led whole in
    none (subst (λ T. IsStep T (tree here.here.body) move) (sym way.params) s)

-- all of them
pub arrives : (from to : Program) (steps : List Done) → IsOnWay from steps to → IsDerived from (ended steps to)
arrives from to steps way = record {
  name = way.name;
  params = way.params;
  steps = way.led;
  tabled = tabled from.params (tree from.body) (tree to.body) steps way.led;
}
