-- Steps lead back.
use Rattle.std.proofs.Common.{◌≡◌, ◌∙◌, ℕ, List, [], ◌∷◌, sym, ap, subst, reverse}
use Rattle.std.proofs.lemmas.Grind.{reverse_onto}
use Rattle.occ_syntax.specs.occ_base.declared.names.Name.{Name}
use Rattle.occ_tool_run.proofs.from_derive_moves.Steps.{go_on}
use Rattle.occ_tool_run.specs.occ_derive_moves.Steps.{IsStep, Steps, and_step, no_step}
use Rattle.occ_tool_run.specs.occ_replay_rules.Moves.{Move}
use Rattle.occ_tool_run.proofs.from_meaning.Facts.{some_is}
use Rattle.occ_tool_run.proofs.from_meaning.Places.{put_there}
use Rattle.occ_tool_run.specs.occ_meaning.Context.{part_at, put}
use Rattle.occ_prove.proofs.Back.{put_back, scope_in}
use Rattle.occ_prove.specs.Undone.{AreUndone, IsUndone, opposite}
use Rattle.occ_tool_run.specs.occ_replay_rules.Steps.{Joins}
use Rattle.occ_tool_run.specs.occ_script_lines.declared.direction.Direction.{Direction}
use Rattle.occ_tool_run.specs.occ_script_lines.declared.direction.Direction.TheVariants as direction
use Rattle.occ_tool_run.specs.occ_script_lines.Places.{scope_list}
use Rattle.occ_syntax.specs.declared.scope.Kind.{Kind}
use Rattle.occ_syntax.specs.Scopes.{environment}
use Rattle.occ_syntax.specs.Tree.{Tree}
use Rattle.occ_syntax.specs.Usage.{Keeps}

-- a law that joins two parts joins them the other way round
joins_back : (dir : Direction) (n : ℕ) (S : List (Name × Kind)) (old new : Tree) → Joins dir n S old new → Joins (opposite dir) n S new old
joins_back direction.Forward n S old new j = j
joins_back direction.Backward n S old new j = j

-- a step can be undone
step_back : (S : List (Name × Kind)) (p : Tree) (move back : Move) → Keeps (environment S) p → IsUndone p move back → IsStep S p move
    → IsStep S (put move.path p move.part) back
step_back S p move back k u m =
    let w = put move.path p move.part in
    let old : m.old ≡ back.part = some_is (sym m.there ∙ u.part) in
    let joined : Joins (opposite move.dir) move.law (scope_list move.path S w) move.part back.part =
    subst (λ T. Joins (opposite move.dir) move.law T move.part back.part) (sym (scope_in move.path S p back.part move.part u.part))
    (joins_back move.dir move.law (scope_list move.path S p) back.part move.part
    (subst (λ o. Joins move.dir move.law (scope_list move.path S p) o move.part) old m.joins)) in
    record {
      old = move.part;
      there = ap (λ z. part_at z w) u.path ∙ put_there move.path p back.part move.part u.part;
      keeps = subst (Keeps (environment S)) (sym (ap (λ z. put z w back.part) u.path ∙ put_back move.path p back.part move.part u.part)) k;
      joins = subst (λ d. Joins d back.law (scope_list back.path S w) move.part back.part) (sym u.dir)
          (subst (λ l. Joins (opposite move.dir) l (scope_list back.path S w) move.part back.part) (sym u.law)
          (subst (λ z. Joins (opposite move.dir) move.law (scope_list z S w) move.part back.part) (sym u.path) joined));
    }

-- one step back
one_back : (S : List (Name × Kind)) (p : Tree) (move back : Move) → Keeps (environment S) p → IsUndone p move back → IsStep S p move
    → Steps S (put move.path p move.part) (back ∷ []) p
one_back S p move back k u m =
    let w = put move.path p move.part in
    and_step w p back [] (step_back S p move back k u m)
    (subst (λ z. Steps S z [] p) (sym (ap (λ z. put z w back.part) u.path ∙ put_back move.path p back.part move.part u.part)) (no_step p))

-- the steps that undo others, the last one first, lead back
pub lead_back : (S : List (Name × Kind)) (p q : Tree) (moves back : List Move) → Keeps (environment S) p → Steps S p moves q → AreUndone p moves back
    → Steps S q (reverse back) p
lead_back S p q moves [] k (no_step a) u = no_step a
lead_back S p q moves (b ∷ back) k (no_step a) u = absurd u
lead_back S p q moves [] k (and_step a c move rest m on) u = absurd u
lead_back S p q moves (b ∷ back) k (and_step a c move rest m on) u =
    subst (λ bs. Steps S c bs a) (sym (reverse_onto back b []))
    (go_on S c (put move.path a move.part) a (reverse back) (b ∷ [])
    (lead_back S (put move.path a move.part) c rest back m.keeps on u.1)
    (one_back S a move b k u.0 m))
