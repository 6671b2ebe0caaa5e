-- What holds along a derivation.
use Rattle.std.proofs.Common.{◌≡◌, ℕ, true, List, [], ◌∷◌, ◌++◌, refl, sym, subst, ◌∙◌}
use Rattle.occ_print.specs.occ_base.declared.names.Name.{Name}
use Rattle.occ_law_sound.specs.occ_law.RuleTable.{LAW}
use Rattle.occ_parse_part.proofs.from_meaning.Alike.{same_back, same_itself, same_through}
use Rattle.occ_replay_rules.specs.Steps.{Derives, IsGoodStep, Joins, Step, and_step, new_part, new_whole, no_step, scope_there}
use Rattle.occ_script_lines.specs.declared.direction.Direction.{Direction}
use Rattle.occ_script_lines.specs.declared.direction.Direction.TheVariants as direction
use Rattle.occ_script_lines.proofs.Scoping.{put_in_same}
use Rattle.occ_print.specs.occ_syntax.declared.scope.Kind.{Kind}
use Rattle.occ_print.specs.occ_syntax.Same.{SAME}
use Rattle.occ_print.specs.occ_syntax.Scopes.{environment}
use Rattle.occ_print.specs.occ_syntax.Tree.{Tree}
use Rattle.occ_print.specs.occ_syntax.Types.{scope_kept, types_kept}

-- the two sides of each law mean the same
abbrev pub AreSound : Type 0
AreSound = (n : ℕ) (S : List (Name × Kind)) (l r : Tree) → LAW n S l r → SAME (environment S) l r

-- no step leads from a process to itself
pub ended : (S : List (Name × Kind)) (p q : Tree) → Derives S p [] q → p ≡ q
ended S p q (no_step a) = refl

-- the first of some steps is good, and the others go on from where it leads
pub begun : (S : List (Name × Kind)) (p q : Tree) (step : Step) (steps : List Step) → Derives S p (step ∷ steps) q → IsGoodStep S p step × Derives S (new_whole S p step) steps q
begun S p q step steps (and_step a b s rest good further) = (good, further)

-- steps lead to one process
pub one : (S : List (Name × Kind)) (p q r : Tree) (steps : List Step) → Derives S p steps q → Derives S p steps r → q ≡ r
one S p q r [] d e = sym (ended S p q d) ∙ ended S p r e
one S p q r (step ∷ steps) d e = one S (new_whole S p step) q r steps (begun S p q step steps d).1 (begun S p r step steps e).1

-- further steps go on from where steps lead
pub follow : (S : List (Name × Kind)) (p q r : Tree) (steps more : List Step) → Derives S p steps q → Derives S q more r → Derives S p (steps ++ more) r
follow S p q r [] more d e = subst (λ a. Derives S a more r) (sym (ended S p q d)) e
follow S p q r (step ∷ steps) more d e =
    let b = begun S p q step steps d in
    and_step p r step (steps ++ more) b.0 (follow S (new_whole S p step) q r steps more b.1 e)

-- the two parts that a law joins are the same
joined_same : AreSound → (dir : Direction) (n : ℕ) (S : List (Name × Kind)) (old new : Tree) → Joins dir n S old new → SAME (environment S) old new
joined_same sound direction.Forward n S old new j = sound n S old new j
joined_same sound direction.Backward n S old new j = same_back (environment S) new old (sound n S new old j)

-- a step leads to a process that is the same
step_same : AreSound → (S : List (Name × Kind)) (p : Tree) (step : Step) → scope_kept S ≡ true → types_kept p (environment S) ≡ true → IsGoodStep S p step → SAME (environment S) p (new_whole S p step)
step_same sound S p step h t good =
    put_in_same step.path S p good.old (new_part S p step) h t good.there
    (joined_same sound step.dir good.law (scope_there S p step) good.old (new_part S p step) good.joins)

-- steps join two processes that are the same
pub derived_same : AreSound → (S : List (Name × Kind)) (p q : Tree) (steps : List Step) → scope_kept S ≡ true → types_kept p (environment S) ≡ true → Derives S p steps q → SAME (environment S) p q
derived_same sound S p q [] h t d = subst (SAME (environment S) p) (ended S p q d) (same_itself (environment S) p)
derived_same sound S p q (step ∷ steps) h t d =
    let b = begun S p q step steps d in
    same_through (environment S) p (new_whole S p step) q (step_same sound S p step h t b.0)
    (derived_same sound S (new_whole S p step) q steps h b.0.acceptable.keeps.types b.1)
