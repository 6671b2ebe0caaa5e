-- What a verdict mentions has a name, where the parameters have.
use Rattle.std.proofs.Common.{◌≡◌, ℕ, zero, suc, true, ◌<◌, List, [], ◌∷◌, Option, Some, None, length, arith}
use Rattle.std.specs.List.{All}
use Rattle.std.proofs.lemmas.Bool.{and_parts, ltb-true}
use Rattle.occ_syntax.specs.occ_base.declared.names.Name.{Name}
use Rattle.occ_syntax.specs.declared.scope.Kind.{Kind}
use Rattle.occ_tool_words.specs.occ_parse.Known.{params_declare, is_below}
use Rattle.occ_run_schedule.specs.occ_behaviour.declared.behaviour.Verdict.{Verdict}
use Rattle.occ_run_schedule.specs.occ_behaviour.Members.{VerdictIsNamed}
use Rattle.occ_run_schedule.specs.occ_behaviour.declared.behaviour.Behaviour.{Behaviour}
use Rattle.occ_run_schedule.specs.occ_compare.Verdicts.{IsPrintable}
use Rattle.occ_run_schedule.specs.occ_compare.declared.refined.Refined.{Refined as Refinement}
use Rattle.occ_run_schedule.specs.occ_compare.declared.refined.Refined.TheVariants.{Yes, No}
use Rattle.occ_refine.specs.Roots.{RefinedIsNamed, DeadlockIsNamed}
use Rattle.occ_tool_run.specs.Texts.{RefinementIsNamed, FoundIsNamed}

params_below : (params : List (Name × Kind)) (n : ℕ) → params_declare (is_below n) params ≡ true → All (λ (entry : Name × Kind). entry.0.0 < n) params
params_below [] n h i d k = absurd (omega (arith, k))
params_below (entry ∷ params) n h zero d k = ltb-true _ _ (and_parts _ _ h).0
params_below (entry ∷ params) n h (suc i) d k = params_below params n (and_parts _ _ h).1 i d (omega (arith, k))

pub verdict_named : (params : List (Name × Kind)) (names : List (List ℕ)) → params_declare (is_below (length names)) params ≡ true → (v : Verdict) → IsPrintable params v → VerdictIsNamed names v
verdict_named params names known v h = h names (params_below params (length names) known)

pub refined_named : (params : List (Name × Kind)) (names : List (List ℕ)) → params_declare (is_below (length names)) params ≡ true → (v : Refinement) → RefinedIsNamed params v → RefinementIsNamed names v
refined_named params names known Yes h = tt
refined_named params names known (No b) h = h names (params_below params (length names) known)

pub found_named : (params : List (Name × Kind)) (names : List (List ℕ)) → params_declare (is_below (length names)) params ≡ true → (v : Option Behaviour) → DeadlockIsNamed params v → FoundIsNamed names v
found_named params names known None h = tt
found_named params names known (Some b) h = h names (params_below params (length names) known)
