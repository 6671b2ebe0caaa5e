-- A machine before its first step and after each step: what it keeps.
use Rattle.std.proofs.Common.{◌≡◌, ℕ, true, List, Some, sym, ap, subst, ◌∙◌, slice_get}
use Rattle.std.proofs.Math.Bool.{Bool-set}
use Rattle.std.proofs.Math.Logic.{∥∥₁_elim, ∥∥₁_map}
use Rattle.std.proofs.lemmas.Bool.{lt-ltb, ltb-true}
use Rattle.occ_behaviour.specs.States.{is_state}
use Rattle.occ_run.proofs.Holding.{holds_state}
use Rattle.occ_run_steps.proofs.KeptSettled.{begun_kept}
use Rattle.occ_run_steps.specs.Settled.{begun, settled}
use Rattle.occ_syntax.specs.Tree.{Tree}
use Rattle.occ_syntax.specs.Types.{types_kept}
use Rattle.occ_syntax.specs.Usage.{Keeps}
use Rattle.occ_syntax.specs.occ_base.declared.names.Name.{Name}
use Rattle.occ_syntax.specs.declared.scope.Kind.{Kind}
use Rattle.occ_syntax.specs.Scopes.{IsState, Trace, Values, environment, values}
use Rattle.occ_run_steps.proofs.Leading.{numbered_is, stepped_kept}
use Rattle.occ_run_steps.proofs.StepKeeps.{step_keeps}
use Rattle.occ_run_steps.specs.Control.{Control}
use Rattle.occ_run_steps.specs.Kept.{Kept, types_held}
use Rattle.occ_run_steps.specs.Leads.{stepped}
use Rattle.occ_run_steps.specs.Step.{Step, changed}
use Rattle.occ_run_steps.specs.Steps.{steps}
use Rattle.occ_run.specs.Configurations.{Configuration}

-- ---- after a step

module _ (params scope : List (Name × Kind)) (s u : Values) (C D E : Control) (k : Step Control) (n : ℕ) (at : slice_get (steps (environment params) s C) n ≡ Some k)
    (kept : ∥ Kept (environment params) C ∥₁) (state : IsState (environment params) s) (same : scope ≡ params) (left : D ≡ k.next) where
  -- what a step leaves is typed before it settles
  pub left_types : types_held D (environment scope) ≡ true
  left_types =
      ap (λ ps. types_held D (environment ps)) same ∙ ap (λ B. types_held B (environment params)) left
      ∙ ∥∥₁_elim kept (Bool-set _ _) (λ h. (step_keeps (environment params) s C h state k (numbered_is (steps (environment params) s C) n k at)).kept.types)

  -- it keeps the rules once it has settled
  pub later_kept : u ≡ changed k.changes s → E ≡ settled (environment scope) u D → ∥ Kept (environment scope) E ∥₁
  later_kept e f =
      let P : List (Name × Kind) → Type 0 = λ ps. ∥ Kept (environment ps) E ∥₁ in
      let Q : Control → Type 0 = λ B. ∥ Kept (environment params) B ∥₁ in
      let there : E ≡ stepped (environment params) s k =
      f ∙ ap (λ ps. settled (environment ps) u D) same ∙ ap (λ r. settled (environment params) r D) e ∙ ap (settled (environment params) (changed k.changes s)) left in
      subst P (sym same) (subst Q (sym there) (∥∥₁_map kept (λ h. (stepped_kept (environment params) s C h state k (numbered_is (steps (environment params) s C) n k at)).0)))

  -- the values have their widths
  pub later_state : u ≡ changed k.changes s → IsState (environment scope) u
  later_state e =
      let P : List (Name × Kind) → Type 0 = λ ps. IsState (environment ps) u in
      let Q : Values → Type 0 = λ r. IsState (environment params) r in
      let there : IsState (environment params) (changed k.changes s) =
      λ x w f. ltb-true _ _ (∥∥₁_elim kept (Bool-set _ _) (λ h. lt-ltb _ _ ((stepped_kept (environment params) s C h state k (numbered_is (steps (environment params) s C) n k at)).1 x w f))) in
      subst P (sym same) (subst Q (sym e) there)

-- ---- configurations

abbrev pub made : List (Name × Kind) → Values → Control → Trace → Configuration
made p s C t = record { params = p; values = s; control = C; trace = t }

-- configurations with equal parts
pub same_made : (p q : List (Name × Kind)) (s r : Values) (C D : Control) (t u : Trace) → p ≡ q → s ≡ r → C ≡ D → t ≡ u → made p s C t ≡ made q r D u
same_made p q s r C D t u e f g h =
    ap (λ x. made x s C t) e ∙ ap (λ x. made q x C t) f ∙ ap (λ x. made q r x t) g ∙ ap (made q r D) h

-- ---- before the first step

pub started_kept : (scope params : List (Name × Kind)) (s : Values) (p : Tree) (C : Control) → scope ≡ params → ∥ Keeps (environment params) p ∥₁ → C ≡ begun (environment scope) s p
    → ∥ Kept (environment scope) C ∥₁
started_kept scope params s p C e keeps f =
    let P : Control → Type 0 = λ D. ∥ Kept (environment scope) D ∥₁ in
    subst P (sym f) (∥∥₁_map keeps (λ k. begun_kept (environment scope) s p (ap (λ ps. types_kept p (environment ps)) e ∙ k.types) k.usage))

pub started_state : (scope params : List (Name × Kind)) (l m : List (Name × ℕ)) → scope ≡ params → l ≡ m → is_state params m ≡ true → IsState (environment scope) (values l)
started_state scope params l m e f h =
    let P : List (Name × Kind) → Type 0 = λ ps. IsState (environment ps) (values l) in
    subst P (sym e) (holds_state params l (ap (is_state params) f ∙ h))
