-- How large a program is doesn't rest on its names.
use Rattle.std.proofs.Common.{◌≡◌, ℕ, ◌+◌, max, ◌&&◌, is_none, List, [], ◌∷◌, length, refl, ap, ap₂, ◌∙◌, suc}
use Rattle.occ_engine_known.specs.occ_base.declared.names.Name.{Name}
use Rattle.occ_engine_known.specs.occ_base.Width.{bits_of}
use Rattle.occ_renamed.proofs.States.{environment_under}
use Rattle.occ_renamed.specs.Scopes.{scope_renamed}
use Rattle.occ_renamed.proofs.from_meaning.Renaming.{IsExchange}
use Rattle.occ_renamed.specs.occ_meaning.Rename.{all_renamed, branches_renamed, cases_renamed, renamed}
use Rattle.occ_engine_known.specs.occ_syntax.Counts.{bits_of_kind, bits_of_scope, controls, controls_of_all, controls_of_branches, controls_of_cases, most_bits, most_bits_of_all, most_bits_of_branches, most_bits_of_cases}
use Rattle.occ_engine_known.specs.occ_syntax.declared.scope.Kind.{Kind}
use Rattle.occ_engine_known.specs.occ_syntax.Scopes.{Environment, environment}
use Rattle.occ_engine_known.specs.occ_syntax.Tree.{Branches, Cases, Tree, Trees, alt, and_branch, and_case, and_tree, assign, connect, declare, no_branch, no_case, no_tree, par, receive, select, send, seq, skip, stop}
use Rattle.occ_engine_known.specs.occ_syntax.Types.{can_declare, is_width, scope_kept, width_of_kind}

mutual
  pub controls_under : (f : ℕ → ℕ) (p : Tree) → controls (renamed p f) ≡ controls p
  controls_under f skip = refl
  controls_under f stop = refl
  controls_under f (assign xs es) = refl
  controls_under f (receive c x) = refl
  controls_under f (send c e) = refl
  controls_under f (seq ps) = ap (λ n. 1 + n) (all_controls_under f ps)
  controls_under f (par ps) = ap (λ n. 1 + n) (all_controls_under f ps)
  controls_under f (select cs) = ap (λ n. 1 + n) (case_controls_under f cs)
  controls_under f (alt bs) = ap (λ n. 1 + n) (branch_controls_under f bs)
  controls_under f (declare x w p) = ap (λ n. 1 + n) (controls_under f p)
  controls_under f (connect c w p) = ap (λ n. 1 + n) (controls_under f p)

  all_controls_under : (f : ℕ → ℕ) (ps : Trees) → controls_of_all (all_renamed ps f) ≡ controls_of_all ps
  all_controls_under f no_tree = refl
  all_controls_under f (and_tree p ps) = ap₂ ◌+◌ (controls_under f p) (all_controls_under f ps)

  case_controls_under : (f : ℕ → ℕ) (cs : Cases) → controls_of_cases (cases_renamed cs f) ≡ controls_of_cases cs
  case_controls_under f no_case = refl
  case_controls_under f (and_case e p cs) = ap₂ (λ m n. 1 + m + n) (controls_under f p) (case_controls_under f cs)

  branch_controls_under : (f : ℕ → ℕ) (bs : Branches) → controls_of_branches (branches_renamed bs f) ≡ controls_of_branches bs
  branch_controls_under f no_branch = refl
  branch_controls_under f (and_branch e w p bs) = ap₂ (λ m n. 1 + m + n) (controls_under f p) (branch_controls_under f bs)

mutual
  pub most_under : (f : ℕ → ℕ) (p : Tree) (n : ℕ) → most_bits (renamed p f) n ≡ most_bits p n
  most_under f skip n = refl
  most_under f stop n = refl
  most_under f (assign xs es) n = refl
  most_under f (receive c x) n = refl
  most_under f (send c e) n = refl
  most_under f (seq ps) n = all_most_under f ps n
  most_under f (par ps) n = all_most_under f ps n
  most_under f (select cs) n = case_most_under f cs n
  most_under f (alt bs) n = branch_most_under f bs n
  most_under f (declare x w p) n = most_under f p (n + bits_of w)
  most_under f (connect c w p) n = most_under f p n

  all_most_under : (f : ℕ → ℕ) (ps : Trees) (n : ℕ) → most_bits_of_all (all_renamed ps f) n ≡ most_bits_of_all ps n
  all_most_under f no_tree n = refl
  all_most_under f (and_tree p ps) n = ap₂ max (most_under f p n) (all_most_under f ps n)

  case_most_under : (f : ℕ → ℕ) (cs : Cases) (n : ℕ) → most_bits_of_cases (cases_renamed cs f) n ≡ most_bits_of_cases cs n
  case_most_under f no_case n = refl
  case_most_under f (and_case e p cs) n = ap₂ max (most_under f p n) (case_most_under f cs n)

  branch_most_under : (f : ℕ → ℕ) (bs : Branches) (n : ℕ) → most_bits_of_branches (branches_renamed bs f) n ≡ most_bits_of_branches bs n
  branch_most_under f no_branch n = refl
  branch_most_under f (and_branch e w p bs) n = ap₂ max (most_under f p n) (branch_most_under f bs n)

pub scope_bits_under : (f : ℕ → ℕ) (S : List (Name × Kind)) → bits_of_scope (scope_renamed f S) ≡ bits_of_scope S
scope_bits_under f [] = refl
scope_bits_under f (p ∷ S) = ap (λ n. bits_of_kind p.1 + n) (scope_bits_under f S)

pub scope_length_under : (f : ℕ → ℕ) (S : List (Name × Kind)) → length (scope_renamed f S) ≡ length S
scope_length_under f [] = refl
scope_length_under f (p ∷ S) = ap suc (scope_length_under f S)

pub scope_kept_under : (f : ℕ → ℕ) → IsExchange f → (S : List (Name × Kind)) → scope_kept (scope_renamed f S) ≡ scope_kept S
scope_kept_under f inv [] = refl
scope_kept_under f inv (p ∷ S) =
    let w = width_of_kind p.1 in
    ap (λ (Γ : Environment). can_declare Γ (f p.0.0) w && scope_kept (scope_renamed f S)) (environment_under f inv S)
    ∙ ap₂ (λ x b. (is_none (environment S x) && is_width w) && b) (inv p.0.0) (scope_kept_under f inv S)
