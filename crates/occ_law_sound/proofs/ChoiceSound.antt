-- Each law of IF and ALT leads to parts that are the same.
use Rattle.occ_law.specs.occ_base.declared.names.Name.{Name}
use Rattle.occ_law_sound.proofs.Alternatives as alternatives
use Rattle.occ_law_sound.proofs.Choices as choices
use Rattle.occ_law.specs.Choice.{ChoiceSides}
use Rattle.occ_law.proofs.from_meaning.Facts.{either}
use Rattle.occ_law.specs.occ_syntax.Same.{SAME}
use Rattle.occ_law.specs.occ_syntax.Scopes.{Environment, environment}
use Rattle.occ_law.specs.occ_syntax.Tree.{Tree}
use Rattle.occ_law.specs.occ_syntax.Types.{types_kept}
use Rattle.occ_law.specs.occ_syntax.declared.scope.Kind.{Kind}
use Rattle.std.proofs.Common.{List, true, ℕ, ◌==◌, ◌≡◌}

pub choice_sound : (n : ℕ) (S : List (Name × Kind)) (ks : List ℕ) (l r : Tree) → types_kept l (environment S) ≡ true → ChoiceSides n S ks l r
    → SAME (environment S) l r
choice_sound n S ks l r h =
    let Γ : Environment = environment S in
    either (n == 16) (choices.none_sound Γ ks l r) (either (n == 17) (choices.false_sound S ks l r) (either (n == 18) (choices.true_sound S ks l r)
    (either (n == 19) (choices.else_stop_sound Γ ks l r) (either (n == 20) (choices.cut_sound S ks l r) (either (n == 21) (choices.nest_sound Γ ks l r h)
    (either (n == 22) (choices.swap_sound S ks l r) (either (n == 23) (choices.merge_sound Γ ks l r h) (either (n == 24) (choices.copy_sound S ks l r)
    (either (n == 25) (choices.under_sound S ks l r) (either (n == 26) (alternatives.none_sound Γ ks l r) (either (n == 27) (alternatives.order_sound Γ ks l r)
    (either (n == 28) (alternatives.false_sound S ks l r) (either (n == 29) (alternatives.twice_sound Γ ks l r) (either (n == 30) (alternatives.skip_sound Γ ks l r)
    (either (n == 31) (alternatives.case_sound Γ ks l r) (either (n == 32) (alternatives.flat_sound Γ ks l r) (either (n == 33) (alternatives.split_sound Γ ks l r)
    (either (n == 34) (alternatives.same_guard_sound Γ ks l r) (either (n == 35) (alternatives.slide_sound Γ ks l r) (either (n == 36) (alternatives.least_sound Γ ks l r)
    (λ k. absurd k)))))))))))))))))))))
