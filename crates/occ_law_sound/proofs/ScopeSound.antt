-- Each law of declarations leads to parts that are the same.
use Rattle.occ_law.specs.occ_base.declared.names.Name.{Name}
use Rattle.occ_law.specs.Scope.{ScopeSides}
use Rattle.occ_law_sound.proofs.ChannelBranches.{chan_alt_sound}
use Rattle.occ_law_sound.proofs.Declared.{chan_par_sound, chan_rename_sound, chan_seq_sound, chan_swap_sound, chan_unused_sound, var_first_sound, var_last_sound, var_par_sound, var_rename_sound, var_swap_sound, var_unused_sound}
use Rattle.occ_law_sound.proofs.DroppedPairs.{var_assign_sound, var_end_sound}
use Rattle.occ_law_sound.proofs.EachValue.{var_any_sound}
use Rattle.occ_law_sound.proofs.IntoBranches.{var_alt_sound}
use Rattle.occ_law_sound.proofs.IntoChoices.{chan_if_sound, var_if_sound}
use Rattle.occ_law_sound.proofs.OtherInput.{var_alt_input_sound}
use Rattle.occ_law.proofs.from_meaning.Facts.{either}
use Rattle.occ_law.specs.occ_syntax.Same.{SAME}
use Rattle.occ_law.specs.occ_syntax.Scopes.{Environment, environment}
use Rattle.occ_law.specs.occ_syntax.Tree.{Tree}
use Rattle.occ_law.specs.occ_syntax.Types.{types_kept}
use Rattle.occ_law.specs.occ_syntax.declared.scope.Kind.{Kind}
use Rattle.std.proofs.Common.{List, inl, inr, true, ℕ, ◌==◌, ◌≡◌}

pub scope_sound : (n : ℕ) (S : List (Name × Kind)) (ks : List ℕ) (l r : Tree) → types_kept l (environment S) ≡ true → ScopeSides n S ks l r
    → SAME (environment S) l r
scope_sound n S ks l r h =
    let Γ : Environment = environment S in
    either (n == 46) (var_unused_sound Γ ks l r h) (either (n == 47) (var_rename_sound Γ ks l r h) (either (n == 48) (var_swap_sound Γ ks l r h)
    (either (n == 49) (var_first_sound Γ ks l r h) (either (n == 50) (var_last_sound Γ ks l r h) (either (n == 51) (var_if_sound Γ ks l r)
    (either (n == 52) (λ k. elim k [ inl i ↦ var_alt_sound Γ ks l r i | inr i ↦ var_alt_input_sound Γ ks l r h i ])
    (either (n == 53) (var_par_sound Γ ks l r h) (either (n == 54) (var_any_sound Γ ks l r)
    (either (n == 55) (var_assign_sound Γ ks l r) (either (n == 56) (var_end_sound Γ ks l r) (either (n == 57) (chan_unused_sound Γ ks l r h)
    (either (n == 58) (chan_rename_sound Γ ks l r h) (either (n == 59) (chan_swap_sound Γ ks l r h) (either (n == 60) (chan_seq_sound Γ ks l r)
    (either (n == 61) (chan_if_sound Γ ks l r h) (either (n == 62) (chan_alt_sound Γ ks l r h) (either (n == 63) (chan_par_sound Γ ks l r h)
    (λ k. absurd k))))))))))))))))))
