-- A declaration in front of an IF goes into each of its choices.
use Rattle.occ_law.specs.occ_base.declared.width.Width.{Width}
use Rattle.occ_law.specs.Lists.{conditions}
use Rattle.occ_law.specs.Scope.{ChanIf, VarIf, chan_if, each_case_connecting, each_case_declaring, var_if}
use Rattle.occ_law_sound.proofs.Opened.{channel_alike, never_connected, never_declared, variable_alike}
use Rattle.occ_law.proofs.from_meaning.Declared.{declared_off}
use Rattle.occ_law.proofs.from_meaning.Facts.{and_three, name_at}
use Rattle.occ_law.proofs.from_meaning.OffNames.{same_truth}
use Rattle.occ_law.proofs.from_meaning.OffValues.{truth_unnamed}
use Rattle.occ_law.proofs.from_meaning.Typing.{condition_in_scope}
use Rattle.occ_law.proofs.from_meaning.AtState.{AlikeAt, alike_through, alike_turned, chosen_cases, chosen_false, chosen_true, same_at}
use Rattle.occ_law.specs.occ_syntax.Eval.{is_true}
use Rattle.occ_law.specs.occ_syntax.Meaning.{Meaning, chosen, first_choice, meaning, over_channel, over_variable}
use Rattle.occ_law.specs.occ_syntax.Names.{names, some_names}
use Rattle.occ_law.specs.occ_syntax.Same.{SAME}
use Rattle.occ_law.specs.occ_syntax.Scopes.{Environment, Values, variable_kind, variable_width, with_name, with_value}
use Rattle.occ_law.specs.occ_syntax.Tree.{Cases, Exp, Tree, and_case, connect, declare, no_case, select}
use Rattle.occ_law.specs.occ_syntax.Types.{can_declare, cases_kept, is_condition, types_kept}
use Rattle.occ_law.specs.occ_syntax.declared.scope.Kind.{Kind}
use Rattle.occ_law.specs.occ_syntax.declared.scope.Kind.TheVariants.{Chan, Var}
use Rattle.std.proofs.Common.{List, None, ap, false, sym, true, ℕ, ◌∙◌, ◌≡◌}
use Rattle.std.proofs.lemmas.Bool.{and_parts, or_parts}

-- a condition that doesn't name the variable is as true inside its scope
pub truth_inside : (Γ : Environment) (s : Values) (x : ℕ) (kind : Kind) (v : ℕ) (b : Exp) → names b x ≡ false
    → is_true (with_name Γ x kind) b (with_value s x v) ≡ is_true Γ b s
truth_inside Γ s x kind v b h =
    sym (truth_unnamed (with_name Γ x kind) s x v b h) ∙ sym (same_truth x Γ (with_name Γ x kind) s (declared_off Γ x kind) b h)

-- where an operator goes past the test of a choice, on each side
past_choice : (Γ : Environment) (s : Values) (b : Exp) (first whole m n : Meaning) → (is_true Γ b s ≡ true → AlikeAt Γ s s whole m)
    → (is_true Γ b s ≡ false → AlikeAt Γ s s whole first) → AlikeAt Γ s s first n → AlikeAt Γ s s whole (chosen b m n)
past_choice Γ s b first whole m n h k rest =
    alike_turned Γ s s (chosen b m n) whole (chosen_cases Γ s s b m n whole
    (λ i. alike_turned Γ s s whole m (h i))
    (λ i. alike_turned Γ s s whole n (alike_through Γ s s s whole first n (k i) rest)))

cases_declared : (Γ : Environment) (s : Values) (x : ℕ) (w : Width) (cs : Cases) → some_names (conditions cs) x ≡ false
    → AlikeAt Γ s s (over_variable x w (first_choice cs)) (first_choice (each_case_declaring x w cs))
cases_declared Γ s x w no_case h = never_declared x w Γ s
cases_declared Γ s x w (and_case b p cs) h =
    let j = or_parts (names b x) (some_names (conditions cs) x) h in
    let m : Meaning = meaning p in
    let n : Meaning = first_choice cs in
    let Δ : Environment = with_name Γ x (Var w) in
    past_choice Γ s b (over_variable x w n) (over_variable x w (chosen b m n)) (over_variable x w m) (first_choice (each_case_declaring x w cs))
    (λ i. variable_alike x w (chosen b m n) m Γ s (λ v. chosen_true Δ (with_value s x v) b m n (truth_inside Γ s x (Var w) v b j.0 ∙ i)))
    (λ i. variable_alike x w (chosen b m n) n Γ s (λ v. chosen_false Δ (with_value s x v) b m n (truth_inside Γ s x (Var w) v b j.0 ∙ i)))
    (cases_declared Γ s x w cs j.1)

pub var_if_sound : (Γ : Environment) (ks : List ℕ) (l r : Tree) → VarIf ks l r → SAME Γ l r
var_if_sound Γ ks l r (var_if x w cs h) = same_at Γ (declare x w (select cs)) (select (each_case_declaring x w cs)) (λ s state. cases_declared Γ s x w cs h)

-- a declared channel is no variable
pub channel_no_variable : (Γ : Environment) (c : ℕ) (w : Width) → variable_width (with_name Γ c (Chan w None)) c ≡ None
channel_no_variable Γ c w = ap variable_kind (name_at Γ c (Chan w None))

cases_connected : (Γ : Environment) (s : Values) (c : ℕ) (w : Width) (cs : Cases) → cases_kept cs (with_name Γ c (Chan w None)) ≡ true
    → AlikeAt Γ s s (over_channel c w (first_choice cs)) (first_choice (each_case_connecting c w cs))
cases_connected Γ s c w no_case h = never_connected c w Γ s
cases_connected Γ s c w (and_case b p cs) h =
    let Δ : Environment = with_name Γ c (Chan w None) in
    let j = and_three (is_condition Δ b) (types_kept p Δ) (cases_kept cs Δ) h in
    let same : is_true Δ b s ≡ is_true Γ b s =
    sym (same_truth c Γ Δ s (declared_off Γ c (Chan w None)) b (condition_in_scope Δ c (channel_no_variable Γ c w) b j.0)) in
    let m : Meaning = meaning p in
    let n : Meaning = first_choice cs in
    past_choice Γ s b (over_channel c w n) (over_channel c w (chosen b m n)) (over_channel c w m) (first_choice (each_case_connecting c w cs))
    (λ i. channel_alike c w (chosen b m n) m Γ s (chosen_true Δ s b m n (same ∙ i)))
    (λ i. channel_alike c w (chosen b m n) n Γ s (chosen_false Δ s b m n (same ∙ i)))
    (cases_connected Γ s c w cs j.2)

pub chan_if_sound : (Γ : Environment) (ks : List ℕ) (l r : Tree) → types_kept l Γ ≡ true → ChanIf ks l r → SAME Γ l r
chan_if_sound Γ ks l r t (chan_if c w cs) = same_at Γ (connect c w (select cs)) (select (each_case_connecting c w cs)) (λ s state.
    cases_connected Γ s c w cs (and_parts (can_declare Γ c w) (cases_kept cs (with_name Γ c (Chan w None))) t).1)
