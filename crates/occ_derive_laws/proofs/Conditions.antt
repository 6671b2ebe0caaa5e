-- When conditions are few, and when one of them is TRUE in every state.
use Rattle.std.proofs.Common.{◌≡◌, ◌≤◌, ◌==◌, ℕ, Bool, true, false, None, cond, List, [], ◌∷◌, ◌++◌, arith, ap, refl, sym, ◌∙◌}
use Rattle.std.proofs.lemmas.Bool.{or_left, or_right}
use Rattle.occ_renamed.specs.occ_base.declared.names.Name.{Name}
use Rattle.occ_renamed.specs.occ_bits.Named.{bits_named, named_part}
use Rattle.occ_renamed.specs.occ_law.Lists.{all_cases, conditions}
use Rattle.occ_renamed.specs.occ_law.States.{AreFew, IsAlways, IsExhaustive, some_true}
use Rattle.occ_renamed.proofs.from_meaning.Facts.{true_not_false}
use Rattle.occ_renamed.proofs.from_meaning.Named.{eval_by_names}
use Rattle.occ_renamed.specs.occ_syntax.Counts.{bits_of_scope}
use Rattle.occ_renamed.specs.occ_syntax.declared.scope.Kind.{Kind}
use Rattle.occ_renamed.specs.occ_syntax.Eval.{is_true}
use Rattle.occ_renamed.specs.occ_syntax.Names.{names, some_names}
use Rattle.occ_renamed.specs.occ_syntax.Scopes.{Environment, Values}
use Rattle.occ_renamed.specs.occ_syntax.Tree.{Cases, Exp, and_case, no_case}

-- ---- bits

-- where fewer variables are named, there are fewer bits
fewer_bits : (S : List (Name × Kind)) (es fs : List Exp) → ((x : ℕ) → some_names es x ≡ true → some_names fs x ≡ true)
    → bits_named S es ≤ bits_named S fs
fewer_bits [] es fs h = omega arith
fewer_bits (entry ∷ S) es fs h = choose (some_names es entry.0.0) (some_names fs entry.0.0) (h entry.0.0) (fewer_bits S es fs h)
  where
    choose : (a b : Bool) → (a ≡ true → b ≡ true) → bits_named S es ≤ bits_named S fs
        → bits_of_scope (cond a (entry ∷ named_part S es) (named_part S es)) ≤ bits_of_scope (cond b (entry ∷ named_part S fs) (named_part S fs))
    choose true true i rest = omega (arith, rest)
    choose true false i rest = true_not_false (sym (i refl))
    choose false true i rest = omega (arith, rest)
    choose false false i rest = rest

pub less_few : (S : List (Name × Kind)) (es fs : List Exp) → AreFew S fs → ((x : ℕ) → some_names es x ≡ true → some_names fs x ≡ true) → AreFew S es
less_few S es fs few h = let less = fewer_bits S es fs h in omega (arith, few, less)

-- ---- states

-- a condition that names nothing has one value
pub truth_anywhere : (Γ : Environment) (b : Exp) (s : Values) → ((x : ℕ) → names b x ≡ false) → is_true Γ b s ≡ is_true (λ x. None) b (λ x. 0)
truth_anywhere Γ b s h =
    ap (λ v. v == 1) (eval_by_names Γ (λ x. None) s (λ x. 0) b (λ x i. true_not_false (sym i ∙ h x)) (λ x i. true_not_false (sym i ∙ h x)))

pub always_exhaustive : (Γ : Environment) (bs cs : List Exp) (b : Exp) → IsAlways Γ b → IsExhaustive Γ (bs ++ b ∷ cs)
always_exhaustive Γ [] cs b h s state = or_left (is_true Γ b s) (some_true Γ cs s) (h s state)
always_exhaustive Γ (a ∷ bs) cs b h s state = or_right (is_true Γ a s) (some_true Γ (bs ++ b ∷ cs) s) (always_exhaustive Γ bs cs b h s state)

pub conditions_append : (cs ds : Cases) → conditions (all_cases cs ds) ≡ conditions cs ++ conditions ds
conditions_append no_case ds = refl
conditions_append (and_case b p cs) ds = ap (λ z. b ∷ z) (conditions_append cs ds)
