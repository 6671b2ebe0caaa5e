-- An IF keeps names, types, directions and usage where each choice does, and uses no more than a process where none does.
use Rattle.std.proofs.Common.{◌≡◌, ◌∙◌, ◌||◌, ℕ, true, Some, List, [], ◌∷◌, ap, refl, sym}
use Rattle.std.proofs.lemmas.Bool.{and_from, and_parts}
use Rattle.occ_renamed.specs.occ_base.declared.event.Dir.{Dir}
use Rattle.occ_renamed.specs.occ_base.declared.width.Width.TheVariants.{Bool as TruthValue}
use Rattle.occ_renamed.specs.occ_bits.Named.{are_conditions}
use Rattle.occ_renamed.specs.occ_law.Choice.{copies, each_case_under}
use Rattle.occ_renamed.specs.occ_law.Lists.{all_cases}
use Rattle.occ_renamed.proofs.from_meaning.Facts.{and_three}
use Rattle.occ_renamed.proofs.from_meaning.Typing.{condition_type}
use Rattle.occ_renamed.specs.occ_syntax.declared.expr.Op.TheVariants.{And}
use Rattle.occ_renamed.specs.occ_syntax.Names.{end_in_cases, free, free_in_cases, names, uses_end, written, written_in_cases}
use Rattle.occ_renamed.specs.occ_syntax.Scopes.{Environment}
use Rattle.occ_renamed.specs.occ_syntax.Tree.{Cases, Exp, Tree, and_case, no_case, operation, select, stop, truth}
use Rattle.occ_renamed.specs.occ_syntax.Types.{agree, cases_kept, is_condition, type_of, type_of_two, types_kept}
use Rattle.occ_renamed.specs.occ_syntax.Usage.{Keeps}
use Rattle.occ_renamed.specs.occ_usage.Local.{UsesNoMore}

-- a choice keeps them
pub record IsKeptCase (Γ : Environment) (b : Exp) (p : Tree) : Type 0 where
  pub condition : is_condition Γ b ≡ true
  pub part : Keeps Γ p

pub first_case : (Γ : Environment) (b : Exp) (p : Tree) (cs : Cases) → Keeps Γ (select (and_case b p cs)) → IsKeptCase Γ b p
first_case Γ b p cs k =
    let t = and_three (is_condition Γ b) (types_kept p Γ) (cases_kept cs Γ) k.types in
    record { condition = t.0; part = record { types = t.1; usage = k.usage.0 } }

pub later_cases : (Γ : Environment) (b : Exp) (p : Tree) (cs : Cases) → Keeps Γ (select (and_case b p cs)) → Keeps Γ (select cs)
later_cases Γ b p cs k =
    record { types = (and_three (is_condition Γ b) (types_kept p Γ) (cases_kept cs Γ) k.types).2; usage = k.usage.1 }

pub and_kept : (Γ : Environment) (b : Exp) (p : Tree) (cs : Cases) → IsKeptCase Γ b p → Keeps Γ (select cs) → Keeps Γ (select (and_case b p cs))
and_kept Γ b p cs c k =
    record { types = and_from _ _ (and_from _ _ c.condition c.part.types) k.types; usage = (c.part.usage, k.usage) }

pub none_kept : (Γ : Environment) → Keeps Γ (select no_case)
none_kept Γ = record { types = refl; usage = tt }

pub front_kept : (Γ : Environment) (cs ds : Cases) → Keeps Γ (select (all_cases cs ds)) → Keeps Γ (select cs)
front_kept Γ no_case ds k = none_kept Γ
front_kept Γ (and_case b p cs) ds k =
    and_kept Γ b p cs (first_case Γ b p (all_cases cs ds) k) (front_kept Γ cs ds (later_cases Γ b p (all_cases cs ds) k))

pub behind_kept : (Γ : Environment) (cs ds : Cases) → Keeps Γ (select (all_cases cs ds)) → Keeps Γ (select ds)
behind_kept Γ no_case ds k = k
behind_kept Γ (and_case b p cs) ds k = behind_kept Γ cs ds (later_cases Γ b p (all_cases cs ds) k)

pub all_kept : (Γ : Environment) (cs ds : Cases) → Keeps Γ (select cs) → Keeps Γ (select ds) → Keeps Γ (select (all_cases cs ds))
all_kept Γ no_case ds k h = h
all_kept Γ (and_case b p cs) ds k h =
    and_kept Γ b p (all_cases cs ds) (first_case Γ b p cs k) (all_kept Γ cs ds (later_cases Γ b p cs k) h)

-- ---- what laws make of choices

conjunction_typed : (Γ : Environment) (b c : Exp) → is_condition Γ b ≡ true → is_condition Γ c ≡ true → is_condition Γ (operation And b c) ≡ true
conjunction_typed Γ b c h k =
    ap (λ o. agree (type_of_two And o (type_of Γ c)) (Some TruthValue)) (condition_type Γ b h)
    ∙ ap (λ o. agree (type_of_two And (Some TruthValue) o) (Some TruthValue)) (condition_type Γ c k)

pub under_kept : (Γ : Environment) (b : Exp) (cs : Cases) → is_condition Γ b ≡ true → Keeps Γ (select cs) → Keeps Γ (select (each_case_under b cs))
under_kept Γ b no_case h k = none_kept Γ
under_kept Γ b (and_case c p cs) h k =
    let first = first_case Γ c p cs k in
    and_kept Γ (operation And b c) p (each_case_under b cs)
    (record { condition = conjunction_typed Γ b c h first.condition; part = first.part }) (under_kept Γ b cs h (later_cases Γ c p cs k))

pub copies_kept : (Γ : Environment) (bs : List Exp) (p : Tree) → are_conditions Γ bs ≡ true → Keeps Γ p → Keeps Γ (select (copies bs p))
copies_kept Γ [] p h k = none_kept Γ
copies_kept Γ (b ∷ bs) p h k =
    let t = and_parts (is_condition Γ b) (are_conditions Γ bs) h in
    and_kept Γ b p (copies bs p) (record { condition = t.0; part = k }) (copies_kept Γ bs p t.1 k)

pub stop_kept : (Γ : Environment) (b : Exp) → is_condition Γ b ≡ true → IsKeptCase Γ b stop
stop_kept Γ b h = record { condition = h; part = record { types = refl; usage = tt } }

-- ---- what they use

-- a last choice that stops uses nothing
else_free : (cs : Cases) (x : ℕ) → free_in_cases (all_cases cs (and_case (truth true) stop no_case)) x ≡ free_in_cases cs x
else_free no_case x = refl
else_free (and_case b p cs) x = ap (λ z. (names b x || free p x) || z) (else_free cs x)

else_written : (cs : Cases) (x : ℕ) → written_in_cases (all_cases cs (and_case (truth true) stop no_case)) x ≡ written_in_cases cs x
else_written no_case x = refl
else_written (and_case b p cs) x = ap (λ z. written p x || z) (else_written cs x)

else_end : (cs : Cases) (c : ℕ) (d : Dir) → end_in_cases (all_cases cs (and_case (truth true) stop no_case)) c d ≡ end_in_cases cs c d
else_end no_case c d = refl
else_end (and_case b p cs) c d = ap (λ z. uses_end p c d || z) (else_end cs c d)

pub else_spares : (cs : Cases) → UsesNoMore (select (all_cases cs (and_case (truth true) stop no_case))) (select cs)
else_spares cs = record {
  frees = λ x h. sym (else_free cs x) ∙ h;
  writes = λ x h. sym (else_written cs x) ∙ h;
  ends = λ c d h. sym (else_end cs c d) ∙ h;
}
