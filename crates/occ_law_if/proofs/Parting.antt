-- Where lists of choices are parted.
use Rattle.std.proofs.Common.{◌≡◌, ℕ, true, ◌+◌, ◌-◌, ◌<◌, ◌≤◌, arith, refl, ap, sym, ◌∙◌, List, [], ◌∷◌, length, take, drop}
use Rattle.std.proofs.lemmas.List.{length-take-le}
use Rattle.occ_syntax.specs.declared.expr.Expr.{Expr}
use Rattle.occ_syntax.specs.declared.proc.Proc.{Proc}
use Rattle.occ_syntax.specs.Scopes.{Environment}
use Rattle.occ_syntax.specs.Types.{cases_kept, is_condition, types_kept}
use Rattle.occ_syntax.specs.Tree.{Exp, Tree, select, Cases, no_case, and_case}
use Rattle.occ_syntax.specs.View.{cases}
use Rattle.occ_law_shape.specs.occ_bits.Named.{are_conditions}
use Rattle.occ_law_shape.specs.occ_law.Lists.{all_cases, conditions, count}
use Rattle.occ_law_shape.proofs.Typed.{all_cases_kept, case_kept, conditions_typed}
use Rattle.occ_law_if.proofs.Fronts.{choice_is, first_condition, first_process, others}
use Rattle.occ_law_if.proofs.Joins.{first_kept}
use Rattle.occ_law_if.proofs.Parted.{to_end, whole}
use Rattle.occ_law_if.proofs.Sides.{choices_are, kept_choices}
use Rattle.occ_law_if.specs.Chosen.{IsSplit}

-- ---- how many

pub counted : (l : List (Expr × Proc)) → count (cases l) ≡ length l
counted [] = refl
counted (x ∷ l) = omega (arith, counted l)

both_counted : (cs ds : Cases) → count (all_cases cs ds) ≡ count cs + count ds
both_counted no_case ds = omega arith
both_counted (and_case b p cs) ds = omega (arith, both_counted cs ds)

pub none_counted : (cs : Cases) → count cs ≡ 0 → cs ≡ no_case
none_counted no_case e = refl
none_counted (and_case b p cs) e = absurd (omega (arith, e))

-- ---- two parted lists that are equal

one_front : (cs ds es fs : Cases) → count cs ≡ count es → all_cases cs ds ≡ all_cases es fs → (cs ≡ es) × (ds ≡ fs)
one_front no_case ds no_case fs n e = (refl, e)
one_front no_case ds (and_case c q es) fs n e = absurd (omega (arith, n))
one_front (and_case b p cs) ds no_case fs n e = absurd (omega (arith, n))
one_front (and_case b p cs) ds (and_case c q es) fs n e =
    let m : count cs ≡ count es = omega (arith, n) in
    let r = one_front cs ds es fs m (others e) in
    (choice_is (first_condition e) (first_process e) r.0, r.1)

sizes_are : {j k : ℕ} → j ∷ [] ≡ k ∷ [] → j ≡ k
sizes_are e = cc

-- an IF is parted at one place in one way
pub one_split : (ks : List ℕ) (l : Tree) (cs ds es fs : Cases) → IsSplit ks l cs ds → IsSplit ks l es fs → (cs ≡ es) × (ds ≡ fs)
one_split ks l cs ds es fs s t = one_front cs ds es fs (sizes_are (sym s.size ∙ t.size)) (choices_are (sym s.whole ∙ t.whole))

-- ---- slices

pub too_far : (ks : List ℕ) (l : Tree) (size : ℕ) (choices : List (Expr × Proc)) → ks ≡ size ∷ [] → l ≡ select (cases choices) → length choices < size
    → (cs ds : Cases) → IsSplit ks l cs ds → ⊥
too_far ks l size choices e f h cs ds s =
    let n : size ≡ count cs = sizes_are (sym e ∙ s.size) in
    let m : length choices ≡ count cs + count ds = sym (counted choices) ∙ ap count (choices_are (sym f ∙ s.whole)) ∙ both_counted cs ds in
    omega (arith, n, m, h)

pub split_at : (ks : List ℕ) (l : Tree) (size : ℕ) (choices : List (Expr × Proc)) → ks ≡ size ∷ [] → l ≡ select (cases choices) → size ≤ length choices
    → IsSplit ks l (cases (take size choices)) (cases (take (length choices - size) (drop size choices)))
split_at ks l size choices e f h =
    let n : length (take size choices) ≡ size = length-take-le size choices h in
    record {
      size = e ∙ ap (λ k. k ∷ []) (sym (counted (take size choices) ∙ n));
      whole = f ∙ ap select (sym (whole choices size) ∙ ap (λ z. all_cases (cases (take size choices)) (cases z)) (sym (to_end choices size)));
    }

-- ---- the choice at the place

pub none_chosen : (ks : List ℕ) (l : Tree) (cs ds : Cases) → IsSplit ks l cs ds → ((b : Exp) (p : Tree) (es : Cases) → ds ≡ and_case b p es → ⊥)
    → (es fs : Cases) (b : Exp) (p : Tree) → IsSplit ks l es (and_case b p fs) → ⊥
none_chosen ks l cs ds s never es fs b p t = never b p fs (one_split ks l cs ds es (and_case b p fs) s t).1

pub chosen_is : (ks : List ℕ) (l : Tree) (cs ds es : Cases) → IsSplit ks l cs ds → ds ≡ es → IsSplit ks l cs es
chosen_is ks l cs ds es s e = record { size = s.size; whole = s.whole ∙ ap (λ z. select (all_cases cs z)) e }

-- ---- what a parted IF keeps

split_kept : (Γ : Environment) (ks : List ℕ) (l : Tree) (cs ds : Cases) → IsSplit ks l cs ds → types_kept l Γ ≡ true → cases_kept (all_cases cs ds) Γ ≡ true
split_kept Γ ks l cs ds s h = kept_choices Γ (all_cases cs ds) l (sym s.whole) h

-- the choices in front have conditions
pub front_typed : (Γ : Environment) (ks : List ℕ) (l : Tree) (cs ds : Cases) → IsSplit ks l cs ds → types_kept l Γ ≡ true → are_conditions Γ (conditions cs) ≡ true
front_typed Γ ks l cs ds s h = conditions_typed Γ cs (all_cases_kept Γ cs ds (split_kept Γ ks l cs ds s h)).0

-- the choice at the place has one
pub first_typed : (Γ : Environment) (ks : List ℕ) (l : Tree) (cs ds : Cases) (b : Exp) (p : Tree) → IsSplit ks l cs (and_case b p ds) → types_kept l Γ ≡ true
    → is_condition Γ b ≡ true
first_typed Γ ks l cs ds b p s h = (first_kept Γ cs (and_case b p ds) b p ds (split_kept Γ ks l cs (and_case b p ds) s h) refl).0

-- and so has the one behind it
pub second_typed : (Γ : Environment) (ks : List ℕ) (l : Tree) (cs ds es : Cases) (b c : Exp) (p q : Tree) → IsSplit ks l cs (and_case b p ds) → ds ≡ and_case c q es
    → types_kept l Γ ≡ true → is_condition Γ c ≡ true
second_typed Γ ks l cs ds es b c p q s e h =
    let k = first_kept Γ cs (and_case b p ds) b p ds (split_kept Γ ks l cs (and_case b p ds) s h) refl in
    (case_kept Γ c q es (sym (ap (λ z. cases_kept z Γ) e) ∙ k.2)).0
