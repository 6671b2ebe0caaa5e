-- if-none, if-true, if-else-stop, if-cut and if-copy by what stands in the lists.
use Rattle.std.proofs.Common.{◌≡◌, ℕ, ◌↔◌, Bool, IsTrue, true, List, [], ◌∷◌, length, refl, ap, sym, ◌∙◌, subst}
use Rattle.occ_syntax.specs.occ_base.declared.names.Name.{Name}
use Rattle.occ_syntax.specs.declared.expr.Expr.{Expr}
use Rattle.occ_syntax.specs.declared.proc.Proc.{Proc}
use Rattle.occ_syntax.specs.declared.scope.Kind.{Kind}
use Rattle.occ_syntax.specs.Scopes.{Environment, environment}
use Rattle.occ_syntax.specs.Types.{cases_kept, types_kept}
use Rattle.occ_syntax.specs.Tree.{Exp, truth, Tree, select, stop, Cases, no_case, and_case}
use Rattle.occ_syntax.specs.View.{cases}
use Rattle.occ_law_shape.specs.occ_law.Choice.{IfCopy, if_copy, IfCut, if_cut, IfElseStop, if_else_stop, IfNone, if_none, IfTrue, if_true, copies}
use Rattle.occ_law_shape.specs.occ_law.Lists.{all_cases, conditions, count}
use Rattle.occ_law_shape.specs.occ_law.States.{AreFew, IsAlways, IsExhaustive}
use Rattle.occ_law_if.proofs.Fronts.{cases_none, choice_is, none_of_cases, first_condition, first_process, others, rests_are}

pub choices_are : {cs ds : Cases} → select cs ≡ select ds → cs ≡ ds
choices_are e = cc

-- ---- if-none

none_to : (cs : Cases) (l r : Tree) → select cs ≡ l → (place : List ℕ) → IfNone place l r → cs ≡ no_case
none_to cs l r e place if_none = choices_are e

pub none_law : (choices : List (Expr × Proc)) (l r : Tree) (b : Bool) → select (cases choices) ≡ l → stop ≡ r → (IsTrue b ↔ (length choices ≡ 0)) → IsTrue b ↔ ((place : List ℕ) × IfNone place l r)
none_law choices l r b e f test = (
  (λ h. ([], subst (λ z. IfNone [] z r) (ap select (sym (cases_none choices (test.0 h))) ∙ e) (subst (λ z. IfNone [] (select no_case) z) f if_none))),
  (λ k. test.1 (none_of_cases choices (none_to (cases choices) l r e k.0 k.1))),
)

-- ---- if-true

-- the first choice of the left side
pub record IsFirstAlways (S : List (Name × Kind)) (cs : Cases) (r : Tree) : Type 0 where
  pub condition : Exp
  pub behind : Cases
  pub is : cs ≡ and_case condition r behind
  pub few : AreFew S (condition ∷ [])
  pub always : IsAlways (environment S) condition

true_to : (S : List (Name × Kind)) (cs : Cases) (l r : Tree) → select cs ≡ l → (place : List ℕ) → IfTrue S place l r → IsFirstAlways S cs r
true_to S cs l r e place (if_true b p ds few always) = record { condition = b; behind = ds; is = choices_are e; few = few; always = always }

pub true_law : (S : List (Name × Kind)) (cs ds : Cases) (b : Exp) (p l r : Tree) (a : Bool) → select cs ≡ l → cs ≡ and_case b p ds → p ≡ r
    → (IsTrue a ↔ (AreFew S (b ∷ []) × IsAlways (environment S) b)) → IsTrue a ↔ ((place : List ℕ) × IfTrue S place l r)
true_law S cs ds b p l r a e f g test = (
  (λ h. let k = test.0 h in ([], subst (λ z. IfTrue S [] z r) (ap select (sym f) ∙ e) (subst (λ z. IfTrue S [] (select (and_case b p ds)) z) g (if_true b p ds k.0 k.1)))),
  (λ k. let t = true_to S cs l r e k.0 k.1 in
      let same : t.condition ≡ b = first_condition (sym t.is ∙ f) in
      test.1 (subst (λ z. AreFew S (z ∷ [])) same t.few, subst (IsAlways (environment S)) same t.always)),
)

-- ---- if-else-stop

else_to : (cs ds : Cases) (l r : Tree) → select cs ≡ l → select ds ≡ r → (place : List ℕ) → IfElseStop place l r → cs ≡ all_cases ds (and_case (truth true) stop no_case)
else_to cs ds l r e f place (if_else_stop bs) = choices_are e ∙ ap (λ z. all_cases z (and_case (truth true) stop no_case)) (sym (choices_are f))

pub else_law : (cs ds rest : Cases) (l r : Tree) (b : Bool) → select cs ≡ l → select ds ≡ r → cs ≡ all_cases ds rest → (IsTrue b ↔ (rest ≡ and_case (truth true) stop no_case))
    → IsTrue b ↔ ((place : List ℕ) × IfElseStop place l r)
else_law cs ds rest l r b e f g test = (
  (λ h. (
    count ds ∷ [],
    subst (λ z. IfElseStop (count ds ∷ []) z r) (ap select (ap (all_cases ds) (sym (test.0 h)) ∙ sym g) ∙ e)
        (subst (λ z. IfElseStop (count ds ∷ []) (select (all_cases ds (and_case (truth true) stop no_case))) z) f (if_else_stop ds)),
  )),
  (λ k. test.1 (rests_are ds rest (and_case (truth true) stop no_case) (sym g ∙ else_to cs ds l r e f k.0 k.1))),
)

-- ---- if-cut

-- the right side's choices stand in front, and are exhaustive
pub record IsCut (S : List (Name × Kind)) (cs ds : Cases) : Type 0 where
  pub rest : Cases
  pub is : cs ≡ all_cases ds rest
  pub few : AreFew S (conditions ds)
  pub exhaustive : IsExhaustive (environment S) (conditions ds)

cut_to : (S : List (Name × Kind)) (cs ds : Cases) (l r : Tree) → select cs ≡ l → select ds ≡ r → (place : List ℕ) → IfCut S place l r → IsCut S cs ds
cut_to S cs ds l r e f place (if_cut bs es few exhaustive) =
    let same : bs ≡ ds = sym (choices_are f) in
    record {
      rest = es;
      is = choices_are e ∙ ap (λ z. all_cases z es) same;
      few = subst (λ z. AreFew S (conditions z)) same few;
      exhaustive = subst (λ z. IsExhaustive (environment S) (conditions z)) same exhaustive;
    }

pub cut_law : (S : List (Name × Kind)) (cs ds rest : Cases) (l r : Tree) (a : Bool) → select cs ≡ l → select ds ≡ r → cs ≡ all_cases ds rest
    → (IsTrue a ↔ (AreFew S (conditions ds) × IsExhaustive (environment S) (conditions ds))) → IsTrue a ↔ ((place : List ℕ) × IfCut S place l r)
cut_law S cs ds rest l r a e f g test = (
  (λ h. let k = test.0 h in (
    count ds ∷ [],
    subst (λ z. IfCut S (count ds ∷ []) z r) (ap select (sym g) ∙ e)
        (subst (λ z. IfCut S (count ds ∷ []) (select (all_cases ds rest)) z) f (if_cut ds rest k.0 k.1)),
  )),
  (λ k. let t = cut_to S cs ds l r e f k.0 k.1 in test.1 (t.few, t.exhaustive)),
)

-- ---- if-copy

-- copies of the left side, under exhaustive conditions
pub record AreCopies (S : List (Name × Kind)) (l : Tree) (cs : Cases) : Type 0 where
  pub is : cs ≡ copies (conditions cs) l
  pub few : AreFew S (conditions cs)
  pub exhaustive : IsExhaustive (environment S) (conditions cs)

conditions_of_copies : (bs : List Exp) (p : Tree) → conditions (copies bs p) ≡ bs
conditions_of_copies [] p = refl
conditions_of_copies (b ∷ bs) p = ap (λ z. b ∷ z) (conditions_of_copies bs p)

copy_to : (S : List (Name × Kind)) (cs : Cases) (l r : Tree) → select cs ≡ r → (place : List ℕ) → IfCopy S place l r → AreCopies S l cs
copy_to S cs l r e place (if_copy p bs few exhaustive) =
    let is : cs ≡ copies bs p = choices_are e in
    let same : bs ≡ conditions cs = sym (ap conditions is ∙ conditions_of_copies bs p) in
    record { is = is ∙ ap (λ z. copies z p) same; few = subst (AreFew S) same few; exhaustive = subst (IsExhaustive (environment S)) same exhaustive }

pub copy_law : (S : List (Name × Kind)) (cs : Cases) (l r : Tree) (a : Bool) → select cs ≡ r → cs ≡ copies (conditions cs) l
    → (IsTrue a ↔ (AreFew S (conditions cs) × IsExhaustive (environment S) (conditions cs))) → IsTrue a ↔ ((place : List ℕ) × IfCopy S place l r)
copy_law S cs l r a e f test = (
  (λ h. let k = test.0 h in ([], subst (λ z. IfCopy S [] l z) (ap select (sym f) ∙ e) (if_copy l (conditions cs) k.0 k.1))),
  (λ k. let t = copy_to S cs l r e k.0 k.1 in test.1 (t.few, t.exhaustive)),
)

pub copy_never : (S : List (Name × Kind)) (cs : Cases) (l r : Tree) → select cs ≡ r → (cs ≡ copies (conditions cs) l → ⊥) → (place : List ℕ) × IfCopy S place l r → ⊥
copy_never S cs l r e never k = never (copy_to S cs l r e k.0 k.1).is

-- ---- the choices of an IF that keeps types
pub kept_choices : (Γ : Environment) (cs : Cases) (p : Tree) → select cs ≡ p → types_kept p Γ ≡ true → cases_kept cs Γ ≡ true
kept_choices Γ cs p e h = ap (λ z. types_kept z Γ) e ∙ h

-- TRUE STOP alone
pub else_stop_is : (cs : Cases) (b : Exp) (p : Tree) (ds : Cases) (a : Bool) → cs ≡ and_case b p ds → ds ≡ no_case → b ≡ truth true → (IsTrue a ↔ (p ≡ stop))
    → IsTrue a ↔ (cs ≡ and_case (truth true) stop no_case)
else_stop_is cs b p ds a e f g test = ((λ h. e ∙ choice_is g (test.0 h) f), (λ k. test.1 (first_process (sym e ∙ k))))

pub else_stop_longer : (cs : Cases) (b : Exp) (p : Tree) (ds : Cases) → cs ≡ and_case b p ds → (ds ≡ no_case → ⊥) → cs ≡ and_case (truth true) stop no_case → ⊥
else_stop_longer cs b p ds e longer k = longer (others (sym e ∙ k))

pub else_stop_other : (cs : Cases) (b : Exp) (p : Tree) (ds : Cases) → cs ≡ and_case b p ds → (b ≡ truth true → ⊥) → cs ≡ and_case (truth true) stop no_case → ⊥
else_stop_other cs b p ds e other k = other (first_condition (sym e ∙ k))
