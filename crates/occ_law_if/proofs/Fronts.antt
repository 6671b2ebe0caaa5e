-- Lists of choices taken apart: at the front, and behind the choices of another list.
use Rattle.std.proofs.Common.{◌≡◌, ◌↔◌, List, [], ◌∷◌, length, arith, refl, ap, sym, ◌∙◌}
use Rattle.occ_syntax.specs.declared.expr.Expr.{Expr}
use Rattle.occ_syntax.specs.declared.proc.Proc.{Proc}
use Rattle.occ_syntax.specs.Tree.{Exp, Tree, Cases, no_case, and_case}
use Rattle.occ_syntax.specs.View.{cases}
use Rattle.occ_law_shape.specs.occ_law.Choice.{copies}
use Rattle.occ_law_shape.specs.occ_law.Lists.{all_cases, conditions}

-- ---- the first choice

pub never_divided : (cs : Cases) → cs ≡ no_case → (b : Exp) (p : Tree) (ds : Cases) → cs ≡ and_case b p ds → ⊥
never_divided cs e b p ds k = cc

pub first_condition : {b c : Exp} {p q : Tree} {cs ds : Cases} → and_case b p cs ≡ and_case c q ds → b ≡ c
first_condition e = cc

pub first_process : {b c : Exp} {p q : Tree} {cs ds : Cases} → and_case b p cs ≡ and_case c q ds → p ≡ q
first_process e = cc

pub others : {b c : Exp} {p q : Tree} {cs ds : Cases} → and_case b p cs ≡ and_case c q ds → cs ≡ ds
others e = cc

pub choice_is : {b c : Exp} {p q : Tree} {cs ds : Cases} → b ≡ c → p ≡ q → cs ≡ ds → and_case b p cs ≡ and_case c q ds
choice_is {c} {p} {q} {cs} e f g = ap (λ z. and_case z p cs) e ∙ ap (λ z. and_case c z cs) f ∙ ap (and_case c q) g

-- ---- two lists in one

pub all_cases-none : (cs : Cases) → all_cases cs no_case ≡ cs
all_cases-none no_case = refl
all_cases-none (and_case b p cs) = ap (and_case b p) (all_cases-none cs)

pub all_cases-all : (cs ds es : Cases) → all_cases (all_cases cs ds) es ≡ all_cases cs (all_cases ds es)
all_cases-all no_case ds es = refl
all_cases-all (and_case b p cs) ds es = ap (and_case b p) (all_cases-all cs ds es)

-- one front leaves one rest
pub rests_are : (cs ds es : Cases) → all_cases cs ds ≡ all_cases cs es → ds ≡ es
rests_are no_case ds es e = e
rests_are (and_case b p cs) ds es e = rests_are cs ds es (others e)

pub cases_none : (rest : List (Expr × Proc)) → length rest ≡ 0 → cases rest ≡ no_case
cases_none [] h = refl
cases_none (p ∷ ps) h = absurd (omega (arith, h))

pub none_of_cases : (rest : List (Expr × Proc)) → cases rest ≡ no_case → length rest ≡ 0
none_of_cases [] h = refl
none_of_cases (p ∷ ps) h = cc

-- ---- behind a front

pub behind_step : (first all xs ys : Cases) (b c : Exp) (p q : Tree) (cs ds : Cases) → xs ≡ and_case b p cs → ys ≡ and_case c q ds → b ≡ c → p ≡ q
    → ((r : Cases) → (ys ≡ all_cases xs r) ↔ (all ≡ all_cases first r)) → (r : Cases) → (ds ≡ all_cases cs r) ↔ (all ≡ all_cases first r)
behind_step first all xs ys b c p q cs ds e f g h same r = (
  (λ k. (same r).0 (f ∙ choice_is (sym g) (sym h) k ∙ ap (λ z. all_cases z r) (sym e))),
  (λ k. others (sym f ∙ (same r).1 k ∙ ap (λ z. all_cases z r) e)),
)

pub behind_differs : (first all xs ys : Cases) (b c : Exp) (p q : Tree) (cs ds : Cases) → xs ≡ and_case b p cs → ys ≡ and_case c q ds → ((b ≡ c) × (p ≡ q) → ⊥)
    → ((r : Cases) → (ys ≡ all_cases xs r) ↔ (all ≡ all_cases first r)) → (r : Cases) → all ≡ all_cases first r → ⊥
behind_differs first all xs ys b c p q cs ds e f differ same r k =
    let u : and_case c q ds ≡ and_case b p (all_cases cs r) = sym f ∙ (same r).1 k ∙ ap (λ z. all_cases z r) e in
    differ (sym (first_condition u), sym (first_process u))

pub behind_ends : (first all xs ys : Cases) (b : Exp) (p : Tree) (cs : Cases) → xs ≡ and_case b p cs → ys ≡ no_case
    → ((r : Cases) → (ys ≡ all_cases xs r) ↔ (all ≡ all_cases first r)) → (r : Cases) → all ≡ all_cases first r → ⊥
behind_ends first all xs ys b p cs e f same r k =
    let u : no_case ≡ and_case b p (all_cases cs r) = sym f ∙ (same r).1 k ∙ ap (λ z. all_cases z r) e in cc

pub behind_whole : (first all xs ys : Cases) → xs ≡ no_case → ((r : Cases) → (ys ≡ all_cases xs r) ↔ (all ≡ all_cases first r)) → all ≡ all_cases first ys
behind_whole first all xs ys e same = (same ys).0 (ap (λ z. all_cases z ys) (sym e))

-- ---- copies

-- of one process so far
pub copies_step : {P : Type 0} (xs : Cases) (b : Exp) (p q : Tree) (cs : Cases) → xs ≡ and_case b p cs → p ≡ q → ((xs ≡ copies (conditions xs) q) ↔ P)
    → (cs ≡ copies (conditions cs) q) ↔ P
copies_step xs b p q cs e f same = (
  (λ h. same.0 (e ∙ choice_is refl f h ∙ ap (λ z. copies (conditions z) q) (sym e))),
  (λ r. others (sym e ∙ same.1 r ∙ ap (λ z. copies (conditions z) q) e)),
)

pub copies_differ : {P : Type 0} (xs : Cases) (b : Exp) (p q : Tree) (cs : Cases) → xs ≡ and_case b p cs → (p ≡ q → ⊥) → ((xs ≡ copies (conditions xs) q) ↔ P) → P → ⊥
copies_differ xs b p q cs e differ same r = differ (first_process (sym e ∙ same.1 r ∙ ap (λ z. copies (conditions z) q) e))

pub copies_whole : {P : Type 0} (xs : Cases) (q : Tree) → xs ≡ no_case → ((xs ≡ copies (conditions xs) q) ↔ P) → P
copies_whole xs q e same = same.0 (e ∙ ap (λ z. copies (conditions z) q) (sym e))
