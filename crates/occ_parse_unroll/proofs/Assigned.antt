-- The two sides of an assignment, item by item.
use Rattle.std.proofs.Common.{◌≡◌, ℕ, zero, suc, subst, unwrap_or, ◌+◌, ◌<◌, ◌≤◌, min, List, [], ◌∷◌, ◌++◌, length, get_or, drop, refl, sym, ap, ◌∙◌, arith, append_assoc, ⊎_elim}
use Rattle.std.proofs.lemmas.Bool.{cases_lt}
use Rattle.std.proofs.lemmas.List.{drop_more, drop_all, map-append, append-nil}
use Rattle.std.specs.List.{AllByRecursion}
use Rattle.occ_syntax.specs.occ_base.declared.width.Width.{Width}
use Rattle.occ_syntax.specs.occ_base.declared.width.Width.TheVariants.{Bool as TruthValue}
use Rattle.occ_syntax.specs.declared.expr.Expr.{Expr}
use Rattle.occ_syntax.specs.View.{exp, exps}
use Rattle.occ_parse_forms.specs.declared.form.Item.{Item}
use Rattle.occ_parse_forms.specs.declared.phrase.Phrase.{Phrase}
use Rattle.occ_parse_forms.specs.Shape.{Said, said, all_said}
use Rattle.occ_parse_rules.specs.Places.{Sorts, Indices}
use Rattle.occ_parse_rules.specs.Types.{variable_here}
use Rattle.occ_parse_rules.specs.Unrolled.{Numbers, expression, value, values}

pub one_value : (N : Numbers) (Γ : Sorts) (ρ : Indices) (left : List Item) (right : List Phrase) (i : ℕ) (z : Item) (phrase : Phrase) (width : Width) (list list' : List Expr) (e : Expr)
    → i < length left → i < length right → phrase ≡ get_or right i phrase → width ≡ unwrap_or (variable_here Γ ρ (get_or left i z)) TruthValue
    → exp e ≡ expression N Γ ρ (said phrase) width → list' ≡ list ++ e ∷ []
    → exps list' ++ values N Γ ρ (drop (i + 1) left) (all_said (drop (i + 1) right)) ≡ exps list ++ values N Γ ρ (drop i left) (all_said (drop i right))
one_value N Γ ρ left right i z phrase width list list' e hl hr p w v q =
    let rest = values N Γ ρ (drop (i + 1) left) (all_said (drop (i + 1) right)) in
    ap (λ l. exps l ++ rest) q
    ∙ ap (λ l. l ++ rest) (map-append exp list (e ∷ []))
    ∙ append_assoc (exps list) (exp e ∷ []) rest
    ∙ ap (λ x. exps list ++ x ∷ rest) (v ∙ ap (λ u. expression N Γ ρ (said phrase) u) w ∙ ap (λ r. value N Γ ρ (variable_here Γ ρ (get_or left i z)) (said r)) p)
    ∙ sym (ap (λ xs. exps list ++ values N Γ ρ xs (all_said (drop i right))) (drop_more left i z hl)
    ∙ ap (λ es. exps list ++ values N Γ ρ (get_or left i z ∷ drop (i + 1) left) (all_said es)) (drop_more right i phrase hr))

no_values : (N : Numbers) (Γ : Sorts) (ρ : Indices) (xs : List Item) → values N Γ ρ xs [] ≡ []
no_values N Γ ρ [] = refl
no_values N Γ ρ (x ∷ xs) = refl

pub all_values : (N : Numbers) (Γ : Sorts) (ρ : Indices) (left : List Item) (right : List Phrase) (i : ℕ) (list : List Expr) → min (length left) (length right) ≤ i
    → exps list ++ values N Γ ρ (drop i left) (all_said (drop i right)) ≡ exps list
all_values N Γ ρ left right i list h = ⊎_elim
    (λ (l : i < length left).
    let r : length right ≤ i = omega arith in
    ap (λ es. exps list ++ values N Γ ρ (drop i left) (all_said es)) (drop_all i right r) ∙ ap (λ es. exps list ++ es) (no_values N Γ ρ (drop i left)) ∙ append-nil (exps list))
    (λ (l : length left ≤ i). ap (λ xs. exps list ++ values N Γ ρ xs (all_said (drop i right))) (drop_all i left l) ∙ append-nil (exps list))
    (cases_lt i (length left))

pub said_at : (P : Said → Type 0) (right : List Phrase) (i : ℕ) (phrase : Phrase) → AllByRecursion P (all_said right) → i < length right → phrase ≡ get_or right i phrase → P (said phrase)
said_at P [] i phrase h lt e = absurd (omega arith)
said_at P (y ∷ ys) zero phrase h lt e = subst (λ p. P (said p)) (sym e) h.0
said_at P (y ∷ ys) (suc i) phrase h lt e = said_at P ys i phrase h.1 (omega (arith, lt)) e
