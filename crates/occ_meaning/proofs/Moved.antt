-- One part of a PAR moved to other values: where it has no such variable, the other part may begin with another value.
use Rattle.occ_meaning.proofs.Facts.{at_itself}
use Rattle.occ_meaning.proofs.Frame.{KeepsValue}
use Rattle.occ_meaning.proofs.OffValues.{Ignores, value_again, value_back}
use Rattle.occ_meaning.specs.Foundation.{with_result}
use Rattle.occ_syntax.specs.Eval.{eval}
use Rattle.occ_syntax.specs.Meaning.{Combines, Meaning, Outcome, assigned, both_ended, ended, first_ended, join, neither_ended, second_ended}
use Rattle.occ_syntax.specs.Names.{is_in}
use Rattle.occ_syntax.specs.Scopes.{Environment, Trace, Values, with_value}
use Rattle.occ_syntax.specs.Tree.{Exp}
use Rattle.std.proofs.Common.{Bool, List, [], ap, false, if◌then◌else◌, inl, inr, refl, subst, sym, true, ℕ, ◌==◌, ◌∙◌, ◌∷◌, ◌≡◌}
use Rattle.std.proofs.lemmas.Bool.{eqb-true, or_left, or_right}
use Rattle.std.proofs.lemmas.Bool.Decides.{eqb_tells}
use mathlib.Core.Path.{fun_ext}

join_second_moved : (s a b : Values) (x v : ℕ) → b x ≡ s x → join s a b ≡ join (with_value s x v) a (with_value b x v)
join_second_moved s a b x v kept = fun_ext (λ z. elim (eqb_tells z x) [
  | inl k ↦ at_name z k.0 k.1
  | inr k ↦ (let P : Bool → Type 0 = λ c. (if a z == s z then b z else a z) ≡ (if a z == (if c then v else s z) then (if c then v else b z) else a z) in subst P (sym k.0) refl)
])
  where
    one_of : (n u : ℕ) (t : Bool) → (u == n) ≡ t → (if t then n else u) ≡ u
    one_of n u true h = sym (eqb-true u n h)
    one_of n u false h = refl

    at_name : (z : ℕ) → (z == x) ≡ true → z ≡ x
        → (if a z == s z then b z else a z) ≡ (if a z == (if z == x then v else s z) then (if z == x then v else b z) else a z)
    at_name z yes_z same =
        let P : Bool → Type 0 = λ c. a z ≡ (if a z == (if c then v else s z) then (if c then v else b z) else a z) in
        let Q : ℕ → Type 0 = λ y. b y ≡ s y in
        (ap (λ n. if a z == s z then n else a z) (subst Q (sym same) kept) ∙ one_of (s z) (a z) (a z == s z) refl) ∙ subst P (sym yes_z) (sym (one_of v (a z) (a z == v) refl))

-- what the second part makes of both stays, whatever that variable holds at its beginning
combined_second_moved : (Γ : Environment) (s : Values) (x v : ℕ) (o1 o2 o : Outcome) → ((b : Values) → o2 ≡ ended b → b x ≡ s x)
    → Combines Γ s o1 o2 o → Combines Γ (with_value s x v) o1 (with_result x v o2) o
combined_second_moved Γ s x v o1 o2 o kept (both_ended {s1 = a} {s2 = b} {s' = r} e) = both_ended (e ∙ join_second_moved s a b x v (kept b refl))
combined_second_moved Γ s x v o1 o2 o kept first_ended = first_ended
combined_second_moved Γ s x v o1 o2 o kept second_ended = second_ended
combined_second_moved Γ s x v o1 o2 o kept (neither_ended X Y) = neither_ended X Y

pub record MovedSecond (n : Meaning) (Γ : Environment) (s : Values) (t : Trace) (o1 o : Outcome) : Type 0 where
  pub other : Outcome
  pub combines : Combines Γ s o1 other o
  pub does : n.does Γ s t other

pub second_moved : (n : Meaning) (x : ℕ) → Ignores x n → KeepsValue x n
    → (Γ : Environment) (s : Values) (v : ℕ) (t : Trace) (o1 o2 o : Outcome) → Combines Γ s o1 o2 o → n.does Γ s t o2
    → MovedSecond n Γ (with_value s x v) t o1 o
second_moved n x ignores keeps Γ s v t o1 o2 o c d = record {
  other = with_result x v o2;
  combines = combined_second_moved Γ s x v o1 o2 o (λ b e. keeps.value Γ s t b (let P : Outcome → Type 0 = λ k. n.does Γ s t k in subst P e d)) c;
  does = ignores.ignored Γ s v t o2 d;
}

-- and back: from other values to those
pub second_moved_back : (n : Meaning) (x : ℕ) → Ignores x n → KeepsValue x n
    → (Γ : Environment) (s : Values) (v : ℕ) (t : Trace) (o1 o2 o : Outcome) → Combines Γ (with_value s x v) o1 o2 o
    → n.does Γ (with_value s x v) t o2 → MovedSecond n Γ s t o1 o
second_moved_back n x ignores keeps Γ s v t o1 o2 o c d =
    let P : Values → Type 0 = λ r. MovedSecond n Γ r t o1 o in
    subst P (value_again s x v (s x) ∙ value_back s x) (second_moved n x ignores keeps Γ (with_value s x v) (s x) t o1 o2 o c d)

-- ---- past an assignment of variables that the part doesn't have

abbrev pub IgnoresAll : Meaning → List ℕ → Type 0
IgnoresAll n xs = (x : ℕ) → is_in xs x ≡ true → Ignores x n × KeepsValue x n

rest_ignored : (n : Meaning) (y : ℕ) (xs : List ℕ) → IgnoresAll n (y ∷ xs) → IgnoresAll n xs
rest_ignored n y xs h x k = h x (or_right (x == y) (is_in xs x) k)

first_ignored : (n : Meaning) (y : ℕ) (xs : List ℕ) → IgnoresAll n (y ∷ xs) → Ignores y n × KeepsValue y n
first_ignored n y xs h = h y (or_left (y == y) (is_in xs y) (at_itself y))

pub second_past : (n : Meaning) (Γ : Environment) (s : Values) (t : Trace) (xs : List ℕ) (es : List Exp) → IgnoresAll n xs
    → (o1 o2 o : Outcome) → Combines Γ s o1 o2 o → n.does Γ s t o2 → MovedSecond n Γ (assigned xs es Γ s) t o1 o
second_past n Γ s t [] es h o1 o2 o c d = record { other = o2; combines = c; does = d }
second_past n Γ s t (x ∷ xs) [] h o1 o2 o c d = record { other = o2; combines = c; does = d }
second_past n Γ s t (x ∷ xs) (e ∷ es) h o1 o2 o c d =
    let k = second_past n Γ s t xs es (rest_ignored n x xs h) o1 o2 o c d in
    let i = first_ignored n x xs h in
    second_moved n x i.0 i.1 Γ (assigned xs es Γ s) (eval Γ e s) t o1 k.other o k.combines k.does

pub second_past_back : (n : Meaning) (Γ : Environment) (s : Values) (t : Trace) (xs : List ℕ) (es : List Exp) → IgnoresAll n xs
    → (o1 o2 o : Outcome) → Combines Γ (assigned xs es Γ s) o1 o2 o → n.does Γ (assigned xs es Γ s) t o2 → MovedSecond n Γ s t o1 o
second_past_back n Γ s t [] es h o1 o2 o c d = record { other = o2; combines = c; does = d }
second_past_back n Γ s t (x ∷ xs) [] h o1 o2 o c d = record { other = o2; combines = c; does = d }
second_past_back n Γ s t (x ∷ xs) (e ∷ es) h o1 o2 o c d =
    let i = first_ignored n x xs h in
    let k = second_moved_back n x i.0 i.1 Γ (assigned xs es Γ s) (eval Γ e s) t o1 o2 o c d in
    second_past_back n Γ s t xs es (rest_ignored n x xs h) o1 k.other o k.combines k.does
