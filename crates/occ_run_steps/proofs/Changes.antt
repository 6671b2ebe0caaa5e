-- Changes of variables, and a part of a PAR that ignores them.
use Rattle.occ_meaning.proofs.Facts.{at_itself, if_true, value_off, off_turned}
use Rattle.occ_meaning.proofs.Frame.{KeepsValue}
use Rattle.occ_meaning.proofs.Moved.{MovedSecond, second_moved, second_moved_back}
use Rattle.occ_meaning.proofs.OffValues.{Ignores, value_again, value_back}
use Rattle.occ_meaning.specs.Foundation.{with_result}
use Rattle.occ_run_steps.specs.Step.{changed, changes_but}
use Rattle.occ_meaning.specs.occ_syntax.Meaning.{Combines, Meaning, Outcome, both_ended, ended, first_ended, join, neither_ended, second_ended}
use Rattle.occ_meaning.specs.occ_syntax.Scopes.{Environment, Trace, Values, with_value}
use Rattle.std.proofs.Common.{Bool, List, [], ap, false, if◌then◌else◌, inl, inr, not, refl, subst, sym, true, ℕ, ◌==◌, ◌∙◌, ◌∷◌, ◌≡◌}
use Rattle.std.proofs.lemmas.Bool.{eq-eqb, eqb-true}
use Rattle.std.proofs.lemmas.Bool.Decides.{eqb_tells}
use mathlib.Core.Path.{fun_ext}

-- the part neither reads nor writes a variable that is changed
abbrev pub IgnoresChanges : Meaning → List (ℕ × ℕ) → Type 0
IgnoresChanges n [] = Unit {0}
IgnoresChanges n (c ∷ cs) = (Ignores c.0 n × KeepsValue c.0 n) × IgnoresChanges n cs

-- ---- the second part under changes of the first

-- the second part does the same from changed values
pub second_changed : (n : Meaning) (Γ : Environment) (s : Values) (t : Trace) (cs : List (ℕ × ℕ)) → IgnoresChanges n cs
    → (o1 o2 o : Outcome) → Combines Γ s o1 o2 o → n.does Γ s t o2 → MovedSecond n Γ (changed cs s) t o1 o
second_changed n Γ s t [] h o1 o2 o c d = record { other = o2; combines = c; does = d }
second_changed n Γ s t (x ∷ cs) h o1 o2 o c d =
    let k = second_changed n Γ s t cs h.1 o1 o2 o c d in
    second_moved n x.0 h.0.0 h.0.1 Γ (changed cs s) x.1 t o1 k.other o k.combines k.does

-- and back
pub second_changed_back : (n : Meaning) (Γ : Environment) (s : Values) (t : Trace) (cs : List (ℕ × ℕ)) → IgnoresChanges n cs
    → (o1 o2 o : Outcome) → Combines Γ (changed cs s) o1 o2 o → n.does Γ (changed cs s) t o2 → MovedSecond n Γ s t o1 o
second_changed_back n Γ s t [] h o1 o2 o c d = record { other = o2; combines = c; does = d }
second_changed_back n Γ s t (x ∷ cs) h o1 o2 o c d =
    let k = second_moved_back n x.0 h.0.0 h.0.1 Γ (changed cs s) x.1 t o1 o2 o c d in
    second_changed_back n Γ s t cs h.1 o1 k.other o k.combines k.does

-- ---- the first part under changes of the second

join_first_moved : (s a b : Values) (x v : ℕ) → a x ≡ s x → join s a b ≡ join (with_value s x v) (with_value a x v) b
join_first_moved s a b x v kept = fun_ext (λ z. elim (eqb_tells z x) [
  | inl k ↦ at_name z k.0 k.1
  | inr k ↦ (let P : Bool → Type 0 = λ c. (if a z == s z then b z else a z) ≡ (if (if c then v else a z) == (if c then v else s z) then b z else (if c then v else a z)) in subst P (sym k.0) refl)
])
  where
    at_name : (z : ℕ) → (z == x) ≡ true → z ≡ x
        → (if a z == s z then b z else a z) ≡ (if (if z == x then v else a z) == (if z == x then v else s z) then b z else (if z == x then v else a z))
    at_name z yes_z same =
        let Q : ℕ → Type 0 = λ y. a y ≡ s y in
        let P : Bool → Type 0 = λ c. b z ≡ (if (if c then v else a z) == (if c then v else s z) then b z else (if c then v else a z)) in
        if_true (a z == s z) (b z) (a z) (eq-eqb (a z) (s z) (subst Q (sym same) kept)) ∙ subst P (sym yes_z) (sym (if_true (v == v) (b z) v (at_itself v)))

combined_first_moved : (Γ : Environment) (s : Values) (x v : ℕ) (o1 o2 o : Outcome) → ((a : Values) → o1 ≡ ended a → a x ≡ s x)
    → Combines Γ s o1 o2 o → Combines Γ (with_value s x v) (with_result x v o1) o2 o
combined_first_moved Γ s x v o1 o2 o kept (both_ended {s1 = a} {s2 = b} {s' = r} e) = both_ended (e ∙ join_first_moved s a b x v (kept a refl))
combined_first_moved Γ s x v o1 o2 o kept first_ended = first_ended
combined_first_moved Γ s x v o1 o2 o kept second_ended = second_ended
combined_first_moved Γ s x v o1 o2 o kept (neither_ended X Y) = neither_ended X Y

-- what the first part does from other values, with the same result of both
pub record MovedFirst (m : Meaning) (Γ : Environment) (s : Values) (t : Trace) (o2 o : Outcome) : Type 0 where
  pub other : Outcome
  pub combines : Combines Γ s other o2 o
  pub does : m.does Γ s t other

-- the first part may begin with another value of a variable that it ignores
first_moved : (m : Meaning) (x : ℕ) → Ignores x m → KeepsValue x m
    → (Γ : Environment) (s : Values) (v : ℕ) (t : Trace) (o1 o2 o : Outcome) → Combines Γ s o1 o2 o → m.does Γ s t o1
    → MovedFirst m Γ (with_value s x v) t o2 o
first_moved m x ignores keeps Γ s v t o1 o2 o c d = record {
  other = with_result x v o1;
  combines = combined_first_moved Γ s x v o1 o2 o (λ a e. keeps.value Γ s t a (let P : Outcome → Type 0 = λ k. m.does Γ s t k in subst P e d)) c;
  does = ignores.ignored Γ s v t o1 d;
}

-- and back
first_moved_back : (m : Meaning) (x : ℕ) → Ignores x m → KeepsValue x m
    → (Γ : Environment) (s : Values) (v : ℕ) (t : Trace) (o1 o2 o : Outcome) → Combines Γ (with_value s x v) o1 o2 o
    → m.does Γ (with_value s x v) t o1 → MovedFirst m Γ s t o2 o
first_moved_back m x ignores keeps Γ s v t o1 o2 o c d =
    let P : Values → Type 0 = λ r. MovedFirst m Γ r t o2 o in
    subst P (value_again s x v (s x) ∙ value_back s x) (first_moved m x ignores keeps Γ (with_value s x v) (s x) t o1 o2 o c d)

-- the first part does the same from changed values
pub first_changed : (m : Meaning) (Γ : Environment) (s : Values) (t : Trace) (cs : List (ℕ × ℕ)) → IgnoresChanges m cs
    → (o1 o2 o : Outcome) → Combines Γ s o1 o2 o → m.does Γ s t o1 → MovedFirst m Γ (changed cs s) t o2 o
first_changed m Γ s t [] h o1 o2 o c d = record { other = o1; combines = c; does = d }
first_changed m Γ s t (x ∷ cs) h o1 o2 o c d =
    let k = first_changed m Γ s t cs h.1 o1 o2 o c d in
    first_moved m x.0 h.0.0 h.0.1 Γ (changed cs s) x.1 t k.other o2 o k.combines k.does

-- and back
pub first_changed_back : (m : Meaning) (Γ : Environment) (s : Values) (t : Trace) (cs : List (ℕ × ℕ)) → IgnoresChanges m cs
    → (o1 o2 o : Outcome) → Combines Γ (changed cs s) o1 o2 o → m.does Γ (changed cs s) t o1 → MovedFirst m Γ s t o2 o
first_changed_back m Γ s t [] h o1 o2 o c d = record { other = o1; combines = c; does = d }
first_changed_back m Γ s t (x ∷ cs) h o1 o2 o c d =
    let k = first_moved_back m x.0 h.0.0 h.0.1 Γ (changed cs s) x.1 t o1 o2 o c d in
    first_changed_back m Γ s t cs h.1 k.other o2 o k.combines k.does

-- ---- changes seen from outside a variable

-- off the variable the changes without it make what all changes make
pub changed_off : (cs : List (ℕ × ℕ)) (s : Values) (x v y : ℕ) → (y == x) ≡ false → changed (changes_but x cs) s y ≡ changed cs (with_value s x v) y
changed_off [] s x v y h = sym (value_off s x v y h)
changed_off (c ∷ cs) s x v y h = by_name (changed_off cs s x v y h) (c.0 == x) refl
  where
    by_name : changed (changes_but x cs) s y ≡ changed cs (with_value s x v) y → (b : Bool) → (c.0 == x) ≡ b → changed (changes_but x (c ∷ cs)) s y ≡ with_value (changed cs (with_value s x v)) c.0 c.1 y
    by_name ih true e =
        let P : Bool → Type 0 = λ i. changed (if not i then c ∷ changes_but x cs else changes_but x cs) s y ≡ with_value (changed cs (with_value s x v)) c.0 c.1 y in
        let Q : ℕ → Type 0 = λ z. (y == z) ≡ false in
        subst P (sym e) (ih ∙ sym (value_off (changed cs (with_value s x v)) c.0 c.1 y (subst Q (sym (eqb-true c.0 x e)) h)))
    by_name ih false e =
        let P : Bool → Type 0 = λ i. changed (if not i then c ∷ changes_but x cs else changes_but x cs) s y ≡ with_value (changed cs (with_value s x v)) c.0 c.1 y in
        subst P (sym e) (ap (λ n. if y == c.0 then c.1 else n) ih)

-- and the variable keeps the value that it has outside
pub changed_at : (cs : List (ℕ × ℕ)) (s : Values) (x : ℕ) → changed (changes_but x cs) s x ≡ s x
changed_at [] s x = refl
changed_at (c ∷ cs) s x = by_name (changed_at cs s x) (c.0 == x) refl
  where
    by_name : changed (changes_but x cs) s x ≡ s x → (b : Bool) → (c.0 == x) ≡ b → changed (changes_but x (c ∷ cs)) s x ≡ s x
    by_name ih true e =
        let P : Bool → Type 0 = λ i. changed (if not i then c ∷ changes_but x cs else changes_but x cs) s x ≡ s x in
        subst P (sym e) ih
    by_name ih false e =
        let P : Bool → Type 0 = λ i. changed (if not i then c ∷ changes_but x cs else changes_but x cs) s x ≡ s x in
        subst P (sym e) (value_off (changed (changes_but x cs) s) c.0 c.1 x (off_turned c.0 x e) ∙ ih)

-- the values inside: those outside, with the variable's own value
pub changed_inside : (cs : List (ℕ × ℕ)) (s : Values) (x v : ℕ)
    → with_value (changed (changes_but x cs) s) x (changed cs (with_value s x v) x) ≡ changed cs (with_value s x v)
changed_inside cs s x v = fun_ext (λ y. elim (eqb_tells y x) [
  | inl k ↦ if_true (y == x) (changed cs (with_value s x v) x) (changed (changes_but x cs) s y) k.0 ∙ ap (changed cs (with_value s x v)) (sym k.1)
  | inr k ↦ value_off (changed (changes_but x cs) s) x (changed cs (with_value s x v) x) y k.0 ∙ changed_off cs s x v y k.0
])
