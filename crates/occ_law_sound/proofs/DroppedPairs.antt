-- A pair for a variable whose scope ends changes nothing.
use Rattle.occ_law.specs.occ_base.Width.{bits_of}
use Rattle.occ_law.specs.occ_base.declared.width.Width.{Width}
use Rattle.occ_law.specs.Lists.{assigned_without, assignment, names_without, values_without}
use Rattle.occ_law.specs.Scope.{VarAssign, VarEnd, var_assign, var_end}
use Rattle.occ_law_sound.proofs.Opened.{closed, opened, up_to, variable_up_to}
use Rattle.occ_law.proofs.from_meaning.AssignedFirst.{then_skip_in, then_skip_out}
use Rattle.occ_law.proofs.from_meaning.Beside.{done}
use Rattle.occ_law.proofs.from_meaning.Declared.{declared_off}
use Rattle.occ_law.proofs.from_meaning.OffNames.{same_value}
use Rattle.occ_law.proofs.from_meaning.OffValues.{swap_values, value_again, value_back, value_unnamed}
use Rattle.occ_law.specs.occ_meaning.Foundation.{with_result}
use Rattle.occ_law.specs.occ_meaning.Parallel.{two}
use Rattle.occ_law.proofs.from_meaning.AtState.{same_at}
use Rattle.occ_law.specs.occ_syntax.Eval.{eval}
use Rattle.occ_law.specs.occ_syntax.Meaning.{Followed, Meaning, Outcome, WithVariable, assigned, ended, followed, in_first, in_second, meaning, refusing}
use Rattle.occ_law.specs.occ_syntax.Names.{names, some_names}
use Rattle.occ_law.specs.occ_syntax.Same.{SAME}
use Rattle.occ_law.specs.occ_syntax.Scopes.{Environment, Trace, Values, with_name, with_value}
use Rattle.occ_law.specs.occ_syntax.Tree.{Exp, Tree, assign, declare, seq}
use Rattle.occ_law.specs.occ_syntax.declared.scope.Kind.TheVariants.{Var}
use Rattle.std.proofs.Common.{Bool, List, [], ap, false, if◌then◌else◌, refl, subst, sym, true, ℕ, ◌==◌, ◌∙◌, ◌∷◌, ◌≡◌}
use Rattle.std.proofs.lemmas.Bool.{eqb-true, or_parts}
use Rattle.std.proofs.lemmas.Nat.{pow_pos}

-- an assignment without right sides changes nothing
nothing_assigned : (Γ : Environment) (s : Values) (xs : List ℕ) → assigned xs [] Γ s ≡ s
nothing_assigned Γ s [] = refl
nothing_assigned Γ s (x ∷ xs) = refl

assignment_forth : (Γ : Environment) (s : Values) (xs : List ℕ) (es : List Exp) (t : Trace) (o : Outcome) → (meaning (assignment xs es)).does Γ s t o
    → (t ≡ []) × (o ≡ ended (assigned xs es Γ s))
assignment_forth Γ s [] es t o d = d
assignment_forth Γ s (x ∷ xs) es t o d = d

assignment_back : (Γ : Environment) (s : Values) (xs : List ℕ) (es : List Exp) (t : Trace) (o : Outcome) → (t ≡ []) × (o ≡ ended (assigned xs es Γ s))
    → (meaning (assignment xs es)).does Γ s t o
assignment_back Γ s [] es t o d = d
assignment_back Γ s (x ∷ xs) es t o d = d

-- ---- in one scope: whatever the variable is given at last

dropped : (Γ : Environment) (s : Values) (x a : ℕ) (ys : List ℕ) (es : List Exp)
    → with_value (assigned ys es Γ s) x a ≡ with_value (assigned (names_without x ys) (values_without x ys es) Γ s) x a
dropped Γ s x a [] es = refl
dropped Γ s x a (y ∷ ys) [] = ap (λ r. with_value r x a) (sym (nothing_assigned Γ s (names_without x (y ∷ ys))))
dropped Γ s x a (y ∷ ys) (e ∷ es) = by_test Γ s x a y ys e es (x == y) refl (dropped Γ s x a ys es)
  where
    by_test : (Γ : Environment) (s : Values) (x a y : ℕ) (ys : List ℕ) (e : Exp) (es : List Exp) (b : Bool) → (x == y) ≡ b
        → with_value (assigned ys es Γ s) x a ≡ with_value (assigned (names_without x ys) (values_without x ys es) Γ s) x a
        → with_value (with_value (assigned ys es Γ s) y (eval Γ e s)) x a
        ≡ with_value (assigned (if b then names_without x ys else y ∷ names_without x ys) (if b then values_without x ys es else e ∷ values_without x ys es) Γ s) x a
    by_test Γ s x a y ys e es true i rest =
        let P : ℕ → Type 0 = λ z. with_value (with_value (assigned ys es Γ s) z (eval Γ e s)) x a ≡ with_value (assigned ys es Γ s) x a in
        subst P (eqb-true x y i) (value_again (assigned ys es Γ s) x (eval Γ e s) a) ∙ rest
    by_test Γ s x a y ys e es false i rest =
        let n : ℕ = eval Γ e s in
        sym (swap_values (assigned ys es Γ s) x a y n i)
        ∙ (ap (λ r. with_value r y n) rest
        ∙ swap_values (assigned (names_without x ys) (values_without x ys es) Γ s) x a y n i)

end_forth : (Γ : Environment) (s : Values) (x : ℕ) (ys : List ℕ) (es : List Exp) (t : Trace) (o : Outcome)
    → (t ≡ []) × (o ≡ ended (assigned ys es Γ s)) → (up_to x (meaning (assigned_without x ys es))).does Γ s t o
end_forth Γ s x ys es t o d =
    let ns : List ℕ = names_without x ys in
    let fs : List Exp = values_without x ys es in
    (ended (assigned ns fs Γ s), (λ a. ap (with_result x a) d.1 ∙ ap ended (dropped Γ s x a ys es)), assignment_back Γ s ns fs t (ended (assigned ns fs Γ s)) (d.0, refl))

end_back : (Γ : Environment) (s : Values) (x : ℕ) (ys : List ℕ) (es : List Exp) (t : Trace) (o : Outcome)
    → (meaning (assigned_without x ys es)).does Γ s t o → (up_to x (meaning (assign ys es))).does Γ s t o
end_back Γ s x ys es t o d =
    let ns : List ℕ = names_without x ys in
    let fs : List Exp = values_without x ys es in
    let k = assignment_forth Γ s ns fs t o d in
    (ended (assigned ys es Γ s), (λ a. ap (with_result x a) k.1 ∙ ap ended (sym (dropped Γ s x a ys es))), (k.0, refl))

-- behind a part
behind_part : (Γ : Environment) (s : Values) (x : ℕ) (m n l : Meaning)
    → ((r : Values) (t : Trace) (o : Outcome) → n.does Γ r t o → (up_to x l).does Γ r t o)
    → (t : Trace) (o : Outcome) → Followed m n Γ s t o → (up_to x (followed m l)).does Γ s t o
behind_part Γ s x m n l h t o (in_first {X = X} d) = (refusing X, (λ a. refl), in_first d)
behind_part Γ s x m n l h t o (in_second t1 t2 s1 e d1 d2) = let k = h s1 t2 o d2 in (k.0, k.1, in_second t1 t2 s1 e d1 k.2)

last_forth : (Γ : Environment) (s : Values) (x : ℕ) (p : Tree) (ys : List ℕ) (es : List Exp) (t : Trace) (o : Outcome)
    → (meaning (seq (two p (assign ys es)))).does Γ s t o → (up_to x (meaning (seq (two p (assigned_without x ys es))))).does Γ s t o
last_forth Γ s x p ys es =
    let m : Meaning = meaning (assign ys es) in
    let n : Meaning = meaning (assigned_without x ys es) in
    behind_part Γ s x (meaning p) (followed m done) (followed n done)
    (λ r t o d. (let k = end_forth Γ r x ys es t o (then_skip_out m Γ r t o d) in (k.0, k.1, then_skip_in n Γ r t k.0 k.2)))

last_back : (Γ : Environment) (s : Values) (x : ℕ) (p : Tree) (ys : List ℕ) (es : List Exp) (t : Trace) (o : Outcome)
    → (meaning (seq (two p (assigned_without x ys es)))).does Γ s t o → (up_to x (meaning (seq (two p (assign ys es))))).does Γ s t o
last_back Γ s x p ys es =
    let m : Meaning = meaning (assign ys es) in
    let n : Meaning = meaning (assigned_without x ys es) in
    behind_part Γ s x (meaning p) (followed n done) (followed m done)
    (λ r t o d. (let k = end_back Γ r x ys es t o (then_skip_out n Γ r t o d) in (k.0, k.1, then_skip_in m Γ r t k.0 k.2)))

pub var_end_sound : (Γ : Environment) (ks : List ℕ) (l r : Tree) → VarEnd ks l r → SAME Γ l r
var_end_sound Γ ks l r (var_end x w p ys fs) =
    let left : Tree = seq (two p (assign ys fs)) in
    let right : Tree = seq (two p (assigned_without x ys fs)) in
    let Δ : Environment = with_name Γ x (Var w) in
    same_at Γ (declare x w left) (declare x w right) (λ s state. record {
      forth = variable_up_to x w (meaning left) (meaning right) Γ s (λ v lt. last_forth Δ (with_value s x v) x p ys fs);
      back = variable_up_to x w (meaning right) (meaning left) Γ s (λ v lt. last_back Δ (with_value s x v) x p ys fs);
    })

-- ---- out of the scope

left_scope : (Γ : Environment) (s : Values) (x v : ℕ) (w : Width) (ys : List ℕ) (es : List Exp) → some_names (values_without x ys es) x ≡ false
    → with_value (assigned ys es (with_name Γ x (Var w)) (with_value s x v)) x (s x) ≡ assigned (names_without x ys) (values_without x ys es) Γ s
left_scope Γ s x v w [] es h = value_again s x v (s x) ∙ value_back s x
left_scope Γ s x v w (y ∷ ys) [] h = (value_again s x v (s x) ∙ value_back s x) ∙ sym (nothing_assigned Γ s (names_without x (y ∷ ys)))
left_scope Γ s x v w (y ∷ ys) (e ∷ es) h = by_test Γ s x v w y ys e es (x == y) refl h (left_scope Γ s x v w ys es)
  where
    by_test : (Γ : Environment) (s : Values) (x v : ℕ) (w : Width) (y : ℕ) (ys : List ℕ) (e : Exp) (es : List Exp) (b : Bool) → (x == y) ≡ b
        → some_names (if b then values_without x ys es else e ∷ values_without x ys es) x ≡ false
        → (some_names (values_without x ys es) x ≡ false
        → with_value (assigned ys es (with_name Γ x (Var w)) (with_value s x v)) x (s x) ≡ assigned (names_without x ys) (values_without x ys es) Γ s)
        → with_value (with_value (assigned ys es (with_name Γ x (Var w)) (with_value s x v)) y (eval (with_name Γ x (Var w)) e (with_value s x v))) x (s x)
        ≡ assigned (if b then names_without x ys else y ∷ names_without x ys) (if b then values_without x ys es else e ∷ values_without x ys es) Γ s
    by_test Γ s x v w y ys e es true i h rest =
        let Δ : Environment = with_name Γ x (Var w) in
        let r : Values = assigned ys es Δ (with_value s x v) in
        let n : ℕ = eval Δ e (with_value s x v) in
        let P : ℕ → Type 0 = λ z. with_value (with_value r z n) x (s x) ≡ with_value r x (s x) in
        subst P (eqb-true x y i) (value_again r x n (s x)) ∙ rest h
    by_test Γ s x v w y ys e es false i h rest =
        let Δ : Environment = with_name Γ x (Var w) in
        let r : Values = assigned ys es Δ (with_value s x v) in
        let n : ℕ = eval Δ e (with_value s x v) in
        let j = or_parts (names e x) (some_names (values_without x ys es) x) h in
        let same : n ≡ eval Γ e s = sym (value_unnamed Δ s x v e j.0) ∙ sym (same_value x Γ Δ s (declared_off Γ x (Var w)) e j.0) in
        sym (swap_values r x (s x) y n i)
        ∙ (ap (λ q. with_value q y n) (rest j.1) ∙ ap (λ k. with_value (assigned (names_without x ys) (values_without x ys es) Γ s) y k) same)

assign_outside : (Γ : Environment) (s : Values) (x : ℕ) (w : Width) (ys : List ℕ) (fs : List Exp) → some_names (values_without x ys fs) x ≡ false
    → (t : Trace) (o : Outcome) → WithVariable x w (meaning (assign ys fs)) Γ s t o → (meaning (assigned_without x ys fs)).does Γ s t o
assign_outside Γ s x w ys fs h t o d =
    let k = opened x w (meaning (assign ys fs)) Γ s t o d in
    assignment_back Γ s (names_without x ys) (values_without x ys fs) t o
    (k.inside.0, sym k.outer ∙ (ap (with_result x (s x)) k.inside.1 ∙ ap ended (left_scope Γ s x k.value w ys fs h)))

assign_inside : (Γ : Environment) (s : Values) (x : ℕ) (w : Width) (ys : List ℕ) (fs : List Exp) → some_names (values_without x ys fs) x ≡ false
    → (t : Trace) (o : Outcome) → (meaning (assigned_without x ys fs)).does Γ s t o → WithVariable x w (meaning (assign ys fs)) Γ s t o
assign_inside Γ s x w ys fs h t o d =
    let k = assignment_forth Γ s (names_without x ys) (values_without x ys fs) t o d in
    let Δ : Environment = with_name Γ x (Var w) in
    let r : Values = assigned ys fs Δ (with_value s x 0) in
    let P : Outcome → Type 0 = λ i. WithVariable x w (meaning (assign ys fs)) Γ s t i in
    subst P (ap ended (left_scope Γ s x 0 w ys fs h) ∙ sym k.1) (closed x w (meaning (assign ys fs)) Γ s t 0 (pow_pos (bits_of w)) (ended r) (k.0, refl))

pub var_assign_sound : (Γ : Environment) (ks : List ℕ) (l r : Tree) → VarAssign ks l r → SAME Γ l r
var_assign_sound Γ ks l r (var_assign x w ys fs h) = same_at Γ (declare x w (assign ys fs)) (assigned_without x ys fs) (λ s state.
    record { forth = assign_outside Γ s x w ys fs h; back = assign_inside Γ s x w ys fs h })
