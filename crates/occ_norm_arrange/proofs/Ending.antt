-- A straight part ends at once, in one state.
use Rattle.std.proofs.Common.{◌≡◌, ◌||◌, ◌++◌, Bool, true, false, MatchBool, inl, inr, List, [], if◌then◌else◌, refl, sym, ap, subst, ◌∙◌}
use Rattle.std.proofs.lemmas.Bool.{and_parts, cases_Bool}
use Rattle.occ_meaning.proofs.Beside.{Gives, gives_itself, gives_through}
use Rattle.occ_meaning.proofs.Facts.{both, false_not_true}
use Rattle.occ_meaning.proofs.Sequence.{followed_gives}
use Rattle.occ_syntax.specs.Eval.{is_true}
use Rattle.occ_syntax.specs.Meaning.{Followed, Meaning, Outcome, assigned, at_once, chosen, ended, first_choice, followed, in_first, in_second, in_turn, meaning, refusing}
use Rattle.occ_syntax.specs.Scopes.{Environment, EventSet, Trace, Values}
use Rattle.occ_syntax.specs.Tree.{Exp, variable, numeral, truth, negation, complement, operation, Tree, skip, stop, assign, receive, send, seq, par, select, alt, declare, connect, Trees, no_tree, and_tree, Cases, no_case, and_case}
use Rattle.occ_norm_arrange.specs.Straight.{all_straight, always, leads_straight, straight}

-- it ends at once in the state that f makes
abbrev pub to_state : (Values → Values) → Meaning
to_state f = at_once (λ Γ s. f s)

pub record EndsAtOnce (Γ : Environment) (m : Meaning) : Type 0 where
  pub state : Values → Values
  pub forth : Gives Γ m (to_state state)
  pub back : Gives Γ (to_state state) m

-- ---- SEQ

pub refusing_no_end : {A : Type 0} {r : Values} {X : EventSet} → refusing X ≡ ended r → A
refusing_no_end h = absurd (cc)

turn_out : (Γ : Environment) (f g : Values → Values) (s : Values) (t : Trace) (o : Outcome) → Followed (to_state f) (to_state g) Γ s t o → (t ≡ []) × (o ≡ ended (g (f s)))
turn_out Γ f g s t o (in_first d) = refusing_no_end d.1
turn_out Γ f g s t o (in_second t1 t2 s1 e d1 d2) =
    let there : s1 ≡ f s = (let i : ended s1 ≡ ended (f s) = d1.1 in cc) in
    (e ∙ (ap (λ r. r ++ t2) d1.0 ∙ d2.0), d2.1 ∙ ap (λ r. ended (g r)) there)

followed_ends : (Γ : Environment) (m n : Meaning) → EndsAtOnce Γ m → EndsAtOnce Γ n → EndsAtOnce Γ (followed m n)
followed_ends Γ m n a b =
    let f = to_state a.state in
    let g = to_state b.state in
    let h = to_state (λ s. b.state (a.state s)) in
    record {
      state = λ s. b.state (a.state s);
      forth = gives_through Γ (followed m n) (followed f g) h (followed_gives Γ m f n g a.forth b.forth) (record { gives = turn_out Γ a.state b.state });
      back = gives_through Γ h (followed f g) (followed m n) (record { gives = λ s t o d. in_second [] t (a.state s) refl (refl, refl) d }) (followed_gives Γ f m g n a.back b.back);
    }

-- ---- IF

either_end : (b : Bool) (u v : Values) (t : Trace) (o : Outcome) → MatchBool b ((t ≡ []) × (o ≡ ended u)) ((t ≡ []) × (o ≡ ended v))
    → (t ≡ []) × (o ≡ ended (if b then u else v))
either_end true u v t o d = d
either_end false u v t o d = d

either_from : (b : Bool) (u v : Values) (t : Trace) (o : Outcome) → (t ≡ []) × (o ≡ ended (if b then u else v))
    → MatchBool b ((t ≡ []) × (o ≡ ended u)) ((t ≡ []) × (o ≡ ended v))
either_from true u v t o d = d
either_from false u v t o d = d

chosen_ends : (Γ : Environment) (e : Exp) (m n : Meaning) → EndsAtOnce Γ m → EndsAtOnce Γ n → EndsAtOnce Γ (chosen e m n)
chosen_ends Γ e m n a b = record {
  state = λ s. if is_true Γ e s then a.state s else b.state s;
  forth = record {
    gives = λ s t o d. either_end (is_true Γ e s) (a.state s) (b.state s) t o (both (is_true Γ e s) (λ h. a.forth.gives s t o h) (λ h. b.forth.gives s t o h) d);
  };
  back = record {
    gives = λ s t o d. both (is_true Γ e s) (λ h. a.back.gives s t o h) (λ h. b.back.gives s t o h) (either_from (is_true Γ e s) (a.state s) (b.state s) t o d);
  };
}

always_is : (e : Exp) → always e ≡ true → e ≡ truth true
always_is (variable x) h = false_not_true h
always_is (numeral bits value) h = false_not_true h
always_is (truth b) h = ap truth h
always_is (negation e) h = false_not_true h
always_is (complement e) h = false_not_true h
always_is (operation op left right) h = false_not_true h

first_ends : (Γ : Environment) (m n : Meaning) → EndsAtOnce Γ m → EndsAtOnce Γ (chosen (truth true) m n)
first_ends Γ m n a = record { state = a.state; forth = record { gives = λ s t o d. a.forth.gives s t o d }; back = record { gives = λ s t o d. a.back.gives s t o d } }

-- ---- straight parts

skip_ends : (Γ : Environment) → EndsAtOnce Γ (at_once (λ Δ s. s))
skip_ends Γ = record { state = λ s. s; forth = gives_itself Γ (at_once (λ Δ s. s)); back = gives_itself Γ (at_once (λ Δ s. s)) }

assign_ends : (Γ : Environment) (xs : List _) (es : List Exp) → EndsAtOnce Γ (at_once (assigned xs es))
assign_ends Γ xs es = record { state = assigned xs es Γ; forth = record { gives = λ s t o d. d }; back = record { gives = λ s t o d. d } }

mutual
  pub straight_ends : (p : Tree) (Γ : Environment) → straight p ≡ true → EndsAtOnce Γ (meaning p)
  straight_ends skip Γ h = skip_ends Γ
  straight_ends stop Γ h = false_not_true h
  straight_ends (assign xs es) Γ h = assign_ends Γ xs es
  straight_ends (receive c x) Γ h = false_not_true h
  straight_ends (send c e) Γ h = false_not_true h
  straight_ends (seq ps) Γ h = turn_ends ps Γ h
  straight_ends (par ps) Γ h = false_not_true h
  straight_ends (select cs) Γ h = cases_end cs Γ h
  straight_ends (alt bs) Γ h = false_not_true h
  straight_ends (declare x w p) Γ h = false_not_true h
  straight_ends (connect c w p) Γ h = false_not_true h

  turn_ends : (ps : Trees) (Γ : Environment) → all_straight ps ≡ true → EndsAtOnce Γ (in_turn ps)
  turn_ends no_tree Γ h = skip_ends Γ
  turn_ends (and_tree p ps) Γ h =
      let k = and_parts (straight p) (all_straight ps) h in followed_ends Γ (meaning p) (in_turn ps) (straight_ends p Γ k.0) (turn_ends ps Γ k.1)

  cases_end : (cs : Cases) (Γ : Environment) → leads_straight cs ≡ true → EndsAtOnce Γ (first_choice cs)
  cases_end no_case Γ h = false_not_true h
  cases_end (and_case e p cs) Γ h =
      let k = and_parts (straight p) (always e || leads_straight cs) h in
      elim (cases_Bool (always e)) [
        | inl y ↦ subst (λ z. EndsAtOnce Γ (chosen z (meaning p) (first_choice cs))) (sym (always_is e y)) (first_ends Γ (meaning p) (first_choice cs) (straight_ends p Γ k.0))
        | inr n ↦ chosen_ends Γ e (meaning p) (first_choice cs) (straight_ends p Γ k.0) (cases_end cs Γ (sym (ap (λ b. b || leads_straight cs) n) ∙ k.1))
      ]
