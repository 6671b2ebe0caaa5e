-- A process of normal shape does from all states the same, but for variables that are no parameters: it sets each variable
-- before it reads it.
use Rattle.std.proofs.Common.{◌≡◌, ℕ, ◌<◌, ◌^◌, ◌==◌, true, false, nat_lt, ◌&&◌, List, [], ◌∷◌, refl, sym, ap, ◌∙◌, subst, inl, inr, ◌⊎◌}
use Rattle.std.proofs.lemmas.Bool.{and_parts, cases_Bool, eqb-true, false≢true, ltb-true}
use Rattle.occ_target.specs.occ_base.declared.event.Event.{Event}
use Rattle.occ_target.specs.occ_base.declared.names.Name.{Name}
use Rattle.occ_target.specs.occ_base.Width.{bits_of}
use Rattle.occ_target.specs.occ_syntax.declared.scope.Kind.{Kind}
use Rattle.occ_target.specs.occ_syntax.declared.scope.Kind.TheVariants.{Var, Chan}
use Rattle.occ_target.specs.occ_syntax.Meaning.{After, IsQuiet, Outcome, ended, meaning, refusing}
use Rattle.occ_target.specs.occ_syntax.Scopes.{Environment, EventSet, Trace, Values}
use Rattle.occ_target.specs.occ_syntax.Tree.{Tree, Waiting}
use Rattle.occ_target.specs.occ_behaviour.States.{is_state}
use Rattle.occ_target.proofs.from_meaning.Facts.{value_at, value_off}
use Rattle.occ_target.specs.occ_nform_table.Lists.{In}
use Rattle.occ_target.proofs.from_nform_table.Lists.{in_all}
use Rattle.occ_target.specs.States.{variables}
use Rattle.occ_target_laws.specs.Shapes.{Header, IsShaped, Leads, of_node, process_of}
use Rattle.occ_target_laws.proofs.Following.{HasChannels, after_lead, constant_value, lead_after}
use Rattle.occ_target_laws.proofs.Nodes.{Does, does_so, left_by, left_in, moves, moves_so, stops, stops_so, waits, waits_so}

-- ---- outcomes

-- outcomes that differ in variables that are no parameters at most
abbrev pub Like : Header → Outcome → Outcome → Type 0
Like h (ended s) (ended u) = (x : ℕ) → In x (variables h.params) → s x ≡ u x
Like h (ended s) (refusing X) = ⊥
Like h (refusing X) (ended u) = ⊥
Like h (refusing X) (refusing Y) = X ≡ Y

pub like_itself : (h : Header) (o : Outcome) → Like h o o
like_itself h (ended s) = λ x i. refl
like_itself h (refusing X) = refl

pub like_through : (h : Header) (o p q : Outcome) → Like h o p → Like h p q → Like h o q
like_through h (ended s) (ended u) (ended v) k j = λ x i. k x i ∙ j x i
like_through h (ended s) (ended u) (refusing X) k j = absurd j
like_through h (ended s) (refusing X) q k j = absurd k
like_through h (refusing X) (ended u) q k j = absurd k
like_through h (refusing X) (refusing Y) (ended v) k j = absurd j
like_through h (refusing X) (refusing Y) (refusing Z) k j = k ∙ j

-- ---- ends

-- what a parameter is at an end, whatever was before
pub same_left : (params : List (Name × Kind)) (state : List (Name × ℕ)) → is_state params state ≡ true → (Γ Δ : Environment) (s r : Values) (x : ℕ) → In x (variables params)
    → left_in params state Γ s x ≡ left_in params state Δ r x
same_left [] state is Γ Δ s r x i = absurd i
same_left ((name, Chan w d) ∷ params) state is Γ Δ s r x i = same_left params state is Γ Δ s r x i
same_left ((name, Var w) ∷ params) [] is Γ Δ s r x i = absurd (false≢true is)
same_left ((name, Var w) ∷ params) (v ∷ state) is Γ Δ s r x i = go (cases_Bool (x == name.0)) i (λ j. same_left params state both.1 Γ Δ s r x j)
  where
    both : ((v.0.0 == name.0 && nat_lt v.1 (2 ^ bits_of w)) ≡ true) × (is_state params state ≡ true)
    both = and_parts (v.0.0 == name.0 && nat_lt v.1 (2 ^ bits_of w)) (is_state params state) is

    below : v.1 < 2 ^ bits_of w
    below = ltb-true v.1 (2 ^ bits_of w) (and_parts (v.0.0 == name.0) (nat_lt v.1 (2 ^ bits_of w)) both.0).1

    goal_at : (Φ : Environment) (z : Values) → x ≡ name.0 → left_in ((name, Var w) ∷ params) (v ∷ state) Φ z x ≡ v.1
    goal_at Φ z e = ap (left_in ((name, Var w) ∷ params) (v ∷ state) Φ z) e ∙ value_at (left_in params state Φ z) name.0 _ ∙ constant_value Φ z w v.1 below

    go : ((x == name.0) ≡ true) ⊎ ((x == name.0) ≡ false) → (x ≡ name.0) ⊎ In x (variables params) → (In x (variables params) → left_in params state Γ s x ≡ left_in params state Δ r x)
        → left_in ((name, Var w) ∷ params) (v ∷ state) Γ s x
        ≡ left_in ((name, Var w) ∷ params) (v ∷ state) Δ r x
    go (inl e) j ih = goal_at Γ s (eqb-true x name.0 e) ∙ sym (goal_at Δ r (eqb-true x name.0 e))
    go (inr e) (inl j) ih = goal_at Γ s j ∙ sym (goal_at Δ r j)
    go (inr e) (inr j) ih = value_off (left_in params state Γ s) name.0 _ x e ∙ ih j ∙ sym (value_off (left_in params state Δ r) name.0 _ x e)

-- ---- processes

no_event : {e : Event} {a : Trace} → [] ≡ e ∷ a → ⊥
no_event h = cc

pub same_event_first : {e f : Event} {a b : Trace} → e ∷ a ≡ f ∷ b → e ≡ f
same_event_first h = cc

pub same_trace_then : {e f : Event} {a b : Trace} → e ∷ a ≡ f ∷ b → a ≡ b
same_trace_then h = cc

module _ (h : Header) where
  -- a set that is refused from one state is refused from each
  quiet_anywhere : (Γ Δ : Environment) → HasChannels h Γ → HasChannels h Δ → (s r : Values) (b : Waiting × Tree) (f : Event) (q : Tree) → Leads h b f q → (X : EventSet)
      → IsQuiet Γ s b.0 X → IsQuiet Δ r b.0 X
  quiet_anywhere Γ Δ g d s r b f q l X quiet = record {
    not_ready = quiet.not_ready;
    refused = λ e u after. (
        let here = after_lead h Δ d b f q l r e u after in
        let there = lead_after h Γ g b e here.0 here.1 s in
        quiet.refused e there.0 there.1
        );
  }

  pub anywhere : (t : Trace) (p : Tree) → IsShaped h p → (Γ Δ : Environment) → HasChannels h Γ → HasChannels h Δ → (s r : Values) (o : Outcome)
      → (meaning p).does Γ s t o → (o' : Outcome) × (meaning p).does Δ r t o' × Like h o o'
  anywhere [] p (of_node z n is fine next) Γ Δ g d s r o k =
      go (does_so h n fine Γ s [] o (subst (λ (x : Tree). (meaning x).does Γ s [] o) is k))
    where
      back : (x : Outcome) → (meaning (process_of h n)).does Δ r [] x → (meaning p).does Δ r [] x
      back x j = subst (λ (y : Tree). (meaning y).does Δ r [] x) (sym is) j

      go : Does h n Γ s [] o → (o' : Outcome) × (meaning p).does Δ r [] o' × Like h o o'
      go (waits set X i e same quiet) = (
        refusing X,
        back (refusing X) (waits_so h n fine Δ r set X i (λ b j. (let form = fine.events b (fine.within set i b j) in quiet_anywhere Γ Δ g d s r b form.0 form.1 form.2 X (quiet b j)))),
        subst (λ z. Like h z (refusing X)) (sym same) refl,
      )
      go (stops state i e same) = (
        ended (left_by h state Δ r),
        back (ended (left_by h state Δ r)) (stops_so h n fine Δ r state i),
        subst (λ z. Like h z (ended (left_by h state Δ r))) (sym same)
            (same_left h.params state (in_all (λ z. is_state h.params z ≡ true) n.ends state fine.states i) Γ Δ s r),
      )
      go (moves b e a u i same after j) = absurd (no_event same)
  anywhere (e ∷ t) p (of_node z n is fine next) Γ Δ g d s r o k =
      go (does_so h n fine Γ s (e ∷ t) o (subst (λ (x : Tree). (meaning x).does Γ s (e ∷ t) o) is k)) (λ q shaped u v x j. anywhere t q shaped Γ Δ g d u v x j)
    where
      go : Does h n Γ s (e ∷ t) o
          → ((q : Tree) → IsShaped h q → (u v : Values) (x : Outcome) → (meaning q).does Γ u t x → (x' : Outcome) × (meaning q).does Δ v t x' × Like h x x')
          → (o' : Outcome) × (meaning p).does Δ r (e ∷ t) o' × Like h o o'
      go (waits set X i same f quiet) ih = absurd (no_event (sym same))
      go (stops state i same f) ih = absurd (no_event (sym same))
      go (moves b f a u i same after j) ih =
          let form = fine.events b i in
          let after_e : After Γ s b.0 e u = subst (λ x. After Γ s b.0 x u) (sym (same_event_first same)) after in
          let here = after_lead h Γ g b form.0 form.1 form.2 s e u after_e in
          let there = lead_after h Δ d b e here.0 here.1 r in
          let rest : (meaning here.0).does Γ u t o = here.2 t o (subst (λ x. (meaning b.1).does Γ u x o) (sym (same_trace_then same)) j) in
          let on = ih here.0 (next b e here.0 i here.1) u there.0 o rest in (
            on.0,
            subst (λ (y : Tree). (meaning y).does Δ r (e ∷ t) on.0) (sym is) (moves_so h n fine Δ r b e t there.0 on.0 i there.1 (there.2 t on.0 on.1)),
            on.2,
          )
