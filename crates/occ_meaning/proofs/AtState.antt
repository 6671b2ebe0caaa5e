-- Two meanings compared from one state each: what the first does from one, the second does from the other.
use Rattle.occ_meaning.proofs.Alike.{same_from}
use Rattle.occ_meaning.proofs.AssignedFirst.{assign_in, assign_out, then_skip_in, then_skip_out}
use Rattle.occ_meaning.proofs.Beside.{done}
use Rattle.occ_meaning.proofs.Settled.{chosen_first, chosen_second, first_of, second_of}
use Rattle.occ_meaning.specs.Parallel.{two}
use Rattle.occ_syntax.specs.Eval.{is_true}
use Rattle.occ_syntax.specs.Meaning.{Followed, Meaning, Outcome, assigned, at_once, chosen, ended, followed, in_first, in_second, meaning, never, refusing}
use Rattle.occ_syntax.specs.Same.{SAME}
use Rattle.occ_syntax.specs.Scopes.{Environment, IsState, Trace, Values}
use Rattle.occ_syntax.specs.Tree.{Exp, Tree, assign, seq}
use Rattle.std.proofs.Common.{List, ap, false, inl, inr, subst, sym, true, ℕ, ◌∙◌, ◌≡◌}
use Rattle.std.proofs.lemmas.Bool.{cases_Bool}

pub record AlikeAt (Γ : Environment) (s r : Values) (m n : Meaning) : Type 0 where
  pub forth : (t : Trace) (o : Outcome) → m.does Γ s t o → n.does Γ r t o
  pub back : (t : Trace) (o : Outcome) → n.does Γ r t o → m.does Γ s t o

-- parts that are alike from each state are the same
pub same_at : (Γ : Environment) (p q : Tree) → ((s : Values) → IsState Γ s → AlikeAt Γ s s (meaning p) (meaning q)) → SAME Γ p q
same_at Γ p q h = same_from Γ p q (record { into = λ s t o state within d. (h s state).forth t o d }) (record { into = λ s t o state within d. (h s state).back t o d })

pub alike_itself : (Γ : Environment) (s : Values) (m : Meaning) → AlikeAt Γ s s m m
alike_itself Γ s m = record { forth = λ t o d. d; back = λ t o d. d }

pub alike_turned : (Γ : Environment) (s r : Values) (m n : Meaning) → AlikeAt Γ s r m n → AlikeAt Γ r s n m
alike_turned Γ s r m n h = record { forth = h.back; back = h.forth }

pub alike_through : (Γ : Environment) (s r u : Values) (m n l : Meaning) → AlikeAt Γ s r m n → AlikeAt Γ r u n l → AlikeAt Γ s u m l
alike_through Γ s r u m n l h k = record { forth = λ t o d. k.forth t o (h.forth t o d); back = λ t o d. h.back t o (k.back t o d) }

-- ---- at once

pub never_alike : (Γ : Environment) (s r : Values) → AlikeAt Γ s r never never
never_alike Γ s r = record { forth = λ t o d. d; back = λ t o d. d }

pub at_once_alike : (Γ : Environment) (s r : Values) (f g : Environment → Values → Values) → f Γ s ≡ g Γ r → AlikeAt Γ s r (at_once f) (at_once g)
at_once_alike Γ s r f g h = record { forth = λ t o d. (d.0, d.1 ∙ ap ended h); back = λ t o d. (d.0, d.1 ∙ ap ended (sym h)) }

-- ---- IF

pub chosen_true : (Γ : Environment) (s : Values) (e : Exp) (m n : Meaning) → is_true Γ e s ≡ true → AlikeAt Γ s s (chosen e m n) m
chosen_true Γ s e m n h = record {
  forth = λ t o d. first_of (is_true Γ e s) (m.does Γ s t o) (n.does Γ s t o) h d;
  back = λ t o d. chosen_first (is_true Γ e s) (m.does Γ s t o) (n.does Γ s t o) h d;
}

pub chosen_false : (Γ : Environment) (s : Values) (e : Exp) (m n : Meaning) → is_true Γ e s ≡ false → AlikeAt Γ s s (chosen e m n) n
chosen_false Γ s e m n h = record {
  forth = λ t o d. second_of (is_true Γ e s) (m.does Γ s t o) (n.does Γ s t o) h d;
  back = λ t o d. chosen_second (is_true Γ e s) (m.does Γ s t o) (n.does Γ s t o) h d;
}

-- what a choice is alike by cases on its condition
pub chosen_cases : (Γ : Environment) (s r : Values) (e : Exp) (m n l : Meaning) → (is_true Γ e s ≡ true → AlikeAt Γ s r m l)
    → (is_true Γ e s ≡ false → AlikeAt Γ s r n l) → AlikeAt Γ s r (chosen e m n) l
chosen_cases Γ s r e m n l h k = elim (cases_Bool (is_true Γ e s)) [
  | inl i ↦ alike_through Γ s s r (chosen e m n) m l (chosen_true Γ s e m n i) (h i)
  | inr i ↦ alike_through Γ s s r (chosen e m n) n l (chosen_false Γ s e m n i) (k i)
]

pub chosen_alike : (Γ : Environment) (s r : Values) (e f : Exp) (m m' n n' : Meaning) → is_true Γ e s ≡ is_true Γ f r
    → (is_true Γ e s ≡ true → AlikeAt Γ s r m m') → (is_true Γ e s ≡ false → AlikeAt Γ s r n n')
    → AlikeAt Γ s r (chosen e m n) (chosen f m' n')
chosen_alike Γ s r e f m m' n n' same h k =
    chosen_cases Γ s r e m n (chosen f m' n')
    (λ i. alike_through Γ s r r m m' (chosen f m' n') (h i) (alike_turned Γ r r (chosen f m' n') m' (chosen_true Γ r f m' n' (sym same ∙ i))))
    (λ i. alike_through Γ s r r n n' (chosen f m' n') (k i) (alike_turned Γ r r (chosen f m' n') n' (chosen_false Γ r f m' n' (sym same ∙ i))))

-- ---- SEQ

followed_forth : (Γ : Environment) (s r : Values) (m m' n : Meaning) → ((t : Trace) (o : Outcome) → m.does Γ s t o → m'.does Γ r t o)
    → (t : Trace) (o : Outcome) → Followed m n Γ s t o → Followed m' n Γ r t o
followed_forth Γ s r m m' n h t o (in_first {X = X} d) = in_first (h t (refusing X) d)
followed_forth Γ s r m m' n h t o (in_second t1 t2 s1 e d1 d2) = in_second t1 t2 s1 e (h t1 (ended s1) d1) d2

pub followed_alike : (Γ : Environment) (s r : Values) (m m' n : Meaning) → AlikeAt Γ s r m m' → AlikeAt Γ s r (followed m n) (followed m' n)
followed_alike Γ s r m m' n h = record { forth = followed_forth Γ s r m m' n h.forth; back = followed_forth Γ r s m' m n h.back }

pub then_skip_alike : (Γ : Environment) (s : Values) (m : Meaning) → AlikeAt Γ s s (followed m done) m
then_skip_alike Γ s m = record { forth = λ t o d. then_skip_out m Γ s t o d; back = λ t o d. then_skip_in m Γ s t o d }

-- a part behind an assignment does what it does from the values that are put in place
pub assigned_before : (Γ : Environment) (s : Values) (xs : List ℕ) (es : List Exp) (n : Meaning)
    → AlikeAt Γ s (assigned xs es Γ s) (followed (at_once (assigned xs es)) n) n
assigned_before Γ s xs es n = record { forth = λ t o d. assign_out xs es n Γ s t o d; back = λ t o d. assign_in xs es n Γ s t o d }

pub assigned_then : (Γ : Environment) (s : Values) (xs : List ℕ) (es : List Exp) (p : Tree)
    → AlikeAt Γ s (assigned xs es Γ s) (meaning (seq (two (assign xs es) p))) (meaning p)
assigned_then Γ s xs es p =
    let r : Values = assigned xs es Γ s in
    alike_through Γ s r r (meaning (seq (two (assign xs es) p))) (followed (meaning p) done) (meaning p)
    (assigned_before Γ s xs es (followed (meaning p) done)) (then_skip_alike Γ r (meaning p))

-- the part does, from both, what it does from one of them
pub alike_along : (Γ : Environment) (s r : Values) (m : Meaning) → s ≡ r → AlikeAt Γ s r m m
alike_along Γ s r m e = let P : Values → Type 0 = λ u. AlikeAt Γ s u m m in subst P e (alike_itself Γ s m)
