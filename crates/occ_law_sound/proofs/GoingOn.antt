-- An IF or an ALT that goes on with further parts: these may stand in each of its choices or branches.
use Rattle.occ_law.specs.Sequence.{SeqAlt, SeqIf, each_branch_before, each_case_before, seq_alt, seq_if}
use Rattle.occ_law.proofs.from_meaning.Beside.{Gives}
use Rattle.occ_law.proofs.from_meaning.Sequence.{followed_gives}
use Rattle.occ_law.proofs.from_meaning.AtState.{AlikeAt, alike_through, alike_turned, chosen_cases, chosen_false, chosen_true, followed_alike, same_at}
use Rattle.occ_law.specs.occ_syntax.Eval.{is_true}
use Rattle.occ_law.specs.occ_syntax.Meaning.{Alternates, Followed, Guards, Meaning, Outcome, Stopped, Taken, alternatives, and_guard, at_event, at_ready, chosen, ended, first_choice, followed, guards, in_first, in_second, in_turn, meaning, never, refusing, stable, taken}
use Rattle.occ_law.specs.occ_syntax.Same.{SAME}
use Rattle.occ_law.specs.occ_syntax.Scopes.{Environment, EventSet, Trace, Values}
use Rattle.occ_law.specs.occ_syntax.Tree.{Branches, Cases, Exp, Tree, Trees, Waiting, alt, and_branch, and_case, and_tree, no_branch, no_case, select, seq}
use Rattle.std.proofs.Common.{List, ap, inl, inr, refl, subst, sym, true, ℕ, ◌++◌, ◌∷◌, ◌≡◌}

-- ---- IF

never_before : (n : Meaning) (Γ : Environment) (s : Values) (t : Trace) (o : Outcome) → Followed never n Γ s t o → Stopped t o
never_before n Γ s t o (in_first d) = d
never_before n Γ s t o (in_second t1 t2 s1 e d1 d2) = elim d1 [ ]

before_never : (n : Meaning) (Γ : Environment) (s : Values) (t : Trace) (o : Outcome) → Stopped t o → Followed never n Γ s t o
before_never n Γ s t (ended r) d = elim d [ ]
before_never n Γ s t (refusing X) d = in_first d

cases_before : (Γ : Environment) (s : Values) (cs : Cases) (qs : Trees)
    → AlikeAt Γ s s (followed (first_choice cs) (in_turn qs)) (first_choice (each_case_before cs qs))
cases_before Γ s no_case qs = record { forth = never_before (in_turn qs) Γ s; back = before_never (in_turn qs) Γ s }
cases_before Γ s (and_case b p cs) qs =
    let n : Meaning = in_turn qs in
    let whole : Meaning = chosen b (meaning p) (first_choice cs) in
    let right : Meaning = chosen b (followed (meaning p) n) (first_choice (each_case_before cs qs)) in
    alike_turned Γ s s right (followed whole n) (chosen_cases Γ s s b (followed (meaning p) n) (first_choice (each_case_before cs qs)) (followed whole n)
    (λ i. followed_alike Γ s s (meaning p) whole n (alike_turned Γ s s whole (meaning p) (chosen_true Γ s b (meaning p) (first_choice cs) i)))
    (λ i. alike_through Γ s s s (first_choice (each_case_before cs qs)) (followed (first_choice cs) n) (followed whole n)
    (alike_turned Γ s s (followed (first_choice cs) n) (first_choice (each_case_before cs qs)) (cases_before Γ s cs qs))
    (followed_alike Γ s s (first_choice cs) whole n (alike_turned Γ s s whole (first_choice cs) (chosen_false Γ s b (meaning p) (first_choice cs) i)))))

pub if_sound : (Γ : Environment) (ks : List ℕ) (l r : Tree) → SeqIf ks l r → SAME Γ l r
if_sound Γ ks l r (seq_if cs qs) = same_at Γ (seq (and_tree (select cs) qs)) (select (each_case_before cs qs)) (λ s state. cases_before Γ s cs qs)

-- ---- ALT

-- what a list of branches does once a guard is taken, as a meaning
abbrev going : Guards → Meaning
going g = record { does = λ Γ s t o. g.goes Γ s t o }

longer : (Γ : Environment) (s : Values) (w : Waiting) (t : Trace) (u : Values) (a b : Trace) → Taken Γ s w t u a → Taken Γ s w (t ++ b) u (a ++ b)
longer Γ s w t u a b at_ready = at_ready
longer Γ s w t u a b (at_event i) = at_event i

earlier : (Γ : Environment) (s : Values) (w : Waiting) (t : Trace) (u : Values) (a a1 a2 : Trace) → a ≡ a1 ++ a2 → Taken Γ s w t u a
    → (t1 : Trace) × (t ≡ t1 ++ a2) × Taken Γ s w t1 u a1
earlier Γ s w t u a a1 a2 h at_ready = (a1, h, at_ready)
earlier Γ s w t u a a1 a2 h (at_event {w = v} {e = e} {u = z} {t = b} i) = (e ∷ a1, ap (λ c. e ∷ c) h, at_event i)

going_later : (Γ : Environment) (b : Exp) (w : Waiting) (m : Meaning) (g : Guards) → Gives Γ (going g) (going (and_guard b w m g))
going_later Γ b w m g = record { gives = λ s t o d. inr d }

split_off : (Γ : Environment) (s : Values) (b : Exp) (w : Waiting) (m n : Meaning) (g : Guards) → is_true Γ b s ≡ true
    → (t : Trace) (u : Values) (a : Trace) (o : Outcome) → Taken Γ s w t u a → Followed m n Γ u a o → Followed (going (and_guard b w m g)) n Γ s t o
split_off Γ s b w m n g h t u a o k (in_first d) = in_first (inl (h, (u, a, k, d)))
split_off Γ s b w m n g h t u a o k (in_second a1 a2 s1 e d1 d2) =
    let j = earlier Γ s w t u a a1 a2 e k in in_second j.0 a2 s1 j.1 (inl (h, (u, a1, j.2, d1))) d2

goes_back : (Γ : Environment) (s : Values) (gs : Branches) (qs : Trees) (t : Trace) (o : Outcome) → (guards (each_branch_before gs qs)).goes Γ s t o
    → Followed (going (guards gs)) (in_turn qs) Γ s t o
goes_back Γ s no_branch qs t o d = absurd d
goes_back Γ s (and_branch b w p gs) qs t o d = elim d [
  | inl k ↦ split_off Γ s b w (meaning p) (in_turn qs) (guards gs) k.0 t k.1.0 k.1.1 o k.1.2 k.1.3
  | inr k ↦ (followed_gives Γ (going (guards gs)) (going (guards (and_branch b w p gs))) (in_turn qs) (in_turn qs) (going_later Γ b w (meaning p) (guards gs)) (record { gives = λ r c q i. i })).gives s t o (goes_back Γ s gs qs t o k)
]

goes_on_rest : (Γ : Environment) (s : Values) (gs : Branches) (qs : Trees) (t : Trace) (X : EventSet) → (guards gs).goes Γ s t (refusing X)
    → (guards (each_branch_before gs qs)).goes Γ s t (refusing X)
goes_on_rest Γ s no_branch qs t X d = absurd d
goes_on_rest Γ s (and_branch b w p gs) qs t X d = elim d [
  | inl k ↦ inl (k.0, (k.1.0, k.1.1, k.1.2, in_first k.1.3))
  | inr k ↦ inr (goes_on_rest Γ s gs qs t X k)
]

goes_on_end : (Γ : Environment) (s : Values) (gs : Branches) (qs : Trees) (t t2 : Trace) (s1 : Values) (o : Outcome) → (guards gs).goes Γ s t (ended s1)
    → (in_turn qs).does Γ s1 t2 o → (guards (each_branch_before gs qs)).goes Γ s (t ++ t2) o
goes_on_end Γ s no_branch qs t t2 s1 o d d2 = absurd d
goes_on_end Γ s (and_branch b w p gs) qs t t2 s1 o d d2 = elim d [
  | inl k ↦ inl (k.0, (k.1.0, k.1.1 ++ t2, longer Γ s w t k.1.0 k.1.1 t2 k.1.2, in_second k.1.1 t2 s1 refl k.1.3 d2))
  | inr k ↦ inr (goes_on_end Γ s gs qs t t2 s1 o k d2)
]

refuses_on : (Γ : Environment) (s : Values) (gs : Branches) (qs : Trees) (X : EventSet) → (guards gs).refuses Γ s X → (guards (each_branch_before gs qs)).refuses Γ s X
refuses_on Γ s no_branch qs X d = d
refuses_on Γ s (and_branch b w p gs) qs X d = (d.0, refuses_on Γ s gs qs X d.1)

refuses_off : (Γ : Environment) (s : Values) (gs : Branches) (qs : Trees) (X : EventSet) → (guards (each_branch_before gs qs)).refuses Γ s X → (guards gs).refuses Γ s X
refuses_off Γ s no_branch qs X d = d
refuses_off Γ s (and_branch b w p gs) qs X d = (d.0, refuses_off Γ s gs qs X d.1)

first_rests : (Γ : Environment) (s : Values) (gs : Branches) (qs : Trees) (t : Trace) (X : EventSet) → Alternates (guards gs) Γ s t (refusing X)
    → Alternates (guards (each_branch_before gs qs)) Γ s t (refusing X)
first_rests Γ s gs qs t X (stable d) = stable (refuses_on Γ s gs qs X d)
first_rests Γ s gs qs t X (taken d) = taken (goes_on_rest Γ s gs qs t X d)

first_ends : (Γ : Environment) (s : Values) (gs : Branches) (qs : Trees) (t t1 t2 : Trace) (s1 : Values) (o : Outcome) → t ≡ t1 ++ t2
    → Alternates (guards gs) Γ s t1 (ended s1) → (in_turn qs).does Γ s1 t2 o → Alternates (guards (each_branch_before gs qs)) Γ s t o
first_ends Γ s gs qs t t1 t2 s1 o e (taken d) d2 =
    let P : Trace → Type 0 = λ c. Alternates (guards (each_branch_before gs qs)) Γ s c o in subst P (sym e) (taken (goes_on_end Γ s gs qs t1 t2 s1 o d d2))

forth_alt : (Γ : Environment) (s : Values) (gs : Branches) (qs : Trees) (t : Trace) (o : Outcome) → Followed (alternatives (guards gs)) (in_turn qs) Γ s t o
    → Alternates (guards (each_branch_before gs qs)) Γ s t o
forth_alt Γ s gs qs t o (in_first {X = X} d) = first_rests Γ s gs qs t X d
forth_alt Γ s gs qs t o (in_second t1 t2 s1 e d1 d2) = first_ends Γ s gs qs t t1 t2 s1 o e d1 d2

back_alt : (Γ : Environment) (s : Values) (gs : Branches) (qs : Trees) (t : Trace) (o : Outcome) → Alternates (guards (each_branch_before gs qs)) Γ s t o
    → Followed (alternatives (guards gs)) (in_turn qs) Γ s t o
back_alt Γ s gs qs t o (stable {X = X} d) = in_first (stable (refuses_off Γ s gs qs X d))
back_alt Γ s gs qs t o (taken d) =
    (followed_gives Γ (going (guards gs)) (alternatives (guards gs)) (in_turn qs) (in_turn qs) (record { gives = λ r c q i. taken i }) (record { gives = λ r c q i. i })).gives s t o (goes_back Γ s gs qs t o d)

pub alt_sound : (Γ : Environment) (ks : List ℕ) (l r : Tree) → SeqAlt ks l r → SAME Γ l r
alt_sound Γ ks l r (seq_alt gs qs) = same_at Γ (seq (and_tree (alt gs) qs)) (alt (each_branch_before gs qs)) (λ s state. record { forth = forth_alt Γ s gs qs; back = back_alt Γ s gs qs })
