-- SEQ of meanings and of lists of parts: in other groups, with SKIP among them.
use Rattle.occ_meaning.proofs.AssignedFirst.{assign_out}
use Rattle.occ_meaning.proofs.Beside.{Gives, done, gives_itself, gives_through}
use Rattle.occ_meaning.specs.Parallel.{all_of}
use Rattle.occ_syntax.specs.Meaning.{Followed, Meaning, Outcome, assigned, at_once, ended, followed, in_first, in_second, in_turn, meaning, refusing}
use Rattle.occ_syntax.specs.Scopes.{Environment, EventSet, Trace, Values}
use Rattle.occ_syntax.specs.Tree.{Trees, and_tree, no_tree}
use Rattle.std.proofs.Common.{[], ap, append_assoc, refl, sym, ◌++◌, ◌∙◌, ◌≡◌}

followed_gives_at : (Γ : Environment) (m m' n n' : Meaning) → Gives Γ m m' → Gives Γ n n' → (s : Values) (t : Trace) (o : Outcome)
    → Followed m n Γ s t o → Followed m' n' Γ s t o
followed_gives_at Γ m m' n n' hm hn s t o (in_first {X = X} d) = in_first (hm.gives s t (refusing X) d)
followed_gives_at Γ m m' n n' hm hn s t o (in_second t1 t2 s1 e d1 d2) = in_second t1 t2 s1 e (hm.gives s t1 (ended s1) d1) (hn.gives s1 t2 o d2)

pub followed_gives : (Γ : Environment) (m m' n n' : Meaning) → Gives Γ m m' → Gives Γ n n' → Gives Γ (followed m n) (followed m' n')
followed_gives Γ m m' n n' hm hn = record { gives = followed_gives_at Γ m m' n n' hm hn }

-- ---- in other groups

grouped_end : (m n l : Meaning) (Γ : Environment) (s s1 : Values) (t t1 t2 : Trace) (o : Outcome) → t ≡ t1 ++ t2
    → Followed m n Γ s t1 (ended s1) → l.does Γ s1 t2 o → Followed m (followed n l) Γ s t o
grouped_end m n l Γ s s1 t t1 t2 o e (in_second u1 u2 s2 i d1 d2) d3 =
    in_second u1 (u2 ++ t2) s2 (e ∙ (ap (λ r. r ++ t2) i ∙ append_assoc u1 u2 t2)) d1 (in_second u2 t2 s1 refl d2 d3)

grouped_rest : (m n l : Meaning) (Γ : Environment) (s : Values) (t : Trace) (X : EventSet) → Followed m n Γ s t (refusing X)
    → Followed m (followed n l) Γ s t (refusing X)
grouped_rest m n l Γ s t X (in_first d) = in_first d
grouped_rest m n l Γ s t X (in_second t1 t2 s1 e d1 d2) = in_second t1 t2 s1 e d1 (in_first d2)

followed_grouped_at : (m n l : Meaning) (Γ : Environment) (s : Values) (t : Trace) (o : Outcome) → Followed (followed m n) l Γ s t o
    → Followed m (followed n l) Γ s t o
followed_grouped_at m n l Γ s t o (in_first {X = X} d) = grouped_rest m n l Γ s t X d
followed_grouped_at m n l Γ s t o (in_second t1 t2 s1 e d1 d2) = grouped_end m n l Γ s s1 t t1 t2 o e d1 d2

pub followed_grouped : (Γ : Environment) (m n l : Meaning) → Gives Γ (followed (followed m n) l) (followed m (followed n l))
followed_grouped Γ m n l = record { gives = followed_grouped_at m n l Γ }

ungrouped_second : (m n l : Meaning) (Γ : Environment) (s s1 : Values) (t t1 t2 : Trace) (o : Outcome) → t ≡ t1 ++ t2
    → m.does Γ s t1 (ended s1) → Followed n l Γ s1 t2 o → Followed (followed m n) l Γ s t o
ungrouped_second m n l Γ s s1 t t1 t2 o e d1 (in_first d2) = in_first (in_second t1 t2 s1 e d1 d2)
ungrouped_second m n l Γ s s1 t t1 t2 o e d1 (in_second u1 u2 s2 i d2 d3) =
    in_second (t1 ++ u1) u2 s2 (e ∙ (ap (λ r. t1 ++ r) i ∙ sym (append_assoc t1 u1 u2))) (in_second t1 u1 s1 refl d1 d2) d3

followed_ungrouped_at : (m n l : Meaning) (Γ : Environment) (s : Values) (t : Trace) (o : Outcome) → Followed m (followed n l) Γ s t o
    → Followed (followed m n) l Γ s t o
followed_ungrouped_at m n l Γ s t o (in_first d) = in_first (in_first d)
followed_ungrouped_at m n l Γ s t o (in_second t1 t2 s1 e d1 d2) = ungrouped_second m n l Γ s s1 t t1 t2 o e d1 d2

pub followed_ungrouped : (Γ : Environment) (m n l : Meaning) → Gives Γ (followed m (followed n l)) (followed (followed m n) l)
followed_ungrouped Γ m n l = record { gives = followed_ungrouped_at m n l Γ }

-- ---- SKIP

skip_first_at : (m : Meaning) (Γ : Environment) (s : Values) (t : Trace) (o : Outcome) → Followed done m Γ s t o → m.does Γ s t o
skip_first_at m Γ s t o d = assign_out [] [] m Γ s t o (as_assign d)
  where
    as_assign : Followed done m Γ s t o → Followed (at_once (assigned [] [])) m Γ s t o
    as_assign k = k

pub skip_followed : (Γ : Environment) (m : Meaning) → Gives Γ (followed done m) m
skip_followed Γ m = record { gives = skip_first_at m Γ }

pub skip_goes_first : (Γ : Environment) (m : Meaning) → Gives Γ m (followed done m)
skip_goes_first Γ m = record { gives = λ s t o d. in_second [] t s refl (refl, refl) d }

-- ---- lists of parts

pub all_of_followed : (Γ : Environment) (ps qs : Trees) → Gives Γ (in_turn (all_of ps qs)) (followed (in_turn ps) (in_turn qs))
all_of_followed Γ no_tree qs = skip_goes_first Γ (in_turn qs)
all_of_followed Γ (and_tree p ps) qs =
    gives_through Γ (followed (meaning p) (in_turn (all_of ps qs))) (followed (meaning p) (followed (in_turn ps) (in_turn qs))) (followed (followed (meaning p) (in_turn ps)) (in_turn qs))
    (followed_gives Γ (meaning p) (meaning p) (in_turn (all_of ps qs)) (followed (in_turn ps) (in_turn qs)) (gives_itself Γ (meaning p)) (all_of_followed Γ ps qs))
    (followed_ungrouped Γ (meaning p) (in_turn ps) (in_turn qs))

pub followed_all_of : (Γ : Environment) (ps qs : Trees) → Gives Γ (followed (in_turn ps) (in_turn qs)) (in_turn (all_of ps qs))
followed_all_of Γ no_tree qs = skip_followed Γ (in_turn qs)
followed_all_of Γ (and_tree p ps) qs =
    gives_through Γ (followed (followed (meaning p) (in_turn ps)) (in_turn qs)) (followed (meaning p) (followed (in_turn ps) (in_turn qs))) (followed (meaning p) (in_turn (all_of ps qs)))
    (followed_grouped Γ (meaning p) (in_turn ps) (in_turn qs))
    (followed_gives Γ (meaning p) (meaning p) (followed (in_turn ps) (in_turn qs)) (in_turn (all_of ps qs)) (gives_itself Γ (meaning p)) (followed_all_of Γ ps qs))
