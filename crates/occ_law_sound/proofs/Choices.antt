-- The laws of IF.
use Rattle.occ_law.specs.occ_base.declared.names.Name.{Name}
use Rattle.occ_law.specs.Choice.{IfCopy, IfCut, IfElseStop, IfFalse, IfMerge, IfNest, IfNone, IfSwap, IfTrue, IfUnder, copies, each_case_under, if_copy, if_cut, if_else_stop, if_false as false_left_out, if_merge, if_nest, if_none, if_swap, if_true as true_alone, under_alt, under_assignment, under_seq}
use Rattle.occ_law.specs.Lists.{all_cases, conditions}
use Rattle.occ_law.specs.States.{IsEqualWhere, some_true}
use Rattle.occ_law_sound.proofs.EqualPlaces.{Equals, branches_equal, places_assigned}
use Rattle.occ_law.proofs.from_meaning.Beside.{gives_itself, same_by}
use Rattle.occ_law.proofs.from_meaning.Facts.{and_second, and_three, clash}
use Rattle.occ_law.proofs.from_meaning.Named.{and_condition, or_condition}
use Rattle.occ_law.proofs.from_meaning.AtState.{AlikeAt, alike_itself, alike_through, alike_turned, at_once_alike, chosen_alike, chosen_cases, chosen_false, chosen_true, followed_alike, same_at}
use Rattle.occ_law.specs.occ_syntax.Eval.{is_true}
use Rattle.occ_law.specs.occ_syntax.Meaning.{Meaning, assigned, at_once, chosen, first_choice, in_turn, meaning, never}
use Rattle.occ_law.specs.occ_syntax.Same.{SAME}
use Rattle.occ_law.specs.occ_syntax.Scopes.{Environment, IsState, Values, environment}
use Rattle.occ_law.specs.occ_syntax.Tree.{Cases, Exp, Tree, alt, and_case, and_tree, assign, no_case, operation, select, seq, stop, truth}
use Rattle.occ_law.specs.occ_syntax.Types.{cases_kept, is_condition, types_kept}
use Rattle.occ_law.specs.occ_syntax.declared.expr.Op.TheVariants.{And, Or}
use Rattle.occ_law.specs.occ_syntax.declared.scope.Kind.{Kind}
use Rattle.std.proofs.Common.{List, [], ap, false, refl, subst, sym, true, ℕ, ◌&&◌, ◌∙◌, ◌∷◌, ◌≡◌, ◌||◌}
use Rattle.std.proofs.lemmas.Bool.{or_from}

-- choices behind others count where the conditions of these are false
pub cases_behind : (Γ : Environment) (s : Values) (cs ds es : Cases)
    → (some_true Γ (conditions cs) s ≡ false → AlikeAt Γ s s (first_choice ds) (first_choice es))
    → AlikeAt Γ s s (first_choice (all_cases cs ds)) (first_choice (all_cases cs es))
cases_behind Γ s no_case ds es h = h refl
cases_behind Γ s (and_case b p cs) ds es h =
    chosen_alike Γ s s b b (meaning p) (meaning p) (first_choice (all_cases cs ds)) (first_choice (all_cases cs es)) refl
    (λ i. alike_itself Γ s (meaning p))
    (λ i. cases_behind Γ s cs ds es (λ j. h (or_from (is_true Γ b s) (some_true Γ (conditions cs) s) i j)))

same_behind : (Γ : Environment) (cs ds es : Cases)
    → ((s : Values) → IsState Γ s → some_true Γ (conditions cs) s ≡ false → AlikeAt Γ s s (first_choice ds) (first_choice es))
    → SAME Γ (select (all_cases cs ds)) (select (all_cases cs es))
same_behind Γ cs ds es h = same_at Γ (select (all_cases cs ds)) (select (all_cases cs es)) (λ s state. cases_behind Γ s cs ds es (h s state))

all_cases_none : (cs : Cases) → all_cases cs no_case ≡ cs
all_cases_none no_case = refl
all_cases_none (and_case b p cs) = ap (and_case b p) (all_cases_none cs)

-- where nothing stands behind on the other side
same_without : (Γ : Environment) (cs ds : Cases)
    → ((s : Values) → IsState Γ s → some_true Γ (conditions cs) s ≡ false → AlikeAt Γ s s (first_choice ds) never)
    → SAME Γ (select (all_cases cs ds)) (select cs)
same_without Γ cs ds h =
    let P : Cases → Type 0 = λ k. SAME Γ (select (all_cases cs ds)) (select k) in subst P (all_cases_none cs) (same_behind Γ cs ds no_case h)

pub none_sound : (Γ : Environment) (ks : List ℕ) (l r : Tree) → IfNone ks l r → SAME Γ l r
none_sound Γ ks l r if_none = same_by Γ (select no_case) stop (gives_itself Γ never) (gives_itself Γ never)

pub false_sound : (S : List (Name × Kind)) (ks : List ℕ) (l r : Tree) → IfFalse S ks l r → SAME (environment S) l r
false_sound S ks l r (false_left_out cs ds b p few h) =
    same_behind (environment S) cs (and_case b p ds) ds (λ s state i. chosen_false (environment S) s b (meaning p) (first_choice ds) (h s state))

pub true_sound : (S : List (Name × Kind)) (ks : List ℕ) (l r : Tree) → IfTrue S ks l r → SAME (environment S) l r
true_sound S ks l r (true_alone b p ds few h) =
    same_at (environment S) (select (and_case b p ds)) p (λ s state. chosen_true (environment S) s b (meaning p) (first_choice ds) (h s state))

pub else_stop_sound : (Γ : Environment) (ks : List ℕ) (l r : Tree) → IfElseStop ks l r → SAME Γ l r
else_stop_sound Γ ks l r (if_else_stop cs) = same_without Γ cs (and_case (truth true) stop no_case) (λ s state i. chosen_true Γ s (truth true) never never refl)

pub cut_sound : (S : List (Name × Kind)) (ks : List ℕ) (l r : Tree) → IfCut S ks l r → SAME (environment S) l r
cut_sound S ks l r (if_cut cs ds few h) =
    same_without (environment S) cs ds (λ s state i. clash (some_true (environment S) (conditions cs) s) (h s state) i)

-- ---- conditions joined

-- the choices behind others keep their types
pub behind_kept : (Γ : Environment) (cs ds : Cases) → cases_kept (all_cases cs ds) Γ ≡ true → cases_kept ds Γ ≡ true
behind_kept Γ no_case ds h = h
behind_kept Γ (and_case b p cs) ds h = behind_kept Γ cs ds (and_three (is_condition Γ b) (types_kept p Γ) (cases_kept (all_cases cs ds) Γ) h).2

-- where b is true, the choices that ask for it too are the others
nest_true : (Γ : Environment) (s : Values) → IsState Γ s → (b : Exp) → is_condition Γ b ≡ true → is_true Γ b s ≡ true → (es ds : Cases)
    → cases_kept es Γ ≡ true → AlikeAt Γ s s (first_choice es) (first_choice (all_cases (each_case_under b es) (and_case b stop ds)))
nest_true Γ s state b k h no_case ds t = alike_turned Γ s s (chosen b never (first_choice ds)) never (chosen_true Γ s b never (first_choice ds) h)
nest_true Γ s state b k h (and_case c p es) ds t =
    let j = and_three (is_condition Γ c) (types_kept p Γ) (cases_kept es Γ) t in
    chosen_alike Γ s s c (operation And b c) (meaning p) (meaning p) (first_choice es) (first_choice (all_cases (each_case_under b es) (and_case b stop ds)))
    (sym (and_condition Γ s state b c k j.0 ∙ ap (λ v. v && is_true Γ c s) h))
    (λ i. alike_itself Γ s (meaning p)) (λ i. nest_true Γ s state b k h es ds j.2)

nest_false : (Γ : Environment) (s : Values) → IsState Γ s → (b : Exp) → is_condition Γ b ≡ true → is_true Γ b s ≡ false → (es ds : Cases)
    → cases_kept es Γ ≡ true → AlikeAt Γ s s (first_choice (all_cases (each_case_under b es) (and_case b stop ds))) (first_choice ds)
nest_false Γ s state b k h no_case ds t = chosen_false Γ s b never (first_choice ds) h
nest_false Γ s state b k h (and_case c p es) ds t =
    let j = and_three (is_condition Γ c) (types_kept p Γ) (cases_kept es Γ) t in
    let rest : Meaning = first_choice (all_cases (each_case_under b es) (and_case b stop ds)) in
    alike_through Γ s s s (chosen (operation And b c) (meaning p) rest) rest (first_choice ds)
    (chosen_false Γ s (operation And b c) (meaning p) rest (and_condition Γ s state b c k j.0 ∙ ap (λ v. v && is_true Γ c s) h))
    (nest_false Γ s state b k h es ds j.2)

pub nest_sound : (Γ : Environment) (ks : List ℕ) (l r : Tree) → types_kept l Γ ≡ true → IfNest ks l r → SAME Γ l r
nest_sound Γ ks l r t (if_nest cs es ds b) =
    let k = and_three (is_condition Γ b) (cases_kept es Γ) (cases_kept ds Γ) (behind_kept Γ cs (and_case b (select es) ds) t) in
    same_behind Γ cs (and_case b (select es) ds) (all_cases (each_case_under b es) (and_case b stop ds)) (λ s state none.
    chosen_cases Γ s s b (first_choice es) (first_choice ds) (first_choice (all_cases (each_case_under b es) (and_case b stop ds)))
    (λ i. nest_true Γ s state b k.0 i es ds k.1)
    (λ i. alike_turned Γ s s (first_choice (all_cases (each_case_under b es) (and_case b stop ds))) (first_choice ds) (nest_false Γ s state b k.0 i es ds k.1)))

pub swap_sound : (S : List (Name × Kind)) (ks : List ℕ) (l r : Tree) → IfSwap S ks l r → SAME (environment S) l r
swap_sound S ks l r (if_swap cs ds b c p q few h) =
    let Γ : Environment = environment S in
    let d : Meaning = first_choice ds in
    same_behind Γ cs (and_case b p (and_case c q ds)) (and_case c q (and_case b p ds)) (λ s state none.
    chosen_cases Γ s s b (meaning p) (chosen c (meaning q) d) (chosen c (meaning q) (chosen b (meaning p) d))
    (λ i. alike_turned Γ s s (chosen c (meaning q) (chosen b (meaning p) d)) (meaning p)
    (alike_through Γ s s s (chosen c (meaning q) (chosen b (meaning p) d)) (chosen b (meaning p) d) (meaning p)
    (chosen_false Γ s c (meaning q) (chosen b (meaning p) d) (and_second (is_true Γ b s) (is_true Γ c s) (h s state) i))
    (chosen_true Γ s b (meaning p) d i)))
    (λ i. chosen_alike Γ s s c c (meaning q) (meaning q) d (chosen b (meaning p) d) refl (λ j. alike_itself Γ s (meaning q))
    (λ j. alike_turned Γ s s (chosen b (meaning p) d) d (chosen_false Γ s b (meaning p) d i))))

pub merge_sound : (Γ : Environment) (ks : List ℕ) (l r : Tree) → types_kept l Γ ≡ true → IfMerge ks l r → SAME Γ l r
merge_sound Γ ks l r t (if_merge cs ds b c p) =
    let k = and_three (is_condition Γ b) (types_kept p Γ) (cases_kept (and_case c p ds) Γ) (behind_kept Γ cs (and_case b p (and_case c p ds)) t) in
    let j = and_three (is_condition Γ c) (types_kept p Γ) (cases_kept ds Γ) k.2 in
    let d : Meaning = first_choice ds in
    same_behind Γ cs (and_case b p (and_case c p ds)) (and_case (operation Or b c) p ds) (λ s state none.
    let both : is_true Γ (operation Or b c) s ≡ (is_true Γ b s || is_true Γ c s) = or_condition Γ s state b c k.0 j.0 in
    chosen_cases Γ s s b (meaning p) (chosen c (meaning p) d) (chosen (operation Or b c) (meaning p) d)
    (λ i. alike_turned Γ s s (chosen (operation Or b c) (meaning p) d) (meaning p) (chosen_true Γ s (operation Or b c) (meaning p) d (both ∙ ap (λ v. v || is_true Γ c s) i)))
    (λ i. chosen_alike Γ s s c (operation Or b c) (meaning p) (meaning p) d d (sym (both ∙ ap (λ v. v || is_true Γ c s) i)) (λ m. alike_itself Γ s (meaning p)) (λ m. alike_itself Γ s d)))

-- ---- one process under each condition

copies_alike : (Γ : Environment) (s : Values) (p : Tree) (bs : List Exp) → some_true Γ bs s ≡ true → AlikeAt Γ s s (first_choice (copies bs p)) (meaning p)
copies_alike Γ s p [] h = absurd (cc)
copies_alike Γ s p (b ∷ bs) h =
    chosen_cases Γ s s b (meaning p) (first_choice (copies bs p)) (meaning p) (λ i. alike_itself Γ s (meaning p))
    (λ i. copies_alike Γ s p bs (sym (ap (λ v. v || some_true Γ bs s) i) ∙ h))

pub copy_sound : (S : List (Name × Kind)) (ks : List ℕ) (l r : Tree) → IfCopy S ks l r → SAME (environment S) l r
copy_sound S ks l r (if_copy p bs few h) = same_at (environment S) p (select (copies bs p)) (λ s state.
    alike_turned (environment S) s s (first_choice (copies bs p)) (meaning p) (copies_alike (environment S) s p bs (h s state)))

-- ---- expressions that are equal under a condition

where_equals : (S : List (Name × Kind)) (b : Exp) (bs : List Exp) (s : Values) → IsState (environment S) s → is_true (environment S) b s ≡ true
    → some_true (environment S) bs s ≡ false → Equals (environment S) s (IsEqualWhere S b bs)
where_equals S b bs s state h k = record { equal = λ e f i. i.equal s state h k }

under : (S : List (Name × Kind)) (cs ds : Cases) (b : Exp) (p q : Tree)
    → ((s : Values) → Equals (environment S) s (IsEqualWhere S b (conditions cs)) → AlikeAt (environment S) s s (meaning p) (meaning q))
    → SAME (environment S) (select (all_cases cs (and_case b p ds))) (select (all_cases cs (and_case b q ds)))
under S cs ds b p q h = same_behind (environment S) cs (and_case b p ds) (and_case b q ds) (λ s state none.
    chosen_alike (environment S) s s b b (meaning p) (meaning q) (first_choice ds) (first_choice ds) refl
    (λ i. h s (where_equals S b (conditions cs) s state i none)) (λ i. alike_itself (environment S) s (first_choice ds)))

pub under_sound : (S : List (Name × Kind)) (ks : List ℕ) (l r : Tree) → IfUnder S ks l r → SAME (environment S) l r
under_sound S ks l r (under_assignment cs ds b xs es fs k) = under S cs ds b (assign xs es) (assign xs fs) (λ s h.
    at_once_alike (environment S) s s (assigned xs es) (assigned xs fs) (places_assigned (environment S) s (IsEqualWhere S b (conditions cs)) h xs es fs k))
under_sound S ks l r (under_seq cs ds b xs es fs ps k) = under S cs ds b (seq (and_tree (assign xs es) ps)) (seq (and_tree (assign xs fs) ps)) (λ s h.
    followed_alike (environment S) s s (at_once (assigned xs es)) (at_once (assigned xs fs)) (in_turn ps)
    (at_once_alike (environment S) s s (assigned xs es) (assigned xs fs) (places_assigned (environment S) s (IsEqualWhere S b (conditions cs)) h xs es fs k)))
under_sound S ks l r (under_alt cs ds b gs hs k) = under S cs ds b (alt gs) (alt hs) (λ s h. branches_equal (environment S) s (IsEqualWhere S b (conditions cs)) h gs hs k)
