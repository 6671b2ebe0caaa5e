-- The laws of PAR but for two ALTs side by side.
use Rattle.occ_law.specs.occ_base.declared.names.Name.{Name}
use Rattle.occ_law.specs.Lists.{conditions}
use Rattle.occ_law.specs.Parallel.{ParAssign, ParFlat, ParIf, ParNone, ParOne, ParOrder, ParSkip, ParStop, each_case_beside, par_assign as assign_leaves, par_flat as flat, par_if, par_none, par_one, par_order, par_skip as skip_left_out, par_stop as stop_beside}
use Rattle.occ_law.specs.States.{some_true}
use Rattle.occ_law.proofs.from_meaning.AssignedFirst.{par_assign}
use Rattle.occ_law.proofs.from_meaning.Beside.{done, gives_itself, same_by}
use Rattle.occ_law.proofs.from_meaning.Parts.{each_written_apart, par_flat, par_reordered, par_skip, par_stop}
use Rattle.occ_law.specs.occ_meaning.Parallel.{one, two}
use Rattle.occ_law.proofs.from_meaning.AtState.{AlikeAt, alike_through, alike_turned, chosen_cases, chosen_false, chosen_true, same_at}
use Rattle.occ_law.specs.occ_syntax.Meaning.{Meaning, Outcome, Together, beside, chosen, first_choice, meaning, together}
use Rattle.occ_law.specs.occ_syntax.Names.{free, is_in, written_in_some}
use Rattle.occ_law.specs.occ_syntax.Same.{SAME}
use Rattle.occ_law.specs.occ_syntax.Scopes.{Environment, Trace, Values, environment}
use Rattle.occ_law.specs.occ_syntax.Tree.{Cases, Tree, and_case, and_tree, assign, no_case, no_tree, par, select, seq, skip}
use Rattle.occ_law.specs.occ_syntax.Types.{types_kept}
use Rattle.occ_law.specs.occ_syntax.Usage.{IsSeparate, Keeps}
use Rattle.occ_law.specs.occ_syntax.declared.scope.Kind.{Kind}
use Rattle.std.proofs.Common.{List, ap, false, sym, true, ℕ, ◌&&◌, ◌∙◌, ◌≡◌, ◌||◌}
use Rattle.std.proofs.lemmas.Bool.{and_parts, or_left, or_parts}

pub none_sound : (Γ : Environment) (ks : List ℕ) (l r : Tree) → ParNone ks l r → SAME Γ l r
none_sound Γ ks l r par_none = same_by Γ (par no_tree) skip (gives_itself Γ done) (gives_itself Γ done)

pub one_sound : (Γ : Environment) (ks : List ℕ) (l r : Tree) → ParOne ks l r → SAME Γ l r
one_sound Γ ks l r (par_one p) = same_by Γ (par (one p)) p (gives_itself Γ (meaning p)) (gives_itself Γ (meaning p))

pub flat_sound : (Γ : Environment) (ks : List ℕ) (l r : Tree) → ParFlat ks l r → SAME Γ l r
flat_sound Γ ks l r (flat ps qs rs) = par_flat Γ ps qs rs

pub order_sound : (Γ : Environment) (ks : List ℕ) (l r : Tree) → Keeps Γ l → ParOrder ks l r → SAME Γ l r
order_sound Γ ks l r k (par_order ps qs h) = par_reordered Γ ps qs h k.types (each_written_apart ps k.usage.1)

pub skip_sound : (Γ : Environment) (ks : List ℕ) (l r : Tree) → ParSkip ks l r → SAME Γ l r
skip_sound Γ ks l r (skip_left_out ps qs) = par_skip Γ ps qs

pub stop_sound : (Γ : Environment) (ks : List ℕ) (l r : Tree) → ParStop ks l r → SAME Γ l r
stop_sound Γ ks l r (stop_beside p) = par_stop Γ p

-- of two parts of a PAR each keeps its types, and they are separate
pub two_kept : (Γ : Environment) (p q : Tree) → Keeps Γ (par (two p q)) → (types_kept p Γ ≡ true) × (types_kept q Γ ≡ true) × IsSeparate p (par (one q))
two_kept Γ p q k =
    let j = and_parts (types_kept p Γ) (types_kept q Γ && true) k.types in
    (j.0, (and_parts (types_kept q Γ) true j.1).0, k.usage.1.0)

pub assign_sound : (Γ : Environment) (ks : List ℕ) (l r : Tree) → Keeps Γ l → ParAssign ks l r → SAME Γ l r
assign_sound Γ ks l r k (assign_leaves xs es ps q) =
    let j = two_kept Γ (seq (and_tree (assign xs es) ps)) q k in
    par_assign Γ xs es ps q j.1
    (λ x h. (or_parts (free q x) false (j.2.first_writes x (or_left (is_in xs x) (written_in_some ps x) h))).0)

-- ---- IF

together_forth : (Γ : Environment) (s : Values) (m m' n : Meaning) → ((t : Trace) (o : Outcome) → m.does Γ s t o → m'.does Γ s t o)
    → (t : Trace) (o : Outcome) → Together m n Γ s t o → Together m' n Γ s t o
together_forth Γ s m m' n h t o (together t1 t2 o1 o2 w c d1 d2) = together t1 t2 o1 o2 w c (h t1 o1 d1) d2

beside_alike : (Γ : Environment) (s : Values) (m m' n : Meaning) → AlikeAt Γ s s m m' → AlikeAt Γ s s (beside m n) (beside m' n)
beside_alike Γ s m m' n h = record { forth = together_forth Γ s m m' n h.forth; back = together_forth Γ s m' m n h.back }

cases_beside : (Γ : Environment) (s : Values) (q : Tree) (cs : Cases) → some_true Γ (conditions cs) s ≡ true
    → AlikeAt Γ s s (first_choice (each_case_beside cs q)) (beside (first_choice cs) (meaning q))
cases_beside Γ s q no_case h = absurd (cc)
cases_beside Γ s q (and_case b p cs) h =
    let m : Meaning = meaning p in
    let n : Meaning = first_choice cs in
    let whole : Meaning = beside (chosen b m n) (meaning q) in
    chosen_cases Γ s s b (beside m (meaning q)) (first_choice (each_case_beside cs q)) whole
    (λ i. beside_alike Γ s m (chosen b m n) (meaning q) (alike_turned Γ s s (chosen b m n) m (chosen_true Γ s b m n i)))
    (λ i. alike_through Γ s s s (first_choice (each_case_beside cs q)) (beside n (meaning q)) whole
    (cases_beside Γ s q cs (sym (ap (λ v. v || some_true Γ (conditions cs) s) i) ∙ h))
    (beside_alike Γ s n (chosen b m n) (meaning q) (alike_turned Γ s s (chosen b m n) n (chosen_false Γ s b m n i))))

pub if_sound : (S : List (Name × Kind)) (ks : List ℕ) (l r : Tree) → ParIf S ks l r → SAME (environment S) l r
if_sound S ks l r (par_if cs q few h) = same_at (environment S) (par (two (select cs) q)) (select (each_case_beside cs q)) (λ s state.
    alike_turned (environment S) s s (first_choice (each_case_beside cs q)) (beside (first_choice cs) (meaning q)) (cases_beside (environment S) s q cs (h s state)))
