-- An assignment at the beginning of one part of a PAR may stand in front of the PAR.
use Rattle.occ_meaning.proofs.Beside.{done, same_by}
use Rattle.occ_meaning.proofs.Frame.{part_value}
use Rattle.occ_meaning.proofs.Free.{not_written}
use Rattle.occ_meaning.proofs.Moved.{IgnoresAll, second_past, second_past_back}
use Rattle.occ_meaning.proofs.OffValues.{part_ignores}
use Rattle.occ_syntax.specs.Meaning.{Meaning, Outcome, Together, assigned, at_once, beside, ended, followed, in_first, in_second, in_turn, meaning, refusing, together}
use Rattle.occ_syntax.specs.Names.{free, is_in}
use Rattle.occ_syntax.specs.Same.{SAME}
use Rattle.occ_syntax.specs.Scopes.{Environment, EventSet, Trace, Values}
use Rattle.occ_syntax.specs.Tree.{Exp, Tree, Trees, and_tree, assign, no_tree, par, seq}
use Rattle.occ_syntax.specs.Types.{types_kept}
use Rattle.std.proofs.Common.{List, [], ap, append-nil, false, inl, refl, subst, sym, true, ℕ, ◌++◌, ◌∙◌, ◌≡◌}

pub assign_out : (xs : List ℕ) (es : List Exp) (n : Meaning) (Γ : Environment) (s : Values) (t : Trace) (o : Outcome)
    → (followed (at_once (assigned xs es)) n).does Γ s t o → n.does Γ (assigned xs es Γ s) t o
assign_out xs es n Γ s t o (in_first d) = refusing_ends d.1
  where
    refusing_ends : {A : Type 0} {r : Values} {X : EventSet} → refusing X ≡ ended r → A
    refusing_ends h = absurd (cc)
assign_out xs es n Γ s t o (in_second t1 t2 s1 e d1 d2) =
    let at_end_of : s1 ≡ assigned xs es Γ s = (let i : ended s1 ≡ ended (assigned xs es Γ s) = d1.1 in cc) in
    let whole : t2 ≡ t = sym (e ∙ ap (λ r. r ++ t2) d1.0) in
    let P : Values → Type 0 = λ r. n.does Γ r t o in
    let Q : Trace → Type 0 = λ r. n.does Γ s1 r o in
    subst P at_end_of (subst Q whole d2)

pub assign_in : (xs : List ℕ) (es : List Exp) (n : Meaning) (Γ : Environment) (s : Values) (t : Trace) (o : Outcome)
    → n.does Γ (assigned xs es Γ s) t o → (followed (at_once (assigned xs es)) n).does Γ s t o
assign_in xs es n Γ s t o d = in_second [] t (assigned xs es Γ s) refl (refl, refl) d

pub then_skip_out : (m : Meaning) (Γ : Environment) (s : Values) (t : Trace) (o : Outcome) → (followed m done).does Γ s t o → m.does Γ s t o
then_skip_out m Γ s t o (in_first d) = d
then_skip_out m Γ s t o (in_second t1 t2 s1 e d1 d2) =
    let whole : t1 ≡ t = sym (append-nil t1) ∙ (ap (λ r. t1 ++ r) (sym d2.0) ∙ sym e) in
    let P : Outcome → Type 0 = λ r. m.does Γ s t r in
    let Q : Trace → Type 0 = λ r. m.does Γ s r (ended s1) in
    subst P (sym d2.1) (subst Q whole d1)

pub then_skip_in : (m : Meaning) (Γ : Environment) (s : Values) (t : Trace) (o : Outcome) → m.does Γ s t o → (followed m done).does Γ s t o
then_skip_in m Γ s t (ended r) d = in_second t [] r (sym (append-nil t)) d (refl, refl)
then_skip_in m Γ s t (refusing X) d = in_first d

assign_leaves : (xs : List ℕ) (es : List Exp) (m n : Meaning) → IgnoresAll n xs → (Γ : Environment) (s : Values) (t : Trace) (o : Outcome)
    → Together (followed (at_once (assigned xs es)) m) n Γ s t o
    → (followed (at_once (assigned xs es)) (followed (beside m n) done)).does Γ s t o
assign_leaves xs es m n h Γ s t o (together t1 t2 o1 o2 w c d1 d2) =
    let k = second_past n Γ s t2 xs es h o1 o2 o c d2 in
    assign_in xs es (followed (beside m n) done) Γ s t o
    (then_skip_in (beside m n) Γ (assigned xs es Γ s) t o (together t1 t2 o1 k.other w k.combines (assign_out xs es m Γ s t1 o1 d1) k.does))

assign_enters_at : (xs : List ℕ) (es : List Exp) (m n : Meaning) → IgnoresAll n xs
    → (Γ : Environment) (s : Values) (t : Trace) (o : Outcome) → Together m n Γ (assigned xs es Γ s) t o
    → Together (followed (at_once (assigned xs es)) m) n Γ s t o
assign_enters_at xs es m n h Γ s t o (together t1 t2 o1 o2 w c d1 d2) =
    let k = second_past_back n Γ s t2 xs es h o1 o2 o c d2 in
    together t1 t2 o1 k.other w k.combines (assign_in xs es m Γ s t1 o1 d1) k.does

ignores_all : (q : Tree) (Θ : Environment) → types_kept q Θ ≡ true → (xs : List ℕ) → ((x : ℕ) → is_in xs x ≡ true → free q x ≡ false)
    → IgnoresAll (meaning q) xs
ignores_all q Θ t xs h x k = (part_ignores q Θ t x (inl (h x k)), part_value q Θ t x (not_written q x (h x k)))

pub par_assign : (Γ : Environment) (xs : List ℕ) (es : List Exp) (ps : Trees) (q : Tree) → types_kept q Γ ≡ true
    → ((x : ℕ) → is_in xs x ≡ true → free q x ≡ false)
    → SAME Γ (par (and_tree (seq (and_tree (assign xs es) ps)) (and_tree q no_tree))) (seq (and_tree (assign xs es) (and_tree (par (and_tree (seq ps) (and_tree q no_tree))) no_tree)))
par_assign Γ xs es ps q t h =
    let apart = ignores_all q Γ t xs h in
    same_by Γ (par (and_tree (seq (and_tree (assign xs es) ps)) (and_tree q no_tree))) (seq (and_tree (assign xs es) (and_tree (par (and_tree (seq ps) (and_tree q no_tree))) no_tree)))
    (record { gives = λ s r o d. assign_leaves xs es (in_turn ps) (meaning q) apart Γ s r o d })
    (record {
      gives = λ s r o d. assign_enters_at xs es (in_turn ps) (meaning q) apart Γ s r o
          (then_skip_out (beside (in_turn ps) (meaning q)) Γ (assigned xs es Γ s) r o (assign_out xs es (followed (beside (in_turn ps) (meaning q)) done) Γ s r o d));
    })
