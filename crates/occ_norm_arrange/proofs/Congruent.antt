-- What is arranged within a process makes the whole arranged.
use Rattle.std.proofs.Common.{List, None, [], ap, arith, inl, inr, refl, subst, sym, true, ℕ, ◌&&◌, ◌+◌, ◌++◌, ◌<◌, ◌∙◌, ◌∷◌, ◌≡◌, ◌≤◌, get_or, length, take}
use Rattle.std.proofs.lemmas.Bool.{and_from, and_parts}
use Rattle.std.proofs.lemmas.List.{take_all, take_more}
use Rattle.occ_syntax.specs.occ_base.declared.names.Name.{Name}
use Rattle.occ_meaning.proofs.Beside.{Gives, beside_gives, gives_through}
use Rattle.occ_meaning.proofs.Declared.{channel_gives, variable_gives}
use Rattle.occ_meaning.proofs.Facts.{and_four, and_three, both}
use Rattle.occ_meaning.proofs.Parts.{beside_whole, whole_beside}
use Rattle.occ_meaning.proofs.Sequence.{followed_gives}
use Rattle.occ_syntax.proofs.Widest.{most_bits-declaring}
use Rattle.occ_syntax.specs.Counts.{bits_of_kind, most_bits_of_branches}
use Rattle.occ_syntax.specs.Declarations.{declaring, declaring_all}
use Rattle.occ_syntax.specs.Eval.{is_true}
use Rattle.occ_syntax.specs.Meaning.{Alternates, Guards, Meaning, Outcome, and_guard, at_the_same_time, beside, chosen, first_choice, guards, in_turn, meaning, stable, taken}
use Rattle.occ_syntax.specs.Scopes.{Environment, EventSet, Trace, Values, with_name}
use Rattle.occ_syntax.specs.Tree.{Cases, Exp, Tree, Trees, Waiting, alt, and_case, and_tree, no_case, no_tree, par, select, seq}
use Rattle.occ_syntax.specs.Types.{all_types_kept, branches_kept, can_declare, cases_kept, is_condition, types_kept, waiting_kept}
use Rattle.occ_syntax.specs.View.{branches, cases, exp, tree, trees, waiting}
use Rattle.occ_syntax.specs.declared.expr.Expr.{Expr}
use Rattle.occ_syntax.specs.declared.expr.Guard.{Guard}
use Rattle.occ_syntax.specs.declared.proc.Proc.{Proc}
use Rattle.occ_syntax.specs.declared.scope.Kind.{Kind}
use Rattle.occ_syntax.specs.declared.scope.Kind.TheVariants.{Chan, Var}
use Rattle.occ_norm_arrange.specs.FlatArranged.{IsBranch, IsChoice, IsPart, Pairwise, and_item, no_items}
use Rattle.occ_norm_arrange.proofs.Itself.{arranged_as, arranged_itself}
use Rattle.occ_norm_arrange.specs.Arranged.{IsArranged}

-- ---- within declarations

one_type : (x : ℕ) (k : Kind) (p q : Tree) → ((Γ : Environment) → types_kept p Γ ≡ true → types_kept q Γ ≡ true)
    → (Γ : Environment) → types_kept (declaring x k p) Γ ≡ true → types_kept (declaring x k q) Γ ≡ true
one_type x (Var w) p q h Γ t =
    let j = and_parts (can_declare Γ x w) (types_kept p (with_name Γ x (Var w))) t in
    and_from (can_declare Γ x w) (types_kept q (with_name Γ x (Var w))) j.0 (h (with_name Γ x (Var w)) j.1)
one_type x (Chan w mark) p q h Γ t =
    let j = and_parts (can_declare Γ x w) (types_kept p (with_name Γ x (Chan w None))) t in
    and_from (can_declare Γ x w) (types_kept q (with_name Γ x (Chan w None))) j.0 (h (with_name Γ x (Chan w None)) j.1)

one_gives : (x : ℕ) (k : Kind) (p q r : Tree) → ((Γ : Environment) → types_kept r Γ ≡ true → Gives Γ (meaning p) (meaning q))
    → (Γ : Environment) → types_kept (declaring x k r) Γ ≡ true → Gives Γ (meaning (declaring x k p)) (meaning (declaring x k q))
one_gives x (Var w) p q r h Γ t =
    variable_gives Γ x w (meaning p) (meaning q) (h (with_name Γ x (Var w)) (and_parts (can_declare Γ x w) (types_kept r (with_name Γ x (Var w))) t).1)
one_gives x (Chan w mark) p q r h Γ t =
    channel_gives Γ x w (meaning p) (meaning q) (h (with_name Γ x (Chan w None)) (and_parts (can_declare Γ x w) (types_kept r (with_name Γ x (Chan w None))) t).1)

arranged_one : (x : ℕ) (k : Kind) (p q : Tree) → IsArranged p q → IsArranged (declaring x k p) (declaring x k q)
arranged_one x k p q a = record {
  types = one_type x k p q a.types;
  forth = one_gives x k p q p a.forth;
  back = one_gives x k q p p a.back;
  bits = λ n.
      let h = a.bits (n + bits_of_kind k) in
      let e = most_bits-declaring x k q n in
      let f = most_bits-declaring x k p n in omega (arith, h, e, f);
}

pub arranged_all : (ds : List (Name × Kind)) (p q : Tree) → IsArranged p q → IsArranged (declaring_all ds p) (declaring_all ds q)
arranged_all [] p q a = a
arranged_all (d ∷ ds) p q a = arranged_one d.0.0 d.1 (declaring_all ds p) (declaring_all ds q) (arranged_all ds p q a)

pub arranged_within : (ds : List (Name × Kind)) (p q p' q' : Tree) → p' ≡ declaring_all ds p → q' ≡ declaring_all ds q → IsArranged p q → IsArranged p' q'
arranged_within ds p q p' q' e f a = arranged_as (declaring_all ds p) (declaring_all ds q) p' q' e f (arranged_all ds p q a)

-- ---- SEQ

seq_empty : IsArranged (seq no_tree) (seq no_tree)
seq_empty = arranged_itself (seq no_tree)

seq_more : (p q : Tree) (ps qs : Trees) → IsArranged p q → IsArranged (seq ps) (seq qs) → IsArranged (seq (and_tree p ps)) (seq (and_tree q qs))
seq_more p q ps qs a b = record {
  types = λ Γ h. let j = and_parts (types_kept p Γ) (all_types_kept ps Γ) h in and_from (types_kept q Γ) (all_types_kept qs Γ) (a.types Γ j.0) (b.types Γ j.1);
  forth = λ Γ h. let j = and_parts (types_kept p Γ) (all_types_kept ps Γ) h in followed_gives Γ (meaning p) (meaning q) (in_turn ps) (in_turn qs) (a.forth Γ j.0) (b.forth Γ j.1);
  back = λ Γ h. let j = and_parts (types_kept p Γ) (all_types_kept ps Γ) h in followed_gives Γ (meaning q) (meaning p) (in_turn qs) (in_turn ps) (a.back Γ j.0) (b.back Γ j.1);
  bits = λ n. let h = a.bits n in let k = b.bits n in omega (arith, h, k);
}

pub arranged_seq : (xs ys : List Proc) → Pairwise IsPart xs ys → IsArranged (seq (trees xs)) (seq (trees ys))
arranged_seq xs ys no_items = seq_empty
arranged_seq xs ys (and_item {x} {y} {xs = us} {ys = vs} a rest) = seq_more (tree x) (tree y) (trees us) (trees vs) a (arranged_seq us vs rest)

-- ---- PAR

whole_gives : (Γ : Environment) (p q : Tree) (ps qs : Trees) → Gives Γ (meaning p) (meaning q) → Gives Γ (at_the_same_time ps) (at_the_same_time qs)
    → Gives Γ (at_the_same_time (and_tree p ps)) (at_the_same_time (and_tree q qs))
whole_gives Γ p q ps qs h k =
    gives_through Γ (at_the_same_time (and_tree p ps)) (beside (meaning p) (at_the_same_time ps)) (at_the_same_time (and_tree q qs)) (whole_beside Γ p ps)
    (gives_through Γ (beside (meaning p) (at_the_same_time ps)) (beside (meaning q) (at_the_same_time qs)) (at_the_same_time (and_tree q qs))
    (beside_gives Γ (meaning p) (meaning q) (at_the_same_time ps) (at_the_same_time qs) h k) (beside_whole Γ q qs))

par_more : (p q : Tree) (ps qs : Trees) → IsArranged p q → IsArranged (par ps) (par qs) → IsArranged (par (and_tree p ps)) (par (and_tree q qs))
par_more p q ps qs a b = record {
  types = λ Γ h. let j = and_parts (types_kept p Γ) (all_types_kept ps Γ) h in and_from (types_kept q Γ) (all_types_kept qs Γ) (a.types Γ j.0) (b.types Γ j.1);
  forth = λ Γ h. let j = and_parts (types_kept p Γ) (all_types_kept ps Γ) h in whole_gives Γ p q ps qs (a.forth Γ j.0) (b.forth Γ j.1);
  back = λ Γ h. let j = and_parts (types_kept p Γ) (all_types_kept ps Γ) h in whole_gives Γ q p qs ps (a.back Γ j.0) (b.back Γ j.1);
  bits = λ n. let h = a.bits n in let k = b.bits n in omega (arith, h, k);
}

pub arranged_par : (xs ys : List Proc) → Pairwise IsPart xs ys → IsArranged (par (trees xs)) (par (trees ys))
arranged_par xs ys no_items = arranged_itself (par no_tree)
arranged_par xs ys (and_item {x} {y} {xs = us} {ys = vs} a rest) = par_more (tree x) (tree y) (trees us) (trees vs) a (arranged_par us vs rest)

-- ---- IF

choice_gives : (Γ : Environment) (e : Exp) (m m' n n' : Meaning) → Gives Γ m m' → Gives Γ n n' → Gives Γ (chosen e m n) (chosen e m' n')
choice_gives Γ e m m' n n' hm hn = record { gives = λ s t o d. both (is_true Γ e s) (λ h. hm.gives s t o h) (λ h. hn.gives s t o h) d }

choice_more : (e : Exp) (p q : Tree) (cs ds : Cases) → IsArranged p q → IsArranged (select cs) (select ds) → IsArranged (select (and_case e p cs)) (select (and_case e q ds))
choice_more e p q cs ds a b = record {
  types = λ Γ h.
      let j = and_three (is_condition Γ e) (types_kept p Γ) (cases_kept cs Γ) h in
      and_from (is_condition Γ e && types_kept q Γ) (cases_kept ds Γ) (and_from (is_condition Γ e) (types_kept q Γ) j.0 (a.types Γ j.1)) (b.types Γ j.2);
  forth = λ Γ h.
      let j = and_three (is_condition Γ e) (types_kept p Γ) (cases_kept cs Γ) h in
      choice_gives Γ e (meaning p) (meaning q) (first_choice cs) (first_choice ds) (a.forth Γ j.1) (b.forth Γ j.2);
  back = λ Γ h.
      let j = and_three (is_condition Γ e) (types_kept p Γ) (cases_kept cs Γ) h in
      choice_gives Γ e (meaning q) (meaning p) (first_choice ds) (first_choice cs) (a.back Γ j.1) (b.back Γ j.2);
  bits = λ n. let h = a.bits n in let k = b.bits n in omega (arith, h, k);
}

pub arranged_if : (xs ys : List (Expr × Proc)) → Pairwise IsChoice xs ys → IsArranged (select (cases xs)) (select (cases ys))
arranged_if xs ys no_items = arranged_itself (select no_case)
arranged_if xs ys (and_item {x} {y} {xs = us} {ys = vs} a rest) =
    subst (λ e. IsArranged (select (and_case (exp x.0) (tree x.1) (cases us))) (select (and_case e (tree y.1) (cases vs)))) (sym a.0)
    (choice_more (exp x.0) (tree x.1) (tree y.1) (cases us) (cases vs) a.1 (arranged_if us vs rest))

-- ---- ALT

record GuardsGive (Γ : Environment) (g h : Guards) : Type 0 where
  first : (s : Values) (X : EventSet) → g.refuses Γ s X → h.refuses Γ s X
  later : (s : Values) (t : Trace) (o : Outcome) → g.goes Γ s t o → h.goes Γ s t o

guard_gives : (Γ : Environment) (e : Exp) (w : Waiting) (m m' : Meaning) (g h : Guards) → Gives Γ m m' → GuardsGive Γ g h → GuardsGive Γ (and_guard e w m g) (and_guard e w m' h)
guard_gives Γ e w m m' g h hm hg = record {
  first = λ s X d. (d.0, hg.first s X d.1);
  later = λ s t o d. elim d [
    | inl k ↦ inl (k.0, (k.1.0, k.1.1, k.1.2, hm.gives k.1.0 k.1.1 o k.1.3))
    | inr k ↦ inr (hg.later s t o k)
  ];
}

guards_forth : (Γ : Environment) (xs ys : List (Guard × Proc)) → branches_kept (branches xs) Γ ≡ true → Pairwise IsBranch xs ys → GuardsGive Γ (guards (branches xs)) (guards (branches ys))
guards_forth Γ xs ys h no_items = record { first = λ s X d. d; later = λ s t o d. d }
guards_forth Γ xs ys h (and_item {x} {y} {xs = us} {ys = vs} a rest) =
    let e = exp x.0.condition in
    let w = waiting x.0.wait in
    let j = and_four (is_condition Γ e) (waiting_kept Γ w) (types_kept (tree x.1) Γ) (branches_kept (branches us) Γ) h in
    subst (λ f. GuardsGive Γ (guards (branches (x ∷ us))) (and_guard f (waiting y.0.wait) (meaning (tree y.1)) (guards (branches vs)))) (sym a.0)
    (subst (λ v. GuardsGive Γ (guards (branches (x ∷ us))) (and_guard e v (meaning (tree y.1)) (guards (branches vs)))) (sym a.1)
    (guard_gives Γ e w (meaning (tree x.1)) (meaning (tree y.1)) (guards (branches us)) (guards (branches vs)) (a.2.forth Γ j.2) (guards_forth Γ us vs j.3 rest)))

guards_back : (Γ : Environment) (xs ys : List (Guard × Proc)) → branches_kept (branches xs) Γ ≡ true → Pairwise IsBranch xs ys → GuardsGive Γ (guards (branches ys)) (guards (branches xs))
guards_back Γ xs ys h no_items = record { first = λ s X d. d; later = λ s t o d. d }
guards_back Γ xs ys h (and_item {x} {y} {xs = us} {ys = vs} a rest) =
    let e = exp x.0.condition in
    let w = waiting x.0.wait in
    let j = and_four (is_condition Γ e) (waiting_kept Γ w) (types_kept (tree x.1) Γ) (branches_kept (branches us) Γ) h in
    subst (λ f. GuardsGive Γ (and_guard f (waiting y.0.wait) (meaning (tree y.1)) (guards (branches vs))) (guards (branches (x ∷ us)))) (sym a.0)
    (subst (λ v. GuardsGive Γ (and_guard e v (meaning (tree y.1)) (guards (branches vs))) (guards (branches (x ∷ us)))) (sym a.1)
    (guard_gives Γ e w (meaning (tree y.1)) (meaning (tree x.1)) (guards (branches vs)) (guards (branches us)) (a.2.back Γ j.2) (guards_back Γ us vs j.3 rest)))

alternates_give : (Γ : Environment) (g h : Guards) → GuardsGive Γ g h → (s : Values) (t : Trace) (o : Outcome) → Alternates g Γ s t o → Alternates h Γ s t o
alternates_give Γ g h k s t o (stable {X = X} d) = stable (k.first s X d)
alternates_give Γ g h k s t o (taken d) = taken (k.later s t o d)

branches_types : (Γ : Environment) (xs ys : List (Guard × Proc)) → Pairwise IsBranch xs ys → branches_kept (branches xs) Γ ≡ true → branches_kept (branches ys) Γ ≡ true
branches_types Γ xs ys no_items h = refl
branches_types Γ xs ys (and_item {x} {y} {xs = us} {ys = vs} a rest) h =
    let e = exp x.0.condition in
    let w = waiting x.0.wait in
    let j = and_four (is_condition Γ e) (waiting_kept Γ w) (types_kept (tree x.1) Γ) (branches_kept (branches us) Γ) h in
    let f = ap (is_condition Γ) a.0 ∙ j.0 in
    let g = ap (waiting_kept Γ) a.1 ∙ j.1 in
    and_from (is_condition Γ (exp y.0.condition) && waiting_kept Γ (waiting y.0.wait) && types_kept (tree y.1) Γ) (branches_kept (branches vs) Γ)
    (and_from (is_condition Γ (exp y.0.condition) && waiting_kept Γ (waiting y.0.wait)) (types_kept (tree y.1) Γ)
    (and_from (is_condition Γ (exp y.0.condition)) (waiting_kept Γ (waiting y.0.wait)) f g) (a.2.types Γ j.2)) (branches_types Γ us vs rest j.3)

branches_bits : (xs ys : List (Guard × Proc)) → Pairwise IsBranch xs ys → (n : ℕ) → most_bits_of_branches (branches ys) n ≤ most_bits_of_branches (branches xs) n
branches_bits xs ys no_items n = omega arith
branches_bits xs ys (and_item {x} {y} {xs = us} {ys = vs} a rest) n = let h = a.2.bits n in let k = branches_bits us vs rest n in omega (arith, h, k)

pub arranged_alt : (xs ys : List (Guard × Proc)) → Pairwise IsBranch xs ys → IsArranged (alt (branches xs)) (alt (branches ys))
arranged_alt xs ys a = record {
  types = λ Γ h. branches_types Γ xs ys a h;
  forth = λ Γ h. record { gives = alternates_give Γ (guards (branches xs)) (guards (branches ys)) (guards_forth Γ xs ys h a) };
  back = λ Γ h. record { gives = alternates_give Γ (guards (branches ys)) (guards (branches xs)) (guards_back Γ xs ys h a) };
  bits = λ n. branches_bits xs ys a n;
}

-- ---- lists that grow at their ends

behind : {A : Type 0} (R : A → A → Type 0) (xs ys : List A) (x y : A) → Pairwise R xs ys → R x y → Pairwise R (xs ++ x ∷ []) (ys ++ y ∷ [])
behind R xs ys x y no_items r = and_item r no_items
behind R xs ys x y (and_item {xs = us} {ys = vs} a rest) r = and_item a (behind R us vs x y rest r)

pub one_more : {A : Type 0} (R : A → A → Type 0) (xs ys zs : List A) (x y : A) → Pairwise R xs ys → R x y → zs ≡ ys ++ y ∷ [] → Pairwise R (xs ++ x ∷ []) zs
one_more R xs ys zs x y a r e = subst (λ vs. Pairwise R (xs ++ x ∷ []) vs) (sym e) (behind R xs ys x y a r)

-- the items in front of a place and the one there
pub up_to : {A : Type 0} (R : A → A → Type 0) (xs ys : List A) (i : ℕ) (x : A) → i < length xs → x ≡ get_or xs i x → Pairwise R (take i xs ++ x ∷ []) ys → Pairwise R (take (i + 1) xs) ys
up_to R xs ys i x h e a = subst (λ zs. Pairwise R zs ys) (sym (take_more xs i x h ∙ ap (λ z. take i xs ++ z ∷ []) (sym e))) a

pub none_yet : {A : Type 0} (R : A → A → Type 0) (ys : List A) → ys ≡ [] → Pairwise R [] ys
none_yet R ys e = subst (λ zs. Pairwise R [] zs) (sym e) no_items

pub all_items : {A : Type 0} (R : A → A → Type 0) (xs ys : List A) (i : ℕ) → length xs ≤ i → Pairwise R (take i xs) ys → Pairwise R xs ys
all_items R xs ys i h a = subst (λ zs. Pairwise R zs ys) (take_all i xs h) a
