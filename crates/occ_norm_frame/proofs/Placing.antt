-- Parts in scope, from a process to its parts.
use Rattle.std.proofs.Common.{◌≡◌, ◌<◌, ◌≤◌, ◌+◌, ◌++◌, ◌==◌, ℕ, zero, suc, Bool, true, false, cond, List, [], ◌∷◌, Option, Some, None, length, get_or, ⊎_elim, refl, sym, ap, ◌∙◌, subst, arith}
use Rattle.std.proofs.lemmas.Bool.{and_parts, and_from, cases_Bool, eqb-true, eq-eqb}
use Rattle.std.specs.Option.{IsSome, is_none, is_some}
use Rattle.occ_syntax.specs.occ_base.declared.names.Name.{Name}
use Rattle.occ_syntax.specs.occ_base.declared.width.Width.{Width}
use Rattle.occ_syntax.specs.occ_base.declared.width.Width.TheVariants.{Bool as TruthValue}
use Rattle.occ_syntax.specs.occ_base.Width.{bits_of}
use Rattle.occ_bits.specs.Layout.{IsLayout, entry_of, environment_in, laid_out, scope_in}
use Rattle.occ_bits.proofs.Laid.{found_width, found_within, laid_width, layout_of}
use Rattle.occ_bits.proofs.Values.{bits_within, found_few}
use Rattle.occ_bits.proofs.Compared.{same_count}
use Rattle.occ_bits.proofs.Parts.{type_same}
use Rattle.occ_syntax.specs.declared.expr.Expr.{Expr}
use Rattle.occ_syntax.specs.declared.expr.Guard.{Guard}
use Rattle.occ_syntax.specs.declared.proc.Proc.{Proc}
use Rattle.occ_syntax.specs.declared.scope.Kind.{Kind}
use Rattle.occ_syntax.specs.declared.scope.Kind.TheVariants.{Var, Chan}
use Rattle.occ_syntax.specs.Counts.{bits_of_kind, bits_of_scope, most_bits, most_bits_of_all, most_bits_of_cases, most_bits_of_branches}
use Rattle.occ_syntax.specs.Declarations.{declaring}
use Rattle.occ_syntax.specs.Eval.{bits_in, bits_of_exp}
use Rattle.occ_syntax.specs.Scopes.{Environment, environment, variable_kind, variable_width, with_name}
use Rattle.occ_syntax.specs.Tree.{Exp, variable, Tree, assign, receive, send, seq, par, select, alt, Trees, Cases, Branches, Waiting, ready, input, output}
use Rattle.occ_syntax.specs.Types.{agree, all_types_kept, branches_kept, cases_kept, is_condition, is_width, pairs_kept, scope_kept, type_of, types_kept, waiting_kept, width_of_kind}
use Rattle.occ_syntax.specs.View.{exp, exps, numbers, tree, trees, cases, branches, waiting}
use Rattle.occ_syntax.proofs.Widest.{most_bits-outer}
use Rattle.occ_usage.proofs.Scoped.{environment-push}
use Rattle.occ_norm_frame.specs.Placed.{CanEnter, CanWait, Fits, FitAll, FitBranches, FitCases, IsAround, IsFrame, entered}

-- ---- the layout
pub frame_layout : (vars : List (Name × Kind)) (layout : List (Name × Width × ℕ)) (bits : ℕ) → IsFrame vars layout bits → IsLayout layout
frame_layout vars layout bits f = let few : bits_of_scope vars ≤ 24 = f.few in subst IsLayout (sym f.layout_is) (layout_of vars f.scope (omega arith))

pub width_here : (outer : Environment) (vars : List (Name × Kind)) (layout : List (Name × Width × ℕ)) (bits : ℕ) → IsFrame vars layout bits → IsAround outer vars → (y : ℕ) → variable_width outer y ≡ variable_width (environment_in layout) y
width_here outer vars layout bits f a y = a.same y ∙ sym (laid_width 0 vars y f.scope) ∙ ap (λ l. variable_width (environment_in l) y) (sym f.layout_is)

pub type_here : (outer : Environment) (vars : List (Name × Kind)) (layout : List (Name × Width × ℕ)) (bits : ℕ) → IsFrame vars layout bits → IsAround outer vars → (e : Exp) → type_of outer e ≡ type_of (environment_in layout) e
type_here outer vars layout bits f a e = type_same outer (environment_in layout) e (λ y h. width_here outer vars layout bits f a y)

pub condition_here : (outer : Environment) (vars : List (Name × Kind)) (layout : List (Name × Width × ℕ)) (bits : ℕ) → IsFrame vars layout bits → IsAround outer vars → (e : Exp) → is_condition outer e ≡ true → is_condition (environment_in layout) e ≡ true
condition_here outer vars layout bits f a e h = ap (λ t. agree t (Some TruthValue)) (sym (type_here outer vars layout bits f a e)) ∙ h

agreed : (a b : Option Width) → agree a b ≡ true → (w : Width) × (a ≡ Some w)
agreed (Some w) b h = (w, refl)
agreed None b h = absurd (let e : false ≡ true = h in cc)

agreed_right : (a b : Option Width) → agree a b ≡ true → (w : Width) × (b ≡ Some w)
agreed_right a (Some w) h = (w, refl)
agreed_right (Some v) None h = absurd (let e : false ≡ true = h in cc)
agreed_right None None h = absurd (let e : false ≡ true = h in cc)

is_there : {A : Type 0} (o : Option A) (a : A) → o ≡ Some a → IsSome o
is_there o a e = ap is_some e

pub pairs_here : (outer : Environment) (vars : List (Name × Kind)) (layout : List (Name × Width × ℕ)) (bits : ℕ) → IsFrame vars layout bits → IsAround outer vars → (xs : List ℕ) (es : List Exp)
    → pairs_kept outer xs es ≡ true → pairs_kept (environment_in layout) xs es ≡ true
pairs_here outer vars layout bits f a [] [] h = refl
pairs_here outer vars layout bits f a [] (e ∷ es) h = h
pairs_here outer vars layout bits f a (x ∷ xs) [] h = h
pairs_here outer vars layout bits f a (x ∷ xs) (e ∷ es) h =
    let p = and_parts _ _ h in
    let q = and_parts _ _ p.0 in
    and_from _ _ (and_from _ _ ((λ i. agree (sym (width_here outer vars layout bits f a x) i) (sym (type_here outer vars layout bits f a e) i)) ∙ q.0) q.1) (pairs_here outer vars layout bits f a xs es p.1)

pub wait_here : (outer : Environment) (vars : List (Name × Kind)) (layout : List (Name × Width × ℕ)) (bits : ℕ) → IsFrame vars layout bits → IsAround outer vars → (w : Waiting) → waiting_kept outer w ≡ true → CanWait layout w
wait_here outer vars layout bits f a ready h = tt
wait_here outer vars layout bits f a (input c x) h =
    let w = agreed_right _ _ (and_parts _ _ h).1 in is_there _ w.0 (sym (width_here outer vars layout bits f a x) ∙ w.1)
wait_here outer vars layout bits f a (output c e) h =
    let w = agreed_right _ _ (and_parts _ _ h).1 in is_there _ w.0 (sym (type_here outer vars layout bits f a e) ∙ w.1)

-- ---- pairs of an assignment
pub pairs_length : (outer : Environment) (xs : List Name) (es : List Expr) → pairs_kept outer (numbers xs) (exps es) ≡ true → length xs ≡ length es
pairs_length outer [] [] h = refl
pairs_length outer [] (e ∷ es) h = absurd (let e : false ≡ true = h in cc)
pairs_length outer (x ∷ xs) [] h = absurd (let e : false ≡ true = h in cc)
pairs_length outer (x ∷ xs) (e ∷ es) h = ap suc (pairs_length outer xs es (and_parts _ _ h).1)

pub pair_at : (outer : Environment) (xs : List Name) (es : List Expr) (i : ℕ) (x : Name) (e : Expr) → pairs_kept outer (numbers xs) (exps es) ≡ true → i < length xs
    → agree (variable_width outer (get_or xs i x).0) (type_of outer (exp (get_or es i e))) ≡ true
pair_at outer [] es i x e h k = absurd (omega (arith, k))
pair_at outer (y ∷ xs) [] i x e h k = absurd (let e : false ≡ true = h in cc)
pair_at outer (y ∷ xs) (d ∷ es) zero x e h k = (and_parts _ _ (and_parts _ _ h).0).0
pair_at outer (y ∷ xs) (d ∷ es) (suc i) x e h k = pair_at outer xs es i x e (and_parts _ _ h).1 (omega (arith, k))

-- the digits of a value that a variable is given lie within its bits
pub digits_within : (layout : List (Name × Width × ℕ)) → IsLayout layout → (y : ℕ) (w : Width) (f : ℕ) (e : Exp) → entry_of layout y ≡ Some (w, f)
    → agree (variable_width (environment_in layout) y) (type_of (environment_in layout) e) ≡ true → f + bits_of_exp (environment_in layout) e ≤ 64
digits_within layout is y w f e found h =
    let same : bits_of_exp (environment_in layout) (variable y) ≡ bits_of_exp (environment_in layout) e = same_count (environment_in layout) (variable y) e h in
    let width : bits_in (variable_width (environment_in layout) y) ≡ bits_of w = ap bits_in (found_width layout y w f found) in
    omega (arith, found_within layout is y w f found)

pub agreed_type : (layout : List (Name × Width × ℕ)) (y : ℕ) (e : Exp) → agree (variable_width (environment_in layout) y) (type_of (environment_in layout) e) ≡ true → IsSome (type_of (environment_in layout) e)
agreed_type layout y e h = let w = agreed_right _ _ h in is_there _ w.0 w.1

pub agreed_width : (layout : List (Name × Width × ℕ)) (y : ℕ) (e : Exp) → agree (variable_width (environment_in layout) y) (type_of (environment_in layout) e) ≡ true → IsSome (variable_width (environment_in layout) y)
agreed_width layout y e h = let w = agreed _ _ h in is_there _ w.0 w.1

-- ---- declarations
bits-push : (es : List (Name × Kind)) (d : Name × Kind) → bits_of_scope (es ++ d ∷ []) ≡ bits_of_scope es + bits_of_kind d.1
bits-push [] d = omega arith
bits-push (e ∷ es) d = omega (arith, bits-push es d)

none_is : {A : Type 0} (o : Option A) → is_none o ≡ true → o ≡ None
none_is None e = refl
none_is (Some a) e = absurd (let h : false ≡ true = e in cc)

kept-push : (es : List (Name × Kind)) (x : Name) (k : Kind) → scope_kept es ≡ true → environment es x.0 ≡ None → is_width (width_of_kind k) ≡ true → scope_kept (es ++ (x, k) ∷ []) ≡ true
kept-push [] x k h n w = and_from _ _ (and_from _ _ refl w) refl
kept-push (e ∷ es) x k h n w =
    let p = and_parts _ _ h in
    let q = and_parts _ _ p.0 in
    ⊎_elim
    (λ (t : (x.0 == e.0.0) ≡ true). absurd (let g : Some e.1 ≡ None = sym (ap (λ b. cond b (Some e.1) (environment es x.0)) t) ∙ n in cc))
    (λ (t : (x.0 == e.0.0) ≡ false).
    let m : environment es x.0 ≡ None = sym (ap (λ b. cond b (Some e.1) (environment es x.0)) t) ∙ n in
    let other : (e.0.0 == x.0) ≡ false = turned (e.0.0) (x.0) t in
    and_from _ _ (and_from _ _ (ap (λ Γ. is_none (Γ e.0.0)) (environment-push es x k m) ∙ ap (λ b. is_none (cond b (Some k) (environment es e.0.0))) other ∙ q.0) q.1) (kept-push es x k p.1 m w))
    (cases_Bool (x.0 == e.0.0))
  where
    turned : (a b : ℕ) → (b == a) ≡ false → (a == b) ≡ false
    turned a b t = ⊎_elim
        (λ (u : (a == b) ≡ true). absurd (let g : true ≡ false = sym (eq-eqb b a (sym (eqb-true a b u))) ∙ t in cc))
        (λ (u : (a == b) ≡ false). u)
        (cases_Bool (a == b))

pub frame-push : (vars : List (Name × Kind)) (layout : List (Name × Width × ℕ)) (bits : ℕ) (x : Name) (w : Width) → IsFrame vars layout bits → CanEnter vars x (Var w)
    → IsFrame (vars ++ (x, Var w) ∷ []) (laid_out 0 (vars ++ (x, Var w) ∷ [])) (bits + bits_of w)
frame-push vars layout bits x w f can = record {
  scope = kept-push vars x (Var w) f.scope can.0 can.1;
  few = let more : bits_of_scope vars + bits_of w ≤ 24 = can.2 in omega (arith, bits-push vars (x, Var w));
  bits_are = let now : bits ≡ bits_of_scope vars = f.bits_are in omega (arith, bits-push vars (x, Var w));
  layout_is = refl;
}

-- a declaration further in
pub fits_can : (vars : List (Name × Kind)) (p q : Tree) (x : Name) (k : Kind) → Fits vars p → p ≡ declaring x.0 k q → CanEnter vars x k
fits_can vars p q x (Var w) f e =
    let types : types_kept (declaring x.0 (Var w) q) f.outer ≡ true = ap (λ r. types_kept r f.outer) (sym e) ∙ f.types in
    let can = and_parts _ _ (and_parts _ _ types).0 in
    let most : most_bits p (bits_of_scope vars) ≤ 24 = f.most in
    let same : most_bits p (bits_of_scope vars) ≡ most_bits q (bits_of_scope vars + bits_of w) = ap (λ r. most_bits r (bits_of_scope vars)) e in
    (f.around.none x.0 (none_is _ can.0), can.1, omega (arith, most_bits-outer q (bits_of_scope vars + bits_of w)))
fits_can vars p q x (Chan w d) f e = tt

pub fits_in : (vars : List (Name × Kind)) (p q : Tree) (x : Name) (k : Kind) → Fits vars p → p ≡ declaring x.0 k q → Fits (entered vars x k) q
fits_in vars p q x (Var w) f e =
    let types : types_kept (declaring x.0 (Var w) q) f.outer ≡ true = ap (λ r. types_kept r f.outer) (sym e) ∙ f.types in
    let parts = and_parts _ _ types in
    let can = and_parts _ _ parts.0 in
    let fresh : environment vars x.0 ≡ None = f.around.none x.0 (none_is _ can.0) in
    let most : most_bits p (bits_of_scope vars) ≤ 24 = f.most in
    let same : most_bits p (bits_of_scope vars) ≡ most_bits q (bits_of_scope vars + bits_of w) = ap (λ r. most_bits r (bits_of_scope vars)) e in
    record {
      outer = with_name f.outer x.0 (Var w);
      around = record {
        same = λ y. inner (y == x.0) (f.outer y) (environment vars y) (f.around.same y) ∙ ap (λ Γ. variable_width Γ y) (sym (environment-push vars x (Var w) fresh));
        none = λ y h. ap (λ Γ. Γ y) (environment-push vars x (Var w) fresh) ∙ absent (y == x.0) (f.outer y) (environment vars y) (f.around.none y) h;
      };
      types = parts.1;
      most = subst (λ n. most_bits q n ≤ 24) (sym (bits-push vars (x, Var w))) (omega arith);
    }
  where
    inner : (b : Bool) (o i : Option Kind) → variable_kind o ≡ variable_kind i → variable_kind (cond b (Some (Var w)) o) ≡ variable_kind (cond b (Some (Var w)) i)
    inner true o i h = refl
    inner false o i h = h

    absent : (b : Bool) (o i : Option Kind) → (o ≡ None → i ≡ None) → cond b (Some (Var w)) o ≡ None → cond b (Some (Var w)) i ≡ None
    absent true o i f h = h
    absent false o i f h = f h
fits_in vars p q x (Chan w d) f e = record {
  outer = with_name f.outer x.0 (Chan w None);
  around = record {
    same = λ y. inner y (y == x.0) refl;
    none = λ y h. absent (y == x.0) (f.outer y) (environment vars y) (f.around.none y) h;
  };
  types = (and_parts _ _ types).1;
  most = subst (λ n. n ≤ 24) (ap (λ r. most_bits r (bits_of_scope vars)) e) f.most;
}
  where
    types : types_kept (declaring x.0 (Chan w d) q) f.outer ≡ true
    types = ap (λ r. types_kept r f.outer) (sym e) ∙ f.types

    fresh : environment vars x.0 ≡ None
    fresh = f.around.none x.0 (none_is _ (and_parts _ _ (and_parts _ _ types).0).0)

    inner : (y : ℕ) (b : Bool) → (y == x.0) ≡ b → variable_kind (cond b (Some (Chan w None)) (f.outer y)) ≡ variable_width (environment vars) y
    inner y true h = sym (ap variable_kind (ap (environment vars) (eqb-true y x.0 h) ∙ fresh))
    inner y false h = f.around.same y

    absent : (b : Bool) (o i : Option Kind) → (o ≡ None → i ≡ None) → cond b (Some (Chan w None)) o ≡ None → i ≡ None
    absent true o i f h = absurd (let g : Some (Chan w None) ≡ None = h in cc)
    absent false o i f h = f h

-- ---- parts of lists
pub fit_at : (vars : List (Name × Kind)) (ps : List Proc) (i : ℕ) (p : Proc) → FitAll vars (trees ps) → i < length ps → p ≡ get_or ps i p → Fits vars (tree p)
fit_at vars ps i p f h e = record { outer = f.outer; around = f.around; types = types_at ps i f.types h e; most = most_at ps i f.most h e }
  where
    types_at : (qs : List Proc) (i : ℕ) → all_types_kept (trees qs) f.outer ≡ true → i < length qs → p ≡ get_or qs i p → types_kept (tree p) f.outer ≡ true
    types_at [] i t h e = absurd (omega (arith, h))
    types_at (q ∷ qs) zero t h e = ap (λ r. types_kept (tree r) f.outer) e ∙ (and_parts _ _ t).0
    types_at (q ∷ qs) (suc i) t h e = types_at qs i (and_parts _ _ t).1 (omega (arith, h)) e

    most_at : (qs : List Proc) (i : ℕ) → most_bits_of_all (trees qs) (bits_of_scope vars) ≤ 24 → i < length qs → p ≡ get_or qs i p → most_bits (tree p) (bits_of_scope vars) ≤ 24
    most_at [] i t h e = absurd (omega (arith, h))
    most_at (q ∷ qs) zero t h e = let s : most_bits (tree p) (bits_of_scope vars) ≡ most_bits (tree q) (bits_of_scope vars) = ap (λ r. most_bits (tree r) (bits_of_scope vars)) e in omega (arith, t)
    most_at (q ∷ qs) (suc i) t h e = most_at qs i (omega (arith, t)) (omega (arith, h)) e

pub case_at : (vars : List (Name × Kind)) (cs : List (Expr × Proc)) (i : ℕ) (c : Expr × Proc) → FitCases vars (cases cs) → i < length cs → c ≡ get_or cs i c → Fits vars (tree c.1)
case_at vars cs i c f h e = record { outer = f.outer; around = f.around; types = types_at cs i f.types h e; most = most_at cs i f.most h e }
  where
    types_at : (qs : List (Expr × Proc)) (i : ℕ) → cases_kept (cases qs) f.outer ≡ true → i < length qs → c ≡ get_or qs i c → types_kept (tree c.1) f.outer ≡ true
    types_at [] i t h e = absurd (omega (arith, h))
    types_at (q ∷ qs) zero t h e = ap (λ (r : Expr × Proc). types_kept (tree r.1) f.outer) e ∙ (and_parts _ _ (and_parts _ _ t).0).1
    types_at (q ∷ qs) (suc i) t h e = types_at qs i (and_parts _ _ t).1 (omega (arith, h)) e

    most_at : (qs : List (Expr × Proc)) (i : ℕ) → most_bits_of_cases (cases qs) (bits_of_scope vars) ≤ 24 → i < length qs → c ≡ get_or qs i c → most_bits (tree c.1) (bits_of_scope vars) ≤ 24
    most_at [] i t h e = absurd (omega (arith, h))
    most_at (q ∷ qs) zero t h e = let s : most_bits (tree c.1) (bits_of_scope vars) ≡ most_bits (tree q.1) (bits_of_scope vars) = ap (λ (r : Expr × Proc). most_bits (tree r.1) (bits_of_scope vars)) e in omega (arith, t)
    most_at (q ∷ qs) (suc i) t h e = most_at qs i (omega (arith, t)) (omega (arith, h)) e

pub case_condition : (vars : List (Name × Kind)) (layout : List (Name × Width × ℕ)) (bits : ℕ) → IsFrame vars layout bits → (cs : List (Expr × Proc)) (i : ℕ) (c : Expr × Proc) → FitCases vars (cases cs) → i < length cs → c ≡ get_or cs i c
    → is_condition (environment_in layout) (exp c.0) ≡ true
case_condition vars layout bits fr cs i c f h e = condition_here f.outer vars layout bits fr f.around (exp c.0) (at cs i f.types h e)
  where
    at : (qs : List (Expr × Proc)) (i : ℕ) → cases_kept (cases qs) f.outer ≡ true → i < length qs → c ≡ get_or qs i c → is_condition f.outer (exp c.0) ≡ true
    at [] i t h e = absurd (omega (arith, h))
    at (q ∷ qs) zero t h e = ap (λ (r : Expr × Proc). is_condition f.outer (exp r.0)) e ∙ (and_parts _ _ (and_parts _ _ t).0).0
    at (q ∷ qs) (suc i) t h e = at qs i (and_parts _ _ t).1 (omega (arith, h)) e

branch_kept : (outer : Environment) (b : Guard × Proc) (qs : List (Guard × Proc)) (i : ℕ) → branches_kept (branches qs) outer ≡ true → i < length qs → b ≡ get_or qs i b
    → (is_condition outer (exp b.0.condition) ≡ true) × (waiting_kept outer (waiting b.0.wait) ≡ true) × (types_kept (tree b.1) outer ≡ true)
branch_kept outer b [] i t h e = absurd (omega (arith, h))
branch_kept outer b (q ∷ qs) zero t h e =
    let p = and_parts _ _ (and_parts _ _ t).0 in
    let r = and_parts _ _ p.0 in
    (ap (λ (a : Guard × Proc). is_condition outer (exp a.0.condition)) e ∙ r.0, ap (λ (a : Guard × Proc). waiting_kept outer (waiting a.0.wait)) e ∙ r.1, ap (λ (a : Guard × Proc). types_kept (tree a.1) outer) e ∙ p.1)
branch_kept outer b (q ∷ qs) (suc i) t h e = branch_kept outer b qs i (and_parts _ _ t).1 (omega (arith, h)) e

pub branch_at : (vars : List (Name × Kind)) (bs : List (Guard × Proc)) (i : ℕ) (b : Guard × Proc) → FitBranches vars (branches bs) → i < length bs → b ≡ get_or bs i b → Fits vars (tree b.1)
branch_at vars bs i b f h e = record { outer = f.outer; around = f.around; types = (branch_kept f.outer b bs i f.types h e).2; most = most_at bs i f.most h e }
  where
    most_at : (qs : List (Guard × Proc)) (i : ℕ) → most_bits_of_branches (branches qs) (bits_of_scope vars) ≤ 24 → i < length qs → b ≡ get_or qs i b → most_bits (tree b.1) (bits_of_scope vars) ≤ 24
    most_at [] i t h e = absurd (omega (arith, h))
    most_at (q ∷ qs) zero t h e = let s : most_bits (tree b.1) (bits_of_scope vars) ≡ most_bits (tree q.1) (bits_of_scope vars) = ap (λ (r : Guard × Proc). most_bits (tree r.1) (bits_of_scope vars)) e in omega (arith, t)
    most_at (q ∷ qs) (suc i) t h e = most_at qs i (omega (arith, t)) (omega (arith, h)) e

pub branch_condition : (vars : List (Name × Kind)) (layout : List (Name × Width × ℕ)) (bits : ℕ) → IsFrame vars layout bits → (bs : List (Guard × Proc)) (i : ℕ) (b : Guard × Proc) → FitBranches vars (branches bs) → i < length bs → b ≡ get_or bs i b
    → is_condition (environment_in layout) (exp b.0.condition) ≡ true
branch_condition vars layout bits fr bs i b f h e = condition_here f.outer vars layout bits fr f.around (exp b.0.condition) (branch_kept f.outer b bs i f.types h e).0

pub branch_wait : (vars : List (Name × Kind)) (layout : List (Name × Width × ℕ)) (bits : ℕ) → IsFrame vars layout bits → (bs : List (Guard × Proc)) (i : ℕ) (b : Guard × Proc) → FitBranches vars (branches bs) → i < length bs → b ≡ get_or bs i b
    → CanWait layout (waiting b.0.wait)
branch_wait vars layout bits fr bs i b f h e = wait_here f.outer vars layout bits fr f.around (waiting b.0.wait) (branch_kept f.outer b bs i f.types h e).1

-- ---- a process by its form
pub fits_assign : (vars : List (Name × Kind)) (layout : List (Name × Width × ℕ)) (bits : ℕ) → IsFrame vars layout bits → (p : Tree) (xs : List ℕ) (es : List Exp) → Fits vars p → p ≡ assign xs es → pairs_kept (environment_in layout) xs es ≡ true
fits_assign vars layout bits fr p xs es f e = pairs_here f.outer vars layout bits fr f.around xs es (and_parts _ _ (ap (λ r. types_kept r f.outer) (sym e) ∙ f.types)).1

pub fits_receive : (vars : List (Name × Kind)) (layout : List (Name × Width × ℕ)) (bits : ℕ) → IsFrame vars layout bits → (p : Tree) (c x : ℕ) → Fits vars p → p ≡ receive c x → IsSome (variable_width (environment_in layout) x)
fits_receive vars layout bits fr p c x f e = wait_here f.outer vars layout bits fr f.around (input c x) (ap (λ r. types_kept r f.outer) (sym e) ∙ f.types)

pub fits_send : (vars : List (Name × Kind)) (layout : List (Name × Width × ℕ)) (bits : ℕ) → IsFrame vars layout bits → (p : Tree) (c : ℕ) (z : Exp) → Fits vars p → p ≡ send c z → IsSome (type_of (environment_in layout) z)
fits_send vars layout bits fr p c z f e = wait_here f.outer vars layout bits fr f.around (output c z) (ap (λ r. types_kept r f.outer) (sym e) ∙ f.types)

pub fits_seq : (vars : List (Name × Kind)) (p : Tree) (ps : Trees) → Fits vars p → p ≡ seq ps → FitAll vars ps
fits_seq vars p ps f e = record { outer = f.outer; around = f.around; types = ap (λ r. types_kept r f.outer) (sym e) ∙ f.types; most = subst (λ n. n ≤ 24) (ap (λ r. most_bits r (bits_of_scope vars)) e) f.most }

pub fits_par : (vars : List (Name × Kind)) (p : Tree) (ps : Trees) → Fits vars p → p ≡ par ps → FitAll vars ps
fits_par vars p ps f e = record { outer = f.outer; around = f.around; types = ap (λ r. types_kept r f.outer) (sym e) ∙ f.types; most = subst (λ n. n ≤ 24) (ap (λ r. most_bits r (bits_of_scope vars)) e) f.most }

pub fits_select : (vars : List (Name × Kind)) (p : Tree) (cs : Cases) → Fits vars p → p ≡ select cs → FitCases vars cs
fits_select vars p cs f e = record { outer = f.outer; around = f.around; types = ap (λ r. types_kept r f.outer) (sym e) ∙ f.types; most = subst (λ n. n ≤ 24) (ap (λ r. most_bits r (bits_of_scope vars)) e) f.most }

pub fits_alt : (vars : List (Name × Kind)) (p : Tree) (bs : Branches) → Fits vars p → p ≡ alt bs → FitBranches vars bs
fits_alt vars p bs f e = record { outer = f.outer; around = f.around; types = ap (λ r. types_kept r f.outer) (sym e) ∙ f.types; most = subst (λ n. n ≤ 24) (ap (λ r. most_bits r (bits_of_scope vars)) e) f.most }

pub frame-now : (vars : List (Name × Kind)) (layout : List (Name × Width × ℕ)) (bits more : ℕ) (x : Name) (w : Width) (vs : List (Name × Kind)) (ls : List (Name × Width × ℕ)) → IsFrame vars layout bits → CanEnter vars x (Var w)
    → vs ≡ vars ++ (x, Var w) ∷ [] → ls ≡ laid_out 0 vs → more ≡ bits_of w → IsFrame vs ls (bits + more)
frame-now vars layout bits more x w vs ls f can is laid m =
    let p = frame-push vars layout bits x w f can in
    let few : bits_of_scope (vars ++ (x, Var w) ∷ []) ≤ 24 = p.few in
    let same : bits_of_scope vs ≡ bits_of_scope (vars ++ (x, Var w) ∷ []) = ap bits_of_scope is in
    let all : bits + bits_of w ≡ bits_of_scope (vars ++ (x, Var w) ∷ []) = p.bits_are in
    record { scope = ap scope_kept is ∙ p.scope; few = omega arith; bits_are = omega (arith, m); layout_is = laid }

pub few_more : (n : ℕ) → n ≤ 24 → n ≤ 64
few_more n h = omega (arith, h)

-- ---- the bits of a variable
pub slot_within : (layout : List (Name × Width × ℕ)) → IsLayout layout → (y : ℕ) (e : Width × ℕ) → entry_of layout y ≡ Some e → e.1 + bits_of e.0 ≤ 64
slot_within layout is y (w, f) found = found_within layout is y w f found

pub slot_few : (layout : List (Name × Width × ℕ)) → IsLayout layout → (y : ℕ) (e : Width × ℕ) → entry_of layout y ≡ Some e → bits_of e.0 ≤ 8
slot_few layout is y (w, f) found = found_few layout is y w f found

pub slot_some : (layout : List (Name × Width × ℕ)) → IsLayout layout → (y : ℕ) (e : Width × ℕ) → entry_of layout y ≡ Some e → 1 ≤ bits_of e.0
slot_some layout is y (w, f) found =
    let width : variable_width (environment_in layout) y ≡ Some w = found_width layout y w f found in
    let bits : bits_of_exp (environment_in layout) (variable y) ≡ bits_of w = ap bits_in width in
    omega (arith, (bits_within (scope_in layout) is.scope (variable y) (is_there _ w width)).0)

laid_place : (a : ℕ) (scope : List (Name × Kind)) (i : ℕ) (d : Name × Width × ℕ) → i < length (laid_out a scope) → (get_or (laid_out a scope) i d).2 + bits_of (get_or (laid_out a scope) i d).1 ≤ a + bits_of_scope scope
laid_place a [] i d h = absurd (omega (arith, h))
laid_place a ((n, Var v) ∷ scope) zero d h = omega arith
laid_place a ((n, Var v) ∷ scope) (suc i) d h = omega (arith, laid_place (a + bits_of v) scope i d (omega (arith, h)))
laid_place a ((n, Chan v k) ∷ scope) i d h = omega (arith, laid_place a scope i d h)

pub entry_at : (entries : List (Name × Width × ℕ)) → IsLayout entries → (i : ℕ) (d : Name × Width × ℕ) → i < length entries → (get_or entries i d).2 + bits_of (get_or entries i d).1 ≤ 64
entry_at entries is i d h = subst (λ l. (get_or l i d).2 + bits_of (get_or l i d).1 ≤ 64) (sym is.laid)
    (let few : bits_of_scope (scope_in entries) ≤ 64 = is.few in omega (arith, laid_place 0 (scope_in entries) i d (subst (λ l. i < length l) is.laid h)))

pub fits_next : (vars vs : List (Name × Kind)) (p q : Tree) (x : Name) (k : Kind) → Fits vars p → p ≡ declaring x.0 k q → vs ≡ entered vars x k → Fits vs q
fits_next vars vs p q x k f e is = subst (λ us. Fits us q) (sym is) (fits_in vars p q x k f e)
