-- Lists of branches taken apart.
use Rattle.std.proofs.Common.{◌≡◌, ◌++◌, ◌↔◌, Bool, true, IsTrue, List, [], ◌∷◌, length, refl, ap, sym, ◌∙◌, arith}
use Rattle.std.specs.Borrow.{Bor}
use Rattle.occ_syntax.specs.declared.expr.Expr.{Expr}
use Rattle.occ_syntax.specs.declared.expr.Guard.{Guard}
use Rattle.occ_syntax.specs.declared.proc.Proc.{Proc}
use Rattle.occ_syntax.specs.Tree.{Exp, truth, Waiting, ready, Tree, alt, no_case, and_case, Branches, no_branch, and_branch}
use Rattle.occ_syntax.specs.View.{exp, waiting, tree, cases, branches}
use Rattle.occ_law_shape.specs.occ_law.Choice.{and_skip}
use Rattle.occ_law_shape.specs.occ_law.Lists.{all_branches}
use Rattle.occ_law_shape.specs.declared.form.Form.{Form}
use Rattle.occ_law_shape.specs.declared.form.Form.TheVariants as form
use Rattle.occ_law_shape.specs.Form.{form_tree}
use Rattle.occ_law_alt.specs.Fronts.{in_front}

-- ---- a branch in front of others, by its parts

pub conditions_are : (b c : Exp) (v w : Waiting) (p q : Tree) (gs hs : Branches) → and_branch b v p gs ≡ and_branch c w q hs → b ≡ c
conditions_are b c v w p q gs hs e = cc

pub guards_are : (b c : Exp) (v w : Waiting) (p q : Tree) (gs hs : Branches) → and_branch b v p gs ≡ and_branch c w q hs → v ≡ w
guards_are b c v w p q gs hs e = cc

pub processes_are : (b c : Exp) (v w : Waiting) (p q : Tree) (gs hs : Branches) → and_branch b v p gs ≡ and_branch c w q hs → p ≡ q
processes_are b c v w p q gs hs e = cc

pub rests_are : (b c : Exp) (v w : Waiting) (p q : Tree) (gs hs : Branches) → and_branch b v p gs ≡ and_branch c w q hs → gs ≡ hs
rests_are b c v w p q gs hs e = cc

-- equal parts make equal lists
pub branch_is : {b c : Exp} {v w : Waiting} {p q : Tree} {gs hs : Branches} → b ≡ c → v ≡ w → p ≡ q → gs ≡ hs → and_branch b v p gs ≡ and_branch c w q hs
branch_is {c = c} {v = v} {w = w} {p = p} {q = q} {gs = gs} e f g h =
    ap (λ z. and_branch z v p gs) e ∙ ap (λ z. and_branch c z p gs) f ∙ ap (λ z. and_branch c w z gs) g ∙ ap (and_branch c w q) h

-- an ALT tells its branches
pub alt_tells : (gs hs : Branches) → alt gs ≡ alt hs → gs ≡ hs
alt_tells gs hs e = cc

-- two tests in a row
pub through : {A B C : Type 0} → (A ↔ B) → (B ↔ C) → A ↔ C
through f g = ((λ a. g.0 (f.0 a)), (λ c. f.1 (g.1 c)))

-- ---- one list behind another

pub all_branches-none : (gs : Branches) → all_branches gs no_branch ≡ gs
all_branches-none no_branch = refl
all_branches-none (and_branch b w p gs) = ap (and_branch b w p) (all_branches-none gs)

-- one front leaves one rest
pub behind_one_front : (gs hs ks : Branches) → all_branches gs hs ≡ all_branches gs ks → hs ≡ ks
behind_one_front no_branch hs ks e = e
behind_one_front (and_branch b w p gs) hs ks e = behind_one_front gs hs ks (cc)

pub branches_none : (l : List (Guard × Proc)) → branches l ≡ no_branch → length l ≡ 0
branches_none [] e = refl
branches_none (x ∷ l) e = cc

pub none_there : (l : List (Guard × Proc)) → length l ≡ 0 → branches l ≡ no_branch
none_there [] h = refl
none_there (x ∷ l) h = absurd (omega (arith, h))

-- a list is two others where what stands behind the first of them is the second
pub joined_where : (gs whole found rest : Branches) (b : Bool) → whole ≡ all_branches gs found → (IsTrue b ↔ (found ≡ rest)) → IsTrue b ↔ (whole ≡ all_branches gs rest)
joined_where gs whole found rest b e test =
    ((λ h. e ∙ ap (all_branches gs) (test.0 h)), (λ k. test.1 (behind_one_front gs found rest (sym e ∙ k))))

-- ---- what stands behind a branch

-- one turn of taking the branches of a list off another one
pub behind_step : (first all xs ys : Branches) (x : Guard × Proc) (ps qs : Branches) → xs ≡ in_front x ps → ys ≡ in_front x qs
    → ((r : Branches) → (ys ≡ all_branches xs r) ↔ (all ≡ all_branches first r)) → (r : Branches) → (qs ≡ all_branches ps r) ↔ (all ≡ all_branches first r)
behind_step first all xs ys x ps qs e f same r = (
  (λ h. (same r).0 (f ∙ ap (in_front x) h ∙ ap (λ z. all_branches z r) (sym e))),
  (λ k. rests_are _ _ _ _ _ _ _ _ (sym f ∙ (same r).1 k ∙ ap (λ z. all_branches z r) e)),
)

pub behind_differs : (first all xs ys : Branches) (x : Guard × Proc) (ps : Branches) → xs ≡ in_front x ps → ((qs : Branches) → ys ≡ in_front x qs → ⊥)
    → ((r : Branches) → (ys ≡ all_branches xs r) ↔ (all ≡ all_branches first r)) → (r : Branches) → all ≡ all_branches first r → ⊥
behind_differs first all xs ys x ps e never same r k = never (all_branches ps r) ((same r).1 k ∙ ap (λ z. all_branches z r) e)

pub behind_whole : (first all xs ys : Branches) → xs ≡ no_branch → ((r : Branches) → (ys ≡ all_branches xs r) ↔ (all ≡ all_branches first r)) → all ≡ all_branches first ys
behind_whole first all xs ys e same = (same ys).0 (ap (λ z. all_branches z ys) (sym e))

-- ---- guards TRUE & SKIP

-- a list in front of one branch
pub branches-append : (l m : List (Guard × Proc)) → branches (l ++ m) ≡ all_branches (branches l) (branches m)
branches-append [] m = refl
branches-append (x ∷ l) m = ap (in_front x) (branches-append l m)

-- the last branch of a list, and those in front of it, are determined
pub last_branches_are : (gs hs : Branches) (b c : Exp) (v w : Waiting) (p q : Tree) → all_branches gs (and_branch b v p no_branch) ≡ all_branches hs (and_branch c w q no_branch)
    → (gs ≡ hs) × (and_branch b v p no_branch ≡ and_branch c w q no_branch)
last_branches_are no_branch no_branch b c v w p q e = (refl, e)
last_branches_are no_branch (and_branch d u r hs) b c v w p q e = absurd (longer hs c w q (rests_are _ _ _ _ _ _ _ _ e))
  where
    longer : (hs : Branches) (c : Exp) (w : Waiting) (q : Tree) → no_branch ≡ all_branches hs (and_branch c w q no_branch) → ⊥
    longer no_branch c w q e = cc
    longer (and_branch d u r hs) c w q e = cc
last_branches_are (and_branch d u r gs) no_branch b c v w p q e = absurd (longer gs b v p (sym (rests_are _ _ _ _ _ _ _ _ e)))
  where
    longer : (gs : Branches) (b : Exp) (v : Waiting) (p : Tree) → no_branch ≡ all_branches gs (and_branch b v p no_branch) → ⊥
    longer no_branch b v p e = cc
    longer (and_branch d u r gs) b v p e = cc
last_branches_are (and_branch d u r gs) (and_branch d2 u2 r2 hs) b c v w p q e =
    let k = last_branches_are gs hs b c v w p q (rests_are _ _ _ _ _ _ _ _ e) in
    (branch_is (conditions_are _ _ _ _ _ _ _ _ e) (guards_are _ _ _ _ _ _ _ _ e) (processes_are _ _ _ _ _ _ _ _ e) k.0, k.1)

-- two choices are two items
pub not_halved : (l : List (Expr × Proc)) (b c : Exp) (p q : Tree) → cases l ≡ and_case b p (and_case c q no_case) → length l ≡ 2
not_halved [] b c p q e = cc
not_halved (x ∷ []) b c p q e = cc
not_halved (x ∷ y ∷ []) b c p q e = refl
not_halved (x ∷ y ∷ z ∷ l) b c p q e = cc

-- two branches with nothing behind them are two items
pub no_pair : (xs gs : Branches) (rest : List (Guard × Proc)) (p q : Tree) → xs ≡ and_skip p gs → gs ≡ and_skip q (branches rest) → (length rest ≡ 0 → ⊥) → (r s : Tree) → xs ≡ and_skip r (and_skip s no_branch) → ⊥
no_pair xs gs rest p q e f some r s g =
    some (branches_none rest (rests_are _ _ _ _ _ _ _ _ (sym f ∙ rests_are _ _ _ _ _ _ _ _ (sym e ∙ g))))

-- ---- the last branch of a list

-- a form that isn't an ALT stands for no ALT
pub not_alt : (f : Form) → ((x : Bor (List (Guard × Proc))) → f ≡ form.Alt x → ⊥) → (hs : Branches) → form_tree f ≡ alt hs → ⊥
not_alt form.Skip wrong hs e = cc
not_alt form.Stop wrong hs e = cc
not_alt (form.Assign vars values) wrong hs e = cc
not_alt (form.Input chan var) wrong hs e = cc
not_alt (form.Output chan value) wrong hs e = cc
not_alt (form.Seq parts) wrong hs e = cc
not_alt (form.Par parts) wrong hs e = cc
not_alt (form.If choices) wrong hs e = cc
not_alt (form.Alt alternatives) wrong hs e = wrong alternatives refl
not_alt (form.Var name width body) wrong hs e = cc
not_alt (form.Chan name width body) wrong hs e = cc

pub last_is : (l front : List (Guard × Proc)) (x : Guard × Proc) → l ≡ front ++ (x ∷ []) → branches l ≡ all_branches (branches front) (in_front x no_branch)
last_is l front x e = ap branches e ∙ branches-append front (x ∷ [])

-- it is one with an ALT under TRUE & SKIP
pub alt_last_is : (l front : List (Guard × Proc)) (x : Guard × Proc) (hs : Branches) → l ≡ front ++ (x ∷ []) → exp x.0.condition ≡ truth true → waiting x.0.wait ≡ ready → tree x.1 ≡ alt hs
    → branches l ≡ all_branches (branches front) (and_skip (alt hs) no_branch)
alt_last_is l front x hs e f g h = last_is l front x e ∙ ap (all_branches (branches front)) (branch_is f g h refl)

-- or it isn't
pub alt_last_never : (l front : List (Guard × Proc)) (x : Guard × Proc) → l ≡ front ++ (x ∷ []) → ((hs : Branches) → exp x.0.condition ≡ truth true → waiting x.0.wait ≡ ready → tree x.1 ≡ alt hs → ⊥)
    → (hs ks : Branches) → branches l ≡ all_branches hs (and_skip (alt ks) no_branch) → ⊥
alt_last_never l front x e wrong hs ks f =
    let u = (last_branches_are _ _ _ _ _ _ _ _ (sym (last_is l front x e) ∙ f)).1 in
    wrong ks (conditions_are _ _ _ _ _ _ _ _ u) (guards_are _ _ _ _ _ _ _ _ u) (processes_are _ _ _ _ _ _ _ _ u)

pub alt_last_of_none : (l : List (Guard × Proc)) → length l ≡ 0 → (hs ks : Branches) → branches l ≡ all_branches hs (and_skip (alt ks) no_branch) → ⊥
alt_last_of_none l none hs ks e = nothing hs ks (sym (none_there l none) ∙ e)
  where
    nothing : (hs ks : Branches) → no_branch ≡ all_branches hs (and_skip (alt ks) no_branch) → ⊥
    nothing no_branch ks e = cc
    nothing (and_branch b w p hs) ks e = cc
