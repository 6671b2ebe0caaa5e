-- seq-if by its choices, and seq-alt by its branches.
use Rattle.std.proofs.Common.{◌≡◌, ℕ, ◌↔◌, Bool, IsTrue, List, [], refl, ap, sym, ◌∙◌, subst}
use Rattle.occ_syntax.specs.Tree.{Tree, seq, select, alt, Trees, no_tree, and_tree, Cases, no_case, and_case, Branches, no_branch, and_branch}
use Rattle.occ_law_shape.specs.occ_law.Sequence.{SeqAlt, seq_alt, SeqIf, seq_if, each_branch_before, each_case_before}
use Rattle.occ_law_shape.specs.Pieces.{each_branch, each_choice}
use Rattle.occ_law_seq.specs.Behind.{followed}

pub never_divided : (ps : Trees) → ps ≡ no_tree → (p : Tree) (qs : Trees) → ps ≡ and_tree p qs → ⊥
never_divided ps e p qs k = cc

-- a SEQ is another one where its list is the other one's
pub seq_is : (w : Tree) (ps rs : Trees) (b : Bool) → seq ps ≡ w → (IsTrue b ↔ (ps ≡ rs)) → IsTrue b ↔ (w ≡ seq rs)
seq_is w ps rs b e test = ((λ h. sym e ∙ ap seq (test.0 h)), (λ k. test.1 (inner ps rs (e ∙ k))))
  where
    inner : (ps rs : Trees) → seq ps ≡ seq rs → ps ≡ rs
    inner ps rs e = cc

pieces_if : (cs : Cases) (qs : Trees) → each_choice (λ b. b) (followed qs) cs ≡ each_case_before cs qs
pieces_if no_case qs = refl
pieces_if (and_case b p cs) qs = ap (and_case b (seq (and_tree p qs))) (pieces_if cs qs)

if_right : (cs : Cases) (qs : Trees) (place : List ℕ) (r : Tree) → SeqIf place (seq (and_tree (select cs) qs)) r → r ≡ select (each_case_before cs qs)
if_right cs qs place r (seq_if ds rs) = refl

-- seq-if where the other choices are the choices with what follows
pub if_law : (f r : Tree) (cs ds : Cases) (qs : Trees) → select cs ≡ f → select ds ≡ r
    → (ds ≡ each_choice (λ b. b) (followed qs) cs) ↔ ((place : List ℕ) × SeqIf place (seq (and_tree f qs)) r)
if_law f r cs ds qs e g = (
  (λ h. ([], subst (λ z. SeqIf [] (seq (and_tree z qs)) r) e (subst (λ z. SeqIf [] (seq (and_tree (select cs) qs)) z) (ap select (sym (h ∙ pieces_if cs qs)) ∙ g) (seq_if cs qs)))),
  (λ k. inner ds (each_case_before cs qs) (g ∙ if_right cs qs k.0 r (subst (λ z. SeqIf k.0 (seq (and_tree z qs)) r) (sym e) k.1)) ∙ sym (pieces_if cs qs)),
)
  where
    inner : (cs ds : Cases) → select cs ≡ select ds → cs ≡ ds
    inner cs ds e = cc

-- a SEQ without parts isn't the left side
pub if_never : (l r : Tree) (ps : Trees) → seq ps ≡ l → ((p : Tree) (qs : Trees) → ps ≡ and_tree p qs → ⊥) → (place : List ℕ) × SeqIf place l r → ⊥
if_never l r ps e never k = first_there l r ps e never k.0 k.1
  where
    first_there : (l r : Tree) (ps : Trees) → seq ps ≡ l → ((p : Tree) (qs : Trees) → ps ≡ and_tree p qs → ⊥) → (place : List ℕ) → SeqIf place l r → ⊥
    first_there l r ps e never place (seq_if cs qs) =
        let g : ps ≡ and_tree (select cs) qs = cc in
        never (select cs) qs g

pieces_alt : (gs : Branches) (qs : Trees) → each_branch (λ b. b) (λ w. w) (λ w p. followed qs p) gs ≡ each_branch_before gs qs
pieces_alt no_branch qs = refl
pieces_alt (and_branch b w p gs) qs = ap (and_branch b w (seq (and_tree p qs))) (pieces_alt gs qs)

alt_right : (gs : Branches) (qs : Trees) (place : List ℕ) (r : Tree) → SeqAlt place (seq (and_tree (alt gs) qs)) r → r ≡ alt (each_branch_before gs qs)
alt_right gs qs place r (seq_alt hs rs) = refl

-- seq-alt where the other branches are the branches with what follows
pub alt_law : (f r : Tree) (gs hs : Branches) (qs : Trees) → alt gs ≡ f → alt hs ≡ r
    → (hs ≡ each_branch (λ b. b) (λ w. w) (λ w p. followed qs p) gs) ↔ ((place : List ℕ) × SeqAlt place (seq (and_tree f qs)) r)
alt_law f r gs hs qs e g = (
  (λ h. ([], subst (λ z. SeqAlt [] (seq (and_tree z qs)) r) e (subst (λ z. SeqAlt [] (seq (and_tree (alt gs) qs)) z) (ap alt (sym (h ∙ pieces_alt gs qs)) ∙ g) (seq_alt gs qs)))),
  (λ k. inner hs (each_branch_before gs qs) (g ∙ alt_right gs qs k.0 r (subst (λ z. SeqAlt k.0 (seq (and_tree z qs)) r) (sym e) k.1)) ∙ sym (pieces_alt gs qs)),
)
  where
    inner : (gs hs : Branches) → alt gs ≡ alt hs → gs ≡ hs
    inner gs hs e = cc

-- a SEQ without parts isn't the left side
pub alt_never : (l r : Tree) (ps : Trees) → seq ps ≡ l → ((p : Tree) (qs : Trees) → ps ≡ and_tree p qs → ⊥) → (place : List ℕ) × SeqAlt place l r → ⊥
alt_never l r ps e never k = first_there l r ps e never k.0 k.1
  where
    first_there : (l r : Tree) (ps : Trees) → seq ps ≡ l → ((p : Tree) (qs : Trees) → ps ≡ and_tree p qs → ⊥) → (place : List ℕ) → SeqAlt place l r → ⊥
    first_there l r ps e never place (seq_alt gs qs) =
        let g : ps ≡ and_tree (alt gs) qs = cc in
        never (alt gs) qs g
