-- The same branches in any order: equal branches may be cancelled.
use Rattle.std.proofs.Common.{◌≡◌, ℕ, zero, suc, ◌<◌, ◌⊎◌, ◌↔◌, Bool, IsTrue, List, [], ◌∷◌, inl, inr, length, get_or, refl, ap, sym, ◌∙◌, arith}
use Rattle.std.specs.Borrow.{Bor}
use Rattle.std.specs.List.{remove}
use Rattle.occ_syntax.specs.declared.expr.Guard.{Guard}
use Rattle.occ_syntax.specs.declared.proc.Proc.{Proc}
use Rattle.occ_syntax.specs.Tree.{Exp, Waiting, Tree, Branches, no_branch, and_branch}
use Rattle.occ_syntax.specs.View.{branches}
use Rattle.occ_law_shape.specs.occ_law.Lists.{BranchesReordered, same_branches, behind_branch, two_branches, branches_in_steps}
use Rattle.occ_law_alt.specs.Fronts.{IsSameBranch, in_front}
use Rattle.occ_law_alt.specs.Lacking.{Lacks, lacks_first, lacks_later, LacksBranch, shown}
use Rattle.occ_law_alt.proofs.Begun.{branch_is, branches_none, conditions_are, guards_are, none_there, processes_are, rests_are}
use Rattle.occ_law_alt.proofs.Sought.{carried}
use Rattle.occ_law_alt.proofs.Without.{LaterLacks, first_lacked, lacks_how, none_of_none}

-- a branch that another order has too, and what is left there
pub record Moved (b : Exp) (w : Waiting) (p : Tree) (hs ks : Branches) : Type 0 where
  pub rest : Branches
  pub lacks : Lacks b w p hs rest
  pub order : BranchesReordered ks rest

-- an equal list is another order
reordered_is : (gs ks hs : Branches) → ks ≡ gs → BranchesReordered gs hs → BranchesReordered ks hs
reordered_is gs ks hs e r = carried BranchesReordered (sym e) refl r

-- a branch of a list is in every other order of it
pub moved : {b : Exp} {w : Waiting} {p : Tree} {gs hs : Branches} → BranchesReordered gs hs → (ks : Branches) → Lacks b w p gs ks → Moved b w p hs ks
moved same_branches ks l = record { rest = ks; lacks = l; order = same_branches }
moved {b} {w} {p} (behind_branch {b = c} {w = v} {p = q} {gs} {hs} r) ks l = elim (lacks_how l) [
  | inl e ↦ record {
    rest = hs;
    lacks = first_lacked b w p _ hs (branch_is (conditions_are _ _ _ _ _ _ _ _ e) (guards_are _ _ _ _ _ _ _ _ e) (processes_are _ _ _ _ _ _ _ _ e) refl);
    order = reordered_is gs ks hs (sym (rests_are _ _ _ _ _ _ _ _ e)) r;
  }
  | inr m ↦
      let t = moved r m.other (carried (Lacks b w p) (sym (rests_are _ _ _ _ _ _ _ _ m.first)) refl m.later) in
      let same = branch_is (sym (conditions_are _ _ _ _ _ _ _ _ m.first)) (sym (guards_are _ _ _ _ _ _ _ _ m.first)) (sym (processes_are _ _ _ _ _ _ _ _ m.first)) refl in
      record {
        rest = and_branch c v q t.rest;
        lacks = lacks_later t.lacks;
        order = reordered_is (and_branch c v q m.other) ks _ (m.second ∙ same) (behind_branch t.order);
      }
]
moved {b} {w} {p} (two_branches {b = c} {c = d} {v} {w = u} {p = q} {q = r} {gs}) ks l = elim (lacks_how l) [
  | inl e ↦ record {
    rest = and_branch d u r gs;
    lacks = lacks_later (first_lacked b w p _ gs (branch_is (conditions_are _ _ _ _ _ _ _ _ e) (guards_are _ _ _ _ _ _ _ _ e) (processes_are _ _ _ _ _ _ _ _ e) refl));
    order = reordered_is _ ks _ (sym (rests_are _ _ _ _ _ _ _ _ e)) same_branches;
  }
  | inr m ↦
      let same = branch_is (sym (conditions_are _ _ _ _ _ _ _ _ m.first)) (sym (guards_are _ _ _ _ _ _ _ _ m.first)) (sym (processes_are _ _ _ _ _ _ _ _ m.first)) refl in
      second_or_later m.other (m.second ∙ same) (lacks_how (carried (Lacks b w p) (sym (rests_are _ _ _ _ _ _ _ _ m.first)) refl m.later))
]
  where
    second_or_later : (other : Branches) → ks ≡ and_branch c v q other → (and_branch d u r gs ≡ and_branch b w p other) ⊎ LaterLacks b w p (and_branch d u r gs) other
        → Moved b w p (and_branch d u r (and_branch c v q gs)) ks
    second_or_later other f (inl e) = record {
      rest = and_branch c v q gs;
      lacks = first_lacked b w p _ _ (branch_is (conditions_are _ _ _ _ _ _ _ _ e) (guards_are _ _ _ _ _ _ _ _ e) (processes_are _ _ _ _ _ _ _ _ e) refl);
      order = reordered_is _ ks _ (f ∙ ap (and_branch c v q) (sym (rests_are _ _ _ _ _ _ _ _ e))) same_branches;
    }
    second_or_later other f (inr n) =
        let same = branch_is (sym (conditions_are _ _ _ _ _ _ _ _ n.first)) (sym (guards_are _ _ _ _ _ _ _ _ n.first)) (sym (processes_are _ _ _ _ _ _ _ _ n.first)) refl in
        record {
          rest = and_branch d u r (and_branch c v q n.other);
          lacks = lacks_later (lacks_later (carried (Lacks b w p) (sym (rests_are _ _ _ _ _ _ _ _ n.first)) refl n.later));
          order = reordered_is (and_branch c v q (and_branch d u r n.other)) ks _ (f ∙ ap (and_branch c v q) (n.second ∙ same)) two_branches;
        }
moved (branches_in_steps r s) ks l =
    let m = moved r ks l in
    let n = moved s m.rest m.lacks in
    record { rest = n.rest; lacks = n.lacks; order = branches_in_steps m.order n.order }

-- a branch may be put in front
in_front_of : {b : Exp} {w : Waiting} {p : Tree} {gs hs : Branches} → Lacks b w p gs hs → BranchesReordered gs (and_branch b w p hs)
in_front_of lacks_first = same_branches
in_front_of (lacks_later h) = branches_in_steps (behind_branch (in_front_of h)) two_branches

-- and back
from_front : {b : Exp} {w : Waiting} {p : Tree} {gs hs : Branches} → Lacks b w p gs hs → BranchesReordered (and_branch b w p hs) gs
from_front lacks_first = same_branches
from_front (lacks_later h) = branches_in_steps two_branches (behind_branch (from_front h))

-- what is left of a list without a branch is one list but for the order
left_over : {b : Exp} {w : Waiting} {p : Tree} {gs hs : Branches} → Lacks b w p gs hs → (ks : Branches) → Lacks b w p gs ks → BranchesReordered hs ks
left_over {b} {w} {p} (lacks_first {gs}) ks l = elim (lacks_how l) [
  | inl e ↦ carried BranchesReordered refl (rests_are _ _ _ _ _ _ _ _ e) same_branches
  | inr m ↦ carried BranchesReordered (sym (rests_are _ _ _ _ _ _ _ _ m.first))
      (branch_is (conditions_are _ _ _ _ _ _ _ _ m.first) (guards_are _ _ _ _ _ _ _ _ m.first) (processes_are _ _ _ _ _ _ _ _ m.first) refl ∙ sym m.second) (in_front_of m.later)
]
left_over {b} {w} {p} (lacks_later {c} {v} {q} {gs} {hs} h) ks l = elim (lacks_how l) [
  | inl e ↦ carried BranchesReordered (branch_is (sym (conditions_are _ _ _ _ _ _ _ _ e)) (sym (guards_are _ _ _ _ _ _ _ _ e)) (sym (processes_are _ _ _ _ _ _ _ _ e)) refl)
      (rests_are _ _ _ _ _ _ _ _ e) (from_front h)
  | inr m ↦
      let same = branch_is (conditions_are _ _ _ _ _ _ _ _ m.first) (guards_are _ _ _ _ _ _ _ _ m.first) (processes_are _ _ _ _ _ _ _ _ m.first) refl in
      carried BranchesReordered refl (same ∙ sym m.second) (behind_branch (left_over h m.other (carried (Lacks b w p) (sym (rests_are _ _ _ _ _ _ _ _ m.first)) refl m.later)))
]

-- one turn: the first branch of one list is cancelled with an equal one of the other list
pub cancel_turn : {P : Type 0} (x : Guard × Proc) (xs gs hs ks : Branches) → xs ≡ in_front x gs → LacksBranch x hs ks → (BranchesReordered xs hs ↔ P) → BranchesReordered gs ks ↔ P
cancel_turn {P} x xs gs hs ks e l so_far = (
  (λ r. so_far.0 (carried BranchesReordered (sym e) refl (branches_in_steps (behind_branch r) (from_front l)))),
  out,
)
  where
    out : P → BranchesReordered gs ks
    out r =
        let m = moved (so_far.1 r) gs (first_lacked _ _ _ xs gs e) in
        branches_in_steps m.order (left_over m.lacks ks l)

-- the first branch of one list isn't in the other one
pub cancel_never : {P : Type 0} (x : Guard × Proc) (xs gs hs : Branches) → xs ≡ in_front x gs → ((ks : Branches) → LacksBranch x hs ks → ⊥) → (BranchesReordered xs hs ↔ P) → P → ⊥
cancel_never x xs gs hs e never so_far r =
    let m = moved (so_far.1 r) gs (first_lacked _ _ _ xs gs e) in
    never m.rest m.lacks

-- another order of no branch has none
still_none : {gs hs : Branches} → BranchesReordered gs hs → gs ≡ no_branch → hs ≡ no_branch
still_none same_branches e = e
still_none (behind_branch r) e = cc
still_none two_branches e = cc
still_none (branches_in_steps r s) e = still_none s (still_none r e)

-- at the end of one list, the other one has to be at its end
pub cancel_whole : {P : Type 0} (xs : Branches) (rest : List (Guard × Proc)) (b : Bool) → xs ≡ no_branch → (BranchesReordered xs (branches rest) ↔ P) → (IsTrue b ↔ (length rest ≡ 0)) → IsTrue b ↔ P
cancel_whole xs rest b e so_far test = (
  (λ h. so_far.0 (carried BranchesReordered refl (e ∙ sym (none_there rest (test.0 h))) same_branches)),
  (λ r. test.1 (branches_none rest (still_none (so_far.1 r) e))),
)

-- ---- a branch found by its place among references

pub found_at : (x : Guard × Proc) (l : List (Bor (Guard × Proc))) (i : ℕ) (y : Bor (Guard × Proc)) → i < length l → y ≡ get_or l i y → IsSameBranch x y.now → LacksBranch x (shown l) (shown (remove l i))
found_at x [] i y h e same = absurd (omega (arith, h))
found_at x (z ∷ l) zero y h e same =
    first_lacked _ _ _ _ _ (ap (λ u. in_front u.now (shown l)) (sym e) ∙ branch_is (sym same.0) (sym same.1) (sym same.2) refl)
found_at x (z ∷ l) (suc i) y h e same = lacks_later (found_at x l i y (omega (arith, h)) e same)

-- where no reference shows it, it isn't there
pub never_there : (x : Guard × Proc) (l : List (Bor (Guard × Proc))) → ((k : ℕ) (y : Bor (Guard × Proc)) → k < length l → y ≡ get_or l k y → IsSameBranch x y.now → ⊥) → (hs : Branches) → LacksBranch x (shown l) hs → ⊥
never_there x [] never hs h = none_of_none _ _ _ (shown []) hs refl ((λ k. k), (λ k. k)) h
never_there x (z ∷ l) never hs h = elim (lacks_how h) [
  | inl e ↦ never 0 z (omega arith) refl (sym (conditions_are _ _ _ _ _ _ _ _ e), sym (guards_are _ _ _ _ _ _ _ _ e), sym (processes_are _ _ _ _ _ _ _ _ e))
  | inr m ↦ never_there x l (λ k y i e same. never (suc k) y (omega (arith, i)) e same) m.other (carried (LacksBranch x) (sym (rests_are _ _ _ _ _ _ _ _ m.first)) refl m.later)
]
