-- alt-none and alt-skip, alt-slide and alt-least, and alt-order, by the branches of the two sides.
use Rattle.std.proofs.Common.{◌≡◌, ◌↔◌, ℕ, Bool, IsTrue, true, List, [], ◌∷◌, length, ap, sym, ◌∙◌}
use Rattle.occ_syntax.specs.declared.expr.Guard.{Guard}
use Rattle.occ_syntax.specs.declared.proc.Proc.{Proc}
use Rattle.occ_syntax.specs.Tree.{Tree, stop, alt, Branches, no_branch}
use Rattle.occ_syntax.specs.View.{branches}
use Rattle.occ_law_shape.specs.occ_law.Choice.{AltLeast, alt_least, AltNone, alt_none, AltOrder, alt_order, AltSkip, alt_skip, AltSlide, alt_slide, and_skip, are_events, are_plain_events}
use Rattle.occ_law_shape.specs.occ_law.Lists.{BranchesReordered, all_branches, tally}
use Rattle.occ_law_alt.proofs.Begun.{alt_tells, branches_none, last_branches_are, none_there, processes_are, rests_are}
use Rattle.occ_law_alt.proofs.Sought.{carried}

-- ---- alt-none

none_to : (xs : Branches) (l r : Tree) → alt xs ≡ l → (place : List ℕ) → AltNone place l r → xs ≡ no_branch
none_to xs l r e place alt_none = alt_tells _ _ e

pub none_law : (list : List (Guard × Proc)) (l r : Tree) (b : Bool) → alt (branches list) ≡ l → stop ≡ r → (IsTrue b ↔ (length list ≡ 0)) → IsTrue b ↔ ((place : List ℕ) × AltNone place l r)
none_law list l r b e f test = (
  (λ h. ([], carried (AltNone []) (ap alt (sym (none_there list (test.0 h))) ∙ e) f alt_none)),
  (λ k. test.1 (branches_none list (none_to (branches list) l r e k.0 k.1))),
)

-- ---- alt-skip

skip_to : (xs : Branches) (l r : Tree) → alt xs ≡ l → (place : List ℕ) → AltSkip place l r → xs ≡ and_skip r no_branch
skip_to xs l r e place (alt_skip p) = alt_tells _ _ e

pub skip_law : (xs : Branches) (rest : List (Guard × Proc)) (p l r : Tree) (b : Bool) → alt xs ≡ l → xs ≡ and_skip p (branches rest) → length rest ≡ 0 → (IsTrue b ↔ (p ≡ r))
    → IsTrue b ↔ ((place : List ℕ) × AltSkip place l r)
skip_law xs rest p l r b e f none test = (
  (λ h. ([], carried (AltSkip []) (ap alt (sym (f ∙ ap (and_skip p) (none_there rest none))) ∙ e) (test.0 h) (alt_skip p))),
  (λ k. test.1 (processes_are _ _ _ _ _ _ _ _ (sym f ∙ skip_to xs l r e k.0 k.1))),
)

pub skip_more : (xs : Branches) (rest : List (Guard × Proc)) (p l r : Tree) → alt xs ≡ l → xs ≡ and_skip p (branches rest) → (length rest ≡ 0 → ⊥) → (place : List ℕ) × AltSkip place l r → ⊥
skip_more xs rest p l r e f some k = some (branches_none rest (rests_are _ _ _ _ _ _ _ _ (sym f ∙ skip_to xs l r e k.0 k.1)))

pub skip_never : (xs : Branches) (l r : Tree) → alt xs ≡ l → ((p : Tree) (hs : Branches) → xs ≡ and_skip p hs → ⊥) → (place : List ℕ) × AltSkip place l r → ⊥
skip_never xs l r e never k = never _ _ (skip_to xs l r e k.0 k.1)

-- ---- alt-slide

record SlideOf (xs ys : Branches) : Type 0 where
  pub front : Branches
  pub more : Branches
  pub event : are_events front ≡ true
  pub first : xs ≡ all_branches front (and_skip (alt (all_branches front more)) no_branch)
  pub second : ys ≡ all_branches front more

slide_to : (xs ys : Branches) (l r : Tree) → alt xs ≡ l → alt ys ≡ r → (place : List ℕ) → AltSlide place l r → SlideOf xs ys
slide_to xs ys l r e f place (alt_slide gs hs s) = record { front = gs; more = hs; event = s; first = alt_tells _ _ e; second = alt_tells _ _ f }

pub slide_law : (xs ys front inner : Branches) (l r : Tree) (b : Bool) → alt xs ≡ l → alt ys ≡ r → xs ≡ all_branches front (and_skip (alt inner) no_branch)
    → (IsTrue b ↔ ((are_events front ≡ true) × (inner ≡ ys) × ((rest : Branches) × (ys ≡ all_branches front rest)))) → IsTrue b ↔ ((place : List ℕ) × AltSlide place l r)
slide_law xs ys front inner l r b e f g test = (into, out)
  where
    into : IsTrue b → (place : List ℕ) × AltSlide place l r
    into h =
        let t = test.0 h in
        let u = t.2 in
        let i = t.1 ∙ u.1 in
        (tally front ∷ [], carried (AltSlide (tally front ∷ [])) (ap alt (sym (g ∙ ap (λ z. all_branches front (and_skip (alt z) no_branch)) i)) ∙ e) (ap alt (sym u.1) ∙ f) (alt_slide front u.0 t.0))

    out : (place : List ℕ) × AltSlide place l r → IsTrue b
    out k =
        let s = slide_to xs ys l r e f k.0 k.1 in
        let w = last_branches_are _ _ _ _ _ _ _ _ (sym s.first ∙ g) in
        let i = alt_tells _ _ (processes_are _ _ _ _ _ _ _ _ w.1) in
        test.1 (sym (ap are_events w.0) ∙ s.event, sym i ∙ sym s.second, (s.more, s.second ∙ ap (λ z. all_branches z s.more) w.0))

pub slide_never : (xs ys : Branches) (l r : Tree) → alt xs ≡ l → alt ys ≡ r → ((hs ks : Branches) → xs ≡ all_branches hs (and_skip (alt ks) no_branch) → ⊥) → (place : List ℕ) × AltSlide place l r → ⊥
slide_never xs ys l r e f never k =
    let s = slide_to xs ys l r e f k.0 k.1 in
    never s.front _ s.first

-- ---- alt-least

record LeastOf (xs ys : Branches) : Type 0 where
  pub less : Branches
  pub more : Branches
  pub plain : are_plain_events less ≡ true
  pub plain_too : are_plain_events more ≡ true
  pub first : xs ≡ and_skip (alt less) (and_skip (alt (all_branches less more)) no_branch)
  pub second : ys ≡ all_branches more (and_skip (alt less) no_branch)

least_to : (xs ys : Branches) (l r : Tree) → alt xs ≡ l → alt ys ≡ r → (place : List ℕ) → AltLeast place l r → LeastOf xs ys
least_to xs ys l r e f place (alt_least gs hs s t) = record { less = gs; more = hs; plain = s; plain_too = t; first = alt_tells _ _ e; second = alt_tells _ _ f }

pub least_law : (xs ys less whole more again : Branches) (l r : Tree) (b : Bool) → alt xs ≡ l → alt ys ≡ r → xs ≡ and_skip (alt less) (and_skip (alt whole) no_branch)
    → ys ≡ all_branches more (and_skip (alt again) no_branch)
    → (IsTrue b ↔ ((again ≡ less) × (whole ≡ all_branches less more) × (are_plain_events less ≡ true) × (are_plain_events more ≡ true))) → IsTrue b ↔ ((place : List ℕ) × AltLeast place l r)
least_law xs ys less whole more again l r b e f g h test = (into, out)
  where
    into : IsTrue b → (place : List ℕ) × AltLeast place l r
    into k =
        let t = test.0 k in (
          [],
          carried (AltLeast []) (ap alt (sym (g ∙ ap (λ z. and_skip (alt less) (and_skip (alt z) no_branch)) t.1)) ∙ e) (ap alt (sym (h ∙ ap (λ z. all_branches more (and_skip (alt z) no_branch)) t.0)) ∙ f)
              (alt_least less more t.2 t.3),
        )

    out : (place : List ℕ) × AltLeast place l r → IsTrue b
    out k =
        let s = least_to xs ys l r e f k.0 k.1 in
        let u = sym s.first ∙ g in
        let i = alt_tells _ _ (processes_are _ _ _ _ _ _ _ _ u) in
        let o = alt_tells _ _ (processes_are _ _ _ _ _ _ _ _ (rests_are _ _ _ _ _ _ _ _ u)) in
        let w = last_branches_are _ _ _ _ _ _ _ _ (sym s.second ∙ h) in
        let a = alt_tells _ _ (processes_are _ _ _ _ _ _ _ _ w.1) in
        test.1 (sym a ∙ i, sym o ∙ ap (λ z. all_branches z s.more) i ∙ ap (all_branches less) w.0, sym (ap are_plain_events i) ∙ s.plain, sym (ap are_plain_events w.0) ∙ s.plain_too)

pub least_never : (xs ys : Branches) (l r : Tree) → alt xs ≡ l → alt ys ≡ r → ((hs ks : Branches) → xs ≡ and_skip (alt hs) (and_skip (alt ks) no_branch) → ⊥) → (place : List ℕ) × AltLeast place l r → ⊥
least_never xs ys l r e f never k =
    let s = least_to xs ys l r e f k.0 k.1 in
    never s.less _ s.first

pub least_without : (xs ys : Branches) (l r : Tree) → alt xs ≡ l → alt ys ≡ r → ((hs ks : Branches) → ys ≡ all_branches hs (and_skip (alt ks) no_branch) → ⊥) → (place : List ℕ) × AltLeast place l r → ⊥
least_without xs ys l r e f never k =
    let s = least_to xs ys l r e f k.0 k.1 in
    never s.more s.less s.second

-- ---- alt-order

pub order_law : (xs ys : Branches) (l r : Tree) → alt xs ≡ l → alt ys ≡ r → BranchesReordered xs ys ↔ ((place : List ℕ) × AltOrder place l r)
order_law xs ys l r e f = ((λ h. ([], carried (AltOrder []) e f (alt_order xs ys h))), (λ k. out l r e f k.0 k.1))
  where
    out : (l r : Tree) → alt xs ≡ l → alt ys ≡ r → (place : List ℕ) → AltOrder place l r → BranchesReordered xs ys
    out l r e f place (alt_order gs hs h) = carried BranchesReordered (sym (alt_tells _ _ e)) (sym (alt_tells _ _ f)) h
