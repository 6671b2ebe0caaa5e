-- alt-case: three lists that are equal up to a branch.
use Rattle.std.proofs.Common.{◌≡◌, ◌⊎◌, ◌↔◌, ℕ, true, List, [], ◌∷◌, inl, inr, refl, ap, sym, ◌∙◌}
use Rattle.occ_syntax.specs.declared.expr.Guard.{Guard}
use Rattle.occ_syntax.specs.declared.proc.Proc.{Proc}
use Rattle.occ_syntax.specs.Tree.{Exp, truth, Waiting, Tree, alt, select, Cases, no_case, and_case, Branches, no_branch, and_branch}
use Rattle.occ_law_shape.specs.occ_law.Choice.{AltCase, alt_case}
use Rattle.occ_law_shape.specs.occ_law.Lists.{all_branches, tally}
use Rattle.occ_law_alt.specs.Fronts.{in_front}
use Rattle.occ_law_alt.specs.Places.{CaseAt, CaseHere, case_behind, case_here}
use Rattle.occ_law_alt.proofs.Begun.{alt_tells, branch_is, conditions_are, guards_are, processes_are, rests_are}
use Rattle.occ_law_alt.proofs.Sought.{carried}

-- the place is behind a branch of all three lists
record LaterCase (b : Exp) (gs hs ks : Branches) : Type 0 where
  pub condition : Exp
  pub guard : Waiting
  pub process : Tree
  pub rest : Branches
  pub second_rest : Branches
  pub third_rest : Branches
  pub first : gs ≡ and_branch condition guard process rest
  pub second : hs ≡ and_branch condition guard process second_rest
  pub third : ks ≡ and_branch condition guard process third_rest
  pub later : CaseAt b rest second_rest third_rest

case_how : {b : Exp} {gs hs ks : Branches} → CaseAt b gs hs ks → CaseHere b gs hs ks ⊎ LaterCase b gs hs ks
case_how (case_here h) = inl h
case_how (case_behind {c} {v} {q} {gs} {hs} {ks} h) =
    inr (record { condition = c; guard = v; process = q; rest = gs; second_rest = hs; third_rest = ks; first = refl; second = refl; third = refl; later = h })

-- equal lists have the place too
case_is : (b : Exp) {gs hs ks gs2 hs2 ks2 : Branches} → gs ≡ gs2 → hs ≡ hs2 → ks ≡ ks2 → CaseAt b gs hs ks → CaseAt b gs2 hs2 ks2
case_is b {hs = hs} {ks = ks} {gs2 = gs2} e f g h = carried (CaseAt b gs2) f g (carried (λ x y. CaseAt b x hs y) e refl h)

-- one turn: behind a branch of all three lists, where the place isn't at the beginning
pub case_turn : {P : Type 0} (b : Exp) (x : Guard × Proc) (xs ys zs gs hs ks : Branches) → xs ≡ in_front x gs → ys ≡ in_front x hs → zs ≡ in_front x ks
    → (CaseHere b xs ys zs → ⊥) → (CaseAt b xs ys zs ↔ P) → CaseAt b gs hs ks ↔ P
case_turn {P} b x xs ys zs gs hs ks e f g not_here so_far = ((λ h. so_far.0 (case_is b (sym e) (sym f) (sym g) (case_behind h))), out)
  where
    out : P → CaseAt b gs hs ks
    out r = elim (case_how (so_far.1 r)) [
      | inl j ↦ absurd (not_here j)
      | inr m ↦ case_is b (rests_are _ _ _ _ _ _ _ _ (sym m.first ∙ e)) (rests_are _ _ _ _ _ _ _ _ (sym m.second ∙ f)) (rests_are _ _ _ _ _ _ _ _ (sym m.third ∙ g)) m.later
    ]

-- ---- the place is alt-case

record CaseParts (b : Exp) (gs hs ks : Branches) : Type 0 where
  pub front : Branches
  pub guard : Waiting
  pub process : Tree
  pub rest : Branches
  pub first : gs ≡ all_branches front (and_branch b guard process rest)
  pub second : hs ≡ all_branches front (and_branch (truth true) guard process rest)
  pub third : ks ≡ all_branches front rest

case_parts : {b : Exp} {gs hs ks : Branches} → CaseAt b gs hs ks → CaseParts b gs hs ks
case_parts (case_here {ks} h) = record { front = no_branch; guard = h.guard; process = h.process; rest = ks; first = h.first; second = h.second; third = refl }
case_parts (case_behind {c} {v} {q} h) =
    let r = case_parts h in
    record { front = and_branch c v q r.front; guard = r.guard; process = r.process; rest = r.rest; first = ap (and_branch c v q) r.first; second = ap (and_branch c v q) r.second; third = ap (and_branch c v q) r.third }

case_there : (b : Exp) (w : Waiting) (p : Tree) (front rest : Branches)
    → CaseAt b (all_branches front (and_branch b w p rest)) (all_branches front (and_branch (truth true) w p rest)) (all_branches front rest)
case_there b w p no_branch rest = case_here (record { guard = w; process = p; first = refl; second = refl })
case_there b w p (and_branch c v q front) rest = case_behind (case_there b w p front rest)

-- the two choices of the right side
halves_of : Exp → Branches → Branches → Cases
halves_of b ys zs = and_case b (alt ys) (and_case (truth true) (alt zs) no_case)

halves_tell : (b c : Exp) (ys zs us vs : Branches) → halves_of b ys zs ≡ halves_of c us vs → (b ≡ c) × (ys ≡ us) × (zs ≡ vs)
unfolding halves_of
halves_tell b c ys zs us vs e =
    let f : b ≡ c = cc in
    let g : alt ys ≡ alt us = cc in
    let h : alt zs ≡ alt vs = cc in
    (f, alt_tells ys us g, alt_tells zs vs h)

select_tells : (cs ds : Cases) → select cs ≡ select ds → cs ≡ ds
select_tells cs ds e = cc

-- alt-case by the branches of the left side and of both ALTs of the right side
pub case_law : (l r : Tree) (xs ys zs : Branches) (cs : Cases) (b : Exp) → alt xs ≡ l → select cs ≡ r → cs ≡ and_case b (alt ys) (and_case (truth true) (alt zs) no_case)
    → CaseAt b xs ys zs ↔ ((place : List ℕ) × AltCase place l r)
unfolding halves_of
case_law l r xs ys zs cs b e f g = (into, (λ k. out k.0 l r e (f) k.1))
  where
    into : CaseAt b xs ys zs → (place : List ℕ) × AltCase place l r
    into h =
        let p = case_parts h in
        let right : select (halves_of b (all_branches p.front (and_branch (truth true) p.guard p.process p.rest)) (all_branches p.front p.rest)) ≡ r =
        ap (λ z. select (halves_of b z (all_branches p.front p.rest))) (sym p.second) ∙ ap (λ z. select (halves_of b ys z)) (sym p.third) ∙ ap select (sym g) ∙ f in
        (tally p.front ∷ [], carried (AltCase (tally p.front ∷ [])) (ap alt (sym p.first) ∙ e) right (alt_case p.front p.rest b p.guard p.process))

    out : (place : List ℕ) (l r : Tree) → alt xs ≡ l → select cs ≡ r → AltCase place l r → CaseAt b xs ys zs
    out place l r e f (alt_case gs hs c w p) =
        let t = halves_tell c b (all_branches gs (and_branch (truth true) w p hs)) (all_branches gs hs) ys zs (sym (select_tells _ _ (ap select (sym g) ∙ f))) in
        case_is b (ap (λ z. all_branches gs (and_branch z w p hs)) (sym t.0) ∙ sym (alt_tells _ _ e)) t.1 t.2 (case_there b w p gs hs)

-- where the right side isn't of that form, alt-case isn't
pub case_never : (l r : Tree) (cs : Cases) → select cs ≡ r → ((b : Exp) (hs ks : Branches) → cs ≡ and_case b (alt hs) (and_case (truth true) (alt ks) no_case) → ⊥)
    → (place : List ℕ) × AltCase place l r → ⊥
case_never l r cs f never k = out l r f k.0 k.1
  where
    out : (l r : Tree) → select cs ≡ r → (place : List ℕ) → AltCase place l r → ⊥
    out l r f place (alt_case gs hs b w p) = never b _ _ (select_tells _ _ f)
