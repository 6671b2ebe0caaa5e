-- A list of branches that lacks one branch of another list.
use Rattle.std.proofs.Common.{◌≡◌, ◌⊎◌, ◌↔◌, Bool, IsTrue, inl, inr, refl, ap, sym, ◌∙◌, subst}
use Rattle.occ_syntax.specs.declared.expr.Guard.{Guard}
use Rattle.occ_syntax.specs.declared.proc.Proc.{Proc}
use Rattle.occ_syntax.specs.Tree.{Exp, Waiting, Tree, Branches, no_branch, and_branch}
use Rattle.occ_syntax.specs.View.{exp, waiting, tree}
use Rattle.occ_law_shape.specs.occ_law.Lists.{all_branches}
use Rattle.occ_law_alt.specs.Fronts.{in_front}
use Rattle.occ_law_alt.specs.Lacking.{Lacks, lacks_first, lacks_later, LacksBranch}
use Rattle.occ_law_alt.proofs.Begun.{branch_is, conditions_are, guards_are, processes_are, rests_are}
use Rattle.occ_law_alt.proofs.Sought.{carried}

-- the branch that is lacked stands behind a branch of both lists
pub record LaterLacks (b : Exp) (w : Waiting) (p : Tree) (gs hs : Branches) : Type 0 where
  pub condition : Exp
  pub guard : Waiting
  pub process : Tree
  pub rest : Branches
  pub other : Branches
  pub first : gs ≡ and_branch condition guard process rest
  pub second : hs ≡ and_branch condition guard process other
  pub later : Lacks b w p rest other

-- the branch that is lacked is the first one, or stands behind
pub lacks_how : {b : Exp} {w : Waiting} {p : Tree} {gs hs : Branches} → Lacks b w p gs hs → (gs ≡ and_branch b w p hs) ⊎ LaterLacks b w p gs hs
lacks_how lacks_first = inl refl
lacks_how (lacks_later {c} {v} {q} {gs} {hs} h) = inr (record { condition = c; guard = v; process = q; rest = gs; other = hs; first = refl; second = refl; later = h })

-- three equal parts make an equal branch lacked
pub lacks_is : {b c : Exp} {v w : Waiting} {p q : Tree} (gs hs : Branches) → b ≡ c → v ≡ w → p ≡ q → Lacks b v p gs hs → Lacks c w q gs hs
lacks_is {b} {c} {v} {w} {p} {q} gs hs e f g h = subst (λ z. Lacks c w z gs hs) g (subst (λ z. Lacks c z p gs hs) f (subst (λ z. Lacks z v p gs hs) e h))

-- the first branch is lacked
pub first_lacked : (b : Exp) (w : Waiting) (p : Tree) (gs hs : Branches) → gs ≡ and_branch b w p hs → Lacks b w p gs hs
first_lacked b w p gs hs e = carried (Lacks b w p) (sym e) refl lacks_first

-- one turn: a branch that both lists begin with may stay, since an equal one behind it may be the one that is lacked
pub lacks_turn : {P : Type 0} (b : Exp) (w : Waiting) (p : Tree) (x : Guard × Proc) (xs ys gs hs : Branches) → xs ≡ in_front x gs → ys ≡ in_front x hs
    → (Lacks b w p xs ys ↔ P) → Lacks b w p gs hs ↔ P
lacks_turn {P} b w p x xs ys gs hs e f so_far = ((λ h. so_far.0 (carried (Lacks b w p) (sym e) (sym f) (lacks_later h))), out)
  where
    out : P → Lacks b w p gs hs
    out r = elim (lacks_how (so_far.1 r)) [
      | inl k ↦
          let u = sym e ∙ k in
          first_lacked b w p gs hs (rests_are _ _ _ _ _ _ _ _ u ∙ f ∙ branch_is (conditions_are _ _ _ _ _ _ _ _ u) (guards_are _ _ _ _ _ _ _ _ u) (processes_are _ _ _ _ _ _ _ _ u) refl)
      | inr m ↦ carried (Lacks b w p) (rests_are _ _ _ _ _ _ _ _ (sym m.first ∙ e)) (rests_are _ _ _ _ _ _ _ _ (sym m.second ∙ f)) m.later
    ]

-- where the other list doesn't begin with the first branch, that one is lacked
pub here_lacked : (x : Guard × Proc) (xs ys gs : Branches) → xs ≡ in_front x gs → gs ≡ ys → LacksBranch x xs ys
here_lacked x xs ys gs e f = first_lacked _ _ _ xs ys (e ∙ ap (in_front x) f)

-- the empty list has none
pub none_of_none : {P : Type 0} (b : Exp) (w : Waiting) (p : Tree) (xs ys : Branches) → xs ≡ no_branch → (Lacks b w p xs ys ↔ P) → P → ⊥
none_of_none b w p xs ys e so_far r = elim (lacks_how (so_far.1 r)) [
  | inl k ↦ nothing xs b w p ys e k
  | inr m ↦ nothing xs m.condition m.guard m.process m.rest e m.first
]
  where
    nothing : (xs : Branches) (b : Exp) (w : Waiting) (p : Tree) (gs : Branches) → xs ≡ no_branch → xs ≡ and_branch b w p gs → ⊥
    nothing xs b w p gs e f = cc

-- ---- one list lacks one branch of another

-- where the rest of a list is the list without one branch, that is an equal branch
repeated : (gs : Branches) (b c : Exp) (v w : Waiting) (p q : Tree) → Lacks c w q (and_branch b v p gs) gs → (b ≡ c) × (v ≡ w) × (p ≡ q)
repeated no_branch b c v w p q k = elim (lacks_how k) [
  | inl e ↦ (conditions_are _ _ _ _ _ _ _ _ e, guards_are _ _ _ _ _ _ _ _ e, processes_are _ _ _ _ _ _ _ _ e)
  | inr m ↦ absurd (nothing m.condition m.guard m.process m.other m.second)
]
  where
    nothing : (b : Exp) (w : Waiting) (p : Tree) (gs : Branches) → no_branch ≡ and_branch b w p gs → ⊥
    nothing b w p gs e = cc
repeated (and_branch d u r gs) b c v w p q k = elim (lacks_how k) [
  | inl e ↦ (conditions_are _ _ _ _ _ _ _ _ e, guards_are _ _ _ _ _ _ _ _ e, processes_are _ _ _ _ _ _ _ _ e)
  | inr m ↦
      let back = repeated gs d c u w r q (carried (Lacks c w q) (sym (rests_are _ _ _ _ _ _ _ _ m.first)) (sym (rests_are _ _ _ _ _ _ _ _ m.second)) m.later) in (
        conditions_are _ _ _ _ _ _ _ _ m.first ∙ sym (conditions_are _ _ _ _ _ _ _ _ m.second) ∙ back.0,
        guards_are _ _ _ _ _ _ _ _ m.first ∙ sym (guards_are _ _ _ _ _ _ _ _ m.second) ∙ back.1,
        processes_are _ _ _ _ _ _ _ _ m.first ∙ sym (processes_are _ _ _ _ _ _ _ _ m.second) ∙ back.2,
      )
]

-- two branches that one list lacks of another are equal
pub one_lacked : {b c : Exp} {v w : Waiting} {p q : Tree} {gs hs : Branches} → Lacks b v p gs hs → Lacks c w q gs hs → (b ≡ c) × (v ≡ w) × (p ≡ q)
one_lacked {c = c} {w = w} {q = q} (lacks_first {gs}) k = repeated gs _ c _ w _ q k
one_lacked {b} {c} {v} {w} {p} {q} (lacks_later {c = d} {v = u} {q = r} {gs} {hs} h) k = elim (lacks_how k) [
  | inl e ↦
      let back = repeated hs d b u v r p (carried (Lacks b v p) (rests_are _ _ _ _ _ _ _ _ e) refl h) in (
        sym back.0 ∙ conditions_are _ _ _ _ _ _ _ _ e,
        sym back.1 ∙ guards_are _ _ _ _ _ _ _ _ e,
        sym back.2 ∙ processes_are _ _ _ _ _ _ _ _ e,
      )
  | inr m ↦ one_lacked h (carried (Lacks c w q) (sym (rests_are _ _ _ _ _ _ _ _ m.first)) (sym (rests_are _ _ _ _ _ _ _ _ m.second)) m.later)
]

-- a branch is lacked where its guard and its process are those of the one that is lacked
pub lacks_where : (x : Guard × Proc) (b : Exp) (w : Waiting) (p : Tree) (gs hs : Branches) (t : Bool) → LacksBranch x gs hs → (exp x.0.condition ≡ b) × (waiting x.0.wait ≡ w)
    → (IsTrue t ↔ (tree x.1 ≡ p)) → IsTrue t ↔ Lacks b w p gs hs
lacks_where x b w p gs hs t h same test = ((λ k. lacks_is gs hs same.0 same.1 (test.0 k) h), (λ k. test.1 (one_lacked h k).2))

-- its guard is the one's guard
pub lacks_guard : (x : Guard × Proc) (b : Exp) (w : Waiting) (p : Tree) (gs hs : Branches) → LacksBranch x gs hs → Lacks b w p gs hs → (exp x.0.condition ≡ b) × (waiting x.0.wait ≡ w)
lacks_guard x b w p gs hs h k = let e = one_lacked h k in (e.0, e.1)

-- ---- the branch that is lacked parts the list

pub record Around (b : Exp) (w : Waiting) (p : Tree) (gs hs : Branches) : Type 0 where
  pub front : Branches
  pub rest : Branches
  pub first : gs ≡ all_branches front (and_branch b w p rest)
  pub second : hs ≡ all_branches front rest

pub around : {b : Exp} {w : Waiting} {p : Tree} {gs hs : Branches} → Lacks b w p gs hs → Around b w p gs hs
around (lacks_first {gs}) = record { front = no_branch; rest = gs; first = refl; second = refl }
around (lacks_later {c} {v} {q} h) =
    let r = around h in
    record { front = and_branch c v q r.front; rest = r.rest; first = ap (and_branch c v q) r.first; second = ap (and_branch c v q) r.second }

pub lacks_there : (b : Exp) (w : Waiting) (p : Tree) (front rest : Branches) → Lacks b w p (all_branches front (and_branch b w p rest)) (all_branches front rest)
lacks_there b w p no_branch rest = lacks_first
lacks_there b w p (and_branch c v q front) rest = lacks_later (lacks_there b w p front rest)
