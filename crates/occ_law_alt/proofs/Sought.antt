-- A place sought in two lists of branches.
use Rattle.std.proofs.Common.{◌≡◌, ◌⊎◌, ◌↔◌, inl, inr, refl, ap, sym, ◌∙◌, subst}
use Rattle.occ_syntax.specs.declared.expr.Guard.{Guard}
use Rattle.occ_syntax.specs.declared.proc.Proc.{Proc}
use Rattle.occ_syntax.specs.Tree.{Exp, Waiting, Tree, Branches, no_branch, and_branch}
use Rattle.occ_law_shape.specs.occ_law.Lists.{all_branches}
use Rattle.occ_law_alt.specs.Fronts.{in_front}
use Rattle.occ_law_alt.specs.Places.{Somewhere, here, behind}
use Rattle.occ_law_alt.proofs.Begun.{rests_are}

-- one step behind the beginning of two lists, with what holds there
pub record Later (J : Branches → Branches → Type 0) (gs us : Branches) : Type 0 where
  pub condition : Exp
  pub guard : Waiting
  pub process : Tree
  pub rest : Branches
  pub other : Branches
  pub first : gs ≡ and_branch condition guard process rest
  pub second : us ≡ and_branch condition guard process other
  pub later : Somewhere J rest other

-- a place is at the beginning, or later
pub opens : (J : Branches → Branches → Type 0) {gs us : Branches} → Somewhere J gs us → J gs us ⊎ Later J gs us
opens J (here j) = inl j
opens J (behind {b} {w} {p} {gs} {us} h) = inr (record { condition = b; guard = w; process = p; rest = gs; other = us; first = refl; second = refl; later = h })

-- two things that are equal to others, in a relation
pub carried : {A B : Type 0} (D : A → B → Type 0) {l k : A} {r s : B} → l ≡ k → r ≡ s → D l r → D k s
carried D {l} {k} {r} {s} e f d = subst (λ z. D z s) e (subst (D l) f d)

pub later_is : (J : Branches → Branches → Type 0) (x : Guard × Proc) (xs ys gs us : Branches) → xs ≡ in_front x gs → ys ≡ in_front x us → Somewhere J gs us → Somewhere J xs ys
later_is J x xs ys gs us e f h = carried (Somewhere J) (sym e) (sym f) (behind h)

-- one turn: behind a branch of both lists, where no place is at the beginning
pub turns : {P : Type 0} (J : Branches → Branches → Type 0) (x : Guard × Proc) (xs ys gs us : Branches) → xs ≡ in_front x gs → ys ≡ in_front x us
    → (J xs ys → ⊥) → (Somewhere J xs ys ↔ P) → Somewhere J gs us ↔ P
turns {P} J x xs ys gs us e f not_here so_far = ((λ h. so_far.0 (later_is J x xs ys gs us e f h)), out)
  where
    out : P → Somewhere J gs us
    out r = elim (opens J (so_far.1 r)) [
      | inl j ↦ absurd (not_here j)
      | inr k ↦ carried (Somewhere J) (rests_are _ _ _ _ _ _ _ _ (sym k.first ∙ e)) (rests_are _ _ _ _ _ _ _ _ (sym k.second ∙ f)) k.later
    ]

-- ---- a place parts both lists behind one front

pub record Parted (J : Branches → Branches → Type 0) (gs us : Branches) : Type 0 where
  pub front : Branches
  pub rest : Branches
  pub other : Branches
  pub first : gs ≡ all_branches front rest
  pub second : us ≡ all_branches front other
  pub join : J rest other

pub parted : (J : Branches → Branches → Type 0) {gs us : Branches} → Somewhere J gs us → Parted J gs us
parted J (here {gs} {us} j) = record { front = no_branch; rest = gs; other = us; first = refl; second = refl; join = j }
parted J (behind {b} {w} {p} h) =
    let r = parted J h in
    record { front = and_branch b w p r.front; rest = r.rest; other = r.other; first = ap (and_branch b w p) r.first; second = ap (and_branch b w p) r.second; join = r.join }

-- behind one front there is a place
pub joined : (J : Branches → Branches → Type 0) (front rest other : Branches) → J rest other → Somewhere J (all_branches front rest) (all_branches front other)
joined J no_branch rest other j = here j
joined J (and_branch b w p gs) rest other j = behind (joined J gs rest other j)
