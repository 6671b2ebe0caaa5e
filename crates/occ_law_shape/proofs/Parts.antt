-- Lists of processes taken apart: at a place, and behind a front.
use Rattle.std.proofs.Common.{◌≡◌, ◌+◌, ◌⊎◌, ◌↔◌, inl, inr, arith, refl, ap, sym, ◌∙◌, subst}
use Rattle.occ_syntax.specs.Tree.{Tree, Trees, no_tree, and_tree}
use Rattle.occ_law.specs.occ_meaning.Parallel.{all_of}
use Rattle.occ_law.specs.Lists.{size}
use Rattle.occ_law_shape.specs.Places.{Somewhere, here, behind}

-- two lists that are equal up to a place, with what is related from there on
pub record Parted (J : Trees → Trees → Type 0) (ps us : Trees) : Type 0 where
  pub front : Trees
  pub rest : Trees
  pub other : Trees
  pub first : ps ≡ all_of front rest
  pub second : us ≡ all_of front other
  pub join : J rest other

-- a place in two lists parts both behind one front
pub parted : (J : Trees → Trees → Type 0) {ps us : Trees} → Somewhere J ps us → Parted J ps us
parted J (here {ps} {us} j) = record { front = no_tree; rest = ps; other = us; first = refl; second = refl; join = j }
parted J (behind {p} h) =
    let r = parted J h in
    record { front = and_tree p r.front; rest = r.rest; other = r.other; first = ap (and_tree p) r.first; second = ap (and_tree p) r.second; join = r.join }

-- behind one front there is a place
pub joined : (J : Trees → Trees → Type 0) (front rest other : Trees) → J rest other → Somewhere J (all_of front rest) (all_of front other)
joined J no_tree rest other j = here j
joined J (and_tree p ps) rest other j = behind (joined J ps rest other j)

-- a place in two lists that are there is at their beginning, or behind equal fronts
pub opens : (J : Trees → Trees → Type 0) {p q : Tree} {ps us : Trees} → Somewhere J (and_tree p ps) (and_tree q us) → J (and_tree p ps) (and_tree q us) ⊎ ((p ≡ q) × Somewhere J ps us)
opens J (here j) = inl j
opens J (behind h) = inr (refl, h)

-- where the second list is empty, a place is at the beginning
pub opens_at_end : (J : Trees → Trees → Type 0) {p : Tree} {ps : Trees} → Somewhere J (and_tree p ps) no_tree → J (and_tree p ps) no_tree
opens_at_end J (here j) = j

-- where the first list is empty, there is none
pub opens_nowhere : (J : Trees → Trees → Type 0) → ((us : Trees) → J no_tree us → ⊥) → (us : Trees) → Somewhere J no_tree us → ⊥
opens_nowhere J starts us (here j) = starts us j

-- one turn: behind equal fronts, where there is none at the beginning
pub turns : {P : Type 0} (J : Trees → Trees → Type 0) (xs ys : Trees) (p q : Tree) (ps qs : Trees) → xs ≡ and_tree p ps → ys ≡ and_tree q qs → p ≡ q
    → (J xs ys → ⊥) → (Somewhere J xs ys ↔ P) → Somewhere J ps qs ↔ P
turns {P} J xs ys p q ps qs e f g not_here so_far = (into, out)
  where
    into : Somewhere J ps qs → P
    into h = so_far.0 (subst (λ z. Somewhere J z ys) (sym e) (subst (λ z. Somewhere J (and_tree p ps) z) (ap (λ z. and_tree z qs) g ∙ sym f) (behind h)))

    out : P → Somewhere J ps qs
    out r = elim (opens J (subst (λ z. Somewhere J (and_tree p ps) z) f (subst (λ z. Somewhere J z ys) e (so_far.1 r)))) [
      | inl j ↦ absurd (not_here (subst (λ z. J z ys) (sym e) (subst (λ z. J (and_tree p ps) z) (sym f) j)))
      | inr k ↦ k.1
    ]

-- there is none where the fronts differ, and none at the beginning
pub parts_differ : (J : Trees → Trees → Type 0) (xs ys : Trees) (p q : Tree) (ps qs : Trees) → xs ≡ and_tree p ps → ys ≡ and_tree q qs → (p ≡ q → ⊥)
    → (J xs ys → ⊥) → Somewhere J xs ys → ⊥
parts_differ J xs ys p q ps qs e f g not_here h =
    elim (opens J (subst (λ z. Somewhere J (and_tree p ps) z) f (subst (λ z. Somewhere J z ys) e h))) [
      | inl j ↦ not_here (subst (λ z. J z ys) (sym e) (subst (λ z. J (and_tree p ps) z) (sym f) j))
      | inr k ↦ g k.0
    ]

pub ends_here : (J : Trees → Trees → Type 0) (xs ys : Trees) (p : Tree) (ps : Trees) → xs ≡ and_tree p ps → ys ≡ no_tree → (J xs ys → ⊥) → Somewhere J xs ys → ⊥
ends_here J xs ys p ps e f not_here h =
    not_here (subst (λ z. J z ys) (sym e) (subst (λ z. J (and_tree p ps) z) (sym f) (opens_at_end J (subst (λ z. Somewhere J (and_tree p ps) z) f (subst (λ z. Somewhere J z ys) e h)))))

-- ---- behind a front

pub size-all_of : (ps qs : Trees) → size (all_of ps qs) ≡ size ps + size qs
size-all_of no_tree qs = omega arith
size-all_of (and_tree p ps) qs = omega (arith, size-all_of ps qs)

pub all_of-none : (ps : Trees) → all_of ps no_tree ≡ ps
all_of-none no_tree = refl
all_of-none (and_tree p ps) = ap (and_tree p) (all_of-none ps)

-- one front leaves one rest
pub rests_are : (ps qs rs : Trees) → all_of ps qs ≡ all_of ps rs → qs ≡ rs
rests_are no_tree qs rs e = e
rests_are (and_tree p ps) qs rs e = rests_are ps qs rs (cc)

-- there is none where the first list is empty
pub nowhere : (J : Trees → Trees → Type 0) → ((us : Trees) → J no_tree us → ⊥) → (xs us : Trees) → xs ≡ no_tree → Somewhere J xs us → ⊥
nowhere J starts xs us e h = opens_nowhere J starts us (subst (λ z. Somewhere J z us) e h)
