-- par-flat and par-skip as a part that goes, at a place of a list.
use Rattle.std.proofs.Common.{◌≡◌, ℕ, ◌↔◌, Bool, IsTrue, List, [], ◌∷◌, refl, ap, sym, ◌∙◌, subst}
use Rattle.occ_syntax.specs.Tree.{Tree, skip, par, Trees, no_tree, and_tree}
use Rattle.occ_law_shape.specs.occ_meaning.Parallel.{all_of}
use Rattle.occ_law_shape.specs.occ_law.Lists.{size}
use Rattle.occ_law_shape.specs.occ_law.Parallel.{ParFlat, par_flat, ParSkip, par_skip}
use Rattle.occ_law_shape.specs.Places.{Somewhere}
use Rattle.occ_law_shape.proofs.Parts.{joined, parted, rests_are}
use Rattle.occ_law_par.specs.declared.places.Leaving.{Leaving}
use Rattle.occ_law_par.specs.declared.places.Leaving.TheVariants as leaving
use Rattle.occ_law_par.specs.Places.{Goes, par_goes, skip_goes, GoesHere, goes_here}

-- a PAR goes, and its parts take its place
pub par_leaves : (g : Leaving) (p : Tree) (qs : Trees) → g ≡ leaving.Par → par qs ≡ p → Goes g p qs
par_leaves g p qs e f = subst (λ z. Goes z p qs) (sym e) (subst (λ z. Goes leaving.Par z qs) f (par_goes qs))

-- a SKIP goes, and nothing takes its place
pub skip_leaves : (g : Leaving) (p : Tree) → g ≡ leaving.Skip → skip ≡ p → Goes g p no_tree
skip_leaves g p e f = subst (λ z. Goes z p no_tree) (sym e) (subst (λ z. Goes leaving.Skip z no_tree) f skip_goes)

-- one list takes the place of a part
goes_once : (g : Leaving) (p : Tree) (qs rs : Trees) → Goes g p qs → Goes g p rs → qs ≡ rs
goes_once g p qs rs (par_goes a) (par_goes b) = refl
goes_once g p qs rs skip_goes skip_goes = refl

went : (g : Leaving) (p : Tree) (rs us : Trees) → GoesHere g (and_tree p rs) us → (qs : Trees) × Goes g p qs × (us ≡ all_of qs rs)
went g p rs us (goes_here q qs os k) = (qs, k, refl)

-- a part goes here where the other list begins with what takes its place, and the rests are the same
pub goes_test : (g : Leaving) (p : Tree) (qs rs us os : Trees) (b : Bool) → Goes g p qs → us ≡ all_of qs os → (IsTrue b ↔ (rs ≡ os)) → IsTrue b ↔ GoesHere g (and_tree p rs) us
goes_test g p qs rs us os b goes e same = (
  (λ h. subst (λ z. GoesHere g (and_tree p rs) z) (sym (e ∙ ap (all_of qs) (sym (same.0 h)))) (goes_here p qs rs goes)),
  (λ j. let k = went g p rs us j in
      same.1 (rests_are qs rs os (ap (λ z. all_of z rs) (goes_once g p qs k.0 goes k.1) ∙ sym k.2 ∙ e))),
)

-- it doesn't where the other list begins otherwise
pub goes_before_none : (g : Leaving) (p : Tree) (qs rs us : Trees) → Goes g p qs → ((r : Trees) → us ≡ all_of qs r → ⊥) → GoesHere g (and_tree p rs) us → ⊥
goes_before_none g p qs rs us goes never j =
    let k = went g p rs us j in
    never rs (k.2 ∙ ap (λ z. all_of z rs) (sym (goes_once g p qs k.0 goes k.1)))

par_gone : (p : Tree) (qs : Trees) → Goes leaving.Par p qs → p ≡ par qs
par_gone p qs (par_goes a) = refl

skip_gone : (p : Tree) (qs : Trees) → Goes leaving.Skip p qs → (p ≡ skip) × (qs ≡ no_tree)
skip_gone p qs skip_goes = (refl, refl)

-- a part that goes at a place, with the lists in front of it, in its place, and behind it
record Gone (g : Leaving) (xs ys : Trees) : Type 0 where
  front : Trees
  part : Tree
  within : Trees
  rest : Trees
  goes : Goes g part within
  first : xs ≡ all_of front (and_tree part rest)
  second : ys ≡ all_of front (all_of within rest)

gone : (g : Leaving) (xs ys : Trees) → Somewhere (GoesHere g) xs ys → Gone g xs ys
gone g xs ys h =
    let p = parted (GoesHere g) h in
    open_place g xs ys p.front p.rest p.other p.first p.second p.join
  where
    open_place : (g : Leaving) (xs ys front rest other : Trees) → xs ≡ all_of front rest → ys ≡ all_of front other → GoesHere g rest other → Gone g xs ys
    open_place g xs ys front rest other e f (goes_here p qs rs k) = record { front = front; part = p; within = qs; rest = rs; goes = k; first = e; second = f }

flat_there : (xs ys : Trees) (place : List ℕ) → ParFlat place (par xs) (par ys) → Somewhere (GoesHere leaving.Par) xs ys
flat_there xs ys place (par_flat ps qs rs) =
    joined (GoesHere leaving.Par) ps (and_tree (par qs) rs) (all_of qs rs) (goes_here (par qs) qs rs (par_goes qs))

-- par-flat is a PAR that goes somewhere
pub flat_law : (xs ys : Trees) → Somewhere (GoesHere leaving.Par) xs ys ↔ ((place : List ℕ) × ParFlat place (par xs) (par ys))
flat_law xs ys = ((λ h. from (gone leaving.Par xs ys h)), (λ k. flat_there xs ys k.0 k.1))
  where
    from : Gone leaving.Par xs ys → (place : List ℕ) × ParFlat place (par xs) (par ys)
    from w =
        let e : xs ≡ all_of w.front (and_tree (par w.within) w.rest) = w.first ∙ ap (λ z. all_of w.front (and_tree z w.rest)) (par_gone w.part w.within w.goes) in (
          size w.front ∷ [],
          subst (λ z. ParFlat (size w.front ∷ []) (par z) (par ys)) (sym e)
              (subst (λ z. ParFlat (size w.front ∷ []) (par (all_of w.front (and_tree (par w.within) w.rest))) (par z)) (sym w.second) (par_flat w.front w.within w.rest)),
        )

skip_there : (xs ys : Trees) (place : List ℕ) → ParSkip place (par xs) (par ys) → Somewhere (GoesHere leaving.Skip) xs ys
skip_there xs ys place (par_skip ps qs) =
    joined (GoesHere leaving.Skip) ps (and_tree skip qs) qs (goes_here skip no_tree qs skip_goes)

-- par-skip is a SKIP that goes somewhere
pub skip_law : (xs ys : Trees) → Somewhere (GoesHere leaving.Skip) xs ys ↔ ((place : List ℕ) × ParSkip place (par xs) (par ys))
skip_law xs ys = ((λ h. from (gone leaving.Skip xs ys h)), (λ k. skip_there xs ys k.0 k.1))
  where
    from : Gone leaving.Skip xs ys → (place : List ℕ) × ParSkip place (par xs) (par ys)
    from w =
        let s = skip_gone w.part w.within w.goes in
        let e : xs ≡ all_of w.front (and_tree skip w.rest) = w.first ∙ ap (λ z. all_of w.front (and_tree z w.rest)) s.0 in
        let f : ys ≡ all_of w.front w.rest = w.second ∙ ap (λ z. all_of w.front (all_of z w.rest)) s.1 in (
          size w.front ∷ [],
          subst (λ z. ParSkip (size w.front ∷ []) (par z) (par ys)) (sym e)
              (subst (λ z. ParSkip (size w.front ∷ []) (par (all_of w.front (and_tree skip w.rest))) (par z)) (sym f) (par_skip w.front w.rest)),
        )
