-- What stands at a place, and the laws of ALT that change one place.
use Rattle.std.proofs.Common.{◌≡◌, ◌↔◌, ℕ, List, [], ◌∷◌, refl, ap, sym, ◌∙◌}
use Rattle.occ_syntax.specs.Tree.{Tree, alt, Branches, no_branch, and_branch}
use Rattle.occ_law_shape.specs.occ_law.Choice.{AltFlat, alt_flat, AltSame, alt_same, AltSplit, alt_split, AltTwice, alt_twice, and_skip}
use Rattle.occ_law_shape.specs.occ_law.Lists.{all_branches, tally}
use Rattle.occ_law_alt.specs.Places.{FlatHere, SameHere, Somewhere, SplitHere, TwiceHere}
use Rattle.occ_law_alt.proofs.Begun.{alt_tells}
use Rattle.occ_law_alt.proofs.Sought.{carried, joined, parted}
use Rattle.occ_law_alt.proofs.Without.{around, lacks_there}

-- ---- alt-flat

pub flat_law : (xs ys : Branches) (l r : Tree) → alt xs ≡ l → alt ys ≡ r → Somewhere FlatHere xs ys ↔ ((place : List ℕ) × AltFlat place l r)
flat_law xs ys l r e f = (into, (λ k. out l r e f k.0 k.1))
  where
    into : Somewhere FlatHere xs ys → (place : List ℕ) × AltFlat place l r
    into h =
        let p = parted FlatHere h in
        let j = p.join in (
          tally p.front ∷ [],
          carried (AltFlat (tally p.front ∷ [])) (ap alt (sym (p.first ∙ ap (all_branches p.front) j.first)) ∙ e) (ap alt (sym (p.second ∙ ap (all_branches p.front) j.second)) ∙ f)
              (alt_flat p.front j.inner j.rest j.skip),
        )

    out : (l r : Tree) → alt xs ≡ l → alt ys ≡ r → (place : List ℕ) → AltFlat place l r → Somewhere FlatHere xs ys
    out l r e f place (alt_flat gs hs ks s) = carried (Somewhere FlatHere) (sym (alt_tells _ _ e)) (sym (alt_tells _ _ f))
        (joined FlatHere gs (and_skip (alt hs) ks) (all_branches hs ks) (record { inner = hs; rest = ks; first = refl; skip = s; second = refl }))

-- ---- alt-split

pub split_law : (xs ys : Branches) (l r : Tree) → alt xs ≡ l → alt ys ≡ r → Somewhere SplitHere xs ys ↔ ((place : List ℕ) × AltSplit place l r)
split_law xs ys l r e f = (into, (λ k. out l r e f k.0 k.1))
  where
    into : Somewhere SplitHere xs ys → (place : List ℕ) × AltSplit place l r
    into h =
        let p = parted SplitHere h in
        let j = p.join in (
          tally p.front ∷ [],
          carried (AltSplit (tally p.front ∷ [])) (ap alt (sym (p.first ∙ ap (all_branches p.front) j.first)) ∙ e) (ap alt (sym (p.second ∙ ap (all_branches p.front) j.second)) ∙ f)
              (alt_split p.front j.inner j.rest j.guard j.process j.other j.event),
        )

    out : (l r : Tree) → alt xs ≡ l → alt ys ≡ r → (place : List ℕ) → AltSplit place l r → Somewhere SplitHere xs ys
    out l r e f place (alt_split gs hs ks g p q s) = carried (Somewhere SplitHere) (sym (alt_tells _ _ e)) (sym (alt_tells _ _ f))
        (joined SplitHere gs _ _ (record { guard = g; process = p; other = q; inner = hs; rest = ks; event = s; first = refl; second = refl }))

-- ---- alt-twice

pub twice_law : (xs ys : Branches) (l r : Tree) → alt xs ≡ l → alt ys ≡ r → Somewhere TwiceHere xs ys ↔ ((place : List ℕ) × AltTwice place l r)
twice_law xs ys l r e f = (into, (λ k. out l r e f k.0 k.1))
  where
    into : Somewhere TwiceHere xs ys → (place : List ℕ) × AltTwice place l r
    into h =
        let p = parted TwiceHere h in
        let j = p.join in
        let a = around j.lacks in (
          tally p.front ∷ tally a.front ∷ [],
          carried (AltTwice (tally p.front ∷ tally a.front ∷ []))
              (ap alt (sym (p.first ∙ ap (all_branches p.front) (j.first ∙ ap (and_branch j.condition j.guard j.process) a.first))) ∙ e)
              (ap alt (sym (p.second ∙ ap (all_branches p.front) (j.second ∙ ap (and_branch j.condition j.guard j.process) a.second))) ∙ f)
              (alt_twice p.front a.front a.rest j.condition j.guard j.process),
        )

    out : (l r : Tree) → alt xs ≡ l → alt ys ≡ r → (place : List ℕ) → AltTwice place l r → Somewhere TwiceHere xs ys
    out l r e f place (alt_twice gs hs ks b w p) = carried (Somewhere TwiceHere) (sym (alt_tells _ _ e)) (sym (alt_tells _ _ f))
        (joined TwiceHere gs _ _ (record { condition = b; guard = w; process = p; more = _; less = _; first = refl; second = refl; lacks = lacks_there b w p hs ks }))

-- ---- alt-same

pub same_law : (xs ys : Branches) (l r : Tree) → alt xs ≡ l → alt ys ≡ r → Somewhere SameHere xs ys ↔ ((place : List ℕ) × AltSame place l r)
same_law xs ys l r e f = (into, (λ k. out l r e f k.0 k.1))
  where
    into : Somewhere SameHere xs ys → (place : List ℕ) × AltSame place l r
    into h =
        let p = parted SameHere h in
        let j = p.join in
        let a = around j.lacks in (
          tally p.front ∷ tally a.front ∷ [],
          carried (AltSame (tally p.front ∷ tally a.front ∷ []))
              (ap alt (sym (p.first ∙ ap (all_branches p.front) (j.first ∙ ap (and_branch j.condition j.guard j.process) a.first))) ∙ e)
              (ap alt (sym (p.second ∙ ap (all_branches p.front) (j.second ∙ ap (and_branch j.condition j.guard (alt (and_skip j.process (and_skip j.other no_branch)))) a.second))) ∙ f)
              (alt_same p.front a.front a.rest j.condition j.guard j.process j.other j.event),
        )

    out : (l r : Tree) → alt xs ≡ l → alt ys ≡ r → (place : List ℕ) → AltSame place l r → Somewhere SameHere xs ys
    out l r e f place (alt_same gs hs ks b g p q s) = carried (Somewhere SameHere) (sym (alt_tells _ _ e)) (sym (alt_tells _ _ f))
        (joined SameHere gs _ _ (record { condition = b; guard = g; process = p; other = q; more = _; less = _; event = s; first = refl; second = refl; lacks = lacks_there b g q hs ks }))
