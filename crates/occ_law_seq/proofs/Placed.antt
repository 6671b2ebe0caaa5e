-- seq-flat, seq-skip and seq-stop as changes at a place of a list.
use Rattle.std.proofs.Common.{◌≡◌, ℕ, ◌↔◌, List, [], ◌∷◌, refl, ap, sym, ◌∙◌, subst}
use Rattle.occ_syntax.specs.Tree.{Tree, seq, skip, stop, Trees, no_tree, and_tree}
use Rattle.occ_law_shape.specs.occ_meaning.Parallel.{all_of, one}
use Rattle.occ_law_shape.specs.occ_law.Lists.{size}
use Rattle.occ_law_shape.specs.occ_law.Sequence.{SeqFlat, seq_flat, SeqSkip, seq_skip, SeqStop, seq_stop}
use Rattle.occ_law_shape.specs.Places.{Somewhere, here, behind}
use Rattle.occ_law_shape.proofs.Parts.{joined, parted}
use Rattle.occ_law_seq.specs.Places.{FlatHere, flat_here, SkipHere, skip_here, StopHere, stop_here}

-- what stands at a place, where the law has it
flat_pair : (xs ys : Trees) (l r : Tree) → l ≡ seq xs → r ≡ seq ys → (front qs rs : Trees) → xs ≡ all_of front (and_tree (seq qs) rs) → ys ≡ all_of front (all_of qs rs)
    → (place : List ℕ) × SeqFlat place l r
flat_pair xs ys l r e f front qs rs g h =
    (size front ∷ [], subst (λ z. SeqFlat (size front ∷ []) z r) (sym (e ∙ ap seq g)) (subst (λ z. SeqFlat (size front ∷ []) (seq (all_of front (and_tree (seq qs) rs))) z) (sym (f ∙ ap seq h)) (seq_flat front qs rs)))

flat_from : (xs ys : Trees) (l r : Tree) → l ≡ seq xs → r ≡ seq ys → (front rest other : Trees) → xs ≡ all_of front rest → ys ≡ all_of front other → FlatHere rest other
    → (place : List ℕ) × SeqFlat place l r
flat_from xs ys l r e f front rest other g h (flat_here qs rs) = flat_pair xs ys l r e f front qs rs g h

flat_to : (xs ys : Trees) (l r : Tree) → l ≡ seq xs → r ≡ seq ys → (place : List ℕ) → SeqFlat place l r → Somewhere FlatHere xs ys
flat_to xs ys l r e f place (seq_flat ps qs rs) =
    let g : all_of ps (and_tree (seq qs) rs) ≡ xs = cc in
    let h : all_of ps (all_of qs rs) ≡ ys = cc in
    subst (λ z. Somewhere FlatHere z ys) g (subst (λ z. Somewhere FlatHere (all_of ps (and_tree (seq qs) rs)) z) h (joined FlatHere ps (and_tree (seq qs) rs) (all_of qs rs) (flat_here qs rs)))

-- seq-flat is a place in the two lists
pub flat_placed : (xs ys : Trees) (l r : Tree) → l ≡ seq xs → r ≡ seq ys → Somewhere FlatHere xs ys ↔ ((place : List ℕ) × SeqFlat place l r)
flat_placed xs ys l r e f = (
  (λ h. let p = parted FlatHere h in flat_from xs ys l r e f p.front p.rest p.other p.first p.second p.join),
  (λ k. flat_to xs ys l r e f k.0 k.1),
)

-- a row of SKIPs may lose its last one for any other
last_skip : (qs : Trees) → Somewhere SkipHere (and_tree skip qs) qs
last_skip no_tree = here (skip_here no_tree refl)
last_skip (and_tree q qs) = skip_or_not q qs (last_skip qs)
  where
    skip_or_not : (q : Tree) (qs : Trees) → Somewhere SkipHere (and_tree skip qs) qs → Somewhere SkipHere (and_tree skip (and_tree q qs)) (and_tree q qs)
    skip_or_not skip qs h = behind h
    skip_or_not p qs h = here (skip_here (and_tree p qs) refl)

skip_there : (ps qs : Trees) → Somewhere SkipHere (all_of ps (and_tree skip qs)) (all_of ps qs)
skip_there no_tree qs = last_skip qs
skip_there (and_tree p ps) qs = behind (skip_there ps qs)

skip_pair : (xs ys : Trees) (l r : Tree) → l ≡ seq xs → r ≡ seq ys → (front qs : Trees) → xs ≡ all_of front (and_tree skip qs) → ys ≡ all_of front qs → (place : List ℕ) × SeqSkip place l r
skip_pair xs ys l r e f front qs g h =
    (size front ∷ [], subst (λ z. SeqSkip (size front ∷ []) z r) (sym (e ∙ ap seq g)) (subst (λ z. SeqSkip (size front ∷ []) (seq (all_of front (and_tree skip qs))) z) (sym (f ∙ ap seq h)) (seq_skip front qs)))

skip_from : (xs ys : Trees) (l r : Tree) → l ≡ seq xs → r ≡ seq ys → (front rest other : Trees) → xs ≡ all_of front rest → ys ≡ all_of front other → SkipHere rest other
    → (place : List ℕ) × SeqSkip place l r
skip_from xs ys l r e f front rest other g h (skip_here qs last) = skip_pair xs ys l r e f front qs g h

skip_to : (xs ys : Trees) (l r : Tree) → l ≡ seq xs → r ≡ seq ys → (place : List ℕ) → SeqSkip place l r → Somewhere SkipHere xs ys
skip_to xs ys l r e f place (seq_skip ps qs) =
    let g : all_of ps (and_tree skip qs) ≡ xs = cc in
    let h : all_of ps qs ≡ ys = cc in
    subst (λ z. Somewhere SkipHere z ys) g (subst (λ z. Somewhere SkipHere (all_of ps (and_tree skip qs)) z) h (skip_there ps qs))

-- seq-skip is a place in the two lists
pub skip_placed : (xs ys : Trees) (l r : Tree) → l ≡ seq xs → r ≡ seq ys → Somewhere SkipHere xs ys ↔ ((place : List ℕ) × SeqSkip place l r)
skip_placed xs ys l r e f = (
  (λ h. let p = parted SkipHere h in skip_from xs ys l r e f p.front p.rest p.other p.first p.second p.join),
  (λ k. skip_to xs ys l r e f k.0 k.1),
)

stop_pair : (xs ys : Trees) (l r : Tree) → l ≡ seq xs → r ≡ seq ys → (front qs : Trees) → xs ≡ all_of front (and_tree stop qs) → ys ≡ all_of front (one stop) → (place : List ℕ) × SeqStop place l r
stop_pair xs ys l r e f front qs g h =
    (size front ∷ [], subst (λ z. SeqStop (size front ∷ []) z r) (sym (e ∙ ap seq g)) (subst (λ z. SeqStop (size front ∷ []) (seq (all_of front (and_tree stop qs))) z) (sym (f ∙ ap seq h)) (seq_stop front qs)))

stop_from : (xs ys : Trees) (l r : Tree) → l ≡ seq xs → r ≡ seq ys → (front rest other : Trees) → xs ≡ all_of front rest → ys ≡ all_of front other → StopHere rest other
    → (place : List ℕ) × SeqStop place l r
stop_from xs ys l r e f front rest other g h (stop_here qs) = stop_pair xs ys l r e f front qs g h

stop_to : (xs ys : Trees) (l r : Tree) → l ≡ seq xs → r ≡ seq ys → (place : List ℕ) → SeqStop place l r → Somewhere StopHere xs ys
stop_to xs ys l r e f place (seq_stop ps qs) =
    let g : all_of ps (and_tree stop qs) ≡ xs = cc in
    let h : all_of ps (one stop) ≡ ys = cc in
    subst (λ z. Somewhere StopHere z ys) g (subst (λ z. Somewhere StopHere (all_of ps (and_tree stop qs)) z) h (joined StopHere ps (and_tree stop qs) (one stop) (stop_here qs)))

-- seq-stop is a place in the two lists
pub stop_placed : (xs ys : Trees) (l r : Tree) → l ≡ seq xs → r ≡ seq ys → Somewhere StopHere xs ys ↔ ((place : List ℕ) × SeqStop place l r)
stop_placed xs ys l r e f = (
  (λ h. let p = parted StopHere h in stop_from xs ys l r e f p.front p.rest p.other p.first p.second p.join),
  (λ k. stop_to xs ys l r e f k.0 k.1),
)
