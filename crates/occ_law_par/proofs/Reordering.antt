-- Lists in another order: a part may be taken out of both.
use Rattle.std.proofs.Common.{◌≡◌, ℕ, ◌==◌, ◌↔◌, Bool, IsTrue, List, [], ◌∷◌, zero, suc, ◌<◌, length, remove, slice_index_or, arith, refl, ap, sym, ◌∙◌, subst}
use Rattle.std.specs.Borrow.{Bor}
use Rattle.std.proofs.lemmas.Bool.{eqb-true}
use Rattle.occ_syntax.specs.declared.proc.Proc.{Proc}
use Rattle.occ_syntax.specs.Tree.{Tree, par, Trees, no_tree, and_tree}
use Rattle.occ_syntax.specs.View.{tree}
use Rattle.occ_law_shape.specs.occ_meaning.Parallel.{Reordered, as_they_are, behind_first, first_two, in_steps}
use Rattle.occ_law_shape.specs.occ_law.Parallel.{ParOrder, par_order}
use Rattle.occ_law_par.specs.Order.{Put, put_first, put_behind, referred}

-- what is left of a list without p, in the order of another list
record Remaining (p : Tree) (ps ns : Trees) : Type 0 where
  left : Trees
  put : Put p left ns
  order : Reordered ps left

-- what is put into a list stands in the list in another order
removed : (p : Tree) (ls ms ns : Trees) → Put p ls ms → Reordered ms ns → Remaining p ls ns
removed p ls ms ns h as_they_are = record { left = ls; put = h; order = as_they_are }
removed p ls ms ns (put_first e) (behind_first {p = x} {ps = m} {qs = n} k) = record { left = n; put = put_first e; order = k }
removed p ls ms ns (put_behind {ps = rs} h) (behind_first {p = x} {ps = m} {qs = n} k) =
    let s = removed p rs m n h k in
    record { left = and_tree x s.left; put = put_behind s.put; order = behind_first s.order }
removed p ls ms ns (put_first e) (first_two {p = x} {q = y} {ps = m}) = record { left = and_tree y m; put = put_behind (put_first e); order = as_they_are }
removed p ls ms ns (put_behind (put_first e)) (first_two {p = x} {q = y} {ps = m}) = record { left = and_tree x m; put = put_first e; order = as_they_are }
removed p ls ms ns (put_behind (put_behind {ps = rs} h)) (first_two {p = x} {q = y} {ps = m}) =
    record { left = and_tree y (and_tree x rs); put = put_behind (put_behind h); order = first_two }
removed p ls ms ns h (in_steps {ps = a} {qs = b} {rs = c} j k) =
    let s = removed p ls a b h j in
    let t = removed p s.left b c s.put k in
    record { left = t.left; put = t.put; order = in_steps s.order t.order }

-- p may stand first ls well
put_in_front : (p : Tree) (ls ms : Trees) → Put p ls ms → Reordered (and_tree p ls) ms
put_in_front p ls ms (put_first {ps = rs} e) = subst (λ z. Reordered (and_tree p rs) (and_tree z rs)) (sym e) as_they_are
put_in_front p ls ms (put_behind {ps = rs} {qs = us} h) = in_steps first_two (behind_first (put_in_front p rs us h))

from_front : (p : Tree) (ls ms : Trees) → Put p ls ms → Reordered ms (and_tree p ls)
from_front p ls ms (put_first {ps = rs} e) = subst (λ z. Reordered (and_tree z rs) (and_tree p rs)) (sym e) as_they_are
from_front p ls ms (put_behind {ps = rs} {qs = us} h) = in_steps (behind_first (from_front p rs us h)) first_two

-- what is left without p is left in any order, wherever p was put in
one_remains : (p : Tree) (ls bs ms : Trees) → Put p ls ms → Put p bs ms → Reordered ls bs
one_remains p ls bs ms (put_first e) (put_first f) = as_they_are
one_remains p ls bs ms (put_first {ps = us} e) (put_behind {ps = rs} k) = subst (λ z. Reordered us (and_tree z rs)) (sym e) (from_front p rs us k)
one_remains p ls bs ms (put_behind {ps = rs} h) (put_first {ps = us} f) = subst (λ z. Reordered (and_tree z rs) us) (sym f) (put_in_front p rs us h)
one_remains p ls bs ms (put_behind {ps = rs} {qs = us} h) (put_behind {ps = vs} k) = behind_first (one_remains p rs vs us h k)

-- p goes from the front of one list and from anywhere in the other
pub cancelled : {P : Type 0} (p : Tree) (xs ps qs ms : Trees) → xs ≡ and_tree p ps → Put p qs ms → (Reordered xs ms ↔ P) → Reordered ps qs ↔ P
cancelled p xs ps qs ms e put so_far = (
  (λ r. so_far.0 (subst (λ z. Reordered z ms) (sym e) (in_steps (behind_first r) (put_in_front p qs ms put)))),
  (λ h. let s = removed p ps (and_tree p ps) ms (put_first refl) (subst (λ z. Reordered z ms) e (so_far.1 h)) in
      in_steps s.order (one_remains p s.left qs ms s.put put)),
)

-- no other order has the front of a list where the other list hasn't
pub missing : {P : Type 0} (p : Tree) (xs ps ms : Trees) → xs ≡ and_tree p ps → ((qs : Trees) → Put p qs ms → ⊥) → (Reordered xs ms ↔ P) → P → ⊥
missing p xs ps ms e never so_far h =
    let s = removed p ps (and_tree p ps) ms (put_first refl) (subst (λ z. Reordered z ms) e (so_far.1 h)) in
    never s.left s.put

-- the empty list has one order
pub none_reordered : (ps qs : Trees) → Reordered ps qs → ps ≡ no_tree → qs ≡ no_tree
none_reordered ps qs as_they_are e = e
none_reordered ps qs (behind_first k) e = cc
none_reordered ps qs first_two e = cc
none_reordered ps qs (in_steps {ps = a} {qs = b} {rs = c} j k) e = none_reordered b c k (none_reordered a b j e)

-- where nothing is left of one list, nothing may be left of the other
pub emptied : {P : Type 0} (ps : Trees) (parts : List (Bor Proc)) (n : ℕ) (b : Bool) → ps ≡ no_tree → length parts ≡ n → b ≡ (n == 0)
    → (Reordered ps (referred parts) ↔ P) → IsTrue b ↔ P
emptied ps parts n b e size test so_far = (
  (λ h. so_far.0 (subst (λ z. Reordered ps z) (e ∙ none_there parts (size ∙ eqb-true n 0 (sym test ∙ h))) as_they_are)),
  (λ h. test ∙ ap (λ k. k == 0) (sym size ∙ nothing parts (none_reordered ps (referred parts) (so_far.1 h) e))),
)
  where
    none_there : (parts : List (Bor Proc)) → length parts ≡ 0 → no_tree ≡ referred parts
    none_there [] h = refl
    none_there (p ∷ ps) h = absurd (omega (arith, h))

    nothing : (parts : List (Bor Proc)) → referred parts ≡ no_tree → length parts ≡ 0
    nothing [] h = refl
    nothing (p ∷ ps) h = cc

reordered_parts : (xs ys : Trees) (place : List ℕ) → ParOrder place (par xs) (par ys) → Reordered xs ys
reordered_parts xs ys place (par_order ps qs r) = r

-- par-order is another order of the parts
pub order_law : (xs ys : Trees) → Reordered xs ys ↔ ((place : List ℕ) × ParOrder place (par xs) (par ys))
order_law xs ys = ((λ r. ([], par_order xs ys r)), (λ k. reordered_parts xs ys k.0 k.1))

-- what stands at a place of a list was put there
pub put_at : (p : Tree) (parts : List (Bor Proc)) (i : ℕ) → i < length parts → ((d : Bor Proc) → tree (slice_index_or parts i d).now ≡ p)
    → Put p (referred (remove parts i)) (referred parts)
put_at p [] i h at = absurd (omega (arith, h))
put_at p (part ∷ parts) zero h at = put_first (at part)
put_at p (part ∷ parts) (suc i) h at =
    let k : i < length parts = omega (arith, h) in
    put_behind (put_at p parts i k at)

-- what stands at no place of a list was put nowhere
pub put_nowhere : (p : Tree) (parts : List (Bor Proc)) → ((k : ℕ) (d : Bor Proc) → k < length parts → tree (slice_index_or parts k d).now ≡ p → ⊥)
    → (qs : Trees) → Put p qs (referred parts) → ⊥
put_nowhere p [] never qs h = elim h [ ]
put_nowhere p (part ∷ parts) never qs (put_first e) = never 0 part (omega arith) e
put_nowhere p (part ∷ parts) never qs (put_behind {ps = rs} h) = put_nowhere p parts (λ k d below. never (suc k) d (omega (arith, below))) rs h
