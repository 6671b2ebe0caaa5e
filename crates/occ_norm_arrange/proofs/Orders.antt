-- Parts in another order.
use Rattle.std.proofs.Common.{◌≡◌, ◌<◌, ◌+◌, ℕ, max, List, [], ◌∷◌, ◌++◌, take, drop, length, get_or, refl, sym, ap, ◌∙◌, subst, arith}
use Rattle.std.proofs.lemmas.List.{drop_more, take-append-drop}
use Rattle.occ_meaning.proofs.Parts.{apart_reordered, reordered_back, reordered_gives, types_reordered}
use Rattle.occ_meaning.specs.Parallel.{EachWritesApart, Reordered, all_of, as_they_are, behind_first, first_two, in_steps, one}
use Rattle.occ_norm_arrange.proofs.Itself.{arranged_steps}
use Rattle.occ_norm_arrange.proofs.Listed.{all_of_none, all_of_three, trees_both, trees_pushed}
use Rattle.occ_syntax.proofs.Weights.{weight, weight_of_all}
use Rattle.occ_syntax.specs.Counts.{most_bits, most_bits_of_all}
use Rattle.occ_syntax.specs.Tree.{Tree, Trees, and_tree, no_tree, par}
use Rattle.occ_syntax.specs.View.{tree, trees}
use Rattle.occ_syntax.specs.declared.proc.Proc.{Proc}
use Rattle.occ_norm_arrange.specs.FlatArranged.{AreArranged}

-- ---- one part is taken out of a list

pub behind_all : (ps xs ys : Trees) → Reordered xs ys → Reordered (all_of ps xs) (all_of ps ys)
behind_all no_tree xs ys h = h
behind_all (and_tree p ps) xs ys h = behind_first (behind_all ps xs ys h)

to_front : (xs ys : Trees) (p : Tree) → Reordered (all_of xs (and_tree p ys)) (and_tree p (all_of xs ys))
to_front no_tree ys p = as_they_are
to_front (and_tree x xs) ys p = in_steps (behind_first (to_front xs ys p)) first_two

-- the part p goes from the middle of the rest behind the sorted ones
pub part_taken : (sorted before behind : Trees) (p : Tree) → Reordered (all_of sorted (all_of before (and_tree p behind))) (all_of (all_of sorted (one p)) (all_of before behind))
part_taken sorted before behind p =
    subst (λ zs. Reordered (all_of sorted (all_of before (and_tree p behind))) zs) (all_of_three sorted (one p) (all_of before behind))
    (behind_all sorted (all_of before (and_tree p behind)) (and_tree p (all_of before behind)) (to_front before behind p))

split_at : (xs : List Proc) (i : ℕ) (x : Proc) → i < length xs → x ≡ get_or xs i x → xs ≡ take i xs ++ x ∷ drop (i + 1) xs
split_at xs i x h e = sym (take-append-drop i xs) ∙ ap (λ zs. take i xs ++ zs) (drop_more xs i x h ∙ ap (λ z. z ∷ drop (i + 1) xs) (sym e))

pub taken : (sorted sorted' rest rest' : List Proc) (i : ℕ) (x : Proc) → i < length rest → x ≡ get_or rest i x → rest' ≡ take i rest ++ drop (i + 1) rest → sorted' ≡ sorted ++ x ∷ []
    → Reordered (all_of (trees sorted) (trees rest)) (all_of (trees sorted') (trees rest'))
taken sorted sorted' rest rest' i x h e f g =
    let one_left = ap trees (split_at rest i x h e) ∙ trees_both (take i rest) (x ∷ drop (i + 1) rest) in
    let now = ap trees f ∙ trees_both (take i rest) (drop (i + 1) rest) in
    subst (λ zs. Reordered (all_of (trees sorted) zs) (all_of (trees sorted') (trees rest'))) (sym one_left)
    (subst (λ zs. Reordered (all_of (trees sorted) (all_of (trees (take i rest)) (and_tree (tree x) (trees (drop (i + 1) rest))))) (all_of zs (trees rest'))) (sym (trees_pushed sorted' sorted x (tree x) g refl))
    (subst (λ zs. Reordered (all_of (trees sorted) (all_of (trees (take i rest)) (and_tree (tree x) (trees (drop (i + 1) rest))))) (all_of (all_of (trees sorted) (one (tree x))) zs)) (sym now)
    (part_taken (trees sorted) (trees (take i rest)) (trees (drop (i + 1) rest)) (tree x))))

-- ---- what an order doesn't change

bits_reordered : (ps qs : Trees) → Reordered ps qs → (n : ℕ) → most_bits_of_all ps n ≡ most_bits_of_all qs n
bits_reordered ps qs as_they_are n = refl
bits_reordered ps qs (behind_first {p} {ps = us} {qs = vs} r) n = ap (λ k. max (most_bits p n) k) (bits_reordered us vs r n)
bits_reordered ps qs (first_two {p} {q} {ps = us}) n = omega arith
bits_reordered ps qs (in_steps {ps = us} {qs = vs} {rs = ws} r1 r2) n = bits_reordered us vs r1 n ∙ bits_reordered vs ws r2 n

weight_reordered : (ps qs : Trees) → Reordered ps qs → weight_of_all ps ≡ weight_of_all qs
unfolding weight_of_all
weight_reordered ps qs as_they_are = refl
weight_reordered ps qs (behind_first {p} {ps = us} {qs = vs} r) = ap (λ k. 1 + weight p + k) (weight_reordered us vs r)
weight_reordered ps qs (first_two {p} {q} {ps = us}) = omega arith
weight_reordered ps qs (in_steps {ps = us} {qs = vs} {rs = ws} r1 r2) = weight_reordered us vs r1 ∙ weight_reordered vs ws r2

-- parts that do the same, and then in another order
pub arranged_from : (ps rs qs : Trees) → AreArranged ps rs → EachWritesApart rs → Reordered rs qs → AreArranged ps qs
unfolding weight
arranged_from ps rs qs a apart r = record {
  arranged = arranged_steps (par ps) (par rs) (par qs) a.arranged (record {
    types = λ Γ t. types_reordered Γ rs qs r t;
    forth = λ Γ t. reordered_gives Γ rs qs r t apart;
    back = λ Γ t. reordered_gives Γ qs rs (reordered_back rs qs r) (types_reordered Γ rs qs r t) (apart_reordered rs qs r apart);
    bits = λ n. let e = bits_reordered rs qs r n in omega (arith, e);
  });
  weighs = let e = weight_reordered rs qs r in let h = a.weighs in omega (arith, e, h);
}

-- no part is left
pub none_left : (ps : Trees) (sorted rest : List Proc) → length rest ≡ 0 → Reordered ps (all_of (trees sorted) (trees rest)) → Reordered ps (trees sorted)
none_left ps sorted [] h r = subst (λ qs. Reordered ps qs) (all_of_none (trees sorted)) r
none_left ps sorted (x ∷ rest) h r = absurd (omega (arith, h))
