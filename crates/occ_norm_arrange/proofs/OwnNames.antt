-- Parts that write different variables, by the names that each writes.
use Rattle.std.proofs.Common.{◌≡◌, ◌≤◌, ◌<◌, ◌+◌, ◌-◌, ◌==◌, ◌||◌, inl, inr, ℕ, zero, Bool, true, false, List, [], ◌∷◌, ◌++◌, drop, length, get_or, refl, sym, ap, ◌∙◌, subst, arith, ⊎_elim}
use Rattle.std.specs.List.{list_any}
use Rattle.std.proofs.lemmas.Bool.{cases_Bool}
use Rattle.std.proofs.lemmas.List.{drop_more}
use Rattle.occ_syntax.specs.occ_base.declared.names.Name.{Name}
use Rattle.occ_meaning.proofs.Facts.{same_turned}
use Rattle.occ_meaning.specs.Parallel.{EachWritesApart}
use Rattle.occ_syntax.specs.Names.{is_in, written, written_in_some}
use Rattle.occ_syntax.specs.Tree.{Tree, Trees, and_tree}
use Rattle.occ_syntax.specs.View.{numbers, tree, trees}
use Rattle.occ_syntax.specs.declared.proc.Proc.{Proc}
use Rattle.occ_norm_arrange.proofs.Noting.{none_among}

-- ---- what is left of a list

pub dropped_all : (xs : List Proc) → drop (length xs) xs ≡ []
dropped_all [] = refl
dropped_all (x ∷ xs) = dropped_all xs

one_back : (n : ℕ) → zero < n → n - 1 + 1 ≡ n
one_back n h = omega (arith, h)

-- one more of the last parts
pub trees_left : (ps : List Proc) (n : ℕ) (p : Proc) → zero < n → n ≤ length ps → p ≡ get_or ps (n - 1) p → trees (drop (n - 1) ps) ≡ and_tree (tree p) (trees (drop n ps))
trees_left ps n p h k e = ap trees (drop_more ps (n - 1) p (omega (arith, h, k)) ∙ (λ i. sym e i ∷ drop (one_back n h i) ps))

-- ---- names

or_three : (a b c : Bool) → ((a || b) || c) ≡ (a || (b || c))
or_three true b c = refl
or_three false b c = refl

or_other : (a b : Bool) → (a || b) ≡ (b || a)
or_other true true = refl
or_other true false = refl
or_other false true = refl
or_other false false = refl

in_both : (xs ys : List Name) (x : ℕ) → is_in (numbers (xs ++ ys)) x ≡ (is_in (numbers xs) x || is_in (numbers ys) x)
in_both [] ys x = refl
in_both (n ∷ xs) ys x = ap (λ b. (x == n.0) || b) (in_both xs ys x) ∙ sym (or_three (x == n.0) (is_in (numbers xs) x) (is_in (numbers ys) x))

-- whether a name is among some, in other words
pub names_there : (names : List Name) (n : Name) → list_any (λ (k : Name). k.0 == n.0) names ≡ is_in (numbers names) n.0
names_there [] n = refl
names_there (k ∷ names) n = λ i. same_turned k.0 n.0 i || names_there names n i

-- ---- one more part

-- the later parts write these names, each its own
pub record AreLater (later : List Name) (ps : Trees) : Type 0 where
  pub apart : EachWritesApart ps
  pub names : (x : ℕ) → is_in (numbers later) x ≡ written_in_some ps x

pub later_more : (later names known found both : List Name) (p : Tree) (ps qs : Trees) → known ≡ later → found ≡ names → AreLater later ps
    → ((x : ℕ) → is_in (numbers names) x ≡ written p x) → list_any (λ (n : Name). is_in (numbers known) n.0) found ≡ false → both ≡ later ++ found → qs ≡ and_tree p ps → AreLater both qs
later_more later names known found both p ps qs k f a w none e g = subst (λ rs. AreLater both rs) (sym g) (record {
  apart = (
    λ x. ⊎_elim
        (λ (t : written p x ≡ true). inr (sym (a.names x) ∙ ap (λ ns. is_in (numbers ns) x) (sym k) ∙ none_among found (numbers known) none x (ap (λ ns. is_in (numbers ns) x) f ∙ w x ∙ t)))
        (λ (t : written p x ≡ false). inl t)
        (cases_Bool (written p x)),
    a.apart,
  );
  names = λ x. ap (λ ns. is_in (numbers ns) x) e ∙ in_both later found x ∙ ap (λ ns. is_in (numbers later) x || is_in (numbers ns) x) f ∙ ap (λ b. b || is_in (numbers names) x) (a.names x)
      ∙ ap (λ b. written_in_some ps x || b) (w x) ∙ or_other (written_in_some ps x) (written p x);
})

pub none_later : (ps : List Proc) (later : List Name) → later ≡ [] → AreLater later (trees (drop (length ps) ps))
none_later ps later e = subst (λ ns. AreLater ns (trees (drop (length ps) ps))) (sym e)
    (subst (λ qs. AreLater [] (trees qs)) (sym (dropped_all ps)) (record { apart = tt; names = λ x. refl }))
