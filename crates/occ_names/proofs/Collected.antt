-- Mentions that are collected under names that are declared round them.
use Rattle.std.proofs.Common.{◌≡◌, ℕ, ◌+◌, ◌==◌, ◌<◌, ◌≤◌, Bool, true, false, cond, ◌||◌, List, [], ◌∷◌, ◌++◌, length, take, drop, get_or, Result, Ok, Err, OnOk, refl, sym, ap, ◌∙◌, append_assoc, append-nil, subst, arith}
use Rattle.std.proofs.lemmas.Bool.{eqb-true}
use Rattle.std.proofs.lemmas.List.{take-append-le, length_push, at_drop_more, at_drop_all}
use Rattle.occ_syntax.specs.occ_base.declared.names.Name.{Name}
use Rattle.occ_syntax.specs.declared.expr.Expr.{Expr}
use Rattle.occ_syntax.specs.declared.expr.Guard.{Guard}
use Rattle.occ_syntax.specs.declared.proc.Proc.{Proc}
use Rattle.occ_syntax.specs.declared.scope.Kind.{Kind}
use Rattle.occ_syntax.specs.declared.scope.Kind.TheVariants.{Var, Chan}
use Rattle.occ_syntax.specs.Declarations.{declaring}
use Rattle.occ_syntax.specs.Names.{is_in}
use Rattle.occ_syntax.specs.Tree.{Tree}
use Rattle.occ_syntax.specs.View.{numbers, exp, exps, waiting, tree, trees, cases, branches}
use Rattle.occ_names.specs.declared.mention.Mention.{Mention}
use Rattle.occ_names.specs.declared.mention.Mention.TheVariants.{Read, Write, End, Declare}
use Rattle.occ_names.specs.Once.{with_one, same_number, has}
use Rattle.occ_names.specs.Mentions.{called, reads, reads_of_all, writes, mentions_of_waiting, hidden, outside, mentions, mentions_of_all, mentions_of_cases, mentions_of_branches}
use Rattle.occ_names.proofs.Listed.{numbers_tested, has_more_at, or_nothing}

append-cond : (b : Bool) (m : Mention) (ms ns : List Mention) → cond b (ms ++ ns) (m ∷ (ms ++ ns)) ≡ cond b ms (m ∷ ms) ++ ns
append-cond true m ms ns = refl
append-cond false m ms ns = refl

pub outside-append : (xs : List ℕ) (ms ns : List Mention) → outside xs (ms ++ ns) ≡ outside xs ms ++ outside xs ns
outside-append xs [] ns = refl
outside-append xs (m ∷ ms) ns =
    ap (λ zs. cond (hidden xs m) zs (m ∷ zs)) (outside-append xs ms ns) ∙ append-cond (hidden xs m) m (outside xs ms) (outside xs ns)

pub outside-none : (ms : List Mention) → outside [] ms ≡ ms
outside-none [] = refl
outside-none (Read x ∷ ms) = ap (λ zs. Read x ∷ zs) (outside-none ms)
outside-none (Write x ∷ ms) = ap (λ zs. Write x ∷ zs) (outside-none ms)
outside-none (End x d ∷ ms) = ap (λ zs. End x d ∷ zs) (outside-none ms)
outside-none (Declare x ∷ ms) = ap (λ zs. Declare x ∷ zs) (outside-none ms)

-- what was found, then more under the same names
pub found_more : (b c : List ℕ) (fs gs hs : List Mention) (ms ns : List Mention) → c ≡ b → gs ≡ fs ++ outside b ms → hs ≡ gs ++ outside c ns → hs ≡ fs ++ outside b (ms ++ ns)
found_more b c fs gs hs ms ns e f g =
    g ∙ ap (λ d. gs ++ outside d ns) e ∙ ap (λ zs. zs ++ outside b ns) f ∙ append_assoc fs (outside b ms) (outside b ns)
    ∙ ap (λ zs. fs ++ zs) (sym (outside-append b ms ns))

-- one part of a row further: what is left to find
pub further : (b c : List ℕ) (fs gs : List Mention) (ms rest whole all : List Mention) → c ≡ b → gs ≡ fs ++ outside c ms → whole ≡ ms ++ rest → fs ++ outside b whole ≡ all → gs ++ outside b rest ≡ all
further b c fs gs ms rest whole all e f g h =
    ap (λ zs. zs ++ outside b rest) (f ∙ ap (λ d. fs ++ outside d ms) e) ∙ append_assoc fs (outside b ms) (outside b rest)
    ∙ ap (λ zs. fs ++ zs) (sym (outside-append b ms rest)) ∙ ap (λ zs. fs ++ outside b zs) (sym g) ∙ h

pub all_found : (b : List ℕ) (fs all : List Mention) (rest : List Mention) → rest ≡ [] → fs ++ outside b rest ≡ all → fs ≡ all
all_found b fs all rest e h = sym (append-nil fs) ∙ ap (λ zs. fs ++ outside b zs) (sym e) ∙ h

-- ---- one declared name more

has-with_one_at : (b : Bool) (xs : List ℕ) (x y : ℕ) → has same_number xs x ≡ b → has same_number (cond b xs (xs ++ x ∷ [])) y ≡ (has same_number xs y || (x == y))
has-with_one_at true xs x y e = both_there (x == y) (has same_number xs y) (λ f. subst (λ z. has same_number xs z ≡ true) (eqb-true x y f) e)
  where
    both_there : (a b : Bool) → (a ≡ true → b ≡ true) → b ≡ (b || a)
    both_there true b f = f refl ∙ ap (λ c. c || true) (sym (f refl))
    both_there false b f = sym (or_nothing b)
has-with_one_at false xs x y e = has_more_at same_number numbers_tested xs x y

pub has-with_one : (xs : List ℕ) (x y : ℕ) → is_in (with_one same_number xs x) y ≡ (is_in xs y || (x == y))
has-with_one xs x y = has-with_one_at (has same_number xs x) xs x y refl

swap_number : (x y : ℕ) → (x == y) ≡ (y == x)
swap_number x y = Rattle.occ_names.proofs.Listed.swap same_number numbers_tested x y

hidden_one : (xs : List ℕ) (x y : ℕ) → is_in (with_one same_number xs x) y ≡ (is_in xs y || is_in (x ∷ []) y)
hidden_one xs x y = has-with_one xs x y ∙ ap (λ b. is_in xs y || b) (swap_number x y ∙ sym (or_nothing (y == x)))

pub hidden-with_one : (xs : List ℕ) (x : ℕ) (m : Mention) → hidden (with_one same_number xs x) m ≡ (hidden xs m || hidden (x ∷ []) m)
hidden-with_one xs x (Read y) = hidden_one xs x y.0
hidden-with_one xs x (Write y) = hidden_one xs x y.0
hidden-with_one xs x (End y d) = hidden_one xs x y.0
hidden-with_one xs x (Declare y) = refl

outside_cond : (xs : List ℕ) (a : Bool) (m : Mention) (ms : List Mention) → outside xs (cond a ms (m ∷ ms)) ≡ cond a (outside xs ms) (cond (hidden xs m) (outside xs ms) (m ∷ outside xs ms))
outside_cond xs true m ms = refl
outside_cond xs false m ms = refl

one_or_both : (a b c : Bool) (m : Mention) (ms : List Mention) → c ≡ (b || a) → cond a ms (cond b ms (m ∷ ms)) ≡ cond c ms (m ∷ ms)
one_or_both true true c m ms e = ap (λ d. cond d ms (m ∷ ms)) (sym e)
one_or_both true false c m ms e = ap (λ d. cond d ms (m ∷ ms)) (sym e)
one_or_both false true c m ms e = ap (λ d. cond d ms (m ∷ ms)) (sym e)
one_or_both false false c m ms e = ap (λ d. cond d ms (m ∷ ms)) (sym e)

-- the uses of a name taken out, then those of others
pub outside_two : (xs : List ℕ) (x : ℕ) (ms : List Mention) → outside xs (outside (x ∷ []) ms) ≡ outside (with_one same_number xs x) ms
outside_two xs x [] = refl
outside_two xs x (m ∷ ms) =
    outside_cond xs (hidden (x ∷ []) m) m (outside (x ∷ []) ms)
    ∙ one_or_both (hidden (x ∷ []) m) (hidden xs m) (hidden (with_one same_number xs x) m) m (outside xs (outside (x ∷ []) ms)) (hidden-with_one xs x m)
    ∙ ap (λ zs. cond (hidden (with_one same_number xs x) m) zs (m ∷ zs)) (outside_two xs x ms)

pub mentions-declaring : (x : ℕ) (k : Kind) (p : Tree) → mentions (declaring x k p) ≡ Declare (called x) ∷ outside (x ∷ []) (mentions p)
mentions-declaring x (Var w) p = refl
mentions-declaring x (Chan w d) p = refl

-- one declaration further in
pub one_further_in : (b c : List ℕ) (fs gs all : List Mention) (n : Name) (k : Kind) (p q : Tree) → p ≡ declaring n.0 k q → gs ≡ fs ++ Declare n ∷ [] → c ≡ with_one same_number b n.0
    → fs ++ outside b (mentions p) ≡ all → gs ++ outside c (mentions q) ≡ all
one_further_in b c fs gs all n k p q e f g h =
    ap (λ zs. zs ++ outside c (mentions q)) f ∙ append_assoc fs (Declare n ∷ []) (outside c (mentions q))
    ∙ ap (λ d. fs ++ Declare n ∷ outside d (mentions q)) g ∙ ap (λ zs. fs ++ Declare n ∷ zs) (sym (outside_two b n.0 (mentions q)))
    ∙ ap (λ r. fs ++ outside b r) (sym (ap mentions e ∙ mentions-declaring n.0 k q)) ∙ h

-- the names that came first stay
take_with_at : (b : Bool) (n : ℕ) (xs : List ℕ) (x : ℕ) → n ≤ length xs → take n (cond b xs (xs ++ x ∷ [])) ≡ take n xs
take_with_at true n xs x h = refl
take_with_at false n xs x h = take-append-le n xs (x ∷ []) h

pub take_with : (n : ℕ) (xs ys : List ℕ) (x : ℕ) → n ≤ length xs → ys ≡ with_one same_number xs x → take n ys ≡ take n xs
take_with n xs ys x h e = ap (take n) e ∙ take_with_at (has same_number xs x) n xs x h

longer_at : (b : Bool) (n : ℕ) (xs : List ℕ) (x : ℕ) → n ≤ length xs → n ≤ length (cond b xs (xs ++ x ∷ []))
longer_at true n xs x h = h
longer_at false n xs x h = omega (arith, length_push xs x)

pub longer : (n : ℕ) (xs ys : List ℕ) (x : ℕ) → n ≤ length xs → ys ≡ with_one same_number xs x → n ≤ length ys
longer n xs ys x h e = subst (λ zs. n ≤ length zs) (sym e) (longer_at (has same_number xs x) n xs x h)

-- ---- rows of parts

pub found_as : (b : List ℕ) (fs gs : List Mention) (ms ns : List Mention) → ns ≡ ms → gs ≡ fs ++ outside b ms → gs ≡ fs ++ outside b ns
found_as b fs gs ms ns e f = f ∙ ap (λ zs. fs ++ outside b zs) (sym e)

pub next_part : (ps : List Proc) (i : ℕ) (p : Proc) → i < length ps → p ≡ get_or ps i p → mentions_of_all (trees (drop i ps)) ≡ mentions (tree p) ++ mentions_of_all (trees (drop (i + 1) ps))
next_part ps i p h e =
    at_drop_more (λ qs. mentions_of_all (trees qs)) ps i p h ∙ ap (λ q. mentions (tree q) ++ mentions_of_all (trees (drop (i + 1) ps))) (sym e)

pub no_part : (ps : List Proc) (i : ℕ) → length ps ≤ i → mentions_of_all (trees (drop i ps)) ≡ []
no_part ps i h = at_drop_all (λ qs. mentions_of_all (trees qs)) ps i h

pub next_case : (cs : List (Expr × Proc)) (i : ℕ) (d : Expr × Proc) → i < length cs → d ≡ get_or cs i d
    → mentions_of_cases (cases (drop i cs)) ≡ (reads (exp d.0) ++ mentions (tree d.1)) ++ mentions_of_cases (cases (drop (i + 1) cs))
next_case cs i d h e =
    at_drop_more (λ ds. mentions_of_cases (cases ds)) cs i d h ∙ ap (λ (k : Expr × Proc). (reads (exp k.0) ++ mentions (tree k.1)) ++ mentions_of_cases (cases (drop (i + 1) cs))) (sym e)

pub no_case_left : (cs : List (Expr × Proc)) (i : ℕ) → length cs ≤ i → mentions_of_cases (cases (drop i cs)) ≡ []
no_case_left cs i h = at_drop_all (λ ds. mentions_of_cases (cases ds)) cs i h

pub next_branch : (bs : List (Guard × Proc)) (i : ℕ) (d : Guard × Proc) → i < length bs → d ≡ get_or bs i d
    → mentions_of_branches (branches (drop i bs)) ≡ ((reads (exp d.0.condition) ++ mentions_of_waiting (waiting d.0.wait)) ++ mentions (tree d.1)) ++ mentions_of_branches (branches (drop (i + 1) bs))
next_branch bs i d h e =
    at_drop_more (λ ds. mentions_of_branches (branches ds)) bs i d h
    ∙ ap (λ (k : Guard × Proc). ((reads (exp k.0.condition) ++ mentions_of_waiting (waiting k.0.wait)) ++ mentions (tree k.1)) ++ mentions_of_branches (branches (drop (i + 1) bs))) (sym e)

pub no_branch_left : (bs : List (Guard × Proc)) (i : ℕ) → length bs ≤ i → mentions_of_branches (branches (drop i bs)) ≡ []
no_branch_left bs i h = at_drop_all (λ ds. mentions_of_branches (branches ds)) bs i h

pub next_expr : (es : List Expr) (i : ℕ) (d : Expr) → i < length es → d ≡ get_or es i d → reads_of_all (exps (drop i es)) ≡ reads (exp d) ++ reads_of_all (exps (drop (i + 1) es))
next_expr es i d h e =
    at_drop_more (λ ds. reads_of_all (exps ds)) es i d h ∙ ap (λ k. reads (exp k) ++ reads_of_all (exps (drop (i + 1) es))) (sym e)

pub no_expr : (es : List Expr) (i : ℕ) → length es ≤ i → reads_of_all (exps (drop i es)) ≡ []
no_expr es i h = at_drop_all (λ ds. reads_of_all (exps ds)) es i h

pub next_var : (xs : List Name) (i : ℕ) (d : Name) → i < length xs → writes (numbers (drop i xs)) ≡ Write (get_or xs i d) ∷ writes (numbers (drop (i + 1) xs))
next_var xs i d h = at_drop_more (λ ds. writes (numbers ds)) xs i d h

pub no_var : (xs : List Name) (i : ℕ) → length xs ≤ i → writes (numbers (drop i xs)) ≡ []
no_var xs i h = at_drop_all (λ ds. writes (numbers ds)) xs i h

pub further_var : (b c : List ℕ) (fs gs all : List Mention) (xs : List Name) (i : ℕ) → c ≡ b → gs ≡ fs ++ outside c (Write (get_or xs i (called 0)) ∷ []) → i < length xs
    → fs ++ outside b (writes (numbers (drop i xs))) ≡ all → gs ++ outside b (writes (numbers (drop (i + 1) xs))) ≡ all
further_var b c fs gs all xs i e f h g =
    further b c fs gs (Write (get_or xs i (called 0)) ∷ []) (writes (numbers (drop (i + 1) xs))) (writes (numbers (drop i xs))) all e f (next_var xs i (called 0) h) g

-- what a last call found, where it ended well
pub ok_as : {A E : Type 0} (r : Result A E) (b : List ℕ) (fs gs : List Mention) (ms ns : List Mention) → ns ≡ ms → OnOk r (gs ≡ fs ++ outside b ms) → OnOk r (gs ≡ fs ++ outside b ns)
ok_as (Ok a) b fs gs ms ns e h = found_as b fs gs ms ns e h
ok_as (Err e) b fs gs ms ns f h = h

pub ok_more : {A E : Type 0} (r : Result A E) (b c : List ℕ) (fs gs hs : List Mention) (ms ns os : List Mention) → os ≡ ms ++ ns → c ≡ b → gs ≡ fs ++ outside b ms
    → OnOk r (hs ≡ gs ++ outside c ns) → OnOk r (hs ≡ fs ++ outside b os)
ok_more (Ok a) b c fs gs hs ms ns os d e f h = found_as b fs hs (ms ++ ns) os d (found_more b c fs gs hs ms ns e f h)
ok_more (Err e) b c fs gs hs ms ns os d f g h = h
