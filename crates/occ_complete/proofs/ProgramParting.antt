-- An assignment as two, one behind the other.
use Rattle.std.proofs.Common.{◌≡◌, ◌∙◌, ◌++◌, ◌==◌, ℕ, suc, false, true, List, [], ◌∷◌, length, map, refl, sym, ap, subst, arith}
use Rattle.std.proofs.lemmas.Bool.{or_from, or_parts}
use Rattle.std.proofs.lemmas.List.{append-nil, append_assoc, map-append}
use Rattle.occ_engine.specs.occ_base.declared.names.Name.{Name}
use Rattle.occ_complete.specs.Clearing.{and_then}
use Rattle.occ_complete_states.proofs.from_derive_laws.Pairs.{and_pair, assign_keeps, assign_pairs, assign_some, assigned_variables, first_pair, id_law_back, join_law_back, order_law, pad_law_back}
use Rattle.occ_complete_states.proofs.from_derive_laws.Turns.{first_keeps, one_law_back, rest_keeps, skip_law_back}
use Rattle.occ_complete_states.specs.occ_derive_laws.Alike.{AreVariables}
use Rattle.occ_complete_states.proofs.Leading.{first_leads, law_leads, law_leads_back, leads_itself, leads_keep, leads_on, second_leads}
use Rattle.occ_complete_states.specs.Leads.{Leads}
use Rattle.occ_engine.specs.occ_law.Lists.{PairsReordered, behind_pair, pairs_in_steps, same_pairs, two_pairs, variables}
use Rattle.occ_engine.proofs.from_meaning.Facts.{at_itself, if_false, if_true, off_turned}
use Rattle.occ_engine.specs.occ_meaning.Parallel.{one, two}
use Rattle.occ_engine.specs.occ_meaning.Substitution.{substituted, value_for}
use Rattle.occ_engine.specs.occ_syntax.declared.scope.Kind.{Kind}
use Rattle.occ_engine.specs.occ_syntax.Names.{is_in}
use Rattle.occ_engine.specs.occ_syntax.Scopes.{Environment, environment}
use Rattle.occ_engine.specs.occ_syntax.Tree.{Exp, Tree, assign, no_tree, seq, skip, variable}
use Rattle.occ_engine.specs.occ_syntax.Types.{is_pair, pairs_kept, scope_kept}
use Rattle.occ_engine.specs.occ_syntax.Usage.{Keeps}
use Rattle.occ_complete_states.specs.occ_target.States.{assigning}

-- ---- lists

as_many : (xs : List ℕ) → length (variables xs) ≡ length xs
as_many [] = refl
as_many (x ∷ xs) = ap suc (as_many xs)

passed : (x : ℕ) (e : Exp) (ys zs : List ℕ) (fs gs : List Exp) → length ys ≡ length fs
    → PairsReordered (x ∷ ys ++ zs) (e ∷ fs ++ gs) (ys ++ x ∷ zs) (fs ++ e ∷ gs)
passed x e [] zs [] gs h = same_pairs
passed x e [] zs (f ∷ fs) gs h = absurd (omega (arith, h))
passed x e (y ∷ ys) zs [] gs h = absurd (omega (arith, h))
passed x e (y ∷ ys) zs (f ∷ fs) gs h = pairs_in_steps two_pairs (behind_pair (passed x e ys zs fs gs (omega (arith, h))))

-- the last pairs in front
turned : (xs ys : List ℕ) (es fs : List Exp) → length xs ≡ length es → length ys ≡ length fs
    → PairsReordered (xs ++ ys) (es ++ fs) (ys ++ xs) (fs ++ es)
turned [] ys [] fs h k =
    subst (λ l. PairsReordered ys fs l (fs ++ [])) (sym (append-nil ys)) (subst (λ l. PairsReordered ys fs ys l) (sym (append-nil fs)) same_pairs)
turned [] ys (e ∷ es) fs h k = absurd (omega (arith, h))
turned (x ∷ xs) ys [] fs h k = absurd (omega (arith, h))
turned (x ∷ xs) ys (e ∷ es) fs h k = pairs_in_steps (behind_pair (turned xs ys es fs (omega (arith, h)) k)) (passed x e ys xs fs es k)

-- a first pair says nothing of other variables
others_stay : (v : ℕ) (xs : List ℕ) (e : Exp) (es : List Exp) (zs : List ℕ) → is_in zs v ≡ false
    → map (value_for (v ∷ xs) (e ∷ es)) zs ≡ map (value_for xs es) zs
others_stay v xs e es [] h = refl
others_stay v xs e es (z ∷ zs) h =
    let p = or_parts (v == z) (is_in zs v) h in
    ap (λ y. y ∷ map (value_for (v ∷ xs) (e ∷ es)) zs) (if_false (z == v) e (value_for xs es z) (off_turned v z p.0))
    ∙ ap (λ l. value_for xs es z ∷ l) (others_stay v xs e es zs p.1)

front_out : (xs ys : List ℕ) (v : ℕ) → is_in (xs ++ ys) v ≡ false → is_in xs v ≡ false
front_out [] ys v h = refl
front_out (x ∷ xs) ys v h =
    let p = or_parts (v == x) (is_in (xs ++ ys) v) h in
    or_from (v == x) (is_in xs v) p.0 (front_out xs ys v p.1)

-- the first variables have the first right sides
values_there : (Γ : Environment) (vs xs : List ℕ) (es fs : List Exp) → AreVariables Γ (vs ++ xs) → length es ≡ length vs
    → map (value_for (vs ++ xs) (es ++ fs)) vs ≡ es
values_there Γ [] xs [] fs a h = refl
values_there Γ [] xs (e ∷ es) fs a h = absurd (omega (arith, h))
values_there Γ (v ∷ vs) xs [] fs a h = absurd (omega (arith, h))
values_there Γ (v ∷ vs) xs (e ∷ es) fs a h =
    ap (λ y. y ∷ map (value_for (v ∷ vs ++ xs) (e ∷ es ++ fs)) vs) (if_true (v == v) e (value_for (vs ++ xs) (es ++ fs) v) (at_itself v))
    ∙ ap (λ l. e ∷ l) (others_stay v (vs ++ xs) e (es ++ fs) vs (front_out vs xs v a.1)
    ∙ values_there Γ vs xs es fs a.2 (omega (arith, h)))

names_substituted : (xs : List ℕ) (es : List Exp) (vs : List ℕ) → map (substituted xs es) (variables vs) ≡ map (value_for xs es) vs
names_substituted xs es [] = refl
names_substituted xs es (v ∷ vs) = ap (λ l. value_for xs es v ∷ l) (names_substituted xs es vs)

-- ---- what keeps the rules

own_kept : (S : List (Name × Kind)) (xs : List ℕ) (fs : List Exp) → is_pair xs ≡ true → pairs_kept (environment S) xs fs ≡ true
    → pairs_kept (environment S) xs (variables xs) ≡ true
own_kept S xs fs some k =
    let Γ = environment S in
    assign_pairs Γ xs (variables xs) (id_law_back S xs some (assigned_variables S xs fs (assign_keeps Γ xs fs some k))).left

kept_instead : (S : List (Name × Kind)) (vs xs : List ℕ) (es fs : List Exp) → is_pair xs ≡ true → length es ≡ length vs
    → pairs_kept (environment S) (vs ++ xs) (es ++ fs) ≡ true → pairs_kept (environment S) (vs ++ xs) (es ++ variables xs) ≡ true
kept_instead S [] xs [] fs some h k = own_kept S xs fs some k
kept_instead S [] xs (e ∷ es) fs some h k = absurd (omega (arith, h))
kept_instead S (v ∷ vs) xs [] fs some h k = absurd (omega (arith, h))
kept_instead S (v ∷ vs) xs (e ∷ es) fs some h k =
    let Γ = environment S in
    let p = first_pair Γ v (vs ++ xs) e (es ++ fs) k in
    and_pair Γ v (vs ++ xs) e (es ++ variables xs) (record {
      typed = p.typed;
      once = p.once;
      rest = kept_instead S vs xs es fs some (omega (arith, h)) p.rest;
    })

-- ---- the laws

some_last : (xs : List ℕ) (y : ℕ) → is_pair (xs ++ y ∷ []) ≡ true
some_last [] y = refl
some_last (x ∷ xs) y = refl

-- pairs that keep what their variables hold go
pub unpadded : (S : List (Name × Kind)) → scope_kept S ≡ true → (xs ys : List ℕ) (es : List Exp) → is_pair xs ≡ true
    → Keeps (environment S) (assign (xs ++ ys) (es ++ variables ys)) → Leads S (assign (xs ++ ys) (es ++ variables ys)) (assign xs es)
unpadded S kept xs [] es some k =
    subst (λ l. Leads S (assign l (es ++ [])) (assign xs es)) (sym (append-nil xs))
    (subst (λ l. Leads S (assign xs l) (assign xs es)) (sym (append-nil es)) (leads_itself S (assign xs es)))
unpadded S kept xs (y ∷ ys) es some k =
    let same : assign (xs ++ y ∷ ys) (es ++ variables (y ∷ ys)) ≡ assign ((xs ++ y ∷ []) ++ ys) ((es ++ variable y ∷ []) ++ variables ys) =
    λ i. assign (sym (append_assoc xs (y ∷ []) ys) i) (sym (append_assoc es (variable y ∷ []) (variables ys)) i) in
    let kept_so = subst (Keeps (environment S)) same k in
    let most = unpadded S kept (xs ++ y ∷ []) ys (es ++ variable y ∷ []) (some_last xs y) kept_so in
    leads_on S (subst (λ z. Leads S z (assign (xs ++ y ∷ []) (es ++ variable y ∷ []))) (sym same) most)
    (law_leads_back S 8 (pad_law_back S xs es y some (leads_keep S kept kept_so most)))

-- right sides that name nothing stay as they are
abbrev pub Stay : List Exp → Type 0
Stay fs = (zs : List ℕ) (gs : List Exp) → map (substituted zs gs) fs ≡ fs

pub parted : (S : List (Name × Kind)) → scope_kept S ≡ true → (xs ys : List ℕ) (es fs : List Exp) → is_pair xs ≡ true → is_pair ys ≡ true
    → length es ≡ length xs → length fs ≡ length ys → Stay fs → Keeps (environment S) (assign (xs ++ ys) (es ++ fs))
    → Leads S (assign (xs ++ ys) (es ++ fs)) (seq (two (assign xs es) (assign ys fs)))
parted S kept xs ys es fs somex somey long short stay k =
    let Γ = environment S in
    let zs = xs ++ ys in
    let gs = es ++ variables ys in
    let hs = variables xs ++ fs in
    let is : map (substituted zs gs) hs ≡ es ++ fs =
    map-append (substituted zs gs) (variables xs) fs
    ∙ ap (λ l. l ++ map (substituted zs gs) fs) (names_substituted zs gs xs
    ∙ values_there Γ xs ys es (variables ys) (assigned_variables S zs (es ++ fs) k) long)
    ∙ ap (λ l. es ++ l) (stay zs gs) in
    let first = assign_keeps Γ zs gs (assign_some Γ zs (es ++ fs) k) (kept_instead S xs ys es fs somey long (assign_pairs Γ zs (es ++ fs) k)) in
    let join = join_law_back S zs gs hs first (subst (λ l. Keeps Γ (assign zs l)) (sym is) k) in
    let second = first_keeps Γ (assign zs hs) no_tree (rest_keeps Γ (assign zs gs) (one (assign zs hs)) join.left) in
    let order = order_law S zs (ys ++ xs) hs (fs ++ variables xs) second
    (turned xs ys (variables xs) fs (sym (as_many xs)) (sym short)) in
    leads_on S (subst (λ l. Leads S (assign zs l) (seq (two (assign zs gs) (assign zs hs)))) is (law_leads_back S 9 join))
    (leads_on S (first_leads S (one (assign zs hs)) (unpadded S kept xs ys es somex first))
    (second_leads S (assign xs es) no_tree (leads_on S (law_leads S 7 order) (unpadded S kept ys xs fs somey order.right))))

-- SKIP in front of a process
pub behind_skip : (S : List (Name × Kind)) (p : Tree) → Keeps (environment S) p → Leads S p (seq (two skip p))
behind_skip S p k =
    let one_of = one_law_back S p k in
    leads_on S (law_leads_back S 2 one_of) (law_leads_back S 4 (skip_law_back S no_tree (one p) one_of.left))

pub end_parted : (S : List (Name × Kind)) → scope_kept S ≡ true → (xs ts : List ℕ) (es zs : List Exp) → length es ≡ length xs
    → length zs ≡ length ts → Stay zs → Keeps (environment S) (assigning (xs ++ ts) (es ++ zs))
    → Leads S (assigning (xs ++ ts) (es ++ zs)) (and_then ts zs (assigning xs es))
end_parted S kept [] [] es zs long short stay k = leads_itself S skip
end_parted S kept [] (t ∷ ts) [] zs long short stay k = behind_skip S (assign (t ∷ ts) zs) k
end_parted S kept [] (t ∷ ts) (e ∷ es) zs long short stay k = absurd (omega (arith, long))
end_parted S kept (x ∷ xs) [] es [] long short stay k =
    subst (λ l. Leads S (assign (x ∷ l) (es ++ [])) (assign (x ∷ xs) es)) (sym (append-nil xs))
    (subst (λ l. Leads S (assign (x ∷ xs) l) (assign (x ∷ xs) es)) (sym (append-nil es)) (leads_itself S (assign (x ∷ xs) es)))
end_parted S kept (x ∷ xs) [] es (z ∷ zs) long short stay k = absurd (omega (arith, short))
end_parted S kept (x ∷ xs) (t ∷ ts) es zs long short stay k = parted S kept (x ∷ xs) (t ∷ ts) es zs refl refl long short stay k
