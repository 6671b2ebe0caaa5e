-- The clearing of declared variables goes at the end of their scope.
use Rattle.std.proofs.Common.{◌≡◌, ◌∙◌, ◌++◌, ◌==◌, ℕ, false, true, List, [], ◌∷◌, length, refl, sym, ap, subst, arith}
use Rattle.std.proofs.lemmas.Bool.{or_from, or_parts}
use Rattle.std.proofs.lemmas.List.{append-nil, append_assoc, length-append}
use Rattle.std.specs.List.{AllByRecursion}
use Rattle.occ_engine.specs.occ_base.declared.names.Name.{Name}
use Rattle.occ_engine.specs.occ_base.declared.width.Width.{Width}
use Rattle.occ_engine.specs.occ_base.declared.width.Width.TheVariants.{Bool as Truth, Word}
use Rattle.occ_complete.specs.Clearing.{and_then}
use Rattle.occ_complete_states.specs.occ_derive_moves.Unified.{cleared}
use Rattle.occ_complete_states.proofs.from_derive_laws.Declared.{off_last}
use Rattle.occ_complete_states.proofs.from_derive_laws.Values.{last_pair_goes}
use Rattle.occ_complete_states.proofs.from_derive_laws.Pairs.{assign_some, assigned_variables}
use Rattle.occ_complete_states.proofs.from_derive_laws.Turns.{first_keeps, one_law, rest_keeps, skip_law}
use Rattle.occ_complete_states.specs.occ_derive_laws.Alike.{AreVariables}
use Rattle.occ_complete_states.proofs.Leading.{declared_leads, law_leads, leads_itself, leads_keep, leads_on}
use Rattle.occ_complete_states.proofs.Scopes.{declared_keeps, scope_front}
use Rattle.occ_complete_states.specs.Leads.{Leads}
use Rattle.occ_engine.specs.occ_law.Lists.{assigned_without, assignment, names_without, values_without}
use Rattle.occ_engine.proofs.from_meaning.Facts.{at_itself, false_not_true, if_false, if_true, off_turned}
use Rattle.occ_engine.specs.occ_meaning.Parallel.{one, two}
use Rattle.occ_engine.specs.occ_syntax.declared.scope.Kind.{Kind}
use Rattle.occ_engine.specs.occ_syntax.declared.scope.Kind.TheVariants.{Chan, Var}
use Rattle.occ_engine.specs.occ_syntax.Declarations.{declaring_all}
use Rattle.occ_engine.specs.occ_syntax.Names.{free, is_in, names, some_names}
use Rattle.occ_engine.specs.occ_syntax.Scopes.{Environment, environment}
use Rattle.occ_engine.specs.occ_syntax.Tree.{Exp, Tree, assign, declare, no_tree, seq}
use Rattle.occ_engine.specs.occ_syntax.Types.{scope_kept}
use Rattle.occ_engine.specs.occ_syntax.Usage.{Keeps}
use Rattle.occ_complete_states.specs.occ_target.States.{constant, variables}
use Rattle.occ_complete_states.specs.occ_target_laws.Bodies.{IsVariable}

-- ---- the last pair

last_once : (Γ : Environment) (xs : List ℕ) (y : ℕ) → AreVariables Γ (xs ++ y ∷ []) → is_in xs y ≡ false
last_once Γ [] y a = refl
last_once Γ (x ∷ xs) y a = or_from (y == x) (is_in xs y) (off_turned x y (last_apart xs a.1)) (last_once Γ xs y a.2)
  where
    last_apart : (xs : List ℕ) → is_in (xs ++ y ∷ []) x ≡ false → (x == y) ≡ false
    last_apart [] h = (or_parts (x == y) false h).0
    last_apart (z ∷ xs) h = last_apart xs (or_parts (x == z) (is_in (xs ++ y ∷ []) x) h).1

names_before : (xs : List ℕ) (y : ℕ) → is_in xs y ≡ false → names_without y (xs ++ y ∷ []) ≡ xs
names_before [] y h = if_true (y == y) [] (y ∷ []) (at_itself y)
names_before (x ∷ xs) y h =
    let p = or_parts (y == x) (is_in xs y) h in
    if_false (y == x) (names_without y (xs ++ y ∷ [])) (x ∷ names_without y (xs ++ y ∷ [])) p.0 ∙ ap (λ l. x ∷ l) (names_before xs y p.1)

values_before : (xs : List ℕ) (y : ℕ) (es : List Exp) (e : Exp) → length es ≡ length xs → is_in xs y ≡ false
    → values_without y (xs ++ y ∷ []) (es ++ e ∷ []) ≡ es
values_before [] y [] e l h = if_true (y == y) [] (e ∷ []) (at_itself y)
values_before [] y (f ∷ es) e l h = absurd (omega (arith, l))
values_before (x ∷ xs) y [] e l h = absurd (omega (arith, l))
values_before (x ∷ xs) y (f ∷ es) e l h =
    let p = or_parts (y == x) (is_in xs y) h in
    if_false (y == x) (values_without y (xs ++ y ∷ []) (es ++ e ∷ [])) (f ∷ values_without y (xs ++ y ∷ []) (es ++ e ∷ [])) p.0
    ∙ ap (λ z. f ∷ z) (values_before xs y es e (omega (arith, l)) p.1)

last_assigned : (xs : List ℕ) (y : ℕ) (es : List Exp) → assignment (xs ++ y ∷ []) es ≡ assign (xs ++ y ∷ []) es
last_assigned [] y es = refl
last_assigned (x ∷ xs) y es = refl

not_free : (xs : List ℕ) (es : List Exp) (y : ℕ) → is_in xs y ≡ false → some_names es y ≡ false → free (assignment xs es) y ≡ false
not_free [] es y h n = refl
not_free (x ∷ xs) es y h n = or_from (is_in (x ∷ xs) y) (some_names es y) h n

-- right sides that name nothing
abbrev pub NameNothing : List Exp → Type 0
NameNothing es = (x : ℕ) → some_names es x ≡ false

constant_names : (w : Width) (v x : ℕ) → names (constant w v) x ≡ false
constant_names Truth v x = refl
constant_names (Word bits) v x = refl

names_one_more : (es : List Exp) (w : Width) (v : ℕ) → NameNothing es → NameNothing (es ++ constant w v ∷ [])
names_one_more [] w v n x = or_from (names (constant w v) x) false (constant_names w v x) refl
names_one_more (e ∷ es) w v n x =
    or_from (names e x) (some_names (es ++ constant w v ∷ []) x) (or_parts (names e x) (some_names es x) (n x)).0
    (names_one_more es w v (λ z. (or_parts (names e z) (some_names es z) (n z)).1) x)

one_longer : (xs : List ℕ) (es : List Exp) (y : ℕ) (e : Exp) → length es ≡ length xs → length (es ++ e ∷ []) ≡ length (xs ++ y ∷ [])
one_longer xs es y e l = omega (arith, l, length-append es (e ∷ []), length-append xs (y ∷ []))

-- ---- the scopes end, the innermost first

-- pairs for other variables stand in front
pairs_go : (S : List (Name × Kind)) → scope_kept S ≡ true → (ys : List (Name × Kind)) → AllByRecursion (λ (y : Name × Kind). IsVariable y.1) ys
    → scope_kept (S ++ ys) ≡ true → (xs : List ℕ) (es : List Exp) (p : Tree) → length es ≡ length xs → NameNothing es
    → Keeps (environment S) (declaring_all ys (seq (two p (assign (xs ++ variables ys) (es ++ cleared ys)))))
    → Leads S (declaring_all ys (seq (two p (assign (xs ++ variables ys) (es ++ cleared ys))))) (seq (two (declaring_all ys p) (assignment xs es)))
pairs_go S kept [] all whole [] [] p l n k =
    absurd (false_not_true (assign_some (environment S) [] []
    (first_keeps (environment S) (assign [] []) no_tree (rest_keeps (environment S) p (one (assign [] [])) k))))
pairs_go S kept [] all whole [] (e ∷ es) p l n k = absurd (omega (arith, l))
pairs_go S kept [] all whole (x ∷ xs) es p l n k =
    subst (λ z. Leads S (seq (two p (assign (x ∷ z) (es ++ [])))) (seq (two p (assign (x ∷ xs) es)))) (sym (append-nil xs))
    (subst (λ z. Leads S (seq (two p (assign (x ∷ xs) z))) (seq (two p (assign (x ∷ xs) es)))) (sym (append-nil es))
    (leads_itself S (seq (two p (assign (x ∷ xs) es)))))
pairs_go S kept ((name, Chan w d) ∷ ys) all whole xs es p l n k = absurd all.0
pairs_go S kept ((name, Var w) ∷ ys) all whole xs es p l n k =
    let y = name.0 in
    let T = S ++ (name, Var w) ∷ [] in
    let q = declaring_all ys p in
    let more = xs ++ y ∷ [] in
    let sides = es ++ constant w 0 ∷ [] in
    let same : declaring_all ys (seq (two p (assign (xs ++ y ∷ variables ys) (es ++ constant w 0 ∷ cleared ys))))
    ≡ declaring_all ys (seq (two p (assign (more ++ variables ys) (sides ++ cleared ys)))) =
    λ i. declaring_all ys (seq (two p (assign (sym (append_assoc xs (y ∷ []) (variables ys)) i) (sym (append_assoc es (constant w 0 ∷ []) (cleared ys)) i)))) in
    let long : scope_kept (T ++ ys) ≡ true = subst (λ U. scope_kept U ≡ true) (sym (append_assoc S ((name, Var w) ∷ []) ys)) whole in
    let inner = pairs_go T (scope_front T ys long) ys all.1 long more sides p (one_longer xs es y (constant w 0) l) (names_one_more es w 0 n)
    (subst (Keeps (environment T)) same (declared_keeps S y w _ k)) in
    let first = declared_leads S y w (subst (λ z. Leads T z (seq (two q (assignment more sides)))) (sym same) inner) in
    let step : Leads S (declare y w (declaring_all ys (seq (two p (assign (xs ++ y ∷ variables ys) (es ++ constant w 0 ∷ cleared ys))))))
    (declare y w (seq (two q (assign more sides)))) =
    subst (λ z. Leads S (declare y w (declaring_all ys (seq (two p (assign (xs ++ y ∷ variables ys) (es ++ constant w 0 ∷ cleared ys))))))
    (declare y w (seq (two q z)))) (last_assigned xs y sides) first in
    let kept_so = leads_keep S kept k step in
    let once = last_once (environment T) xs y (assigned_variables T more sides
    (first_keeps (environment T) (assign more sides) no_tree (rest_keeps (environment T) q (one (assign more sides)) (declared_keeps S y w _ kept_so)))) in
    let without : assigned_without y more sides ≡ assignment xs es =
    λ i. assignment (names_before xs y once i) (values_before xs y es (constant w 0) l once i) in
    let last = last_pair_goes S y w q more sides kept_so in
    let second : Leads S (declare y w (seq (two q (assign more sides)))) (declare y w (seq (two q (assignment xs es)))) =
    subst (λ z. Leads S (declare y w (seq (two q (assign more sides)))) (declare y w (seq (two q z)))) without (law_leads S 56 last) in
    leads_on S step (leads_on S second
    (law_leads S 50 (off_last S y w q (assignment xs es) (leads_keep S kept kept_so second) (not_free xs es y once (n y)))))

-- What clears declared variables at the end of their scope goes.
pub clearing_goes : (S : List (Name × Kind)) → scope_kept S ≡ true → (ys : List (Name × Kind)) → AllByRecursion (λ (y : Name × Kind). IsVariable y.1) ys
    → scope_kept (S ++ ys) ≡ true → (p : Tree) → Keeps (environment S) (declaring_all ys (and_then (variables ys) (cleared ys) p))
    → Leads S (declaring_all ys (and_then (variables ys) (cleared ys) p)) (declaring_all ys p)
clearing_goes S kept [] all whole p k = leads_itself S p
clearing_goes S kept ((name, Chan w d) ∷ ys) all whole p k = absurd all.0
clearing_goes S kept ((name, Var w) ∷ ys) all whole p k =
    let q = declaring_all ((name, Var w) ∷ ys) p in
    let first = pairs_go S kept ((name, Var w) ∷ ys) all whole [] [] p refl (λ x. refl) k in
    let kept_so = leads_keep S kept k first in
    let second = law_leads S 4 (skip_law S (one q) no_tree kept_so) in
    leads_on S first (leads_on S second (law_leads S 2 (one_law S q (leads_keep S kept kept_so second))))
