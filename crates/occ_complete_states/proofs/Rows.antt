-- ALTs of branches in a list, all of whose conditions are TRUE: one branch is replaced, and declarations go in.
use Rattle.std.proofs.Common.{◌≡◌, ◌∙◌, ℕ, true, false, ◌||◌, List, [], ◌∷◌, ◌++◌, refl, sym, ap, subst, map}
use Rattle.std.proofs.lemmas.List.{append_assoc}
use Rattle.std.specs.List.{AllByRecursion}
use Rattle.occ_derive_laws.specs.occ_base.declared.names.Name.{Name}
use Rattle.occ_derive_laws.specs.occ_base.declared.width.Width.{Width}
use Rattle.occ_derive_laws.proofs.Holding.{flat_law}
use Rattle.occ_derive_laws.proofs.Declared.{into_branches}
use Rattle.occ_complete_states.proofs.Leading.{declared_leads, law_leads, leads_itself, leads_keep, leads_on}
use Rattle.occ_complete_states.proofs.Pointwise.{branch_leads}
use Rattle.occ_complete_states.proofs.Scopes.{declared_keeps, last_new, scope_front}
use Rattle.occ_complete_states.specs.Leads.{Leads}
use Rattle.occ_complete_states.specs.Rows.{AllReplaced, Replaces, changed, each_declaring, flattened, guard_names, has_ready, none_left, one_more}
use Rattle.occ_derive_laws.specs.occ_law.Choice.{and_skip, has_skip, is_ready}
use Rattle.occ_derive_laws.specs.occ_law.Lists.{all_branches}
use Rattle.occ_derive_laws.specs.occ_law.Scope.{each_branch_declaring, some_guard_names}
use Rattle.occ_derive_laws.specs.occ_syntax.declared.scope.Kind.{Kind}
use Rattle.occ_derive_laws.specs.occ_syntax.declared.scope.Kind.TheVariants.{Chan, Var}
use Rattle.occ_derive_laws.specs.occ_syntax.Declarations.{declaring, declaring_all}
use Rattle.occ_derive_laws.specs.occ_syntax.Names.{free_in_waiting}
use Rattle.occ_derive_laws.specs.occ_syntax.Scopes.{environment}
use Rattle.occ_derive_laws.specs.occ_syntax.Tree.{Tree, Waiting, alt, and_branch, declare, ready, truth}
use Rattle.occ_derive_laws.specs.occ_syntax.Types.{scope_kept}
use Rattle.occ_derive_laws.specs.occ_syntax.Usage.{Keeps}
use Rattle.occ_derive_laws.specs.occ_target.Rows.{guarded}
use Rattle.occ_derive_laws.specs.occ_target_laws.Bodies.{IsVariable}

pub guarded_append : (bs cs : List (Waiting × Tree)) → guarded (bs ++ cs) ≡ all_branches (guarded bs) (guarded cs)
guarded_append [] cs = refl
guarded_append (b ∷ bs) cs = ap (and_branch (truth true) b.0 b.1) (guarded_append bs cs)

pub ready_is_skip : (bs : List (Waiting × Tree)) → has_skip (guarded bs) ≡ has_ready bs
ready_is_skip [] = refl
ready_is_skip (b ∷ bs) = ap (λ t. is_ready b.0 || t) (ready_is_skip bs)

-- ---- one branch

pub branch_becomes : (S : List (Name × Kind)) (front rest : List (Waiting × Tree)) (w : Waiting) {p q : Tree} → Leads S p q
    → Leads S (alt (guarded (front ++ (w, p) ∷ rest))) (alt (guarded (front ++ (w, q) ∷ rest)))
branch_becomes S front rest w {p} {q} a =
    subst (λ g. Leads S (alt g) (alt (guarded (front ++ (w, q) ∷ rest)))) (sym (guarded_append front ((w, p) ∷ rest)))
    (subst (λ g. Leads S (alt (all_branches (guarded front) (guarded ((w, p) ∷ rest)))) (alt g)) (sym (guarded_append front ((w, q) ∷ rest)))
    (branch_leads S (guarded front) (truth true) w (guarded rest) a))

-- the branches of an ALT that goes on at once, in the place of that ALT
pub goes_flat : (S : List (Name × Kind)) (front bs rest : List (Waiting × Tree)) → has_ready bs ≡ true
    → Keeps (environment S) (alt (guarded (front ++ (ready, alt (guarded bs)) ∷ rest)))
    → Leads S (alt (guarded (front ++ (ready, alt (guarded bs)) ∷ rest))) (alt (guarded (front ++ (bs ++ rest))))
goes_flat S front bs rest h k =
    let old = guarded_append front ((ready, alt (guarded bs)) ∷ rest) in
    let new = guarded_append front (bs ++ rest) ∙ ap (all_branches (guarded front)) (guarded_append bs rest) in
    subst (λ g. Leads S (alt g) (alt (guarded (front ++ (bs ++ rest))))) (sym old)
    (subst (λ g. Leads S (alt (all_branches (guarded front) (and_skip (alt (guarded bs)) (guarded rest)))) (alt g)) (sym new)
    (law_leads S 32 (flat_law S (guarded front) (guarded bs) (guarded rest) (ready_is_skip bs ∙ h) (subst (λ g. Keeps (environment S) (alt g)) old k))))

one_replaced : (S : List (Name × Kind)) (front rest : List (Waiting × Tree)) (b : Waiting × Tree) (new : List (Waiting × Tree)) → scope_kept S ≡ true
    → Replaces S b new → Keeps (environment S) (alt (guarded (front ++ b ∷ rest)))
    → Leads S (alt (guarded (front ++ b ∷ rest))) (alt (guarded (front ++ (new ++ rest))))
one_replaced S front rest b new h (changed w p q a) k = branch_becomes S front rest w a
one_replaced S front rest b new h (flattened p bs a r) k =
    let first = branch_becomes S front rest ready a in leads_on S first (goes_flat S front bs rest r (leads_keep S h k first))

pub replaced_behind : (S : List (Name × Kind)) (front : List (Waiting × Tree)) {bs cs : List (Waiting × Tree)} → scope_kept S ≡ true → AllReplaced S bs cs
    → Keeps (environment S) (alt (guarded (front ++ bs))) → Leads S (alt (guarded (front ++ bs))) (alt (guarded (front ++ cs)))
replaced_behind S front h none_left k = leads_itself S (alt (guarded (front ++ [])))
replaced_behind S front h (one_more {b} {new} {bs} {cs} r more) k =
    let first = one_replaced S front bs b new h r k in
    let kept = leads_keep S h k first in
    leads_on S first
    (subst (λ l. Leads S (alt (guarded l)) (alt (guarded (front ++ (new ++ cs))))) (append_assoc front new bs)
    (subst (λ l. Leads S (alt (guarded ((front ++ new) ++ bs))) (alt (guarded l))) (append_assoc front new cs)
    (replaced_behind S (front ++ new) h more (subst (λ l. Keeps (environment S) (alt (guarded l))) (sym (append_assoc front new bs)) kept))))

-- all branches are replaced
pub replaced_leads : (S : List (Name × Kind)) {bs cs : List (Waiting × Tree)} → scope_kept S ≡ true → AllReplaced S bs cs
    → Keeps (environment S) (alt (guarded bs)) → Leads S (alt (guarded bs)) (alt (guarded cs))
replaced_leads S h r k = replaced_behind S [] h r k

-- ---- declarations go into branches

each_one : (x : ℕ) (w : Width) (bs : List (Waiting × Tree)) → each_branch_declaring x w (guarded bs) ≡ guarded (map (λ (b : Waiting × Tree). (b.0, declare x w b.1)) bs)
each_one x w [] = refl
each_one x w (b ∷ bs) = ap (and_branch (truth true) b.0 (declare x w b.1)) (each_one x w bs)

guards_name : (bs : List (Waiting × Tree)) (x : ℕ) → some_guard_names (guarded bs) x ≡ guard_names bs x
guards_name [] x = refl
guards_name (b ∷ bs) x = ap (λ t. free_in_waiting b.0 x || t) (guards_name bs x)

each_guard : (ys : List (Name × Kind)) (bs : List (Waiting × Tree)) (x : ℕ) → guard_names (each_declaring ys bs) x ≡ guard_names bs x
each_guard ys [] x = refl
each_guard ys (b ∷ bs) x = ap (λ t. free_in_waiting b.0 x || t) (each_guard ys bs x)

each_more : (x : Name) (w : Width) (ys : List (Name × Kind)) (bs : List (Waiting × Tree))
    → map (λ (b : Waiting × Tree). (b.0, declare x.0 w b.1)) (each_declaring ys bs) ≡ each_declaring ((x, Var w) ∷ ys) bs
each_more x w ys [] = refl
each_more x w ys (b ∷ bs) = ap (λ l. (b.0, declare x.0 w (declaring_all ys b.1)) ∷ l) (each_more x w ys bs)

each_none : (bs : List (Waiting × Tree)) → each_declaring [] bs ≡ bs
each_none [] = refl
each_none (b ∷ bs) = ap (λ l. b ∷ l) (each_none bs)

-- What is declared for an ALT is declared in each branch, where no guard names it.
pub declarations_go_in : (S ys : List (Name × Kind)) (bs : List (Waiting × Tree)) → AllByRecursion (λ (y : Name × Kind). IsVariable y.1) ys
    → AllByRecursion (λ (y : Name × Kind). guard_names bs y.0.0 ≡ false) ys → scope_kept (S ++ ys) ≡ true
    → Keeps (environment S) (declaring_all ys (alt (guarded bs)))
    → Leads S (declaring_all ys (alt (guarded bs))) (alt (guarded (each_declaring ys bs)))
declarations_go_in S [] bs vars free h k = subst (λ l. Leads S (alt (guarded bs)) (alt (guarded l))) (sym (each_none bs)) (leads_itself S (alt (guarded bs)))
declarations_go_in S (y ∷ ys) bs vars free h k = one y.0 y.1 vars.0 free.0 k longer (λ l kept. declarations_go_in (S ++ y ∷ []) ys bs vars.1 free.1 l kept)
  where
    longer : scope_kept ((S ++ y ∷ []) ++ ys) ≡ true
    longer = subst (λ U. scope_kept U ≡ true) (sym (append_assoc S (y ∷ []) ys)) h

    one : (x : Name) (kind : Kind) → IsVariable kind → guard_names bs x.0 ≡ false
        → Keeps (environment S) (declaring x.0 kind (declaring_all ys (alt (guarded bs)))) → scope_kept ((S ++ (x, kind) ∷ []) ++ ys) ≡ true
        → (scope_kept ((S ++ (x, kind) ∷ []) ++ ys) ≡ true → Keeps (environment (S ++ (x, kind) ∷ [])) (declaring_all ys (alt (guarded bs)))
        → Leads (S ++ (x, kind) ∷ []) (declaring_all ys (alt (guarded bs))) (alt (guarded (each_declaring ys bs))))
        → Leads S (declaring x.0 kind (declaring_all ys (alt (guarded bs)))) (alt (guarded (each_declaring ((x, kind) ∷ ys) bs)))
    one x (Chan w d) v g kept l further = absurd v
    one x (Var w) v g kept l further =
        let here = declared_keeps S x.0 w (declaring_all ys (alt (guarded bs))) kept in
        let inner = declared_leads S x.0 w (further l here) in
        let there = leads_keep S (last_new S x (Var w) (scope_front (S ++ (x, Var w) ∷ []) ys l)).kept kept inner in
        leads_on S inner
        (subst (λ g. Leads S (declare x.0 w (alt (guarded (each_declaring ys bs)))) (alt g)) (each_one x.0 w (each_declaring ys bs) ∙ ap guarded (each_more x w ys bs))
        (law_leads S 52 (into_branches S x.0 w (guarded (each_declaring ys bs)) there
        (guards_name (each_declaring ys bs) x.0 ∙ each_guard ys bs x.0 ∙ g))))
