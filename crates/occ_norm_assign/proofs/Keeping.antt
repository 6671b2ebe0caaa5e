-- What is kept while an assignment's bits are gathered.
use Rattle.std.proofs.Common.{◌≡◌, ◌<◌, ◌≤◌, ◌+◌, ◌++◌, ℕ, List, true, [], ◌∷◌, length, get_or, take, sym, ap, ◌∙◌, subst, arith, add-one, append_assoc, suc}
use Rattle.std.proofs.lemmas.List.Elements.{All-push}
use Rattle.std.proofs.Math.Seq.{take-suc}
use Rattle.std.proofs.lemmas.List.{length-map, length-take-le, map-append, take_all}
use Rattle.std.specs.List.{All}
use Rattle.occ_syntax.specs.occ_base.declared.names.Name.{Name}
use Rattle.occ_syntax.specs.occ_base.declared.width.Width.{Width}
use Rattle.occ_syntax.specs.declared.expr.Expr.{Expr}
use Rattle.occ_syntax.specs.Scopes.{variable_width}
use Rattle.occ_syntax.specs.Types.{agree, pairs_kept, type_of}
use Rattle.occ_syntax.specs.View.{exp, exps, numbers}
use Rattle.occ_norm_frame.specs.occ_bits.Layout.{environment_in}
use Rattle.occ_norm_frame.specs.occ_dd.Store.{IsKnown}
use Rattle.occ_norm_frame.specs.occ_dd.declared.set.SetId.{SetId}
use Rattle.occ_norm_frame.specs.occ_dd.declared.store.Store.{Store}
use Rattle.occ_norm_frame.specs.occ_node.declared.world.World.{World}
use Rattle.occ_norm_frame.specs.Maps.{Extends}
use Rattle.occ_norm_frame.proofs.Keeping.{set-extends}
use Rattle.occ_norm_frame.proofs.Placing.{pair_at}
use Rattle.occ_norm_assign.specs.Writes.{AreWrites, IsWrite}
use Rattle.occ_norm_assign.specs.Written.{AreAssigned, IsWritten, digit_writes}
use Rattle.occ_norm_assign.proofs.Written.{assigned-keeps, assigned_more}
use Rattle.occ_norm_assign.specs.declared.writes.Write.{Write}

pub writes-extend : (v w : World) → Extends v w → (writes : List Write) → AreWrites v.store writes → AreWrites w.store writes
writes-extend v w k writes all i d h = let is = all i d h in record { within = is.within; known = set-extends v w k (get_or writes i d).set is.known }

pub writes_push : (s : Store) (writes new : List Write) (sets : List SetId) (first place : ℕ) (set d : SetId) → AreWrites s writes → All (IsKnown s) sets → place < length sets → set ≡ get_or sets place d → first + length sets ≤ 64
    → new ≡ writes ++ record { bit = first + place; set = set } ∷ [] → AreWrites s new
writes_push s writes new sets first place set d are known h is few e = subst (AreWrites s) (sym e)
    (All-push (IsWrite s) writes (record { bit = first + place; set = set }) are (record { within = omega (arith, h, few); known = subst (IsKnown s) (sym is) (known place d h) }))

pub no_writes : (s : Store) (writes : List Write) → writes ≡ [] → AreWrites s writes
no_writes s writes e = subst (AreWrites s) (sym e) (λ i d h. absurd (omega (arith, h)))

-- ---- the writes of digits and of variables, as they are gathered
pub digits_push : (first : ℕ) (sets : List SetId) (set : SetId) → digit_writes first (sets ++ set ∷ []) ≡ digit_writes first sets ++ record { bit = first + length sets; set = set } ∷ []
digits_push first [] set = ap (λ n. record { bit = n; set = set } ∷ []) (let e : first ≡ first + 0 = omega arith in e)
digits_push first (a ∷ sets) set = ap (λ (ws : List Write). record { bit = first; set = a } ∷ ws)
    (digits_push (first + 1) sets set ∙ ap (λ n. digit_writes (first + 1) sets ++ record { bit = n; set = set } ∷ []) (let e : first + 1 + length sets ≡ first + suc (length sets) = omega arith in e))

pub digits_more : (first place : ℕ) (sets : List SetId) (set d : SetId) (old now new : List Write) → place < length sets → set ≡ get_or sets place d → now ≡ old ++ digit_writes first (take place sets)
    → new ≡ now ++ record { bit = first + place; set = set } ∷ [] → new ≡ old ++ digit_writes first (take (place + 1) sets)
digits_more first place sets set d old now new h is e f =
    let size : length (take place sets) ≡ place = length-take-le place sets (omega (arith, h)) in
    f ∙ ap (λ ws. ws ++ record { bit = first + place; set = set } ∷ []) e ∙ append_assoc old (digit_writes first (take place sets)) (record { bit = first + place; set = set } ∷ [])
    ∙ ap (λ ws. old ++ ws)
    (ap (λ n. digit_writes first (take place sets) ++ record { bit = first + n; set = set } ∷ []) (sym size) ∙ sym (digits_push first (take place sets) set)
    ∙ ap (digit_writes first) (ap (λ a. take place sets ++ a ∷ []) is ∙ sym (take-suc sets place d h) ∙ ap (λ n. take n sets) (sym (add-one place))))

pub assigned_next : (v w : World) → Extends v w → (layout : List (Name × Width × ℕ)) (vars : List Name) (values : List Expr) (i : ℕ) (x d : Name) (e : Expr) (old part new : List Write) → i < length vars → length vars ≡ length values
    → x ≡ get_or vars i d → e ≡ get_or values i e → AreAssigned v.store layout (numbers (take i vars)) (exps (take i values)) old → new ≡ old ++ part → IsWritten w.store layout x.0 (exp e) part
    → AreAssigned w.store layout (numbers (take (i + 1) vars)) (exps (take (i + 1) values)) new
assigned_next v w k layout vars values i x d e old part new h same x_is e_is before whole written =
    let names : numbers (take i vars) ++ x.0 ∷ [] ≡ numbers (take (i + 1) vars) = sym (map-append (λ (n : Name). n.0) (take i vars) (x ∷ [])) ∙ ap numbers (ap (λ (n : Name). take i vars ++ n ∷ []) x_is ∙ sym (take-suc vars i d h) ∙ ap (λ n. take n vars) (sym (add-one i))) in
    let parts : exps (take i values) ++ exp e ∷ [] ≡ exps (take (i + 1) values) = sym (map-append exp (take i values) (e ∷ [])) ∙ ap exps (ap (λ (p : Expr). take i values ++ p ∷ []) e_is ∙ sym (take-suc values i e (omega arith)) ∙ ap (λ n. take n values) (sym (add-one i))) in
    let sizes : length (numbers (take i vars)) ≡ length (exps (take i values)) = length-map (take i vars) (λ (n : Name). n.0) ∙ length-take-le i vars (omega arith) ∙ sym (length-map (take i values) exp ∙ length-take-le i values (omega arith)) in
    subst (AreAssigned w.store layout (numbers (take (i + 1) vars)) (exps (take (i + 1) values))) (sym whole)
    (subst (λ xs. AreAssigned w.store layout xs (exps (take (i + 1) values)) (old ++ part)) names
    (subst (λ es. AreAssigned w.store layout (numbers (take i vars) ++ x.0 ∷ []) es (old ++ part)) parts
    (assigned_more w.store layout (numbers (take i vars)) (exps (take i values)) old part x.0 (exp e)
    (assigned-keeps v.store w.store k.grows.stored layout (numbers (take i vars)) (exps (take i values)) old before) sizes written)))

pub assigned_whole : (s : Store) (layout : List (Name × Width × ℕ)) (vars : List Name) (values : List Expr) (i : ℕ) (writes : List Write) → length vars ≤ i → length vars ≡ length values
    → AreAssigned s layout (numbers (take i vars)) (exps (take i values)) writes → AreAssigned s layout (numbers vars) (exps values) writes
assigned_whole s layout vars values i writes h same is =
    subst (λ xs. AreAssigned s layout (numbers xs) (exps values) writes) (take_all i vars h)
    (subst (λ es. AreAssigned s layout (numbers (take i vars)) (exps es) writes) (take_all i values (omega arith)) is)

-- each variable and its value agree
pub pair_here : (layout : List (Name × Width × ℕ)) (vars : List Name) (values : List Expr) (i : ℕ) (d : Name) (e : Expr) → pairs_kept (environment_in layout) (numbers vars) (exps values) ≡ true → i < length vars → e ≡ get_or values i e
    → agree (variable_width (environment_in layout) (get_or vars i d).0) (type_of (environment_in layout) (exp e)) ≡ true
pair_here layout vars values i d e pairs h is = subst (λ (a : Expr). agree (variable_width (environment_in layout) (get_or vars i d).0) (type_of (environment_in layout) (exp a)) ≡ true) (sym is)
    (pair_at (environment_in layout) vars values i d e pairs h)
