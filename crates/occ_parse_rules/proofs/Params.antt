-- The parameters of a program: they are a scope, and its environment agrees with that of the lines.
use Rattle.std.proofs.Common.{◌≡◌, refl, ap, sym, ◌∙◌, subst, Bool, true, false, not, ◌||◌, ◌==◌, if◌then◌else◌, Option, Some, None, is_none, is_some, List, [], ◌∷◌, ◌++◌, inl, inr, ℕ}
use Rattle.std.specs.List.{list_any, list_all, flat_map, AllByRecursion}
use Rattle.std.proofs.lemmas.Bool.{or_parts, or_from, or_left, or_right, not-true, and_parts, and_from, false_from_ne_true, both_ways}
use Rattle.occ_meaning.specs.occ_base.declared.names.Name.{Name}
use Rattle.occ_meaning.proofs.Facts.{none_not_some, some_is, if_true, if_false}
use Rattle.occ_meaning.specs.occ_syntax.declared.scope.Kind.{Kind}
use Rattle.occ_meaning.specs.occ_syntax.Scopes.{environment}
use Rattle.occ_meaning.specs.occ_syntax.Types.{can_declare, is_width, scope_kept, width_of_kind}
use Rattle.occ_parse_forms.specs.declared.form.Declared.{Declared}
use Rattle.occ_parse_forms.specs.declared.form.Param.{Param}
use Rattle.occ_parse_rules.specs.Forest.{Forest}
use Rattle.occ_parse_rules.specs.declared.sort.Entry.{Entry}
use Rattle.occ_parse_rules.specs.declared.sort.Sort.{Sort}
use Rattle.occ_parse_rules.specs.Places.{Place, Sorts, Indices, sort_at, declares, places, entry_of, sort_of, declared_in, param_entries}
use Rattle.occ_parse_rules.specs.Names.{is_there, redeclares_some}
use Rattle.occ_parse_rules.specs.Unrolled.{Numbers, named, params_named}
use Rattle.occ_parse_rules.specs.Sound.{has_width}
use Rattle.occ_parse_rules.specs.Agreement.{Has, Known, IsOneToOne, Agrees, AreIn, IsTaken, at_first, behind_name, kind_of, sort_has_width}
use Rattle.occ_parse_rules.specs.Programs.{param_scope, IsInOrderWith, KeepsTypes}
use Rattle.occ_parse_rules.proofs.Declared.{in_places, is_at, numbered, one_number, declares_places, kind_of_sort, sort_width, not_counter, if_some, known_at, in_first, in_rest, places_apart, are_apart, is_at_is, is_at_itself}
use Rattle.occ_parse_rules.proofs.Kept.{slot_is_kept}

-- ---- the environment of a list of names

environment_more : (a b : List (Name × Kind)) (x : ℕ) → environment (a ++ b) x ≡ (if is_some (environment a x) then environment a x else environment b x)
environment_more [] b x = refl
environment_more (e ∷ a) b x = over (x == e.0.0) (environment (a ++ b) x) (environment a x) (environment b x) (environment_more a b x)
  where
    over : (t : Bool) (o u r : Option Kind) → o ≡ (if is_some u then u else r)
        → (if t then Some e.1 else o) ≡ (if is_some (if t then Some e.1 else u) then (if t then Some e.1 else u) else r)
    over true o u r h = refl
    over false o u r h = h

numbered_at : (D : Known) (N : Numbers) → IsOneToOne D N → (k : Kind) (ps : List Place) → AreIn D ps → (x : ℕ) (j : Option ℕ) → Has D x j
    → environment (numbered N k ps) (N x j) ≡ (if in_places ps x j then Some k else None)
unfolding numbered in_places
numbered_at D N u k [] h x j d = refl
numbered_at D N u k (p ∷ ps) h x j d =
    ap (λ b. if b then Some k else environment (numbered N k ps) (N x j)) (one_number D N u p x j h.0 d)
    ∙ (ap (λ o. if is_at p x j then Some k else o) (numbered_at D N u k ps h.1 x j d) ∙ joined (is_at p x j) (list_any (λ q. is_at q x j) ps))
  where
    joined : (b c : Bool) → (if b then Some k else (if c then Some k else None)) ≡ (if b || c then Some k else None)
    joined true c = refl
    joined false c = refl

-- ---- a later declaration stands behind the others

-- what a scope says of a place that the newer entries don't declare
sort_behind : (es : List Entry) (Γ : Sorts) (x : ℕ) (k : Option ℕ) → list_any (λ e. declares e.declared x k) es ≡ false → sort_at (declared_in Γ es) x k ≡ sort_at Γ x k
sort_behind [] Γ x k h = refl
sort_behind (e ∷ es) Γ x k h =
    let parts = or_parts (declares e.declared x k) (list_any (λ f. declares f.declared x k) es) h in
    sort_behind es (e ∷ Γ) x k parts.1 ∙ if_false (declares e.declared x k) (Some e.sort) (sort_at Γ x k) parts.0

-- a place in scope isn't declared by what follows
fresh_later : (es : List Entry) (Γ : Sorts) (x : ℕ) (k : Option ℕ) (s : Sort) → sort_at Γ x k ≡ Some s → redeclares_some Γ es ≡ false → list_any (λ e. declares e.declared x k) es ≡ false
unfolding in_places
fresh_later [] Γ x k s h n = refl
fresh_later (e ∷ es) Γ x k s h n =
    let parts = or_parts (list_any (is_there Γ) (places e.declared)) (redeclares_some (e ∷ Γ) es) n in
    let none = none_here (places e.declared) parts.0 in
    or_from (declares e.declared x k) (list_any (λ f. declares f.declared x k) es) (declares_places e.declared x k ∙ none)
    (fresh_later es (e ∷ Γ) x k s (if_false (declares e.declared x k) (Some e.sort) (sort_at Γ x k) (declares_places e.declared x k ∙ none) ∙ h) parts.1)
  where
    none_here : (ps : List Place) → list_any (is_there Γ) ps ≡ false → in_places ps x k ≡ false
    none_here [] a = refl
    none_here (p ∷ ps) a =
        let parts = or_parts (is_there Γ p) (list_any (is_there Γ) ps) a in
        or_from (is_at p x k) (in_places ps x k)
        (false_from_ne_true (is_at p x k) (λ t. let w = is_at_is p x k t in
        both_ways (is_some (sort_at Γ p.name p.element)) parts.0 (ap is_some (sym (ap (λ y. sort_at Γ y k) w.0 ∙ ap (sort_at Γ p.name) w.1) ∙ h))))
        (none_here ps parts.1)

params_at : (D : Known) (N : Numbers) → IsOneToOne D N → (ps : List Param) (Γ : Sorts) → AreIn D (flat_map (λ p. places p.declared) ps) → redeclares_some Γ (param_entries ps) ≡ false
    → (x : ℕ) (k : Option ℕ) → Has D x k → sort_at Γ x k ≡ None → environment (params_named N ps) (N x k) ≡ kind_of (sort_at (declared_in Γ (param_entries ps)) x k)
unfolding numbered
params_at D N u [] Γ h n x k d e = ap kind_of (sym e)
params_at D N u (p ∷ ps) Γ h n x k d e =
    let parts = or_parts (list_any (is_there Γ) (places p.declared)) (redeclares_some (entry_of p.kind p.declared ∷ Γ) (param_entries ps)) n in
    let first = in_first D (places p.declared) (flat_map (λ q. places q.declared) ps) h in
    environment_more (named N p.kind p.declared) (params_named N ps) (N x k)
    ∙ (ap (λ o. if is_some o then o else environment (params_named N ps) (N x k))
    (numbered_at D N u p.kind (places p.declared) first x k d ∙ ap (λ b. if b then Some p.kind else None) (sym (declares_places p.declared x k)))
    ∙ branch parts (λ f. params_at D N u ps (entry_of p.kind p.declared ∷ Γ) (in_rest D (places p.declared) (flat_map (λ q. places q.declared) ps) h) parts.1 x k d
    (if_false (declares p.declared x k) (Some (sort_of p.kind)) (sort_at Γ x k) f ∙ e)) (declares p.declared x k) refl)
  where
    branch : (list_any (is_there Γ) (places p.declared) ≡ false) × (redeclares_some (entry_of p.kind p.declared ∷ Γ) (param_entries ps) ≡ false)
        → (declares p.declared x k ≡ false → environment (params_named N ps) (N x k) ≡ kind_of (sort_at (declared_in (entry_of p.kind p.declared ∷ Γ) (param_entries ps)) x k)) → (b : Bool) → declares p.declared x k ≡ b
        → (if is_some (if b then Some p.kind else None) then (if b then Some p.kind else None) else environment (params_named N ps) (N x k))
        ≡ kind_of (sort_at (declared_in (entry_of p.kind p.declared ∷ Γ) (param_entries ps)) x k)
    branch parts more true f =
        let here = if_true (declares p.declared x k) (Some (sort_of p.kind)) (sort_at Γ x k) f in
        sym (kind_of_sort p.kind) ∙ (ap kind_of (sym here)
        ∙ ap kind_of (sym (sort_behind (param_entries ps) (entry_of p.kind p.declared ∷ Γ) x k (fresh_later (param_entries ps) (entry_of p.kind p.declared ∷ Γ) x k (sort_of p.kind) here parts.1))))
    branch parts more false f = more f

-- what holds of the sorts in the scope of parameters
sorts_in : (D : Known) (ps : List Param) (Γ : Sorts) → AreIn D (flat_map (λ p. places p.declared) ps) → list_all (λ p. has_width p.kind) ps ≡ true
    → ((x : ℕ) (k : Option ℕ) (s : Sort) → sort_at Γ x k ≡ Some s → Has D x k × (sort_has_width s ≡ true))
    → (x : ℕ) (k : Option ℕ) (s : Sort) → sort_at (declared_in Γ (param_entries ps)) x k ≡ Some s → Has D x k × (sort_has_width s ≡ true)
sorts_in D [] Γ h w f = f
sorts_in D (p ∷ ps) Γ h w f =
    let ws = and_parts (has_width p.kind) (list_all (λ q. has_width q.kind) ps) w in
    sorts_in D ps (entry_of p.kind p.declared ∷ Γ) (in_rest D (places p.declared) (flat_map (λ q. places q.declared) ps) h) ws.1
    (λ x k s e. elim (if_some (declares p.declared x k) (Some (sort_of p.kind)) (sort_at Γ x k) s e) [
      | inl t ↦ (
        known_at D (places p.declared) (in_first D (places p.declared) (flat_map (λ q. places q.declared) ps) h) x k (sym (declares_places p.declared x k) ∙ t.0),
        subst (λ r. sort_has_width r ≡ true) (some_is t.1) (sort_width p.kind ws.0),
      )
      | inr t ↦ f x k s t.1
    ])

params_taken : (ps : List Param) (Γ : Sorts) (ρ : Indices) → IsTaken Γ ρ → IsTaken (declared_in Γ (param_entries ps)) ρ
params_taken [] Γ ρ t = t
params_taken (p ∷ ps) Γ ρ t = params_taken ps (entry_of p.kind p.declared ∷ Γ) ρ (behind_name (not_counter p.kind) t)

params_agree : (D : Known) (N : Numbers) → IsOneToOne D N → (ps : List Param) → AreIn D (flat_map (λ p. places p.declared) ps) → redeclares_some [] (param_entries ps) ≡ false
    → list_all (λ p. has_width p.kind) ps ≡ true → Agrees D N (param_scope ps) (environment (params_named N ps))
params_agree D N u ps h n w = record {
  agree = λ x k d. params_at D N u ps [] h n x k d refl;
  inside = λ x k s e. (sorts_in D ps [] h w (λ y j r f. none_not_some f) x k s e).0;
  widths = λ x k s e. (sorts_in D ps [] h w (λ y j r f. none_not_some f) x k s e).1;
}

-- ---- the scope is kept

-- no name of later parameters is one of these places
AreOff : Numbers → List (Name × Kind) → List Place → Type 0
AreOff N rest ps = AllByRecursion (λ p. environment rest (N p.name p.element) ≡ None) ps

scope_numbered : (D : Known) (N : Numbers) → IsOneToOne D N → (k : Kind) (ps : List Place) (rest : List (Name × Kind)) → AreIn D ps → are_apart ps ≡ true → has_width k ≡ true
    → AreOff N rest ps → scope_kept rest ≡ true → scope_kept (numbered N k ps ++ rest) ≡ true
unfolding numbered are_apart AreOff
scope_numbered D N u k [] rest h a w f s = s
scope_numbered D N u k (p ∷ ps) rest h a w f s =
    let parts = and_parts (not (in_places ps p.name p.element)) (are_apart ps) a in
    let off = numbered_at D N u k ps h.1 p.name p.element h.0 ∙ ap (λ b. if b then Some k else None) (not-true (in_places ps p.name p.element) parts.0) in
    let none = environment_more (numbered N k ps) rest (N p.name p.element) ∙ (ap (λ o. if is_some o then o else environment rest (N p.name p.element)) off ∙ f.0) in
    and_from (can_declare (environment (numbered N k ps ++ rest)) (N p.name p.element) (width_of_kind k)) (scope_kept (numbered N k ps ++ rest))
    (and_from (is_none (environment (numbered N k ps ++ rest) (N p.name p.element))) (is_width (width_of_kind k)) (ap is_none none) w)
    (scope_numbered D N u k ps rest h.1 parts.1 w f.1 s)

-- a place that no parameter declares isn't in their environment
params_off : (D : Known) (N : Numbers) → IsOneToOne D N → (ps : List Param) → AreIn D (flat_map (λ p. places p.declared) ps) → (x : ℕ) (k : Option ℕ) → Has D x k
    → list_any (λ e. declares e.declared x k) (param_entries ps) ≡ false → environment (params_named N ps) (N x k) ≡ None
unfolding numbered
params_off D N u [] h x k d n = refl
params_off D N u (p ∷ ps) h x k d n =
    let parts = or_parts (declares p.declared x k) (list_any (λ e. declares e.declared x k) (param_entries ps)) n in
    environment_more (named N p.kind p.declared) (params_named N ps) (N x k)
    ∙ (ap (λ o. if is_some o then o else environment (params_named N ps) (N x k))
    (numbered_at D N u p.kind (places p.declared) (in_first D (places p.declared) (flat_map (λ q. places q.declared) ps) h) x k d
    ∙ ap (λ b. if b then Some p.kind else None) (sym (declares_places p.declared x k) ∙ parts.0))
    ∙ params_off D N u ps (in_rest D (places p.declared) (flat_map (λ q. places q.declared) ps) h) x k d parts.1)

all_off : (D : Known) (N : Numbers) → IsOneToOne D N → (ps : List Param) → AreIn D (flat_map (λ p. places p.declared) ps) → (Γ : Sorts) → redeclares_some Γ (param_entries ps) ≡ false
    → (qs : List Place) → AreIn D qs → AllByRecursion (λ q. (s : Sort) × (sort_at Γ q.name q.element ≡ Some s)) qs → AreOff N (params_named N ps) qs
unfolding AreOff
all_off D N u ps h Γ n [] k f = tt
all_off D N u ps h Γ n (q ∷ qs) k f =
    (params_off D N u ps h q.name q.element k.0 (fresh_later (param_entries ps) Γ q.name q.element f.0.0 f.0.1 n), all_off D N u ps h Γ n qs k.1 f.1)

all_there : (d : Declared) (s : Sort) (Γ : Sorts) (qs : List Place) → ((q : Place) → in_places qs q.name q.element ≡ true → declares d q.name q.element ≡ true)
    → AllByRecursion (λ q. (r : Sort) × (sort_at (record { declared = d; sort = s } ∷ Γ) q.name q.element ≡ Some r)) qs
unfolding in_places
all_there d s Γ [] f = tt
all_there d s Γ (q ∷ qs) f = (
  (s, if_true (declares d q.name q.element) (Some s) (sort_at Γ q.name q.element) (f q (or_left (is_at q q.name q.element) (list_any (λ r. is_at r q.name q.element) qs) (is_at_itself q)))),
  all_there d s Γ qs (λ r e. f r (or_right (is_at q r.name r.element) (list_any (λ t. is_at t r.name r.element) qs) e)),
)

params_kept : (D : Known) (N : Numbers) → IsOneToOne D N → (ps : List Param) (Γ : Sorts) → AreIn D (flat_map (λ p. places p.declared) ps) → redeclares_some Γ (param_entries ps) ≡ false
    → list_all (λ p. has_width p.kind) ps ≡ true → scope_kept (params_named N ps) ≡ true
unfolding numbered
params_kept D N u [] Γ h n w = refl
params_kept D N u (p ∷ ps) Γ h n w =
    let ws = and_parts (has_width p.kind) (list_all (λ q. has_width q.kind) ps) w in
    let parts = or_parts (list_any (is_there Γ) (places p.declared)) (redeclares_some (entry_of p.kind p.declared ∷ Γ) (param_entries ps)) n in
    let first = in_first D (places p.declared) (flat_map (λ q. places q.declared) ps) h in
    let later = in_rest D (places p.declared) (flat_map (λ q. places q.declared) ps) h in
    scope_numbered D N u p.kind (places p.declared) (params_named N ps) first (places_apart p.declared) ws.0
    (all_off D N u ps later (entry_of p.kind p.declared ∷ Γ) parts.1 (places p.declared) first
    (all_there p.declared (sort_of p.kind) Γ (places p.declared) (λ q e. declares_places p.declared q.name q.element ∙ e)))
    (params_kept D N u ps (entry_of p.kind p.declared ∷ Γ) later parts.1 ws.1)

pub program_kept : (D : Known) (N : Numbers) → IsOneToOne D N → (params : List Param) (below : Forest) → IsInOrderWith D params below → KeepsTypes N params below
program_kept D N u params below i = record {
  scope = params_kept D N u params [] i.known i.once i.widths;
  types = slot_is_kept D N u below i.sound i.placed i.declared (param_scope params) (λ j. 0) (environment (params_named N params)) i.lines (params_taken params [] (λ j. 0) at_first) (params_agree D N u params i.known i.once i.widths);
}
