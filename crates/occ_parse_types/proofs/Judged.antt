-- Lines whose names are in order, one after another.
use Rattle.std.proofs.Common.{◌≡◌, ℕ, ◌+◌, ◌<◌, Bool, true, false, not, ◌&&◌, ◌||◌, if◌then◌else◌, List, [], ◌∷◌, Option, Some, None, is_none, length, get_or, drop, refl, sym, ap, ◌∙◌}
use Rattle.std.specs.List.{list_any}
use Rattle.std.proofs.lemmas.Bool.{and_from, both_ways, not-false, or_from, or_parts}
use Rattle.occ_parse_forms.specs.declared.form.Declared.{Declared}
use Rattle.occ_parse_forms.specs.declared.form.Declared.TheVariants as declared
use Rattle.occ_parse_forms.specs.declared.form.Item.{Item}
use Rattle.occ_parse_forms.specs.declared.form.Param.{Param}
use Rattle.occ_parse_forms.specs.declared.phrase.Index.{Index}
use Rattle.occ_parse_forms.specs.Shape.{Shape, header, close, skip, stop, assign, receive, send, group, declare, condition, guard, nothing}
use Rattle.occ_syntax.specs.declared.scope.Kind.{Kind}
use Rattle.occ_syntax.specs.declared.scope.Kind.TheVariants as kind
use Rattle.occ_parse_rules.specs.declared.fault.NameFault.TheVariants as fault
use Rattle.occ_parse_rules.specs.declared.node.Node.{Node}
use Rattle.occ_parse_rules.specs.Forest.{Forest, and_line, forest, grafted}
use Rattle.occ_parse_rules.specs.Judging.{behind, first_fault, inside, on_line, or_else}
use Rattle.occ_parse_rules.specs.Names.{index_counts, is_outside, is_undeclared, is_undeclared_at, name_fault, uses}
use Rattle.occ_parse_rules.specs.Places.{Sorts, Indices, declared_in, entries_of, for_some, param_entries, place_with, sort_of, sort_of_place}
use Rattle.occ_parse_rules.specs.Types.{direction_fault, has_lost, line_against, sort_here, sort_if}
use Rattle.occ_parse_scopes.specs.Taken.{Takes}
use Rattle.occ_parse_scopes.proofs.Levels.{forest_next}
use Rattle.occ_parse_scopes.proofs.Taken.{never}
use Rattle.occ_parse_types.specs.Asking.{AllThere, is_plain, plain_counters}
use Rattle.occ_parse_types.specs.Lines.{is_lost}
use Rattle.occ_parse_types.specs.Walking.{line_of}

-- ---- the items of a line are in scope

counted : (a b : Bool) → a ≡ true → (a && b) ≡ false → b ≡ false
counted true b h k = k
counted false b h k = absurd (both_ways true (sym h) refl)

there_by : (Γ : Sorts) (ρ : Indices) (x : ℕ) (o : Option Index) → Takes Γ ρ → is_undeclared_at Γ x o ≡ false → (index_counts Γ o && for_some Γ (λ ρ. is_none (sort_of_place Γ (place_with ρ x o)))) ≡ false → not (is_none o || index_counts Γ o) ≡ false → is_none (sort_if (is_none o || index_counts Γ o) (sort_of_place Γ (place_with ρ x o))) ≡ false
there_by Γ ρ x None t declared outside lost = declared
there_by Γ ρ x (Some i) t declared outside lost =
    let counts : index_counts Γ (Some i) ≡ true = not-false (index_counts Γ (Some i)) lost in
    ap (λ b. is_none (sort_if b (sort_of_place Γ (place_with ρ x (Some i))))) counts
    ∙ never Γ (λ ρ. is_none (sort_of_place Γ (place_with ρ x (Some i)))) (counted (index_counts Γ (Some i)) _ counts outside) ρ t

there_all : (Γ : Sorts) (ρ : Indices) (is : List Item) → Takes Γ ρ → list_any (is_undeclared Γ) is ≡ false → list_any (is_outside Γ) is ≡ false → list_any (is_lost Γ) is ≡ false → list_any (λ i. is_none (sort_here Γ ρ i)) is ≡ false
there_all Γ ρ [] t a b c = refl
there_all Γ ρ (i ∷ is) t a b c =
    let undeclared = or_parts (is_undeclared Γ i) (list_any (is_undeclared Γ) is) a in
    let outside = or_parts (is_outside Γ i) (list_any (is_outside Γ) is) b in
    let lost = or_parts (is_lost Γ i) (list_any (is_lost Γ) is) c in
    or_from _ _ (there_by Γ ρ i.name.0 i.index t undeclared.0 outside.0 lost.0) (there_all Γ ρ is t undeclared.1 outside.1 lost.1)

no_fault : (a b c d : Bool) → (if a then Some fault.Undeclared else (if b then Some fault.Redeclared else (if c || d then Some fault.Index else None))) ≡ None → (a ≡ false) × (c ≡ false)
no_fault true b c d h = absurd (cc)
no_fault false true c d h = absurd (cc)
no_fault false false true d h = absurd (cc)
no_fault false false false d h = (refl, refl)

pub in_order : (Γ : Sorts) (s : Shape) → name_fault Γ s ≡ None → has_lost Γ s ≡ false → AllThere Γ (uses s)
in_order Γ s names lost =
    let none = no_fault _ _ _ _ names in
    record { all = λ ρ t. there_all Γ ρ (uses s) t none.0 none.1 lost }

-- ---- only names by themselves stand for replicators' indices

plain_kind : (k : Kind) (d : Declared) → is_plain d (Some (sort_of k)) ≡ true
plain_kind (kind.Var w) (declared.Plain x) = refl
plain_kind (kind.Var w) (declared.Element x k) = refl
plain_kind (kind.Var w) (declared.Array x n) = refl
plain_kind (kind.Chan w mark) (declared.Plain x) = refl
plain_kind (kind.Chan w mark) (declared.Element x k) = refl
plain_kind (kind.Chan w mark) (declared.Array x n) = refl

plain_declared : (Γ : Sorts) (k : Kind) (ds : List Declared) → plain_counters Γ ≡ true → plain_counters (declared_in Γ (entries_of k ds)) ≡ true
plain_declared Γ k [] h = h
plain_declared Γ k (d ∷ ds) h = plain_declared (_ ∷ Γ) k ds (and_from _ _ (plain_kind k d) h)

plain_params : (Γ : Sorts) (ps : List Param) → plain_counters Γ ≡ true → plain_counters (declared_in Γ (param_entries ps)) ≡ true
plain_params Γ [] h = h
plain_params Γ (p ∷ ps) h = plain_params (_ ∷ Γ) ps (and_from _ _ (plain_kind p.kind p.declared) h)

pub plain_inside : (Γ : Sorts) (s : Shape) → plain_counters Γ ≡ true → plain_counters (inside Γ s) ≡ true
plain_inside Γ (header name params) h = plain_params Γ params h
plain_inside Γ (group g (Some times)) h = h
plain_inside Γ (group g None) h = h
plain_inside Γ close h = h
plain_inside Γ skip h = h
plain_inside Γ stop h = h
plain_inside Γ (assign xs es) h = h
plain_inside Γ (receive c x) h = h
plain_inside Γ (send c e) h = h
plain_inside Γ (declare k ds) h = h
plain_inside Γ (condition e) h = h
plain_inside Γ (guard e w) h = h
plain_inside Γ nothing h = h

pub plain_behind : (Γ0 Γ : Sorts) (s : Shape) → plain_counters Γ0 ≡ true → plain_counters Γ ≡ true → plain_counters (behind Γ0 Γ s) ≡ true
plain_behind Γ0 Γ (declare k ds) h0 h = plain_declared Γ k ds h
plain_behind Γ0 Γ (header name params) h0 h = h0
plain_behind Γ0 Γ (group g times) h0 h = h0
plain_behind Γ0 Γ close h0 h = h0
plain_behind Γ0 Γ skip h0 h = h0
plain_behind Γ0 Γ stop h0 h = h0
plain_behind Γ0 Γ (assign xs es) h0 h = h0
plain_behind Γ0 Γ (receive c x) h0 h = h0
plain_behind Γ0 Γ (send c e) h0 h = h0
plain_behind Γ0 Γ (condition e) h0 h = h0
plain_behind Γ0 Γ (guard e w) h0 h = h0
plain_behind Γ0 Γ nothing h0 h = h0

-- ---- lines without a fault in their names

none_of : {F : Type 0} (number : ℕ) (a : Option F) (b c : Option (ℕ × F)) → or_else (on_line number a) (or_else b c) ≡ None → (a ≡ None) × (b ≡ None) × (c ≡ None)
none_of number (Some f) b c h = absurd (cc)
none_of number None (Some f) c h = absurd (cc)
none_of number None None c h = (refl, refl, h)

pub names_here : (Γ0 Γ : Sorts) (nodes : List Node) (i : ℕ) (node : Node) (number : ℕ) (s : Shape) (below : Forest) → i < length nodes → node ≡ get_or nodes i node → ((rest : Forest) → grafted node rest ≡ and_line number s below rest) → first_fault name_fault Γ0 Γ (forest (drop i nodes)) ≡ None → (name_fault Γ s ≡ None) × (first_fault name_fault (inside Γ s) (inside Γ s) below ≡ None) × (first_fault name_fault Γ0 (behind Γ0 Γ s) (forest (drop (i + 1) nodes)) ≡ None)
names_here Γ0 Γ nodes i node number s below h e g names =
    none_of number (name_fault Γ s) (first_fault name_fault (inside Γ s) (inside Γ s) below) _
    (sym (ap (first_fault name_fault Γ0 Γ) (forest_next nodes i node h e ∙ g (forest (drop (i + 1) nodes)))) ∙ names)

-- ---- no line against a mark

pub line_none : {F : Type 0} (o : Option (ℕ × F)) → line_of o ≡ None → o ≡ None
line_none None h = refl
line_none (Some f) h = absurd (cc)

pub against_none : (Γ : Sorts) (s : Shape) → for_some Γ (λ ρ. line_against Γ ρ s) ≡ false → direction_fault Γ s ≡ None
against_none Γ s h = ap (λ (b : Bool). if b then Some tt else None) h
