-- The scope of a part.
use Rattle.std.proofs.Common.{◌≡◌, ℕ, ◌+◌, ◌≤◌, true, List, [], ◌∷◌, ◌++◌, length, drop, Option, Some, refl, ap, ◌∙◌, append-nil}
use Rattle.std.proofs.lemmas.List.{drop_all}
use Rattle.std.proofs.lemmas.Bool.{and_from}
use Rattle.occ_syntax.specs.occ_base.declared.names.Name.{Name}
use Rattle.occ_syntax.specs.declared.scope.Kind.{Kind}
use Rattle.occ_syntax.specs.declared.scope.Kind.TheVariants as kind
use Rattle.occ_parse_forms.specs.declared.form.Declared.{Declared}
use Rattle.occ_parse_forms.specs.declared.form.Declared.TheVariants as declared
use Rattle.occ_parse_forms.specs.declared.form.Param.{Param}
use Rattle.occ_parse_rules.specs.Places.{Sorts, declared_in, param_entries, sort_of}
use Rattle.occ_parse_rules.specs.Programs.{param_scope}
use Rattle.occ_parse.specs.occ_parse_types.Asking.{is_plain, plain_counters}
use Rattle.occ_syntax.specs.Tree.{Tree}
use Rattle.occ_parse_rules.specs.Forest.{Forest}
use Rattle.occ_parse_rules.specs.Unrolled.{slot, unrolled}
use Rattle.occ_parse.specs.occ_parse_unroll.declared.values.Present.{Present}
use Rattle.occ_parse.specs.occ_parse_unroll.Present.{values_of}
use Rattle.occ_parse.specs.declared.fault.ParseFault.{ParseFault}
use Rattle.occ_parse_part.specs.Elements.{Elements, numbers}
use Rattle.occ_parse_part.specs.Parts.{Part}
use Rattle.occ_parse_part.specs.Resolving.{fault_in, part_fault, part_process, scope_of, scope_params}

-- ---- declarations one by one

pub params_done : (e : Elements) (scope : List (Name × Kind)) (i : ℕ) (ps : List Param) → length scope ≤ i → ps ++ scope_params e (drop i scope) ≡ ps
params_done e scope i ps h = ap (λ xs. ps ++ scope_params e xs) (drop_all i scope h) ∙ append-nil ps

-- ---- no replicator's index is in scope

plain_one : (d : Declared) (k : Kind) → is_plain d (Some (sort_of k)) ≡ true
plain_one (declared.Plain x) k = refl
plain_one (declared.Element x n) (kind.Var w) = refl
plain_one (declared.Element x n) (kind.Chan w m) = refl
plain_one (declared.Array x n) (kind.Var w) = refl
plain_one (declared.Array x n) (kind.Chan w m) = refl

plain_behind : (Γ : Sorts) (ps : List Param) → plain_counters Γ ≡ true → plain_counters (declared_in Γ (param_entries ps)) ≡ true
plain_behind Γ [] h = h
plain_behind Γ (p ∷ ps) h =
    plain_behind (record { declared = p.declared; sort = sort_of p.kind } ∷ Γ) ps (and_from (is_plain p.declared (Some (sort_of p.kind))) (plain_counters Γ) (plain_one p.declared p.kind) h)

pub plain_scope : (Γ : Sorts) (ps : List Param) → Γ ≡ [] → plain_counters (declared_in Γ (param_entries ps)) ≡ true
plain_scope Γ ps e = plain_behind Γ ps (ap plain_counters e)

-- ---- the scope of a part

pub scope_is : (e : Elements) (scope : List (Name × Kind)) (params : List Param) (start Γ : Sorts) → params ≡ scope_params e scope → start ≡ []
    → Γ ≡ declared_in start (param_entries params) → Γ ≡ param_scope (scope_params e scope)
scope_is e scope params start Γ p s g = g ∙ ap (λ Δ. declared_in Δ (param_entries params)) s ∙ ap (λ ps. declared_in [] (param_entries ps)) p

pub fault_is : (part : Part) (scope : List (Name × Kind)) (Γ : Sorts) (f : Forest) (r : Option ParseFault) → Γ ≡ scope_of part scope → f ≡ part.lines → r ≡ fault_in Γ f
    → r ≡ part_fault part scope
fault_is part scope Γ f r g l h = h ∙ ap (λ Δ. fault_in Δ f) g ∙ ap (fault_in (scope_of part scope)) l

pub process_is : (part : Part) (scope : List (Name × Kind)) (e : Elements) (Γ : Sorts) (us : List Present) (f : Forest) (p : Tree) → e ≡ part.elements → Γ ≡ scope_of part scope → us ≡ []
    → f ≡ part.lines → p ≡ slot (unrolled (numbers e) f) Γ (values_of us) → p ≡ part_process part scope
process_is part scope e Γ us f p n g u l h =
    h ∙ ap (λ vs. slot (unrolled (numbers e) f) Γ (values_of vs)) u
    ∙ ap (λ Δ. slot (unrolled (numbers e) f) Δ (λ i. 0)) g
    ∙ ap (λ d. slot (unrolled (numbers d) f) (scope_of part scope) (λ i. 0)) n
    ∙ ap (λ g'. slot (unrolled (numbers part.elements) g') (scope_of part scope) (λ i. 0)) l
