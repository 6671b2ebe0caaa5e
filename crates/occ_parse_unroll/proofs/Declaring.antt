-- Names of declarations, one by one.
use Rattle.std.proofs.Common.{◌≡◌, ℕ, ◌+◌, ◌<◌, List, [], ◌∷◌, ◌++◌, length, get_or, drop, map, sym, ap, ◌∙◌, arith, append_assoc, Some, suc}
use Rattle.std.proofs.lemmas.List.{drop_more}
use Rattle.occ_syntax.specs.occ_base.declared.names.Name.{Name}
use Rattle.occ_syntax.specs.declared.scope.Kind.{Kind}
use Rattle.occ_parse_forms.specs.declared.form.Declared.{Declared}
use Rattle.occ_parse_forms.specs.declared.form.Declared.TheVariants as declared
use Rattle.occ_parse_forms.specs.declared.form.Param.{Param}
use Rattle.occ_parse_rules.specs.Places.{Sorts, Place, elements_from, declared_in, entries_of, param_entries, sort_of}
use Rattle.occ_parse_rules.specs.declared.sort.Sort.{Sort}
use Rattle.occ_parse_rules.specs.Unrolled.{Numbers, named, all_named, params_named}

-- the names of so many elements from one on
abbrev pub elements_named : Numbers → Kind → ℕ → ℕ → ℕ → List (Name × Kind)
elements_named N kind x k n = map (λ (p : Place). (record { 0 = N p.name p.element }, kind)) (elements_from x k n)

pub one_element : (N : Numbers) (kind : Kind) (x k n m : ℕ) (name : Name) (w w' : List (Name × Kind)) → n ≡ m + 1 → name.0 ≡ N x (Some k) → w' ≡ w ++ (name, kind) ∷ []
    → w' ++ elements_named N kind x (k + 1) m ≡ w ++ elements_named N kind x k n
one_element N kind x k n m name w w' e h p =
    let two : n ≡ suc m = omega arith in
    ap (λ v. v ++ elements_named N kind x (k + 1) m) p
    ∙ append_assoc w ((name, kind) ∷ []) (elements_named N kind x (k + 1) m)
    ∙ ap (λ a. w ++ (record { 0 = a }, kind) ∷ elements_named N kind x (k + 1) m) h
    ∙ sym (ap (λ c. w ++ elements_named N kind x k c) two)

-- one declaration's names
pub one_declared : (N : Numbers) (kind : Kind) (ds : List Declared) (i : ℕ) (z : Declared) (w w' : List (Name × Kind)) → i < length ds → w' ≡ w ++ named N kind (get_or ds i z)
    → w' ++ all_named N kind (drop (i + 1) ds) ≡ w ++ all_named N kind (drop i ds)
one_declared N kind ds i z w w' h p =
    ap (λ v. v ++ all_named N kind (drop (i + 1) ds)) p
    ∙ append_assoc w (named N kind (get_or ds i z)) (all_named N kind (drop (i + 1) ds))
    ∙ sym (ap (λ xs. w ++ all_named N kind xs) (drop_more ds i z h))

pub one_scope : (Γ Δ : Sorts) (kind : Kind) (ds : List Declared) (i : ℕ) (z : Declared) (s : Sort) → i < length ds → s ≡ sort_of kind
    → Δ ≡ record { declared = get_or ds i z; sort = s } ∷ Γ
    → declared_in Δ (entries_of kind (drop (i + 1) ds)) ≡ declared_in Γ (entries_of kind (drop i ds))
one_scope Γ Δ kind ds i z s h e p =
    ap (λ Θ. declared_in Θ (entries_of kind (drop (i + 1) ds))) p
    ∙ ap (λ r. declared_in (record { declared = get_or ds i z; sort = r } ∷ Γ) (entries_of kind (drop (i + 1) ds))) e
    ∙ sym (ap (λ xs. declared_in Γ (entries_of kind xs)) (drop_more ds i z h))

pub one_named : (N : Numbers) (kind : Kind) (d : Declared) (array : Name) (k : ℕ) (name : Name) (w w' : List (Name × Kind)) → d ≡ declared.Element array k → name.0 ≡ N array.0 (Some k)
    → w' ≡ w ++ (name, kind) ∷ [] → w' ≡ w ++ named N kind d
one_named N kind d array k name w w' e h p =
    p ∙ ap (λ a. w ++ (record { 0 = a }, kind) ∷ []) h ∙ ap (λ x. w ++ named N kind x) (sym e)

-- one parameter
pub one_param : (N : Numbers) (ps : List Param) (i : ℕ) (z : Param) (w w' : List (Name × Kind)) → i < length ps → w' ≡ w ++ named N (get_or ps i z).kind (get_or ps i z).declared
    → w' ++ params_named N (drop (i + 1) ps) ≡ w ++ params_named N (drop i ps)
one_param N ps i z w w' h p =
    ap (λ v. v ++ params_named N (drop (i + 1) ps)) p
    ∙ append_assoc w (named N (get_or ps i z).kind (get_or ps i z).declared) (params_named N (drop (i + 1) ps))
    ∙ sym (ap (λ xs. w ++ params_named N xs) (drop_more ps i z h))

pub one_param_scope : (Γ Δ : Sorts) (ps : List Param) (i : ℕ) (z : Param) (s : Sort) → i < length ps → s ≡ sort_of (get_or ps i z).kind
    → Δ ≡ record { declared = (get_or ps i z).declared; sort = s } ∷ Γ
    → declared_in Δ (param_entries (drop (i + 1) ps)) ≡ declared_in Γ (param_entries (drop i ps))
one_param_scope Γ Δ ps i z s h e p =
    ap (λ Θ. declared_in Θ (param_entries (drop (i + 1) ps))) p
    ∙ ap (λ r. declared_in (record { declared = (get_or ps i z).declared; sort = r } ∷ Γ) (param_entries (drop (i + 1) ps))) e
    ∙ sym (ap (λ xs. declared_in Γ (param_entries xs)) (drop_more ps i z h))
