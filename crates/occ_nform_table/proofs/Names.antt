-- Tables of names that grow: earlier names keep their texts, and what is said of parameters stays.
use Rattle.std.proofs.Common.{◌≡◌, ℕ, ◌+◌, ◌<◌, ◌≤◌, Bool, true, false, eqb, ltb, leb, not, ◌&&◌, ◌||◌, List, [], ◌∷◌, ◌++◌, length, slice_get, Option, refl, sym, ap, subst, ◌∙◌, arith, append_assoc, append-nil, length-append, ⊎_elim}
use Rattle.std.specs.Prelude.{unwrap_or}
use Rattle.std.specs.List.{list_any, list_all, AllByRecursion}
use Rattle.std.specs.Str.{bytes_eq}
use Rattle.std.proofs.lemmas.Bool.{and_parts, and_from, or_cases, or_left, or_right, cases_Bool, cases_lt, eq-eqb, eqb-true, not-true, not_from_false, both_ways}
use Rattle.std.proofs.lemmas.List.Folds.{list_any-append}
use Rattle.std.proofs.lemmas.Option.{slice_get_within}
use Rattle.std.proofs.lemmas.Slice.Eq.{bytes_eq-Decides}
use Rattle.occ_lex.specs.occ_base.declared.names.Name.{Name}
use Rattle.occ_lex.specs.occ_base.Names.{place_of, with_text, IsNaming}
use Rattle.occ_lex.proofs.from_base.Naming.{naming, with_there, with_new}
use Rattle.occ_syntax.specs.declared.scope.Kind.{Kind}
use Rattle.occ_syntax.specs.Counts.{bits_of_kind, bits_of_scope}
use Rattle.occ_nform_table.specs.Lines.{text_of, AreNamed, can_follow, is_param_name}
use Rattle.occ_nform_table.specs.Tables.{is_marked, are_params}
use Rattle.occ_nform_table.specs.Texts.{params_text}
use Rattle.occ_nform_table.proofs.ReadParams.{param_line}
use Rattle.occ_nform_table.proofs.ReadEvents.{Apart}

-- ---- lists that grow

pub all_push : {A : Type 0} (P : A → Type 0) (xs : List A) (x : A) → AllByRecursion P xs → P x → AllByRecursion P (xs ++ x ∷ [])
all_push P [] x all is = (is, tt)
all_push P (y ∷ ys) x all is = (all.0, all_push P ys x all.1 is)

pub bits_push : (params : List (Name × Kind)) (p : Name × Kind) → bits_of_scope (params ++ p ∷ []) ≡ bits_of_scope params + bits_of_kind p.1
bits_push [] p = omega arith
bits_push (q ∷ params) p = omega (arith, bits_push params p)

-- ---- earlier names

-- the longer table has the texts of the shorter one
pub record Keeps (names more : List (List ℕ)) : Type 0 where
  pub longer : length names ≤ length more
  pub kept : (i : ℕ) → i < length names → slice_get more i ≡ slice_get names i

pub keeps_with : (names : List (List ℕ)) (text : List ℕ) → Keeps names (with_text names text)
keeps_with names text =
    let all : IsNaming names text = naming names text in
    record {
      longer = ⊎_elim
          (λ (h : place_of names text < length names). omega (arith, ap length (with_there names text h)))
          (λ (h : length names ≤ place_of names text). omega (arith, ap length (with_new names text h), length-append names (text ∷ [])))
          (cases_lt (place_of names text) (length names));
      kept = all.kept;
    }

pub place_within : (names : List (List ℕ)) (text : List ℕ) → place_of names text < length (with_text names text)
place_within names text = let all : IsNaming names text = naming names text in slice_get_within (with_text names text) (place_of names text) text all.there

pub text_there : (names : List (List ℕ)) (text : List ℕ) → text_of (with_text names text) (record { 0 = place_of names text }) ≡ text
text_there names text = let all : IsNaming names text = naming names text in ap (λ (o : Option (List ℕ)). unwrap_or o []) all.there

pub named_kept : (names more : List (List ℕ)) (params : List (Name × Kind)) → Keeps names more → AreNamed names params → AreNamed more params
named_kept names more [] keeps named = tt
named_kept names more (p ∷ params) keeps named = (omega (arith, keeps.longer, named.0), named_kept names more params keeps named.1)

text_kept : (names more : List (List ℕ)) (name : Name) → Keeps names more → name.0 < length names → text_of more name ≡ text_of names name
text_kept names more name keeps within = ap (λ (o : Option (List ℕ)). unwrap_or o []) (keeps.kept name.0 within)

any_kept : (names more : List (List ℕ)) (text : List ℕ) (params : List (Name × Kind)) → Keeps names more → AreNamed names params
    → list_any (λ (q : Name × Kind). bytes_eq text (text_of more q.0)) params ≡ list_any (λ (q : Name × Kind). bytes_eq text (text_of names q.0)) params
any_kept names more text [] keeps named = refl
any_kept names more text (q ∷ params) keeps named =
    (λ i. bytes_eq text (text_kept names more q.0 keeps named.0 i) || any_kept names more text params keeps named.1 i)

pub follow_kept : (names more : List (List ℕ)) (params : List (Name × Kind)) (p : List ℕ × Kind) → Keeps names more → AreNamed names params → can_follow more params p ≡ can_follow names params p
unfolding can_follow
follow_kept names more params p keeps named =
    ap (λ b. (ltb (length params) 16 && not b) && leb (bits_of_scope params + bits_of_kind p.1) 16) (any_kept names more p.0 params keeps named)

-- ---- parameters

-- a parameter has a name that a program can have, and can follow those before it
abbrev pub stands : List (List ℕ) → List (Name × Kind) → Name × Kind → Bool
stands names before p = is_param_name (text_of names p.0) && is_marked p.1 && can_follow names before (text_of names p.0, p.1)

stands_kept : (names more : List (List ℕ)) (before : List (Name × Kind)) (p : Name × Kind) → Keeps names more → AreNamed names before → p.0.0 < length names → stands more before p ≡ stands names before p
stands_kept names more before p keeps named within =
    ap (λ t. is_param_name t && is_marked p.1 && can_follow more before (t, p.1)) (text_kept names more p.0 keeps within)
    ∙ ap (λ b. is_param_name (text_of names p.0) && is_marked p.1 && b) (follow_kept names more before (text_of names p.0, p.1) keeps named)

pub are_kept : (names more : List (List ℕ)) (before params : List (Name × Kind)) → Keeps names more → AreNamed names before → AreNamed names params → are_params more before params ≡ are_params names before params
unfolding are_params
are_kept names more before [] keeps earlier named = refl
are_kept names more before (p ∷ params) keeps earlier named =
    (λ i. stands_kept names more before p keeps earlier named.0 i
    && are_kept names more (before ++ p ∷ []) params keeps (all_push (λ (q : Name × Kind). q.0.0 < length names) before p earlier named.0) named.1 i)

pub are_push : (names : List (List ℕ)) (before params : List (Name × Kind)) (p : Name × Kind) → are_params names before params ≡ true → stands names (before ++ params) p ≡ true
    → are_params names before (params ++ p ∷ []) ≡ true
unfolding are_params
are_push names before [] p are is = and_from (stands names before p) true (subst (λ b. stands names b p ≡ true) (append-nil before) is) refl
are_push names before (q ∷ params) p are is =
    let parts = and_parts (stands names before q) (are_params names (before ++ q ∷ []) params) are in
    and_from _ _ parts.0 (are_push names (before ++ q ∷ []) params p parts.1 (subst (λ b. stands names b p ≡ true) (sym (append_assoc before (q ∷ []) params)) is))

-- ---- the texts of parameters

pub params_text_kept : (names more : List (List ℕ)) (params : List (Name × Kind)) → Keeps names more → AreNamed names params → params_text more params ≡ params_text names params
unfolding params_text
params_text_kept names more [] keeps named = refl
params_text_kept names more (p ∷ params) keeps named =
    (λ i. param_line (text_kept names more p.0 keeps named.0 i) p.1 ++ params_text_kept names more params keeps named.1 i)

pub params_text_push : (names : List (List ℕ)) (params : List (Name × Kind)) (p : Name × Kind) → params_text names (params ++ p ∷ []) ≡ params_text names params ++ param_line (text_of names p.0) p.1
unfolding params_text
params_text_push names [] p = append-nil (param_line (text_of names p.0) p.1)
params_text_push names (q ∷ params) p =
    ap (λ t. param_line (text_of names q.0) q.1 ++ t) (params_text_push names params p)
    ∙ sym (append_assoc (param_line (text_of names q.0) q.1) (params_text names params) (param_line (text_of names p.0) p.1))

-- ---- numbers of their own

-- one of the parameters has the number
abbrev has_number : ℕ → List (Name × Kind) → Bool
has_number n params = list_any (λ (q : Name × Kind). eqb n q.0.0) params

-- one of the parameters with the number has the text
text_among : (names : List (List ℕ)) (name : Name) (params : List (Name × Kind)) → has_number name.0 params ≡ true → list_any (λ (q : Name × Kind). bytes_eq (text_of names name) (text_of names q.0)) params ≡ true
text_among names name (q ∷ params) h = ⊎_elim
    (λ (here : eqb name.0 q.0.0 ≡ true).
    let same : name.0 ≡ q.0.0 = eqb-true name.0 q.0.0 here in
    or_left _ _ ((bytes_eq-Decides (text_of names name) (text_of names q.0)).1 (ap (λ n. unwrap_or (slice_get names n) []) same)))
    (λ later. or_right _ _ (text_among names name params later))
    (or_cases (eqb name.0 q.0.0) (has_number name.0 params) h)
text_among names name [] h = absurd (both_ways false refl h)

-- a parameter that can follow others has no number of theirs
number_new : (names : List (List ℕ)) (before : List (Name × Kind)) (p : Name × Kind) (n : ℕ) → has_number n before ≡ true → stands names before p ≡ true → not (eqb p.0.0 n) ≡ true
unfolding can_follow
number_new names before p n there is = ⊎_elim
    (λ (same : eqb p.0.0 n ≡ true).
    let follows = (and_parts (is_param_name (text_of names p.0) && is_marked p.1) (can_follow names before (text_of names p.0, p.1)) is).1 in
    let first = (and_parts (ltb (length before) 16 && not (list_any (λ (q : Name × Kind). bytes_eq (text_of names p.0) (text_of names q.0)) before)) (leb (bits_of_scope before + bits_of_kind p.1) 16) follows).0 in
    let free = (and_parts (ltb (length before) 16) (not (list_any (λ (q : Name × Kind). bytes_eq (text_of names p.0) (text_of names q.0)) before)) first).1 in
    absurd (both_ways _ (not-true _ free) (text_among names p.0 before (subst (λ m. has_number m before ≡ true) (sym (eqb-true p.0.0 n same)) there))))
    (λ other. not_from_false (eqb p.0.0 n) other)
    (cases_Bool (eqb p.0.0 n))

all_new : (names : List (List ℕ)) (before params : List (Name × Kind)) (n : ℕ) → has_number n before ≡ true → are_params names before params ≡ true
    → list_all (λ (q : Name × Kind). not (eqb q.0.0 n)) params ≡ true
unfolding are_params
all_new names before [] n there are = refl
all_new names before (p ∷ params) n there are =
    let parts = and_parts (stands names before p) (are_params names (before ++ p ∷ []) params) are in
    and_from _ _ (number_new names before p n there parts.0)
    (all_new names (before ++ p ∷ []) params n (list_any-append (λ (q : Name × Kind). eqb n q.0.0) before (p ∷ []) ∙ or_left _ _ there) parts.1)

pub apart : (names : List (List ℕ)) (before params : List (Name × Kind)) → are_params names before params ≡ true → Apart params
unfolding are_params
apart names before [] are = tt
apart names before (p ∷ params) are =
    let parts = and_parts (stands names before p) (are_params names (before ++ p ∷ []) params) are in
    let there : has_number p.0.0 (before ++ p ∷ []) ≡ true =
    list_any-append (λ (q : Name × Kind). eqb p.0.0 q.0.0) before (p ∷ []) ∙ or_right _ _ (or_left _ _ (eq-eqb p.0.0 p.0.0 refl)) in
    (all_new names (before ++ p ∷ []) params p.0.0 there parts.1, apart names (before ++ p ∷ []) params parts.1)
