-- A part without a fault keeps names, types and directions in its scope.
use Rattle.std.proofs.Common.{◌≡◌, ℕ, Bool, true, false, true≢false, cond, ◌==◌, ◌&&◌, ◌||◌, List, [], ◌∷◌, ◌++◌, Option, Some, None, is_none, is_some, refl, sym, ap, ◌∙◌}
use Rattle.std.specs.List.{AllByRecursion, list_all, list_any, flat_map}
use Rattle.std.proofs.lemmas.Bool.{and_parts, and_from, eqb-true}
use Rattle.occ_syntax.specs.occ_base.declared.names.Name.{Name}
use Rattle.occ_syntax.specs.declared.scope.Kind.{Kind}
use Rattle.occ_syntax.specs.Scopes.{environment}
use Rattle.occ_syntax.specs.Tree.{Tree}
use Rattle.occ_syntax.specs.Types.{can_declare, is_width, scope_kept, types_kept, width_of_kind}
use Rattle.occ_parse_forms.specs.declared.form.Declared.{Declared}
use Rattle.occ_parse_forms.specs.declared.form.Declared.TheVariants as declared
use Rattle.occ_parse_forms.specs.declared.form.Param.{Param}
use Rattle.occ_parse_rules.specs.declared.sort.Sort.{Sort}
use Rattle.occ_parse_rules.specs.Judging.{first_fault}
use Rattle.occ_parse_rules.specs.Names.{is_there, name_fault, redeclares_some}
use Rattle.occ_parse_rules.specs.Places.{Place, Sorts, places, param_entries, sort_of, sort_at}
use Rattle.occ_parse_rules.specs.Types.{type_fault}
use Rattle.occ_parse_rules.specs.Unrolled.{named, params_named}
use Rattle.occ_parse_rules.specs.Agreement.{AreIn, Has, IsOneToOne}
use Rattle.occ_parse_rules.specs.Programs.{KeepsTypes}
use Rattle.occ_parse_rules.specs.Sound.{has_width}
use Rattle.occ_parse_rules.proofs.Facts.{or_else_none}
use Rattle.occ_parse_rules.proofs.Params.{program_kept}
use Rattle.occ_parse.proofs.Faultless.{as_fault_none}
use Rattle.occ_parse.specs.declared.fault.ParseFault.TheVariants as fault
use Rattle.occ_parse.specs.Drafts.{as_fault, name_fault_on, type_fault_on}
use Rattle.occ_parse_part.specs.Elements.{Elements, numbers}
use Rattle.occ_parse_part.proofs.Equal.{eqb-refl}
use Rattle.occ_parse_part.specs.Parts.{Part, IsGood, IsNumbered, is_element, is_itself, knows}
use Rattle.occ_parse_part.specs.Resolving.{part_fault, part_process, scope_of, scope_params}

-- ---- what a name is

place_named : (e : Elements) (kind : Kind) (n : ℕ) (d : Declared) → IsNumbered e d n → named (numbers e) kind d ≡ (record { 0 = n }, kind) ∷ []
place_named e kind n (declared.Plain y) h = ap (λ m. (record { 0 = m }, kind) ∷ []) h
place_named e kind n (declared.Element y j) h = ap (λ m. (record { 0 = m }, kind) ∷ []) h
place_named e kind n (declared.Array y c) h = absurd h

itself_here : (y : Name) → is_itself (declared.Plain y) y.0 ≡ true
itself_here y = eqb-refl y.0

element_here : (y : Name) (j : ℕ) → is_element (declared.Element y j) y.0 j ≡ true
element_here y j = and_from (y.0 == y.0) (j == j) (eqb-refl y.0) (eqb-refl j)

place_known : (e : Elements) (n : ℕ) (d : Declared) → IsNumbered e d n → e.named n ≡ d → AreIn (knows e) (places d)
place_known e n (declared.Plain y) h s = (ap (λ m. is_itself (e.named m) y.0) h ∙ ap (λ c. is_itself c y.0) s ∙ itself_here y, tt)
place_known e n (declared.Element y j) h s = (ap (λ m. is_element (e.named m) y.0 j) h ∙ ap (λ c. is_element c y.0 j) s ∙ element_here y j, tt)
place_known e n (declared.Array y c) h s = absurd h

both_none : (d : Declared) (x y j : ℕ) → is_itself d x ≡ true → is_element d y j ≡ true → ⊥
both_none (declared.Plain z) x y j h k = absurd cc
both_none (declared.Element z i) x y j h k = absurd cc
both_none (declared.Array z c) x y j h k = absurd cc

one_element : (d : Declared) (x k y j : ℕ) → is_element d x k ≡ true → is_element d y j ≡ true → (x ≡ y) × (k ≡ j)
one_element (declared.Plain z) x k y j h g = absurd cc
one_element (declared.Element z i) x k y j h g =
    let a = and_parts (z.0 == x) (i == k) h in
    let b = and_parts (z.0 == y) (i == j) g in
    (sym (eqb-true _ _ a.0) ∙ eqb-true _ _ b.0, sym (eqb-true _ _ a.1) ∙ eqb-true _ _ b.1)
one_element (declared.Array z c) x k y j h g = absurd cc

apart : (e : Elements) (x : ℕ) (k : Option ℕ) (y : ℕ) (j : Option ℕ) → Has (knows e) x k → Has (knows e) y j → numbers e x k ≡ numbers e y j → (x ≡ y) × (k ≡ j)
apart e x None y None h g s = (s, refl)
apart e x None y (Some j) h g s = absurd (both_none (e.named (e.number y j)) x y j (sym (ap (λ m. is_itself (e.named m) x) s) ∙ h) g)
apart e x (Some k) y None h g s = absurd (both_none (e.named (e.number x k)) y x k (ap (λ m. is_itself (e.named m) y) s ∙ g) h)
apart e x (Some k) y (Some j) h g s =
    let parts = one_element (e.named (e.number x k)) x k y j h (ap (λ m. is_element (e.named m) y j) s ∙ g) in
    (parts.0, ap (λ n. Some n) parts.1)

one_to_one : (e : Elements) → IsOneToOne (knows e) (numbers e)
one_to_one e = record {
  name = λ x k y j h g s. (apart e x k y j h g s).0;
  element = λ x k y j h g s. (apart e x k y j h g s).1;
}

-- ---- the scope

module _ (e : Elements) (numbered : (n : ℕ) → IsNumbered e (e.named n) n) where
  scope_named : (scope : List (Name × Kind)) → params_named (numbers e) (scope_params e scope) ≡ scope
  scope_named [] = refl
  scope_named (entry ∷ scope) =
      ap (λ ns. ns ++ params_named (numbers e) (scope_params e scope)) (place_named e entry.1 entry.0.0 (e.named entry.0.0) (numbered entry.0.0))
      ∙ ap (λ ns. entry ∷ ns) (scope_named scope)

  all_in : (ps qs : List Place) → AreIn (knows e) ps → AreIn (knows e) qs → AreIn (knows e) (ps ++ qs)
  all_in [] qs h g = g
  all_in (p ∷ ps) qs h g = (h.0, all_in ps qs h.1 g)

  scope_known : (scope : List (Name × Kind)) → AreIn (knows e) (flat_map (λ (p : Param). places p.declared) (scope_params e scope))
  scope_known [] = tt
  scope_known (entry ∷ scope) =
      all_in (places (e.named entry.0.0)) (flat_map (λ (p : Param). places p.declared) (scope_params e scope))
      (place_known e entry.0.0 (e.named entry.0.0) (numbered entry.0.0) refl) (scope_known scope)

  scope_widths : (scope : List (Name × Kind)) → scope_kept scope ≡ true → list_all (λ (p : Param). has_width p.kind) (scope_params e scope) ≡ true
  scope_widths [] h = refl
  scope_widths (entry ∷ scope) h =
      let parts = and_parts (can_declare (environment scope) entry.0.0 (width_of_kind entry.1)) (scope_kept scope) h in
      and_from (has_width entry.1) (list_all (λ (p : Param). has_width p.kind) (scope_params e scope))
      (and_parts (is_none (environment scope entry.0.0)) (is_width (width_of_kind entry.1)) parts.0).1 (scope_widths scope parts.1)

  -- no place of a name is declared already
  abbrev IsAbsent : Sorts → Declared → Type 0
  IsAbsent Γ d = list_any (is_there Γ) (places d) ≡ false

  skipped : (b : Bool) (s : Sort) (o : Option Sort) → b ≡ false → (is_some o || false) ≡ false → (is_some (cond b (Some s) o) || false) ≡ false
  skipped true s o h g = absurd (true≢false h)
  skipped false s o h g = g

  not_same : (a b : ℕ) (c : Bool) → (a == b) ≡ c → (a ≡ b → ⊥) → c ≡ false
  not_same a b true h f = absurd (f (eqb-true a b h))
  not_same a b false h f = refl

  not_both : (a b i j : ℕ) (c : Bool) → ((a == b) && (i == j)) ≡ c → (a ≡ b → i ≡ j → ⊥) → c ≡ false
  not_both a b i j true h f = let parts = and_parts (a == b) (i == j) h in absurd (f (eqb-true a b parts.0) (eqb-true i j parts.1))
  not_both a b i j false h f = refl

  absent_behind : (Γ : Sorts) (d c : Declared) (s : Sort) (n m : ℕ) → IsNumbered e d n → IsNumbered e c m → (n ≡ m → ⊥) → IsAbsent Γ c → IsAbsent (record { declared = d; sort = s } ∷ Γ) c
  absent_behind Γ (declared.Plain x) (declared.Plain y) s n m h g f a =
      skipped (y.0 == x.0) s (sort_at Γ y.0 None) (not_same y.0 x.0 (y.0 == x.0) refl (λ t. f (sym h ∙ sym t ∙ g))) a
  absent_behind Γ (declared.Plain x) (declared.Element y j) s n m h g f a = a
  absent_behind Γ (declared.Plain x) (declared.Array y c) s n m h g f a = absurd g
  absent_behind Γ (declared.Element x k) (declared.Plain y) s n m h g f a = a
  absent_behind Γ (declared.Element x k) (declared.Element y j) s n m h g f a =
      skipped (y.0 == x.0 && j == k) s (sort_at Γ y.0 (Some j))
      (not_both y.0 x.0 j k (y.0 == x.0 && j == k) refl (λ t u. f (sym h ∙ sym (ap (λ z. e.number z k) t) ∙ sym (ap (e.number y.0) u) ∙ g))) a
  absent_behind Γ (declared.Element x k) (declared.Array y c) s n m h g f a = absurd g
  absent_behind Γ (declared.Array x c) d s n m h g f a = absurd h

  others_at : (n m : ℕ) (k : Kind) (b : Bool) (o : Option Kind) → (n == m) ≡ b → is_none (cond b (Some k) o) ≡ true → (b ≡ false) × (is_none o ≡ true)
  others_at n m k true o h g = absurd (true≢false (sym g))
  others_at n m k false o h g = (refl, g)

  other_names : (n : ℕ) (scope : List (Name × Kind)) → is_none (environment scope n) ≡ true → AllByRecursion (λ (entry : Name × Kind). n ≡ entry.0.0 → ⊥) scope
  other_names n [] h = tt
  other_names n (entry ∷ scope) h =
      let parts = others_at n entry.0.0 entry.1 (n == entry.0.0) (environment scope n) refl h in
      (λ t. true≢false (sym (sym (ap (λ m. n == m) t) ∙ eqb-refl n) ∙ parts.0), other_names n scope parts.1)

  all_absent : (Γ : Sorts) (n : ℕ) (s : Sort) (scope : List (Name × Kind)) → AllByRecursion (λ (entry : Name × Kind). n ≡ entry.0.0 → ⊥) scope
      → AllByRecursion (λ (entry : Name × Kind). IsAbsent Γ (e.named entry.0.0)) scope
      → AllByRecursion (λ (entry : Name × Kind). IsAbsent (record { declared = e.named n; sort = s } ∷ Γ) (e.named entry.0.0)) scope
  all_absent Γ n s [] h a = tt
  all_absent Γ n s (entry ∷ scope) h a =
      (absent_behind Γ (e.named n) (e.named entry.0.0) s n entry.0.0 (numbered n) (numbered entry.0.0) h.0 a.0, all_absent Γ n s scope h.1 a.1)

  or_both : (a b : Bool) → a ≡ false → b ≡ false → (a || b) ≡ false
  or_both true b h g = absurd (true≢false h)
  or_both false b h g = g

  once_behind : (Γ : Sorts) (scope : List (Name × Kind)) → scope_kept scope ≡ true → AllByRecursion (λ (entry : Name × Kind). IsAbsent Γ (e.named entry.0.0)) scope
      → redeclares_some Γ (param_entries (scope_params e scope)) ≡ false
  once_behind Γ [] h a = refl
  once_behind Γ (entry ∷ scope) h a =
      let parts = and_parts (can_declare (environment scope) entry.0.0 (width_of_kind entry.1)) (scope_kept scope) h in
      let new = (and_parts (is_none (environment scope entry.0.0)) (is_width (width_of_kind entry.1)) parts.0).0 in
      or_both (list_any (is_there Γ) (places (e.named entry.0.0))) _ a.0
      (once_behind (record { declared = e.named entry.0.0; sort = sort_of entry.1 } ∷ Γ) scope parts.1
      (all_absent Γ entry.0.0 (sort_of entry.1) scope (other_names entry.0.0 scope new) a.1))

  nothing_there : (ps : List Place) → list_any (is_there []) ps ≡ false
  nothing_there [] = refl
  nothing_there (p ∷ ps) = nothing_there ps

  none_there : (scope : List (Name × Kind)) → AllByRecursion (λ (entry : Name × Kind). IsAbsent [] (e.named entry.0.0)) scope
  none_there [] = tt
  none_there (entry ∷ scope) = (nothing_there (places (e.named entry.0.0)), none_there scope)

  once : (scope : List (Name × Kind)) → scope_kept scope ≡ true → redeclares_some [] (param_entries (scope_params e scope)) ≡ false
  once scope h = once_behind [] scope h (none_there scope)

-- ---- the part

pub typed : (part : Part) (scope : List (Name × Kind)) (p : Tree) → IsGood part.lines part.elements → part_fault part scope ≡ None → p ≡ part_process part scope
    → scope_kept scope ≡ true → types_kept p (environment scope) ≡ true
typed part scope p good none is kept =
    let e = part.elements in
    let f = part.lines in
    let Γ = scope_of part scope in
    let params = scope_params e scope in
    let first = or_else_none (as_fault name_fault_on (first_fault name_fault Γ Γ f)) _ none in
    let second = or_else_none (as_fault type_fault_on (first_fault type_fault Γ Γ f)) _ first.1 in
    let keeps : KeepsTypes (numbers e) params f = program_kept (knows e) (numbers e) (one_to_one e) params f (record {
      once = once e good.numbered scope kept;
      widths = scope_widths e good.numbered scope kept;
      known = scope_known e good.numbered scope;
      sound = good.sound;
      placed = good.placed;
      declared = good.known;
      lines = record {
        names = as_fault_none name_fault_on _ first.0;
        types = as_fault_none type_fault_on _ second.0;
        directions = as_fault_none (λ line found. fault.Direction line) _ second.1;
      };
    }) in
    ap (λ q. types_kept q (environment scope)) is ∙ sym (ap (λ ns. types_kept (part_process part scope) (environment ns)) (scope_named e good.numbered scope)) ∙ keeps.types
