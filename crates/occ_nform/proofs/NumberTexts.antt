-- Two rows of one text are the same: where there are parameters since no text stands twice in a table of names, and else
-- since no name is written.
use Rattle.std.proofs.Common.{◌≡◌, ◌≤◌, ◌<◌, ◌^◌, ◌&&◌, ◌++◌, ℕ, true, List, [], ◌∷◌, Some, None, length, codes, refl, sym, ap, ◌∙◌, subst, arith}
use Rattle.std.proofs.lemmas.Bool.{and_parts, and_from}
use Rattle.std.specs.List.{list_all, AllByRecursion}
use Rattle.occ_syntax.specs.occ_base.Names.{IsDistinct}
use Rattle.occ_syntax.specs.occ_base.declared.event.Event.{Event}
use Rattle.occ_syntax.specs.occ_base.declared.names.Name.{Name}
use Rattle.occ_syntax.specs.declared.scope.Kind.{Kind}
use Rattle.occ_syntax.specs.Scopes.{environment, in_interface}
use Rattle.occ_nform_rows.specs.occ_behaviour.Texts.{set_text}
use Rattle.occ_nform_rows.specs.occ_nform_table.declared.table.TableRow.{TableRow}
use Rattle.occ_nform_rows.specs.occ_nform_table.Judging.{ends_text, accepts_text, offers_text, row_text}
use Rattle.occ_nform_rows.specs.occ_nform_table.Lines.{can_follow, is_param_name, is_rising, text_of}
use Rattle.occ_nform_rows.specs.occ_nform_table.Tables.{are_params, is_marked, IsInterface, IsRowOf}
use Rattle.occ_nform_rows.specs.Listed.{are_marked}
use Rattle.occ_nform_rows.proofs.from_nform_table.TextRows.{one_row}
use Rattle.occ_nform_rows.proofs.from_nform_table.Named.{event_named}

-- ---- parameters of a normal text are marked
pub marked_params : (names : List (List ℕ)) (before params : List (Name × Kind)) → are_params names before params ≡ true → are_marked params ≡ true
unfolding are_params
marked_params names before [] h = refl
marked_params names before (p ∷ params) h =
    let q = and_parts (is_param_name (text_of names p.0) && is_marked p.1 && can_follow names before (text_of names p.0, p.1)) (are_params names (before ++ p ∷ []) params) h in
    let r = and_parts (is_param_name (text_of names p.0) && is_marked p.1) (can_follow names before (text_of names p.0, p.1)) q.0 in
    let s = and_parts (is_param_name (text_of names p.0)) (is_marked p.1) r.0 in
    and_from (is_marked p.1) (are_marked params) s.1 (marked_params names (before ++ p ∷ []) params q.1)

-- ---- rows without parameters
no_event : (e : Event) → in_interface (environment []) e ≡ true → ⊥
no_event e h = let none : e.chan.0 < 0 = event_named 0 [] tt e h in omega arith

bare_set : (set : List Event) → list_all (in_interface (environment [])) set ≡ true → set ≡ []
bare_set [] h = refl
bare_set (e ∷ set) h = absurd (no_event e (and_parts (in_interface (environment []) e) (list_all (in_interface (environment [])) set) h).0)

bare_accepts : (names : List (List ℕ)) (sets : List (List Event)) → AllByRecursion (λ set. (list_all (in_interface (environment [])) set ≡ true) × (is_rising [] 0 set ≡ true)) sets → accepts_text names sets ≡ accepts_text [] sets
unfolding accepts_text
bare_accepts names [] h = refl
bare_accepts names (set ∷ sets) h =
    subst (λ (s : List Event). codes "ACCEPT " ++ set_text names s ++ codes "\n" ++ accepts_text names sets ≡ codes "ACCEPT " ++ set_text [] s ++ codes "\n" ++ accepts_text [] sets) (sym (bare_set set h.0.0))
    (ap (λ l. codes "ACCEPT " ++ set_text [] [] ++ codes "\n" ++ l) (bare_accepts names sets h.1))

bare_offers : (names : List (List ℕ)) (n : ℕ) (offers : List (Event × ℕ)) → AllByRecursion (λ (o : Event × ℕ). (in_interface (environment []) o.0 ≡ true) × (o.1 < n)) offers → offers_text names offers ≡ offers_text [] offers
unfolding offers_text
bare_offers names n [] h = refl
bare_offers names n (o ∷ offers) h = absurd (no_event o.0 h.0.0)

bare_text : (names : List (List ℕ)) (n : ℕ) (row : TableRow) → IsRowOf [] n row → row_text names row ≡ row_text [] row
bare_text names n row is =
    let accepts = bare_accepts names row.accepts is.accepts in
    let offers = bare_offers names n row.offers is.offers in
    λ i. ends_text row.ends ++ accepts i ++ offers i

no_interface : IsInterface [] []
no_interface = record { named = tt; wide = tt; few = omega arith; bits = omega arith }

no_params : are_params [] [] [] ≡ true
unfolding are_params
no_params = refl

bare_row : (names : List (List ℕ)) (n : ℕ) (one two : TableRow) → n ≤ 10 ^ 64 → IsRowOf [] n one → IsRowOf [] n two → row_text names one ≡ row_text names two → one ≡ two
bare_row names n one two few h g e =
    one_row [] [] n n one two (λ i j text a b. let f : None ≡ Some text = a in cc) no_interface no_params few few h g (sym (bare_text names n one h) ∙ e ∙ bare_text names n two g)

pub one_text : (names : List (List ℕ)) (params : List (Name × Kind)) → (0 < length params → IsDistinct names) → IsInterface names params → are_params names [] params ≡ true → (n : ℕ) (one two : TableRow) → n ≤ 10 ^ 64
    → IsRowOf params n one → IsRowOf params n two → row_text names one ≡ row_text names two → one ≡ two
one_text names [] distinct interface good n one two few h g e = bare_row names n one two few h g e
one_text names (p ∷ params) distinct interface good n one two few h g e = one_row names (p ∷ params) n n one two (distinct (omega arith)) interface good few few h g e
