-- Tables under other names: they are normal, and have the same text.
use Rattle.std.proofs.Common.{◌≡◌, ⊎_elim, true, false, ℕ, suc, ◌+◌, ◌*◌, ◌/◌, ◌%◌, ◌<◌, ◌≤◌, ◌==◌, ◌^◌, Bool, not, ◌&&◌, ◌||◌, nat_lt, nat_le, if◌then◌else◌, max, List, [], ◌∷◌, ◌++◌, map, length, Option, Some, None, slice_get, get_or, unwrap_or, refl, sym, ap, ap₂, subst, ◌∙◌}
use Rattle.std.specs.Prelude.{codes, decimal}
use Rattle.std.specs.List.{AllByRecursion, flat_map, list_all, list_any}
use Rattle.std.specs.Str.{bytes_eq}
use Rattle.std.proofs.lemmas.Bool.{and_parts, cases_Bool, cond-false, eqb-true, false≢true}
use Rattle.std.proofs.lemmas.List.{length-map}
use mathlib.Core.Path.{fun_ext}
use Rattle.occ_nform.specs.occ_base.declared.event.Event.{Event}
use Rattle.occ_nform.specs.occ_base.declared.names.Name.{Name}
use Rattle.occ_nform.specs.occ_base.Width.{bits_of}
use Rattle.occ_nform.specs.occ_behaviour.Places.{place_in}
use Rattle.occ_nform.specs.occ_behaviour.States.{is_state}
use Rattle.occ_nform.specs.occ_behaviour.Texts.{event_text, mark_text, set_text, spaced, state_text}
use Rattle.occ_renamed.specs.occ_meaning.Rename.{renamed_event}
use Rattle.occ_nform.specs.occ_nform_table.declared.table.TableRow.{TableRow}
use Rattle.occ_nform.specs.occ_nform_table.declared.table.TableFault.TheVariants as fault
use Rattle.occ_nform.specs.occ_nform_table.Judging.{accept_mark, accept_marks, accepts_text, comes_after, contains, ends_text, follows, has_event, height_over, is_none, is_offered, is_reached, list_marks, offers_text, placed, reached, row_marks, row_text, rows_marks, set_less}
use Rattle.occ_nform.specs.occ_nform_table.Lines.{AreNamed, HaveWidths, can_follow, is_param_name, is_rising, rank, state_place, text_of}
use Rattle.occ_nform.specs.occ_nform_table.Normal.{first_empty, first_mark, first_unreached, or_fault, table_fault}
use Rattle.occ_nform.specs.occ_nform_table.Tables.{AreRowsOf, IsNormal, IsRowOf, are_params, is_marked}
use Rattle.occ_nform.specs.occ_nform_table.Texts.{param_text, params_text, rows_text, state_at_place, states_text, table_text}
use Rattle.occ_nform.proofs.from_nform_table.Names.{all_push}
use Rattle.occ_renamed.specs.Renamed.{kinds_renamed}
use Rattle.occ_renamed.specs.Standing.{IsOneForOne}
use Rattle.occ_nform.specs.occ_syntax.Counts.{bits_of_kind, bits_of_scope}
use Rattle.occ_nform.specs.occ_syntax.Scopes.{allows, channel_kind, environment, has_width, in_interface}
use Rattle.occ_nform.specs.occ_syntax.declared.scope.Kind.{Kind}
use Rattle.occ_nform.specs.occ_syntax.declared.scope.Kind.TheVariants.{Chan, Var}

-- ---- lists

pub any_map : {A : Type 0} (R : A → A) (p q : A → Bool) → ((x : A) → p (R x) ≡ q x) → (xs : List A) → list_any p (map R xs) ≡ list_any q xs
any_map R p q h [] = refl
any_map R p q h (x ∷ xs) = ap₂ (λ b c. b || c) (h x) (any_map R p q h xs)

pub every_map : {A : Type 0} (R : A → A) (p q : A → Bool) → ((x : A) → p (R x) ≡ q x) → (xs : List A) → list_all p (map R xs) ≡ list_all q xs
every_map R p q h [] = refl
every_map R p q h (x ∷ xs) = ap₂ (λ b c. b && c) (h x) (every_map R p q h xs)

each_map : {A : Type 0} (R : A → A) (P Q : A → Type 0) → ((x : A) → P x → Q (R x)) → (xs : List A) → AllByRecursion P xs → AllByRecursion Q (map R xs)
each_map R P Q h [] all = tt
each_map R P Q h (x ∷ xs) all = (h x all.0, each_map R P Q h xs all.1)

behind_map : {A : Type 0} (R : A → A) (Q : A → Type 0) (w v : A → List ℕ) → ((x : A) → Q x → w (R x) ≡ v x) → (xs : List A) → AllByRecursion Q xs
    → flat_map (λ y. 32 ∷ w y) (map R xs) ≡ flat_map (λ y. 32 ∷ v y) xs
behind_map R Q w v h [] all = refl
behind_map R Q w v h (x ∷ xs) all = ap₂ (λ s t. (32 ∷ s) ++ t) (h x all.0) (behind_map R Q w v h xs all.1)

spaced_map : {A : Type 0} (R : A → A) (Q : A → Type 0) (w v : A → List ℕ) → ((x : A) → Q x → w (R x) ≡ v x) → (xs : List A) → AllByRecursion Q xs
    → spaced w (map R xs) ≡ spaced v xs
spaced_map R Q w v h [] all = refl
spaced_map R Q w v h (x ∷ xs) all = ap₂ ◌++◌ (h x all.0) (behind_map R Q w v h xs all.1)

-- what holds of all things holds of those in a list
all_of : {A : Type 0} (Q : A → Type 0) → ((x : A) → Q x) → (xs : List A) → AllByRecursion Q xs
all_of Q h [] = tt
all_of Q h (x ∷ xs) = (h x, all_of Q h xs)

each_of : {A : Type 0} (P Q : A → Type 0) → ((x : A) → P x → Q x) → (xs : List A) → AllByRecursion P xs → AllByRecursion Q xs
each_of P Q h [] all = tt
each_of P Q h (x ∷ xs) all = (h x all.0, each_of P Q h xs all.1)

-- ---- under other names

abbrev pub state_renamed : (ℕ → ℕ) → List (Name × ℕ) → List (Name × ℕ)
state_renamed f state = map (λ (v : Name × ℕ). (record { 0 = f v.0.0 }, v.1)) state

abbrev pub events_renamed : (ℕ → ℕ) → List Event → List Event
events_renamed f events = map (renamed_event f) events

abbrev pub offer_renamed : (ℕ → ℕ) → Event × ℕ → Event × ℕ
offer_renamed f o = (renamed_event f o.0, o.1)

abbrev pub row_renamed : (ℕ → ℕ) → TableRow → TableRow
row_renamed f row = record { ends = map (state_renamed f) row.ends; accepts = map (events_renamed f) row.accepts; offers = map (offer_renamed f) row.offers }

abbrev pub rows_renamed : (ℕ → ℕ) → List TableRow → List TableRow
rows_renamed f rows = map (row_renamed f) rows

-- ---- sizes

bits_same : (f : ℕ → ℕ) (params : List (Name × Kind)) → bits_of_scope (kinds_renamed f params) ≡ bits_of_scope params
bits_same f [] = refl
bits_same f (p ∷ params) = ap (λ n. bits_of_kind p.1 + n) (bits_same f params)

length_same : (f : ℕ → ℕ) (params : List (Name × Kind)) → length (kinds_renamed f params) ≡ length params
length_same f [] = refl
length_same f (p ∷ params) = ap suc (length_same f params)

kinds_behind : (f : ℕ → ℕ) (before : List (Name × Kind)) (p : Name × Kind)
    → kinds_renamed f before ++ (record { 0 = f p.0.0 }, p.1) ∷ [] ≡ kinds_renamed f (before ++ p ∷ [])
kinds_behind f [] p = refl
kinds_behind f (q ∷ before) p = ap (λ qs. (record { 0 = f q.0.0 }, q.1) ∷ qs) (kinds_behind f before p)

module _ (f : ℕ → ℕ) (one : IsOneForOne f) where
  -- ---- places, states and events

  place_same : (params : List (Name × Kind)) (c : ℕ) → place_in (kinds_renamed f params) (record { 0 = f c }) ≡ place_in params (record { 0 = c })
  place_same [] c = refl
  place_same (entry ∷ params) c = ap₂ (λ b n. if b then 0 else 1 + n) (one entry.0.0 c) (place_same params c)

  rank_same : (params : List (Name × Kind)) (e : Event) → rank (kinds_renamed f params) (renamed_event f e) ≡ rank params e
  rank_same params e = ap (λ n. 256 * n + e.value) (place_same params e.chan.0)

  pub state_place_same : (params : List (Name × Kind)) (state : List (Name × ℕ)) → state_place (kinds_renamed f params) (state_renamed f state) ≡ state_place params state
  state_place_same [] state = refl
  state_place_same ((name, Chan width dir) ∷ params) state = state_place_same params state
  state_place_same ((name, Var width) ∷ params) [] = refl
  state_place_same ((name, Var width) ∷ params) (v ∷ state) = ap₂ (λ b n. v.1 * 2 ^ b + n) (bits_same f params) (state_place_same params state)

  pub is_state_same : (params : List (Name × Kind)) (state : List (Name × ℕ)) → is_state (kinds_renamed f params) (state_renamed f state) ≡ is_state params state
  is_state_same [] [] = refl
  is_state_same [] (v ∷ vs) = refl
  is_state_same ((name, Chan width dir) ∷ params) vs = is_state_same params vs
  is_state_same ((name, Var width) ∷ params) [] = refl
  is_state_same ((name, Var width) ∷ params) (v ∷ vs) = ap₂ (λ b c. (b && nat_lt v.1 (2 ^ bits_of width)) && c) (one v.0.0 name.0) (is_state_same params vs)

  pub environment_same : (params : List (Name × Kind)) (x : ℕ) → environment (kinds_renamed f params) (f x) ≡ environment params x
  environment_same [] x = refl
  environment_same (entry ∷ params) x = ap₂ (λ b o. if b then Some entry.1 else o) (one x entry.0.0) (environment_same params x)

  pub interface_same : (params : List (Name × Kind)) (e : Event) → in_interface (environment (kinds_renamed f params)) (renamed_event f e) ≡ in_interface (environment params) e
  interface_same params e = ap (λ o. has_width (channel_kind o) e.value && allows o e.dir) (environment_same params e.chan.0)

  rising_same : (params : List (Name × Kind)) (floor : ℕ) (events : List Event) → is_rising (kinds_renamed f params) floor (events_renamed f events) ≡ is_rising params floor events
  unfolding is_rising
  rising_same params floor [] = refl
  rising_same params floor (e ∷ events) =
      ap (λ r. nat_le floor r && is_rising (kinds_renamed f params) (r + 1) (events_renamed f events)) (rank_same params e)
      ∙ ap (λ b. nat_le floor (rank params e) && b) (rising_same params (rank params e + 1) events)

  at_place_same : (params : List (Name × Kind)) (k : ℕ) → state_at_place (kinds_renamed f params) k ≡ state_renamed f (state_at_place params k)
  at_place_same [] k = refl
  at_place_same ((name, Chan width dir) ∷ params) k = at_place_same params k
  at_place_same ((name, Var width) ∷ params) k =
      ap (λ b. (record { 0 = f name.0 }, k / 2 ^ b % 2 ^ bits_of width) ∷ state_at_place (kinds_renamed f params) (k % 2 ^ b)) (bits_same f params)
      ∙ ap (λ s. (record { 0 = f name.0 }, k / 2 ^ bits_of_scope params % 2 ^ bits_of width) ∷ s) (at_place_same params (k % 2 ^ bits_of_scope params))

  -- ---- the order of what stands in a row

  set_less_same : (params : List (Name × Kind)) (us vs : List Event) → set_less (kinds_renamed f params) (events_renamed f us) (events_renamed f vs) ≡ set_less params us vs
  unfolding set_less
  set_less_same params [] [] = refl
  set_less_same params [] (v ∷ vs) = refl
  set_less_same params (u ∷ us) [] = refl
  set_less_same params (u ∷ us) (v ∷ vs) =
      ap₂ (λ m n. nat_lt m n || (m == n && set_less (kinds_renamed f params) (events_renamed f us) (events_renamed f vs))) (rank_same params u) (rank_same params v)
      ∙ ap (λ b. nat_lt (rank params u) (rank params v) || (rank params u == rank params v && b)) (set_less_same params us vs)

  has_same : (params : List (Name × Kind)) (set : List Event) (e : Event) → has_event (kinds_renamed f params) (events_renamed f set) (renamed_event f e) ≡ has_event params set e
  has_same params set e = any_map (renamed_event f) _ _ (λ g. ap₂ (λ m n. m == n) (rank_same params e) (rank_same params g)) set

  offered_same : (params : List (Name × Kind)) (offers : List (Event × ℕ)) (set : List Event)
      → is_offered (kinds_renamed f params) (map (offer_renamed f) offers) (events_renamed f set) ≡ is_offered params offers set
  offered_same params offers set =
      every_map (renamed_event f) _ _ (λ e. any_map (offer_renamed f) _ _ (λ (o : Event × ℕ). ap₂ (λ m n. m == n) (rank_same params e) (rank_same params o.0)) offers) set

  contains_same : (params : List (Name × Kind)) (set other : List Event) → contains (kinds_renamed f params) (events_renamed f set) (events_renamed f other) ≡ contains params set other
  contains_same params set other =
      ap₂ (λ b c. b && c) (ap₂ (λ m n. nat_lt m n) (length-map other (renamed_event f)) (length-map set (renamed_event f)))
      (every_map (renamed_event f) _ _ (has_same params set) other)

  abbrev before_renamed : {A : Type 0} → (A → A) → Option A → Option A
  before_renamed R None = None
  before_renamed R (Some x) = Some (R x)

  follows_same : {A : Type 0} (R : A → A) (less less' : A → A → Bool) → ((x y : A) → less' (R x) (R y) ≡ less x y) → (before : Option A) (x : A)
      → follows less' (before_renamed R before) (R x) ≡ follows less before x
  follows_same R less less' h None x = refl
  follows_same R less less' h (Some y) x = h y x

  marks_same : {A : Type 0} (R : A → A) (less less' : A → A → Bool) → ((x y : A) → less' (R x) (R y) ≡ less x y) → (before : Option A) (xs : List A)
      → list_marks less' (before_renamed R before) (map R xs) ≡ list_marks less before xs
  unfolding list_marks
  marks_same R less less' h before [] = refl
  marks_same R less less' h before (x ∷ xs) = ap₂ (λ b ms. placed b ∷ ms) (follows_same R less less' h before x) (marks_same R less less' h (Some x) xs)

  accepts_same : (params : List (Name × Kind)) (offers : List (Event × ℕ)) (all : List (List Event)) (before : Option (List Event)) (sets : List (List Event))
      → accept_marks (kinds_renamed f params) (map (offer_renamed f) offers) (map (events_renamed f) all) (before_renamed (events_renamed f) before) (map (events_renamed f) sets)
      ≡ accept_marks params offers all before sets
  unfolding accept_marks
  accepts_same params offers all before [] = refl
  accepts_same params offers all before (set ∷ sets) =
      let first = follows_same (events_renamed f) (set_less params) (set_less (kinds_renamed f params)) (set_less_same params) before set in
      let second = ap₂ (λ b c. b && not c) (offered_same params offers set) (any_map (events_renamed f) _ _ (contains_same params set) all) in
      let later = accepts_same params offers all (Some set) sets in
      λ i. accept_mark (first i) (second i) ∷ later i

  row_marks_same : (params : List (Name × Kind)) (row : TableRow) → row_marks (kinds_renamed f params) (row_renamed f row) ≡ row_marks params row
  row_marks_same params row =
      let first = marks_same (state_renamed f) (λ s u. nat_lt (state_place params s) (state_place params u))
      (λ s u. nat_lt (state_place (kinds_renamed f params) s) (state_place (kinds_renamed f params) u))
      (λ s u. ap₂ (λ m n. nat_lt m n) (state_place_same params s) (state_place_same params u)) None row.ends in
      let second = accepts_same params row.offers row.accepts None row.accepts in
      let third = marks_same (offer_renamed f) (λ o p. nat_lt (rank params o.0) (rank params p.0))
      (λ o p. nat_lt (rank (kinds_renamed f params) o.0) (rank (kinds_renamed f params) p.0))
      (λ (o p : Event × ℕ). ap₂ (λ m n. nat_lt m n) (rank_same params o.0) (rank_same params p.0)) None row.offers in
      λ i. first i ++ second i ++ third i

  height_same : (heights : List ℕ) (offers : List (Event × ℕ)) → height_over heights (map (offer_renamed f) offers) ≡ height_over heights offers
  unfolding height_over
  height_same heights [] = refl
  height_same heights (o ∷ offers) = ap (max (1 + get_or heights o.1 0)) (height_same heights offers)

  -- ---- rows that are empty or not reached

  none_same : {A : Type 0} (R : A → A) (xs : List A) → is_none (map R xs) ≡ is_none xs
  none_same R [] = refl
  none_same R (x ∷ xs) = refl

  empty_same : (n : ℕ) (rows : List TableRow) → first_empty n (rows_renamed f rows) ≡ first_empty n rows
  unfolding first_empty
  empty_same n [] = refl
  empty_same n (row ∷ rows) =
      ap₂ (λ b o. if b then Some (fault.Empty n) else o)
      (ap₂ (λ b c. b && c) (none_same (state_renamed f) row.ends) (none_same (events_renamed f) row.accepts)) (empty_same (n + 1) rows)

  reached_same : (named : ℕ → Bool) (n : ℕ) (rows : List TableRow) (k : ℕ) → reached named n (rows_renamed f rows) k ≡ reached named n rows k
  unfolding reached
  reached_same named n [] k = refl
  reached_same named n (row ∷ rows) k =
      let later = reached_same named (n + 1) rows in
      let here = any_map (offer_renamed f) (λ o. o.1 == k) (λ o. o.1 == k) (λ o. refl) row.offers in
      λ i. later k i || (later n i && here i)

  unreached_same : (rows : List TableRow) (states : List ℕ) → first_unreached (is_reached (rows_renamed f rows) states) (length (rows_renamed f rows)) 0
      ≡ first_unreached (is_reached rows states) (length rows) 0
  unreached_same rows states =
      ap₂ (λ (r : ℕ → Bool) n. first_unreached r n 0) (fun_ext (λ k. reached_same (λ i. list_any (λ s. s == i) states) 0 rows k)) (length-map rows (row_renamed f))

  -- ---- texts, where names have their texts under their other numbers

  module _ (names other : List (List ℕ)) where
    -- the name has its text under its other number
    abbrev pub Stays : ℕ → Type 0
    Stays x = (unwrap_or (slice_get other (f x)) [] ≡ unwrap_or (slice_get names x) []) × (f x < length other)

    abbrev pub StaysAll : List (Name × Kind) → Type 0
    StaysAll params = AllByRecursion (λ (p : Name × Kind). Stays p.0.0) params

    abbrev EventsStay : List Event → Type 0
    EventsStay set = AllByRecursion (λ (e : Event). Stays e.chan.0) set

    abbrev RowStays : TableRow → Type 0
    RowStays row = AllByRecursion EventsStay row.accepts × AllByRecursion (λ (o : Event × ℕ). Stays o.0.chan.0) row.offers

    event_same : (e : Event) → Stays e.chan.0 → event_text other (renamed_event f e) ≡ event_text names e
    event_same e h = ap (λ t. t ++ mark_text e.dir ++ decimal e.value) h.0

    set_same : (set : List Event) → EventsStay set → set_text other (events_renamed f set) ≡ set_text names set
    set_same set h =
        ap (λ t. codes "{" ++ t ++ codes "}") (spaced_map (renamed_event f) (λ (e : Event). Stays e.chan.0) (event_text other) (event_text names) event_same set h)

    state_same : (state : List (Name × ℕ)) → state_text (state_renamed f state) ≡ state_text state
    state_same state =
        ap (λ t. codes "[" ++ t ++ codes "]")
        (spaced_map (λ (v : Name × ℕ). (record { 0 = f v.0.0 }, v.1)) (λ v. Unit {0}) (λ v. decimal v.1) (λ v. decimal v.1) (λ v h. refl) state (all_of (λ v. Unit {0}) (λ v. tt) state))

    ends_same : (states : List (List (Name × ℕ))) → ends_text (map (state_renamed f) states) ≡ ends_text states
    unfolding ends_text
    ends_same [] = refl
    ends_same (state ∷ states) = ap₂ (λ t u. codes "END " ++ t ++ codes "\n" ++ u) (state_same state) (ends_same states)

    sets_same : (sets : List (List Event)) → AllByRecursion EventsStay sets → accepts_text other (map (events_renamed f) sets) ≡ accepts_text names sets
    unfolding accepts_text
    sets_same [] h = refl
    sets_same (set ∷ sets) h = ap₂ (λ t u. codes "ACCEPT " ++ t ++ codes "\n" ++ u) (set_same set h.0) (sets_same sets h.1)

    offers_same : (offers : List (Event × ℕ)) → AllByRecursion (λ (o : Event × ℕ). Stays o.0.chan.0) offers
        → offers_text other (map (offer_renamed f) offers) ≡ offers_text names offers
    unfolding offers_text
    offers_same [] h = refl
    offers_same (o ∷ offers) h =
        ap₂ (λ t u. codes "OFFER " ++ t ++ codes " " ++ decimal o.1 ++ codes "\n" ++ u) (event_same o.0 h.0) (offers_same offers h.1)

    row_same : (row : TableRow) → RowStays row → row_text other (row_renamed f row) ≡ row_text names row
    row_same row h =
        let first = ends_same row.ends in
        let second = sets_same row.accepts h.0 in
        let third = offers_same row.offers h.1 in
        λ i. first i ++ second i ++ third i

    rows_same : (n : ℕ) (rows : List TableRow) → AllByRecursion RowStays rows → rows_text other n (rows_renamed f rows) ≡ rows_text names n rows
    unfolding rows_text
    rows_same n [] h = refl
    rows_same n (row ∷ rows) h = ap₂ (λ t u. codes "ROW " ++ decimal n ++ codes "\n" ++ t ++ u) (row_same row h.0) (rows_same (n + 1) rows h.1)

    params_same : (params : List (Name × Kind)) → StaysAll params → params_text other (kinds_renamed f params) ≡ params_text names params
    unfolding params_text
    params_same [] h = refl
    params_same (p ∷ params) h = ap₂ (λ t u. codes "PARAM " ++ param_text t p.1 ++ codes "\n" ++ u) h.0.0 (params_same params h.1)

    states_same : (params : List (Name × Kind)) (k : ℕ) (states : List ℕ) → states_text (kinds_renamed f params) k states ≡ states_text params k states
    unfolding states_text
    states_same params k [] = refl
    states_same params k (n ∷ states) =
        ap₂ (λ t u. codes "STATE " ++ t ++ codes " " ++ decimal n ++ codes "\n" ++ u)
        (ap state_text (at_place_same params k) ∙ state_same (state_at_place params k)) (states_same params (k + 1) states)

    -- ---- the events of an interface

    declared : (params : List (Name × Kind)) → StaysAll params → (x : ℕ) (k : Kind) → environment params x ≡ Some k → Stays x
    declared [] h x k e = let no : ⊥ = cc in absurd no
    declared (p ∷ params) h x k e =
        ⊎_elim (λ (t : (x == p.0.0) ≡ true). subst Stays (sym (eqb-true x p.0.0 t)) h.0)
        (λ (t : (x == p.0.0) ≡ false). declared params h.1 x k (sym (cond-false (x == p.0.0) (Some p.1) (environment params x) t) ∙ e)) (cases_Bool (x == p.0.0))

    module _ (params : List (Name × Kind)) (all : StaysAll params) where
      event_stays : (e : Event) → in_interface (environment params) e ≡ true → Stays e.chan.0
      event_stays e h = at (environment params e.chan.0) refl h
        where
          at : (o : Option Kind) → environment params e.chan.0 ≡ o → (has_width (channel_kind o) e.value && allows o e.dir) ≡ true → Stays e.chan.0
          at None k is = absurd (false≢true is)
          at (Some kind) k is = declared params all e.chan.0 kind k

      events_stay : (set : List Event) → list_all (in_interface (environment params)) set ≡ true → EventsStay set
      events_stay [] h = tt
      events_stay (e ∷ set) h = let parts = and_parts (in_interface (environment params) e) (list_all (in_interface (environment params)) set) h in (event_stays e parts.0, events_stay set parts.1)

      row_stays : (n : ℕ) (row : TableRow) → IsRowOf params n row → RowStays row
      row_stays n row h = (
        each_of _ EventsStay (λ set k. events_stay set k.0) row.accepts h.accepts,
        each_of _ (λ (o : Event × ℕ). Stays o.0.chan.0) (λ o k. event_stays o.0 k.0) row.offers h.offers,
      )

      pub rows_stay : (n : ℕ) (rows : List TableRow) → AreRowsOf params n rows → AllByRecursion RowStays rows
      rows_stay n [] h = tt
      rows_stay n (row ∷ rows) h = (row_stays n row h.0, rows_stay (n + 1) rows h.1)

    pub table_same : (params : List (Name × Kind)) (rows : List TableRow) (states : List ℕ) → StaysAll params → AreRowsOf params 0 rows
        → table_text other (kinds_renamed f params) (rows_renamed f rows) states ≡ table_text names params rows states
    unfolding table_text
    table_same params rows states all h =
        let first = params_same params all in
        let second = rows_same 0 rows (rows_stay params all 0 rows h) in
        let third = states_same params 0 states in
        λ i. codes "occam-normal 1\n" ++ first i ++ second i ++ third i

    -- ---- what is normal

    rows_marks_same : (params : List (Name × Kind)) (heights : List ℕ) (before : Option (ℕ × List ℕ)) (rows : List TableRow) → AllByRecursion RowStays rows
        → rows_marks other (kinds_renamed f params) heights before (rows_renamed f rows) ≡ rows_marks names params heights before rows
    unfolding rows_marks
    rows_marks_same params heights before [] all = refl
    rows_marks_same params heights before (row ∷ rows) all =
        let h = height_same heights row.offers in
        let t = row_same row all.0 in
        let marks = row_marks_same params row in
        ap₂ (λ m u. placed (comes_after before (m, u)) ∷ row_marks (kinds_renamed f params) (row_renamed f row)
        ++ rows_marks other (kinds_renamed f params) (heights ++ m ∷ []) (Some (m, u)) (rows_renamed f rows)) h t
        ∙ ap₂ (λ ms ns. placed (comes_after before (height_over heights row.offers, row_text names row)) ∷ ms ++ ns) marks
        (rows_marks_same params (heights ++ height_over heights row.offers ∷ []) (Some (height_over heights row.offers, row_text names row)) rows all.1)

    fault_same : (params : List (Name × Kind)) (rows : List TableRow) (states : List ℕ) → AllByRecursion RowStays rows
        → table_fault (record { names = other; params = kinds_renamed f params; rows = rows_renamed f rows; states = states })
        ≡ table_fault (record { names = names; params = params; rows = rows; states = states })
    unfolding table_fault
    fault_same params rows states all =
        let n = length_same f params in
        let marks = rows_marks_same params [] None rows all in
        let empty = empty_same 0 rows in
        let unreached = unreached_same rows states in
        λ i. or_fault (first_mark (2 + n i) (marks i)) (or_fault (empty i) (unreached i))

    other_names : (before : List (Name × Kind)) (text : List ℕ) → StaysAll before
        → list_any (λ q. bytes_eq text (text_of other q.0)) (kinds_renamed f before) ≡ list_any (λ q. bytes_eq text (text_of names q.0)) before
    other_names [] text h = refl
    other_names (q ∷ before) text h = ap₂ (λ t b. bytes_eq text t || b) h.0.0 (other_names before text h.1)

    follow_same : (before : List (Name × Kind)) (text : List ℕ) (k : Kind) → StaysAll before → can_follow other (kinds_renamed f before) (text, k) ≡ can_follow names before (text, k)
    unfolding can_follow
    follow_same before text k h =
        let n = length_same f before in
        let others = other_names before text h in
        let bits = bits_same f before in
        λ i. nat_lt (n i) 16 && not (others i) && nat_le (bits i + bits_of_kind k) 16

    are_params_same : (before params : List (Name × Kind)) → StaysAll before → StaysAll params
        → are_params other (kinds_renamed f before) (kinds_renamed f params) ≡ are_params names before params
    unfolding are_params
    are_params_same before [] earlier all = refl
    are_params_same before (p ∷ params) earlier all =
        ap₂ (λ t qs. (is_param_name t && is_marked p.1 && can_follow other (kinds_renamed f before) (t, p.1)) && are_params other qs (kinds_renamed f params)) all.0.0 (kinds_behind f before p)
        ∙ ap₂ (λ b c. (is_param_name (text_of names p.0) && is_marked p.1 && b) && c) (follow_same before (text_of names p.0) p.1 earlier)
        (are_params_same (before ++ p ∷ []) params (all_push (λ (q : Name × Kind). Stays q.0.0) before p earlier all.0) all.1)

    named_so : (params : List (Name × Kind)) → StaysAll params → AreNamed other (kinds_renamed f params)
    named_so [] h = tt
    named_so (p ∷ params) h = (h.0.1, named_so params h.1)

    wide_so : (params : List (Name × Kind)) → HaveWidths params → HaveWidths (kinds_renamed f params)
    wide_so [] h = tt
    wide_so (p ∷ params) h = (h.0, wide_so params h.1)

    row_so : (params : List (Name × Kind)) (n : ℕ) (row : TableRow) → IsRowOf params n row → IsRowOf (kinds_renamed f params) n (row_renamed f row)
    row_so params n row h = record {
      ends = each_map (state_renamed f) _ _ (λ s k. is_state_same params s ∙ k) row.ends h.ends;
      accepts = each_map (events_renamed f) _ _ (λ set k. (every_map (renamed_event f) _ _ (interface_same params) set ∙ k.0, rising_same params 0 set ∙ k.1)) row.accepts h.accepts;
      offers = each_map (offer_renamed f) _ _ (λ o k. (interface_same params o.0 ∙ k.0, k.1)) row.offers h.offers;
    }

    rows_so : (params : List (Name × Kind)) (n : ℕ) (rows : List TableRow) → AreRowsOf params n rows → AreRowsOf (kinds_renamed f params) n (rows_renamed f rows)
    rows_so params n [] h = tt
    rows_so params n (row ∷ rows) h = (row_so params n row h.0, rows_so params (n + 1) rows h.1)

    pub normal_so : (params : List (Name × Kind)) (rows : List TableRow) (states : List ℕ) → StaysAll params
        → IsNormal (record { names = names; params = params; rows = rows; states = states })
        → IsNormal (record { names = other; params = kinds_renamed f params; rows = rows_renamed f rows; states = states })
    normal_so params rows states all h = record {
      interface = record {
        named = named_so params all;
        wide = wide_so params h.interface.wide;
        few = subst (λ n. n ≤ 16) (sym (length_same f params)) h.interface.few;
        bits = subst (λ n. n ≤ 16) (sym (bits_same f params)) h.interface.bits;
      };
      params = are_params_same [] params tt all ∙ h.params;
      rows = rows_so params 0 rows h.rows;
      count = h.count ∙ ap (λ n. 2 ^ n) (sym (bits_same f params));
      states = subst (λ m. AllByRecursion (λ n. n < m) states) (sym (length-map rows (row_renamed f))) h.states;
      fine = fault_same params rows states (rows_stay params all 0 rows h.rows) ∙ h.fine;
    }
