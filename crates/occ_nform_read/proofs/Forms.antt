-- What the lines of a row are read as has its form.
use Rattle.std.proofs.Common.{◌≡◌, ℕ, zero, suc, ◌+◌, ◌^◌, ◌<◌, Bool, true, false, cond, eqb, ltb, ◌&&◌, List, [], ◌∷◌, Option, Some, None, refl, sym, ap, ◌∙◌, subst, ⊎_elim, codes}
use Rattle.std.specs.List.{list_all, AllByRecursion}
use Rattle.std.proofs.lemmas.Bool.{cases_Bool, cond-true, cond-false, eqb-true, eq-eqb, and_from, ltb-true}
use Rattle.occ_syntax.specs.occ_base.declared.event.Dir.{Dir}
use Rattle.occ_syntax.specs.occ_base.declared.event.Dir.TheVariants.{Input, Output}
use Rattle.occ_syntax.specs.occ_base.declared.event.Event.{Event}
use Rattle.occ_syntax.specs.occ_base.declared.names.Name.{Name}
use Rattle.occ_syntax.specs.occ_base.declared.width.Width.{Width}
use Rattle.occ_syntax.specs.occ_base.Width.{bits_of}
use Rattle.occ_nform_table.specs.occ_behaviour.Texts.{mark_text}
use Rattle.occ_nform_table.specs.occ_behaviour.States.{is_state}
use Rattle.occ_syntax.specs.declared.scope.Kind.{Kind}
use Rattle.occ_syntax.specs.declared.scope.Kind.TheVariants.{Var, Chan}
use Rattle.occ_syntax.specs.Scopes.{environment, in_interface, has_width, channel_kind, allows, same_dir}
use Rattle.occ_nform_table.specs.Words.{then_read, behind, between, cut, each, items_of, number_of, small_number_of}
use Rattle.occ_nform_table.specs.Lines.{text_of, fitting, paired, state_of, event_on, event_of, is_rising, set_of, end_of, accept_of, below, offer_of, state_place, row_of_state, is_row}
use Rattle.occ_nform_table.specs.Reading.{Lines, kept, taken, row_behind, with_row, rows_in, states_in}
use Rattle.occ_nform_table.specs.Tables.{IsRowOf, AreRowsOf}
use Rattle.occ_nform_read.specs.Found.{AreApart}
use Rattle.occ_nform_read.proofs.Numerals.{then_then}
use Rattle.occ_nform_read.proofs.Interfaces.{then_some, or_else_some, if_some, some_is}

-- ---- events

-- an event of the interface, by the kind of its channel
pub record OnChannel (params : List (Name × Kind)) (e : Event) : Type 0 where
  pub width : Width
  pub kind : environment params e.chan.0 ≡ Some (Chan width (Some e.dir))
  pub fits : ltb e.value (2 ^ bits_of width) ≡ true

same_as_itself : (dir : Dir) → same_dir dir dir ≡ true
same_as_itself Input = refl
same_as_itself Output = refl

on_interface : (params : List (Name × Kind)) (e : Event) → OnChannel params e → in_interface (environment params) e ≡ true
on_interface params e on =
    and_from (has_width (channel_kind (environment params e.chan.0)) e.value) (allows (environment params e.chan.0) e.dir)
    (ap (λ k. has_width (channel_kind k) e.value) on.kind ∙ on.fits)
    (ap (λ k. allows k e.dir) on.kind ∙ same_as_itself e.dir)

fitting_is : (width : Width) (number value : ℕ) → fitting width number ≡ Some value → ltb value (2 ^ bits_of width) ≡ true
fitting_is width number value h =
    let found = if_some (ltb number (2 ^ bits_of width)) number value h in
    ap (λ v. ltb v (2 ^ bits_of width)) (sym found.1) ∙ found.0

abbrev with_value : Name → Dir → ℕ → Option Event
with_value name dir value = Some (record { chan = name; dir = dir; value = value })

abbrev with_number : Name → Width → Dir → ℕ → Option Event
with_number name width dir number = then_read (fitting width number) (with_value name dir)

abbrev with_numeral : Name → Width → Dir → List ℕ → Option Event
with_numeral name width dir numeral = then_read (small_number_of numeral) (with_number name width dir)

abbrev with_mark : Name → Width → Dir → List ℕ → Option Event
with_mark name width dir marked = then_read (behind (mark_text dir) marked) (with_numeral name width dir)

-- an event on that channel
record IsOn (name : Name) (kind : Kind) (e : Event) : Type 0 where
  pub width : Width
  pub kind_is : kind ≡ Chan width (Some e.dir)
  pub chan : e.chan ≡ name
  pub fits : ltb e.value (2 ^ bits_of width) ≡ true

is_on : (name : Name) (width : Width) (dir : Dir) (value : ℕ) (e : Event) → with_value name dir value ≡ Some e → ltb value (2 ^ bits_of width) ≡ true → IsOn name (Chan width (Some dir)) e
is_on name width dir value e h fits =
    let is : record { chan = name; dir = dir; value = value } ≡ e = some_is (record { chan = name; dir = dir; value = value }) e h in
    subst (IsOn name (Chan width (Some dir))) is (record { width = width; kind_is = refl; chan = refl; fits = fits })

event_on_is : (text : List ℕ) (name : Name) (kind : Kind) (word : List ℕ) (e : Event) → event_on text name kind word ≡ Some e → IsOn name kind e
unfolding event_on
event_on_is text name (Var width) word e h = absurd cc
event_on_is text name (Chan width None) word e h = absurd cc
event_on_is text name (Chan width (Some dir)) word e h =
    let marked = then_some (behind text word) (with_mark name width dir) e h in
    let numeral = then_some (behind (mark_text dir) marked.0) (with_numeral name width dir) e marked.2 in
    let number = then_some (small_number_of numeral.0) (with_number name width dir) e numeral.2 in
    let value = then_some (fitting width number.0) (with_value name dir) e number.2 in
    is_on name width dir value.0 e value.2 (fitting_is width number.0 value.0 value.1)

away_from : (params : List (Name × Kind)) (x y : ℕ) (kind : Kind) → AllByRecursion (λ (q : Name × Kind). eqb q.0.0 y ≡ false) params → environment params x ≡ Some kind → eqb x y ≡ false
away_from [] x y kind away h = absurd cc
away_from (q ∷ params) x y kind away h = ⊎_elim
    (λ (t : eqb x q.0.0 ≡ true). ap (λ n. eqb n y) (eqb-true x q.0.0 t) ∙ away.0)
    (λ (f : eqb x q.0.0 ≡ false). away_from params x y kind away.1 (sym (cond-false (eqb x q.0.0) (Some q.1) (environment params x) f) ∙ h))
    (cases_Bool (eqb x q.0.0))

pub event_is : (names : List (List ℕ)) (params : List (Name × Kind)) (word : List ℕ) (e : Event) → AreApart params → event_of names params word ≡ Some e → OnChannel params e
unfolding event_of
event_is names [] word e apart h = absurd cc
event_is names ((name, kind) ∷ params) word e apart h = ⊎_elim
    (λ (a : event_on (text_of names name) name kind word ≡ Some e).
    let on = event_on_is (text_of names name) name kind word e a in
    let same : e.chan.0 ≡ name.0 = ap (λ (n : Name). n.0) on.chan in
    record { width = on.width; kind = cond-true (eqb e.chan.0 name.0) (Some kind) (environment params e.chan.0) (eq-eqb e.chan.0 name.0 same) ∙ ap Some on.kind_is; fits = on.fits })
    (λ (b : event_of names params word ≡ Some e).
    let on = event_is names params word e apart.1 b in
    record {
      width = on.width;
      kind = cond-false (eqb e.chan.0 name.0) (Some kind) (environment params e.chan.0) (away_from params e.chan.0 name.0 (Chan on.width (Some e.dir)) apart.0 on.kind) ∙ on.kind;
      fits = on.fits;
    })
    (or_else_some (event_on (text_of names name) name kind word) (event_of names params word) e h)

pub event_within : (names : List (List ℕ)) (params : List (Name × Kind)) (word : List ℕ) (e : Event) → AreApart params → event_of names params word ≡ Some e → in_interface (environment params) e ≡ true
event_within names params word e apart h = on_interface params e (event_is names params word e apart h)

-- ---- sets and states

each_is : {A : Type 0} (read : List ℕ → Option A) (test : A → Bool) → ((word : List ℕ) (x : A) → read word ≡ Some x → test x ≡ true)
    → (words : List (List ℕ)) (xs : List A) → each read words ≡ Some xs → list_all test xs ≡ true
unfolding each
each_is read test passes [] xs h = ap (list_all test) (sym (some_is [] xs h))
each_is {A = A} read test passes (word ∷ others) xs h =
    let first = then_some (read word) (λ x. then_read (each read others) (λ xs. Some (x ∷ xs))) xs h in
    let rest = then_some (each read others) (λ xs. Some (first.0 ∷ xs)) xs first.2 in
    ap (list_all test) (sym (some_is (first.0 ∷ rest.0) xs rest.2)) ∙ and_from (test first.0) (list_all test rest.0) (passes word first.0 first.1) (each_is read test passes others rest.0 rest.1)

set_is : (names : List (List ℕ)) (params : List (Name × Kind)) (text : List ℕ) (set : List Event) → AreApart params → set_of names params text ≡ Some set
    → (list_all (in_interface (environment params)) set ≡ true) × (is_rising params 0 set ≡ true)
unfolding set_of
set_is names params text set apart h =
    let found = then_some (each (event_of names params) (items_of text)) (λ events. cond (is_rising params 0 events) (Some events) None) set h in
    let rising = if_some (is_rising params 0 found.0) found.0 set found.2 in (
      ap (list_all (in_interface (environment params))) (sym rising.1) ∙ each_is (event_of names params) (in_interface (environment params)) (λ word e is. event_within names params word e apart is) (items_of text) found.0 found.1,
      ap (is_rising params 0) (sym rising.1) ∙ rising.0,
    )

paired_is : (params : List (Name × Kind)) (vs : List ℕ) (state : List (Name × ℕ)) → paired params vs ≡ Some state → is_state params state ≡ true
unfolding paired
paired_is [] [] state h = ap (is_state []) (sym (some_is [] state h))
paired_is [] (v ∷ vs) state h = absurd cc
paired_is ((name, Chan width dir) ∷ params) vs state h = paired_is params vs state h
paired_is ((name, Var width) ∷ params) [] state h = absurd cc
paired_is ((name, Var width) ∷ params) (v ∷ vs) state h =
    let value = then_some (fitting width v) (λ value. then_read (paired params vs) (λ state. Some ((name, value) ∷ state))) state h in
    let rest = then_some (paired params vs) (λ state. Some ((name, value.0) ∷ state)) state value.2 in
    ap (is_state ((name, Var width) ∷ params)) (sym (some_is ((name, value.0) ∷ rest.0) state rest.2))
    ∙ and_from (eqb name.0 name.0 && ltb value.0 (2 ^ bits_of width)) (is_state params rest.0)
    (and_from (eqb name.0 name.0) (ltb value.0 (2 ^ bits_of width)) (eq-eqb name.0 name.0 refl) (fitting_is width v value.0 value.1))
    (paired_is params vs rest.0 rest.1)

pub state_is : (params : List (Name × Kind)) (text : List ℕ) (state : List (Name × ℕ)) → state_of params text ≡ Some state → is_state params state ≡ true
unfolding state_of
state_is params text state h =
    let values = then_some (each small_number_of (items_of text)) (paired params) state h in
    paired_is params values.0 state values.2

-- ---- lines

end_is : (params : List (Name × Kind)) (line : List ℕ) (state : List (Name × ℕ)) → end_of params line ≡ Some state → is_state params state ≡ true
unfolding end_of
end_is params line state h =
    let text = then_some (between (codes "END [") (codes "]\n") line) (state_of params) state h in
    state_is params text.0 state text.2

accept_is : (names : List (List ℕ)) (params : List (Name × Kind)) (line : List ℕ) (set : List Event) → AreApart params → accept_of names params line ≡ Some set
    → (list_all (in_interface (environment params)) set ≡ true) × (is_rising params 0 set ≡ true)
unfolding accept_of
accept_is names params line set apart h =
    let text = then_some (between (codes "ACCEPT {") (codes "}\n") line) (set_of names params) set h in
    set_is names params text.0 set apart text.2

below_is : (n row found : ℕ) → below n row ≡ Some found → found < n
below_is n row found h =
    let is = if_some (ltb row n) row found h in
    subst (λ r. r < n) is.1 (ltb-true row n is.0)

abbrev pub with_lower : Event → ℕ → Option (Event × ℕ)
with_lower event row = Some (event, row)

abbrev with_row_number : ℕ → Event → ℕ → Option (Event × ℕ)
with_row_number n event row = then_read (below n row) (with_lower event)

abbrev with_event : ℕ → List ℕ → Event → Option (Event × ℕ)
with_event n numeral event = then_read (number_of numeral) (with_row_number n event)

offer_is : (names : List (List ℕ)) (params : List (Name × Kind)) (n : ℕ) (line : List ℕ) (offer : Event × ℕ) → AreApart params → offer_of names params n line ≡ Some offer
    → (in_interface (environment params) offer.0 ≡ true) × (offer.1 < n)
unfolding offer_of
offer_is names params n line offer apart h =
    let text = then_some (between (codes "OFFER ") (codes "\n") line) (λ text. then_read (cut 32 text) (λ parts. then_read (event_of names params parts.0) (with_event n parts.1))) offer h in
    let parts = then_some (cut 32 text.0) (λ parts. then_read (event_of names params parts.0) (with_event n parts.1)) offer text.2 in
    let event = then_some (event_of names params parts.0.0) (with_event n parts.0.1) offer parts.2 in
    let number = then_some (number_of parts.0.1) (with_row_number n event.0) offer event.2 in
    let row = then_some (below n number.0) (with_lower event.0) offer number.2 in
    let is : (event.0, row.0) ≡ offer = some_is (event.0, row.0) offer row.2 in
    subst (λ (o : Event × ℕ). (in_interface (environment params) o.0 ≡ true) × (o.1 < n)) is (event_within names params parts.0.0 event.0 apart event.1, below_is n number.0 row.0 row.1)

-- what an OFFER line is read as, by its parts
pub offer_line : (names : List (List ℕ)) (params : List (Name × Kind)) (n : ℕ) (line text word numeral : List ℕ) (event : Event) (row : Option ℕ) → between (codes "OFFER ") (codes "\n") line ≡ Some text → cut 32 text ≡ Some (word, numeral)
    → event_of names params word ≡ Some event → row ≡ then_read (number_of numeral) (below n) → then_read row (with_lower event) ≡ offer_of names params n line
unfolding offer_of
offer_line names params n line text word numeral event row in_line in_text in_word is =
    ap (λ r. then_read r (with_lower event)) is
    ∙ sym (ap (λ t. then_read t (λ text. then_read (cut 32 text) (λ parts. then_read (event_of names params parts.0) (with_event n parts.1)))) in_line
    ∙ ap (λ p. then_read p (λ parts. then_read (event_of names params parts.0) (with_event n parts.1))) in_text
    ∙ ap (λ e. then_read e (with_event n numeral)) in_word
    ∙ then_then (number_of numeral) (below n) (with_lower event))

taken_all : {A : Type 0} (read : List ℕ → Option A) (P : A → Type 0) → ((line : List ℕ) (x : A) → read line ≡ Some x → P x) → (lines : Lines) → AllByRecursion P (taken read lines).0
unfolding taken
taken_all read P holds [] = tt
taken_all {A = A} read P holds (line ∷ lines) = from (read line) refl (taken_all read P holds lines)
  where
    from : (r : Option A) → read line ≡ r → AllByRecursion P (taken read lines).0 → AllByRecursion P (kept r (taken read lines) ([], line ∷ lines)).0
    from None e more = tt
    from (Some x) e more = (holds line x e, more)

row_is : (names : List (List ℕ)) (params : List (Name × Kind)) (n : ℕ) (lines : Lines) → AreApart params → IsRowOf params n (row_behind names params n lines).0
unfolding row_behind
row_is names params n lines apart = record {
  ends = taken_all (end_of params) (λ state. is_state params state ≡ true) (λ line state h. end_is params line state h) lines;
  accepts = taken_all (accept_of names params) (λ set. (list_all (in_interface (environment params)) set ≡ true) × (is_rising params 0 set ≡ true)) (λ line set h. accept_is names params line set apart h) (taken (end_of params) lines).1;
  offers = taken_all (offer_of names params n) (λ (o : Event × ℕ). (in_interface (environment params) o.0 ≡ true) × (o.1 < n)) (λ line o h. offer_is names params n line o apart h) (taken (accept_of names params) (taken (end_of params) lines).1).1;
}

pub rows_are : (names : List (List ℕ)) (params : List (Name × Kind)) (most n : ℕ) (lines : Lines) → AreApart params → AreRowsOf params n (rows_in names params most n lines).0
unfolding rows_in
rows_are names params zero n lines apart = tt
rows_are names params (suc most) n [] apart = tt
rows_are names params (suc most) n (line ∷ lines) apart = from (is_row n line) (rows_are names params most (n + 1) (row_behind names params n lines).1 apart)
  where
    from : (b : Bool) → AreRowsOf params (n + 1) (rows_in names params most (n + 1) (row_behind names params n lines).1).0 → AreRowsOf params n (cond b (with_row (row_behind names params n lines) (rows_in names params most (n + 1))) ([], line ∷ lines)).0
    from true more = (row_is names params n lines apart, more)
    from false more = tt

-- ---- states

abbrev with_numeral_below : ℕ → List ℕ → Option ℕ
with_numeral_below n numeral = then_read (number_of numeral) (below n)

abbrev at_place_of : List (Name × Kind) → ℕ → ℕ → List ℕ → List (Name × ℕ) → Option ℕ
at_place_of params n k rest state = cond (eqb (state_place params state) k) (then_read (behind (codes " ") rest) (with_numeral_below n)) None

only_true : {A : Type 0} (b : Bool) (o : Option A) (x : A) → cond b o None ≡ Some x → o ≡ Some x
only_true true o x h = h
only_true false o x h = absurd cc

state_row_is : (params : List (Name × Kind)) (n k : ℕ) (line : List ℕ) (row : ℕ) → row_of_state params n k line ≡ Some row → row < n
unfolding row_of_state
state_row_is params n k line row h =
    let text = then_some (between (codes "STATE [") (codes "\n") line) (λ text. then_read (cut 93 text) (λ parts. then_read (state_of params parts.0) (at_place_of params n k parts.1))) row h in
    let parts = then_some (cut 93 text.0) (λ parts. then_read (state_of params parts.0) (at_place_of params n k parts.1)) row text.2 in
    let state = then_some (state_of params parts.0.0) (at_place_of params n k parts.0.1) row parts.2 in
    let named = only_true (eqb (state_place params state.0) k) (then_read (behind (codes " ") parts.0.1) (with_numeral_below n)) row state.2 in
    let numeral = then_some (behind (codes " ") parts.0.1) (with_numeral_below n) row named in
    let number = then_some (number_of numeral.0) (below n) row numeral.2 in
    below_is n number.0 row number.2

pub states_are : (params : List (Name × Kind)) (n k : ℕ) (lines : Lines) → AllByRecursion (λ i. i < n) (states_in params n k lines).0
unfolding states_in
states_are params n k [] = tt
states_are params n k (line ∷ lines) = from (row_of_state params n k line) refl (states_are params n (k + 1) lines)
  where
    from : (r : Option ℕ) → row_of_state params n k line ≡ r → AllByRecursion (λ i. i < n) (states_in params n (k + 1) lines).0 → AllByRecursion (λ i. i < n) (kept r (states_in params n (k + 1) lines) ([], line ∷ lines)).0
    from None e more = tt
    from (Some row) e more = (state_row_is params n k line row e, more)
