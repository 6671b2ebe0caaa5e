-- The rows of a table one by one, as a loop goes through them.
use Rattle.std.proofs.Common.{◌≡◌, ℕ, suc, ◌+◌, ◌<◌, ◌≤◌, Bool, true, false, nat_lt, List, [], ◌∷◌, ◌++◌, length, get_or, drop, Option, Some, None, refl, sym, ap, subst, ◌∙◌, arith, max, length-append}
use Rattle.std.specs.List.{All}
use Rattle.std.specs.Option.{is_some}
use Rattle.std.proofs.lemmas.Bool.{cond-true, cond-false}
use Rattle.std.proofs.lemmas.List.{drop_more, drop_all}
use Rattle.std.proofs.lemmas.List.Elements.{All-nil, All-push, All-same, All-weaker}
use Rattle.occ_syntax.specs.occ_base.declared.event.Event.{Event}
use Rattle.occ_syntax.specs.occ_base.declared.names.Name.{Name}
use Rattle.occ_syntax.specs.declared.scope.Kind.{Kind}
use Rattle.occ_nform_table.specs.declared.table.TableRow.{TableRow}
use Rattle.occ_nform_table.specs.declared.table.TableFault.{TableFault}
use Rattle.occ_nform_table.specs.declared.table.TableFault.TheVariants as fault
use Rattle.occ_nform_table.specs.Lines.{rank, state_place, is_rising}
use Rattle.occ_nform_table.specs.Judging.{Mark, placed, comes_after, row_text, height_over, list_marks, accept_marks, row_marks, rows_marks, is_empty_row, is_reached}
use Rattle.occ_nform_table.specs.Normal.{Parts, first_mark, first_empty, first_unreached, or_fault, table_fault}
use Rattle.occ_nform_table.specs.Tables.{IsInterface, AreRowsOf}
use Rattle.occ_nform_table.specs.Rows.{RowIsNamed}
use Rattle.occ_nform_table.proofs.Named.{row_named}
use Rattle.occ_nform_read.specs.Marks.{Offer}
use Rattle.occ_nform_read.specs.Walk.{Walked}
use Rattle.occ_nform_read.proofs.Faults.{stops, goes, fault_in_front, fine_in_front, length_marks}
use Rattle.occ_nform_read.proofs.Ranks.{length_accepts}
use Rattle.occ_nform_read.proofs.Names.{row_rising, row_below}

pub drop_item : {A : Type 0} (xs : List A) (i : ℕ) (x : A) → i < length xs → x ≡ get_or xs i x → drop i xs ≡ x ∷ drop (i + 1) xs
drop_item xs i x lt e = drop_more xs i x lt ∙ ap (λ y. y ∷ drop (i + 1) xs) (sym e)

-- ---- heights

height_next : (heights : List ℕ) (offers : List (Event × ℕ)) (i : ℕ) (d : Event × ℕ) → i < length offers → height_over heights (drop i offers) ≡ max (1 + get_or heights (get_or offers i d).1 0) (height_over heights (drop (i + 1) offers))
unfolding height_over
height_next heights offers i d lt = ap (height_over heights) (drop_more offers i d lt)

pub height_more : (heights : List ℕ) (offers : List (Event × ℕ)) (i height new whole : ℕ) (d : Event × ℕ) → i < length offers → new ≡ max height (1 + get_or heights (get_or offers i d).1 0)
    → max height (height_over heights (drop i offers)) ≡ whole → max new (height_over heights (drop (i + 1) offers)) ≡ whole
height_more heights offers i height new whole d lt grown so_far =
    let next = height_next heights offers i d lt in
    omega (arith, next, grown, so_far)

pub height_low : (heights : List ℕ) (offers : List (Event × ℕ)) (i height new : ℕ) (d : Event × ℕ) → i < length offers → All (λ h. h ≤ length heights) heights → All (Offer (length heights)) offers
    → new ≡ max height (1 + get_or heights (get_or offers i d).1 0) → height ≤ length heights + 1 → new ≤ length heights + 1
height_low heights offers i height new d lt low within grown h =
    let small : get_or heights (get_or offers i d).1 0 ≤ length heights = low (get_or offers i d).1 0 (within i d lt) in
    omega (arith, small, grown, h)

pub height_end : (heights : List ℕ) (offers : List (Event × ℕ)) (i height whole : ℕ) → length offers ≤ i → max height (height_over heights (drop i offers)) ≡ whole → height ≡ whole
unfolding height_over
height_end heights offers i height whole le h =
    let none : height_over heights (drop i offers) ≡ 0 = ap (height_over heights) (drop_all i offers le) in
    omega (arith, none, h)

-- ---- lines

abbrev pub lines : TableRow → ℕ
lines row = 1 + (length row.ends + length row.accepts + length row.offers)

length_row : (params : List (Name × Kind)) (row : TableRow) → length (row_marks params row) ≡ length row.ends + length row.accepts + length row.offers
length_row params row =
    let ends : List Mark = list_marks (λ s u. nat_lt (state_place params s) (state_place params u)) None row.ends in
    let accepts : List Mark = accept_marks params row.offers row.accepts None row.accepts in
    let offers : List Mark = list_marks (λ (o : Event × ℕ) (p : Event × ℕ). nat_lt (rank params o.0) (rank params p.0)) None row.offers in
    length-append (ends ++ accepts) offers ∙ ap (λ n. n + length offers) (length-append ends accepts)
    ∙ ap (λ n. n + length accepts + length offers) (length_marks (λ s u. nat_lt (state_place params s) (state_place params u)) None row.ends)
    ∙ ap (λ n. length row.ends + n + length offers) (length_accepts params row.offers row.accepts None row.accepts)
    ∙ ap (λ n. length row.ends + length row.accepts + n) (length_marks (λ (o : Event × ℕ) (p : Event × ℕ). nat_lt (rank params o.0) (rank params p.0)) None row.offers)

-- the marks of a row
abbrev marks_of : List (Name × Kind) → Option (ℕ × List ℕ) → ℕ × List ℕ → TableRow → List Mark
marks_of params before here row = placed (comes_after before here) ∷ row_marks params row

-- the marks of the rows behind it
abbrev behind : List (List ℕ) → List (Name × Kind) → List ℕ → TableRow → List TableRow → List Mark
behind names params heights row rows = rows_marks names params (heights ++ height_over heights row.offers ∷ []) (Some (height_over heights row.offers, row_text names row)) rows

front_marks : (names : List (List ℕ)) (params : List (Name × Kind)) (heights : List ℕ) (before : Option (ℕ × List ℕ)) (row : TableRow) (rows : List TableRow)
    → rows_marks names params heights before (row ∷ rows) ≡ marks_of params before (height_over heights row.offers, row_text names row) row ++ behind names params heights row rows
unfolding rows_marks
front_marks names params heights before row rows = refl

rows_long : (names : List (List ℕ)) (params : List (Name × Kind)) (heights : List ℕ) (before : Option (ℕ × List ℕ)) (rows : List TableRow) → length rows ≤ length (rows_marks names params heights before rows)
rows_long names params heights before [] = omega arith
rows_long names params heights before (row ∷ rows) =
    let more : length rows ≤ length (behind names params heights row rows) = rows_long names params (heights ++ height_over heights row.offers ∷ []) (Some (height_over heights row.offers, row_text names row)) rows in
    let front : List Mark = marks_of params before (height_over heights row.offers, row_text names row) row in
    omega (arith, more, ap length (front_marks names params heights before row rows), length-append front (behind names params heights row rows))

pub rows_few : (names : List (List ℕ)) (params : List (Name × Kind)) (rows : List TableRow) → 2 + length params + length (rows_marks names params [] None rows) ≤ 4294967295 → length rows ≤ 4294967295
rows_few names params rows h = omega (arith, h, rows_long names params [] None rows)

-- ---- the way through the rows

pub walked_start : (names : List (List ℕ)) (params : List (Name × Kind)) (rows : List TableRow) (heights : List ℕ) → heights ≡ [] → AreRowsOf params 0 rows
    → 2 + length params + length (rows_marks names params [] None rows) ≤ 4294967295 → Walked names params rows 0 (2 + length params) heights None (drop 0 rows)
walked_start names params rows heights none forms fits = subst (λ hs. Walked names params rows 0 (2 + length params) hs None rows) (sym none)
    (record { same = refl; fits = fits; few = omega (arith, rows_few names params rows fits); forms = forms; count = refl; low = All-nil (λ h. h ≤ 0) })

-- what the calls ask at the first row that is left
pub record Faces (names : List (List ℕ)) (params : List (Name × Kind)) (n line : ℕ) (heights : List ℕ) (row : TableRow) : Type 0 where
  pub low : All (λ h. h ≤ length heights) heights
  pub within : All (Offer (length heights)) row.offers
  pub few : length heights ≤ 4294967295
  pub named : RowIsNamed names row
  pub rising : All (λ set. is_rising params 0 set ≡ true) row.accepts
  pub fits : line + (1 + (length row.ends + length row.accepts + length row.offers)) ≤ 4294967295

faces : (names : List (List ℕ)) (params : List (Name × Kind)) (all : List TableRow) (n line : ℕ) (heights : List ℕ) (before : Option (ℕ × List ℕ)) (row : TableRow) (rows : List TableRow) → IsInterface names params
    → Walked names params all n line heights before (row ∷ rows) → Faces names params n line heights row
faces names params all n line heights before row rows interface w =
    let front : List Mark = marks_of params before (height_over heights row.offers, row_text names row) row in
    let long = ap length (front_marks names params heights before row rows) ∙ length-append front (behind names params heights row rows) in
    record {
      low = subst (λ m. All (λ h. h ≤ m) heights) (sym w.count) w.low;
      within = row_below params n (length heights) row (omega (arith, w.count)) w.forms.0;
      few = omega (arith, w.count, w.few);
      named = row_named names params interface.named n row w.forms.0;
      rising = row_rising params n row w.forms.0;
      fits = omega (arith, w.fits, long, length_row params row);
    }

pub faces_at : (names : List (List ℕ)) (params : List (Name × Kind)) (all : List TableRow) (n line : ℕ) (heights : List ℕ) (before : Option (ℕ × List ℕ)) (row : TableRow) → IsInterface names params → n < length all → row ≡ get_or all n row
    → Walked names params all n line heights before (drop n all) → Faces names params n line heights row
faces_at names params all n line heights before row interface lt e w =
    faces names params all n line heights before row (drop (n + 1) all) interface (subst (Walked names params all n line heights before) (drop_item all n row lt e) w)

here_is : (names : List (List ℕ)) (heights : List ℕ) (row : TableRow) (height : ℕ) (text : List ℕ) → height ≡ height_over heights row.offers → text ≡ row_text names row → ◌≡◌ {A = ℕ × List ℕ} (height, text) (height_over heights row.offers, row_text names row)
here_is names heights row height text h t =
    let first : (x : ℕ) → ℕ × List ℕ = λ x. (x, text) in
    let second : (y : List ℕ) → ℕ × List ℕ = λ y. (height_over heights row.offers, y) in
    ap first h ∙ ap second t

walked_more : (names : List (List ℕ)) (params : List (Name × Kind)) (all : List TableRow) (n line : ℕ) (heights : List ℕ) (before : Option (ℕ × List ℕ)) (row : TableRow) (rows : List TableRow) (height : ℕ) (text : List ℕ) (next : ℕ) (new : List ℕ) (f : Option TableFault)
    → Walked names params all n line heights before (row ∷ rows) → height ≡ height_over heights row.offers → text ≡ row_text names row → height ≤ n + 1 → is_some f ≡ false → f ≡ first_mark line (marks_of params before (height, text) row)
    → next ≡ line + lines row → new ≡ heights ++ height ∷ [] → Walked names params all (n + 1) next new (Some (height, text)) rows
walked_more names params all n line heights before row rows height text next new f w h t low none found on grown =
    let here = here_is names heights row height text h t in
    let front : List Mark = marks_of params before (height_over heights row.offers, row_text names row) row in
    let fine : f ≡ first_mark line front = found ∙ ap (λ (p : ℕ × List ℕ). first_mark line (marks_of params before p row)) here in
    let long : length front ≡ lines row = omega (arith, ap suc (length_row params row)) in
    let place : next ≡ line + length front = on ∙ ap (λ m. line + m) (sym long) in
    let others : rows_marks names params new (Some (height, text)) rows ≡ behind names params heights row rows =
    ap (λ hs. rows_marks names params hs (Some (height, text)) rows) grown ∙ ap (λ (p : ℕ × List ℕ). rows_marks names params (heights ++ p.0 ∷ []) (Some p) rows) here in
    let parts = front_marks names params heights before row rows in
    let P : ℕ → Type 0 = λ x. x ≤ n + 1 in
    record {
      same = w.same ∙ ap (first_mark line) parts ∙ sym (ap (first_mark next) others ∙ fine_in_front line next front (behind names params heights row rows) f none fine place);
      fits = omega (arith, w.fits, ap length parts, length-append front (behind names params heights row rows), ap length others, place);
      few = omega (arith, w.few);
      forms = w.forms.1;
      count = omega (arith, ap length grown, length-append heights (height ∷ []), w.count);
      low = All-same P new (heights ++ height ∷ []) grown (All-push P heights height (All-weaker (λ x. x ≤ n) P (λ x k. omega (arith, k)) heights w.low) low);
    }

pub walked_on : (names : List (List ℕ)) (params : List (Name × Kind)) (all : List TableRow) (n line : ℕ) (heights : List ℕ) (before : Option (ℕ × List ℕ)) (row : TableRow) (height : ℕ) (text : List ℕ)
    (next : ℕ) (new : List ℕ) (f : Option TableFault) → n < length all → row ≡ get_or all n row
    → Walked names params all n line heights before (drop n all) → height ≡ height_over heights row.offers → text ≡ row_text names row → height ≤ length heights + 1 → is_some f ≡ false → f ≡ first_mark line (marks_of params before (height, text) row)
    → next ≡ line + lines row → new ≡ heights ++ height ∷ [] → Walked names params all (n + 1) next new (Some (height, text)) (drop (n + 1) all)
walked_on names params all n line heights before row height text next new f lt e w h t low none found on grown =
    walked_more names params all n line heights before row (drop (n + 1) all) height text next new f (subst (Walked names params all n line heights before) (drop_item all n row lt e) w) h t (omega (arith, low, w.count)) none found on grown

pub walked_stops : (names : List (List ℕ)) (params : List (Name × Kind)) (all : List TableRow) (n line : ℕ) (heights : List ℕ) (before : Option (ℕ × List ℕ)) (row : TableRow) (height : ℕ) (text : List ℕ) (f : Option TableFault) → n < length all → row ≡ get_or all n row
    → Walked names params all n line heights before (drop n all) → height ≡ height_over heights row.offers → text ≡ row_text names row → is_some f ≡ true → f ≡ first_mark line (marks_of params before (height, text) row)
    → f ≡ first_mark (2 + length params) (rows_marks names params [] None all)
walked_stops names params all n line heights before row height text f lt e w h t some found =
    let here = here_is names heights row height text h t in
    let front : List Mark = marks_of params before (height_over heights row.offers, row_text names row) row in
    let bad : f ≡ first_mark line front = found ∙ ap (λ (p : ℕ × List ℕ). first_mark line (marks_of params before p row)) here in
    fault_in_front line front (behind names params heights row (drop (n + 1) all)) f some bad
    ∙ sym (w.same ∙ ap (λ rs. first_mark line (rows_marks names params heights before rs)) (drop_item all n row lt e) ∙ ap (first_mark line) (front_marks names params heights before row (drop (n + 1) all)))

pub walked_end : (names : List (List ℕ)) (params : List (Name × Kind)) (all : List TableRow) (n line : ℕ) (heights : List ℕ) (before : Option (ℕ × List ℕ)) → length all ≤ n → Walked names params all n line heights before (drop n all)
    → None ≡ first_mark (2 + length params) (rows_marks names params [] None all)
unfolding rows_marks first_mark
walked_end names params all n line heights before le w = sym (w.same ∙ ap (λ rs. first_mark line (rows_marks names params heights before rs)) (drop_all n all le))

-- ---- empty rows

empty_next : (rows : List TableRow) (n i : ℕ) (row : TableRow) → i < length rows → row ≡ get_or rows i row → first_empty n (drop i rows) ≡ first_empty n (row ∷ drop (i + 1) rows)
empty_next rows n i row lt e = ap (first_empty n) (drop_item rows i row lt e)

pub empty_stop : (rows : List TableRow) (n i : ℕ) (row : TableRow) (whole : Option TableFault) → i < length rows → row ≡ get_or rows i row → true ≡ is_empty_row row → whole ≡ first_empty n (drop i rows) → Some (fault.Empty n) ≡ whole
unfolding first_empty
empty_stop rows n i row whole lt e empty h = sym (h ∙ empty_next rows n i row lt e ∙ cond-true (is_empty_row row) (Some (fault.Empty n)) (first_empty (n + 1) (drop (i + 1) rows)) (sym empty))

pub empty_more : (rows : List TableRow) (n i : ℕ) (row : TableRow) (whole : Option TableFault) → i < length rows → row ≡ get_or rows i row → false ≡ is_empty_row row → whole ≡ first_empty n (drop i rows) → whole ≡ first_empty (n + 1) (drop (i + 1) rows)
unfolding first_empty
empty_more rows n i row whole lt e full h = h ∙ empty_next rows n i row lt e ∙ cond-false (is_empty_row row) (Some (fault.Empty n)) (first_empty (n + 1) (drop (i + 1) rows)) (sym full)

pub empty_end : (rows : List TableRow) (n i : ℕ) (whole : Option TableFault) → length rows ≤ i → whole ≡ first_empty n (drop i rows) → None ≡ whole
unfolding first_empty
empty_end rows n i whole le h = sym (h ∙ ap (first_empty n) (drop_all i rows le))

-- ---- the lines of one row

pub line_stop : (line : ℕ) (b : Bool) (ms : List Mark) → false ≡ b → Some (fault.Order line) ≡ first_mark line (placed b ∷ ms)
unfolding first_mark
line_stop line b ms h = ap (λ a. first_mark line (placed a ∷ ms)) h

pub line_goes : (line : ℕ) (b : Bool) (ms : List Mark) → true ≡ b → first_mark (line + 1) ms ≡ first_mark line (placed b ∷ ms)
unfolding first_mark
line_goes line b ms h = ap (λ a. first_mark line (placed a ∷ ms)) h

abbrev pub end_marks : List (Name × Kind) → List (List (Name × ℕ)) → List Mark
end_marks params ends = list_marks (λ s u. nat_lt (state_place params s) (state_place params u)) None ends

abbrev pub set_marks_of : List (Name × Kind) → List (Event × ℕ) → List (List Event) → List Mark
set_marks_of params offers accepts = accept_marks params offers accepts None accepts

abbrev pub offer_marks : List (Name × Kind) → List (Event × ℕ) → List Mark
offer_marks params offers = list_marks (λ (o : Event × ℕ) (p : Event × ℕ). nat_lt (rank params o.0) (rank params p.0)) None offers

ends_long : (params : List (Name × Kind)) (ends : List (List (Name × ℕ))) → length (end_marks params ends) ≡ length ends
ends_long params ends = length_marks (λ s u. nat_lt (state_place params s) (state_place params u)) None ends

pub row_stop : (params : List (Name × Kind)) (row : TableRow) (line : ℕ) (ends : List (List (Name × ℕ))) (f : Option TableFault) → ends ≡ row.ends → is_some f ≡ true → f ≡ first_mark line (end_marks params ends) → f ≡ first_mark line (row_marks params row)
row_stop params row line ends f same found h =
    let bad : f ≡ first_mark line (end_marks params row.ends) = h ∙ ap (λ es. first_mark line (end_marks params es)) same in
    fault_in_front line (end_marks params row.ends ++ set_marks_of params row.offers row.accepts) (offer_marks params row.offers) f found
    (fault_in_front line (end_marks params row.ends) (set_marks_of params row.offers row.accepts) f found bad)

sets_behind : (params : List (Name × Kind)) (row : TableRow) (line : ℕ) (ends : List (List (Name × ℕ))) (accepts : List (List Event)) (offers : List (Event × ℕ)) (e : Option TableFault) → ends ≡ row.ends → accepts ≡ row.accepts → offers ≡ row.offers
    → is_some e ≡ false → e ≡ first_mark line (end_marks params ends) → first_mark (line + length ends) (set_marks_of params offers accepts) ≡ first_mark line (end_marks params row.ends ++ set_marks_of params row.offers row.accepts)
sets_behind params row line ends accepts offers e same_ends same_accepts same_offers none he =
    let place : line + length ends ≡ line + length (end_marks params row.ends) = ap (λ es. line + length es) same_ends ∙ ap (λ n. line + n) (sym (ends_long params row.ends)) in
    ap (λ as_. first_mark (line + length ends) (set_marks_of params offers as_)) same_accepts
    ∙ ap (λ os. first_mark (line + length ends) (set_marks_of params os row.accepts)) same_offers
    ∙ fine_in_front line (line + length ends) (end_marks params row.ends) (set_marks_of params row.offers row.accepts) e none (he ∙ ap (λ es. first_mark line (end_marks params es)) same_ends) place

pub row_stop_later : (params : List (Name × Kind)) (row : TableRow) (line : ℕ) (ends : List (List (Name × ℕ))) (accepts : List (List Event)) (offers : List (Event × ℕ)) (e f : Option TableFault) → ends ≡ row.ends → accepts ≡ row.accepts → offers ≡ row.offers
    → is_some e ≡ false → e ≡ first_mark line (end_marks params ends) → is_some f ≡ true → f ≡ first_mark (line + length ends) (set_marks_of params offers accepts) → f ≡ first_mark line (row_marks params row)
row_stop_later params row line ends accepts offers e f same_ends same_accepts same_offers none he found h =
    fault_in_front line (end_marks params row.ends ++ set_marks_of params row.offers row.accepts) (offer_marks params row.offers) f found
    (h ∙ sets_behind params row line ends accepts offers e same_ends same_accepts same_offers none he)

pub row_last : (params : List (Name × Kind)) (row : TableRow) (line : ℕ) (ends : List (List (Name × ℕ))) (accepts : List (List Event)) (offers : List (Event × ℕ)) (e f : Option TableFault) → ends ≡ row.ends → accepts ≡ row.accepts → offers ≡ row.offers
    → is_some e ≡ false → e ≡ first_mark line (end_marks params ends) → is_some f ≡ false → f ≡ first_mark (line + length ends) (set_marks_of params offers accepts)
    → first_mark (line + length ends + length accepts) (offer_marks params offers) ≡ first_mark line (row_marks params row)
row_last params row line ends accepts offers e f same_ends same_accepts same_offers none he fine h =
    let sets_long = length_accepts params row.offers row.accepts None row.accepts in
    ap (λ os. first_mark (line + length ends + length accepts) (offer_marks params os)) same_offers
    ∙ fine_in_front line (line + length ends + length accepts) (end_marks params row.ends ++ set_marks_of params row.offers row.accepts) (offer_marks params row.offers) f fine
    (h ∙ sets_behind params row line ends accepts offers e same_ends same_accepts same_offers none he)
    (omega (arith, ap length same_ends, ap length same_accepts, length-append (end_marks params row.ends) (set_marks_of params row.offers row.accepts), ends_long params row.ends, sets_long))

-- ---- all faults of a table

pub table_lines : (t : Parts) (f : Option TableFault) → is_some f ≡ true → f ≡ first_mark (2 + length t.params) (rows_marks t.names t.params [] None t.rows) → f ≡ table_fault t
unfolding table_fault
table_lines t f found h = stops f (first_mark (2 + length t.params) (rows_marks t.names t.params [] None t.rows)) (or_fault (first_empty 0 t.rows) (first_unreached (is_reached t.rows t.states) (length t.rows) 0)) found h

pub table_empty : (t : Parts) (e f : Option TableFault) → is_some e ≡ false → e ≡ first_mark (2 + length t.params) (rows_marks t.names t.params [] None t.rows) → is_some f ≡ true → f ≡ first_empty 0 t.rows → f ≡ table_fault t
unfolding table_fault
table_empty t e f none he found h =
    stops f (first_empty 0 t.rows) (first_unreached (is_reached t.rows t.states) (length t.rows) 0) found h
    ∙ goes e (first_mark (2 + length t.params) (rows_marks t.names t.params [] None t.rows)) (or_fault (first_empty 0 t.rows) (first_unreached (is_reached t.rows t.states) (length t.rows) 0)) none he

pub table_reached : (t : Parts) (e f : Option TableFault) → is_some e ≡ false → e ≡ first_mark (2 + length t.params) (rows_marks t.names t.params [] None t.rows) → is_some f ≡ false → f ≡ first_empty 0 t.rows
    → first_unreached (is_reached t.rows t.states) (length t.rows) 0 ≡ table_fault t
unfolding table_fault
table_reached t e f none he fine h =
    goes f (first_empty 0 t.rows) (first_unreached (is_reached t.rows t.states) (length t.rows) 0) fine h
    ∙ goes e (first_mark (2 + length t.params) (rows_marks t.names t.params [] None t.rows)) (or_fault (first_empty 0 t.rows) (first_unreached (is_reached t.rows t.states) (length t.rows) 0)) none he
