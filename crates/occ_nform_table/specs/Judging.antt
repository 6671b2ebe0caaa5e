-- What is wrong with a table whose lines have their forms.
use Rattle.std.specs.Prelude.{ℕ, zero, suc, ◌+◌, ◌==◌, Bool, true, false, not, ◌&&◌, ◌||◌, nat_lt, if◌then◌else◌, List, [], ◌∷◌, ◌++◌, length, get_or, max, codes, decimal, Option, None, Some}
use Rattle.std.specs.List.{list_all, list_any}
use Rattle.occ_lex.specs.occ_base.declared.event.Event.{Event}
use Rattle.occ_lex.specs.occ_base.declared.names.Name.{Name}
use Rattle.occ_syntax.specs.declared.scope.Kind.{Kind}
use Rattle.occ_behaviour.specs.Texts.{state_text, event_text, set_text}
use Rattle.occ_nform_table.specs.declared.table.TableRow.{TableRow}
use Rattle.occ_nform_table.specs.Lines.{rank, state_place}

-- ---- how rows are written

unfoldable pub ends_text : List (List (Name × ℕ)) → List ℕ
ends_text [] = []
ends_text (state ∷ states) = codes "END " ++ state_text state ++ codes "\n" ++ ends_text states

unfoldable pub accepts_text : List (List ℕ) → List (List Event) → List ℕ
accepts_text names [] = []
accepts_text names (set ∷ sets) = codes "ACCEPT " ++ set_text names set ++ codes "\n" ++ accepts_text names sets

unfoldable pub offers_text : List (List ℕ) → List (Event × ℕ) → List ℕ
offers_text names [] = []
offers_text names (offer ∷ offers) = codes "OFFER " ++ event_text names offer.0 ++ codes " " ++ decimal offer.1 ++ codes "\n" ++ offers_text names offers

-- the text of a row: the lines under its ROW line
abbrev pub row_text : List (List ℕ) → TableRow → List ℕ
row_text names row = ends_text row.ends ++ accepts_text names row.accepts ++ offers_text names row.offers

-- ---- the order of rows

-- the height of a row with these offers, by the heights of the rows before it
unfoldable pub height_over : List ℕ → List (Event × ℕ) → ℕ
height_over heights [] = 0
height_over heights (offer ∷ offers) = max (1 + get_or heights offer.1 0) (height_over heights offers)

-- texts by their bytes
unfoldable pub text_less : List ℕ → List ℕ → Bool
text_less [] [] = false
text_less [] (c ∷ text) = true
text_less (b ∷ text) [] = false
text_less (b ∷ front) (c ∷ text) = nat_lt b c || (b == c && text_less front text)

-- a height and a row text are after those of the row before, where there is one
abbrev pub comes_after : Option (ℕ × List ℕ) → ℕ × List ℕ → Bool
comes_after None row = true
comes_after (Some before) row = nat_lt before.0 row.0 || (before.0 == row.0 && text_less before.1 row.1)

-- ---- the lines of a row

-- sets as lists of events
unfoldable pub set_less : List (Name × Kind) → List Event → List Event → Bool
set_less params [] [] = false
set_less params [] (f ∷ set) = true
set_less params (e ∷ set) [] = false
set_less params (e ∷ front) (f ∷ set) = nat_lt (rank params e) (rank params f) || (rank params e == rank params f && set_less params front set)

abbrev pub has_event : List (Name × Kind) → List Event → Event → Bool
has_event params set e = list_any (λ f. rank params e == rank params f) set

-- each event of the set is offered
abbrev pub is_offered : List (Name × Kind) → List (Event × ℕ) → List Event → Bool
is_offered params offers set = list_all (λ e. list_any (λ o. rank params e == rank params o.0) offers) set

-- the set has all events of another one, and more
abbrev pub contains : List (Name × Kind) → List Event → List Event → Bool
contains params set other = nat_lt (length other) (length set) && list_all (has_event params set) other

-- What a line is found to be: in its place, out of order, or a set that is no least acceptance.
pub data Mark : Type 0 where
  Fine : Mark
  Misplaced : Mark
  Excessive : Mark

abbrev pub placed : Bool → Mark
placed true = Fine
placed false = Misplaced

-- each item is to be less than the one before it is
abbrev pub follows : {A : Type 0} → (A → A → Bool) → Option A → A → Bool
follows less None x = true
follows less (Some before) x = less before x

unfoldable pub list_marks : {A : Type 0} → (A → A → Bool) → Option A → List A → List Mark
list_marks less before [] = []
list_marks less before (x ∷ xs) = placed (follows less before x) ∷ list_marks less (Some x) xs

abbrev pub accept_mark : Bool → Bool → Mark
accept_mark false least = Misplaced
accept_mark true true = Fine
accept_mark true false = Excessive

-- the marks of ACCEPT lines, by the offers and all sets of their row
unfoldable pub accept_marks : List (Name × Kind) → List (Event × ℕ) → List (List Event) → Option (List Event) → List (List Event) → List Mark
accept_marks params offers all before [] = []
accept_marks params offers all before (set ∷ sets) =
    accept_mark (follows (set_less params) before set) (is_offered params offers set && not (list_any (contains params set) all)) ∷ accept_marks params offers all (Some set) sets

abbrev pub row_marks : List (Name × Kind) → TableRow → List Mark
row_marks params row = list_marks (λ s u. nat_lt (state_place params s) (state_place params u)) None row.ends
    ++ accept_marks params row.offers row.accepts None row.accepts
    ++ list_marks (λ o p. nat_lt (rank params o.0) (rank params p.0)) None row.offers

-- the marks of all lines from a ROW line on, by the heights of the rows before and by the row before
unfoldable pub rows_marks : List (List ℕ) → List (Name × Kind) → List ℕ → Option (ℕ × List ℕ) → List TableRow → List Mark
rows_marks names params heights before [] = []
rows_marks names params heights before (row ∷ rows) =
    placed (comes_after before (height_over heights row.offers, row_text names row)) ∷ row_marks params row
    ++ rows_marks names params (heights ++ height_over heights row.offers ∷ []) (Some (height_over heights row.offers, row_text names row)) rows

-- ---- rows that are empty, and rows that are reached

abbrev pub is_none : {A : Type 0} → List A → Bool
is_none [] = true
is_none (x ∷ xs) = false

abbrev pub is_empty_row : TableRow → Bool
is_empty_row row = is_none row.ends && is_none row.accepts

-- The rows that are reached: those that STATE lines name, and those that a reached row offers. A row offers lower rows
-- alone, so the later rows come first; n is the number of the first row of the list.
unfoldable pub reached : (ℕ → Bool) → ℕ → List TableRow → ℕ → Bool
reached named n [] k = named k
reached named n (row ∷ rows) k = reached named (n + 1) rows k || (reached named (n + 1) rows n && list_any (λ o. o.1 == k) row.offers)

abbrev pub is_reached : List TableRow → List ℕ → ℕ → Bool
is_reached rows states k = reached (λ i. list_any (λ s. s == i) states) 0 rows k
