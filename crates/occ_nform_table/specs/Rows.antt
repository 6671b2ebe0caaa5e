-- The lines of a row, and the names that they need.
use Rattle.std.specs.Prelude.{ℕ, ◌<◌, ◌++◌, List, length, codes, decimal}
use Rattle.std.specs.List.{All}
use Rattle.occ_lex.specs.occ_base.declared.event.Event.{Event}
use Rattle.occ_lex.specs.occ_base.declared.names.Name.{Name}
use Rattle.occ_behaviour.specs.Members.{AreNamed}
use Rattle.occ_behaviour.specs.Texts.{state_text, event_text, set_text}
use Rattle.occ_nform_table.specs.declared.table.TableRow.{TableRow}

abbrev pub end_line : List (Name × ℕ) → List ℕ
end_line state = codes "END " ++ state_text state ++ codes "\n"

abbrev pub accept_line : List (List ℕ) → List Event → List ℕ
accept_line names set = codes "ACCEPT " ++ set_text names set ++ codes "\n"

abbrev pub offer_line : List (List ℕ) → Event × ℕ → List ℕ
offer_line names offer = codes "OFFER " ++ event_text names offer.0 ++ codes " " ++ decimal offer.1 ++ codes "\n"

-- the channels of all events have names
abbrev pub AcceptsAreNamed : List (List ℕ) → List (List Event) → Type 0
AcceptsAreNamed names sets = All (AreNamed names) sets

abbrev pub OffersAreNamed : List (List ℕ) → List (Event × ℕ) → Type 0
OffersAreNamed names offers = All (λ (o : Event × ℕ). o.0.chan.0 < length names) offers

pub record RowIsNamed (names : List (List ℕ)) (row : TableRow) : Type 0 where
  pub accepts : AcceptsAreNamed names row.accepts
  pub offers : OffersAreNamed names row.offers
