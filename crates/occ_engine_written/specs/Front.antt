-- Moves that are written from a table with given texts in front.
use Rattle.std.specs.Prelude.{ℕ, ◌≡◌, ◌++◌, List, [], ◌∷◌, length, slice_get, Some}
use Rattle.occ_engine_known.specs.occ_base.Names.{with_text}
use Rattle.occ_renamed.specs.occ_parse_rules.Places.{Place}
use Rattle.occ_script_table.specs.occ_script_back.Joined.{AreWrittenMoves}
use Rattle.occ_engine_known.specs.occ_script_write.declared.writing.Done.{Done}
use Rattle.occ_engine_known.specs.occ_script_write.Text.{script_text}
use Rattle.occ_engine_known.specs.occ_syntax.declared.scope.Program.{Program}

-- each text of the one table stands somewhere in the other
abbrev pub AllStandIn : List (List ℕ) → List (List ℕ) → Type 0
AllStandIn front names = (i : ℕ) (text : List ℕ) → slice_get front i ≡ Some text → (j : ℕ) × (slice_get names j ≡ Some text)

-- Moves with this text, so many steps of them, are written from a table that begins with these texts.
pub record AreWrittenBehind (front : List (List ℕ)) (text : List ℕ) (count : ℕ) : Type 0 where
  pub rest : List (List ℕ)
  pub places : ℕ → Place
  pub from : Program
  pub steps : List Done
  pub to : Program
  pub moves : AreWrittenMoves (front ++ rest) places from steps to
  pub text_is : script_text (front ++ rest) from steps to ≡ text
  pub as_many : length steps ≡ count

-- the table with texts, one after the other
abbrev pub with_texts : List (List ℕ) → List (List ℕ) → List (List ℕ)
with_texts names [] = names
with_texts names (text ∷ texts) = with_texts (with_text names text) texts
