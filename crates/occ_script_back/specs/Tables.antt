-- Tables of names that grow by elements of arrays.
use Rattle.std.specs.Prelude.{ℕ, ◌≡◌, ◌<◌, nat_le, true, List, length, Some}
use Rattle.occ_script_write.specs.occ_lex.declared.token.TokenKind.TheVariants as token
use Rattle.occ_script_write.specs.occ_lex.Spelling.{kind_of}
use Rattle.occ_script_write.specs.occ_lex.Symbols.{Extends}
use Rattle.occ_print_back.specs.occ_parse_rules.Places.{Place}
use Rattle.occ_script_write.specs.occ_print.Spelled.{name_text}
use Rattle.occ_print_back.specs.Placed.{IsTable}

-- a name of the table by itself, of which there may be elements
pub record IsBase (names : List (List ℕ)) (x : ℕ) : Type 0 where
  pub there : x < length names
  pub kind : kind_of (name_text names x) ≡ Some token.Name
  pub short : nat_le (length (name_text names x)) 32 ≡ true

-- a longer table of places, in which the names of the shorter one have theirs
pub record IsGrown (names : List (List ℕ)) (P : ℕ → Place) (more : List (List ℕ)) (Q : ℕ → Place) : Type 0 where
  pub table : IsTable more Q
  pub extends : Extends names more
  pub same : (x : ℕ) → x < length names → Q x ≡ P x

abbrev pub Grows : List (List ℕ) → (ℕ → Place) → List (List ℕ) → Type 0
Grows names P more = (Q : ℕ → Place) × IsGrown names P more Q
