-- The first program of a script that is printed.
use Rattle.std.specs.Prelude.{ℕ, List, []}
use Rattle.occ_renamed.specs.occ_parse.Reading.{IsRead}
use Rattle.occ_renamed.specs.occ_parse.declared.bound.Bound.TheVariants as bound
use Rattle.occ_renamed.specs.occ_parse_rules.Places.{Place}
use Rattle.occ_script_table.specs.occ_print_back.Back.{IsNarrow}
use Rattle.occ_script_table.specs.occ_script_back.Joined.{AreWrittenMoves}
use Rattle.occ_engine_known.specs.occ_script_write.declared.writing.Done.{Done}
use Rattle.occ_engine_known.specs.occ_syntax.declared.scope.Program.{Program}
use Rattle.occ_engine_known.specs.occ_syntax.View.{tree}
use Rattle.occ_renamed.specs.occ_usage.Accepted.{IsAccepted}

-- The program was read from a text with an empty table, which has these names now; it is accepted, and no line on which it is printed
-- has more than 4,096 tokens.
pub record IsFirstProgram (names : List (List ℕ)) (from : Program) : Type 0 where
  pub text : List ℕ
  pub lines : List ℕ
  pub read : IsRead bound.Program text [] names from.name from.params (tree from.body) lines
  pub accepted : IsAccepted from
  pub narrow : IsNarrow from.name.0 from.params (tree from.body)

-- the steps are moves that are written from the table, whichever places its names are
abbrev pub AreWritten : List (List ℕ) → Program → List Done → Program → Type 0
AreWritten names from steps to = (P : ℕ → Place) × AreWrittenMoves names P from steps to
