-- The text of each chain is that of its lines, and the names in it come in their order: by computing.
use Rattle.std.proofs.Common.{◌≡◌, ℕ, ◌<◌, Bool, true, ◌||◌, eqb, List, [], map, refl}
use Rattle.std.specs.Fmt.{digits}
use Rattle.std.proofs.lemmas.Bool.{agree_below_at}
use Rattle.occ_gen.specs.Programs.{program}
use Rattle.occ_gen.specs.declared.shape.Shape.{Shape as Kind}
use Rattle.occ_gen.specs.declared.shape.Shape.TheVariants.{Adders, Buffers, Muxes}
use Rattle.occ_gen.proofs.Chains.{chain, names}
use Rattle.occ_gen.proofs.Same.{same_lines, same_table}
use Rattle.occ_gen.proofs.Spoken.{spoken}
use Rattle.occ_gen.proofs.Tables.{with_all_words}
use Rattle.occ_script.specs.occ_lex.declared.token.TokenKind.TheVariants as token
use Rattle.occ_script.specs.occ_lex.Words.{printed_words}
use Rattle.occ_print_back.specs.occ_parse_rules.Forest.{Laid, lines_at}
use Rattle.occ_print_back.specs.occ_print.Lines.{TextLine}
use Rattle.occ_print_back.specs.occ_print.Spelled.{printed}

abbrev pub laid : Kind → ℕ → List Laid
laid shape n = lines_at 0 (chain shape n)

abbrev pub text_line : Laid → TextLine
text_line l = record { level = l.level; symbols = spoken l.shape }

abbrev pub lines : Kind → ℕ → List TextLine
lines shape n = map text_line (laid shape n)

-- a test of each chain of 1 to 48 stages
abbrev pub of_chains : (Kind → ℕ → Bool) → Kind → ℕ → Bool
of_chains test shape n = eqb n 0 || test shape n

abbrev pub always : ℕ → Bool
always n = true

abbrev pub text_is_good : Kind → ℕ → Bool
text_is_good shape n = same_lines (program shape n) (map (printed (names shape n)) (lines shape n))

abbrev pub table_is_good : Kind → ℕ → Bool
table_is_good shape n = same_table (names shape n) (with_all_words [] (map printed_words (map (printed (names shape n)) (lines shape n))))

pub texts_good : (shape : Kind) (n : ℕ) → n < 49 → of_chains text_is_good shape n ≡ true
unfolding digits
texts_good Buffers n h = agree_below_at (of_chains text_is_good Buffers) always 49 n refl h
texts_good Adders n h = agree_below_at (of_chains text_is_good Adders) always 49 n refl h
texts_good Muxes n h = agree_below_at (of_chains text_is_good Muxes) always 49 n refl h

pub tables_good : (shape : Kind) (n : ℕ) → n < 49 → of_chains table_is_good shape n ≡ true
unfolding digits
tables_good Buffers n h = agree_below_at (of_chains table_is_good Buffers) always 49 n refl h
tables_good Adders n h = agree_below_at (of_chains table_is_good Adders) always 49 n refl h
tables_good Muxes n h = agree_below_at (of_chains table_is_good Muxes) always 49 n refl h
