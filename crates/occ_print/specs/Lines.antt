-- The lines of a printed part and of a printed program, from top to bottom.
use Rattle.std.specs.Prelude.{ℕ, ◌+◌, max, List, [], ◌∷◌, ◌++◌, length, None}
use Rattle.occ_syntax.specs.occ_base.declared.names.Name.{Name}
use Rattle.occ_syntax.specs.declared.scope.Kind.{Kind}
use Rattle.occ_syntax.specs.declared.scope.Kind.TheVariants as kind
use Rattle.occ_syntax.specs.Tree.{Tree, skip, stop, assign, receive, send, seq, par, select, alt, declare, connect, Trees, no_tree, and_tree, Cases, no_case, and_case, Branches, no_branch, and_branch}
use Rattle.occ_parse_forms.specs.occ_lex.declared.symbol.Keyword.TheVariants as word
use Rattle.occ_parse_forms.specs.occ_lex.declared.symbol.Sign.TheVariants as sign
use Rattle.occ_parse_forms.specs.occ_lex.declared.symbol.Symbol.{Symbol}
use Rattle.occ_parse_forms.specs.occ_lex.declared.symbol.Symbol.TheVariants as symbol
use Rattle.occ_print.specs.Symbols.{word_symbol, whole_symbols, assign_symbols, receive_symbols, send_symbols, guard_symbols, declaration_symbols, header_symbols}

-- a line: its level and its symbols
pub record TextLine : Type 0 where
  pub level : ℕ
  pub symbols : List Symbol

abbrev pub line : ℕ → List Symbol → TextLine
line level symbols = record { level = level; symbols = symbols }

-- The lines of a part at a level. Each declared name has a line of its own. The parts of a construct stand one level
-- below it; a choice and an alternative begin with a line, and their process stands one level below that.
abbrev mutual
  pub part_lines : ℕ → Tree → List TextLine
  part_lines level skip = line level (word_symbol word.Skip) ∷ []
  part_lines level stop = line level (word_symbol word.Stop) ∷ []
  part_lines level (assign xs es) = line level (assign_symbols xs es) ∷ []
  part_lines level (receive c x) = line level (receive_symbols c x) ∷ []
  part_lines level (send c e) = line level (send_symbols c e) ∷ []
  part_lines level (seq ps) = line level (word_symbol word.Seq) ∷ all_lines (level + 1) ps
  part_lines level (par ps) = line level (word_symbol word.Par) ∷ all_lines (level + 1) ps
  part_lines level (select cs) = line level (word_symbol word.If) ∷ case_lines (level + 1) cs
  part_lines level (alt bs) = line level (word_symbol word.Alt) ∷ branch_lines (level + 1) bs
  part_lines level (declare x w p) = line level (declaration_symbols x (kind.Var w)) ∷ part_lines level p
  part_lines level (connect c w p) = line level (declaration_symbols c (kind.Chan w None)) ∷ part_lines level p

  pub all_lines : ℕ → Trees → List TextLine
  all_lines level no_tree = []
  all_lines level (and_tree p ps) = part_lines level p ++ all_lines level ps

  pub case_lines : ℕ → Cases → List TextLine
  case_lines level no_case = []
  case_lines level (and_case e p cs) = line level (whole_symbols e) ∷ (part_lines (level + 1) p ++ case_lines level cs)

  pub branch_lines : ℕ → Branches → List TextLine
  branch_lines level no_branch = []
  branch_lines level (and_branch e w p bs) = line level (guard_symbols e w) ∷ (part_lines (level + 1) p ++ branch_lines level bs)

-- the header, the body one level below it, and the closing line
abbrev pub program_lines : ℕ → List (Name × Kind) → Tree → List TextLine
program_lines name params body = line 0 (header_symbols name params) ∷ (part_lines 1 body ++ line 0 (symbol.Sign sign.Colon ∷ []) ∷ [])

-- the most symbols on a line
abbrev pub most_symbols : List TextLine → ℕ
most_symbols [] = 0
most_symbols (l ∷ ls) = max (length l.symbols) (most_symbols ls)
