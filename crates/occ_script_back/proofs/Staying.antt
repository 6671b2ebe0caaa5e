-- What is printed from a table of names is printed so from each longer table.
use Rattle.std.proofs.Common.{◌≡◌, ℕ, ◌<◌, ◌≤◌, Bool, List, [], ◌∷◌, ◌++◌, length, Option, None, Some, refl, ap, ◌∙◌, arith}
use Rattle.std.specs.List.{AllByRecursion}
use Rattle.occ_script_write.specs.occ_base.declared.names.Name.{Name}
use Rattle.occ_script_write.specs.occ_lex.Printed.{printed_line}
use Rattle.occ_script_write.specs.occ_lex.declared.symbol.Symbol.{Symbol}
use Rattle.occ_script_write.specs.occ_lex.declared.symbol.Symbol.TheVariants as symbol
use Rattle.occ_script_write.specs.occ_lex.Symbols.{Extends}
use Rattle.occ_script_write.proofs.from_lex.Interned.{longer}
use Rattle.occ_print_back.specs.occ_parse_rules.Places.{Place}
use Rattle.occ_script_write.specs.occ_print.Known.{ExpIsKnown, WaitingIsKnown, PartIsKnown, PartsAreKnown, CasesAreKnown, BranchesAreKnown}
use Rattle.occ_script_write.specs.occ_print.Lines.{TextLine, part_lines, program_lines}
use Rattle.occ_script_write.specs.occ_print.Spelled.{gap, is_header, lines_text, name_pieces, pieces_behind, printed, symbol_pieces}
use Rattle.occ_print_back.specs.Placed.{AreSayable, IsSayable, LinesAreSayable}
use Rattle.occ_print_back.specs.Program.{IsPrintable}
use Rattle.occ_print_back.proofs.Programs.{program_sayable}
use Rattle.occ_print_back.proofs.Saying.{part_sayable}
use Rattle.occ_script_back.specs.Part.{IsPrintablePart}
use Rattle.occ_script_back.specs.Staying.{PartStays, ProgramStays}
use Rattle.occ_script_back.specs.Tables.{IsGrown}
use Rattle.occ_script_back.proofs.Growing.{text_stays}
use Rattle.occ_script_write.specs.occ_syntax.declared.scope.Kind.{Kind}
use Rattle.occ_script_write.specs.occ_syntax.Scopes.{environment}
use Rattle.occ_script_write.specs.occ_syntax.Tree.{Exp, variable, numeral, truth, negation, complement, operation, Waiting, ready, input, output, Tree, skip, stop, assign, receive, send, seq, par, select, alt, declare, connect, Trees, no_tree, and_tree, Cases, no_case, and_case, Branches, no_branch, and_branch}

-- ---- names that are known

module _ (n m : ℕ) (le : n ≤ m) where
  below : (x : ℕ) → x < n → x < m
  below x h = omega (arith, h, le)

  all_below : (xs : List ℕ) → AllByRecursion (λ (x : ℕ). x < n) xs → AllByRecursion (λ (x : ℕ). x < m) xs
  all_below [] h = tt
  all_below (x ∷ xs) h = (below x h.0, all_below xs h.1)

  pub names_below : (ps : List (Name × Kind)) → AllByRecursion (λ (p : Name × Kind). p.0.0 < n) ps → AllByRecursion (λ (p : Name × Kind). p.0.0 < m) ps
  names_below [] h = tt
  names_below (p ∷ ps) h = (below p.0.0 h.0, names_below ps h.1)

  exp_known : (e : Exp) → ExpIsKnown n e → ExpIsKnown m e
  exp_known (variable x) h = below x h
  exp_known (numeral bits v) h = tt
  exp_known (truth b) h = tt
  exp_known (negation e) h = exp_known e h
  exp_known (complement e) h = exp_known e h
  exp_known (operation o l r) h = (exp_known l h.0, exp_known r h.1)

  exps_known : (es : List Exp) → AllByRecursion (ExpIsKnown n) es → AllByRecursion (ExpIsKnown m) es
  exps_known [] h = tt
  exps_known (e ∷ es) h = (exp_known e h.0, exps_known es h.1)

  waiting_known : (w : Waiting) → WaitingIsKnown n w → WaitingIsKnown m w
  waiting_known ready h = tt
  waiting_known (input c x) h = (below c h.0, below x h.1)
  waiting_known (output c e) h = (below c h.0, exp_known e h.1)

  mutual
    pub part_known : (p : Tree) → PartIsKnown n p → PartIsKnown m p
    part_known skip h = tt
    part_known stop h = tt
    part_known (assign xs es) h = (all_below xs h.0, exps_known es h.1)
    part_known (receive c x) h = (below c h.0, below x h.1)
    part_known (send c e) h = (below c h.0, exp_known e h.1)
    part_known (seq ps) h = parts_known ps h
    part_known (par ps) h = parts_known ps h
    part_known (select cs) h = cases_known cs h
    part_known (alt bs) h = branches_known bs h
    part_known (declare x w p) h = (below x h.0, part_known p h.1)
    part_known (connect c w p) h = (below c h.0, part_known p h.1)

    parts_known : (ps : Trees) → PartsAreKnown n ps → PartsAreKnown m ps
    parts_known no_tree h = tt
    parts_known (and_tree p ps) h = (part_known p h.0, parts_known ps h.1)

    cases_known : (cs : Cases) → CasesAreKnown n cs → CasesAreKnown m cs
    cases_known no_case h = tt
    cases_known (and_case e p cs) h = (exp_known e h.0, part_known p h.1, cases_known cs h.2)

    branches_known : (bs : Branches) → BranchesAreKnown n bs → BranchesAreKnown m bs
    branches_known no_branch h = tt
    branches_known (and_branch e w p bs) h = (exp_known e h.0, waiting_known w h.1, part_known p h.2, branches_known bs h.3)

-- ---- texts

module _ (names t : List (List ℕ)) (e : Extends names t) where
  symbol_stays : (g : ℕ) (s : Symbol) → IsSayable (length names) s → symbol_pieces t g s ≡ symbol_pieces names g s
  symbol_stays g (symbol.Name name) h = ap (name_pieces g) (text_stays names t e name.0 h)
  symbol_stays g (symbol.Numeral v) h = refl
  symbol_stays g (symbol.Keyword k) h = refl
  symbol_stays g (symbol.Sign s) h = refl

  pieces_stay : (header : Bool) (before : Option Symbol) (ss : List Symbol) → AreSayable (length names) ss → pieces_behind t header before ss ≡ pieces_behind names header before ss
  pieces_stay header before [] h = refl
  pieces_stay header before (s ∷ ss) h =
      ap (λ ps. ps ++ pieces_behind t header (Some s) ss) (symbol_stays (gap header before s) s h.0)
      ∙ ap (λ ps. symbol_pieces names (gap header before s) s ++ ps) (pieces_stay header (Some s) ss h.1)

  lines_stay : (ls : List TextLine) → LinesAreSayable (length names) ls → lines_text t ls ≡ lines_text names ls
  lines_stay [] h = refl
  lines_stay (l ∷ ls) h =
      ap (λ ps. printed_line (record { level = l.level; pieces = ps }) ++ lines_text t ls) (pieces_stay (is_header l.symbols) None l.symbols h.0.1)
      ∙ ap (λ text. printed_line (printed names l) ++ text) (lines_stay ls h.1)

module _ (names : List (List ℕ)) (P : ℕ → Place) (t : List (List ℕ)) (Q : ℕ → Place) (g : IsGrown names P t Q) where
  le : length names ≤ length t
  le = longer names t g.extends

  pub part_stays : (scope : List (Name × Kind)) (part : Tree) → IsPrintablePart names P scope part → PartStays names t Q scope part
  part_stays scope part h = record {
    text = lines_stay names t g.extends (part_lines 1 part) (part_sayable (length names) (environment scope) 1 part h.known h.types);
    printable = record {
      table = g.table;
      known = part_known (length names) (length t) le part h.known;
      scope_known = names_below (length names) (length t) le scope h.scope_known;
      scope_kept_is = h.scope_kept_is;
      types = h.types;
    };
  }

  pub program_stays : (name : ℕ) (params : List (Name × Kind)) (body : Tree) → IsPrintable names P name params body → ProgramStays names t Q name params body
  program_stays name params body h = record {
    text = lines_stay names t g.extends (program_lines name params body) (program_sayable names P name params body h);
    printable = record {
      table = g.table;
      known = record {
        name_is = omega (arith, h.known.name_is, le);
        params_are = names_below (length names) (length t) le params h.known.params_are;
        body_is = part_known (length names) (length t) le body h.known.body_is;
      };
      plain = ap (λ (p : Place). p.element) (g.same name h.known.name_is) ∙ h.plain;
      marked = h.marked;
      scope = h.scope;
      types = h.types;
    };
  }
