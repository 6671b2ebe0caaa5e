-- The lines of parts and programs under other names.
use Rattle.occ_replay_rules.specs.occ_base.declared.names.Name.{Name}
use Rattle.occ_renamed.specs.Scopes.{scope_renamed}
use Rattle.occ_replay_rules.specs.occ_lex.declared.symbol.Symbol.{Symbol}
use Rattle.occ_replay_rules.specs.occ_lex.declared.symbol.Keyword.TheVariants as word
use Rattle.occ_replay_rules.specs.occ_lex.declared.symbol.Sign.TheVariants as sign
use Rattle.occ_replay_rules.specs.occ_lex.declared.symbol.Symbol.TheVariants as symbol
use Rattle.occ_replay_rules.specs.occ_meaning.Rename.{all_renamed, branches_renamed, cases_renamed, renamed, renamed_exp, renamed_waiting}
use Rattle.occ_replay_rules.specs.occ_print.Lines.{TextLine, all_lines, branch_lines, case_lines, line, most_symbols, part_lines, program_lines}
use Rattle.occ_replay_rules.specs.occ_print.Symbols.{declaration_symbols, guard_symbols, header_symbols, whole_symbols, word_symbol}
use Rattle.occ_renamed.proofs.Symbols.{assign_under, declaration_under, exp_under, guard_under, header_under, waiting_under}
use Rattle.occ_renamed.specs.Renamed.{symbol_renamed, symbols_renamed}
use Rattle.occ_renamed.specs.Lines.{line_renamed}
use Rattle.occ_replay_rules.specs.occ_syntax.Tree.{Branches, Cases, Tree, Trees, alt, and_branch, and_case, and_tree, assign, connect, declare, no_branch, no_case, no_tree, output, par, receive, select, send, seq, skip, stop}
use Rattle.occ_replay_rules.specs.occ_syntax.declared.scope.Kind.{Kind}
use Rattle.occ_replay_rules.specs.occ_syntax.declared.scope.Kind.TheVariants as kind
use Rattle.std.proofs.Common.{List, None, [], ap, false, length, map, max, refl, sym, ℕ, ◌++◌, ◌+◌, ◌∙◌, ◌∷◌, ◌≡◌}
use Rattle.std.proofs.lemmas.List.{length-map, map-append}

-- two rows of lines that are renamed one by one
both_under : (f : ℕ → ℕ) (us vs us' vs' : List TextLine) → us' ≡ map (line_renamed f) us → vs' ≡ map (line_renamed f) vs
    → us' ++ vs' ≡ map (line_renamed f) (us ++ vs)
both_under f us vs us' vs' h k =
    ap (λ z. z ++ vs') h ∙ (ap (λ z. map (line_renamed f) us ++ z) k ∙ sym (map-append (line_renamed f) us vs))

-- a line of these symbols, and others behind it
first_under : (f : ℕ → ℕ) (level : ℕ) (s s' : List Symbol) (ls ls' : List TextLine) → s' ≡ symbols_renamed f s → ls' ≡ map (line_renamed f) ls
    → line level s' ∷ ls' ≡ map (line_renamed f) (line level s ∷ ls)
first_under f level s s' ls ls' h k = ap (λ z. line level z ∷ ls') h ∙ ap (λ z. line level (symbols_renamed f s) ∷ z) k

mutual
  pub part_under : (f : ℕ → ℕ) (level : ℕ) (p : Tree) → part_lines level (renamed p f) ≡ map (line_renamed f) (part_lines level p)
  part_under f level skip = refl
  part_under f level stop = refl
  part_under f level (assign xs es) = ap (λ z. line level z ∷ []) (assign_under f xs es)
  part_under f level (receive c x) = refl
  part_under f level (send c e) = ap (λ z. line level z ∷ []) (waiting_under f (output c e))
  part_under f level (seq ps) = ap (λ z. line level (word_symbol word.Seq) ∷ z) (all_under f (level + 1) ps)
  part_under f level (par ps) = ap (λ z. line level (word_symbol word.Par) ∷ z) (all_under f (level + 1) ps)
  part_under f level (select cs) = ap (λ z. line level (word_symbol word.If) ∷ z) (cases_under f (level + 1) cs)
  part_under f level (alt bs) = ap (λ z. line level (word_symbol word.Alt) ∷ z) (branches_under f (level + 1) bs)
  part_under f level (declare x w p) =
      first_under f level (declaration_symbols x (kind.Var w)) (declaration_symbols (f x) (kind.Var w)) (part_lines level p) (part_lines level (renamed p f))
      (declaration_under f x (kind.Var w)) (part_under f level p)
  part_under f level (connect c w p) =
      first_under f level (declaration_symbols c (kind.Chan w None)) (declaration_symbols (f c) (kind.Chan w None)) (part_lines level p)
      (part_lines level (renamed p f)) (declaration_under f c (kind.Chan w None)) (part_under f level p)

  all_under : (f : ℕ → ℕ) (level : ℕ) (ps : Trees) → all_lines level (all_renamed ps f) ≡ map (line_renamed f) (all_lines level ps)
  all_under f level no_tree = refl
  all_under f level (and_tree p ps) =
      both_under f (part_lines level p) (all_lines level ps) (part_lines level (renamed p f)) (all_lines level (all_renamed ps f))
      (part_under f level p) (all_under f level ps)

  cases_under : (f : ℕ → ℕ) (level : ℕ) (cs : Cases) → case_lines level (cases_renamed cs f) ≡ map (line_renamed f) (case_lines level cs)
  cases_under f level no_case = refl
  cases_under f level (and_case e p cs) =
      first_under f level (whole_symbols e) (whole_symbols (renamed_exp f e)) (part_lines (level + 1) p ++ case_lines level cs)
      (part_lines (level + 1) (renamed p f) ++ case_lines level (cases_renamed cs f)) (exp_under f false e)
      (both_under f (part_lines (level + 1) p) (case_lines level cs) (part_lines (level + 1) (renamed p f)) (case_lines level (cases_renamed cs f))
      (part_under f (level + 1) p) (cases_under f level cs))

  branches_under : (f : ℕ → ℕ) (level : ℕ) (bs : Branches) → branch_lines level (branches_renamed bs f) ≡ map (line_renamed f) (branch_lines level bs)
  branches_under f level no_branch = refl
  branches_under f level (and_branch e w p bs) =
      first_under f level (guard_symbols e w) (guard_symbols (renamed_exp f e) (renamed_waiting f w)) (part_lines (level + 1) p ++ branch_lines level bs)
      (part_lines (level + 1) (renamed p f) ++ branch_lines level (branches_renamed bs f)) (guard_under f e w)
      (both_under f (part_lines (level + 1) p) (branch_lines level bs) (part_lines (level + 1) (renamed p f)) (branch_lines level (branches_renamed bs f))
      (part_under f (level + 1) p) (branches_under f level bs))

pub program_under : (f : ℕ → ℕ) (name : ℕ) (ps : List (Name × Kind)) (body : Tree)
    → program_lines (f name) (scope_renamed f ps) (renamed body f) ≡ map (line_renamed f) (program_lines name ps body)
program_under f name ps body =
    let last = line 0 (symbol.Sign sign.Colon ∷ []) ∷ [] in
    first_under f 0 (header_symbols name ps) (header_symbols (f name) (scope_renamed f ps)) (part_lines 1 body ++ last) (part_lines 1 (renamed body f) ++ last)
    (header_under f name ps) (both_under f (part_lines 1 body) last (part_lines 1 (renamed body f)) last (part_under f 1 body) refl)

-- a line has as many symbols as before
pub most_under : (f : ℕ → ℕ) (ls : List TextLine) → most_symbols (map (line_renamed f) ls) ≡ most_symbols ls
most_under f [] = refl
most_under f (l ∷ ls) =
    ap (λ n. max n (most_symbols (map (line_renamed f) ls))) (length-map l.symbols (symbol_renamed f)) ∙ ap (max (length l.symbols)) (most_under f ls)
