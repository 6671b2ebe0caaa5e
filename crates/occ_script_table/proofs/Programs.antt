-- The table that reading a program leaves is one of places.
use Rattle.std.proofs.Common.{◌≡◌, ℕ, Bool, true, false, List, [], Option, Some, None, refl, ap, sym, ◌∙◌, subst}
use Rattle.std.specs.List.{list_all}
use Rattle.std.proofs.lemmas.Bool.{and_parts}
use Rattle.occ_script_back.specs.occ_base.declared.names.Name.{Name}
use Rattle.occ_script_back.specs.occ_lex.Rows.{reading_of}
use Rattle.occ_script_back.proofs.from_lex.Placing.{reading_placed}
use Rattle.occ_script_back.proofs.from_lex.Interned.{extends_same}
use Rattle.occ_script_back.proofs.from_parse.Knowing.{EachLine, IsLineOf, each_map, line_passes, line_small, lines_are_of}
use Rattle.occ_script_back.proofs.from_parse.Placed.{good_are_placed}
use Rattle.occ_script_back.proofs.from_parse.Small.{shape_small}
use Rattle.occ_script_back.proofs.from_parse.Texts.{is_plain, plain_table}
use Rattle.occ_script_back.specs.occ_parse_forms.declared.form.Param.{Param}
use Rattle.occ_script_back.specs.occ_parse_forms.Shape.{close, header}
use Rattle.occ_script_back.specs.occ_parse_layout.declared.placed.Frame.TheVariants as frame
use Rattle.occ_script_back.specs.occ_parse_layout.Layout.{least_bad}
use Rattle.occ_script_back.specs.occ_parse_layout.Whole.{IsProgram}
use Rattle.occ_script_back.proofs.from_parse_layout.Framed.{whole_of}
use Rattle.occ_script_back.specs.occ_parse.declared.bound.Bound.{Bound}
use Rattle.occ_script_back.specs.occ_parse.declared.fault.ParseFault.{ParseFault}
use Rattle.occ_script_back.specs.occ_parse.declared.bound.Bound.TheVariants as bound
use Rattle.occ_script_back.specs.occ_parse.Drafts.{as_fault, draft_fault, header_below, header_params, name_fault_on, type_fault_on}
use Rattle.occ_script_back.specs.occ_parse.Limits.{frame_of}
use Rattle.occ_script_back.specs.occ_parse.Reading.{IsLaidOut, IsRead, names_in}
use Rattle.occ_script_back.specs.occ_parse_rules.Forest.{Forest, and_line, lines_at, no_line}
use Rattle.occ_script_back.specs.occ_parse_rules.Judging.{first_fault}
use Rattle.occ_script_back.specs.occ_parse_rules.Names.{name_fault}
use Rattle.occ_script_back.specs.occ_parse_rules.Places.{Place, declared_in, param_entries}
use Rattle.occ_script_back.specs.occ_parse_rules.Types.{type_fault}
use Rattle.occ_script_back.specs.occ_parse_rules.Passing.{param_passes, shape_passes}
use Rattle.occ_script_back.specs.occ_parse_rules.Sound.{are_placed}
use Rattle.occ_script_back.specs.occ_parse_unroll.Elements.{elements, params_places, program_places, with_elements, with_places}
use Rattle.occ_script_back.specs.occ_print_back.Placed.{IsTable}
use Rattle.occ_script_back.specs.Tables.{Grows}
use Rattle.occ_script_table.proofs.Bases.{elements_of}
use Rattle.occ_script_table.proofs.Named.{lines_grow, one_behind, places_grow}
use Rattle.occ_script_table.proofs.Scoped.{AllFit, behind_params, both_fit, nothing_in_scope, params_fit, params_from}
use Rattle.occ_script_table.proofs.Walked.{InOrder, first_none, in_order, lines_fit, second_none}
use Rattle.occ_script_back.specs.occ_syntax.declared.scope.Kind.{Kind}
use Rattle.occ_script_back.specs.occ_syntax.Tree.{Tree}

-- ---- a program without a fault

found_none : {F : Type 0} (on : ℕ → F → ParseFault) (o : Option (ℕ × F)) → as_fault on o ≡ None → o ≡ None
found_none on None h = refl
found_none on (Some found) h = absurd cc

draft_in_order : (b : Bound) (f : Forest) → draft_fault b f ≡ None → InOrder [] [] f
draft_in_order b f h =
    let names = first_none (as_fault name_fault_on (first_fault name_fault [] [] f)) _ h in
    let types = first_none (as_fault type_fault_on (first_fault type_fault [] [] f)) _ (second_none (as_fault name_fault_on (first_fault name_fault [] [] f)) _ h) in
    in_order [] [] f (found_none name_fault_on _ names) (found_none type_fault_on _ types)

-- good lines are those of a program
program_of : (b : Bound) (f : Forest) → least_bad (frame_of b) false (lines_at 0 f) ≡ None → IsProgram f
program_of bound.Program f h = whole_of frame.Program (lines_at 0 f) f refl refl h
program_of bound.First f h = whole_of frame.Program (lines_at 0 f) f refl refl h
program_of bound.Script f h = whole_of frame.Plain (lines_at 0 f) f refl refl h

-- the program's places, where its lines stand below a header and in front of a closing line
whole_fits : (test : ℕ → Bool) (n : ℕ) (name : Name) (params : List Param) (below rest : Forest)
    → EachLine (λ s. shape_passes test s ≡ true) (and_line n (header name params) below rest)
    → EachLine (λ s. shape_small s ≡ true) (and_line n (header name params) below rest)
    → are_placed (and_line n (header name params) below rest) ≡ true → InOrder [] [] (and_line n (header name params) below rest)
    → AllFit test (program_places params below)
whole_fits test n name params below rest h k p i =
    let passes = and_parts (test name.0) (list_all (param_passes test) params) h.0 in
    let fit = params_from test params passes.1 k.0 in
    let scope = declared_in [] (param_entries params) in
    let lines = lines_fit test below h.1.0 k.1.0 (and_parts (are_placed below) (are_placed rest) p).0 in
    both_fit test (params_places params) ((elements below).first scope (λ j. 0)) (params_fit test params fit)
    (lines.first scope scope (λ j. 0) i.1.0 (behind_params test params [] (λ j. 0) fit (nothing_in_scope test)))

program_fits : (test : ℕ → Bool) (f : Forest) → IsProgram f → EachLine (λ s. shape_passes test s ≡ true) f → EachLine (λ s. shape_small s ≡ true) f
    → are_placed f ≡ true → InOrder [] [] f → AllFit test (program_places (header_params f) (header_below f))
program_fits test f p h k placed i =
    let g = and_line p.number (header p.name p.params) p.below (and_line p.last close no_line no_line) in
    subst (λ d. AllFit test (program_places (header_params d) (header_below d))) (sym p.whole)
    (whole_fits test p.number p.name p.params p.below (and_line p.last close no_line no_line)
    (subst (EachLine (λ s. shape_passes test s ≡ true)) p.whole h) (subst (EachLine (λ s. shape_small s ≡ true)) p.whole k)
    (ap are_placed (sym p.whole) ∙ placed) (subst (InOrder [] []) p.whole i))

-- ---- the table behind a program

module _ (b : Bound) (text : List ℕ) (old : List (List ℕ)) (f : Forest) (laid : IsLaidOut b text old f) (good : draft_fault b f ≡ None) where
  abbrev names : List (List ℕ)
  names = names_in text old

  of_names : EachLine (IsLineOf names) f
  of_names = lines_are_of b text old names f laid (extends_same names)

  all_fit : AllFit (is_plain names) (program_places (header_params f) (header_below f))
  all_fit =
      program_fits (is_plain names) f (program_of b f laid.good)
      (each_map (IsLineOf names) (λ s. shape_passes (is_plain names) s ≡ true) (line_passes names (is_plain names) (plain_table names)) f of_names)
      (each_map (IsLineOf names) (λ s. shape_small s ≡ true) (line_small names) f of_names)
      (good_are_placed b f laid.good) (draft_in_order b f good)

  draft_grows : (P : ℕ → Place) → IsTable old P → Grows old P (with_elements names (header_params f) (header_below f))
  draft_grows P table =
      let places = program_places (header_params f) (header_below f) in
      one_behind old names (with_places names places) P table (lines_grow old P table text (reading_of text).0 (reading_placed text).lines_of_text)
      (λ Q one e. places_grow names Q one places (elements_of names Q one places all_fit))

-- reading a program with a table of places leaves such a table
pub program_left : (b : Bound) (text : List ℕ) (old new : List (List ℕ)) (P : ℕ → Place) (name : Name) (params : List (Name × Kind)) (body : Tree) (numbers : List ℕ) → IsTable old P
    → IsRead b text old new name params body numbers → Grows old P new
program_left b text old new P name params body numbers table h =
    subst (Grows old P) (sym h.table) (draft_grows b text old h.draft h.laid_out h.in_order P table)
