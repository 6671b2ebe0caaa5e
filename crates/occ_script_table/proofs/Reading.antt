-- A text reads as the same program where the table has all that reading brings in.
use Rattle.std.proofs.Common.{ℕ, List, [], length, Option, None, refl, sym, ap, subst, ◌∙◌}
use Rattle.std.proofs.lemmas.List.{append-nil}
use Rattle.occ_script_back.specs.occ_base.declared.names.Name.{Name}
use Rattle.occ_script_back.specs.occ_lex.Rows.{reading_of}
use Rattle.occ_script_back.specs.occ_lex.declared.symbol.Row.{Row}
use Rattle.occ_script_back.specs.occ_lex.Symbols.{Extends}
use Rattle.occ_script_back.proofs.from_lex.Interned.{extends_trans}
use Rattle.occ_script_back.proofs.from_parse.Knowing.{lines_known, params_known}
use Rattle.occ_script_back.specs.occ_parse.declared.bound.Bound.{Bound}
use Rattle.occ_script_back.specs.occ_parse.declared.fault.ParseFault.{ParseFault}
use Rattle.occ_script_back.specs.occ_parse.Drafts.{header_below, header_params}
use Rattle.occ_script_back.specs.occ_parse.Limits.{stopped}
use Rattle.occ_script_back.specs.occ_parse.Reading.{AreForms, AreJudged, IsLaidOut, IsRead, IsRefused, at_line, badly_laid, in_draft, names_in, too_long}
use Rattle.occ_script_back.specs.occ_parse_rules.Forest.{Forest, Laid}
use Rattle.occ_script_back.specs.occ_parse_rules.Programs.{param_scope}
use Rattle.occ_script_back.specs.occ_parse_unroll.Elements.{elements, params_places, program_places, with_elements}
use Rattle.occ_script_back.specs.occ_parse_unroll.Numbers.{number_in}
use Rattle.occ_script_back.proofs.from_parse_unroll.Elements.{places_extend}
use Rattle.occ_script_back.proofs.from_script.Again.{AreSameLines, lines_again}
use Rattle.occ_script_table.proofs.Below.{program_low}
use Rattle.occ_script_table.proofs.Numbers.{AreSame, IsSame, back_of, front_of, params_same, process_of_lines}
use Rattle.occ_script_table.proofs.Settled.{places_same, places_there}
use Rattle.occ_script_back.specs.occ_syntax.declared.scope.Kind.{Kind}
use Rattle.occ_script_back.specs.occ_syntax.Tree.{Tree}

module _ (b : Bound) (text : List ℕ) (old T : List (List ℕ)) (e : Extends (names_in text old) T) where
  pub again : AreSameLines text old T (reading_of text).0
  again = lines_again text old T (reading_of text).0 e

  judged_again : (laid : List Laid) (stop : Option ParseFault) → AreJudged b text old laid stop → AreJudged b text T laid stop
  judged_again laid stop h = record {
    short = h.short;
    forms = subst (λ (rs : List Row). AreForms (stopped b rs (reading_of text).1).0 laid) (sym again.rows) h.forms;
    stop_is = ap (λ (rs : List Row). (stopped b rs (reading_of text).1).1) again.rows ∙ h.stop_is;
  }

  pub laid_again : (f : Forest) → IsLaidOut b text old f → IsLaidOut b text T f
  laid_again f h = record { judged = judged_again _ None h.judged; good = h.good }

  -- a fault stays the first fault
  pub refused_again : (fault : ParseFault) → IsRefused b text old fault → IsRefused b text T fault
  refused_again fault (too_long h) = too_long h
  refused_again fault (badly_laid laid stop n j h) = badly_laid laid stop n (judged_again laid stop j) h
  refused_again fault (at_line laid f j h) = at_line laid f (judged_again laid _ j) h
  refused_again fault (in_draft draft f l h) = in_draft draft f (laid_again draft l) h

-- and a program that program
pub read_again : (b : Bound) (text : List ℕ) (old new T : List (List ℕ)) (name : Name) (params : List (Name × Kind)) (body : Tree) (numbers : List ℕ)
    → IsRead b text old new name params body numbers → Extends new T → IsRead b text T T name params body numbers
read_again b text old new T name params body numbers r e =
    let f = r.draft in
    let N = names_in text old in
    let ps = header_params f in
    let below = header_below f in
    let all = program_places ps below in
    let low = program_low (length N) ps below (params_known b text old N f r.laid_out refl ps refl) (lines_known b text old N f r.laid_out refl below refl) in
    let grown : Extends N new = subst (Extends N) (sym r.table) (places_extend N all) in
    let names : Extends N T = extends_trans N new T grown e in
    let here : Extends (with_elements N ps below) new = ([], r.table ∙ sym (append-nil (with_elements N ps below))) in
    let there : Extends (with_elements N ps below) T = extends_trans (with_elements N ps below) new T here e in
    let same : AreSame (number_in new) (number_in T) all = places_same N new T all low here there in
    let inner = (elements below).first (param_scope ps) (λ i. 0) in
    record {
      draft = f;
      laid_out = laid_again b text old T names f r.laid_out;
      in_order = r.in_order;
      table = sym (ap (λ t. with_elements t ps below) (again b text old T names).table ∙ places_there N T all low there);
      name_is = r.name_is;
      params_are = r.params_are ∙ params_same (number_in new) (number_in T) ps (front_of (IsSame (number_in new) (number_in T)) (params_places ps) inner same);
      body_is = r.body_is ∙ process_of_lines (number_in new) (number_in T) (param_scope ps) below (back_of (IsSame (number_in new) (number_in T)) (params_places ps) inner same);
      numbers_are = r.numbers_are;
    }
