-- A text that reads as a program with one table reads as one with another one.
use Rattle.std.proofs.Common.{◌≡◌, ℕ, List, map, Option, Some, None, refl, sym, ap, subst, ◌∙◌}
use Rattle.std.specs.List.{AllByRecursion}
use Rattle.occ_tool_laws.specs.Reads.{Reads}
use Rattle.occ_tool_laws.proofs.OtherNames.{ComesBack, forms_so, rows_back, stop_kept, stopped_keeps, stopped_same}
use Rattle.occ_witness.specs.occ_base.Names.{IsDistinct}
use Rattle.occ_witness.specs.occ_base.declared.names.Name.{Name}
use Rattle.occ_witness.specs.occ_lex.Rows.{reading_of}
use Rattle.occ_witness.specs.occ_lex.declared.symbol.Row.{Row}
use Rattle.occ_witness.proofs.from_lex.Interned.{extends_same, rows_known}
use Rattle.occ_witness.specs.occ_parse.Drafts.{header_below, header_name, header_params}
use Rattle.occ_witness.specs.occ_parse.Limits.{stopped}
use Rattle.occ_witness.specs.occ_parse.Reading.{AreForms, AreJudged, IsLaidOut, IsRead, IsRefused, badly_laid, in_draft, names_in, rows_in}
use Rattle.occ_witness.specs.occ_parse.declared.bound.Bound.{Bound}
use Rattle.occ_witness.specs.occ_parse.declared.fault.ParseFault.{ParseFault}
use Rattle.occ_witness.specs.occ_parse.declared.fault.ParseFault.TheVariants as fault
use Rattle.occ_witness.specs.occ_parse_rules.Forest.{Forest, Laid, lines_at}
use Rattle.occ_witness.specs.occ_parse_rules.Programs.{param_scope}
use Rattle.occ_witness.specs.occ_parse_rules.Unrolled.{lined, params_named, slot_process}
use Rattle.occ_witness.specs.occ_parse_unroll.Elements.{with_elements}
use Rattle.occ_witness.specs.occ_parse_unroll.Numbers.{number_in}
use Rattle.occ_witness.specs.occ_read_renamed.Readings.{StandIn}
use Rattle.occ_witness.proofs.from_read_renamed.Laid.{laid_renamed, lines_renamed}
use Rattle.occ_witness.proofs.from_read_renamed.Numbers.{Table, comes_back, number_in_other, one_number, renumbering}
use Rattle.occ_witness.proofs.from_read_renamed.Rows.{lines_distinct, lines_stand, rows_renamed, rows_so}
use Rattle.occ_witness.specs.occ_renamed.Renamed.{forest_renamed}
use Rattle.occ_witness.specs.occ_syntax.Tree.{Tree}
use Rattle.occ_witness.specs.occ_syntax.declared.scope.Kind.{Kind}

-- what is never Some is None
never : {A : Type 0} (o : Option A) → ((x : A) → o ≡ Some x → ⊥) → o ≡ None
never None h = refl
never (Some x) h = absurd (h x refl)

module _ (b : Bound) (text : List ℕ) (old between : Table) (d : IsDistinct old) (e : IsDistinct between) (s : StandIn old between)
    (new : Table) (n : Name) (ps : List (Name × Kind)) (p : Tree) (ks : List ℕ) (x : IsRead b text old new n ps p ks) where
  abbrev names : Table
  names = names_in text old

  abbrev others : Table
  others = names_in text between

  distinct : IsDistinct names
  distinct = lines_distinct text old (reading_of text).0 d

  distinct_others : IsDistinct others
  distinct_others = lines_distinct text between (reading_of text).0 e

  stand : StandIn names others
  stand = lines_stand text old between (reading_of text).0 s

  abbrev f : ℕ → ℕ
  f = number_in_other names others

  abbrev back : ℕ → ℕ
  back = number_in_other others names

  abbrev rows : List Row
  rows = (stopped b (rows_in text old) (reading_of text).1).0

  -- the lines under the numbers that names have in the other table
  abbrev draft : Forest
  draft = forest_renamed f x.draft

  rows_are : rows_in text between ≡ rows_renamed f (rows_in text old)
  rows_are =
      rows_so f names others distinct_others (renumbering names others distinct stand).texts text old between (reading_of text).0 (extends_same names) (extends_same others)

  forms : AreForms (stopped b (rows_in text between) (reading_of text).1).0 (lines_at 0 draft)
  forms =
      let come : AllByRecursion (ComesBack f back) (rows_in text old) =
      rows_back f back names (comes_back names others distinct stand) (rows_in text old) (rows_known text old (reading_of text).0) in
      let here : AreForms (rows_renamed f rows) (map (laid_renamed f) (lines_at 0 x.draft)) =
      forms_so f back (one_number names others distinct) (one_number others names distinct_others) rows (lines_at 0 x.draft)
      (stopped_keeps (ComesBack f back) b (rows_in text old) (reading_of text).1 come) x.laid_out.judged.forms in
      let same : (stopped b (rows_in text between) (reading_of text).1).0 ≡ rows_renamed f rows =
      ap (λ rs. (stopped b rs (reading_of text).1).0) rows_are ∙ stopped_same f b (rows_in text old) (reading_of text).1 in
      let lines : AreForms (rows_renamed f rows) (lines_at 0 draft) =
      subst (λ (ls : List Laid). AreForms (rows_renamed f rows) ls) (sym (lines_renamed f 0 x.draft)) here in
      subst (λ (rs : List Row). AreForms rs (lines_at 0 draft)) (sym same) lines

  judged : AreJudged b text between (lines_at 0 draft) None
  judged = record {
    short = x.laid_out.judged.short;
    forms = forms;
    stop_is = ap (λ rs. (stopped b rs (reading_of text).1).1) rows_are ∙ (stop_kept f b (rows_in text old) (reading_of text).1 ∙ x.laid_out.judged.stop_is);
  }

  -- where it isn't refused with the other table
  module _ (kept : (g : ParseFault) → IsRefused b text between g → ⊥) where
    laid_out : IsLaidOut b text between draft
    laid_out = record { judged = judged; good = never _ (λ k h. kept (fault.Form k) (badly_laid (lines_at 0 draft) None k judged h)) }

    pub reads_too : Reads b text between
    reads_too =
        let table = with_elements others (header_params draft) (header_below draft) in
        record {
          new = table;
          name = header_name draft;
          params = params_named (number_in table) (header_params draft);
          body = slot_process (number_in table) (param_scope (header_params draft)) (header_below draft);
          numbers = (lined (header_below draft)).parts;
          read = record {
            draft = draft;
            laid_out = laid_out;
            in_order = never _ (λ g h. kept g (in_draft draft g laid_out h));
            table = refl;
            name_is = refl;
            params_are = refl;
            body_is = refl;
            numbers_are = refl;
          };
        }
