-- A normal text that was written, and what is answered of a file that holds it.
use Rattle.std.proofs.Common.{◌≡◌, ◌↔◌, ◌<◌, ◌≤◌, ◌^◌, ℕ, List, [], length, Some, Result, Ok, Err, refl, sym, ap, subst, ◌∙◌, arith}
use Rattle.std.specs.Prelude.{codes}
use Rattle.occ_witness.specs.occ_base.Names.{IsDistinct}
use Rattle.occ_witness.specs.occ_base.declared.names.Name.{Name}
use Rattle.occ_witness.specs.occ_read_renamed.Read.{IsReadWith}
use Rattle.occ_witness.specs.occ_nform_table.declared.table.TableFault.{TableFault}
use Rattle.occ_witness.specs.occ_nform_table.Normal.{Parts, text_read}
use Rattle.occ_witness.specs.occ_parse.Reading.{IsRead}
use Rattle.occ_witness.specs.occ_parse.declared.bound.Bound.TheVariants as bound
use Rattle.occ_witness.specs.occ_syntax.Tree.{Tree}
use Rattle.occ_witness.specs.occ_syntax.declared.scope.Kind.{Kind}
use Rattle.occ_tool_laws.proofs.Files.{TextsLaw, asked, normal_of}
use Rattle.occ_tool_laws.proofs.Rows.{counted}
use Rattle.occ_tool_laws.proofs.Texts.{File, IsTextOf, Table}
use Rattle.occ_tool_laws.specs.Rows.{rows_of}
use Rattle.occ_witness.proofs.from_tool_run.Judging.{no_name_twice}
use Rattle.occ_witness.proofs.from_tool_run.AsWritten.{TableFaultsLaw, TablesLaw, few_bytes}
use Rattle.occ_witness.specs.occ_tool_run.Answers.{Answers, Checks, IsChecked, checking, faulty_table, normal_table, too_long_table}
use Rattle.occ_witness.specs.occ_tool_run.declared.answer.Answer.{Answer}
use Rattle.occ_witness.specs.occ_tool_run.declared.answer.Answer.TheVariants.{Counted}
use Rattle.occ_witness.specs.occ_call.Files.{Files, most_table_bytes}
use Rattle.occ_witness.specs.occ_tool_run.Texts.{figure_text, status_of, text_of}
use Rattle.occ_witness.specs.occ_tool_words.Words.{job_of, normal, normalise}

-- a text that reads as a normal table with one table of names does with any other
abbrev pub AnyNames : Type 0
AnyNames = (names other : Table) (text : List ℕ) (t : Parts) → IsDistinct names → IsDistinct other → length text < 2 ^ 64 → text_read names text ≡ Ok t → IsReadWith other text (length t.rows)

-- the answer that the text is normal, with as many rows as it has ROW lines
abbrev Confirms : ℕ → List ℕ → List ℕ → Type 0
Confirms status answer text = (status ≡ 0) × (answer ≡ figure_text (codes "NORMAL") (rows_of text))

not_both : (t : Parts) (f : TableFault) (r : Result Parts TableFault) → r ≡ Ok t → r ≡ Err f → ⊥
not_both t f r e k = cc

module _ (any : AnyNames) (tables : TablesLaw) (faults : TableFaultsLaw) (file : File) (text : List ℕ) (x : IsTextOf file text) (d : IsDistinct x.names) where
  abbrev read : IsReadWith [] text (length x.normal.table.rows)
  read = any x.names [] text x.normal.table d no_name_twice x.small x.normal.reads

  rows_are : (n : ℕ) → n ≡ rows_of text → figure_text (codes "NORMAL") n ≡ figure_text (codes "NORMAL") (rows_of text)
  rows_are n e = ap (figure_text (codes "NORMAL")) e

  checked : length text ≤ most_table_bytes → (a : Answer) → IsChecked text a → Confirms (status_of a) (text_of a) text
  checked few a (too_long_table l e) = absurd (omega (arith, few, l))
  checked few a (faulty_table f l r e) = absurd (not_both read.table f (text_read [] text) read.reads ((faults text f (few_bytes text l)).1 r))
  checked few a (normal_table t l r n e) = (ap status_of e, ap text_of e ∙ rows_are (length t.rows) (counted [] text t ((tables text t (few_bytes text l)).1 (r, n))))

  answered : (files : Files) (words : List (List ℕ)) (name : List ℕ) (status : ℕ) (answer : List ℕ) → job_of words ≡ Some (normal name) → files name ≡ Some text → length text ≤ most_table_bytes
      → Answers files words status answer ↔ Confirms status answer text
  answered files words name status answer j there few = (
    λ h.
        let c : Checks (files name) h.answer = asked files words (normal name) status answer j h in
        let same : c.bytes ≡ text = let k : Some c.bytes ≡ Some text = sym c.there ∙ there in cc in
        let is = checked few h.answer (subst (λ bytes. IsChecked bytes h.answer) same c.text) in
        (h.status_is ∙ is.0, h.text_is ∙ is.1),
    λ h. let w = (tables text read.table (few_bytes text few)).0 read.reads in record {
      answer = Counted (length read.table.rows);
      is = checking name j (record { bytes = text; there = there; text = normal_table read.table few w.0 w.1 refl });
      status_is = h.0;
      text_is = h.1 ∙ sym (rows_are (length read.table.rows) (counted [] text read.table read.reads));
    },
  )

-- the names of a program that was read are distinct
abbrev pub NamesApart : Type 0
NamesApart = (text : List ℕ) (old new : Table) (n : Name) (ps : List (Name × Kind)) (p : Tree) (ks : List ℕ) → IsDistinct old → IsRead bound.Program text old new n ps p ks → IsDistinct new

pub written_is_normal : NamesApart → AnyNames → TextsLaw → TablesLaw → TableFaultsLaw → (files after : Files) (words again : List (List ℕ)) (program name text : List ℕ) (status : ℕ) (answer : List ℕ)
    → job_of words ≡ Some (normalise program) → Answers files words 0 text → job_of again ≡ Some (normal name) → after name ≡ Some text → length text ≤ most_table_bytes
    → Answers after again status answer ↔ Confirms status answer text
written_is_normal apart any texts tables faults files after words again program name text status answer j a k there few =
    let own : IsTextOf (files program) (text_of a.answer) = normal_of texts (files program) a.answer (asked files words (normalise program) 0 text j a) (sym a.status_is) in
    let x : IsTextOf (files program) text = subst (IsTextOf (files program)) (sym a.text_is) own in
    let p = x.program in
    let distinct : IsDistinct x.names =
    apart x.accepted.bytes [] x.names p.name p.params p.body x.accepted.text.numbers no_name_twice x.accepted.text.read in
    answered any tables faults (files program) text x distinct after again name status answer k there few
