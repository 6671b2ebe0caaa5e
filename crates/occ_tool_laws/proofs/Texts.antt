-- The normal texts of two programs that were read one after the other, by one table of names.
use Rattle.std.proofs.Common.{◌≡◌, ◌↔◌, ◌<◌, ◌^◌, ℕ, true, false, List, [], length, Option, Some, Result, Ok, Err, sym, ap, subst, ◌∙◌}
use Rattle.std.specs.Prelude.{codes}
use Rattle.std.proofs.lemmas.Bool.{false≢true}
use Rattle.occ_witness.specs.occ_base.declared.names.Name.{Name}
use Rattle.occ_witness.specs.occ_base.Names.{IsDistinct}
use Rattle.occ_witness.specs.occ_behaviour.Texts.{text_of_verdict}
use Rattle.occ_witness.specs.occ_lex.Rows.{reading_of}
use Rattle.occ_witness.specs.occ_lex.Symbols.{Extends}
use Rattle.occ_witness.proofs.from_lex.Interned.{extends_all, extends_trans}
use Rattle.occ_witness.specs.occ_meaning.Rename.{renamed}
use Rattle.occ_witness.specs.occ_nform.Written.{IsNormalText}
use Rattle.occ_witness.specs.occ_nform_table.declared.table.TableFault.{TableFault}
use Rattle.occ_witness.specs.occ_nform_table.Normal.{Parts, text_read}
use Rattle.occ_witness.specs.occ_parse.Drafts.{header_below, header_params}
use Rattle.occ_witness.specs.occ_parse.Reading.{IsRead, names_in}
use Rattle.occ_witness.specs.occ_parse.Reading.{IsRefused as IsRefusedText}
use Rattle.occ_witness.specs.occ_parse.declared.fault.ParseFault.{ParseFault}
use Rattle.occ_witness.specs.occ_parse.declared.bound.Bound.{Bound}
use Rattle.occ_witness.specs.occ_parse.declared.bound.Bound.TheVariants as bound
use Rattle.occ_witness.specs.occ_renamed.Renamed.{kinds_renamed}
use Rattle.occ_witness.specs.occ_parse_unroll.Elements.{program_places}
use Rattle.occ_witness.proofs.from_parse_unroll.Elements.{places_extend}
use Rattle.occ_witness.specs.occ_read_renamed.Readings.{AreRenamed, IsRenumbering, StandIn}
use Rattle.occ_witness.specs.occ_syntax.Same.{SAME}
use Rattle.occ_witness.specs.occ_syntax.Scopes.{environment}
use Rattle.occ_witness.specs.occ_syntax.Tree.{Tree}
use Rattle.occ_witness.specs.occ_syntax.Types.{scope_kept, types_kept}
use Rattle.occ_witness.specs.occ_syntax.Usage.{Keeps, KeepsUsage}
use Rattle.occ_witness.specs.occ_syntax.declared.scope.Kind.{Kind}
use Rattle.occ_witness.proofs.from_engine_written.Typed.{AreKept}
use Rattle.occ_witness.specs.occ_usage.declared.fault.UsageFault.{UsageFault}
use Rattle.occ_witness.specs.occ_tool_run.Accepts.{IsAccepted, IsAcceptedText, IsRefused, IsUnusable, Program, ReadsAs}
use Rattle.occ_witness.specs.occ_tool_run.Answers.{Compares, apart, compared}
use Rattle.occ_witness.specs.occ_tool_run.Texts.{text_of}
use Rattle.occ_witness.specs.occ_tool_run.declared.answer.Answer.{Answer}
use Rattle.occ_witness.proofs.from_tool_run.Accepting.{keeps_usage, read_kept}
use Rattle.occ_witness.proofs.from_tool_run.BothWays.{begins_with, verdict_same}
use Rattle.occ_witness.proofs.from_tool_run.Judging.{no_name_twice}
use Rattle.occ_tool_laws.proofs.Usage.{faultless, usage_kept}
use Rattle.occ_witness.proofs.from_tool_run.Once.{IsOnce}
use Rattle.occ_witness.proofs.from_tool_run.OneAnswer.{back}
use Rattle.occ_witness.proofs.from_tool_run.Taken.{AreOne, agree, as_taken}

abbrev pub Table : Type 0
Table = List (List ℕ)

abbrev pub File : Type 0
File = Option (List ℕ)

-- what is known of reading and of normal texts
pub record Laws : Type 0 where
  pub once : IsOnce
  pub distinct : (text : List ℕ) (old new : Table) (n : Name) (ps : List (Name × Kind)) (p : Tree) (ks : List ℕ) → IsDistinct old
      → IsRead bound.Program text old new n ps p ks → IsDistinct new
  pub again : (b : Bound) (text : List ℕ) (old new table : Table) (n : Name) (ps : List (Name × Kind)) (p : Tree) (ks : List ℕ)
      → IsRead b text old new n ps p ks → Extends new table → IsRead b text table table n ps p ks
  pub readings : (b : Bound) (text : List ℕ) (old between new other : Table) (n m : Name) (ps qs : List (Name × Kind)) (p q : Tree) (ks ls : List ℕ)
      → IsDistinct old → IsDistinct between → StandIn old between → IsRead b text old new n ps p ks → IsRead b text between other m qs q ls
      → AreRenamed new other n m ps qs p q ks ls
  pub texts : (f : ℕ → ℕ) (names other : Table) (ps : List (Name × Kind)) (p : Tree) (text : List ℕ) → IsDistinct other → IsRenumbering f names other
      → length text < 2 ^ 64 → IsNormalText names ps p text → IsNormalText other (kinds_renamed f ps) (renamed p f) text
  pub refused : (b : Bound) (text : List ℕ) (old between new : Table) (n : Name) (ps : List (Name × Kind)) (p : Tree) (ks : List ℕ) (fault : ParseFault)
      → IsDistinct old → IsDistinct between → StandIn old between → IsRead b text old new n ps p ks → IsRefusedText b text between fault → ⊥
  pub apart : (names : Table) (ps : List (Name × Kind)) (p q : Tree) (s t : List ℕ) → IsDistinct names → scope_kept ps ≡ true
      → types_kept p (environment ps) ≡ true → types_kept q (environment ps) ≡ true → length s < 2 ^ 64 → length t < 2 ^ 64
      → IsNormalText names ps p s → IsNormalText names ps q t → (s ≡ t) ↔ SAME (environment ps) p q

read_extends : (text : List ℕ) (old new : Table) (n : Name) (ps : List (Name × Kind)) (p : Tree) (ks : List ℕ) → IsRead bound.Program text old new n ps p ks → Extends old new
read_extends text old new n ps p ks r =
    extends_trans old (names_in text old) new (extends_all text old (reading_of text).0)
    (subst (Extends (names_in text old)) (sym r.table) (places_extend (names_in text old) (program_places (header_params r.draft) (header_below r.draft))))

pub none_stands : (names : Table) → StandIn [] names
none_stands names i text e = absurd (let no : ⊥ = cc in no)

-- the normal text of the program of a file
pub record IsTextOf (file : File) (text : List ℕ) : Type 0 where
  pub names : Table
  pub program : Program
  pub accepted : IsAccepted file [] names program
  pub normal : IsNormalText names program.params program.body text
  pub small : length text < 2 ^ 64

module _ (L : Laws) where
  -- the normal text by the table with which the text was read again
  moved : (bytes : List ℕ) (between names other : Table) (p q : Program) (ks ls : List ℕ) (text : List ℕ) → IsDistinct between → length text < 2 ^ 64
      → ReadsAs bytes [] names p ks → ReadsAs bytes between other q ls → IsNormalText names p.params p.body text → IsNormalText other q.params q.body text
  moved bytes between names other p q ks ls text d small x y h =
      let r = L.readings bound.Program bytes [] between names other p.name q.name p.params q.params p.body q.body ks ls no_name_twice d (none_stands between) x y in
      let e = L.distinct bytes between other q.name q.params q.body ls d y in
      let k = L.texts r.number names other p.params p.body text e r.numbering small h in
      subst (λ t. IsNormalText other q.params t text) (sym r.body) (subst (λ ps. IsNormalText other ps (renamed p.body r.number) text) (sym r.params) k)

  -- a file that has a normal text isn't refused with any table, and its program keeps the rule of usage
  module _ (file : File) (text : List ℕ) (x : IsTextOf file text) (between : Table) (d : IsDistinct between) where
    abbrev bytes : List ℕ
    bytes = x.accepted.bytes

    abbrev own : IsAcceptedText x.accepted.bytes [] x.names x.program
    own = x.accepted.text

    one_file : (other : List ℕ) → file ≡ Some other → other ≡ bytes
    one_file other e = let k : Some other ≡ Some bytes = sym e ∙ x.accepted.there in cc

    pub no_refusal : (fault : ParseFault) → IsRefused file between fault → ⊥
    no_refusal fault r =
        L.refused bound.Program bytes [] between x.names x.program.name x.program.params x.program.body own.numbers fault no_name_twice d (none_stands between) own.read
        (subst (λ u. IsRefusedText bound.Program u between fault) (one_file r.bytes r.there) r.text)

    pub no_misuse : (new : Table) (line : ℕ) (fault : UsageFault) → IsUnusable file between new line fault → ⊥
    no_misuse new line fault r =
        let q = r.text.program in
        let read = subst (λ u. ReadsAs u between new q r.text.numbers) (one_file r.bytes r.there) r.text.read in
        let a = L.readings bound.Program bytes [] between x.names new x.program.name q.name x.program.params q.params x.program.body q.body own.numbers r.text.numbers
        no_name_twice d (none_stands between) own.read read in
        let typed = read_kept bytes [] x.names x.program own.numbers no_name_twice own.read in
        let own_keeps : Keeps (environment x.program.params) x.program.body = record { types = typed.types; usage = keeps_usage bytes [] x.names x.program no_name_twice own } in
        let keeps = usage_kept a.number a.numbering.one_for_one (environment x.program.params) x.program.body own_keeps in
        faultless q fault r.text.later (subst KeepsUsage (sym a.body) keeps) r.text.found

  -- the texts of two files that are read one after the other, by the last table
  pub record AreBoth (names : Table) (p q : Program) (s t : List ℕ) : Type 0 where
    pub distinct : IsDistinct names
    pub first : IsNormalText names p.params p.body s
    pub second : IsNormalText names q.params q.body t

  pub both : (c d : File) (s t : List ℕ) → IsTextOf c s → IsTextOf d t → (between names : Table) (p q : Program) → IsAccepted c [] between p → IsAccepted d between names q
      → AreBoth names p q s t
  both c d s t x y between names p q a b =
      let same : AreOne x.names between x.program p = agree L.once c [] (as_taken x.names x.program) (as_taken between p) x.accepted a in
      let own : IsNormalText between p.params p.body s =
      back (λ ns ps u. IsNormalText ns ps u s) between x.names p.params x.program.params p.body x.program.body (sym same.names) (sym same.params) (sym same.body) x.normal in
      let d1 = L.distinct a.bytes [] between p.name p.params p.body a.text.numbers no_name_twice a.text.read in
      let d2 = L.distinct b.bytes between names q.name q.params q.body b.text.numbers d1 b.text.read in
      let longer = read_extends b.bytes between names q.name q.params q.body b.text.numbers b.text.read in
      let whole = L.again bound.Program a.bytes [] between names p.name p.params p.body a.text.numbers a.text.read longer in
      let bytes : y.accepted.bytes ≡ b.bytes = let e : Some y.accepted.bytes ≡ Some b.bytes = sym y.accepted.there ∙ b.there in cc in
      let theirs = subst (λ u. ReadsAs u [] y.names y.program y.accepted.text.numbers) bytes y.accepted.text.read in
      record {
        distinct = d2;
        first = moved a.bytes names between names p p a.text.numbers a.text.numbers s d2 x.small a.text.read whole own;
        second = moved b.bytes between y.names names y.program q y.accepted.text.numbers b.text.numbers t d1 y.small theirs b.text.read y.normal;
      }

  -- ---- what is answered of the two

  abbrev pub Told : List ℕ → List ℕ → Answer → Type 0
  Told s t a = (s ≡ t) ↔ (text_of a ≡ codes "SAME\n")

  read_as : Parts → Result Parts TableFault → Parts
  read_as t (Ok u) = u
  read_as t (Err f) = t

  -- one text has one interface
  pub one_interface : (names : Table) (ps qs : List (Name × Kind)) (p q : Tree) (s t : List ℕ) → IsNormalText names ps p s → IsNormalText names qs q t → s ≡ t → ps ≡ qs
  unfolding read_as
  one_interface names ps qs p q s t x y e =
      let tables : x.table ≡ y.table = ap (read_as x.table) (sym x.reads ∙ (ap (text_read names) e ∙ y.reads)) in
      sym x.params_are ∙ (ap (λ (z : Parts). z.params) tables ∙ y.params_are)

  differ : (s t : List ℕ) (a : Answer) → (s ≡ t → ⊥) → begins_with 83 (text_of a) ≡ false → Told s t a
  differ s t a h k = (λ e. absurd (h e), λ e. absurd (false≢true (sym k ∙ ap (begins_with 83) e)))

  pub told : (names : Table) (p q : Program) (s t : List ℕ) (a : Answer) → AreKept p.params p.body → AreKept q.params q.body → length s < 2 ^ 64 → length t < 2 ^ 64 → AreBoth names p q s t
      → Compares p names q a → Told s t a
  told names p q s t a hp hq small less b (apart h e) =
      differ s t a (λ k. h (one_interface names p.params q.params p.body q.body s t b.first b.second k)) (ap (λ z. begins_with 83 (text_of z)) e)
  told names p q s t a hp hq small less b (compared v same w e) =
      let types = subst (λ ps. types_kept q.body (environment ps) ≡ true) (sym same) hq.types in
      let second = subst (λ ps. IsNormalText names ps q.body t) (sym same) b.second in
      let law = L.apart names p.params p.body q.body s t b.distinct hp.scope hp.types types small less b.first second in (
        λ k. ap text_of e ∙ ap (text_of_verdict names) (w.same.1 (law.0 k)),
        λ k. law.1 (w.same.0 (verdict_same names v (sym (ap text_of e) ∙ k))),
      )
