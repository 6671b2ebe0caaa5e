-- Two files that are answered with SAME hold programs that mean the same, whichever of them is read first.
use Rattle.std.proofs.Common.{◌≡◌, ◌∙◌, ◌↔◌, ◌<◌, ℕ, Bool, true, false, List, [], Option, Some, None, cond, get_or, length, nat_lt, slice_get, refl, sym, ap, subst}
use Rattle.std.proofs.lemmas.Option.{slice_get-get_or}
use Rattle.std.specs.declared.cmp.Ordering.{Ordering}
use Rattle.std.specs.declared.cmp.Ordering.TheVariants.{Less, Equal, Greater}
use Rattle.occ_syntax.specs.occ_base.declared.names.Name.{Name}
use Rattle.occ_syntax.specs.occ_base.Names.{IsDistinct}
use Rattle.occ_tool_run.specs.occ_behaviour.declared.behaviour.Side.{Side}
use Rattle.occ_tool_run.specs.occ_behaviour.declared.behaviour.Side.TheVariants.{First, Second}
use Rattle.occ_tool_run.specs.occ_behaviour.declared.behaviour.Verdict.{Verdict}
use Rattle.occ_tool_run.specs.occ_behaviour.declared.behaviour.Verdict.TheVariants.{Same, Differ}
use Rattle.occ_tool_run.specs.occ_lex.Symbols.{Extends}
use Rattle.occ_tool_run.specs.occ_meaning.Rename.{renamed}
use Rattle.occ_tool_run.specs.occ_engine_known.Known.{IsKnownPart, NamesAreBelow}
use Rattle.occ_tool_run.proofs.from_engine_written.Known.{grown}
use Rattle.occ_tool_run.specs.occ_lex.Rows.{reading_of}
use Rattle.occ_tool_run.proofs.from_lex.Interned.{extends_all, extends_same, extends_trans}
use Rattle.occ_tool_run.specs.occ_parse.Known.{NamesAreKnown}
use Rattle.occ_tool_run.specs.occ_parse.declared.bound.Bound.{Bound}
use Rattle.occ_tool_run.specs.occ_parse.declared.bound.Bound.TheVariants as bound
use Rattle.occ_tool_run.specs.occ_parse.Reading.{IsRead, names_in}
use Rattle.occ_tool_run.specs.occ_renamed.Renamed.{kinds_renamed}
use Rattle.occ_tool_run.specs.occ_renamed.Standing.{IsOneForOne}
use Rattle.occ_prove.proofs.Agreeing.{part_agrees}
use Rattle.occ_prove.specs.Proofs.{IsSame}
use Rattle.occ_tool_run.specs.occ_read_renamed.Readings.{AreRenamed, IsRenumbering, StandIn}
use Rattle.occ_tool_run.proofs.Accepting.{read_kept}
use Rattle.occ_tool_run.proofs.EitherOrder.{kept_bytes, one_text}
use Rattle.occ_tool_run.proofs.Judging.{no_name_twice}
use Rattle.occ_tool_run.proofs.Once.{IsOnce, same_bytes}
use Rattle.occ_tool_run.specs.declared.answer.Answer.{Answer}
use Rattle.occ_tool_run.specs.declared.answer.Answer.TheVariants.{Compared}
use Rattle.occ_tool_run.specs.declared.judge.Question.TheVariants.{WhetherSame}
use Rattle.occ_tool_run.specs.Accepts.{IsAccepted, Program, ReadsAs}
use Rattle.occ_tool_run.specs.Answers.{Compares, Settles, Takes, TakesBoth, Turned, accepted, accepted_behind, apart, compared, refused, refused_behind, unusable, unusable_behind}
use Rattle.occ_tool_run.specs.occ_call.Files.{order_of, short_bytes}
use Rattle.occ_tool_run.specs.Stored.{seen}
use Rattle.occ_syntax.specs.declared.scope.Kind.{Kind}
use Rattle.occ_syntax.specs.declared.scope.Program.{Program as Stored}
use Rattle.occ_syntax.specs.Same.{SAME}
use Rattle.occ_syntax.specs.Scopes.{environment}
use Rattle.occ_syntax.specs.Tree.{Tree}
use Rattle.occ_syntax.specs.Types.{scope_kept, types_kept}
use Rattle.occ_syntax.specs.View.{tree}

abbrev Table : Type 0
Table = List (List ℕ)

abbrev File : Type 0
File = Option (List ℕ)

-- what is known of reading, and of programs under other names
pub record Laws : Type 0 where
  pub once : IsOnce
  pub distinct : (text : List ℕ) (old new : Table) (n : Name) (ps : List (Name × Kind)) (p : Tree) (ks : List ℕ) → IsDistinct old
      → IsRead bound.Program text old new n ps p ks → IsDistinct new
  pub again : (b : Bound) (text : List ℕ) (old new table : Table) (n : Name) (ps : List (Name × Kind)) (p : Tree) (ks : List ℕ)
      → IsRead b text old new n ps p ks → Extends new table → IsRead b text table table n ps p ks
  pub readings : (b : Bound) (text : List ℕ) (old between new other : Table) (n m : Name) (ps qs : List (Name × Kind)) (p q : Tree) (ks ls : List ℕ)
      → IsDistinct old → IsDistinct between → StandIn old between → IsRead b text old new n ps p ks → IsRead b text between other m qs q ls
      → AreRenamed new other n m ps qs p q ks ls
  pub declared : (b : Bound) (text : List ℕ) (old new : Table) (program : Stored) (lines : List ℕ)
      → IsRead b text old new program.name program.params (tree program.body) lines → NamesAreKnown new program
  pub known : (n : ℕ) (S : List (Name × Kind)) (p : Tree) → scope_kept S ≡ true → types_kept p (environment S) ≡ true → NamesAreBelow n S p → IsKnownPart n S p
  pub renaming : (f : ℕ → ℕ) (params : List (Name × Kind)) (p q : Tree) → IsOneForOne f
      → SAME (environment params) p q ↔ SAME (environment (kinds_renamed f params)) (renamed p f) (renamed q f)

-- a text that is read leaves a table with further names
read_extends : (text : List ℕ) (old new : Table) (p : Program) (ks : List ℕ) → ReadsAs text old new p ks → Extends old new
read_extends text old new p ks r =
    extends_trans old (names_in text old) new (extends_all text old (reading_of text).0) (grown bound.Program text old new p.name p.params p.body ks r)

none_stands : (names : Table) → StandIn [] names
none_stands names i text e = absurd (let no : ⊥ = cc in no)

some_is : {X : Type 0} (x y : X) → Some x ≡ Some y → x ≡ y
some_is x y e = cc

-- two maps that tell the numbers of one table's texts in another agree on them
agree : (names other : Table) (f g : ℕ → ℕ) → IsDistinct other → IsRenumbering f names other → IsRenumbering g names other → (x : ℕ) → x < length names → f x ≡ g x
agree names other f g d r s x h =
    let text = get_or names x [] in
    let there = slice_get-get_or names x [] h in
    d (f x) (g x) text (r.texts x text there) (s.texts x text there)

stand : (f : ℕ → ℕ) (names other : Table) → IsRenumbering f names other → StandIn names other
stand f names other r i text e = (f i, r.texts i text e)

-- the programs of which SAME is told
compares_same : (p q : Program) (names : Table) (a : Answer) → IsSame a → Compares p names q a → (p.params ≡ q.params) × SAME (environment p.params) p.body q.body
compares_same p q names a is (apart others e) = absurd (let no : ⊥ = (let k = sym e ∙ is.1 in cc) in no)
compares_same p q names a is (compared v params w e) =
    let same : v ≡ Same = (let k : Compared names v ≡ Compared is.0 Same = sym e ∙ is.1 in cc) in
    (params, w.same.0 same)

record Found (file : File) (old : Table) (rest : Table → Program → Answer → Type 0) (a : Answer) : Type 0 where
  names : Table
  program : Program
  is : IsAccepted file old names program
  more : rest names program a

found : (place : Side) (file : File) (old : Table) (rest : Table → Program → Answer → Type 0) (a : Answer) → IsSame a → Takes place file old rest a → Found file old rest a
found place file old rest a is (refused fault r e) = absurd (let no : ⊥ = (let k = sym e ∙ is.1 in cc) in no)
found place file old rest a is (unusable new line fault r e) = absurd (let no : ⊥ = (let k = sym e ∙ is.1 in cc) in no)
found place file old rest a is (accepted new program r x) = record { names = new; program = program; is = r; more = x }

module _ (L : Laws) where
  -- ---- two texts that are read in either order

  module _ (x y : List ℕ) (between names new last : Table) (p q : Stored) (r s : Program) (ks ls js is : List ℕ)
      (a : ReadsAs x [] between (seen p) ks) (b : ReadsAs y between names (seen q) ls) (c : ReadsAs y [] new s js) (d : ReadsAs x new last r is) where
    once_between : IsDistinct between
    once_between = L.distinct x [] between p.name p.params (tree p.body) ks no_name_twice a

    once_names : IsDistinct names
    once_names = L.distinct y between names q.name q.params (tree q.body) ls once_between b

    once_new : IsDistinct new
    once_new = L.distinct y [] new s.name s.params s.body js no_name_twice c

    once_last : IsDistinct last
    once_last = L.distinct x new last r.name r.params r.body is once_new d

    first : AreRenamed between last p.name r.name p.params r.params (tree p.body) r.body ks is
    first = L.readings bound.Program x [] new between last p.name r.name p.params r.params (tree p.body) r.body ks is no_name_twice once_new (none_stands new) a d

    -- the second program is one with the last table too
    second : AreRenamed names last q.name s.name q.params s.params (tree q.body) s.body ls js
    second =
        let whole = L.again bound.Program y [] new last s.name s.params s.body js c (read_extends x new last r is d) in
        L.readings bound.Program y between last names last q.name s.name q.params s.params (tree q.body) s.body ls js
        once_between once_last (stand first.number between last first.numbering) b whole

    -- and so is the first
    whole_first : AreRenamed names last p.name r.name p.params r.params (tree p.body) r.body ks is
    whole_first =
        let here = L.again bound.Program x [] between names p.name p.params (tree p.body) ks a (read_extends y between names (seen q) ls b) in
        let there = L.again bound.Program x new last last r.name r.params r.body is d (extends_same last) in
        L.readings bound.Program x names last names last p.name r.name p.params r.params (tree p.body) r.body ks is
        once_names once_last (stand second.number names last second.numbering) here there

    abbrev number : ℕ → ℕ
    number = whole_first.number

    -- by the numbers of the first
    second_body : s.body ≡ renamed (tree q.body) number
    second_body =
        let kept = read_kept y between names (seen q) ls once_between b in
        let below = L.declared bound.Program y between names q ls b in
        let known = L.known (length names) q.params (tree q.body) kept.scope kept.types (record { scope_names = below.params; declared = below.body }) in
        second.body ∙ part_agrees (length names) second.number number
        (agree names last second.number number once_last second.numbering whole_first.numbering) (tree q.body) known.known

    turned : SAME (environment r.params) r.body s.body → SAME (environment p.params) (tree p.body) (tree q.body)
    turned h =
        (L.renaming number p.params (tree p.body) (tree q.body) whole_first.numbering.one_for_one).1
        (subst (λ t. SAME (environment (kinds_renamed number p.params)) (renamed (tree p.body) number) t) second_body
        (subst (λ t. SAME (environment (kinds_renamed number p.params)) t s.body) whole_first.body
        (subst (λ ps. SAME (environment ps) r.body s.body) whole_first.params h)))

  -- ---- two files, of which the first is read first

  module _ (one two : File) (between names : Table) (p q : Stored) (a : IsAccepted one [] between (seen p)) (b : IsAccepted two between names (seen q)) where
    -- a text that is read as a program is read as one
    one_program : (file : File) (old m n : Table) (r s : Program) → IsAccepted file old m r → IsAccepted file old n s → (m ≡ n) × (r.params ≡ s.params) × (r.body ≡ s.body)
    one_program file old m n r s u v =
        let text = same_bytes file v.bytes u.bytes v.there u.there in
        let e = L.once.one_reading u.bytes old m n r s u.text.numbers v.text.numbers u.text.read (subst (λ t. ReadsAs t old n s v.text.numbers) text v.text.read) in
        (e.names, e.params, e.body)

    in_order : (answer : Answer) → IsSame answer → TakesBoth Less WhetherSame one two answer → SAME (environment p.params) (tree p.body) (tree q.body)
    in_order answer same t =
        let f = found First one [] _ answer same t in
        let g = found Second two f.names _ answer same f.more in
        let h = compares_same f.program g.program g.names answer same g.more in
        let i = one_program one [] f.names between f.program (seen p) f.is a in
        let j = one_program two between g.names names g.program (seen q) (subst (λ (o : Table). IsAccepted two o g.names g.program) i.0 g.is) b in
        subst (λ t. SAME (environment p.params) (tree p.body) t) j.2
        (subst (λ t. SAME (environment p.params) t g.program.body) i.2
        (subst (λ ps. SAME (environment ps) f.program.body g.program.body) i.1 h.1))

    -- the second one is read first
    in_turn : (answer : Answer) → IsSame answer → Turned WhetherSame one two answer → SAME (environment p.params) (tree p.body) (tree q.body)
    in_turn answer same (refused_behind fault r t) = let f = found First one [] _ answer same t in absurd (let no : ⊥ = (let k = sym f.more ∙ same.1 in cc) in no)
    in_turn answer same (unusable_behind new line fault r t) =
        let f = found First one [] _ answer same t in absurd (let no : ⊥ = (let k = sym f.more ∙ same.1 in cc) in no)
    in_turn answer same (accepted_behind new s c t) =
        let f = found First one new _ answer same t in
        let h = compares_same f.program s f.names answer same f.more in
        let x = same_bytes one f.is.bytes a.bytes f.is.there a.there in
        let y = same_bytes two c.bytes b.bytes c.there b.there in
        turned a.bytes b.bytes between names new f.names p q f.program s a.text.numbers b.text.numbers c.text.numbers f.is.text.numbers a.text.read b.text.read
        (subst (λ t. ReadsAs t [] new s c.text.numbers) y c.text.read) (subst (λ t. ReadsAs t new f.names f.program f.is.text.numbers) x f.is.text.read) h.1

    -- both have one text
    long_or_not : (long : Bool) (s t : List ℕ) → cond long None (Some s) ≡ Some t → s ≡ t
    long_or_not true s t e = absurd (let no : ⊥ = cc in no)
    long_or_not false s t e = some_is s t e

    one_file : short_bytes one ≡ short_bytes two → SAME (environment p.params) (tree p.body) (tree q.body)
    one_file e =
        let short : short_bytes two ≡ Some a.bytes = sym e ∙ kept_bytes L.once one between (seen p) a in
        let text = long_or_not (nat_lt 65536 (length b.bytes)) b.bytes a.bytes (sym (ap short_bytes b.there) ∙ short) in
        let again = L.again bound.Program a.bytes [] between between p.name p.params (tree p.body) a.text.numbers a.text.read (extends_same between) in
        let is = L.once.one_reading a.bytes between between names (seen p) (seen q) a.text.numbers b.text.numbers again
        (subst (λ t. ReadsAs t between names (seen q) b.text.numbers) text b.text.read) in
        subst (λ t. SAME (environment p.params) (tree p.body) t) is.body
        (record { same_failures = λ s t X i w. (λ h. h, λ h. h); same_ends = λ s t u i. (λ h. h, λ h. h) })

    in_whichever : (order : Ordering) (answer : Answer) → order_of one two ≡ order → IsSame answer → TakesBoth order WhetherSame one two answer
        → SAME (environment p.params) (tree p.body) (tree q.body)
    in_whichever Less answer e same t = in_order answer same t
    in_whichever Equal answer e same t = one_file (one_text (short_bytes one) (short_bytes two) e)
    in_whichever Greater answer e same t = in_turn answer same t

    -- files that are answered with SAME
    pub mean_the_same : (answer : Answer) → Settles WhetherSame one two answer → IsSame answer → SAME (environment p.params) (tree p.body) (tree q.body)
    mean_the_same answer s same = in_whichever (order_of one two) answer refl same s.text
