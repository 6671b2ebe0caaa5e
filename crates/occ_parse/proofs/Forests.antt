-- Lines as a forest, and a text by its lines.
use Rattle.std.proofs.Common.{◌≡◌, ℕ, Bool, false, List, Option, None, refl, sym, ap, subst, ◌∙◌, ◌⊎◌, inl, inr}
use Rattle.std.specs.Prelude.{is_some, Result, Ok, Err, IfErr}
use Rattle.occ_parse_rules.specs.occ_lex.declared.fault.LineFault.{LineFault}
use Rattle.occ_parse_rules.specs.occ_lex.declared.token.Line.{Line}
use Rattle.occ_parse_rules.specs.occ_lex.Rows.{reading_of}
use Rattle.occ_parse_rules.specs.occ_lex.declared.symbol.Row.{Row}
use Rattle.occ_parse_rules.specs.occ_lex.Symbols.{rows_of}
use Rattle.occ_syntax.specs.occ_base.declared.names.Name.{Name}
use Rattle.occ_syntax.specs.declared.scope.Kind.{Kind}
use Rattle.occ_syntax.specs.Tree.{Tree}
use Rattle.occ_parse_rules.specs.occ_parse_forms.declared.form.Param.{Param}
use Rattle.occ_parse_rules.specs.Unrolled.{params_named, slot_process, lined}
use Rattle.occ_parse_rules.specs.Programs.{param_scope}
use Rattle.occ_parse_unroll.specs.Elements.{with_elements}
use Rattle.occ_parse_unroll.specs.Numbers.{number_in}
use Rattle.occ_parse_rules.specs.Forest.{Forest, Laid, lines_at}
use Rattle.occ_parse_layout.specs.declared.placed.Frame.{Frame}
use Rattle.occ_parse_layout.specs.declared.placed.Frame.TheVariants as frame
use Rattle.occ_parse_layout.specs.Layout.{least_bad}
use Rattle.occ_parse_layout.specs.Nesting.{Nest}
use Rattle.occ_parse_layout.specs.Whole.{IsProgram}
use Rattle.occ_parse_layout.proofs.Levels.{good_nest}
use Rattle.occ_parse_layout.proofs.Framed.{whole_of}
use Rattle.occ_parse.specs.declared.bound.Bound.{Bound}
use Rattle.occ_parse.specs.declared.bound.Bound.TheVariants as bound
use Rattle.occ_parse.specs.declared.fault.ParseFault.{ParseFault}
use Rattle.occ_parse.specs.declared.fault.ParseFault.TheVariants as fault
use Rattle.occ_parse.specs.Limits.{is_too_long, frame_of, stopped}
use Rattle.occ_parse.specs.Drafts.{header_name, header_params, header_below, draft_fault}
use Rattle.occ_parse.specs.Reading.{AreForms, AreJudged, IsLaidOut, IsRefused, badly_laid, at_line, IsRead, rows_in, names_in}
use Rattle.occ_parse.specs.Laying.{IsIllLaid}

nest_of : (b : Bound) (rows : List Laid) → least_bad (frame_of b) false rows ≡ None → Nest 0 0 rows
nest_of bound.Program rows h = good_nest frame.Program false rows h
nest_of bound.First rows h = good_nest frame.Program false rows h
nest_of bound.Script rows h = good_nest frame.Plain false rows h

-- good lines nest
pub good_rows_nest : (b : Bound) (f : Frame) (stop : Option ParseFault) (more : Bool) (rows : List Laid) (r : Option ℕ) → f ≡ frame_of b → more ≡ is_some stop → stop ≡ None
    → r ≡ least_bad f more rows → r ≡ None → Nest 0 0 rows
good_rows_nest b f stop more rows r e m s h n =
    let no_more : more ≡ false = m ∙ ap (λ t. is_some t) s in
    nest_of b rows (ap (λ g. least_bad g false rows) (sym e) ∙ ap (λ a. least_bad f a rows) (sym no_more) ∙ sym h ∙ n)

pub if_err : {A E : Type 0} {P Q : E → Type 0} (r : Result A E) → ((e : E) → P e → Q e) → IfErr r P → IfErr r Q
if_err (Ok x) f h = h
if_err (Err e) f h = f e h

-- ---- a text by its lines

module _ (b : Bound) (text : List ℕ) (old : List (List ℕ)) where
  judged_of : (lines : List Line) (found : Option (ℕ × LineFault)) (rows : List Row) (laid : List Laid) (stop : Option ParseFault) → is_too_long b text ≡ false
      → (lines, found) ≡ reading_of text → rows ≡ rows_of text old lines → AreForms (stopped b rows found).0 laid → (stopped b rows found).1 ≡ stop
      → AreJudged b text old laid stop
  judged_of lines found rows laid stop short read rows_are forms stops =
      let lines_are : lines ≡ (reading_of text).0 = ap (λ r. r.0) read in
      let found_is : found ≡ (reading_of text).1 = ap (λ r. r.1) read in
      let all : rows ≡ rows_in text old = rows_are ∙ ap (λ ls. rows_of text old ls) lines_are in
      let same : stopped b rows found ≡ stopped b (rows_in text old) (reading_of text).1 = ap (λ rs. stopped b rs found) all ∙ ap (λ g. stopped b (rows_in text old) g) found_is in
      record {
        short = short;
        forms = subst (λ s. AreForms s.0 laid) same forms;
        stop_is = sym (ap (λ s. s.1) same) ∙ stops;
      }

  refused_of : (laid : List Laid) (stop : Option ParseFault) (f : ParseFault) → AreJudged b text old laid stop → IsIllLaid b laid stop f → IsRefused b text old f
  refused_of laid stop f j (inl found) = subst (IsRefused b text old) (sym found.1) (badly_laid laid stop found.0 j found.2)
  refused_of laid stop f j (inr found) = at_line laid f (subst (λ s. AreJudged b text old laid s) found.0 j) found.1

  pub refused_from : (lines : List Line) (found : Option (ℕ × LineFault)) (rows : List Row) (laid : List Laid) (stop : Option ParseFault) (f : ParseFault) → is_too_long b text ≡ false
      → (lines, found) ≡ reading_of text → rows ≡ rows_of text old lines → AreForms (stopped b rows found).0 laid → (stopped b rows found).1 ≡ stop
      → IsIllLaid b laid stop f ⊎ (f ≡ fault.Memory) → IsRefused b text old f ⊎ (f ≡ fault.Memory)
  refused_from lines found rows laid stop f short read rows_are forms stops (inl ill) = inl (refused_of laid stop f (judged_of lines found rows laid stop short read rows_are forms stops) ill)
  refused_from lines found rows laid stop f short read rows_are forms stops (inr memory) = inr memory

-- ---- the header

frame_whole : (b : Bound) (rows : List Laid) (g : Forest) → lines_at 0 g ≡ rows → least_bad (frame_of b) false rows ≡ None → IsProgram g
frame_whole bound.Program rows g e h = whole_of frame.Program rows g refl e h
frame_whole bound.First rows g e h = whole_of frame.Program rows g refl e h
frame_whole bound.Script rows g e h = whole_of frame.Plain rows g refl e h

pub program_of : (b : Bound) (text : List ℕ) (old : List (List ℕ)) (f : Forest) → IsLaidOut b text old f → IsProgram f
program_of b text old f l = frame_whole b (lines_at 0 f) f refl l.good

-- ---- a text that is read

pub read_from : (b : Bound) (text : List ℕ) (old mid new : List (List ℕ)) (f g h : Forest) (r : Option ParseFault) (ps : List Param) (below : Forest)
    (name : Name) (params : List (Name × Kind)) (body : Tree) (numbers : List ℕ) → IsLaidOut b text old f → mid ≡ names_in text old
    → g ≡ f → r ≡ draft_fault b g → r ≡ None
    → h ≡ f → name ≡ header_name h → ps ≡ header_params h → below ≡ header_below h
    → new ≡ with_elements mid ps below → params ≡ params_named (number_in new) ps → body ≡ slot_process (number_in new) (param_scope ps) below → numbers ≡ (lined below).parts
    → IsRead b text old new name params body numbers
read_from b text old mid new f g h r ps below name params body numbers laid m same judged none also n p d table params_are body_is lines =
    let ps_are : ps ≡ header_params f = p ∙ ap (λ k. header_params k) also in
    let below_is : below ≡ header_below f = d ∙ ap (λ k. header_below k) also in
    record {
      draft = f;
      laid_out = laid;
      in_order = ap (λ k. draft_fault b k) (sym same) ∙ sym judged ∙ none;
      table = table ∙ ap (λ t. with_elements t ps below) m ∙ ap (λ qs. with_elements (names_in text old) qs below) ps_are ∙ ap (λ k. with_elements (names_in text old) (header_params f) k) below_is;
      name_is = n ∙ ap (λ k. header_name k) also;
      params_are = params_are ∙ ap (λ qs. params_named (number_in new) qs) ps_are;
      body_is = body_is ∙ ap (λ qs. slot_process (number_in new) (param_scope qs) below) ps_are ∙ ap (λ k. slot_process (number_in new) (param_scope (header_params f)) k) below_is;
      numbers_are = lines ∙ ap (λ k. (lined k).parts) below_is;
    }
