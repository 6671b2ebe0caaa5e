-- The section of a written step is read as that step.
use Rattle.std.proofs.Common.{◌≡◌, ℕ, ◌+◌, ◌-◌, false, List, [], Option, Some, None, refl, ap, sym, ◌∙◌, subst, arith}
use Rattle.std.specs.Prelude.{codes, is_some, unwrap_or}
use Rattle.std.proofs.lemmas.Option.{slice_get-get_or}
use Rattle.occ_script_write.specs.occ_base.declared.names.Name.{Name}
use Rattle.occ_script_write.specs.occ_law.declared.table.LawId.{LawId}
use Rattle.occ_script_write.specs.occ_law.Table.{IsNamed, law_names}
use Rattle.occ_print_back.specs.occ_parse_layout.declared.placed.Frame.TheVariants as frame
use Rattle.occ_print_back.specs.occ_parse_layout.Layout.{least_bad}
use Rattle.occ_script.specs.occ_parse_part.Arrays.{array_names}
use Rattle.occ_script.specs.occ_parse_part.Elements.{Elements, elements_in, with_arrays}
use Rattle.occ_script.specs.occ_parse_part.Parts.{IsPart, Part}
use Rattle.occ_script.specs.occ_parse_part.Resolving.{part_fault, part_process}
use Rattle.occ_script.specs.occ_parse_part.Shown.{elements_of, lines_of, part_of}
use Rattle.occ_print_back.specs.occ_parse.declared.bound.Bound.TheVariants as bound
use Rattle.occ_print_back.specs.occ_parse.declared.fault.ParseFault.{ParseFault}
use Rattle.occ_print_back.specs.occ_parse.Limits.{stopped}
use Rattle.occ_print_back.specs.occ_parse.Reading.{AreForms}
use Rattle.occ_print_back.specs.occ_parse_rules.Forest.{Forest, Laid, lines_at, no_line}
use Rattle.occ_print_back.specs.occ_parse_rules.Places.{Place}
use Rattle.occ_print_back.specs.Forest.{part_forest}
use Rattle.occ_script_back.specs.Back.{PartReadsBack}
use Rattle.occ_script_back.specs.Part.{arrays_of_part, lines_of_part, part_read, table_behind}
use Rattle.occ_script.specs.declared.content.Content.TheVariants as content
use Rattle.occ_script.specs.declared.fault.ScriptFault.{ScriptFault}
use Rattle.occ_script.specs.declared.script.Step.{Step}
use Rattle.occ_script.specs.Lines.{AreJudged, IsIllLaid, badly, behind, lacks_part, named_in, rows_in}
use Rattle.occ_script.specs.Refusals.{IsBadPart, IsBadStep, no_part, bad_part, no_step_line, in_part}
use Rattle.occ_script.specs.Steps.{IsLaw, IsStep}
use Rattle.occ_script.proofs.Once.{IsJudgedOnce, IsOnce, judged_once}
use Rattle.occ_script_write.specs.occ_script_lines.Lines.{Head, head_of}
use Rattle.occ_script_write.specs.occ_script_lines.Sections.{Section, reading_in, upto}
use Rattle.occ_script_write.specs.declared.writing.Done.{Done}
use Rattle.occ_script_write.specs.Text.{law_text}
use Rattle.occ_script_back.specs.Said.{IsSaid}
use Rattle.occ_script_back.specs.Steps.{IsThatStep, StepReadsBack, step_section}
use Rattle.occ_script_back.proofs.Saying.{laws_counted, step_said}
use Rattle.occ_script_write.specs.occ_syntax.declared.scope.Kind.{Kind}
use Rattle.occ_script_write.specs.occ_syntax.Tree.{Tree, skip, stop, assign, receive, send, seq, par, select, alt, declare, connect}
use Rattle.occ_script_write.specs.occ_syntax.View.{tree}

same_some : {A : Type 0} (a b : A) → Some a ≡ Some b → a ≡ b
same_some a b e = cc

no_none : {A B : Type 0} (a : A) (o : Option A) → o ≡ Some a → o ≡ None → B
no_none a o h k = let bad : Some a ≡ None = sym h ∙ k in absurd cc

named : (done : Done) → IsSaid done → IsNamed done.law (law_text done.law)
named done h =
    let i = done.law.0 - 1 in
    let there = slice_get-get_or law_names i [] (omega (arith, h.low, h.high, laws_counted)) in
    record { low = h.low; high = h.high; spelled = there ∙ ap Some (sym (ap (λ o. unwrap_or o []) there)) }

law_found : (one : (first second : LawId) (text : List ℕ) → IsNamed first text → IsNamed second text → first ≡ second) (law : LawId) (text : List ℕ) → IsNamed law text
    → (o : Option LawId) → IsLaw text o → o ≡ Some law
law_found one law text n None f = absurd (f law n)
law_found one law text n (Some other) f = ap Some (one other law text f n)

abbrev made : Forest → Elements → Part
made f e = record { lines = f; elements = e }

same_part : (f g : Forest) (d e : Elements) → f ≡ g → d ≡ e → made f d ≡ made g e
same_part f g d e h k = ap (λ x. made x d) h ∙ ap (made g) k

-- the first line of a part stands at level 1
has_part : (P : ℕ → Place) (n : ℕ) (p : Tree) → lacks_part (lines_at 1 (part_forest P n p no_line)) None ≡ false
has_part P n skip = refl
has_part P n stop = refl
has_part P n (assign xs es) = refl
has_part P n (receive c x) = refl
has_part P n (send c e) = refl
has_part P n (seq ps) = refl
has_part P n (par ps) = refl
has_part P n (select cs) = refl
has_part P n (alt bs) = refl
has_part P n (declare x w p) = refl
has_part P n (connect c w p) = refl

-- lines that are well laid out have no first fault
well_or_ill : (ls ms : List Laid) (a b : Option ParseFault) {e : ParseFault} → IsJudgedOnce ls ms a b → a ≡ None → least_bad frame.Part false ls ≡ None → IsIllLaid frame.Part ms b e → ⊥
well_or_ill ls ms a b j w g (badly m k) =
    let none : least_bad frame.Part (is_some b) ms ≡ None =
    ap (λ r. least_bad frame.Part (is_some r) ms) (sym j.stop ∙ w) ∙ ap (least_bad frame.Part false) (sym j.laid) ∙ g in
    no_none m _ k none
well_or_ill ls ms a b j w g (behind e v k) = no_none e _ v (sym j.stop ∙ w)

module _ (once : IsOnce) (names : List (List ℕ)) (P : ℕ → Place) (scope : List (Name × Kind)) (n : ℕ) (front : List ℕ) (done : Done) (said : IsSaid done)
    (b : PartReadsBack names P scope front (n + 1) (tree done.part)) where
  abbrev part : Tree
  part = tree done.part

  abbrev s : Section
  s = step_section names n front done

  abbrev f : Forest
  f = lines_of_part P (n + 1) part

  table : named_in s names ≡ names
  table = b.there.table

  judged : AreJudged content.Part names s b.is_part.laid b.is_part.stop
  judged = record {
    forms = subst (λ found. AreForms (stopped bound.Script (rows_in s names) found).0 b.is_part.laid) (sym b.there.faultless) b.is_part.judged.forms;
    stop_is = ap (λ found. (stopped bound.Script (rows_in s names) found).1) b.there.faultless ∙ b.is_part.judged.stop_is;
  }

  there : lacks_part b.is_part.laid b.is_part.stop ≡ false
  there =
      ap (λ ls. lacks_part ls b.is_part.stop) (sym b.is_part.well.lines) ∙ ap (lacks_part (lines_at 1 f)) b.is_part.well.whole ∙ has_part P (n + 1) part

  once_judged : (laid : List Laid) (halt : Option ParseFault) → AreJudged content.Part names s laid halt → IsJudgedOnce b.is_part.laid laid b.is_part.stop halt
  once_judged laid halt j = judged_once once content.Part names s b.is_part.laid laid b.is_part.stop halt judged j

  no_bad_part : {e : ScriptFault} → IsBadPart names s e → ⊥
  no_bad_part (no_part laid halt j h) =
      let same = once_judged laid halt j in
      let lacking : lacks_part laid halt ≡ false = ap (λ ls. lacks_part ls halt) (sym same.laid) ∙ ap (lacks_part b.is_part.laid) (sym same.stop) ∙ there in
      absurd cc
  no_bad_part (bad_part d hp ill) =
      well_or_ill b.is_part.laid ill.laid b.is_part.stop ill.stop (once_judged ill.laid ill.stop ill.judged) b.is_part.well.whole b.is_part.well.good ill.ill

  no_bad_step : {e : ScriptFault} → IsBadStep names s e → ⊥
  no_bad_step (no_step_line h) = no_none _ (head_of (codes "STEP") s.row) (step_said done said) h
  no_bad_step (in_part head d h k) = no_bad_part k

  lines_are : (new : List (List ℕ)) (step : Step) → IsStep names new s step → lines_of step.part ≡ f
  lines_are new step st =
      let at = subst (λ t. IsPart (upto s) t (reading_in s).0 (lines_of step.part)) table st.part.lines in
      once.part (upto s) names (reading_in s).0 (lines_of step.part) f at b.is_part

  table_is : (new : List (List ℕ)) (step : Step) → IsStep names new s step → new ≡ table_behind names P (n + 1) part
  table_is new step st =
      st.part.table ∙ ap (λ t. with_arrays (named_in s t) (array_names (lines_at 1 (lines_of step.part)))) table
      ∙ ap (λ t. with_arrays t (array_names (lines_at 1 (lines_of step.part)))) table
      ∙ ap (λ g. with_arrays names (array_names (lines_at 1 g))) (lines_are new step st)

  part_is : (new : List (List ℕ)) (step : Step) → IsStep names new s step → part_of step.part ≡ part_read names P (n + 1) part
  part_is new step st =
      let lines = lines_are new step st in
      let elements : elements_of step.part ≡ elements_in (table_behind names P (n + 1) part) (arrays_of_part P (n + 1) part) =
      st.part.elements ∙ ap (λ t. elements_in t (array_names (lines_at 1 (lines_of step.part)))) (table_is new step st)
      ∙ ap (λ g. elements_in (table_behind names P (n + 1) part) (array_names (lines_at 1 g))) lines in
      same_part (lines_of step.part) f (elements_of step.part) (elements_in (table_behind names P (n + 1) part) (arrays_of_part P (n + 1) part)) lines elements

  that_step : (new : List (List ℕ)) (step : Step) → IsStep names new s step → IsThatStep names P scope n done new step
  that_step new step st =
      let heads = same_some _ _ (sym st.head ∙ step_said done said) in
      let name : st.name ≡ law_text done.law = ap (λ (h : Head). h.law) heads in
      let part_same = part_is new step st in
      record {
        law = law_found once.law done.law (law_text done.law) (named done said) step.law (subst (λ t. IsLaw t step.law) name st.law);
        dir = ap (λ (h : Head). h.dir) heads;
        path = ap (λ (h : Head). h.path) heads;
        faultless = ap (λ q. part_fault q scope) part_same ∙ b.faultless;
        stands = ap (λ q. part_process q scope) part_same ∙ b.stands;
        table = table_is new step st;
      }

  pub step_back : StepReadsBack names P scope n front done
  step_back = record { read = that_step; kept = λ e h. no_bad_step h; grows = b.grows }
