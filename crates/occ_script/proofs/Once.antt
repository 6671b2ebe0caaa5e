-- The lines of a section have one reading: as those of a program or a step, or with one first fault.
use Rattle.std.proofs.Common.{◌≡◌, ℕ, Bool, true, false, List, Option, Some, None, refl, sym, ap, subst, ◌∙◌}
use Rattle.std.specs.Prelude.{codes, is_some}
use Rattle.occ_law.specs.declared.table.LawId.{LawId}
use Rattle.occ_law.specs.Table.{IsNamed}
use Rattle.occ_script_lines.specs.occ_lex.declared.token.Line.{Line}
use Rattle.occ_parse_part.specs.occ_parse_layout.declared.placed.Frame.{Frame}
use Rattle.occ_parse_part.specs.occ_parse_layout.Layout.{least_bad}
use Rattle.occ_parse_part.specs.Arrays.{array_names}
use Rattle.occ_parse_part.specs.Elements.{elements_in, with_arrays}
use Rattle.occ_parse_part.specs.Parts.{IsPart}
use Rattle.occ_parse_part.specs.declared.raw.Raw.{Raw}
use Rattle.occ_parse_part.specs.Shown.{elements_of, lines_of, part_of}
use Rattle.occ_parse_part.specs.occ_parse.declared.fault.ParseFault.{ParseFault}
use Rattle.occ_parse_part.specs.occ_parse.declared.fault.ParseFault.TheVariants as parse
use Rattle.occ_parse_part.specs.occ_parse.Limits.{stopped}
use Rattle.occ_parse_part.proofs.from_parse.Once.{OneForm, forms_once, none_some, some_one}
use Rattle.occ_parse_part.specs.occ_parse_rules.Forest.{Forest, Laid, lines_at}
use Rattle.occ_script.specs.declared.content.Content.{Content}
use Rattle.occ_script.specs.declared.content.Content.TheVariants as content
use Rattle.occ_script.specs.declared.fault.ScriptFault.{ScriptFault}
use Rattle.occ_script.specs.declared.script.Step.{Step}
use Rattle.occ_script.specs.Contents.{bound_of, frame_of}
use Rattle.occ_script.specs.Faults.{text_fault}
use Rattle.occ_script.specs.Lines.{AreJudged, IsIll, IsIllLaid, IsWell, IsWellLaid, badly, behind, lacks_part, named_in, rows_in}
use Rattle.occ_script.specs.Refusals.{IsBadPart, IsBadProgram, IsBadStep, bad_lines, bad_part, in_part, no_lines, no_part, no_step_line}
use Rattle.occ_script.specs.Scripts.{IsInOrder}
use Rattle.occ_script.specs.Shown.{shown_step}
use Rattle.occ_script.specs.Steps.{HasPart, IsLaw, IsPartIn, IsStep}
use Rattle.occ_script_lines.specs.Lines.{Head, head_of}
use Rattle.occ_script_lines.specs.Sections.{Section, is_blank_in, reading_in, upto}

abbrev pub Table : Type 0
Table = List (List ℕ)

-- a line has one form, lines read as one part, and a name is that of one law
pub record IsOnce : Type 0 where
  pub form : OneForm
  pub part : (text : List ℕ) (old : Table) (lines : List Line) (f g : Forest) → IsPart text old lines f → IsPart text old lines g → f ≡ g
  pub law : (first second : LawId) (text : List ℕ) → IsNamed first text → IsNamed second text → first ≡ second

-- a test has one answer
pub one_answer : {A : Type 0} (b : Bool) → b ≡ true → b ≡ false → A
one_answer b h k = let e : true ≡ false = sym h ∙ k in absurd cc

pub no_head : {A : Type 0} (h : Head) (o : Option Head) → o ≡ None → o ≡ Some h → A
no_head h o e g = let same : None ≡ Some h = sym e ∙ g in absurd cc

-- lines that are judged twice
pub record IsJudgedOnce (ls ms : List Laid) (a b : Option ParseFault) : Type 0 where
  pub laid : ls ≡ ms
  pub stop : a ≡ b

bad_once : (f : Frame) (ls ms : List Laid) (a b : Option ParseFault) → IsJudgedOnce ls ms a b
    → least_bad f (is_some a) ls ≡ least_bad f (is_some b) ms
bad_once f ls ms a b j = λ i. least_bad f (is_some (j.stop i)) (j.laid i)

ill_laid_once : (f : Frame) (ls ms : List Laid) (a b : Option ParseFault) {d e : ParseFault} → IsJudgedOnce ls ms a b → IsIllLaid f ls a d
    → IsIllLaid f ms b e → d ≡ e
ill_laid_once f ls ms a b j (badly n h) (badly m k) =
    ap (λ l. parse.Form l) (some_one n m (least_bad f (is_some a) ls) (least_bad f (is_some b) ms) h k (bad_once f ls ms a b j))
ill_laid_once f ls ms a b j (badly n h) (behind e u k) =
    let none : least_bad f (is_some b) ms ≡ None = ap (λ r. least_bad f (is_some r) ms) u ∙ k in
    absurd (none_some n (least_bad f (is_some b) ms) (least_bad f (is_some a) ls) none h (sym (bad_once f ls ms a b j)))
ill_laid_once f ls ms a b j (behind d u h) (badly m k) =
    let none : least_bad f (is_some a) ls ≡ None = ap (λ r. least_bad f (is_some r) ls) u ∙ h in
    absurd (none_some m (least_bad f (is_some a) ls) (least_bad f (is_some b) ms) none k (bad_once f ls ms a b j))
ill_laid_once f ls ms a b j (behind d u h) (behind e v k) = some_one d e a b u v j.stop

ill_or_well : (f : Frame) (ls ms : List Laid) (a b : Option ParseFault) {e : ParseFault} → IsJudgedOnce ls ms a b → IsWellLaid f ls a
    → IsIllLaid f ms b e → ⊥
ill_or_well f ls ms a b j w (badly m k) =
    let none : least_bad f (is_some a) ls ≡ None = ap (λ r. least_bad f (is_some r) ls) w.whole ∙ w.good in
    none_some m (least_bad f (is_some a) ls) (least_bad f (is_some b) ms) none k (bad_once f ls ms a b j)
ill_or_well f ls ms a b j w (behind e v k) = none_some e a b w.whole v j.stop

module _ (once : IsOnce) where
  -- ---- lines

  pub judged_once : (k : Content) (old : Table) (s : Section) (ls ms : List Laid) (a b : Option ParseFault) → AreJudged k old s ls a
      → AreJudged k old s ms b → IsJudgedOnce ls ms a b
  judged_once k old s ls ms a b x y = record {
    laid = forms_once once.form (stopped (bound_of k) (rows_in s old) (reading_in s).1).0 ls ms x.forms y.forms;
    stop = sym x.stop_is ∙ y.stop_is;
  }

  pub ill_once : (k : Content) (old : Table) (s : Section) (d e : ParseFault) → IsIll k old s d → IsIll k old s e → d ≡ e
  ill_once k old s d e x y =
      ill_laid_once (frame_of k) x.laid y.laid x.stop y.stop (judged_once k old s x.laid y.laid x.stop y.stop x.judged y.judged) x.ill y.ill

  pub not_ill : (k : Content) (old : Table) (s : Section) (e : ParseFault) → IsWell k old s → IsIll k old s e → ⊥
  not_ill k old s e x y =
      ill_or_well (frame_of k) x.laid y.laid x.stop y.stop (judged_once k old s x.laid y.laid x.stop y.stop x.judged y.judged) x.well y.ill

  -- ---- programs

  -- the lines of a program have one first fault
  pub bad_program_once : (k : Content) (old : Table) (s : Section) (next : ℕ) {d e : ScriptFault} → IsBadProgram k old s next d
      → IsBadProgram k old s next e → d ≡ e
  bad_program_once k old s next (no_lines h) (no_lines g) = refl
  bad_program_once k old s next (no_lines h) (bad_lines e g y) = one_answer (is_blank_in s) h g
  bad_program_once k old s next (bad_lines d h x) (no_lines g) = one_answer (is_blank_in s) g h
  bad_program_once k old s next (bad_lines d h x) (bad_lines e g y) = ap text_fault (ill_once k old s d e x y)

  -- and none where they are in order
  pub program_in_order : (k : Content) (old : Table) (s : Section) (next : ℕ) (text : List ℕ) {e : ScriptFault} → IsInOrder k old s text
      → IsBadProgram k old s next e → ⊥
  program_in_order k old s next text x (no_lines h) = one_answer (is_blank_in s) h x.there
  program_in_order k old s next text x (bad_lines e h y) = not_ill k old s e x.well y

  -- ---- steps

  lacking_once : (old : Table) (s : Section) (ls ms : List Laid) (a b : Option ParseFault) → AreJudged content.Part old s ls a
      → AreJudged content.Part old s ms b → lacks_part ls a ≡ lacks_part ms b
  lacking_once old s ls ms a b x y = let j = judged_once content.Part old s ls ms a b x y in λ i. lacks_part (j.laid i) (j.stop i)

  there_or_not : (old : Table) (s : Section) (ms : List Laid) (b : Option ParseFault) → HasPart old s → AreJudged content.Part old s ms b
      → lacks_part ms b ≡ true → ⊥
  there_or_not old s ms b x y h = one_answer (lacks_part ms b) h (sym (lacking_once old s x.laid ms x.stop b x.judged y) ∙ x.there)

  bad_part_once : (old : Table) (s : Section) {d e : ScriptFault} → IsBadPart old s d → IsBadPart old s e → d ≡ e
  bad_part_once old s (no_part ls a x h) (no_part ms b y g) = refl
  bad_part_once old s (no_part ls a x h) (bad_part e there y) = absurd (there_or_not old s ls a there x h)
  bad_part_once old s (bad_part d there x) (no_part ms b y g) = absurd (there_or_not old s ms b there y g)
  bad_part_once old s (bad_part d there x) (bad_part e also y) = ap text_fault (ill_once content.Part old s d e x y)

  -- a section that is no step has one first fault
  pub bad_step_once : (old : Table) (s : Section) {d e : ScriptFault} → IsBadStep old s d → IsBadStep old s e → d ≡ e
  bad_step_once old s (no_step_line h) (no_step_line g) = refl
  bad_step_once old s (no_step_line h) (in_part k e g y) = no_head k (head_of (codes "STEP") s.row) h g
  bad_step_once old s (in_part k d h x) (no_step_line g) = no_head k (head_of (codes "STEP") s.row) g h
  bad_step_once old s (in_part k d h x) (in_part l e g y) = bad_part_once old s x y

  part_or_fault : (old new : Table) (s : Section) (step : Step) {e : ScriptFault} → IsStep old new s step → IsBadPart old s e → ⊥
  part_or_fault old new s step x (no_part ms b y g) = there_or_not old s ms b x.has_part y g
  part_or_fault old new s step x (bad_part e there y) = not_ill content.Part old s e x.part.well y

  -- and none where it is a step
  pub step_or_fault : (old new : Table) (s : Section) (step : Step) {e : ScriptFault} → IsStep old new s step → IsBadStep old s e → ⊥
  step_or_fault old new s step x (no_step_line g) =
      no_head (record { law = x.name; dir = step.dir; path = step.path }) (head_of (codes "STEP") s.row) g x.head
  step_or_fault old new s step x (in_part k e g y) = part_or_fault old new s step x y

  -- lines are one part
  lines_once : (old t u : Table) (s : Section) (a b : Raw) → IsPartIn old t s a → IsPartIn old u s b → lines_of a ≡ lines_of b
  lines_once old t u s a b x y = once.part (upto s) (named_in s old) (reading_in s).0 (lines_of a) (lines_of b) x.lines y.lines

  -- which leaves one table
  pub part_table : (old t u : Table) (s : Section) (a b : Raw) → IsPartIn old t s a → IsPartIn old u s b → t ≡ u
  part_table old t u s a b x y =
      x.table ∙ ap (λ f. with_arrays (named_in s (named_in s old)) (array_names (lines_at 1 f))) (lines_once old t u s a b x y) ∙ sym y.table

  -- and is one as far as it is seen
  pub part_once : (old t u : Table) (s : Section) (a b : Raw) → IsPartIn old t s a → IsPartIn old u s b → part_of a ≡ part_of b
  part_once old t u s a b x y =
      let lines : lines_of a ≡ lines_of b = lines_once old t u s a b x y in
      let elements : elements_of a ≡ elements_of b =
      x.elements ∙ ap (λ v. elements_in v (array_names (lines_at 1 (lines_of a)))) (part_table old t u s a b x y)
      ∙ ap (λ f. elements_in u (array_names (lines_at 1 f))) lines ∙ sym y.elements in
      λ i. record { lines = lines i; elements = elements i }

  -- a step leaves one table
  pub step_table : (old t u : Table) (s : Section) (a b : Step) → IsStep old t s a → IsStep old u s b → t ≡ u
  step_table old t u s a b x y = part_table old t u s a.part b.part x.part y.part

  pub law_once : (name : List ℕ) (l m : Option LawId) → IsLaw name l → IsLaw name m → l ≡ m
  law_once name None None x y = refl
  law_once name None (Some m) x y = absurd (x m y)
  law_once name (Some l) None x y = absurd (y l x)
  law_once name (Some l) (Some m) x y = ap (λ k. Some k) (once.law l m name x y)

  -- and is one step as far as it is seen
  pub step_once : (old t u : Table) (s : Section) (a b : Step) → IsStep old t s a → IsStep old u s b → shown_step a ≡ shown_step b
  step_once old t u s a b x y =
      let h : Head = record { law = x.name; dir = a.dir; path = a.path } in
      let k : Head = record { law = y.name; dir = b.dir; path = b.path } in
      let heads : h ≡ k = some_one h k (head_of (codes "STEP") s.row) (head_of (codes "STEP") s.row) x.head y.head refl in
      let laws : a.law ≡ b.law = law_once y.name a.law b.law (subst (λ n. IsLaw n a.law) (ap (λ (w : Head). w.law) heads) x.law) y.law in
      let dirs : a.dir ≡ b.dir = ap (λ (w : Head). w.dir) heads in
      let paths : a.path ≡ b.path = ap (λ (w : Head). w.path) heads in
      let parts : part_of a.part ≡ part_of b.part = part_once old t u s a.part b.part x.part y.part in
      λ i. record { law = laws i; dir = dirs i; path = paths i; part = parts i }
