-- The sections of a script have one reading: as a program, steps and a program, or with one first fault.
use Rattle.std.proofs.Common.{◌≡◌, ℕ, true, false, List, [], ◌∷◌, map, refl, sym, ap, subst, ◌∙◌}
use Rattle.std.specs.Prelude.{codes}
use Rattle.occ_script.specs.declared.content.Content.TheVariants as content
use Rattle.occ_script.specs.declared.fault.ScriptFault.{ScriptFault}
use Rattle.occ_script.specs.declared.script.Step.{Step}
use Rattle.occ_script.specs.Lines.{named_in}
use Rattle.occ_script.specs.Refusals.{IsBadEnd, IsBadTarget, IsNoDerivation, another_word, behind_source, behind_step, in_lines, in_source, in_step, in_target, next_line, no_end, no_source, no_target}
use Rattle.occ_script.specs.Scripts.{IsDerivation, IsEnd, IsInOrder}
use Rattle.occ_script.specs.Shown.{shown_step}
use Rattle.occ_script.specs.Steps.{AreSteps, and_step, no_step}
use Rattle.occ_script_lines.specs.Lines.{is_line}
use Rattle.occ_script_lines.specs.Sections.{Section, framed}
use Rattle.occ_script.proofs.Once.{IsOnce, Table, bad_program_once, bad_step_once, one_answer, program_in_order, step_once, step_or_fault, step_table}

-- equal lists of sections have equal first ones, and equal ones behind these
pub record AreSameSections (s r : Section) (ss rs : List Section) : Type 0 where
  pub first : s ≡ r
  pub rest : ss ≡ rs

pub same_sections : (s r : Section) (ss rs all : List Section) → all ≡ s ∷ ss → all ≡ r ∷ rs → AreSameSections s r ss rs
same_sections s r ss rs all e f = let h : s ∷ ss ≡ r ∷ rs = sym e ∙ f in record { first = cc; rest = cc }

-- sections are steps twice, up to a last one
record AreStepsOnce (t u : Table) (s r : Section) (xs ys : List Step) : Type 0 where
  table : t ≡ u
  target : s ≡ r
  steps : map shown_step xs ≡ map shown_step ys

-- what sections behind the program behind FROM are twice
pub record IsEndOnce (t u : Table) (xs ys : List Step) (v w : List ℕ) : Type 0 where
  pub table : t ≡ u
  pub steps : map shown_step xs ≡ map shown_step ys
  pub to : v ≡ w

-- what all sections are twice
pub record IsDerivedOnce (t u : Table) (f g : List ℕ) (xs ys : List Step) (v w : List ℕ) : Type 0 where
  pub from : f ≡ g
  pub end : IsEndOnce t u xs ys v w

module _ (once : IsOnce) where
  -- ---- the program behind TO

  target_once : (last : ℕ) (old : Table) (s : Section) {others : List Section} {d e : ScriptFault} → IsBadTarget last old s others d
      → IsBadTarget last old s others e → d ≡ e
  target_once last old s (in_lines others d x) (in_lines others' e y) = bad_program_once once content.Last old s (next_line others last) x y
  target_once last old s (in_lines others d x) (no_end text more others' y) =
      absurd (program_in_order once content.Last old s more.number text y x)
  target_once last old s (no_end text more others x) (in_lines others' e y) =
      absurd (program_in_order once content.Last old s more.number text x y)
  target_once last old s (no_end text more others x) (no_end text' more' others' y) = refl

  -- the last section is the program behind TO
  alone : (last : ℕ) (old : Table) (s : Section) (text : List ℕ) {e : ScriptFault} → is_line (codes "TO") s.row ≡ true
      → IsInOrder content.Last old s text → IsBadEnd last old (s ∷ []) e → ⊥
  alone last old s text line x (in_step old' s' others e g y) = one_answer (is_line (codes "TO") s.row) line g
  alone last old s text line x (behind_step old' t s' others step e g one y) = one_answer (is_line (codes "TO") s.row) line g
  alone last old s text line x (in_target old' s' others e g (in_lines others' e' y)) =
      program_in_order once content.Last old s last text x y

  -- ---- the steps in front of it

  end_once : (last : ℕ) {old : Table} {ss : List Section} {d e : ScriptFault} → IsBadEnd last old ss d → IsBadEnd last old ss e → d ≡ e
  end_once last (no_target old) (no_target old') = refl
  end_once last (in_step old s others d h x) (in_step old' s' others' e g y) = bad_step_once once old s x y
  end_once last (in_step old s others d h x) (behind_step old' t s' others' step e g one y) = absurd (step_or_fault once old t s step one x)
  end_once last (in_step old s others d h x) (in_target old' s' others' e g y) = one_answer (is_line (codes "TO") s.row) g h
  end_once last (behind_step old t s others step d h one x) (in_step old' s' others' e g y) = absurd (step_or_fault once old t s step one y)
  end_once last (behind_step old t s others step d h one x) (behind_step old' u s' others' other e g also y) =
      end_once last x (subst (λ v. IsBadEnd last v others e) (step_table once old u t s other step also one) y)
  end_once last (behind_step old t s others step d h one x) (in_target old' s' others' e g y) = one_answer (is_line (codes "TO") s.row) g h
  end_once last (in_target old s others d h x) (in_step old' s' others' e g y) = one_answer (is_line (codes "TO") s.row) h g
  end_once last (in_target old s others d h x) (behind_step old' t s' others' step e g one y) = one_answer (is_line (codes "TO") s.row) h g
  end_once last (in_target old s others d h x) (in_target old' s' others' e g y) = target_once last old s x y

  steps_or_fault : (last : ℕ) (s : Section) (text : List ℕ) {old t : Table} {ss rest : List Section} {steps : List Step} {e : ScriptFault}
      → AreSteps old t ss rest steps → rest ≡ s ∷ []
      → is_line (codes "TO") s.row ≡ true → IsInOrder content.Last t s text → IsBadEnd last old ss e → ⊥
  steps_or_fault last s text {e = e} (no_step old rest) is line x bad =
      alone last old s text line x (subst (λ (r : List Section). IsBadEnd last old r e) is bad)
  steps_or_fault last s text (and_step old t new r others rest step steps another one more) is line x (in_step old' s' others' e g y) =
      step_or_fault once old t r step one y
  steps_or_fault last s text (and_step old t new r others rest step steps another one more) is line x (behind_step old' u s' others' other e g also y) =
      steps_or_fault last s text more is line x (subst (λ v. IsBadEnd last v others e) (step_table once old u t r other step also one) y)
  steps_or_fault last s text (and_step old t new r others rest step steps another one more) is line x (in_target old' s' others' e g y) =
      one_answer (is_line (codes "TO") r.row) g another

  end_or_fault : (last : ℕ) (old new : Table) (ss : List Section) (steps : List Step) (to : List ℕ) {e : ScriptFault}
      → IsEnd old new ss steps to → IsBadEnd last old ss e → ⊥
  end_or_fault last old new ss steps to x bad = steps_or_fault last x.target to x.are_steps refl x.line x.lines bad

  step_or_target : {A : Type 0} (q s : Section) (ss rest : List Section) → rest ≡ s ∷ [] → rest ≡ q ∷ ss → is_line (codes "TO") s.row ≡ true
      → is_line (codes "TO") q.row ≡ false → A
  step_or_target q s ss rest e f line another =
      let same : s ≡ q = (same_sections s q [] ss rest e f).first in
      one_answer (is_line (codes "TO") s.row) line (ap (λ (k : Section). is_line (codes "TO") k.row) same ∙ another)

  steps_once : (s r : Section) {old t u : Table} {ss rest more : List Section} {steps others : List Step} → AreSteps old t ss rest steps
      → AreSteps old u ss more others → rest ≡ s ∷ [] → more ≡ r ∷ []
      → is_line (codes "TO") s.row ≡ true → is_line (codes "TO") r.row ≡ true → AreStepsOnce t u s r steps others
  steps_once s r (no_step old rest) (no_step old' rest') e f line also =
      record { table = refl; target = (same_sections s r [] [] rest e f).first; steps = refl }
  steps_once s r (no_step old rest) (and_step old' t new q ss more step steps another one later) e f line also =
      step_or_target q s ss rest e refl line another
  steps_once s r (and_step old t new q ss rest step steps another one later) (no_step old' more) e f line also =
      step_or_target q r ss more f refl also another
  steps_once s r (and_step old t new q ss rest step steps another one later) (and_step old' u new' q' ss' more other others another' two more_steps) e f line also =
      let back : u ≡ t = step_table once old u t q other step two one in
      let here : shown_step step ≡ shown_step other = step_once once old t u q step other one two in
      let behind : AreStepsOnce new new' s r steps others =
      steps_once s r later (subst (λ v. AreSteps v new' ss more others) back more_steps) e f line also in
      record { table = behind.table; target = behind.target; steps = λ i. here i ∷ behind.steps i }

  ends_once : (old new other : Table) (ss : List Section) (steps others : List Step) (to text : List ℕ) → IsEnd old new ss steps to
      → IsEnd old other ss others text → IsEndOnce new other steps others to text
  ends_once old new other ss steps others to text x y =
      let c : AreStepsOnce x.between y.between x.target y.target steps others =
      steps_once x.target y.target x.are_steps y.are_steps refl refl x.line y.line in
      record {
        table = x.table ∙ ap (λ s. named_in s x.between) c.target ∙ ap (λ t. named_in y.target t) c.table ∙ sym y.table;
        steps = c.steps;
        to = x.lines.text_is ∙ ap (λ s. framed s) c.target ∙ sym y.lines.text_is;
      }

  -- ---- all sections

  -- sections have one first fault
  pub derivation_fault_once : (last : ℕ) (old : Table) {ss : List Section} {d e : ScriptFault} → IsNoDerivation last old ss d
      → IsNoDerivation last old ss e → d ≡ e
  derivation_fault_once last old no_source no_source = refl
  derivation_fault_once last old (another_word s others h) (another_word s' others' g) = refl
  derivation_fault_once last old (another_word s others h) (in_source s' others' e g y) = one_answer (is_line (codes "FROM") s.row) g h
  derivation_fault_once last old (another_word s others h) (behind_source text s' others' e g lines y) =
      one_answer (is_line (codes "FROM") s.row) g h
  derivation_fault_once last old (in_source s others d h x) (another_word s' others' g) = one_answer (is_line (codes "FROM") s.row) h g
  derivation_fault_once last old (in_source s others d h x) (in_source s' others' e g y) =
      bad_program_once once content.First old s (next_line others last) x y
  derivation_fault_once last old (in_source s others d h x) (behind_source text s' others' e g lines y) =
      absurd (program_in_order once content.First old s (next_line others last) text lines x)
  derivation_fault_once last old (behind_source text s others d h lines x) (another_word s' others' g) =
      one_answer (is_line (codes "FROM") s.row) h g
  derivation_fault_once last old (behind_source text s others d h lines x) (in_source s' others' e g y) =
      absurd (program_in_order once content.First old s (next_line others last) text lines y)
  derivation_fault_once last old (behind_source text s others d h lines x) (behind_source text' s' others' e g lines' y) = end_once last x y

  not_at_source : (last : ℕ) (old new : Table) (s : Section) (others : List Section) (steps : List Step) (from to : List ℕ)
      {e : ScriptFault} → is_line (codes "FROM") s.row ≡ true → IsInOrder content.First old s from → IsEnd (named_in s old) new others steps to
      → IsNoDerivation last old (s ∷ others) e → ⊥
  not_at_source last old new s others steps from to line x end (another_word s' others' g) =
      one_answer (is_line (codes "FROM") s.row) line g
  not_at_source last old new s others steps from to line x end (in_source s' others' e g y) =
      program_in_order once content.First old s (next_line others last) from x y
  not_at_source last old new s others steps from to line x end (behind_source text s' others' e g lines y) =
      end_or_fault last (named_in s old) new others steps to end y

  -- and none where they are a derivation
  pub derivation_or_fault : (last : ℕ) (old new : Table) (ss : List Section) (steps : List Step) (from to : List ℕ) {e : ScriptFault}
      → IsDerivation old new ss from steps to → IsNoDerivation last old ss e → ⊥
  derivation_or_fault last old new ss steps from to {e} x bad =
      not_at_source last old new x.source x.rest steps from to x.line x.lines x.is_end
      (subst (λ (r : List Section). IsNoDerivation last old r e) x.parts bad)

  -- and are one derivation as far as it is seen
  pub derivation_once : (old new other : Table) (ss : List Section) (steps others : List Step) (from text to last : List ℕ)
      → IsDerivation old new ss from steps to → IsDerivation old other ss text others last
      → IsDerivedOnce new other from text steps others to last
  derivation_once old new other ss steps others from text to last x y =
      let same : AreSameSections x.source y.source x.rest y.rest = same_sections x.source y.source x.rest y.rest ss x.parts y.parts in
      let end : IsEnd (named_in x.source old) other x.rest others last =
      subst (λ (r : List Section). IsEnd (named_in x.source old) other r others last) (sym same.rest)
      (subst (λ (s : Section). IsEnd (named_in s old) other y.rest others last) (sym same.first) y.is_end) in
      record {
        from = x.lines.text_is ∙ ap (λ s. framed s) same.first ∙ sym y.lines.text_is;
        end = ends_once (named_in x.source old) new other x.rest steps others to last x.is_end end;
      }
