-- The sections of a script one after the other.
use Rattle.std.proofs.Common.{◌≡◌, ◌⊎◌, inl, inr, ℕ, ◌<◌, ◌≤◌, Bool, true, false, List, [], ◌∷◌, ◌++◌, length, drop, get_or, Option, Some, None, refl, sym, ap, subst, ◌∙◌, arith, append_assoc}
use Rattle.std.proofs.Common.{Result, Ok, Err}
use Rattle.std.specs.Prelude.{IfErr, IfOk, codes}
use Rattle.std.proofs.lemmas.List.{append-nil}
use Rattle.occ_parse_part.specs.occ_parse_layout.declared.placed.Placed.{Placed}
use Rattle.occ_parse_part.specs.occ_parse_layout.Layout.{laid, laid_rows}
use Rattle.occ_parse_part.specs.occ_parse.declared.fault.ParseFault.{ParseFault}
use Rattle.occ_script.specs.declared.content.Content.TheVariants as content
use Rattle.occ_script.specs.declared.fault.ScriptFault.{ScriptFault}
use Rattle.occ_script.specs.declared.fault.ScriptFault.TheVariants as fault
use Rattle.occ_script.specs.declared.script.Step.{Step}
use Rattle.occ_script.specs.Faults.{text_fault}
use Rattle.occ_script.specs.Lines.{AreJudged, named_in}
use Rattle.occ_script.specs.Refusals.{IsBadEnd, IsBadHead, IsBadPart, IsBadProgram, IsBadStep, IsBadTarget, IsNoDerivation, IsUnformed}
use Rattle.occ_script.specs.Refusals.{another_word, bad_head, behind_head, behind_source, behind_step, further, in_part, in_source, in_lines, in_step, in_target, next_line, no_end, no_source, no_target, unread}
use Rattle.occ_script.specs.Scripts.{IsEnd, IsHead, IsInOrder, first_line, old_line}
use Rattle.occ_script.specs.Steps.{AreSteps, IsStep, and_step, no_step}
use Rattle.occ_script_lines.specs.declared.keyword.Head.{Head as Said}
use Rattle.occ_script_lines.specs.declared.section.Format.{Format}
use Rattle.occ_script_lines.specs.declared.section.Format.TheVariants as format
use Rattle.occ_script_lines.specs.Heads.{AreHeads}
use Rattle.occ_script_lines.specs.Lines.{Head, head_of, is_line}
use Rattle.occ_script_lines.specs.Sections.{Section, last_line_of, sections_of}

abbrev Table : Type 0
Table = List (List ℕ)

-- a line is that of these words, or isn't, as code finds it
pub line_is : (w v row line : List ℕ) (b answer : Bool) → b ≡ is_line w row → w ≡ v → row ≡ line → b ≡ answer → is_line v line ≡ answer
line_is w v row line b answer e f g h = sym (e ∙ (λ i. is_line (f i) (g i))) ∙ h

-- ---- the lines behind the first line

first_of : (ps : List Placed) (p : Placed) → 0 < length ps → p ≡ get_or ps 0 p → ps ≡ p ∷ drop 1 ps
first_of [] p h e = absurd (omega (arith, h))
first_of (q ∷ ps) p h e = ap (λ r. r ∷ ps) (sym e)

pub further_line : (f : Format) (old : Table) (s : Section) (ps qs : List Placed) (p : Placed) (stop : Option ParseFault) → is_line (old_line f) s.row ≡ false → is_line (first_line f) s.row ≡ true
    → AreJudged content.Part old s (laid_rows ps) stop → qs ≡ ps → 0 < length qs → p ≡ get_or qs 0 p → IsBadHead f old s (fault.Form p.number)
further_line f old s ps qs p stop a b j e h is =
    further (laid p) (laid_rows (drop 1 qs)) stop a b (subst (λ ls. AreJudged content.Part old s ls stop) (ap laid_rows (sym e ∙ first_of qs p h is)) j)

none_of : (ps : List Placed) → length ps ≤ 0 → laid_rows ps ≡ []
none_of [] h = refl
none_of (p ∷ ps) h = absurd (omega (arith, h))

pub no_line_judged : (old : Table) (s : Section) (ps qs : List Placed) (stop : Option ParseFault) → AreJudged content.Part old s (laid_rows ps) stop → qs ≡ ps → length qs ≤ 0 → AreJudged content.Part old s [] stop
no_line_judged old s ps qs stop j e h = subst (λ ls. AreJudged content.Part old s ls stop) (ap laid_rows (sym e) ∙ none_of qs h) j

pub unread_line : (f : Format) (old : Table) (s : Section) (ps qs : List Placed) (stop : Option ParseFault) (e : ParseFault) → is_line (old_line f) s.row ≡ false → is_line (first_line f) s.row ≡ true
    → AreJudged content.Part old s (laid_rows ps) stop → qs ≡ ps → length qs ≤ 0 → stop ≡ Some e → IsBadHead f old s (text_fault e)
unread_line f old s ps qs stop e a b j same h is = unread e a b (subst (λ o. AreJudged content.Part old s [] o) is (no_line_judged old s ps qs stop j same h))

-- ---- the steps so far, and what is left

-- whatever steps are left, they are steps of all behind those so far; and so is the first fault there
pub record AreBehind (last : ℕ) (old t : Table) (all rest : List Section) (steps : List Step) : Type 0 where
  pub steps_on : (new : Table) (others : List Section) (more : List Step) → AreSteps t new rest others more → AreSteps old new all others (steps ++ more)
  pub faults_on : (e : ScriptFault) → IsBadEnd last t rest e → IsBadEnd last old all e

pub one_more : (last : ℕ) (old t u : Table) (all rest behind : List Section) (s : Section) (steps longer : List Step) (step : Step) → AreBehind last old t all rest steps → rest ≡ s ∷ behind
    → is_line (codes "TO") s.row ≡ false → IsStep t u s step → longer ≡ steps ++ step ∷ [] → AreBehind last old u all behind longer
one_more last old t u all rest behind s steps longer step b is other st e = record {
  steps_on = λ new others more h. subst (λ (ss : List Step). AreSteps old new all others ss) (sym (append_assoc steps (step ∷ []) more) ∙ ap (λ ss. ss ++ more) (sym e))
      (b.steps_on new others (step ∷ more) (subst (λ (r : List Section). AreSteps t new r others (step ∷ more)) (sym is) (and_step t u new s behind others step more other st h)));
  faults_on = λ f h. b.faults_on f (subst (λ (r : List Section). IsBadEnd last t r f) (sym is) (behind_step t u s behind step f other st h));
}

pub end_is : (last : ℕ) (old t new : Table) (all rest behind : List Section) (s : Section) (steps : List Step) (text : List ℕ) → AreBehind last old t all rest steps → rest ≡ s ∷ behind → behind ≡ []
    → is_line (codes "TO") s.row ≡ true → IsInOrder content.Last t s text → new ≡ named_in s t → IsEnd old new all steps text
end_is last old t new all rest behind s steps text b is none here lines table = record {
  target = s;
  between = t;
  are_steps = subst (λ (ss : List Step). AreSteps old t all (s ∷ []) ss) (append-nil steps)
      (b.steps_on t (s ∷ []) [] (subst (λ (r : List Section). AreSteps t t r (s ∷ []) []) (sym (is ∙ ap (λ r. s ∷ r) none)) (no_step t (s ∷ []))));
  line = here;
  lines = lines;
  table = table;
}

pub bad_step : (last : ℕ) (old t : Table) (all rest behind : List Section) (s : Section) (steps : List Step) (e : ScriptFault) → AreBehind last old t all rest steps → rest ≡ s ∷ behind
    → is_line (codes "TO") s.row ≡ false → IsBadStep t s e ⊎ (e ≡ fault.Memory) → IsBadEnd last old all e ⊎ (e ≡ fault.Memory)
bad_step last old t all rest behind s steps e b is other (inl h) = inl (b.faults_on e (subst (λ (r : List Section). IsBadEnd last t r e) (sym is) (in_step t s behind e other h)))
bad_step last old t all rest behind s steps e b is other (inr h) = inr h

pub bad_target : (last : ℕ) (old t : Table) (all rest behind : List Section) (s : Section) (steps : List Step) (e : ScriptFault) → AreBehind last old t all rest steps → rest ≡ s ∷ behind
    → is_line (codes "TO") s.row ≡ true → IsBadTarget last t s behind e ⊎ (e ≡ fault.Memory) → IsBadEnd last old all e ⊎ (e ≡ fault.Memory)
bad_target last old t all rest behind s steps e b is here (inl h) = inl (b.faults_on e (subst (λ (r : List Section). IsBadEnd last t r e) (sym is) (in_target t s behind e here h)))
bad_target last old t all rest behind s steps e b is here (inr h) = inr h

pub none_left : (last : ℕ) (old t : Table) (all rest : List Section) (steps : List Step) → AreBehind last old t all rest steps → rest ≡ [] → IsBadEnd last old all (fault.Form last)
none_left last old t all rest steps b is = b.faults_on (fault.Form last) (subst (λ (r : List Section). IsBadEnd last t r (fault.Form last)) (sym is) (no_target t))

-- ---- the program behind FROM, and what follows

pub bad_source : (last next : ℕ) (old : Table) (all behind : List Section) (s : Section) (e : ScriptFault) → all ≡ s ∷ behind → is_line (codes "FROM") s.row ≡ true → next ≡ next_line behind last
    → IsBadProgram content.First old s next e ⊎ (e ≡ fault.Memory) → IsNoDerivation last old all e ⊎ (e ≡ fault.Memory)
bad_source last next old all behind s e is here n (inl h) =
    inl (subst (λ (r : List Section). IsNoDerivation last old r e) (sym is) (in_source s behind e here (subst (λ k. IsBadProgram content.First old s k e) n h)))
bad_source last next old all behind s e is here n (inr h) = inr h

pub bad_end : (last : ℕ) (old t : Table) (all behind : List Section) (s : Section) (text : List ℕ) (e : ScriptFault) → all ≡ s ∷ behind → is_line (codes "FROM") s.row ≡ true → IsInOrder content.First old s text
    → t ≡ named_in s old → IsBadEnd last t behind e ⊎ (e ≡ fault.Memory) → IsNoDerivation last old all e ⊎ (e ≡ fault.Memory)
bad_end last old t all behind s text e is here lines table (inl h) =
    inl (subst (λ (r : List Section). IsNoDerivation last old r e) (sym is) (behind_source text s behind e here lines (subst (λ u. IsBadEnd last u behind e) table h)))
bad_end last old t all behind s text e is here lines table (inr h) = inr h

pub another_source : (last : ℕ) (old : Table) (all behind : List Section) (s : Section) → all ≡ s ∷ behind → is_line (codes "FROM") s.row ≡ false → IsNoDerivation last old all (fault.Form s.number)
another_source last old all behind s is other = subst (λ (r : List Section). IsNoDerivation last old r (fault.Form s.number)) (sym is) (another_word s behind other)

pub no_section : (last : ℕ) (old : Table) (all : List Section) → all ≡ [] → IsNoDerivation last old all (fault.Form last)
no_section last old all is = subst (λ (r : List Section). IsNoDerivation last old r (fault.Form last)) (sym is) no_source

-- ---- the program behind TO

pub bad_target_lines : (last next : ℕ) (old : Table) (s : Section) (behind : List Section) (e : ScriptFault) → next ≡ next_line behind last → IsBadProgram content.Last old s next e ⊎ (e ≡ fault.Memory)
    → IsBadTarget last old s behind e ⊎ (e ≡ fault.Memory)
bad_target_lines last next old s behind e n (inl h) = inl (in_lines behind e (subst (λ k. IsBadProgram content.Last old s k e) n h))
bad_target_lines last next old s behind e n (inr h) = inr h

pub more_behind : (last : ℕ) (old : Table) (s more : Section) (behind others : List Section) (text : List ℕ) → behind ≡ more ∷ others → IsInOrder content.Last old s text → IsBadTarget last old s behind (fault.Form more.number)
more_behind last old s more behind others text is lines = subst (λ (r : List Section). IsBadTarget last old s r (fault.Form more.number)) (sym is) (no_end text more others lines)

-- ---- the line of a step

pub no_head_there : (o : Option Head) (f : Option Said) → AreHeads o f → f ≡ None → o ≡ None
no_head_there None f h e = refl
no_head_there (Some w) None h e = absurd h
no_head_there (Some w) (Some k) h e = absurd cc

pub head_there : (o : Option Head) (f : Option Said) (k : Said) → AreHeads o f → f ≡ Some k → o ≡ Some (record { law = k.law.now; dir = k.dir; path = k.path })
head_there None None k h e = absurd cc
head_there None (Some g) k h e = absurd h
head_there (Some w) None k h e = absurd h
head_there (Some w) (Some g) k h e =
    let same : g ≡ k = cc in
    (λ i. Some (record { law = sym h.law i; dir = sym h.dir i; path = sym h.path i })) ∙ ap (λ (x : Said). Some (record { law = x.law.now; dir = x.dir; path = x.path })) same

pub bad_part_of : (old : Table) (s : Section) (k : Head) (e : ScriptFault) → head_of (codes "STEP") s.row ≡ Some k → IsBadPart old s e ⊎ (e ≡ fault.Memory) → IsBadStep old s e ⊎ (e ≡ fault.Memory)
bad_part_of old s k e h (inl x) = inl (in_part k e h x)
bad_part_of old s k e h (inr x) = inr x

-- ---- the whole

pub err_weaker : {T E : Type 0} (r : Result T E) (P Q : E → Type 0) → ((e : E) → P e → Q e) → IfErr r P → IfErr r Q
err_weaker (Ok x) P Q f h = h
err_weaker (Err e) P Q f h = f e h

pub ok_weaker : {T E : Type 0} (r : Result T E) (P Q : T → Type 0) → ((x : T) → P x → Q x) → IfOk r P → IfOk r Q
ok_weaker (Ok x) P Q f h = f x h
ok_weaker (Err e) P Q f h = h

pub bad_head_of : (text : List ℕ) (old : Table) (head : Section) (rest : List Section) (e : ScriptFault) → sections_of format.Script text ≡ head ∷ rest → IsBadHead format.Script old head e ⊎ (e ≡ fault.Memory) → IsUnformed text old e ⊎ (e ≡ fault.Memory)
bad_head_of text old head rest e is (inl h) = inl (bad_head head rest e is h)
bad_head_of text old head rest e is (inr h) = inr h

pub bad_behind_of : (text : List ℕ) (old t : Table) (head : Section) (rest : List Section) (last : ℕ) (e : ScriptFault) → sections_of format.Script text ≡ head ∷ rest → IsHead format.Script old head
    → t ≡ named_in head old → last ≡ last_line_of text → IsNoDerivation last t rest e ⊎ (e ≡ fault.Memory) → IsUnformed text old e ⊎ (e ≡ fault.Memory)
bad_behind_of text old t head rest last e is good table same (inl h) =
    inl (behind_head head rest e is good (subst (λ u. IsNoDerivation (last_line_of text) u rest e) table (subst (λ n. IsNoDerivation n t rest e) same h)))
bad_behind_of text old t head rest last e is good table same (inr h) = inr h
