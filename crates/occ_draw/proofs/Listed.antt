-- Steps told one after the other.
use Rattle.std.proofs.Common.{◌≡◌, ◌<◌, ◌≤◌, ◌+◌, ℕ, suc, List, [], ◌∷◌, ◌++◌, get_or, drop, drop-cons, length, map, Option, None, Some, Result, Ok, Err, append_assoc, refl, sym, ap, subst, ◌∙◌, arith}
use Rattle.std.proofs.lemmas.List.{append-nil, drop_all}
use Rattle.occ_syntax.specs.occ_base.declared.names.Name.{Name}
use Rattle.occ_tool_run.specs.occ_law.declared.table.LawId.{LawId}
use Rattle.occ_tool_run.specs.occ_meaning.Context.{part_at, put}
use Rattle.occ_tool_run.specs.occ_parse_part.Resolving.{part_fault, part_process}
use Rattle.occ_tool_run.specs.occ_parse.declared.fault.ParseFault.{ParseFault}
use Rattle.occ_tool_run.specs.occ_script.declared.script.Step.{Step}
use Rattle.occ_tool_run.specs.occ_script.Shown.{ShownStep, shown_step}
use Rattle.occ_tool_run.specs.occ_script_lines.Places.{scope_list}
use Rattle.occ_syntax.specs.declared.scope.Kind.{Kind}
use Rattle.occ_syntax.specs.Tree.{Tree}
use Rattle.occ_draw.specs.declared.fault.Lack.{Lack}
use Rattle.occ_draw.specs.declared.fault.Lack.TheVariants.{NoLaw, NoPath, NotAccepted}
use Rattle.occ_draw.specs.declared.fault.Untold.{Untold}
use Rattle.occ_draw.specs.declared.fault.Untold.TheVariants.{Lacking, Memory}
use Rattle.occ_draw.specs.Steps.{and_line, line_at, line_by, line_of_part, new_part, new_whole, step_line, steps_text, told}
use Rattle.occ_draw.specs.Stopping.{Adds, IsLacking, IsUnresolved, IsUntold}

-- ---- one step

module _ (S : List (Name × Kind)) (p : Tree) (n : ℕ) (s : ShownStep) where
  pub without_law : s.law ≡ None → told S p n s ≡ Err NoLaw
  without_law e = ap (line_by S p n s) e

  pub without_path : (law : LawId) → s.law ≡ Some law → part_at s.path p ≡ None → told S p n s ≡ Err NoPath
  without_path law e at = ap (line_by S p n s) e ∙ ap (line_at S p n s law) at

  by_part : (law : LawId) (old : Tree) (fault : Option ParseFault) → s.law ≡ Some law → part_at s.path p ≡ Some old → part_fault s.part (scope_list s.path S p) ≡ fault
      → told S p n s ≡ line_of_part (step_line n law s old (new_part S p s)) fault
  by_part law old fault e at f = ap (line_by S p n s) e ∙ ap (line_at S p n s law) at ∙ ap (line_of_part (step_line n law s old (new_part S p s))) f

  fault_there : (line : List ℕ) (fault : Option ParseFault) → (fault ≡ None → ⊥) → line_of_part line fault ≡ Err NotAccepted
  fault_there line None h = absurd (h refl)
  fault_there line (Some fault) h = refl

  -- the new part has a fault in the scope there
  pub without_part : (law : LawId) (old : Tree) (scope : List (Name × Kind)) (e : Untold) → s.law ≡ Some law → part_at s.path p ≡ Some old → scope ≡ scope_list s.path S p
      → IsUnresolved n (part_fault s.part scope) e → IsLacking n (told S p n s) e
  without_part law old scope Memory e at there h = tt
  without_part law old scope (Lacking step lack) e at there h =
      let line = step_line n law s old (new_part S p s) in
      let fault = part_fault s.part (scope_list s.path S p) in (
        h.0,
        by_part law old fault e at refl ∙ fault_there line fault (λ none. h.1.1 (ap (part_fault s.part) there ∙ none)) ∙ sym (ap Err h.1.0),
      )

  -- nothing is lacking
  pub with_all : (law : LawId) (old new : Tree) (scope : List (Name × Kind)) (before after : List ℕ) → s.law ≡ Some law → part_at s.path p ≡ Some old → scope ≡ scope_list s.path S p
      → part_fault s.part scope ≡ None → new ≡ part_process s.part scope → after ≡ before ++ step_line n law s old new → Adds before after (told S p n s)
  with_all law old new scope before after e at there none is added =
      let made : told S p n s ≡ Ok (step_line n law s old (new_part S p s)) = by_part law old None e at (sym (ap (part_fault s.part) there) ∙ none) in
      let line : after ≡ before ++ step_line n law s old (new_part S p s) = added ∙ ap (λ q. before ++ step_line n law s old q) (is ∙ ap (part_process s.part) there) in
      subst (Adds before after) (sym made) line

  -- the whole with the new part put in
  pub put_whole : (new whole : Tree) (scope : List (Name × Kind)) → scope ≡ scope_list s.path S p → new ≡ part_process s.part scope → whole ≡ put s.path p new → whole ≡ new_whole S p s
  put_whole new whole scope there is e = e ∙ ap (put s.path p) (is ∙ ap (part_process s.part) there)

-- ---- the list

-- a text in front of a list
abbrev pub with_front : List ℕ → Result (List ℕ) (ℕ × Lack) → Result (List ℕ) (ℕ × Lack)
with_front front (Ok text) = Ok (front ++ text)
with_front front (Err found) = Err found

line_moved : (n : ℕ) (old new : List ℕ) (line : Result (List ℕ) Lack) (rest : Result (List ℕ) (ℕ × Lack)) → Adds old new line → with_front new rest ≡ with_front old (and_line n line rest)
line_moved n old new (Ok line) (Ok text) e = ap (λ l. Ok (l ++ text)) e ∙ ap Ok (append_assoc old line text)
line_moved n old new (Ok line) (Err found) e = refl
line_moved n old new (Err lack) rest e = absurd e

module _ (S : List (Name × Kind)) where
  list_begun : (p : Tree) (n : ℕ) (s : ShownStep) (ss : List ShownStep) → and_line n (told S p n s) (steps_text S (new_whole S p s) (n + 1) ss) ≡ steps_text S p n (s ∷ ss)
  unfolding steps_text
  list_begun p n s ss = refl

  here : (steps : List Step) (i : ℕ) (step : Step) → i < length steps → get_or steps i step ≡ step → drop i steps ≡ step ∷ drop (i + 1) steps
  here steps i step h at =
      let next : suc i ≡ i + 1 = omega arith in
      drop-cons steps i step h ∙ ap (λ s. s ∷ drop (suc i) steps) at ∙ ap (λ k. step ∷ drop k steps) next

  -- a step is told, and the others are left
  pub told_further : (p q : Tree) (n : ℕ) (steps : List Step) (i : ℕ) (step : Step) (old new : List ℕ) (all : Result (List ℕ) (ℕ × Lack)) → i < length steps → get_or steps i step ≡ step
      → with_front old (steps_text S p n (map shown_step (drop i steps))) ≡ all → Adds old new (told S p n (shown_step step)) → q ≡ new_whole S p (shown_step step)
      → with_front new (steps_text S q (n + 1) (map shown_step (drop (i + 1) steps))) ≡ all
  told_further p q n steps i step old new all h at e added put =
      let s = shown_step step in
      let ss = map shown_step (drop (i + 1) steps) in
      ap (λ t. with_front new (steps_text S t (n + 1) ss)) put
      ∙ line_moved n old new (told S p n s) (steps_text S (new_whole S p s) (n + 1) ss) added
      ∙ ap (with_front old) (list_begun p n s ss)
      ∙ ap (λ l. with_front old (steps_text S p n (map shown_step l))) (sym (here steps i step h at)) ∙ e

  -- a step lacks something
  pub told_not : (p : Tree) (n : ℕ) (steps : List Step) (i : ℕ) (step : Step) (old : List ℕ) (all : Result (List ℕ) (ℕ × Lack)) (e : Untold) → i < length steps → get_or steps i step ≡ step
      → with_front old (steps_text S p n (map shown_step (drop i steps))) ≡ all → IsLacking n (told S p n (shown_step step)) e → IsUntold all e
  told_not p n steps i step old all Memory h at is lacks = tt
  told_not p n steps i step old all (Lacking k lack) h at is lacks =
      let s = shown_step step in
      let ss = map shown_step (drop (i + 1) steps) in
      sym is ∙ ap (λ l. with_front old (steps_text S p n (map shown_step l))) (here steps i step h at)
      ∙ sym (ap (with_front old) (list_begun p n s ss))
      ∙ ap (λ line. with_front old (and_line n line (steps_text S (new_whole S p s) (n + 1) ss))) lacks.1
      ∙ ap (λ m. Err (m, lack)) (sym lacks.0)

  -- all are told
  pub told_whole : (p : Tree) (n : ℕ) (steps : List Step) (i : ℕ) (text : List ℕ) (all : Result (List ℕ) (ℕ × Lack)) → length steps ≤ i
      → with_front text (steps_text S p n (map shown_step (drop i steps))) ≡ all → all ≡ Ok text
  unfolding steps_text
  told_whole p n steps i text all past is =
      sym is ∙ ap (λ l. with_front text (steps_text S p n (map shown_step l))) (drop_all i steps past) ∙ ap Ok (append-nil text)
