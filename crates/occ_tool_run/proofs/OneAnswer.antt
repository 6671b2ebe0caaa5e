-- A command line over the same files has one answer.
use Rattle.std.proofs.Common.{◌≡◌, ◌≤◌, ◌↔◌, ◌<◌, ◌^◌, ℕ, Bool, true, false, IsTrue, List, [], length, Option, Some, None, Result, Ok, Err, Vec, Global, refl, sym, ◌∙◌, ap, ap₂, subst, arith}
use Rattle.std.specs.declared.cmp.Ordering.{Ordering}
use Rattle.std.specs.declared.cmp.Ordering.TheVariants.{Less, Equal, Greater}
use Rattle.occ_syntax.specs.occ_base.declared.names.Name.{Name}
use Rattle.occ_syntax.specs.declared.scope.Program.{Program as Stored}
use Rattle.occ_syntax.specs.declared.scope.Kind.{Kind}
use Rattle.occ_syntax.specs.Tree.{Tree}
use Rattle.occ_syntax.specs.View.{tree}
use Rattle.occ_run_schedule.specs.occ_behaviour.declared.behaviour.Behaviour.{Behaviour}
use Rattle.occ_run_schedule.specs.occ_behaviour.declared.behaviour.Side.TheVariants.{First, Second}
use Rattle.occ_run_schedule.specs.occ_behaviour.declared.behaviour.Verdict.{Verdict}
use Rattle.occ_run_schedule.specs.occ_behaviour.Members.{IsMember}
use Rattle.occ_refine.specs.Verdict.{IsVerdictOf}
use Rattle.occ_run_schedule.specs.occ_compare.declared.refined.Refined.{Refined as Refinement}
use Rattle.occ_run_schedule.specs.occ_compare.Programs.{IsRefinement, IsDeadlockAnswer}
use Rattle.occ_replay.specs.occ_lex.Rows.{rows}
use Rattle.occ_run_schedule.specs.occ_nform_table.Normal.{Parts, table_fault, text_read}
use Rattle.occ_run_schedule.specs.occ_nform_table.Texts.{table_text}
use Rattle.occ_run_schedule.specs.occ_nform_table.declared.table.TableFault.{TableFault}
use Rattle.occ_run_schedule.specs.occ_nform_table.declared.table.TableRow.{TableRow}
use Rattle.occ_run_schedule.specs.occ_behaviour_read.Claims.{bare_lines, claim_read}
use Rattle.occ_run_schedule.specs.occ_behaviour_read.Behaviours.{AreBehaviourLines, IsBehaviourText}
use Rattle.occ_run_schedule.specs.occ_behaviour_read.Stops.{StopsAt}
use Rattle.occ_run_schedule.specs.occ_behaviour_read.Tables.{IsTableFault, IsTableOf, IsTableText, IsTextOf}
use Rattle.occ_tool_words.specs.occ_gen.declared.shape.Shape.{Shape}
use Rattle.occ_tool_words.specs.occ_gen.Programs.{program_text}
use Rattle.occ_read_renamed.specs.occ_nform.Counted.{counts_of}
use Rattle.occ_tool_words.specs.Words.{Job, same, normalise, normal, belongs, stress, refine, deadlock, replay, run, transform, expand, derive, job_of}
use Rattle.occ_tool_run.specs.declared.answer.Answer.{Answer}
use Rattle.occ_tool_run.specs.declared.answer.Answer.TheVariants.{Usage, Refused, Unusable, TooLong, RefusedTable, RefusedClaim, InterfacesDiffer, Compared, Counted, Member, Stressed, Allowed, Sought, RefusedSchedule, Stepped}
use Rattle.occ_tool_run.specs.declared.judge.Question.{Question}
use Rattle.occ_tool_run.specs.declared.judge.Question.TheVariants.{WhetherSame, WhetherRefined}
use Rattle.occ_call.specs.Files.{Files, most_table_bytes, order_of}
use Rattle.occ_run_schedule.specs.declared.following.Followed.{Followed}
use Rattle.occ_run_schedule.specs.Following.{IsFollowed}
use Rattle.occ_run_schedule.specs.declared.schedule.Schedule.{Schedule}
use Rattle.occ_run_schedule.specs.Schedules.{schedule_read}
use Rattle.occ_tool_run.specs.Runs.{IsRun, too_long_schedule, faulty_schedule, followed_schedule}
use Rattle.occ_tool_run.specs.Transforms.{IsExpandedTo, IsTransformed}
use Rattle.occ_tool_run.specs.Texts.{status_of, text_of}
use Rattle.occ_tool_run.specs.Accepts.{IsAccepted, Program}
use Rattle.occ_tool_run.specs.Stored.{OfStored, seen}
use Rattle.occ_tool_run.specs.Answers.{Takes, accepted, TakesBoth, Turned, refused_behind, unusable_behind, accepted_behind, Compares, apart, compared, Refines, other, allowed, Replies, Settles, IsSought, IsNormalised, IsChecked, too_long_table, faulty_table, normal_table, Checks}
use Rattle.occ_tool_run.specs.Answers.{IsJudged, too_long_claim, faulty_claim, judged_claim, Judges, IsStressed, Stresses, IsAnswer, usage, comparison, normalisation, checking, membership, stressing, refinement, seeking, replaying, running, transforming, expanding, normalisation_by_laws, Answers, Steps, Transforms, IsAnswerTo, IsDetermined}
use Rattle.occ_tool_run.proofs.AsWritten.{AreAsWritten, few_bytes}
use Rattle.occ_tool_run.proofs.Accepting.{IsInterfaceIn, names_read, read_kept}
use Rattle.occ_tool_run.proofs.Judging.{no_name_twice}
use Rattle.occ_tool_run.proofs.Once.{AreAlike, IsOnce, alike, same_bytes}
use Rattle.occ_tool_run.proofs.OneReplay.{IsOneScript, replays_alike}
use Rattle.occ_tool_run.proofs.OneTransform.{IsOneOutcome, expanded_alike, transformed_alike}
use Rattle.occ_tool_run.proofs.Taken.{AreOne, agree, as_refused, as_taken, as_unusable, of_stored, takes_alike}

ok_is : {X E : Type 0} (x y : X) (r : Result X E) → r ≡ Ok x → r ≡ Ok y → x ≡ y
ok_is x y r e f = cc

err_is : {X E : Type 0} (x y : E) (r : Result X E) → r ≡ Err x → r ≡ Err y → x ≡ y
err_is x y r e f = cc

not_both : {X E : Type 0} (x : X) (y : E) (r : Result X E) → r ≡ Ok x → r ≡ Err y → ⊥
not_both x y r e f = cc

same_truth : (x y : Bool) → (IsTrue x → IsTrue y) → (IsTrue y → IsTrue x) → x ≡ y
same_truth true true f g = refl
same_truth true false f g = sym (f refl)
same_truth false true f g = g refl
same_truth false false f g = refl

-- a text in memory is shorter than numerals are long
pub short : (text : Vec ℕ Global) → length text.items < 2 ^ 64
short text = omega (arith, text.ok, text.small)

-- two programs have one verdict, and one answer to whether one refines the other; one program is stuck in one way
pub record IsOneVerdict : Type 0 where
  pub one : (params : List (Name × Kind)) (p q : Tree) (v w : Verdict) → IsVerdictOf params p q v → IsVerdictOf params p q w → v ≡ w
  pub refinement : (params : List (Name × Kind)) (p q : Tree) (v w : Refinement) → IsRefinement params p q v → IsRefinement params p q w → v ≡ w
  pub deadlock : (params : List (Name × Kind)) (p : Tree) (v w : Option Behaviour) → IsDeadlockAnswer params p v → IsDeadlockAnswer params p w → v ≡ w

pub back : {A B C : Type 0} (P : A → B → C → Type 0) (x y : A) (z u : B) (v w : C) → x ≡ y → z ≡ u → v ≡ w → P y u w → P x z v
back {A} {B} {C} P x y z u v w e f g h =
    let F : A → Type 0 = λ t. P t z v in
    let G : B → Type 0 = λ t. P y t v in
    let H : C → Type 0 = λ t. P y u t in
    subst F (sym e) (subst G (sym f) (subst H (sym g) h))

-- a schedule leads to one place
abbrev pub IsOneFollowing : Type 0
IsOneFollowing = (p q : Stored) (s : Schedule) (f g : Followed) → p.params ≡ q.params → tree p.body ≡ tree q.body → IsFollowed p s f → IsFollowed q s g → f ≡ g

-- what the words ask for has this answer
pub does : (files : Files) (words : List (List ℕ)) (a : Answer) → IsAnswer files words a → IsAnswerTo files (job_of words) a
does files words a (usage none e) = let P : Option Job → Type 0 = λ j. IsAnswerTo files j a in subst P (sym none) e
does files words a (comparison x y is s) = let P : Option Job → Type 0 = λ j. IsAnswerTo files j a in subst P (sym is) s
does files words a (normalisation x is s) = let P : Option Job → Type 0 = λ j. IsAnswerTo files j a in subst P (sym is) s
does files words a (checking x is s) = let P : Option Job → Type 0 = λ j. IsAnswerTo files j a in subst P (sym is) s
does files words a (membership x y is s) = let P : Option Job → Type 0 = λ j. IsAnswerTo files j a in subst P (sym is) s
does files words a (stressing x n is s) = let P : Option Job → Type 0 = λ j. IsAnswerTo files j a in subst P (sym is) s
does files words a (refinement x y is s) = let P : Option Job → Type 0 = λ j. IsAnswerTo files j a in subst P (sym is) s
does files words a (seeking x is s) = let P : Option Job → Type 0 = λ j. IsAnswerTo files j a in subst P (sym is) s
does files words a (replaying x is s) = let P : Option Job → Type 0 = λ j. IsAnswerTo files j a in subst P (sym is) s
does files words a (running x y is s) = let P : Option Job → Type 0 = λ j. IsAnswerTo files j a in subst P (sym is) s
does files words a (transforming x y is s) = let P : Option Job → Type 0 = λ j. IsAnswerTo files j a in subst P (sym is) s
does files words a (expanding x path is s) = let P : Option Job → Type 0 = λ j. IsAnswerTo files j a in subst P (sym is) s
does files words a (normalisation_by_laws x is s) = let P : Option Job → Type 0 = λ j. IsAnswerTo files j a in subst P (sym is) s

-- what follows stands on the reading of a text being one, on the verdict being one, on texts being read as they are written, on scripts
-- being read and answered in one way, and on orders and expansions having one outcome
module _ (once : IsOnce) (only : IsOneVerdict) (written : AreAsWritten) (scripts : IsOneScript) (following : IsOneFollowing) (outcome : IsOneOutcome) where
  -- ---- two programs

  decided_alike : (p q r s : Program) (v w : Verdict) → p.params ≡ r.params → p.body ≡ r.body → q.body ≡ s.body
      → IsVerdictOf p.params p.body q.body v → IsVerdictOf r.params r.body s.body w → v ≡ w
  decided_alike p q r s v w e f g fv fw =
      let F : List (Name × Kind) → Tree → Tree → Type 0 = λ x y z. IsVerdictOf x y z w in
      only.one p.params p.body q.body v w fv (back F _ _ _ _ _ _ e f g fw)

  compares_alike : (j k m n : List (List ℕ)) (p q r s : Program) (a b : Answer) → AreOne j k p r → AreOne m n q s → Compares p m q a → Compares r n s b → AreAlike a b
  compares_alike j k m n p q r s a b first second (apart d e) (apart c h) = alike a b InterfacesDiffer InterfacesDiffer e refl h
  compares_alike j k m n p q r s a b first second (apart d e) (compared w o y h) = absurd (d (first.params ∙ o ∙ sym second.params))
  compares_alike j k m n p q r s a b first second (compared v o x e) (apart c h) = absurd (c (sym first.params ∙ o ∙ second.params))
  compares_alike j k m n p q r s a b first second (compared v o x e) (compared w l y h) =
      alike a b (Compared m v) (Compared n w) e (ap₂ Compared second.names (decided_alike p q r s v w first.params first.body second.body x y)) h

  refined_alike : (p q r s : Program) (v w : Refinement) → p.params ≡ r.params → p.body ≡ r.body → q.body ≡ s.body
      → IsRefinement p.params p.body q.body v → IsRefinement r.params r.body s.body w → v ≡ w
  refined_alike p q r s v w e f g fv fw =
      let F : List (Name × Kind) → Tree → Tree → Type 0 = λ x y z. IsRefinement x y z w in
      only.refinement p.params p.body q.body v w fv (back F _ _ _ _ _ _ e f g fw)

  refines_alike : (j k m n : List (List ℕ)) (p q r s : Program) (a b : Answer) → AreOne j k p r → AreOne m n q s → Refines p m q a → Refines r n s b → AreAlike a b
  refines_alike j k m n p q r s a b first second (other d e) (other c h) = alike a b InterfacesDiffer InterfacesDiffer e refl h
  refines_alike j k m n p q r s a b first second (other d e) (allowed w o y h) = absurd (d (first.params ∙ o ∙ sym second.params))
  refines_alike j k m n p q r s a b first second (allowed v o x e) (other c h) = absurd (c (sym first.params ∙ o ∙ second.params))
  refines_alike j k m n p q r s a b first second (allowed v o x e) (allowed w l y h) =
      alike a b (Allowed m v) (Allowed n w) e (ap₂ Allowed second.names (refined_alike p q r s v w first.params first.body second.body x y)) h

  replies_alike : (question : Question) (j k m n : List (List ℕ)) (p q r s : Program) (a b : Answer) → AreOne j k p r → AreOne m n q s → Replies question p m q a → Replies question r n s b → AreAlike a b
  replies_alike WhetherSame j k m n p q r s a b first second f g = compares_alike j k m n p q r s a b first second f g
  replies_alike WhetherRefined j k m n p q r s a b first second f g = refines_alike j k m n p q r s a b first second f g

  -- two programs, of which the second was read first
  turned_alike : (question : Question) (one two : Option (List ℕ)) (a b : Answer) → Turned question one two a → Turned question one two b → AreAlike a b
  turned_alike question one two a b (refused_behind f r s) (refused_behind g t u) =
      takes_alike once First one [] (λ m p x. x ≡ Refused Second f) (λ m p x. x ≡ Refused Second g) a b
      (λ m n p q y d e h. alike a b (Refused Second f) (Refused Second g) e (ap (Refused Second) (agree once two [] (as_refused f) (as_refused g) r t)) h) s u
  turned_alike question one two a b (refused_behind f r s) (unusable_behind n l g t u) = absurd (agree once two [] (as_refused f) (as_unusable n l g) r t)
  turned_alike question one two a b (refused_behind f r s) (accepted_behind n q t u) = absurd (agree once two [] (as_refused f) (as_taken n q) r t)
  turned_alike question one two a b (unusable_behind m k f r s) (refused_behind g t u) = absurd (agree once two [] (as_unusable m k f) (as_refused g) r t)
  turned_alike question one two a b (unusable_behind m k f r s) (unusable_behind n l g t u) =
      let d = agree once two [] (as_unusable m k f) (as_unusable n l g) r t in
      takes_alike once First one [] (λ j p x. x ≡ Unusable m Second k f) (λ j p x. x ≡ Unusable n Second l g) a b
      (λ j i p q y o e h. alike a b (Unusable m Second k f) (Unusable n Second l g) e (λ z. Unusable (d.names z) Second (d.lines z) (d.faults z)) h) s u
  turned_alike question one two a b (unusable_behind m k f r s) (accepted_behind n q t u) = absurd (agree once two [] (as_unusable m k f) (as_taken n q) r t)
  turned_alike question one two a b (accepted_behind m p r s) (refused_behind g t u) = absurd (agree once two [] (as_taken m p) (as_refused g) r t)
  turned_alike question one two a b (accepted_behind m p r s) (unusable_behind n l g t u) = absurd (agree once two [] (as_taken m p) (as_unusable n l g) r t)
  turned_alike question one two a b (accepted_behind m p r s) (accepted_behind n q t u) =
      let d = agree once two [] (as_taken m p) (as_taken n q) r t in
      let P : List (List ℕ) → Type 0 = λ o. Takes First one o (λ names x. Replies question x names q) b in
      takes_alike once First one m (λ names x. Replies question x names p) (λ names x. Replies question x names q) a b
      (λ j k x y z e f g. replies_alike question j k j k x p y q a b e (record { names = e.names; name = d.name; params = d.params; body = d.body }) f g) s (subst P (sym d.names) u)

  both_alike : (order : Ordering) (question : Question) (one two : Option (List ℕ)) (a b : Answer) → TakesBoth order question one two a → TakesBoth order question one two b → AreAlike a b
  both_alike Less question one two a b s t =
      takes_alike once First one [] (λ names p. Takes Second two names (Replies question p)) (λ names p. Takes Second two names (Replies question p)) a b
      (λ m n p q x first f g.
      let P : List (List ℕ) → Type 0 = λ o. Takes Second two o (Replies question q) b in
      takes_alike once Second two m (Replies question p) (Replies question q) a b (λ j k r u y second. replies_alike question m n j k p r q u a b first second) f (subst P (sym first.names) g))
      s t
  both_alike Equal question one two a b s t =
      takes_alike once First one [] (λ names p. Replies question p names p) (λ names p. Replies question p names p) a b (λ m n p q x d f g. replies_alike question m n m n p p q q a b d d f g) s t
  both_alike Greater question one two a b s t = turned_alike question one two a b s t

  settles_alike : (question : Question) (one two : Option (List ℕ)) (a b : Answer) → Settles question one two a → Settles question one two b → AreAlike a b
  settles_alike question one two a b s t = both_alike (order_of one two) question one two a b s.text t.text

  -- ---- where a program can be stuck

  sought_alike : (m n : List (List ℕ)) (p q : Program) (a b : Answer) → AreOne m n p q → IsSought m p a → IsSought n q b → AreAlike a b
  sought_alike m n p q a b d f g =
      let P : List (Name × Kind) → Tree → Option Behaviour → Type 0 = IsDeadlockAnswer in
      let one : f.found ≡ g.found = only.deadlock p.params p.body f.found g.found f.is (back P p.params q.params p.body q.body g.found g.found d.params d.body refl g.is) in
      alike a b (Sought m f.found) (Sought n g.found) f.answer_is (ap₂ Sought d.names one) g.answer_is

  -- ---- normal texts

  -- a program has one normal table
  one_table : (file : Option (List ℕ)) (m : List (List ℕ)) (p : Program) (r v : List TableRow) (u w : List ℕ) → IsAccepted file [] m p → IsTableOf m p.params p.body r u
      → IsTableOf m p.params p.body v w → (r ≡ v) × (u ≡ w)
  one_table file m p r v u w x a b =
      let o = names_read x.bytes [] m p x.text.numbers no_name_twice x.text.read in
      written.one_table m p.params p.body r v u w (read_kept x.bytes [] m p x.text.numbers no_name_twice x.text.read).scope
      (record { interface = o.1; params = o.2; rows = a.rows_are; count = a.count; states = a.low; fine = a.fine })
      (record { interface = o.1; params = o.2; rows = b.rows_are; count = b.count; states = b.low; fine = b.fine }) a.stands b.stands

  normalised_alike : (file : Option (List ℕ)) (m n : List (List ℕ)) (p q : Program) (a b : Answer) → IsAccepted file [] m p → AreOne m n p q → IsNormalised m p a → IsNormalised n q b → AreAlike a b
  normalised_alike file m n p q a b x d f g =
      let P : List (List ℕ) → List (Name × Kind) → Tree → Type 0 = λ ns ps t. IsTextOf ns ps t g.text.items in
      let y = f.is in
      let z : IsTextOf m p.params p.body g.text.items = back P m n p.params q.params p.body q.body d.names d.params d.body g.is in
      let one = one_table file m p y.rows z.rows y.states z.states x y.table z.table in
      let e : f.text.items ≡ g.text.items = y.written ∙ (λ i. table_text m p.params (one.0 i) (one.1 i)) ∙ sym z.written in
      record { status = ap status_of f.answer_is ∙ sym (ap status_of g.answer_is); text = ap text_of f.answer_is ∙ e ∙ sym (ap text_of g.answer_is) }

  stress_taken : (shape : Shape) (stages : ℕ) (a : Answer) → Stresses shape stages a → Takes First (Some (program_text shape stages)) [] (IsStressed shape stages) a
  stress_taken shape stages a s = accepted s.names s.program (record { bytes = program_text shape stages; there = refl; text = s.text }) s.stressed

  stressed_alike : (file : Option (List ℕ)) (shape : Shape) (stages : ℕ) (m n : List (List ℕ)) (p q : Program) (a b : Answer) → IsAccepted file [] m p → AreOne m n p q
      → IsStressed shape stages m p a → IsStressed shape stages n q b → AreAlike a b
  stressed_alike file shape stages m n p q a b x d f g =
      let P : List (List ℕ) → List (Name × Kind) → Tree → Type 0 = λ ns ps t. IsTableOf ns ps t g.rows g.states in
      let z : IsTableOf m p.params p.body g.rows g.states = back P m n p.params q.params p.body q.body d.names d.params d.body g.is in
      let one = one_table file m p f.rows g.rows f.states g.states x f.is z in
      let same : f.counts ≡ g.counts =
      f.counts_are ∙ (λ i. counts_of (record { names = d.names i; params = d.params i; rows = one.0 i; states = one.1 i })) ∙ sym g.counts_are in
      alike a b (Stressed shape stages f.counts) (Stressed shape stages g.counts) f.answer_is (ap (Stressed shape stages) same) g.answer_is

  -- ---- a text that may be a normal one

  table_read : (bytes : List ℕ) (t : Parts) → length bytes ≤ most_table_bytes → IsTableText t (rows bytes) → table_fault t ≡ None → text_read [] bytes ≡ Ok t
  table_read bytes t l r n = (written.tables bytes t (few_bytes bytes l)).1 (r, n)

  table_fault_read : (bytes : List ℕ) (f : TableFault) → length bytes ≤ most_table_bytes → IsTableFault (rows bytes) f → text_read [] bytes ≡ Err f
  table_fault_read bytes f l r = (written.table_faults bytes f (few_bytes bytes l)).1 r

  checked_alike : (bytes : List ℕ) (a b : Answer) → IsChecked bytes a → IsChecked bytes b → AreAlike a b
  checked_alike bytes a b (too_long_table l e) (too_long_table k h) = alike a b (TooLong First) (TooLong First) e refl h
  checked_alike bytes a b (too_long_table l e) (faulty_table g k s h) = absurd (omega (arith, l, k))
  checked_alike bytes a b (too_long_table l e) (normal_table u k s n h) = absurd (omega (arith, l, k))
  checked_alike bytes a b (faulty_table f l r e) (too_long_table k h) = absurd (omega (arith, l, k))
  checked_alike bytes a b (faulty_table f l r e) (faulty_table g k s h) =
      alike a b (RefusedTable f) (RefusedTable g) e (ap RefusedTable (err_is f g (text_read [] bytes) (table_fault_read bytes f l r) (table_fault_read bytes g k s))) h
  checked_alike bytes a b (faulty_table f l r e) (normal_table u k s n h) = absurd (not_both u f (text_read [] bytes) (table_read bytes u k s n) (table_fault_read bytes f l r))
  checked_alike bytes a b (normal_table t l r m e) (too_long_table k h) = absurd (omega (arith, l, k))
  checked_alike bytes a b (normal_table t l r m e) (faulty_table g k s h) = absurd (not_both t g (text_read [] bytes) (table_read bytes t l r m) (table_fault_read bytes g k s))
  checked_alike bytes a b (normal_table t l r m e) (normal_table u k s n h) =
      let one = ok_is t u (text_read [] bytes) (table_read bytes t l r m) (table_read bytes u k s n) in
      alike a b (Counted (length t.rows)) (Counted (length u.rows)) e (ap (λ (v : Parts). Counted (length v.rows)) one) h

  checks_alike : (file : Option (List ℕ)) (a b : Answer) → Checks file a → Checks file b → AreAlike a b
  checks_alike file a b s t =
      let P : List ℕ → Type 0 = λ bytes. IsChecked bytes b in
      checked_alike s.bytes a b s.text (subst P (same_bytes file t.bytes s.bytes t.there s.there) t.text)

  -- ---- a text that may be a behaviour

  behaviour_read : (bytes : List ℕ) (m n : List (List ℕ)) (p q : Program) (b : Behaviour) → IsInterfaceIn m p.params → m ≡ n → p.params ≡ q.params
      → IsBehaviourText n q.params b (bare_lines bytes) → claim_read m p.params bytes ≡ Ok b
  behaviour_read bytes m n p q b o e f is =
      let P : List (List ℕ) → List (Name × Kind) → Behaviour → Type 0 = λ ns ps c. IsBehaviourText ns ps c (bare_lines bytes) in
      (written.behaviours m p.params bytes b o.0 o.1 o.2).1 (back P m n p.params q.params b b e f refl is)

  claim_fault_read : (bytes : List ℕ) (m n : List (List ℕ)) (p q : Program) (line : ℕ) → IsInterfaceIn m p.params → m ≡ n → p.params ≡ q.params
      → StopsAt (AreBehaviourLines n q.params) (bare_lines bytes) line → claim_read m p.params bytes ≡ Err line
  claim_fault_read bytes m n p q line o e f is =
      let P : List (List ℕ) → List (Name × Kind) → ℕ → Type 0 = λ ns ps k. StopsAt (AreBehaviourLines ns ps) (bare_lines bytes) k in
      (written.behaviour_faults m p.params bytes line o.0 o.1 o.2).1 (back P m n p.params q.params line line e f refl is)

  member_alike : (p q : Program) (c d : Behaviour) (x y : Bool) → p.params ≡ q.params → p.body ≡ q.body → c ≡ d
      → IsTrue x ↔ IsMember p.params p.body c → IsTrue y ↔ IsMember q.params q.body d → x ≡ y
  member_alike p q c d x y e f g h k =
      let P : List (Name × Kind) → Tree → Behaviour → Type 0 = IsMember in
      same_truth x y (λ t. k.1 (back P q.params p.params q.body p.body d c (sym e) (sym f) (sym g) (h.0 t)))
      (λ t. h.1 (back P p.params q.params p.body q.body c d e f g (k.0 t)))

  judged_alike : (bytes : List ℕ) (m n : List (List ℕ)) (p q : Program) (a b : Answer) → IsInterfaceIn m p.params → AreOne m n p q → IsJudged bytes m p a → IsJudged bytes n q b → AreAlike a b
  judged_alike bytes m n p q a b o d (too_long_claim l e) (too_long_claim k h) = alike a b (TooLong Second) (TooLong Second) e refl h
  judged_alike bytes m n p q a b o d (too_long_claim l e) (faulty_claim y k s h) = absurd (omega (arith, l, k))
  judged_alike bytes m n p q a b o d (too_long_claim l e) (judged_claim c is k s w h) = absurd (omega (arith, l, k))
  judged_alike bytes m n p q a b o d (faulty_claim x l r e) (too_long_claim k h) = absurd (omega (arith, l, k))
  judged_alike bytes m n p q a b o d (faulty_claim x l r e) (faulty_claim y k s h) =
      let one = err_is x y (claim_read m p.params bytes) (claim_fault_read bytes m m p p x o refl refl r) (claim_fault_read bytes m n p q y o d.names d.params s) in
      alike a b (RefusedClaim x) (RefusedClaim y) e (ap RefusedClaim one) h
  judged_alike bytes m n p q a b o d (faulty_claim x l r e) (judged_claim c is k s w h) =
      absurd (not_both c x (claim_read m p.params bytes) (behaviour_read bytes m n p q c o d.names d.params s) (claim_fault_read bytes m m p p x o refl refl r))
  judged_alike bytes m n p q a b o d (judged_claim v is l r u e) (too_long_claim k h) = absurd (omega (arith, l, k))
  judged_alike bytes m n p q a b o d (judged_claim v is l r u e) (faulty_claim y k s h) =
      absurd (not_both v y (claim_read m p.params bytes) (behaviour_read bytes m m p p v o refl refl r) (claim_fault_read bytes m n p q y o d.names d.params s))
  judged_alike bytes m n p q a b o d (judged_claim v x l r u e) (judged_claim c y k s w h) =
      let one : v ≡ c = ok_is v c (claim_read m p.params bytes) (behaviour_read bytes m m p p v o refl refl r) (behaviour_read bytes m n p q c o d.names d.params s) in
      alike a b (Member x) (Member y) e (ap Member (member_alike p q v c x y d.params d.body one u w)) h

  judges_alike : (one two : Option (List ℕ)) (a b : Answer) → Judges one two a → Judges one two b → AreAlike a b
  judges_alike one two a b s t =
      let P : List ℕ → Type 0 = λ bytes. Takes First one [] (IsJudged bytes) b in
      takes_alike once First one [] (IsJudged s.bytes) (IsJudged s.bytes) a b (λ m n p q x d. judged_alike s.bytes m n p q a b (names_read x.bytes [] m p x.text.numbers no_name_twice x.text.read) d) s.text
      (subst P (same_bytes two t.bytes s.bytes t.there s.there) t.text)

  -- ---- a text that may be a schedule

  run_alike : (bytes : List ℕ) (m n : List (List ℕ)) (p q : Stored) (a b : Answer) → AreOne m n (seen p) (seen q) → IsRun bytes m p a → IsRun bytes n q b → AreAlike a b
  run_alike bytes m n p q a b d (too_long_schedule l e) (too_long_schedule k h) = alike a b (TooLong Second) (TooLong Second) e refl h
  run_alike bytes m n p q a b d (too_long_schedule l e) (faulty_schedule y k s h) = absurd (omega (arith, l, k))
  run_alike bytes m n p q a b d (too_long_schedule l e) (followed_schedule c g k s w h) = absurd (omega (arith, l, k))
  run_alike bytes m n p q a b d (faulty_schedule x l r e) (too_long_schedule k h) = absurd (omega (arith, l, k))
  run_alike bytes m n p q a b d (faulty_schedule x l r e) (faulty_schedule y k s h) =
      alike a b (RefusedSchedule x) (RefusedSchedule y) e (ap RefusedSchedule (err_is x y (schedule_read p.params bytes) r ((λ i. schedule_read (d.params i) bytes) ∙ s))) h
  run_alike bytes m n p q a b d (faulty_schedule x l r e) (followed_schedule c g k s w h) = absurd (not_both c x (schedule_read p.params bytes) ((λ i. schedule_read (d.params i) bytes) ∙ s) r)
  run_alike bytes m n p q a b d (followed_schedule v f l r u e) (too_long_schedule k h) = absurd (omega (arith, l, k))
  run_alike bytes m n p q a b d (followed_schedule v f l r u e) (faulty_schedule y k s h) = absurd (not_both v y (schedule_read p.params bytes) r ((λ i. schedule_read (d.params i) bytes) ∙ s))
  run_alike bytes m n p q a b d (followed_schedule v f l r u e) (followed_schedule c g k s w h) =
      let one : v ≡ c = ok_is v c (schedule_read p.params bytes) r ((λ i. schedule_read (d.params i) bytes) ∙ s) in
      let P : Schedule → Type 0 = λ x. IsFollowed q x g in
      alike a b (Stepped m f) (Stepped n g) e (ap₂ Stepped d.names (following p q v f g d.params d.body u (subst P (sym one) w))) h

  steps_alike : (one two : Option (List ℕ)) (a b : Answer) → Steps one two a → Steps one two b → AreAlike a b
  steps_alike one two a b s t =
      let P : List ℕ → Type 0 = λ bytes. Takes First one [] (OfStored (IsRun bytes)) b in
      takes_alike once First one [] (OfStored (IsRun s.bytes)) (OfStored (IsRun s.bytes)) a b
      (λ m n p q x d. of_stored (IsRun s.bytes) (IsRun s.bytes) m n p q a b d (λ y z e. run_alike s.bytes m n y z a b e)) s.text
      (subst P (same_bytes two t.bytes s.bytes t.there s.there) t.text)

  -- ---- orders, and an expansion

  transforms_alike : (one two : Option (List ℕ)) (a b : Answer) → Transforms one two a → Transforms one two b → AreAlike a b
  transforms_alike one two a b s t =
      let P : List ℕ → Type 0 = λ bytes. Takes First one [] (OfStored (IsTransformed bytes)) b in
      takes_alike once First one [] (OfStored (IsTransformed s.bytes)) (OfStored (IsTransformed s.bytes)) a b
      (λ m n p q x d. of_stored (IsTransformed s.bytes) (IsTransformed s.bytes) m n p q a b d (λ y z e. transformed_alike outcome s.bytes m n y z e a b)) s.text
      (subst P (same_bytes two t.bytes s.bytes t.there s.there) t.text)

  -- ---- command lines

  does_alike : (files : Files) (j : Option Job) (a b : Answer) → IsDetermined j → IsAnswerTo files j a → IsAnswerTo files j b → AreAlike a b
  does_alike files None a b fixed s t = alike a b Usage Usage s refl t
  does_alike files (Some (same x y)) a b fixed s t = settles_alike WhetherSame (files x) (files y) a b s t
  does_alike files (Some (refine x y)) a b fixed s t = settles_alike WhetherRefined (files x) (files y) a b s t
  does_alike files (Some (deadlock x)) a b fixed s t = takes_alike once First (files x) [] IsSought IsSought a b (λ m n p q y d. sought_alike m n p q a b d) s t
  does_alike files (Some (normalise x)) a b fixed s t = takes_alike once First (files x) [] IsNormalised IsNormalised a b (λ m n p q y d. normalised_alike (files x) m n p q a b y d) s t
  does_alike files (Some (normal x)) a b fixed s t = checks_alike (files x) a b s t
  does_alike files (Some (replay x)) a b fixed s t = replays_alike scripts (files x) a b s t
  does_alike files (Some (run x y)) a b fixed s t = steps_alike (files x) (files y) a b s t
  does_alike files (Some (transform x y)) a b fixed s t = transforms_alike (files x) (files y) a b s t
  does_alike files (Some (expand x path)) a b fixed s t =
      takes_alike once First (files x) [] (OfStored (IsExpandedTo path)) (OfStored (IsExpandedTo path)) a b
      (λ m n p q y d. of_stored (IsExpandedTo path) (IsExpandedTo path) m n p q a b d (λ z w e. expanded_alike outcome path m n z w e a b)) s t
  does_alike files (Some (belongs x y)) a b fixed s t = judges_alike (files x) (files y) a b s t
  does_alike files (Some (stress shape n)) a b fixed s t =
      takes_alike once First (Some (program_text shape n)) [] (IsStressed shape n) (IsStressed shape n) a b (λ j k p q y d. stressed_alike (Some (program_text shape n)) shape n j k p q a b y d)
      (stress_taken shape n a s) (stress_taken shape n b t)
  does_alike files (Some (derive x)) a b fixed s t = absurd fixed

  pub one_answer : (files : Files) (words : List (List ℕ)) (s t : ℕ) (a b : List ℕ) → IsDetermined (job_of words) → Answers files words s a → Answers files words t b → (s ≡ t) × (a ≡ b)
  one_answer files words s t a b fixed x y =
      let e = does_alike files (job_of words) x.answer y.answer fixed (does files words x.answer x.is) (does files words y.answer y.is) in
      (x.status_is ∙ e.status ∙ sym y.status_is, x.text_is ∙ e.text ∙ sym y.text_is)
