-- Two derivations of one program end in one program.
use Rattle.std.proofs.Common.{◌≡◌, ◌≤◌, ◌<◌, ℕ, true, List, [], Option, Some, refl, sym, ◌∙◌, ap, subst, arith}
use Rattle.occ_derive.specs.occ_target.Inputs.{input_names}
use Rattle.occ_derive.specs.occ_target.Program.{normal_body}
use Rattle.occ_read_renamed.specs.occ_nform.Tabled.{IsTableOf}
use Rattle.occ_replay.specs.occ_lex.Growth.{GrowsByNames}
use Rattle.occ_run_schedule.specs.occ_behaviour.declared.behaviour.Side.TheVariants.{First}
use Rattle.occ_run_schedule.specs.occ_nform_table.Behaviours.{Stands}
use Rattle.occ_run_schedule.specs.occ_nform_table.Tables.{IsNormal}
use Rattle.occ_run_schedule.specs.occ_nform_table.declared.table.Table.{Table}
use Rattle.occ_run_schedule.specs.occ_nform_table.declared.table.TableRow.{TableRow}
use Rattle.occ_syntax.specs.Counts.{controls}
use Rattle.occ_syntax.specs.Tree.{Tree}
use Rattle.occ_syntax.specs.Types.{scope_kept}
use Rattle.occ_syntax.specs.View.{tree}
use Rattle.occ_syntax.specs.declared.scope.Kind.{Kind}
use Rattle.occ_syntax.specs.declared.scope.Program.{Program as Stored}
use Rattle.occ_syntax.specs.occ_base.declared.names.Name.{Name}
use Rattle.occ_tool_words.specs.Words.{Job, derive, job_of}
use Rattle.occ_tool_run.specs.declared.answer.Answer.{Answer}
use Rattle.occ_tool_run.specs.declared.answer.Answer.TheVariants.{Refused, Unusable}
use Rattle.occ_tool_run.specs.Accepts.{Program}
use Rattle.occ_tool_run.specs.Answers.{Answers, Derives, IsAnswerTo, accepted, refused, unusable}
use Rattle.occ_call.specs.Files.{Files}
use Rattle.occ_tool_run.specs.Derived.{IsDerived, IsNormalBody, derived, long}
use Rattle.occ_tool_run.specs.Ends.{HaveOneEnd, IsScriptTo, one_end, one_text}
use Rattle.occ_tool_run.specs.Stored.{OfStored, seen}
use Rattle.occ_tool_run.specs.Texts.{status_of, text_of}
use Rattle.occ_tool_run.proofs.Accepting.{read_kept}
use Rattle.occ_tool_run.proofs.Judging.{no_name_twice}
use Rattle.occ_tool_run.proofs.Once.{IsOnce, alike}
use Rattle.occ_tool_run.proofs.OneAnswer.{back, does}
use Rattle.occ_tool_run.proofs.Taken.{AreOne, agree, as_refused, as_taken, as_unusable}

-- a program has one normal table
abbrev pub TableLaw : Type 0
TableLaw = (names : List (List ℕ)) (params : List (Name × Kind)) (p : Tree) (r v : List TableRow) (u w : List ℕ) → scope_kept params ≡ true
    → IsNormal (record { names = names; params = params; rows = r; states = u }) → IsNormal (record { names = names; params = params; rows = v; states = w })
    → Stands params r u p → Stands params v w p → (r ≡ v) × (u ≡ w)

-- what follows stands on the reading of a text being one, and on the table
module _ (once : IsOnce) (table : TableLaw) where
  -- a program has one normal program
  normal_once : (m n : List (List ℕ)) (x y : Stored) (a b : Tree) → AreOne m n (seen x) (seen y) → scope_kept x.params ≡ true
      → IsNormalBody m x a → IsNormalBody n y b → a ≡ b
  normal_once m n x y a b d k f g =
      let t = f.table in
      let u = g.table in
      let P : List (List ℕ) → List (Name × Kind) → Tree → Type 0 = λ ns ps e. IsTableOf ns ps e u in
      let h : IsTableOf m x.params (tree x.body) u = back P m n x.params y.params (tree x.body) (tree y.body) d.names d.params d.body g.is in
      let N : Table → List (Name × Kind) → Type 0 = λ v ps. IsNormal (record { names = m; params = ps; rows = v.rows; states = v.states }) in
      let F : List (Name × Kind) → Type 0 = λ ps. N t ps in
      let G : List (Name × Kind) → Type 0 = λ ps. N u ps in
      let one = table m x.params (tree x.body) t.rows u.rows t.states u.states k (subst F f.is.params_are f.is.normal) (subst G h.params_are h.normal) f.is.stands h.stands in
      let params : t.params ≡ u.params = f.is.params_are ∙ sym h.params_are in
      f.body_is ∙ (λ i. normal_body (d.names i) (params i) (one.0 i) (one.1 i)) ∙ sym g.body_is

  derived_once : (m n : List (List ℕ)) (x y : Stored) (a b : Answer) → AreOne m n (seen x) (seen y) → scope_kept x.params ≡ true
      → IsDerived m x a → IsDerived n y b → HaveOneEnd (status_of a) (text_of a) (status_of b) (text_of b)
  derived_once m n x y a b d k (long body f c e) (long other g l h) = one_text (ap status_of (e ∙ sym h)) (ap text_of (e ∙ sym h))
  derived_once m n x y a b d k (long body f c e) (derived new steps to g l w z v r) =
      let P : Tree → Type 0 = λ q. 4096 < controls q in
      let j : 4096 < controls (tree to.body) = subst P (normal_once m n x y body (tree to.body) d k f g) c in
      absurd (omega (arith, j, l))
  derived_once m n x y a b d k (derived new steps to f c w z v r) (long body g l h) =
      let P : Tree → Type 0 = λ q. 4096 < controls q in
      let j : 4096 < controls (tree to.body) = subst P (sym (normal_once m n x y (tree to.body) body d k f g)) l in
      absurd (omega (arith, j, c))
  derived_once m n x y a b d k (derived new steps to f c w z v r) (derived new' steps' to' g c' w' z' v' r') =
      let P : List (Name × Kind) → Type 0 = λ ps. GrowsByNames (input_names n ps) new' in
      let Q : List (List ℕ) → Type 0 = λ ns. GrowsByNames (input_names ns x.params) new' in
      let body : tree to'.body ≡ tree to.body = sym (normal_once m n x y (tree to.body) (tree to'.body) d k f g) in
      let name : to'.name ≡ x.name = r'.name ∙ sym d.name in
      let params : to'.params ≡ x.params = r'.params ∙ sym d.params in
      one_end m (seen x) (tree to.body) (ap status_of r.answer_is) (ap status_of r'.answer_is)
      (record {
        new = new;
        from = x;
        steps = steps;
        to = to;
        grown = v;
        from_is = refl;
        to_is = λ i. record { name = r.name i; params = r.params i; body = tree to.body };
        text_is = ap text_of r.answer_is ∙ r.text_is;
      })
      (record {
        new = new';
        from = y;
        steps = steps';
        to = to';
        grown = subst Q (sym d.names) (subst P (sym d.params) v');
        from_is = λ i. record { name = d.name i; params = d.params i; body = d.body i };
        to_is = λ i. record { name = name i; params = params i; body = body i };
        text_is = ap text_of r'.answer_is ∙ r'.text_is;
      })

  ends_once : (file : Option (List ℕ)) (a b : Answer) → Derives file a → Derives file b → HaveOneEnd (status_of a) (text_of a) (status_of b) (text_of b)
  ends_once file a b (refused f r e) (refused g s h) =
      let o = alike a b (Refused First f) (Refused First g) e (ap (Refused First) (agree once file [] (as_refused f) (as_refused g) r s)) h in
      one_text o.status o.text
  ends_once file a b (refused f r e) (unusable n l g s h) = absurd (agree once file [] (as_refused f) (as_unusable n l g) r s)
  ends_once file a b (refused f r e) (accepted n q s y) = absurd (agree once file [] (as_refused f) (as_taken n q) r s)
  ends_once file a b (unusable m k f r e) (refused g s h) = absurd (agree once file [] (as_unusable m k f) (as_refused g) r s)
  ends_once file a b (unusable m k f r e) (unusable n l g s h) =
      let d = agree once file [] (as_unusable m k f) (as_unusable n l g) r s in
      let o = alike a b (Unusable m First k f) (Unusable n First l g) e (λ i. Unusable (d.names i) First (d.lines i) (d.faults i)) h in
      one_text o.status o.text
  ends_once file a b (unusable m k f r e) (accepted n q s y) = absurd (agree once file [] (as_unusable m k f) (as_taken n q) r s)
  ends_once file a b (accepted m p r x) (refused g s h) = absurd (agree once file [] (as_taken m p) (as_refused g) r s)
  ends_once file a b (accepted m p r x) (unusable n l g s h) = absurd (agree once file [] (as_taken m p) (as_unusable n l g) r s)
  ends_once file a b (accepted m p r x) (accepted n q s y) =
      let P : Program → Type 0 = λ z. AreOne m n z q in
      let Q : Program → Type 0 = λ z. AreOne m n (seen x.stored) z in
      let K : Program → Type 0 = λ z. scope_kept z.params ≡ true in
      let d : AreOne m n (seen x.stored) (seen y.stored) = subst Q y.program_is (subst P x.program_is (agree once file [] (as_taken m p) (as_taken n q) r s)) in
      let k : scope_kept x.stored.params ≡ true = subst K x.program_is (read_kept r.bytes [] m p r.text.numbers no_name_twice r.text.read).scope in
      derived_once m n x.stored y.stored a b d k x.answered y.answered

  script_moved : (names : List (List ℕ)) (p : Program) (body : Tree) (u v : List ℕ) → u ≡ v → IsScriptTo names p body v → IsScriptTo names p body u
  script_moved names p body u v e h = let P : List ℕ → Type 0 = λ w. IsScriptTo names p body w in subst P (sym e) h

  moved : (s t x y : ℕ) (a b u v : List ℕ) → s ≡ x → t ≡ y → a ≡ u → b ≡ v → HaveOneEnd x u y v → HaveOneEnd s a t b
  moved s t x y a b u v e f g h (one_text i j) = one_text (e ∙ i ∙ sym f) (g ∙ j ∙ sym h)
  moved s t x y a b u v e f g h (one_end names p body i j k l) = one_end names p body (e ∙ i) (f ∙ j) (script_moved names p body a u g k) (script_moved names p body b v h l)

  pub have_one_end : (files : Files) (words : List (List ℕ)) (program : List ℕ) (s t : ℕ) (a b : List ℕ) → job_of words ≡ Some (derive program)
      → Answers files words s a → Answers files words t b → HaveOneEnd s a t b
  have_one_end files words program s t a b k x y =
      let P : Option Job → Type 0 = λ j. IsAnswerTo files j x.answer in
      let Q : Option Job → Type 0 = λ j. IsAnswerTo files j y.answer in
      moved s t (status_of x.answer) (status_of y.answer) a b (text_of x.answer) (text_of y.answer) x.status_is y.status_is x.text_is y.text_is
      (ends_once (files program) x.answer y.answer (subst P k (does files words x.answer x.is)) (subst Q k (does files words y.answer y.is)))
