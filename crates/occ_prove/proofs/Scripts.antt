-- Answers to two programs that mean the same.
use Rattle.std.proofs.Common.{◌≡◌, ◌∙◌, ◌≤◌, ◌<◌, ◌++◌, ℕ, Bool, true, false, List, [], ◌∷◌, Option, Some, None, Result, Ok, Err, IfOk, refl, sym, subst, codes}
use Rattle.std.specs.Prelude.{IfNone, IfSome, OnOk}
use Rattle.std.proofs.lemmas.Bool.{false≢true}
use Rattle.std.specs.List.{AllByRecursion}
use Rattle.occ_syntax.specs.occ_base.declared.memory.Memory.{Memory}
use Rattle.occ_syntax.specs.occ_base.declared.names.Name.{Name}
use Rattle.occ_tool_run.specs.occ_derive.Derived.{IsDerivation}
use Rattle.occ_tool_run.specs.occ_derive.declared.fault.DeriveFault.{DeriveFault}
use Rattle.occ_tool_run.specs.occ_derive_moves.Steps.{Derivable}
use Rattle.occ_tool_run.specs.occ_engine.declared.outcome.Outcome.{Outcome}
use Rattle.occ_tool_run.specs.occ_engine.Moved.{moves_of}
use Rattle.occ_tool_run.specs.occ_engine.Outcomes.{IsTabled}
use Rattle.occ_tool_run.proofs.from_lex.Growing.{grows_not, grows_on}
use Rattle.occ_tool_run.specs.occ_lex.Growth.{GrowsByNames}
use Rattle.occ_tool_run.specs.occ_nform.Tabled.{IsTableOf}
use Rattle.occ_tool_run.specs.occ_nform_table.declared.table.Table.{Table}
use Rattle.occ_tool_run.specs.occ_nform_table.Behaviours.{Stands}
use Rattle.occ_tool_run.specs.occ_nform_table.Normal.{Parts}
use Rattle.occ_tool_run.specs.occ_nform_table.Tables.{IsNormal}
use Rattle.occ_tool_run.specs.occ_print.Spelled.{program_text}
use Rattle.occ_prove.specs.declared.pair.Pair.{Pair}
use Rattle.occ_prove.specs.declared.proof.Proof.{Proof}
use Rattle.occ_prove.specs.declared.proof.Proof.TheVariants.{Told}
use Rattle.occ_prove.proofs.Standing.{stands_for_same}
use Rattle.occ_prove.specs.Normal.{IsLong, IsShort, IsToNormal}
use Rattle.occ_prove.specs.Pairs.{AreApartAll, IsPairOf}
use Rattle.occ_prove.specs.Paths.{HasShortPath}
use Rattle.occ_prove.specs.Proofs.{IsProved, IsSame, Proves, as_same, by_laws, proved}
use Rattle.occ_prove.specs.Joined.{AreWritable, HaveOneHeader, IsProof}
use Rattle.occ_tool_run.specs.occ_script_write.declared.writing.Done.{Done}
use Rattle.occ_tool_run.specs.occ_script_write.Text.{line, steps_text, text_of_program}
use Rattle.occ_tool_run.specs.occ_script_back.Said.{IsSaid}
use Rattle.occ_syntax.specs.Counts.{controls}
use Rattle.occ_syntax.specs.declared.scope.Kind.{Kind}
use Rattle.occ_syntax.specs.declared.scope.Program.{Program}
use Rattle.occ_syntax.specs.Same.{SAME}
use Rattle.occ_syntax.specs.Scopes.{environment}
use Rattle.occ_syntax.specs.Tree.{Tree}
use Rattle.occ_syntax.specs.Types.{scope_kept}
use Rattle.occ_syntax.specs.View.{tree}
use Rattle.occ_tool_run.specs.occ_target.Program.{normal_body}
use Rattle.occ_tool_run.proofs.Deriving.{normal_body_of}
use Rattle.occ_tool_run.proofs.Judging.{accepted_file}
use Rattle.occ_tool_run.specs.declared.answer.Answer.{Answer}
use Rattle.occ_tool_run.specs.declared.judge.Question.TheVariants.{WhetherSame}
use Rattle.occ_tool_run.specs.occ_call.declared.loading.Loaded.{Loaded}
use Rattle.occ_tool_run.specs.occ_call.declared.loading.Loaded.TheVariants.{Bytes, TooLong}
use Rattle.occ_tool_run.specs.Accepts.{IsAccepted}
use Rattle.occ_tool_run.specs.Answers.{Settles}
use Rattle.occ_tool_run.specs.Derived.{IsNormalBody}
use Rattle.occ_tool_run.specs.occ_call.Files.{IsLoaded, IsShort as IsShortFile, most_bytes}
use Rattle.occ_tool_run.specs.Judged.{IsAcceptedFrom}
use Rattle.occ_tool_run.specs.Stored.{seen}
use Rattle.occ_tool_run.specs.Transforms.{IsScriptOf}
use Rattle.occ_tool_run.specs.occ_usage.Accepted.{IsAccepted as IsAcceptedProgram}

-- what is found, or isn't
pub some_of : {X : Type 0} (o : Option X) (x : X) (P : X → Type 0) → o ≡ Some x → IfSome o P → P x
some_of o x P e h = subst (λ z. IfSome z P) e h

pub none_of : {X : Type 0} (o : Option X) (P : Type 0) → o ≡ None → IfNone o P → P
none_of o P e h = subst (λ z. IfNone z P) e h

-- ---- two files

abbrev SettlesAll : Loaded → Loaded → Answer → Type 0
SettlesAll one two a = (x y : Option (List ℕ)) → IsLoaded most_bytes x one → IsLoaded most_bytes y two → Settles WhetherSame x y a

abbrev ProvesAll : Loaded → Loaded → Proof → Type 0
ProvesAll one two proof = (x y : Option (List ℕ)) → IsLoaded most_bytes x one → IsLoaded most_bytes y two → Proves x y proof

pub told_as_same : (one two : Loaded) (a : Answer) → SettlesAll one two a → (IsSame a → AreApartAll one two) → ProvesAll one two (Told a)
told_as_same one two a s apart = λ x y j k. as_same a (s x y j k) (λ is. apart is x y j k) refl

pub proved_by_laws : (r : Result Proof Memory) (one two : Loaded) (a : Answer) (pair : Pair) → SettlesAll one two a → IsSame a → IsPairOf one two pair
    → IfOk r (IsProved pair.names pair.left.program pair.right.program) → IfOk r (ProvesAll one two)
proved_by_laws (Err m) one two a pair s same is p = tt
proved_by_laws (Ok proof) one two a pair s same is p = λ x y j k.
    by_laws a is.between pair.names pair.left.program pair.right.program (s x y j k) same (accepted_file one x [] is.between pair.left.program is.first j)
    (accepted_file two y is.between pair.names pair.right.program is.second k) is.ready.header p

-- ---- programs that mean the same

-- of the answer to two files
abbrev pub SameLaw : Type 0
SameLaw = (one two : Option (List ℕ)) (between names : List (List ℕ)) (p q : Program) (a : Answer) → IsAccepted one [] between (seen p) → IsAccepted two between names (seen q)
    → Settles WhetherSame one two a → IsSame a → SAME (environment p.params) (tree p.body) (tree q.body)

-- a file that was read as a program is one that is there
loaded : (l : Loaded) (old new : List (List ℕ)) (p : Program) → IsShortFile most_bytes l → IsAcceptedFrom l old new p → (file : Option (List ℕ)) × IsLoaded most_bytes file l
loaded (Bytes text) old new p short a = (Some text.items, (refl, short))
loaded TooLong old new p short a = absurd a

-- the programs of two files that are answered with SAME
pub pair_means_the_same : SameLaw → (one two : Loaded) (a : Answer) (pair : Pair) → IsShortFile most_bytes one → IsShortFile most_bytes two → SettlesAll one two a → IsSame a → IsPairOf one two pair
    → SAME (environment pair.left.program.params) (tree pair.left.program.body) (tree pair.right.program.body)
pair_means_the_same law one two a pair s t all same is =
    let x = loaded one [] is.between pair.left.program s is.first in
    let y = loaded two is.between pair.names pair.right.program t is.second in
    law x.0 y.0 is.between pair.names pair.left.program pair.right.program a (accepted_file one x.0 [] is.between pair.left.program is.first x.1)
    (accepted_file two y.0 is.between pair.names pair.right.program is.second y.1) (all x.0 y.0 x.1 y.1) same

-- ---- normal programs

pub to_normal : (r : Result Outcome DeriveFault) (names : List (List ℕ)) (p : Program) (t : Table) → IsTableOf names p.params (tree p.body) t
    → IfOk r (IsDerivation p (normal_body names t.params t.rows t.states)) → OnOk r (controls (normal_body names t.params t.rows t.states) ≤ 4096)
    → IfOk r (IsToNormal names p)
to_normal (Err e) names p t is d few = tt
to_normal (Ok o) names p t is d few = record {
  derived = d.outcome_is;
  is = subst (IsNormalBody names p) (sym d.to_is) (normal_body_of names p t is);
  short = subst (λ b. controls b ≤ 4096) (sym d.to_is) few;
}

pub is_long : (names : List (List ℕ)) (p : Program) (t : Table) → IsTableOf names p.params (tree p.body) t
    → 4096 < controls (normal_body names t.params t.rows t.states) → IsLong names p
is_long names p t is many = record {
  new = names;
  grown = grows_not names;
  body = normal_body names t.params t.rows t.states;
  is = normal_body_of names p t is;
  long = many;
}

short_of : (names : List (List ℕ)) (p : Program) (o : Outcome) → IsToNormal names p o → IsShort names p
short_of names p o h = record { new = names; grown = grows_not names; body = tree o.to.body; is = h.is; short = h.short }

-- steps lead to each normal program
abbrev pub NormalLaw : Type 0
NormalLaw = (program : Program) (t : Parts) → IsAcceptedProgram program → t.params ≡ program.params → IsNormal t → Stands program.params t.rows t.states (tree program.body)
    → Derivable program.params (tree program.body) (normal_body t.names t.params t.rows t.states)

-- so from the second program to the normal program of the first, which means the same
pub leads_to_normal : NormalLaw → (names : List (List ℕ)) (p q : Program) (o : Outcome) → IsAcceptedProgram q → HaveOneHeader p q
    → SAME (environment p.params) (tree p.body) (tree q.body) → IsToNormal names p o → Derivable q.params (tree q.body) (tree o.to.body)
leads_to_normal law names p q o accepted header same is =
    let t = is.is.table in
    let all : Parts = record { names = names; params = t.params; rows = t.rows; states = t.states } in
    let scope = subst (λ (ps : List (Name × Kind)). scope_kept ps ≡ true) (sym header.1) accepted.typed.scope in
    let stands = stands_for_same p.params t.rows t.states (tree p.body) (tree q.body) scope same is.is.is.stands in
    subst (Derivable q.params (tree q.body)) (sym is.is.body_is)
    (law q all accepted (is.is.is.params_are ∙ header.1) is.is.is.normal (subst (λ (ps : List (Name × Kind)). Stands ps t.rows t.states (tree q.body)) header.1 stands))

-- ---- the script

pub script_proved : (names mid new : List (List ℕ)) (p q : Program) (there : Outcome) (steps : List Done) (a : Answer) → GrowsByNames names mid → GrowsByNames mid new
    → IsToNormal names p there → IsProof p q steps → AreWritable new steps → AllByRecursion IsSaid steps → IsScriptOf new p steps q a → IsProved names p q (Told a)
script_proved names mid new p q there steps a g h t is w said s =
    proved new steps a (short_of names p there t) is.steps (record { grown = grows_on names mid new g h; written = w; said = said }) s refl

pub steps_said : (steps : List Done) → AllByRecursion IsTabled steps → AllByRecursion HasShortPath steps → AllByRecursion IsSaid steps
steps_said [] t h = tt
steps_said (s ∷ steps) t h = (record { low = t.0.low; high = t.0.high; path = h.0 }, steps_said steps t.1 h.1)

-- ---- the script to a copy of a program

pub copied_script : (r : Result Answer Memory) (names : List (List ℕ)) (left right to : Program) (steps : List Done) → to.name ≡ right.name → to.params ≡ right.params
    → tree to.body ≡ tree right.body → IfOk r (IsScriptOf names left steps to) → IfOk r (IsScriptOf names left steps right)
copied_script (Err m) names left right to steps name params body s = tt
copied_script (Ok a) names left right to steps name params body s = record {
  name = sym name ∙ s.name;
  params = sym params ∙ s.params;
  same = subst (SAME (environment left.params) (tree left.body)) body s.same;
  text = s.text;
  text_is = s.text_is ∙ (λ i. line (codes "occam-script 2") ++ line (codes "FROM") ++ text_of_program names left ++ steps_text names steps ++ line (codes "TO")
      ++ program_text names (name i).0 (params i) (body i));
  answer_is = s.answer_is;
}

-- what was said of a program is said of the one that it is
pub script_to : (r : Result Answer Memory) (names : List (List ℕ)) (left right seen to : Program) (steps : List Done) → seen ≡ right → to.name ≡ seen.name → to.params ≡ seen.params
    → tree to.body ≡ tree seen.body → IfOk r (IsScriptOf names left steps to) → IfOk r (IsScriptOf names left steps right)
script_to r names left right seen to steps same name params body s =
    subst (λ q. IfOk r (IsScriptOf names left steps q)) same (copied_script r names left seen to steps name params body s)

pub not_same : (b : Bool) (a : Answer) (P : Type 0) → b ≡ false → (IsSame a → b ≡ true) → IsSame a → P
not_same b a P other is same = absurd (false≢true (sym other ∙ is same))
