-- A script that was printed is joined.
use Rattle.std.proofs.Common.{◌≡◌, ◌≢◌, ℕ, ◌≤◌, true, List, [], ◌∷◌, length, Option, None, Some, refl, sym, ap, subst, ◌∙◌, arith}
use Rattle.std.specs.Prelude.{codes}
use Rattle.std.specs.List.{AllByRecursion}
use Rattle.std.proofs.lemmas.Bool.{le-leb}
use Rattle.occ_witness.specs.occ_base.Names.{with_text}
use Rattle.occ_witness.specs.occ_base.declared.names.Name.{Name}
use Rattle.occ_witness.specs.occ_derive_moves.Moves.{AreNarrow}
use Rattle.occ_witness.specs.occ_derive_moves.Steps.{Steps}
use Rattle.occ_witness.specs.occ_engine.Moved.{moves_of}
use Rattle.occ_witness.specs.occ_engine_known.Known.{NamesAreBelow}
use Rattle.occ_witness.specs.occ_replay_rules.Moves.{Move, Moves}
use Rattle.occ_witness.proofs.from_engine_written.Printed.{KeptLaw, NameLaw, names_below, printable}
use Rattle.occ_witness.specs.occ_lex.Growth.{GrowsByNames, IsNameText, with_texts}
use Rattle.occ_witness.specs.occ_lex.Symbols.{Extends}
use Rattle.occ_witness.proofs.from_lex.Interned.{extends_trans, longer}
use Rattle.occ_witness.specs.occ_parse.declared.bound.Bound.{Bound}
use Rattle.occ_witness.specs.occ_parse.declared.bound.Bound.TheVariants as bound
use Rattle.occ_witness.specs.occ_parse.Limits.{is_limited}
use Rattle.occ_witness.specs.occ_parse.Reading.{IsRead}
use Rattle.occ_witness.specs.occ_parse_rules.Places.{Place}
use Rattle.occ_witness.specs.occ_print.Lines.{part_lines}
use Rattle.occ_witness.specs.occ_print_back.Back.{deepest}
use Rattle.occ_witness.specs.occ_print_back.Placed.{IsTable}
use Rattle.occ_witness.specs.occ_script_back.Tables.{Grows}
use Rattle.occ_tool_laws.proofs.Replayed.{IsDerived, OneLaw, replay_joined}
use Rattle.occ_tool_laws.proofs.Told.{settled}
use Rattle.occ_tool_laws.specs.ProveJoined.{IsJoined}
use Rattle.occ_prove.specs.declared.proof.Proof.{Proof}
use Rattle.occ_prove.specs.Answers.{Answers as AnswersProve}
use Rattle.occ_prove.specs.Proofs.{IsProved, Proves, as_same, by_laws, long, proved, status_of_proof, text_of_proof}
use Rattle.occ_witness.specs.occ_script.declared.fault.ScriptFault.{ScriptFault}
use Rattle.occ_witness.specs.occ_script.declared.script.Script.{Script}
use Rattle.occ_witness.specs.occ_script.Refusals.{IsScriptFault}
use Rattle.occ_witness.specs.occ_script.Scripts.{IsScript}
use Rattle.occ_witness.specs.occ_script_back.Joined.{AreNamedSteps, AreWrittenMoves, IsJoined as IsJoinedScript}
use Rattle.occ_witness.proofs.from_script_table.Named.{as_it_is, name_grown, no_names, one_behind}
use Rattle.occ_witness.specs.occ_script_write.declared.writing.Done.{Done}
use Rattle.occ_witness.specs.occ_script_write.Text.{IsWritable, script_text}
use Rattle.occ_witness.specs.occ_script_back.Said.{IsSaid}
use Rattle.occ_witness.specs.occ_syntax.declared.scope.Kind.{Kind}
use Rattle.occ_witness.specs.occ_syntax.declared.scope.Program.{Program}
use Rattle.occ_witness.specs.occ_syntax.Tree.{Tree}
use Rattle.occ_witness.specs.occ_syntax.View.{tree}
use Rattle.occ_tool_laws.specs.Joined.{IsPrintedNarrow}
use Rattle.occ_witness.proofs.from_tool_run.OneAnswer.{does}
use Rattle.occ_witness.proofs.from_tool_run.Accepting.{keeps_usage, read_typed}
use Rattle.occ_witness.proofs.from_tool_run.Judging.{no_name_twice}
use Rattle.occ_witness.specs.occ_tool_run.Accepts.{IsAccepted}
use Rattle.occ_witness.specs.occ_tool_run.Answers.{Answers as ToolAnswers, IsAnswer, IsAnswerTo}
use Rattle.occ_witness.specs.occ_tool_run.declared.answer.Answer.{Answer}
use Rattle.occ_witness.specs.occ_tool_run.Derivations.{Replays}
use Rattle.occ_witness.specs.occ_call.Files.{Files, most_script_bytes}
use Rattle.occ_witness.specs.occ_tool_run.Stored.{seen}
use Rattle.occ_witness.specs.occ_tool_run.Texts.{figure_text, status_of, text_of}
use Rattle.occ_witness.specs.occ_tool_words.Words.{Job, job_of, replay}

abbrev Table : Type 0
Table = List (List ℕ)

-- ---- the laws that this stands on

pub record PrintedLaw : Type 0 where
  pub kept : (names : Table) (P : ℕ → Place) (from to : Program) (steps : List Done) → AreWrittenMoves names P from steps to
      → length (script_text names from steps to) ≤ 4194304 → (e : ScriptFault) → IsScriptFault (script_text names from steps to) [] e → ⊥
  pub joined : (names : Table) (P : ℕ → Place) (from to : Program) (steps : List Done) → AreWrittenMoves names P from steps to
      → (new : Table) (script : Script) → IsScript (script_text names from steps to) [] new script → IsJoinedScript steps script

abbrev pub ProgramsLaw : Type 0
ProgramsLaw = (b : Bound) (text : List ℕ) (old new : Table) (P : ℕ → Place) (name : Name) (params : List (Name × Kind)) (body : Tree) (numbers : List ℕ)
    → IsTable old P → IsRead b text old new name params body numbers → Grows old P new

abbrev pub LevelsLaw : Type 0
LevelsLaw = (b : Bound) (text : List ℕ) (old new : Table) (name : Name) (params : List (Name × Kind)) (body : Tree) (numbers : List ℕ)
    → is_limited b ≡ true → IsRead b text old new name params body numbers → deepest (part_lines 1 body) ≤ 64

abbrev pub StayLaw : Type 0
StayLaw = (m n : ℕ) (S : List (Name × Kind)) (p : Tree) → m ≤ n → NamesAreBelow m S p → NamesAreBelow n S p

abbrev pub NarrowLaw : Type 0
NarrowLaw = (S : List (Name × Kind)) (p q : Tree) (moves : List Move) → Steps S p moves q → AreNarrow moves → Moves S p moves q

pub record Laws : Type 0 where
  pub programs : ProgramsLaw
  pub levels : LevelsLaw
  pub stay : StayLaw
  pub name : NameLaw
  pub kept : KeptLaw
  pub narrow : NarrowLaw

-- ---- the table of names

-- each name by itself
abbrev here : ℕ → Place
here x = record { name = x; element = None }

-- a table of places with names of the language behind it is one
grown_by : (names : Table) (P : ℕ → Place) → IsTable names P → (texts : List (List ℕ)) → AllByRecursion IsNameText texts → Grows names P (with_texts names texts)
unfolding with_texts
grown_by names P table [] h = as_it_is names P table
grown_by names P table (text ∷ texts) h =
    one_behind names (with_text names text) (with_texts (with_text names text) texts) P table
    (name_grown names P table text h.0.kind (le-leb (length text) 32 h.0.short))
    (λ Q t e. grown_by (with_text names text) Q t texts h.1)

grown : (names new : Table) (P : ℕ → Place) → IsTable names P → GrowsByNames names new → Grows names P new
grown names new P table g = subst (Grows names P) (sym g.new_is) (grown_by names P table g.texts g.named)

-- ---- moves that are written

named : (new : Table) (steps : List Done) → AllByRecursion (IsWritable new) steps → AllByRecursion IsSaid steps → AreNamedSteps (length new) steps
named new [] h k = tt
named new (done ∷ steps) h k = (record { said = k.0; known = h.0.known }, named new steps h.1 k.1)

module _ (laws : Laws) (one two : Option (List ℕ)) (between names new : Table) (p q : Program) (first : IsAccepted one [] between (seen p)) (second : IsAccepted two between names (seen q))
    (narrow : IsPrintedNarrow one) (g : GrowsByNames names new) where
  front : Grows [] here between
  front = laws.programs bound.Program first.bytes [] between here p.name p.params (tree p.body) first.text.numbers (no_names here) first.text.read

  middle : Grows between front.0 names
  middle = laws.programs bound.Program second.bytes between names front.0 q.name q.params (tree q.body) second.text.numbers front.1.table second.text.read

  end : Grows names middle.0 new
  end = grown names new middle.0 middle.1.table g

  extends : Extends between new
  extends = extends_trans between names new middle.1.extends end.1.extends

  written : (steps : List Done) → AllByRecursion (IsWritable new) steps → AllByRecursion IsSaid steps → Moves p.params (tree p.body) (moves_of steps) (tree q.body)
      → q.name ≡ p.name → q.params ≡ p.params → AreWrittenMoves new end.0 p steps q
  written steps w s moves same_name same_params =
      let typed = read_typed first.bytes [] between p first.text.numbers no_name_twice first.text.read in
      let below = names_below bound.Program first.bytes [] between p first.text.numbers first.text.read in
      let later = laws.stay (length between) (length new) p.params (tree p.body) (longer between new extends) below in
      record {
        from_is = printable bound.Program first.bytes [] between p first.text.numbers first.text.read new end.0 end.1.table extends laws.name laws.kept typed later;
        accepted = record { typed = typed; keeps = record { types = typed.types; usage = keeps_usage first.bytes [] between (seen p) no_name_twice first.text } };
        narrow = narrow between (seen p) first;
        levels = laws.levels bound.Program first.bytes [] between p.name p.params (tree p.body) first.text.numbers refl first.text.read;
        named = named new steps w s;
        moves = record { name = same_name; params = same_params; moves = moves };
      }

-- ---- what was printed

-- a script from the program of a file to that of another, whose steps are moves that are written where their lines are narrow
record IsPrinted (one two : Option (List ℕ)) (text : List ℕ) : Type 0 where
  between : Table
  from : Program
  first : IsAccepted one [] between (seen from)
  names : Table
  to : Program
  second : IsAccepted two between names (seen to)
  all : Table
  places : ℕ → Place
  steps : List Done
  moves : AreNarrow (moves_of steps) → AreWrittenMoves all places from steps to
  text_is : text ≡ script_text all from steps to

derived : PrintedLaw → (names : Table) (P : ℕ → Place) (from to : Program) (steps : List Done) (text : List ℕ) → AreWrittenMoves names P from steps to
    → text ≡ script_text names from steps to → length text ≤ most_script_bytes → IsDerived text (length steps)
derived law names P from to steps text moves e short =
    let whole : length (script_text names from steps to) ≤ 4194304 = subst (λ (t : List ℕ). length t ≤ 4194304) e short in
    let read : (new : Table) (s : Script) → IsScript text [] new s → IsJoinedScript steps s =
    λ new s h. law.joined names P from to steps moves new s (subst (λ (t : List ℕ). IsScript t [] new s) e h) in
    record {
      short = short;
      kept = λ f h. law.kept names P from to steps moves whole f (subst (λ (t : List ℕ). IsScriptFault t [] f) e h);
      derived = λ new s h. (read new s h).derivation;
      as_many = λ new s h. (read new s h).as_many;
    }

-- ---- its replay

some_is : {X : Type 0} (x y : X) → Some x ≡ Some y → x ≡ y
some_is x y e = cc

replayed : OneLaw → (file : Option (List ℕ)) (text : List ℕ) (count : ℕ) (answer : Answer) → file ≡ Some text → IsDerived text count → Replays file answer
    → (status_of answer ≡ 0) × (text_of answer ≡ figure_text (codes "JOINED") count)
replayed one file text count answer e d r =
    let same : text ≡ r.bytes = some_is text r.bytes (sym e ∙ r.there) in
    replay_joined one r.bytes count answer (subst (λ (t : List ℕ). IsDerived t count) same d) r.replayed

replay_asked : (files : Files) (words : Table) (answer : Answer) (script : List ℕ) → job_of words ≡ Some (replay script) → IsAnswer files words answer → Replays (files script) answer
replay_asked files words answer script j is = let P : Option Job → Type 0 = λ job. IsAnswerTo files job answer in subst P j (does files words answer is)

joined_alone : OneLaw → (files : Files) (words : Table) (script text : List ℕ) (count : ℕ) → job_of words ≡ Some (replay script) → files script ≡ Some text
    → IsDerived text count → (status : ℕ) (answer : List ℕ) → ToolAnswers files words status answer → (status ≡ 0) × (answer ≡ figure_text (codes "JOINED") count)
joined_alone one files words script text count j e d status answer a =
    let is = replayed one (files script) text count a.answer e d (replay_asked files words a.answer script j a.is) in
    (a.status_is ∙ is.0, a.text_is ∙ is.1)

join : PrintedLaw → OneLaw → (a b : Option (List ℕ)) (text : List ℕ) (later : Files) (words : Table) (script : List ℕ) → IsPrinted a b text → length text ≤ most_script_bytes
    → job_of words ≡ Some (replay script) → later script ≡ Some text → IsJoined later words a b text
join law one a b text later words script p short j e = record {
  count = length p.steps;
  script = record {
    between = p.between;
    from = p.from;
    first = p.first;
    names = p.names;
    to = p.to;
    second = p.second;
    all = p.all;
    steps = p.steps;
    text_is = p.text_is;
    as_many = refl;
  };
  alone = λ thin. joined_alone one later words script text (length p.steps) j e (derived law p.all p.places p.from p.to p.steps text (p.moves thin) p.text_is short);
}

-- ---- answers with status 0

not_zero : (proof : Proof) (n : ℕ) → status_of_proof proof ≡ 0 → status_of_proof proof ≡ n → 1 ≤ n → ⊥
not_zero proof n z e h = absurd (omega (arith, z, e, h))

laws_printed : Laws → (one two : Option (List ℕ)) (between names : Table) (p q : Program) (proof : Proof) (text : List ℕ) → IsAccepted one [] between (seen p) → IsAccepted two between names (seen q)
    → IsPrintedNarrow one → status_of_proof proof ≡ 0 → text ≡ text_of_proof proof → IsProved names p q proof → IsPrinted one two text
laws_printed laws one two between names p q proof text a b narrow z e (long l is) = absurd (not_zero proof 3 z (ap status_of_proof is) (omega arith))
laws_printed laws one two between names p q proof text a b narrow z e (proved new steps answer l taken k s is) = record {
  between = between;
  from = p;
  first = a;
  names = names;
  to = q;
  second = b;
  all = new;
  places = (end laws one two between names new p q a b narrow k.grown).0;
  steps = steps;
  moves = λ thin. written laws one two between names new p q a b narrow k.grown steps k.written k.said
      (laws.narrow p.params (tree p.body) (tree q.body) (moves_of steps) taken thin) s.name s.params;
  text_is = e ∙ ap text_of_proof is ∙ ap text_of s.answer_is ∙ s.text_is;
}

proof_printed : Laws → (one two : Option (List ℕ)) (proof : Proof) (text : List ℕ) → IsPrintedNarrow one → status_of_proof proof ≡ 0 → text ≡ text_of_proof proof
    → text ≢ codes "SAME\n" → Proves one two proof → IsPrinted one two text
proof_printed laws one two proof text narrow z e other (as_same answer s apart is) =
    absurd (other (e ∙ ap text_of_proof is ∙ settled one two answer s (sym (ap status_of_proof is) ∙ z)))
proof_printed laws one two proof text narrow z e other (by_laws answer between names p q s same a b header is) =
    laws_printed laws one two between names p q proof text a b narrow z e is

-- ---- the whole

pub proved_joined : OneLaw → PrintedLaw → Laws → (one two : Option (List ℕ)) (later : Files) (again : Table) (script text : List ℕ)
    → AnswersProve one two 0 text → text ≢ codes "SAME\n" → IsPrintedNarrow one → length text ≤ most_script_bytes
    → job_of again ≡ Some (replay script) → later script ≡ Some text → IsJoined later again one two text
proved_joined once law laws one two later again script text a other narrow short j e =
    join law once one two text later again script
    (proof_printed laws one two a.proof text narrow (sym a.status_is) a.text_is other a.is) short j e
