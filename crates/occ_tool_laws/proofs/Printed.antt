-- A script that was printed is joined.
use Rattle.std.proofs.Common.{◌≡◌, ℕ, ◌≤◌, List, [], length, Option, Some, refl, sym, ap, subst, ◌∙◌, arith}
use Rattle.std.specs.Prelude.{codes}
use Rattle.std.specs.List.{AllByRecursion}
use Rattle.occ_witness.specs.occ_derive_moves.Moves.{AreNarrow}
use Rattle.occ_witness.specs.occ_derive_moves.Steps.{Steps}
use Rattle.occ_witness.specs.occ_engine.Moved.{moves_of, orders_of}
use Rattle.occ_witness.specs.occ_replay_rules.Expansion.{IsExpanded}
use Rattle.occ_witness.specs.occ_replay_rules.Moves.{Move, Moves}
use Rattle.occ_witness.specs.occ_replay_rules.Orders.{Follows}
use Rattle.occ_witness.specs.occ_base.declared.names.Name.{Name}
use Rattle.occ_witness.specs.occ_engine_written.First.{AreWritten, IsFirstProgram}
use Rattle.occ_witness.specs.occ_lex.Growth.{GrowsByNames}
use Rattle.occ_witness.specs.occ_parse_rules.Places.{Place}
use Rattle.occ_witness.specs.occ_script.declared.fault.ScriptFault.{ScriptFault}
use Rattle.occ_witness.specs.occ_script.declared.script.Order.{Order}
use Rattle.occ_witness.specs.occ_script.declared.script.Script.{Script}
use Rattle.occ_witness.specs.occ_script.Orders.{IsOrders}
use Rattle.occ_witness.specs.occ_script.Refusals.{IsScriptFault}
use Rattle.occ_witness.specs.occ_script.Scripts.{IsScript}
use Rattle.occ_witness.specs.occ_script_back.Joined.{AreWrittenMoves, IsJoined as IsJoinedScript}
use Rattle.occ_witness.specs.occ_script_write.declared.writing.Done.{Done}
use Rattle.occ_witness.specs.occ_script_write.Text.{IsWritable, script_text}
use Rattle.occ_witness.specs.occ_script_back.Said.{IsSaid, IsShortPath}
use Rattle.occ_witness.specs.occ_syntax.declared.scope.Kind.{Kind}
use Rattle.occ_witness.specs.occ_syntax.declared.scope.Program.{Program as Stored}
use Rattle.occ_witness.specs.occ_syntax.Tree.{Tree}
use Rattle.occ_witness.specs.occ_syntax.View.{tree}
use Rattle.occ_tool_laws.specs.Joined.{IsJoined, IsJoinedWhereNarrow, IsPrintedNarrow}
use Rattle.occ_tool_laws.proofs.Asked.{PathLaw, derive_asked, expand_asked, path_asked, replay_asked, transform_asked}
use Rattle.occ_tool_laws.proofs.Replayed.{IsDerived, OneLaw, replay_joined}
use Rattle.occ_witness.proofs.from_tool_run.Accepting.{keeps_usage, read_typed}
use Rattle.occ_witness.proofs.from_tool_run.Judging.{no_name_twice}
use Rattle.occ_witness.specs.occ_tool_run.Accepts.{IsAccepted, Program}
use Rattle.occ_witness.specs.occ_tool_run.Answers.{Answers, Takes, accepted, refused, unusable}
use Rattle.occ_witness.specs.occ_tool_run.Derivations.{Replays}
use Rattle.occ_witness.specs.occ_tool_run.Derived as normal
use Rattle.occ_witness.specs.occ_call.Files.{Files, most_script_bytes}
use Rattle.occ_witness.specs.occ_tool_run.Stored.{OfStored, seen}
use Rattle.occ_witness.specs.occ_tool_run.Texts.{figure_text, status_of, text_of}
use Rattle.occ_witness.specs.occ_tool_run.Transforms.{IsExpandedTo, IsScriptOf, IsTransformed, blocked, expanded, faulty_orders, followed_orders, no_par, no_part, stopped_orders, too_long_orders}
use Rattle.occ_witness.specs.occ_tool_words.Words.{derive, expand, job_of, replay, transform}
use Rattle.occ_witness.specs.occ_behaviour.declared.behaviour.Side.TheVariants.{First}

abbrev Table : Type 0
Table = List (List ℕ)

-- ---- the laws that this stands on

pub record PrintedLaw : Type 0 where
  pub kept : (names : Table) (P : ℕ → Place) (from to : Stored) (steps : List Done) → AreWrittenMoves names P from steps to
      → length (script_text names from steps to) ≤ 4194304 → (e : ScriptFault) → IsScriptFault (script_text names from steps to) [] e → ⊥
  pub joined : (names : Table) (P : ℕ → Place) (from to : Stored) (steps : List Done) → AreWrittenMoves names P from steps to
      → (new : Table) (script : Script) → IsScript (script_text names from steps to) [] new script → IsJoinedScript steps script

abbrev pub OrdersLaw : Type 0
OrdersLaw = (text : List ℕ) (names new : Table) (orders : List Order) (from to : Stored) (steps : List Done) → IsFirstProgram names from → IsOrders text names new orders
    → Follows from.params (tree from.body) (orders_of orders) (moves_of steps) (tree to.body) → to.name ≡ from.name → to.params ≡ from.params → AreWritten new from steps to

abbrev pub ExpandLaw : Type 0
ExpandLaw = (names : Table) (path : List ℕ) (from to : Stored) (steps : List Done) → IsFirstProgram names from → IsShortPath path
    → IsExpanded from.params (tree from.body) path (moves_of steps) (tree to.body) → to.name ≡ from.name → to.params ≡ from.params → AreWritten names from steps to

abbrev pub KnownLaw : Type 0
KnownLaw = (names new : Table) (from to : Stored) (steps : List Done) → IsFirstProgram names from → GrowsByNames names new → AllByRecursion (IsWritable new) steps
    → AllByRecursion IsSaid steps → Moves from.params (tree from.body) (moves_of steps) (tree to.body) → to.name ≡ from.name → to.params ≡ from.params → AreWritten new from steps to

abbrev pub NarrowLaw : Type 0
NarrowLaw = (S : List (Name × Kind)) (p q : Tree) (moves : List Move) → Steps S p moves q → AreNarrow moves → Moves S p moves q

-- ---- what was printed

-- a script of moves that are written, from the program of a file
record IsPrinted (file : Option (List ℕ)) (text : List ℕ) : Type 0 where
  first : Table
  from : Stored
  is_accepted : IsAccepted file [] first (seen from)
  names : Table
  steps : List Done
  to : Stored
  moves : AreWritten names from steps to
  text_is : text ≡ script_text names from steps to

-- a script of steps that are written where their lines are narrow
record IsPrintedOut (file : Option (List ℕ)) (text : List ℕ) : Type 0 where
  first : Table
  from : Stored
  is_accepted : IsAccepted file [] first (seen from)
  names : Table
  steps : List Done
  to : Stored
  moves : AreNarrow (moves_of steps) → AreWritten names from steps to
  text_is : text ≡ script_text names from steps to

derived : PrintedLaw → (names : Table) (from to : Stored) (steps : List Done) (text : List ℕ) → AreWritten names from steps to
    → text ≡ script_text names from steps to → length text ≤ most_script_bytes → IsDerived text (length steps)
derived law names from to steps text w e short =
    let P = w.0 in
    let moves = w.1 in
    let whole : length (script_text names from steps to) ≤ 4194304 = subst (λ (t : List ℕ). length t ≤ 4194304) e short in
    let read : (new : Table) (s : Script) → IsScript text [] new s → IsJoinedScript steps s =
    λ new s h. law.joined names P from to steps moves new s (subst (λ (t : List ℕ). IsScript t [] new s) e h) in
    record {
      short = short;
      kept = λ f h. law.kept names P from to steps moves whole f (subst (λ (t : List ℕ). IsScriptFault t [] f) e h);
      derived = λ new s h. (read new s h).derivation;
      as_many = λ new s h. (read new s h).as_many;
    }

-- ---- its replay

some_is : {X : Type 0} (x y : X) → Some x ≡ Some y → x ≡ y
some_is x y e = cc

replayed : OneLaw → (file : Option (List ℕ)) (text : List ℕ) (count : ℕ) (answer : _) → file ≡ Some text → IsDerived text count → Replays file answer
    → (status_of answer ≡ 0) × (text_of answer ≡ figure_text (codes "JOINED") count)
replayed one file text count answer e d r =
    let same : text ≡ r.bytes = some_is text r.bytes (sym e ∙ r.there) in
    replay_joined one r.bytes count answer (subst (λ (t : List ℕ). IsDerived t count) same d) r.replayed

joined_alone : OneLaw → (files : Files) (words : Table) (script text : List ℕ) (count : ℕ) → job_of words ≡ Some (replay script) → files script ≡ Some text
    → IsDerived text count → (status : ℕ) (answer : List ℕ) → Answers files words status answer → (status ≡ 0) × (answer ≡ figure_text (codes "JOINED") count)
joined_alone one files words script text count j e d status answer a =
    let is = replayed one (files script) text count a.answer e d (replay_asked files words a.answer script j a.is) in
    (a.status_is ∙ is.0, a.text_is ∙ is.1)

join : PrintedLaw → OneLaw → (file : Option (List ℕ)) (text : List ℕ) (later : Files) (words : Table) (script : List ℕ) → IsPrinted file text → length text ≤ most_script_bytes
    → job_of words ≡ Some (replay script) → later script ≡ Some text → IsJoined later words file text
join law one file text later words script p short j e = record {
  count = length p.steps;
  script = record { first = p.first; from = p.from; accepted = p.is_accepted; names = p.names; steps = p.steps; to = p.to; text_is = p.text_is; as_many = refl };
  alone = joined_alone one later words script text (length p.steps) j e (derived law p.names p.from p.to p.steps text p.moves p.text_is short);
}

join_where_narrow : PrintedLaw → OneLaw → (file : Option (List ℕ)) (text : List ℕ) (later : Files) (words : Table) (script : List ℕ) → IsPrintedOut file text
    → length text ≤ most_script_bytes → job_of words ≡ Some (replay script) → later script ≡ Some text → IsJoinedWhereNarrow later words file text
join_where_narrow law one file text later words script p short j e = record {
  count = length p.steps;
  script = record { first = p.first; from = p.from; accepted = p.is_accepted; names = p.names; steps = p.steps; to = p.to; text_is = p.text_is; as_many = refl };
  alone = λ narrow. joined_alone one later words script text (length p.steps) j e (derived law p.names p.from p.to p.steps text (p.moves narrow) p.text_is short);
}

-- ---- answers with status 0

refusing : (answer : _) (n : ℕ) → status_of answer ≡ 0 → status_of answer ≡ n → 1 ≤ n → ⊥
refusing answer n z e h = absurd (omega (arith, z, e, h))

first_program : (file : Option (List ℕ)) (names : Table) (p : Stored) → IsPrintedNarrow file → IsAccepted file [] names (seen p) → IsFirstProgram names p
first_program file names p narrow a = let typed = read_typed a.bytes [] names p a.text.numbers no_name_twice a.text.read in record {
  text = a.bytes;
  lines = a.text.numbers;
  read = a.text.read;
  accepted = record { typed = typed; keeps = record { types = typed.types; usage = keeps_usage a.bytes [] names (seen p) no_name_twice a.text } };
  narrow = narrow names (seen p) a;
}

script_written : (names : Table) (from to : Stored) (steps : List Done) (answer : _) (text : List ℕ) → IsScriptOf names from steps to answer → text ≡ text_of answer
    → text ≡ script_text names from steps to
script_written names from to steps answer text s e = e ∙ ap text_of s.answer_is ∙ s.text_is

printed : (file : Option (List ℕ)) (first names : Table) (from to : Stored) (steps : List Done) (answer : _) (text : List ℕ) → IsAccepted file [] first (seen from)
    → IsScriptOf names from steps to answer → text ≡ text_of answer → AreWritten names from steps to → IsPrinted file text
printed file first names from to steps answer text a s e w = record {
  first = first;
  from = from;
  is_accepted = a;
  names = names;
  steps = steps;
  to = to;
  moves = w;
  text_is = script_written names from to steps answer text s e;
}

transform_printed : OrdersLaw → (file : Option (List ℕ)) (bytes : List ℕ) (names : Table) (p : Stored) (answer : _) (text : List ℕ) → IsPrintedNarrow file
    → IsAccepted file [] names (seen p) → status_of answer ≡ 0 → text ≡ text_of answer → IsTransformed bytes names p answer → IsPrinted file text
transform_printed law file bytes names p answer text narrow a z e (too_long_orders l is) = absurd (refusing answer 3 z (ap status_of is) (omega arith))
transform_printed law file bytes names p answer text narrow a z e (faulty_orders fault l f is) = absurd (refusing answer 3 z (ap status_of is) (omega arith))
transform_printed law file bytes names p answer text narrow a z e (stopped_orders new orders number lack l o s is) = absurd (refusing answer 3 z (ap status_of is) (omega arith))
transform_printed law file bytes names p answer text narrow a z e (followed_orders new orders steps to l o f s) =
    printed file names new p to steps answer text a s e (law bytes names new orders p to steps (first_program file names p narrow a) o f s.name s.params)

expand_printed : ExpandLaw → (file : Option (List ℕ)) (path : List ℕ) (names : Table) (p : Stored) (answer : _) (text : List ℕ) → IsPrintedNarrow file → IsShortPath path
    → IsAccepted file [] names (seen p) → status_of answer ≡ 0 → text ≡ text_of answer → IsExpandedTo path names p answer → IsPrinted file text
expand_printed law file path names p answer text narrow short a z e (no_part n is) = absurd (refusing answer 3 z (ap status_of is) (omega arith))
expand_printed law file path names p answer text narrow short a z e (no_par n is) = absurd (refusing answer 3 z (ap status_of is) (omega arith))
expand_printed law file path names p answer text narrow short a z e (blocked b is) = absurd (refusing answer 3 z (ap status_of is) (omega arith))
expand_printed law file path names p answer text narrow short a z e (expanded steps to x s) =
    printed file names names p to steps answer text a s e (law names path p to steps (first_program file names p narrow a) short x s.name s.params)

derive_printed : NarrowLaw → KnownLaw → (file : Option (List ℕ)) (names : Table) (p : Stored) (answer : _) (text : List ℕ) → IsPrintedNarrow file
    → IsAccepted file [] names (seen p) → status_of answer ≡ 0 → text ≡ text_of answer → normal.IsDerived names p answer → IsPrintedOut file text
derive_printed few law file names p answer text narrow a z e (normal.long body n c is) = absurd (refusing answer 3 z (ap status_of is) (omega arith))
derive_printed few law file names p answer text narrow a z e (normal.derived new steps to n c taken k v s) = record {
  first = names;
  from = p;
  is_accepted = a;
  names = new;
  steps = steps;
  to = to;
  moves = λ thin. law names new p to steps (first_program file names p narrow a) k.grown k.written k.said
      (few p.params (tree p.body) (tree to.body) (moves_of steps) taken thin) s.name s.params;
  text_is = script_written new p to steps answer text s e;
}

-- the program is accepted, and the rest decides
stored : (file : Option (List ℕ)) (names : Table) (p : Program) (q : Stored) → p ≡ seen q → IsAccepted file [] names p → IsAccepted file [] names (seen q)
stored file names p q e a = subst (IsAccepted file [] names) e a

transform_taken : OrdersLaw → (file : Option (List ℕ)) (bytes : List ℕ) (answer : _) (text : List ℕ) → IsPrintedNarrow file → status_of answer ≡ 0 → text ≡ text_of answer
    → Takes First file [] (OfStored (IsTransformed bytes)) answer → IsPrinted file text
transform_taken law file bytes answer text narrow z e (refused fault r is) = absurd (refusing answer 3 z (ap status_of is) (omega arith))
transform_taken law file bytes answer text narrow z e (unusable new line fault u is) = absurd (refusing answer 3 z (ap status_of is) (omega arith))
transform_taken law file bytes answer text narrow z e (accepted new p a h) = transform_printed law file bytes new h.stored answer text narrow (stored file new p h.stored h.program_is a) z e h.answered

expand_taken : ExpandLaw → (file : Option (List ℕ)) (path : List ℕ) (answer : _) (text : List ℕ) → IsPrintedNarrow file → IsShortPath path → status_of answer ≡ 0
    → text ≡ text_of answer → Takes First file [] (OfStored (IsExpandedTo path)) answer → IsPrinted file text
expand_taken law file path answer text narrow short z e (refused fault r is) = absurd (refusing answer 3 z (ap status_of is) (omega arith))
expand_taken law file path answer text narrow short z e (unusable new line fault u is) = absurd (refusing answer 3 z (ap status_of is) (omega arith))
expand_taken law file path answer text narrow short z e (accepted new p a h) = expand_printed law file path new h.stored answer text narrow short (stored file new p h.stored h.program_is a) z e h.answered

derive_taken : NarrowLaw → KnownLaw → (file : Option (List ℕ)) (answer : _) (text : List ℕ) → IsPrintedNarrow file → status_of answer ≡ 0
    → text ≡ text_of answer → Takes First file [] (OfStored normal.IsDerived) answer → IsPrintedOut file text
derive_taken few law file answer text narrow z e (refused fault r is) = absurd (refusing answer 3 z (ap status_of is) (omega arith))
derive_taken few law file answer text narrow z e (unusable new line fault u is) = absurd (refusing answer 3 z (ap status_of is) (omega arith))
derive_taken few law file answer text narrow z e (accepted new p a h) =
    derive_printed few law file new h.stored answer text narrow (stored file new p h.stored h.program_is a) z e h.answered

-- ---- the whole

pub transformed_joined : OneLaw → PrintedLaw → OrdersLaw → (files later : Files) (words again : Table) (program orders script text : List ℕ)
    → job_of words ≡ Some (transform program orders) → Answers files words 0 text → IsPrintedNarrow (files program) → length text ≤ most_script_bytes
    → job_of again ≡ Some (replay script) → later script ≡ Some text → IsJoined later again (files program) text
transformed_joined one law ordered files later words again program orders script text j a narrow short k e =
    let t = transform_asked files words a.answer program orders j a.is in
    let z : status_of a.answer ≡ 0 = sym a.status_is in
    join law one (files program) text later again script
    (transform_taken ordered (files program) t.bytes a.answer text narrow z a.text_is t.text) short k e

pub expanded_joined : OneLaw → PrintedLaw → ExpandLaw → PathLaw → (files later : Files) (words again : Table) (program path script text : List ℕ)
    → job_of words ≡ Some (expand program path) → Answers files words 0 text → IsPrintedNarrow (files program) → length text ≤ most_script_bytes
    → job_of again ≡ Some (replay script) → later script ≡ Some text → IsJoined later again (files program) text
expanded_joined one law expansion paths files later words again program path script text j a narrow short k e =
    let t = expand_asked files words a.answer program path j a.is in
    let z : status_of a.answer ≡ 0 = sym a.status_is in
    join law one (files program) text later again script
    (expand_taken expansion (files program) path a.answer text narrow (path_asked paths words program path j) z a.text_is t) short k e

pub derived_joined : OneLaw → PrintedLaw → NarrowLaw → KnownLaw → (files later : Files) (words again : Table) (program script text : List ℕ)
    → job_of words ≡ Some (derive program) → Answers files words 0 text → IsPrintedNarrow (files program) → length text ≤ most_script_bytes
    → job_of again ≡ Some (replay script) → later script ≡ Some text → IsJoinedWhereNarrow later again (files program) text
derived_joined one law few known files later words again program script text j a narrow short k e =
    let t = derive_asked files words a.answer program j a.is in
    let z : status_of a.answer ≡ 0 = sym a.status_is in
    join_where_narrow law one (files program) text later again script
    (derive_taken few known (files program) a.answer text narrow z a.text_is t) short k e
