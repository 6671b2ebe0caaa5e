-- Scripts that were read and replayed.
use Rattle.std.proofs.Common.{◌≡◌, ◌≢◌, ◌≤◌, ◌⊎◌, inl, inr, ℕ, List, [], length, Option, Result, Ok, Err, IfOk, Vec, Global, refl, sym, ap, subst, ◌∙◌}
use Rattle.occ_syntax.specs.occ_base.declared.memory.Memory.{Memory}
use Rattle.occ_tool_words.specs.occ_parse.Known.{NamesAreKnown}
use Rattle.occ_tool_words.specs.occ_parse.declared.fault.ParseFault.{ParseFault}
use Rattle.occ_tool_words.specs.occ_parse.declared.fault.ParseFault.TheVariants as parse
use Rattle.occ_replay.specs.declared.result.Rejected.{Rejected}
use Rattle.occ_replay.specs.declared.result.Rejected.TheVariants as rejected
use Rattle.occ_replay.specs.Scripts.{IsJoined, IsReplayed, steps_of}
use Rattle.occ_replay.specs.occ_replay_rules.Replays.{IsDerivation}
use Rattle.occ_replay.specs.occ_script.declared.fault.ScriptFault.{ScriptFault}
use Rattle.occ_replay.specs.occ_script.declared.fault.ScriptFault.TheVariants as script
use Rattle.occ_replay.specs.occ_script.declared.script.Script.{Script}
use Rattle.occ_replay.specs.occ_script.Faults.{text_fault}
use Rattle.occ_replay.specs.occ_script.declared.content.Content.{Content}
use Rattle.occ_replay.specs.occ_script.declared.content.Content.TheVariants as content
use Rattle.occ_replay.specs.occ_script.Lines.{named_in}
use Rattle.occ_replay.specs.occ_script.Refusals.{IsBadEnd, IsBadHead, IsBadPart, IsBadProgram, IsBadStep, IsBadTarget, IsNoDerivation, IsScriptFault, IsUnformed, another, another_word, bad_head, bad_lines, bad_part, behind_head, behind_source, behind_step, earlier, further, in_from, in_lines, in_part, in_source, in_step, in_target, in_to, next_line, no_end, no_line, no_lines, no_part, no_source, no_step_line, no_target, too_long, unformed, unread}
use Rattle.occ_replay.specs.occ_script_lines.declared.section.Format.{Format}
use Rattle.occ_replay.specs.occ_script_lines.declared.section.Format.TheVariants as format
use Rattle.occ_replay.specs.occ_script_lines.Sections.{Section, last_line_of}
use Rattle.occ_replay.specs.occ_script.Scripts.{IsScript}
use Rattle.occ_syntax.specs.declared.scope.Program.{Program}
use Rattle.occ_syntax.specs.Same.{SAME}
use Rattle.occ_syntax.specs.Scopes.{environment}
use Rattle.occ_syntax.specs.View.{tree}
use Rattle.occ_tool_run.specs.declared.answer.Answer.{Answer}
use Rattle.occ_tool_run.specs.declared.answer.Answer.TheVariants.{Joined, Unjoined}
use Rattle.occ_call.specs.declared.loading.Loaded.{Loaded}
use Rattle.occ_call.specs.declared.loading.Loaded.TheVariants.{Bytes}
use Rattle.occ_tool_run.specs.Derivations.{IsRejection, IsReplayAnswer, IsReplayOf, IsScriptRefusal, Replays, faulty_script, joined_script, line_of_cause, rejected_script, replayed_script}
use Rattle.occ_call.specs.Files.{IsLoaded, most_script_bytes}
use Rattle.occ_tool_run.specs.Texts.{CauseIsNamed, ScriptFaultIsTold}
use Rattle.occ_tool_run.proofs.Known.{first_named}

abbrev pub ReplaysAll : Loaded → Answer → Type 0
ReplaysAll l a = (file : Option (List ℕ)) → IsLoaded most_script_bytes file l → Replays file a

-- the answer to a file is that to its bytes
pub replay_bytes : (r : Result Answer Memory) (l : Loaded) (bytes : Vec ℕ Global) (text : List ℕ) → l ≡ Bytes bytes → text ≡ bytes.items → IfOk r (IsReplayAnswer text) → IfOk r (ReplaysAll l)
replay_bytes (Err m) l bytes text e same h = tt
replay_bytes (Ok a) l bytes text e same h =
    let P : Loaded → Type 0 = λ k. ReplaysAll k a in
    let Q : List ℕ → Type 0 = λ t. IsReplayAnswer t a in
    subst P (sym e) (λ file k. record { bytes = bytes.items; there = k.0; replayed = subst Q same h })

-- a script was read, with no names so far
pub script_read : (r : Result Answer Memory) (bytes : List ℕ) (start new : List (List ℕ)) (s : Script) → start ≡ [] → length bytes ≤ most_script_bytes → IsScript bytes start new s
    → IfOk r (IsReplayOf s new) → IfOk r (IsReplayAnswer bytes)
script_read (Err m) bytes start new s e short read h = tt
script_read (Ok a) bytes start new s e short read h = replayed_script new s short (subst (λ o. IsScript bytes o new s) e read) h

-- or it is refused
pub script_refused : (r : Result Answer Memory) (bytes : List ℕ) (start : List (List ℕ)) (f : ScriptFault) → start ≡ [] → length bytes ≤ most_script_bytes
    → IfOk r (IsScriptRefusal f) → IsScriptFault bytes start f ⊎ (f ≡ script.Memory) → IfOk r (IsReplayAnswer bytes)
script_refused (Err m) bytes start f e short told why = tt
script_refused (Ok a) bytes start f e short told (inl read) = faulty_script f short (subst (λ o. IsScriptFault bytes o f) e read) told.0
script_refused (Ok a) bytes start f e short told (inr bad) = absurd (told.1 bad)

-- ---- replays

-- what a replay joins means the same
pub joining : ((from to : Program) (steps : List Rattle.occ_replay.specs.occ_replay_rules.Steps.Step) → IsDerivation from steps to → SAME (environment from.params) (tree from.body) (tree to.body))
    → (s : Script) (names : List (List ℕ)) (found : Rattle.occ_replay.specs.declared.result.Joined.Joined) (n : ℕ) → IsJoined s found → n ≡ found.steps → IsReplayOf s names (Joined n)
joining sound s names found n h e = joined_script (record {
  derivation = h.joins;
  one_interface = h.joins.is_end.params;
  same = sound s.from.program s.to (steps_of s.steps) h.joins;
}) (ap Joined (e ∙ h.steps))

-- a cause that isn't out of memory mentions names of the script's first program
pub cause_named : (names : List (List ℕ)) (s : Script) (cause : Rejected) → NamesAreKnown names s.from.program → IsReplayed s (Err cause) → cause ≢ rejected.Memory → CauseIsNamed names cause
cause_named names s (rejected.From fault) known h kept = first_named names s.from.program fault h.later known h.found
cause_named names s (rejected.NoLaw k) known h kept = tt
cause_named names s (rejected.NoPath k) known h kept = tt
cause_named names s (rejected.NotAccepted k) known h kept = tt
cause_named names s (rejected.NotInstance k) known h kept = tt
cause_named names s rejected.WrongEnd known h kept = tt
cause_named names s rejected.Memory known h kept = absurd (kept refl)

-- or it is rejected
pub rejected_replay : (r : Result Answer Memory) (s : Script) (names : List (List ℕ)) (lines : List ℕ) (cause : Rejected) → lines ≡ s.from.lines → IfOk r (IsRejection names lines cause) → IsReplayed s (Err cause)
    → IfOk r (IsReplayOf s names)
rejected_replay (Err m) s names lines cause e told h = tt
rejected_replay (Ok a) s names lines cause e told h = rejected_script cause told.1 h (told.0 ∙ ap (λ ls. Unjoined names (line_of_cause ls cause) cause) e)

-- ---- faults of scripts are told

abbrev pub IsTold : ScriptFault → Type 0
IsTold f = f ≢ script.Memory → ScriptFaultIsTold f

pub text_told : (e : ParseFault) → IsTold (text_fault e)
text_told (parse.Form line) kept = tt
text_told parse.Memory kept = absurd (kept refl)
text_told (parse.Line line e) kept = λ h. cc
text_told (parse.Undeclared line) kept = λ h. cc
text_told (parse.Redeclared line) kept = λ h. cc
text_told (parse.Index line) kept = λ h. cc
text_told (parse.TypeClash line) kept = λ h. cc
text_told (parse.NoType line) kept = λ h. cc
text_told (parse.Direction line) kept = λ h. cc
text_told (parse.Limit w line) kept = λ h. cc

pub bad_head_told : (f : Format) (old : List (List ℕ)) (s : Section) (e : ScriptFault) → IsBadHead f old s e → IsTold e
bad_head_told f old s e (earlier a) kept = tt
bad_head_told f old s e (another a b) kept = tt
bad_head_told f old s e (further line lines stop a b j) kept = tt
bad_head_told f old s e (unread fault a b j) kept = text_told fault kept

bad_program_told : (k : Content) (old : List (List ℕ)) (s : Section) (next : ℕ) (e : ScriptFault) → IsBadProgram k old s next e → IsTold e
bad_program_told k old s next e (no_lines a) kept = tt
bad_program_told k old s next e (bad_lines fault a i) kept = text_told fault kept

bad_part_told : (old : List (List ℕ)) (s : Section) (e : ScriptFault) → IsBadPart old s e → IsTold e
bad_part_told old s e (no_part laid stop a l) kept = tt
bad_part_told old s e (bad_part fault h i) kept = text_told fault kept

bad_step_told : (old : List (List ℕ)) (s : Section) (e : ScriptFault) → IsBadStep old s e → IsTold e
bad_step_told old s e (no_step_line a) kept = tt
bad_step_told old s e (in_part h fault a b) kept = bad_part_told old s fault b kept

bad_target_told : (last : ℕ) (old : List (List ℕ)) (s : Section) (others : List Section) (e : ScriptFault) → IsBadTarget last old s others e → IsTold e
bad_target_told last old s others e (in_lines all fault b) kept = bad_program_told content.Last old s (next_line all last) fault b kept
bad_target_told last old s others e (no_end text more all i) kept = tt

bad_end_told : (last : ℕ) (old : List (List ℕ)) (ss : List Section) (e : ScriptFault) → IsBadEnd last old ss e → IsTold e
bad_end_told last old ss e (no_target o) kept = tt
bad_end_told last old ss e (in_step o s others fault a b) kept = bad_step_told o s fault b kept
bad_end_told last old ss e (behind_step o t s others step fault a i b) kept = bad_end_told last t others fault b kept
bad_end_told last old ss e (in_target o s others fault a b) kept = bad_target_told last o s others fault b kept

no_derivation_told : (last : ℕ) (old : List (List ℕ)) (ss : List Section) (e : ScriptFault) → IsNoDerivation last old ss e → IsTold e
no_derivation_told last old ss e no_source kept = tt
no_derivation_told last old ss e (another_word s others a) kept = tt
no_derivation_told last old ss e (in_source s others fault a b) kept = bad_program_told content.First old s (next_line others last) fault b kept
no_derivation_told last old ss e (behind_source text s others fault a i b) kept = bad_end_told last (named_in s old) others fault b kept

unformed_told : (text : List ℕ) (old : List (List ℕ)) (e : ScriptFault) → IsUnformed text old e → IsTold e
unformed_told text old e (no_line a) kept = tt
unformed_told text old e (bad_head head rest fault a b) kept = bad_head_told format.Script old head fault b kept
unformed_told text old e (behind_head head rest fault a h b) kept = no_derivation_told (last_line_of text) (named_in head old) rest fault b kept

-- the first fault of a text that is no script has words
pub fault_told : (text : List ℕ) (old : List (List ℕ)) (e : ScriptFault) → IsScriptFault text old e → IsTold e
fault_told text old e (too_long a) kept = λ h. cc
fault_told text old e (unformed fault a b) kept = unformed_told text old fault b kept
fault_told text old e (in_from t from to steps fault a f bad) kept = subst IsTold (sym bad.is) (text_told bad.fault) kept
fault_told text old e (in_to t between from to steps program numbers fault a f i bad) kept = subst IsTold (sym bad.is) (text_told bad.fault) kept

pub fault_or_memory_told : (text : List ℕ) (old : List (List ℕ)) (e : ScriptFault) → IsScriptFault text old e ⊎ (e ≡ script.Memory) → IsTold e
fault_or_memory_told text old e (inl h) kept = fault_told text old e h kept
fault_or_memory_told text old e (inr h) kept = absurd (kept h)
