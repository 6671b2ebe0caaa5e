-- What a text is answered with.
use Rattle.std.proofs.Common.{◌≡◌, ◌<◌, ◌≤◌, ◌^◌, ◌+◌, ℕ, true, false, codes, List, [], ◌∷◌, Option, None, Some, IsSomeAnd, Result, Ok, Err, IfOk, Vec, Global, length, inl, inr, refl, sym, ap, subst, ◌∙◌, arith}
use Rattle.std.specs.Prelude.{◌⊎◌, ◌≢◌}
use Rattle.std.specs.List.{All, AllByRecursion}
use Rattle.std.proofs.lemmas.Bool.{le-ltb, lt-ltb}
use Rattle.std.proofs.lemmas.List.Elements.{All-from_recursion}
use Rattle.occ_syntax.specs.occ_base.declared.memory.Memory.{Memory as NoMemory}
use Rattle.occ_syntax.specs.occ_base.declared.names.Name.{Name}
use Rattle.occ_tool_run.specs.occ_behaviour.declared.behaviour.Side.TheVariants.{First}
use Rattle.occ_draw.specs.Steps.{list_of}
use Rattle.occ_draw.specs.declared.fault.Lack.{Lack}
use Rattle.occ_syntax.specs.declared.scope.Kind.{Kind}
use Rattle.occ_tool_run.specs.occ_nform_table.declared.table.TableRow.{TableRow}
use Rattle.occ_tool_run.specs.occ_nform_table.declared.table.TableFault.{TableFault}
use Rattle.occ_tool_run.specs.occ_nform_table.declared.table.TableFault.TheVariants.{Memory}
use Rattle.occ_tool_run.specs.occ_nform_table.Normal.{Parts, text_read}
use Rattle.occ_tool_run.specs.occ_nform_table.Rows.{RowIsNamed}
use Rattle.occ_tool_run.specs.occ_nform_table.Tables.{AreRowsOf, IsInterface, IsNormal}
use Rattle.occ_tool_run.specs.occ_nform_table.Texts.{table_text}
use Rattle.occ_tool_run.proofs.from_nform_table.Named.{row_named}
use Rattle.occ_tool_run.specs.occ_script.declared.fault.ScriptFault.{ScriptFault}
use Rattle.occ_tool_run.specs.occ_script.declared.fault.ScriptFault.TheVariants as script
use Rattle.occ_tool_run.specs.occ_script.declared.script.Script.{Script}
use Rattle.occ_tool_run.specs.occ_script.Refusals.{IsScriptFault}
use Rattle.occ_tool_run.specs.occ_script.Scripts.{IsScript}
use Rattle.occ_tool_run.specs.occ_script.Shown.{shown}
use Rattle.occ_tool_run.specs.Texts.{refusal_text, script_refusal_text, table_refusal_text}
use Rattle.occ_tool_run.specs.occ_call.declared.replying.Reply.{Reply}
use Rattle.occ_draw.specs.Answers.{Draws, Tells, TellsScript, Told, faulty, is_script, is_too_long, listed, of_length, of_script, of_table, refused, told, told_list}
use Rattle.occ_draw.specs.Replies.{told_by}
use Rattle.occ_tool_run.specs.occ_call.Files.{IsLoaded, most_table_bytes}
use Rattle.occ_tool_run.specs.occ_call.declared.loading.Loaded.{Loaded}
use Rattle.occ_tool_run.specs.occ_call.declared.loading.Loaded.TheVariants.{Bytes, TooLong}

-- ---- rows whose events have names
rows_known : (names : List (List ℕ)) (params : List (Name × Kind)) → AllByRecursion (λ (p : Name × Kind). p.0.0 < length names) params
    → (n : ℕ) (rows : List TableRow) → AreRowsOf params n rows → AllByRecursion (RowIsNamed names) rows
rows_known names params named n [] all = tt
rows_known names params named n (row ∷ rows) all = (row_named names params named n row all.0, rows_known names params named (n + 1) rows all.1)

-- each text that is read as a table is normal
abbrev pub IsLawful : Type 0
IsLawful = (names : List (List ℕ)) (text : List ℕ) (t : Parts) → length text < 2 ^ 64 → text_read names text ≡ Ok t → IsNormal t × (text ≡ table_text t.names t.params t.rows t.states)

normal : IsLawful → (names : List (List ℕ)) (text : List ℕ) (t : Parts) → length text ≤ 67108864 → text_read names text ≡ Ok t → IsNormal t
normal law names text t short read = (law names text t (omega (arith, short)) read).0

pub interface_read : IsLawful → (names : List (List ℕ)) (text : List ℕ) (t : Parts) → length text ≤ 67108864 → text_read names text ≡ Ok t → IsInterface t.names t.params
interface_read law names text t short read = (normal law names text t short read).interface

pub rows_read : IsLawful → (names : List (List ℕ)) (text : List ℕ) (t : Parts) → length text ≤ 67108864 → text_read names text ≡ Ok t → All (RowIsNamed t.names) t.rows
rows_read law names text t short read =
    let is = normal law names text t short read in
    All-from_recursion (RowIsNamed t.names) t.rows (rows_known t.names t.params is.interface.named 0 t.rows is.rows)

-- ---- texts that are refused, and scripts

pub refused_table : (r : Result Reply NoMemory) (start : List (List ℕ)) (text : List ℕ) (fault : TableFault) → start ≡ [] → (text_read start text ≡ Err fault) ⊎ (fault ≡ Memory)
    → IfOk r (λ reply. told_by reply ≡ refused (table_refusal_text fault)) → IfOk r (λ reply. fault ≢ Memory) → IfOk r (λ reply. told_by reply ≡ told (text_read [] text))
refused_table (Err m) start text fault e why is other = tt
refused_table (Ok reply) start text fault e (inl read) is other = is ∙ ap told (sym (sym (ap (λ names. text_read names text) e) ∙ read))
refused_table (Ok reply) start text fault e (inr bad) is other = absurd (other bad)

pub refused_script : (r : Result Reply NoMemory) (start : List (List ℕ)) (text : List ℕ) (fault : ScriptFault) → start ≡ [] → IsScriptFault text start fault ⊎ (fault ≡ script.Memory)
    → IfOk r (λ reply. told_by reply ≡ refused (script_refusal_text First fault)) → IfOk r (λ reply. fault ≢ script.Memory) → IfOk r (λ reply. TellsScript text (told_by reply))
refused_script (Err m) start text fault e why is other = tt
refused_script (Ok reply) start text fault e (inl read) is other = faulty fault (subst (λ o. IsScriptFault text o fault) e read) is
refused_script (Ok reply) start text fault e (inr bad) is other = absurd (other bad)

pub listed_script : (r : Result Reply NoMemory) (start new : List (List ℕ)) (text : List ℕ) (s : Script) → start ≡ [] → IsScript text start new s
    → IfOk r (λ reply. told_by reply ≡ told_list (list_of (shown s))) → IfOk r (λ reply. TellsScript text (told_by reply))
listed_script (Err m) start new text s e read is = tt
listed_script (Ok reply) start new text s e read is = listed new s (subst (λ o. IsScript text o new s) e read) is

-- ---- whatever a text is

short : (text : List ℕ) → length text ≤ 67108864 → is_too_long text ≡ false
short text h = le-ltb 67108864 (length text) h

pub tells_script : (r : Result Reply NoMemory) (text : List ℕ) → length text ≤ 67108864 → is_script text ≡ true → IfOk r (λ reply. TellsScript text (told_by reply)) → IfOk r (λ reply. Tells text (told_by reply))
tells_script (Err m) text h is tells = tt
tells_script (Ok reply) text h is tells = of_script (short text h) is tells

pub tells_table : (r : Result Reply NoMemory) (text : List ℕ) → length text ≤ 67108864 → is_script text ≡ false → IfOk r (λ reply. told_by reply ≡ told (text_read [] text))
    → IfOk r (λ reply. Tells text (told_by reply))
tells_table (Err m) text h is tells = tt
tells_table (Ok reply) text h is tells = of_table (short text h) is tells

-- ---- the file

abbrev IsToldOrRefused : Told → Type 0
IsToldOrRefused answer = (answer.status ≡ 0) ⊎ (answer.status ≡ 3)

table_status : (r : Result Parts TableFault) → IsToldOrRefused (told r)
table_status (Ok t) = inl refl
table_status (Err fault) = inr refl

list_status : (r : Result (List ℕ) (ℕ × Lack)) → IsToldOrRefused (told_list r)
list_status (Ok text) = inl refl
list_status (Err found) = inr refl

script_status : (text : List ℕ) (answer : Told) → TellsScript text answer → IsToldOrRefused answer
script_status text answer (listed new s read is) = subst IsToldOrRefused (sym is) (list_status (list_of (shown s)))
script_status text answer (faulty fault read is) = subst IsToldOrRefused (sym is) (inr refl)

text_status : (text : List ℕ) (answer : Told) → Tells text answer → IsToldOrRefused answer
text_status text answer (of_length long is) = subst IsToldOrRefused (sym is) (inr refl)
text_status text answer (of_table short other is) = subst IsToldOrRefused (sym is) (table_status (text_read [] text))
text_status text answer (of_script short script tells) = script_status text answer tells

-- a text is answered with its picture, its list or a refusal
pub told_status : (r : Result Reply NoMemory) (text : List ℕ) → IfOk r (λ reply. Tells text (told_by reply)) → IfOk r (λ reply. (reply.status ≡ 0) ⊎ (reply.status ≡ 3))
told_status (Err m) text tells = tt
told_status (Ok reply) text tells = text_status text (told_by reply) tells

pub long_status : (r : Result Reply NoMemory) (line : List ℕ) → IfOk r (λ reply. told_by reply ≡ refused line) → IfOk r (λ reply. (reply.status ≡ 0) ⊎ (reply.status ≡ 3))
long_status (Err m) line is = tt
long_status (Ok reply) line is = inr (ap (λ answer. answer.status) is)

abbrev DrawsAll : Loaded → Reply → Type 0
DrawsAll loaded reply = (file : Option (List ℕ)) → IsLoaded most_table_bytes file loaded → Draws file (told_by reply)

-- the file has this text
pub drawn : (r : Result Reply NoMemory) (loaded : Loaded) (bytes : Vec ℕ Global) (text : List ℕ) → loaded ≡ Bytes bytes → text ≡ bytes.items
    → IfOk r (λ reply. Tells text (told_by reply)) → IfOk r (DrawsAll loaded)
drawn (Err m) loaded bytes text e same tells = tt
drawn (Ok reply) loaded bytes text e same tells = λ file h.
    let k = subst (λ l. IsLoaded most_table_bytes file l) e h in
    record { text = text; there = k.0 ∙ ap Some (sym same); tells = tells }

long_file : (file : Option (List ℕ)) (answer : Told) → IsSomeAnd file (λ text. 67108864 < length text) → answer ≡ refused (refusal_text First 1 (codes "Limit Bytes")) → Draws file answer
long_file None answer long is = absurd long
long_file (Some text) answer long is = record { text = text; there = refl; tells = of_length (lt-ltb 67108864 (length text) long) is }

-- the file has a longer text than is read
pub drawn_long : (r : Result Reply NoMemory) (loaded : Loaded) → loaded ≡ TooLong → IfOk r (λ reply. told_by reply ≡ refused (refusal_text First 1 (codes "Limit Bytes")))
    → IfOk r (DrawsAll loaded)
drawn_long (Err m) loaded e is = tt
drawn_long (Ok reply) loaded e is = λ file h. long_file file (told_by reply) (subst (λ l. IsLoaded most_table_bytes file l) e h) is
