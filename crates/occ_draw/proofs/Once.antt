-- A file has one answer.
use Rattle.std.proofs.Common.{◌≡◌, ℕ, List, [], Option, Some, sym, ap, subst, ◌∙◌}
use Rattle.std.proofs.lemmas.Bool.{both_ways}
use Rattle.std.proofs.lemmas.Option.{same_Some}
use Rattle.occ_tool_run.specs.occ_behaviour.declared.behaviour.Side.TheVariants.{First}
use Rattle.occ_draw.specs.Steps.{list_of}
use Rattle.occ_tool_run.specs.occ_script.declared.fault.ScriptFault.{ScriptFault}
use Rattle.occ_tool_run.specs.occ_script.declared.script.Script.{Script}
use Rattle.occ_tool_run.specs.occ_script.Refusals.{IsScriptFault}
use Rattle.occ_tool_run.specs.occ_script.Scripts.{IsScript}
use Rattle.occ_tool_run.specs.occ_script.Shown.{shown}
use Rattle.occ_tool_run.specs.Texts.{script_refusal_text}
use Rattle.occ_draw.specs.Answers.{Draws, Tells, TellsScript, Told, faulty, is_script, is_too_long, listed, of_length, of_script, of_table, refused, told_list}

-- a text has one reading as a script
pub record HasOneReading : Type 0 where
  pub script : (text : List ℕ) (old new other : List (List ℕ)) (s t : Script) → IsScript text old new s → IsScript text old other t → (shown s ≡ shown t) × (new ≡ other)
  pub fault : (text : List ℕ) (old : List (List ℕ)) (e f : ScriptFault) → IsScriptFault text old e → IsScriptFault text old f → e ≡ f
  pub apart : (text : List ℕ) (old new : List (List ℕ)) (s : Script) (e : ScriptFault) → IsScript text old new s → IsScriptFault text old e → ⊥

module _ (one : HasOneReading) where
  script_once : (text : List ℕ) (a b : Told) → TellsScript text a → TellsScript text b → a ≡ b
  script_once text a b (listed new s read is) (listed other t again same) = is ∙ ap (λ p. told_list (list_of p)) (one.script text [] new other s t read again).0 ∙ sym same
  script_once text a b (faulty e read is) (faulty f again same) = is ∙ ap (λ g. refused (script_refusal_text First g)) (one.fault text [] e f read again) ∙ sym same
  script_once text a b (listed new s read is) (faulty f again same) = absurd (one.apart text [] new s f read again)
  script_once text a b (faulty e read is) (listed other t again same) = absurd (one.apart text [] other t e again read)

  text_once : (text : List ℕ) (a b : Told) → Tells text a → Tells text b → a ≡ b
  text_once text a b (of_length long is) (of_length also same) = is ∙ sym same
  text_once text a b (of_table short other is) (of_table also too same) = is ∙ sym same
  text_once text a b (of_script short script tells) (of_script also too same) = script_once text a b tells same
  text_once text a b (of_length long is) (of_table short other same) = absurd (both_ways (is_too_long text) short long)
  text_once text a b (of_length long is) (of_script short script tells) = absurd (both_ways (is_too_long text) short long)
  text_once text a b (of_table short other is) (of_length long same) = absurd (both_ways (is_too_long text) short long)
  text_once text a b (of_script short script tells) (of_length long same) = absurd (both_ways (is_too_long text) short long)
  text_once text a b (of_table short other is) (of_script also script tells) = absurd (both_ways (is_script text) other script)
  text_once text a b (of_script short script tells) (of_table also other same) = absurd (both_ways (is_script text) other script)

  pub file_once : (file : Option (List ℕ)) (a b : Told) → Draws file a → Draws file b → a ≡ b
  file_once file a b d e = text_once d.text a b d.tells (subst (λ t. Tells t b) (sym (same_Some d.text e.text (sym d.there ∙ e.there))) e.tells)
