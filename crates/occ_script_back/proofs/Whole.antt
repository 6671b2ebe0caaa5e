-- A written script reads back as a whole.
use Rattle.std.proofs.Common.{◌≡◌, ℕ, ◌≤◌, List, length, refl, sym, subst}
use Rattle.std.proofs.lemmas.Bool.{le-ltb}
use Rattle.occ_print_back.specs.occ_parse.declared.bound.Bound.{Bound}
use Rattle.occ_print_back.specs.occ_parse.declared.bound.Bound.TheVariants as bound
use Rattle.occ_print_back.specs.occ_parse_rules.Places.{Place}
use Rattle.occ_script_back.specs.Tables.{Grows}
use Rattle.occ_script.specs.declared.fault.ScriptFault.{ScriptFault}
use Rattle.occ_script.specs.declared.script.Script.{Script}
use Rattle.occ_script.specs.Refusals.{IsBadText, IsScriptFault, in_from, in_to, too_long, unformed}
use Rattle.occ_script.specs.Scripts.{IsProgram, IsScript, is_too_long}
use Rattle.occ_script.proofs.Once.{IsOnce, Table, one_answer}
use Rattle.occ_script_write.specs.occ_script_lines.Sections.{framed}
use Rattle.occ_script_write.specs.declared.writing.Done.{Done}
use Rattle.occ_script_write.specs.Text.{script_text}
use Rattle.occ_script_back.specs.Whole.{AreWrittenWell, IsScriptOf}
use Rattle.occ_script_back.proofs.Formed.{formed_is, lines_kept, source, source_back, target_back}
use Rattle.occ_script_back.proofs.OneByOne.{PartsReadBack}
use Rattle.occ_script_write.specs.occ_syntax.declared.scope.Program.{Program}

-- a text that is another one, by a table that is another one
text_there : (b : Bound) (x y : List ℕ) (t : Table) {e : ScriptFault} → x ≡ y → IsBadText b x t e → IsBadText b y t e
text_there b x y t {e} h bad = subst (λ (v : List ℕ). IsBadText b v t e) h bad

program_there : (b : Bound) (x y : List ℕ) (t u v : Table) (p : Program) (ns : List ℕ) → x ≡ y → t ≡ u → IsProgram b x t v p ns → IsProgram b y u v p ns
program_there b x y t u v p ns h k is = subst (λ (c : Table). IsProgram b y c v p ns) k (subst (λ (z : List ℕ). IsProgram b z t v p ns) h is)

module _ (once : IsOnce) (back : PartsReadBack) (names : List (List ℕ)) (P : ℕ → Place) (from : Program) (steps : List Done) (to : Program) (w : AreWrittenWell names P from steps to) where
  abbrev text : List ℕ
  text = script_text names from steps to

  pub script_kept : length text ≤ 4194304 → {e : ScriptFault} → IsScriptFault text names e → ⊥
  script_kept short (too_long h) = one_answer (is_too_long text) h (le-ltb 4194304 (length text) short)
  script_kept short (unformed e h x) = lines_kept once back names P from steps to w x
  script_kept short (in_from t from_text to_text read e h f bad) =
      let is = formed_is once back names P from steps to w t from_text read to_text f in
      (source_back once back names P from steps to w t is.grows.0 is.grows.1).text_kept e (text_there bound.First from_text (framed (source once back names P from steps to w)) t is.from_text_is bad)
  script_kept short (in_to t between from_text to_text read p ns e h f x bad) =
      let is = formed_is once back names P from steps to w t from_text read to_text f in
      let s = source once back names P from steps to w in
      let first = (source_back once back names P from steps to w t is.grows.0 is.grows.1).read between p ns (program_there bound.First from_text (framed s) t t between p ns is.from_text_is refl x) in
      let there = subst (λ (u : Table). IsBadText bound.Script to_text u e) first.table bad in
      (target_back once back names P from steps to w t is.grows.0 is.grows.1 is.target is.target_is).text_kept e (text_there bound.Script to_text (framed is.target) t is.to_text_is there)

  pub script_read : (new : Table) (script : Script) → IsScript text names new script → IsScriptOf names P from steps to new script
  script_read new script x =
      let t = x.formed_table in
      let is = formed_is once back names P from steps to w t x.from script.steps x.to x.formed in
      let s = source once back names P from steps to w in
      let first = (source_back once back names P from steps to w t is.grows.0 is.grows.1).read x.between script.from.program script.from.lines
      (program_there bound.First x.from (framed s) t t x.between script.from.program script.from.lines is.from_text_is refl x.is_from) in
      let last = (target_back once back names P from steps to w t is.grows.0 is.grows.1 is.target is.target_is).read new script.to x.numbers
      (program_there bound.Script x.to (framed is.target) x.between t new script.to x.numbers is.to_text_is first.table x.is_to) in
      record {
        from_is = first.program;
        steps_are = is.steps_are;
        to_is = last.program;
        grows = subst (λ (u : Table). Grows names P u) (sym last.table) is.grows;
      }
