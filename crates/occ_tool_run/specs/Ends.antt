-- How two derivations of one program end.
use Rattle.std.specs.Prelude.{ℕ, ◌≡◌, List}
use Rattle.occ_derive.specs.occ_script_write.declared.writing.Done.{Done}
use Rattle.occ_derive.specs.occ_script_write.Text.{script_text}
use Rattle.occ_derive.specs.occ_target.Inputs.{input_names}
use Rattle.occ_replay.specs.occ_lex.Growth.{GrowsByNames}
use Rattle.occ_syntax.specs.declared.scope.Program.{Program as Stored}
use Rattle.occ_syntax.specs.Tree.{Tree}
use Rattle.occ_tool_run.specs.Accepts.{Program}
use Rattle.occ_tool_run.specs.Stored.{seen}

-- The text is that of a script from a program to the one with its header and that body. The names are those of a table that has grown
-- from that of the program, first by the names of the normal program's own variables.
pub record IsScriptTo (names : List (List ℕ)) (p : Program) (body : Tree) (text : List ℕ) : Type 0 where
  pub new : List (List ℕ)
  pub from : Stored
  pub steps : List Done
  pub to : Stored
  pub grown : GrowsByNames (input_names names p.params) new
  pub from_is : p ≡ seen from
  pub to_is : seen to ≡ record { name = p.name; params = p.params; body = body }
  pub text_is : text ≡ script_text new from steps to

-- Two answers have one status and one text; or both are scripts from one program to one.
pub data HaveOneEnd (s : ℕ) (a : List ℕ) (t : ℕ) (b : List ℕ) : Type 0 where
  one_text : s ≡ t → a ≡ b → HaveOneEnd s a t b
  one_end : (names : List (List ℕ)) (p : Program) (body : Tree) → s ≡ 0 → t ≡ 0 → IsScriptTo names p body a → IsScriptTo names p body b
      → HaveOneEnd s a t b
