-- What two answers of `prove` to one command line have to do with each other.
use Rattle.std.specs.Prelude.{ℕ, ◌≡◌, List, [], Option, codes}
use Rattle.occ_witness.specs.occ_behaviour.declared.behaviour.Side.TheVariants.{First}
use Rattle.occ_witness.specs.occ_lex.Growth.{GrowsByNames}
use Rattle.occ_prove.specs.Normal.{IsLong}
use Rattle.occ_witness.specs.occ_script_write.declared.writing.Done.{Done}
use Rattle.occ_witness.specs.occ_script_write.Text.{script_text}
use Rattle.occ_witness.specs.occ_syntax.declared.scope.Program.{Program as Stored}
use Rattle.occ_witness.specs.occ_tool_run.Accepts.{IsAccepted, Program}
use Rattle.occ_witness.specs.occ_tool_run.Stored.{seen}
use Rattle.occ_witness.specs.occ_tool_run.Texts.{refusal_text}

-- The text is that of a script from the one program to the other. The names are those of a table that has grown from that of both.
pub record IsScriptTo (names : List (List ℕ)) (p q : Program) (text : List ℕ) : Type 0 where
  pub new : List (List ℕ)
  pub from : Stored
  pub steps : List Done
  pub to : Stored
  pub grown : GrowsByNames names new
  pub from_is : p ≡ seen from
  pub to_is : q ≡ seen to
  pub text_is : text ≡ script_text new from steps to

-- What two programs of one header that mean the same are answered with: a script from the one to the other; or that their normal program has
-- more than 4,096 controls, as it has.
pub data IsProof (names : List (List ℕ)) (p q : Program) (status : ℕ) (text : List ℕ) : Type 0 where
  script : status ≡ 0 → IsScriptTo names p q text → IsProof names p q status text
  long : (from : Stored) → p ≡ seen from → IsLong names from → status ≡ 3 → text ≡ refusal_text First 1 (codes "Long") → IsProof names p q status text

-- Both have one status and one text; or each is a script from the program of the first file to that of the second, whose names are numbers
-- of one table, or says that their normal program is too long.
pub data HaveOneWay (one two : Option (List ℕ)) (s : ℕ) (a : List ℕ) (t : ℕ) (b : List ℕ) : Type 0 where
  one_text : s ≡ t → a ≡ b → HaveOneWay one two s a t b
  one_way : (between names : List (List ℕ)) (p q : Program) → IsAccepted one [] between p → IsAccepted two between names q
      → IsProof names p q s a → IsProof names p q t b → HaveOneWay one two s a t b
