-- A text as a script, or its first fault.
use Rattle.std.proofs.Common.{◌≡◌, ◌⊎◌, inl, inr, ℕ, false, List, subst}
use Rattle.occ_parse_part.specs.occ_parse.declared.bound.Bound.TheVariants as bound
use Rattle.occ_syntax.specs.declared.scope.Program.{Program}
use Rattle.occ_script.specs.declared.fault.ScriptFault.{ScriptFault}
use Rattle.occ_script.specs.declared.fault.ScriptFault.TheVariants as fault
use Rattle.occ_script.specs.declared.script.Script.{Script}
use Rattle.occ_script.specs.declared.script.Step.{Step}
use Rattle.occ_script.specs.Refusals.{IsBadText, IsScriptFault, IsUnformed, in_from, in_to, unformed}
use Rattle.occ_script.specs.Scripts.{IsFormed, IsProgram, IsScript, is_too_long}

abbrev Table : Type 0
Table = List (List ℕ)

-- a fault of the lines
pub unformed_is : (text : List ℕ) (old : Table) (e : ScriptFault) → is_too_long text ≡ false → IsUnformed text old e ⊎ (e ≡ fault.Memory) → IsScriptFault text old e ⊎ (e ≡ fault.Memory)
unformed_is text old e short (inl h) = inl (unformed e short h)
unformed_is text old e short (inr h) = inr h

-- a fault of the program behind FROM
pub bad_from : (text : List ℕ) (old t : Table) (from seen to : List ℕ) (steps : List Step) (e : ScriptFault) → is_too_long text ≡ false → IsFormed text old t from steps to → seen ≡ from
    → IsBadText bound.First seen t e ⊎ (e ≡ fault.Memory) → IsScriptFault text old e ⊎ (e ≡ fault.Memory)
bad_from text old t from seen to steps e short f is (inl h) = inl (in_from t from to steps e short f (subst (λ x. IsBadText bound.First x t e) is h))
bad_from text old t from seen to steps e short f is (inr h) = inr h

-- a fault of the program behind TO
pub bad_to : (text : List ℕ) (old t between : Table) (from seen to also : List ℕ) (steps : List Step) (program : Program) (numbers : List ℕ) (e : ScriptFault) → is_too_long text ≡ false
    → IsFormed text old t from steps to → seen ≡ from → IsProgram bound.First seen t between program numbers → also ≡ to
    → IsBadText bound.Script also between e ⊎ (e ≡ fault.Memory) → IsScriptFault text old e ⊎ (e ≡ fault.Memory)
bad_to text old t between from seen to also steps program numbers e short f is p too (inl h) =
    inl (in_to t between from to steps program numbers e short f (subst (λ x. IsProgram bound.First x t between program numbers) is p) (subst (λ x. IsBadText bound.Script x between e) too h))
bad_to text old t between from seen to also steps program numbers e short f is p too (inr h) = inr h

-- a text whose lines are in order and whose programs are read
pub script_is : (text : List ℕ) (old t between new : Table) (from seen to also : List ℕ) (script : Script) (numbers : List ℕ) → is_too_long text ≡ false → IsFormed text old t from script.steps to → seen ≡ from
    → IsProgram bound.First seen t between script.from.program script.from.lines → also ≡ to → IsProgram bound.Script also between new script.to numbers → IsScript text old new script
script_is text old t between new from seen to also script numbers short f is p too q = record {
  short = short;
  from = from;
  to = to;
  formed_table = t;
  formed = f;
  between = between;
  is_from = subst (λ x. IsProgram bound.First x t between script.from.program script.from.lines) is p;
  numbers = numbers;
  is_to = subst (λ x. IsProgram bound.Script x between new script.to numbers) too q;
}
