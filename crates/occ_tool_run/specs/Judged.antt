-- What is judged of files that were read.
use Rattle.std.specs.Prelude.{ℕ, ◌≡◌, ◌≢◌, List, [], ◌∷◌, true, slice_index_or}
use Rattle.occ_syntax.specs.declared.scope.Program.{Program}
use Rattle.occ_run_schedule.specs.occ_nform_table.Tables.{IsInterface, are_params}
use Rattle.occ_run_schedule.specs.occ_usage.Accepted.{usage_faults}
use Rattle.occ_run_schedule.specs.occ_usage.declared.fault.UsageFault.{UsageFault}
use Rattle.occ_run_schedule.specs.occ_usage.declared.fault.UsageFault.TheVariants as shared
use Rattle.occ_run_schedule.specs.occ_behaviour.declared.behaviour.Side.{Side}
use Rattle.occ_tool_words.specs.occ_parse.Reading.{IsRefused as IsRefusedText}
use Rattle.occ_tool_words.specs.occ_parse.declared.bound.Bound.TheVariants as bound
use Rattle.occ_tool_words.specs.occ_parse.declared.fault.ParseFault.TheVariants.{Limit}
use Rattle.occ_tool_words.specs.occ_parse.declared.fault.ParseFault.TheVariants.{Memory as NoMemory}
use Rattle.occ_tool_words.specs.occ_parse.declared.fault.Which.TheVariants.{Bytes as AllBytes}
use Rattle.occ_run_schedule.specs.occ_behaviour_read.declared.claim.ClaimFault.{ClaimFault}
use Rattle.occ_run_schedule.specs.occ_behaviour_read.declared.claim.ClaimFault.TheVariants as claim
use Rattle.occ_tool_words.specs.occ_parse.Known.{NamesAreKnown}
use Rattle.occ_tool_run.specs.declared.answer.Answer.{Answer}
use Rattle.occ_tool_run.specs.declared.answer.Answer.TheVariants.{Refused, Unusable, RefusedClaim}
use Rattle.occ_tool_run.specs.declared.accept.Refusal.{Refusal}
use Rattle.occ_tool_run.specs.declared.accept.Refusal.TheVariants as refusal
use Rattle.occ_call.specs.declared.loading.Loaded.{Loaded}
use Rattle.occ_call.specs.declared.loading.Loaded.TheVariants.{Bytes, TooLong}
use Rattle.occ_tool_run.specs.Accepts.{IsAcceptedText, IsUnusableText, node_of}
use Rattle.occ_tool_run.specs.Stored.{seen}
use Rattle.occ_tool_run.specs.Texts.{FaultIsNamed}

-- The text is accepted, and all names of its program have texts.
pub record IsAcceptedAs (text : List ℕ) (old new : List (List ℕ)) (program : Program) : Type 0 where
  pub accepted : IsAcceptedText text old new (seen program)
  pub known : NamesAreKnown new program

abbrev pub IsAcceptedFrom : Loaded → List (List ℕ) → List (List ℕ) → Program → Type 0
IsAcceptedFrom (Bytes text) old new program = IsAcceptedAs text.items old new program
IsAcceptedFrom TooLong old new program = ⊥

-- the parameters can stand in a normal text
pub record HasInterface (names : List (List ℕ)) (program : Program) : Type 0 where
  pub interface : IsInterface names program.params
  pub params : are_params names [] program.params ≡ true

-- the fault is the first of the program, and the PAR stands on the line
pub record IsFaultAt (program : Program) (numbers : List ℕ) (line : ℕ) (fault : UsageFault) : Type 0 where
  pub later : List UsageFault
  pub found : usage_faults program ≡ fault ∷ later
  pub line_is : line ≡ slice_index_or numbers (node_of fault) 1
  pub no_memory : fault ≢ shared.Memory

-- why a text is refused
abbrev pub IsRefusedFor : List ℕ → List (List ℕ) → List (List ℕ) → Refusal → Type 0
IsRefusedFor text old new (refusal.Text fault) = IsRefusedText bound.Program text old fault × (fault ≢ NoMemory)
IsRefusedFor text old new (refusal.Usage line fault) = IsUnusableText text old new line fault × FaultIsNamed new fault
IsRefusedFor text old new refusal.Memory = Unit {0}

abbrev pub IsTooLong : Refusal → Type 0
IsTooLong (refusal.Text fault) = fault ≡ Limit AllBytes 1
IsTooLong (refusal.Usage line fault) = ⊥
IsTooLong refusal.Memory = Unit {0}

abbrev pub IsRefusedFrom : Loaded → List (List ℕ) → List (List ℕ) → Refusal → Type 0
IsRefusedFrom (Bytes text) old new r = IsRefusedFor text.items old new r
IsRefusedFrom TooLong old new r = IsTooLong r

-- the first fault of usage of a program, with the line of its PAR
abbrev pub IsFaulty : Program → List ℕ → Refusal → Type 0
IsFaulty program numbers (refusal.Text fault) = ⊥
IsFaulty program numbers (refusal.Usage line fault) = IsFaultAt program numbers line fault
IsFaulty program numbers refusal.Memory = Unit {0}

-- the refusal for a fault of usage
abbrev pub IsRefusalAt : List ℕ → UsageFault → Refusal → Type 0
IsRefusalAt numbers f (refusal.Text fault) = ⊥
IsRefusalAt numbers f (refusal.Usage line fault) = (fault ≡ f) × (fault ≢ shared.Memory) × (line ≡ slice_index_or numbers (node_of f) 1)
IsRefusalAt numbers f refusal.Memory = f ≡ shared.Memory

-- the answer that tells a refusal
abbrev pub IsRefusalAnswer : List (List ℕ) → Side → Refusal → Answer → Type 0
IsRefusalAnswer names place (refusal.Text fault) answer = answer ≡ Refused place fault
IsRefusalAnswer names place (refusal.Usage line fault) answer = answer ≡ Unusable names place line fault
IsRefusalAnswer names place refusal.Memory answer = ⊥

-- the refusal can be said: it isn't `Memory`, and what it names has a text
abbrev pub IsSayable : List (List ℕ) → Refusal → Type 0
IsSayable names (refusal.Text fault) = fault ≢ NoMemory
IsSayable names (refusal.Usage line fault) = FaultIsNamed names fault
IsSayable names refusal.Memory = Unit {0}

-- the answer that refuses a behaviour
abbrev pub IsClaimRefusal : ClaimFault → Answer → Type 0
IsClaimRefusal (claim.Form line) answer = answer ≡ RefusedClaim line
IsClaimRefusal claim.Memory answer = ⊥
