-- Two programs that were read, one behind the other.
use Rattle.std.specs.Prelude.{ℕ, List, [], Option}
use Rattle.occ_prove.specs.declared.pair.Pair.{Pair}
use Rattle.occ_prove.specs.Proofs.{AreApart}
use Rattle.occ_prove.specs.Joined.{HaveOneHeader}
use Rattle.occ_tool_run.specs.occ_call.declared.loading.Loaded.{Loaded}
use Rattle.occ_tool_run.specs.occ_call.Files.{IsLoaded, most_bytes}
use Rattle.occ_tool_run.specs.Judged.{HasInterface, IsAcceptedFrom}

-- both have one header, and its parameters can stand in a normal text
pub record AreReady (pair : Pair) : Type 0 where
  pub header : HaveOneHeader pair.left.program pair.right.program
  pub interface : HasInterface pair.names pair.left.program

-- they are the programs of two files, of which the first was read first
pub record IsPairOf (one two : Loaded) (pair : Pair) : Type 0 where
  pub between : List (List ℕ)
  pub first : IsAcceptedFrom one [] between pair.left.program
  pub second : IsAcceptedFrom two between pair.names pair.right.program
  pub ready : AreReady pair

-- files that are read so have no such programs
abbrev pub AreApartAll : Loaded → Loaded → Type 0
AreApartAll one two = (x y : Option (List ℕ)) → IsLoaded most_bytes x one → IsLoaded most_bytes y two → AreApart x y
