-- Lines that are well laid out, and lines that aren't.
use Rattle.std.specs.Prelude.{ℕ, ◌≡◌, ◌⊎◌, List, Option, Some, None, is_some, true, false}
use Rattle.occ_parse_rules.specs.Forest.{Forest, Laid, lines_at}
use Rattle.occ_parse_layout.specs.Layout.{least_bad}
use Rattle.occ_parse.specs.declared.bound.Bound.{Bound}
use Rattle.occ_parse.specs.declared.fault.ParseFault.{ParseFault}
use Rattle.occ_parse.specs.declared.fault.ParseFault.TheVariants as fault
use Rattle.occ_parse.specs.Limits.{frame_of}

-- good lines of a forest, behind which no faulty line stands
pub record IsWellLaid (b : Bound) (laid : List Laid) (stop : Option ParseFault) (f : Forest) : Type 0 where
  pub lines : lines_at 0 f ≡ laid
  pub good : least_bad (frame_of b) false laid ≡ None
  pub whole : stop ≡ None

-- a bad line, or else the fault of the line behind good ones
abbrev pub IsIllLaid : Bound → List Laid → Option ParseFault → ParseFault → Type 0
IsIllLaid b laid stop f =
    ((n : ℕ) × (f ≡ fault.Form n) × (least_bad (frame_of b) (is_some stop) laid ≡ Some n))
    ⊎ ((stop ≡ Some f) × (least_bad (frame_of b) true laid ≡ None))
