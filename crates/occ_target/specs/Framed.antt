-- How the code's frame is seen, and which offers it has the rows behind of.
use Rattle.std.specs.Prelude.{ℕ, ◌<◌, List, map}
use Rattle.std.specs.List.{All}
use Rattle.occ_syntax.specs.occ_base.declared.event.Event.{Event}
use Rattle.occ_syntax.specs.View.{tree}
use Rattle.occ_target.specs.Rows.{Frame}
use Rattle.occ_target.specs.declared.events.Frame as code

abbrev pub frame_of : code.Frame → Frame
frame_of f = record { params = f.params.now; inputs = f.inputs.now; parts = map tree f.parts.now }

-- the rows behind are lower than row n
abbrev pub AreBelow : ℕ → List (Event × ℕ) → Type 0
AreBelow n offers = All (λ (o : Event × ℕ). o.1 < n) offers
