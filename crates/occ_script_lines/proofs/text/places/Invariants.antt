use Rattle.std.proofs.Common.{◌≡◌}
use Rattle.std.specs.List.{slice_split}
use Rattle.occ_script_lines.specs.Places.{pieces_behind}
use Rattle.occ_script_lines.specs.Texts.{is_slash, places_of}
use Rattle.occ_script_lines.proofs.Pieces.{behind, left}
use Rattle.occ_script_lines.proofs.text.places.Given as goal

-- the numbers so far, and those of what is left, are those of all
abbrev pub invariant-loop-rest : goal.invariant-loop-rest
invariant-loop-rest l = behind l.path (places_of (pieces_behind 47 l.rest)) ≡ places_of (slice_split is_slash l.fn.text)

abbrev pub decreases-loop-rest : goal.decreases-loop-rest
decreases-loop-rest l = left l.rest
