-- Moves under other names.
use Rattle.std.specs.Prelude.{ℕ, List, map}
use Rattle.occ_replay_rules.specs.Moves.{Move}
use Rattle.occ_replay_rules.specs.occ_meaning.Rename.{renamed}

abbrev pub move_renamed : (ℕ → ℕ) → Move → Move
move_renamed f move = record { law = move.law; dir = move.dir; path = move.path; part = renamed move.part f }

abbrev pub moves_renamed : (ℕ → ℕ) → List Move → List Move
moves_renamed f moves = map (move_renamed f) moves
