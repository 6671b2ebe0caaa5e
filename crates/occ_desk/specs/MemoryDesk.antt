use Rattle.std.specs.Prelude.{ℕ, ◌≡◌, ◌≤◌, ◌-◌, ◌+◌, ◌^◌, ◌++◌, ◌∷◌, [], List, length, take, min, Option, None, Result, Ok, Err, Contains, ◌⊎◌}
use Rattle.std.specs.Map.{lookup}
use Rattle.std.specs.Str.{bytes_eq}
use Rattle.occ_desk.specs.declared.desk.ReadError.{ReadError}
use Rattle.occ_desk.specs.declared.desk.ReadError.TheVariants.{Failed, TooLong, Memory}

-- What a desk in memory is seen as.
pub record DeskState : Type 0 where
  -- the names and bytes of the files, in the order in which they were added
  pub files : List (List ℕ × List ℕ)
  pub written : List ℕ
  pub asked : List (List ℕ)
  -- the number of the next call
  pub calls : ℕ
  -- the numbers of the calls that fail
  pub failing : List ℕ
  -- how many bytes one write takes at most, and all writes together
  pub piece : ℕ
  pub room : ℕ
  pub read_faults : ℕ
  pub write_faults : ℕ

-- the bytes of the file of that name
abbrev pub file_of : List (List ℕ × List ℕ) → List ℕ → Option (List ℕ)
file_of files name = lookup (λ stored. bytes_eq stored name) files

-- calls are numbered from 0, and the number stays at its greatest value
abbrev pub next_call : ℕ → ℕ
next_call call = min (call + 1) (2 ^ 64 - 1)

-- a desk without files
abbrev pub new_desk : List ℕ → ℕ → ℕ → DeskState
new_desk failing piece room = record {
  files = [];
  written = [];
  asked = [];
  calls = 0;
  failing = failing;
  piece = piece;
  room = room;
  read_faults = 0;
  write_faults = 0;
}

-- the next call fails where its number is among those that fail
abbrev pub CallFails : DeskState → Type 0
CallFails desk = Contains desk.failing desk.calls

-- the next read fails where its number says so, and where no file has the name
abbrev pub ReadFails : DeskState → List ℕ → Type 0
ReadFails desk name = CallFails desk ⊎ (file_of desk.files name ≡ None)

-- the next write fails where its number says so, and where no room is left
abbrev pub WriteFails : DeskState → Type 0
WriteFails desk = CallFails desk ⊎ (desk.room ≤ length desk.written)

-- how many of that many bytes the next write takes
abbrev pub taken_of : DeskState → ℕ → ℕ
taken_of desk given = min (min given desk.piece) (desk.room - length desk.written)

-- the desk after a read of that name
abbrev pub after_read : {T : Type 0} → DeskState → List ℕ → Result T ReadError → DeskState
after_read desk name (Ok _) = record desk { calls = next_call desk.calls; asked = desk.asked ++ name ∷ [] }
after_read desk name (Err TooLong) = record desk { calls = next_call desk.calls; asked = desk.asked ++ name ∷ [] }
after_read desk name (Err Failed) = record desk { calls = next_call desk.calls; asked = desk.asked ++ name ∷ []; read_faults = desk.read_faults + 1 }
after_read desk name (Err Memory) = record desk { calls = next_call desk.calls }

-- the desk after a write of those bytes
abbrev pub after_write : {E : Type 0} → DeskState → List ℕ → Result ℕ E → DeskState
after_write desk bytes (Ok taken) = record desk { calls = next_call desk.calls; written = desk.written ++ take taken bytes }
after_write desk bytes (Err _) = record desk { calls = next_call desk.calls; write_faults = desk.write_faults + 1 }
