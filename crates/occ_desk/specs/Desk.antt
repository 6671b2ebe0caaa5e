use Rattle.std.specs.Prelude.{ℕ, ◌≡◌, ◌<◌, ◌++◌, ◌∷◌, [], List, length, take, Option, Some, Result, Ok, Err, IsSomeAnd, option_map, ⊤}
use Rattle.occ_desk.specs.declared.desk.ReadError.{ReadError}
use Rattle.occ_desk.specs.declared.desk.ReadError.TheVariants.{Failed, TooLong, Memory}

-- a list with more at its end, where the list is told
abbrev pub with_more : {T : Type 0} → Option (List T) → List T → Option (List T)
with_more told more = option_map (λ xs. xs ++ more) told

-- the names asked after a read: `Memory` alone leaves them as they were
abbrev pub asked_after : {T : Type 0} → Option (List (List ℕ)) → List ℕ → Result T ReadError → Option (List (List ℕ))
asked_after asked name (Ok _) = with_more asked (name ∷ [])
asked_after asked name (Err Failed) = with_more asked (name ∷ [])
asked_after asked name (Err TooLong) = with_more asked (name ∷ [])
asked_after asked name (Err Memory) = asked

-- What a read says of the file: all its bytes, or that it is there with more of them than were asked for.
-- A failed read and `Memory` say nothing of it.
abbrev pub IsFileAnswer : {T : Type 0} → Option (List ℕ) → ℕ → List ℕ → Result T ReadError → Type 0
IsFileAnswer file most into (Ok _) = file ≡ Some into
IsFileAnswer file most into (Err TooLong) = IsSomeAnd file (λ bytes. most < length bytes)
IsFileAnswer file most into (Err Failed) = ⊤
IsFileAnswer file most into (Err Memory) = ⊤

-- a count rises with a failed read, and stays with every other answer
abbrev pub CountsFailure : {T : Type 0} → ℕ → ℕ → Result T ReadError → Type 0
CountsFailure before after (Ok _) = after ≡ before
CountsFailure before after (Err Failed) = before < after
CountsFailure before after (Err TooLong) = after ≡ before
CountsFailure before after (Err Memory) = after ≡ before

-- a front of the bytes was written, and not all of them
abbrev pub IsCutShort : Option (List ℕ) → Option (List ℕ) → List ℕ → Type 0
IsCutShort old new bytes = (n : ℕ) × (n < length bytes) × (new ≡ with_more old (take n bytes))
