-- What is read of the files that the words name.
use Rattle.std.specs.Prelude.{ℕ, ◌≡◌, ◌≤◌, ◌<◌, List, [], ◌∷◌, length, take, nat_lt, if◌then◌else◌, Option, None, Some, Result, Ok, Err, IsSomeAnd}
use Rattle.std.specs.Cmp.Lexicographic.{slice_cmp}
use Rattle.std.specs.Option.{option_cmp}
use Rattle.std.specs.Ordering.{nat_cmp}
use Rattle.std.specs.declared.cmp.Ordering.{Ordering}
use Rattle.occ_desk.specs.Desk.{with_more}
use Rattle.occ_call.specs.declared.loading.Contents.{Contents}
use Rattle.occ_call.specs.declared.loading.Loaded.{Loaded}
use Rattle.occ_call.specs.declared.loading.Loaded.TheVariants.{Bytes, TooLong}
use Rattle.occ_call.specs.declared.loading.Stop.{Stop}
use Rattle.occ_call.specs.declared.loading.Stop.TheVariants.{Read, Memory}
use Rattle.occ_call.specs.declared.loading.Wanted.{Wanted}
use Rattle.occ_call.specs.declared.loading.Wanted.TheVariants.{Nothing, One, Two}

-- the bytes of each file that there is
abbrev pub Files : Type 0
Files = List ℕ → Option (List ℕ)

-- how many bytes the text of a program or of a behaviour has at most
abbrev pub most_bytes : ℕ
most_bytes = 65536

-- how many bytes a script has at most
abbrev pub most_script_bytes : ℕ
most_script_bytes = 4194304

-- how many bytes a normal text has at most
abbrev pub most_table_bytes : ℕ
most_table_bytes = 67108864

-- the file as it was read, where it may have so many bytes
abbrev pub IsLoaded : ℕ → Option (List ℕ) → Loaded → Type 0
IsLoaded most file (Bytes bytes) = (file ≡ Some bytes.items) × (length bytes.items ≤ most)
IsLoaded most file TooLong = IsSomeAnd file (λ bytes. most < length bytes)

-- the file holds no more bytes than a text of its kind has at most, or is known to be too long
abbrev pub IsShort : ℕ → Loaded → Type 0
IsShort most (Bytes bytes) = length bytes.items ≤ most
IsShort most TooLong = Unit {0}

-- ---- the files that a command reads

-- their names, in order
abbrev pub names_of : Wanted → List (List ℕ)
names_of Nothing = []
names_of (One file) = file.name.now ∷ []
names_of (Two file other) = file.name.now ∷ other.name.now ∷ []

-- each of them as it was read
abbrev pub AreLoaded : Files → Wanted → Contents → Type 0
AreLoaded files Nothing contents = Unit {0}
AreLoaded files (One file) contents = IsLoaded file.most (files file.name.now) contents.first
AreLoaded files (Two file other) contents =
    IsLoaded file.most (files file.name.now) contents.first × IsLoaded other.most (files other.name.now) contents.second

-- none of them holds more bytes than it may have
abbrev pub AreShort : Wanted → Contents → Type 0
AreShort Nothing contents = Unit {0}
AreShort (One file) contents = IsShort file.most contents.first
AreShort (Two file other) contents = IsShort file.most contents.first × IsShort other.most contents.second

-- ---- the order of two texts

-- the bytes of a file that isn't too long for the text of a program
abbrev pub short_bytes : Option (List ℕ) → Option (List ℕ)
short_bytes None = None
short_bytes (Some bytes) = if nat_lt most_bytes (length bytes) then None else Some bytes

abbrev pub loaded_bytes : Loaded → Option (List ℕ)
loaded_bytes (Bytes bytes) = Some bytes.items
loaded_bytes TooLong = None

-- the order of two texts by their bytes, one that is too long in front of all others
abbrev pub text_order : Option (List ℕ) → Option (List ℕ) → Ordering
text_order = option_cmp (slice_cmp nat_cmp)

abbrev pub order_of : Option (List ℕ) → Option (List ℕ) → Ordering
order_of one two = text_order (short_bytes one) (short_bytes two)

-- ---- what was asked of the desk

-- A front of the names was asked for, that many of them.
pub record AsksFront (old new : Option (List (List ℕ))) (names : List (List ℕ)) (from : ℕ) : Type 0 where
  pub count : ℕ
  pub least : from ≤ count
  pub most : count ≤ length names
  pub asked : new ≡ with_more old (take count names)

-- All the names were asked for, in order, or a front of them: one that ends with the failed read, or, where memory
-- runs out, any.
abbrev pub AsksFor : {T : Type 0} → Option (List (List ℕ)) → Option (List (List ℕ)) → List (List ℕ) → Result T Stop → Type 0
AsksFor old new names (Ok _) = new ≡ with_more old names
AsksFor old new names (Err Read) = AsksFront old new names 1
AsksFor old new names (Err Memory) = AsksFront old new names 0

-- the count of failed reads rises with a failed read, and stays with every other answer
abbrev pub CountsStop : {T : Type 0} → ℕ → ℕ → Result T Stop → Type 0
CountsStop before after (Ok _) = after ≡ before
CountsStop before after (Err Read) = before < after
CountsStop before after (Err Memory) = after ≡ before
