-- What a call leaves, by its status.
use Rattle.std.specs.Prelude.{ℕ, ◌≡◌, ◌≢◌, ◌≤◌, ◌⊎◌, List, Option, Result, Ok, Err}
use Rattle.occ_desk.specs.Desk.{with_more, IsCutShort}
use Rattle.occ_call.specs.Files.{AsksFront}
use Rattle.occ_call.specs.declared.loading.Stop.{Stop}
use Rattle.occ_call.specs.declared.loading.Stop.TheVariants.{Read, Memory}
use Rattle.occ_call.specs.declared.replying.Reply.{Reply}

-- The whole answer was written, with its own status; or a front of it, where a write failed; or nothing, where a read
-- failed or memory ran out. `Answers` says which statuses and texts are answers.
pub data Leaves (Answers : ℕ → List ℕ → Type 0) (status : ℕ) (old new : Option (List ℕ)) : Type 0 where
  answered : (text : List ℕ) → Answers status text → new ≡ with_more old text → Leaves Answers status old new
  cut_short : status ≡ 5 → (whole : ℕ) (text : List ℕ) → Answers whole text → IsCutShort old new text → Leaves Answers status old new
  unread : status ≡ 4 → new ≡ old → Leaves Answers status old new
  no_memory : status ≡ 6 → new ≡ old → Leaves Answers status old new

-- All these names were asked for, in order, and no other; or a front of them that ends with a failed read; or, where
-- memory runs out, any front.
pub data Asked (names : List (List ℕ)) (status : ℕ) (old new : Option (List (List ℕ))) : Type 0 where
  all : status ≢ 4 → new ≡ with_more old names → Asked names status old new
  up_to_failure : status ≡ 4 → AsksFront old new names 1 → Asked names status old new
  for_memory : status ≡ 6 → AsksFront old new names 0 → Asked names status old new

-- ---- how a call ends

-- a status that an answer has
abbrev pub IsOwnStatus : ℕ → Type 0
IsOwnStatus status = (status ≤ 3) ⊎ (status ≡ 7)

-- the whole reply was written, or a front of it, where a write failed
pub data IsSent (reply : Reply) (status : ℕ) (old new : Option (List ℕ)) : Type 0 where
  whole : status ≡ reply.status → new ≡ with_more old reply.text.items → IsSent reply status old new
  front : status ≡ 5 → IsCutShort old new reply.text.items → IsSent reply status old new

-- by what was made of the words and the files
abbrev pub Ends : Result Reply Stop → ℕ → Option (List ℕ) → Option (List ℕ) → Type 0
Ends (Ok reply) status old new = IsSent reply status old new
Ends (Err Read) status old new = (status ≡ 4) × (new ≡ old)
Ends (Err Memory) status old new = (status ≡ 6) × (new ≡ old)
