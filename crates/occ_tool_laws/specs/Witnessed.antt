-- What two answers of `witness` to one command line have to do with each other.
use Rattle.std.specs.Prelude.{ℕ, ◌≡◌, ◌⊎◌, List, codes}
use Rattle.occ_witness.specs.occ_behaviour.declared.behaviour.Side.TheVariants.{Second}
use Rattle.occ_witness.specs.occ_tool_run.Texts.{refusal_text}

-- It is a schedule, or says that the one that was found is too long.
abbrev pub IsShowing : ℕ → List ℕ → Type 0
IsShowing status text = (status ≡ 0) ⊎ (text ≡ refusal_text Second 1 (codes "Long"))

-- Both have one status and one text; or each is a schedule, or says that the one that was found is too long.
abbrev pub AreOneWitness : ℕ → List ℕ → ℕ → List ℕ → Type 0
AreOneWitness s a t b = ((s ≡ t) × (a ≡ b)) ⊎ (IsShowing s a × IsShowing t b)
