-- The lines that refuse steps of a script.
use Rattle.std.specs.Prelude.{ℕ, List, ◌++◌, codes, decimal}
use Rattle.occ_draw.specs.declared.fault.Lack.{Lack}
use Rattle.occ_draw.specs.declared.fault.Lack.TheVariants.{NoLaw, NoPath, NotAccepted}

abbrev pub lack_text : Lack → List ℕ
lack_text NoLaw = codes "NoLaw"
lack_text NoPath = codes "NoPath"
lack_text NotAccepted = codes "NotAccepted"

-- the number of the step, from 1, and what it lacks
abbrev pub step_refusal_text : ℕ → Lack → List ℕ
step_refusal_text step lack = codes "REFUSED STEP " ++ decimal step ++ codes " " ++ lack_text lack ++ codes "\n"
