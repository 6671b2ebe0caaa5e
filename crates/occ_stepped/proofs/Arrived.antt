-- Where the steps of a schedule lead.
use Rattle.std.proofs.Common.{◌≡◌, ℕ, List, Option, None, Some, Ok, Err, MatchOption}
use Rattle.occ_run.specs.Configurations.{Configuration, followed, started}
use Rattle.occ_run.specs.Laws.{IsLed}
use Rattle.occ_run_schedule.specs.declared.schedule.Schedule.{Schedule}
use Rattle.occ_syntax.specs.declared.scope.Program.{Program}

-- steps of which none is missing lead to where the machine stands
pub led_there : (program : Program) (schedule : Schedule) (steps : List ℕ) (start there : Configuration) (missing : Option ℕ)
    → start ≡ started program schedule.state → steps ≡ schedule.steps → missing ≡ None
    → MatchOption missing (followed 1 start steps ≡ Ok there) (λ k. followed 1 start steps ≡ Err k) → followed 1 (started program schedule.state) schedule.steps ≡ Ok there
led_there program schedule steps start there None e f m h = let led : followed 1 start steps ≡ Ok there = h in cc
led_there program schedule steps start there (Some k) e f m h = cc

abbrev pub Law : Type 0
Law = (k : ℕ) (c : Configuration) (ns : List ℕ) (d : Configuration) → followed k c ns ≡ Ok d → IsLed c d ns

-- and the parameters there are the program's
pub params_there : Law → (program : Program) (schedule : Schedule) (there : Configuration) → followed 1 (started program schedule.state) schedule.steps ≡ Ok there
    → there.params ≡ program.params
params_there law program schedule there h = (law 1 (started program schedule.state) schedule.steps there h).params
