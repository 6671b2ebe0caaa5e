-- How it is written where a schedule leads.
use Rattle.std.specs.Prelude.{ℕ, List, ◌∷◌, ◌++◌, codes, decimal}
use Rattle.std.specs.List.{flat_map}
use Rattle.occ_run.specs.occ_behaviour.declared.behaviour.Last.TheVariants.{Refuses, Ends}
use Rattle.occ_run.specs.occ_behaviour.Texts.{event_text, state_text, text_of_behaviour}
use Rattle.occ_run.specs.declared.answer.Stand.{Stand}
use Rattle.occ_run.specs.declared.answer.Stand.TheVariants.{Ended, Stuck, Stable, Moving}
use Rattle.occ_run_schedule.specs.declared.following.Followed.{Followed}
use Rattle.occ_run_schedule.specs.declared.following.Followed.TheVariants.{Stood, NoStep}
use Rattle.occ_run_schedule.specs.declared.following.Shown.{Shown}

-- how the program stands, the number of its steps, and then the state in which it began and the trace
abbrev pub stand_text : List (List ℕ) → Shown → Stand → List ℕ
stand_text names s (Ended state) = codes "ENDED\n" ++ text_of_behaviour names (record { state = s.state; trace = s.trace; last = Ends state })
stand_text names s (Stuck refused) = codes "STUCK\n" ++ text_of_behaviour names (record { state = s.state; trace = s.trace; last = Refuses refused })
stand_text names s (Stable n refused) = codes "STABLE " ++ decimal n ++ codes "\n" ++ text_of_behaviour names (record { state = s.state; trace = s.trace; last = Refuses refused })
stand_text names s (Moving n) = codes "MOVING " ++ decimal n ++ codes "\n" ++ codes "STATE " ++ state_text s.state ++ codes "\n"
    ++ codes "TRACE" ++ flat_map (λ e. 32 ∷ event_text names e) s.trace ++ codes "\n"

abbrev pub followed_text : List (List ℕ) → Followed → List ℕ
followed_text names (Stood s) = stand_text names s s.stand
followed_text names (NoStep k) = codes "REFUSED STEP " ++ decimal k ++ codes " NoStep\n"
