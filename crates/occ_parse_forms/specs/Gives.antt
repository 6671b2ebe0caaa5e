use Rattle.std.specs.Prelude.{◌≡◌, Option, Some, None, Result, Ok, Err}
use Rattle.occ_parse_forms.specs.declared.fault.Fault.{Fault}
use Rattle.occ_parse_forms.specs.declared.fault.Fault.TheVariants as fault

-- Form comes where nothing is read; memory may run out at any time
abbrev pub FailsAs : {B : Type 0} → Fault → Option B → Type 0
FailsAs fault.Form read = read ≡ None
FailsAs fault.Memory read = Unit {0}

-- what a call returned, seen by view, is what is read
abbrev pub Gives : {A B : Type 0} → (A → B) → Result A Fault → Option B → Type 0
Gives view (Ok x) read = read ≡ Some (view x)
Gives view (Err e) read = FailsAs e read

-- the same of a call that takes no memory
abbrev pub Finds : {A B : Type 0} → (A → B) → Option A → Option B → Type 0
Finds view None read = read ≡ None
Finds view (Some x) read = read ≡ Some (view x)
