-- What is told of a file.
use Rattle.std.proofs.Common.{◌≡◌, ℕ, List, [], Option, Result, Ok, Err, IfOk, subst}
use Rattle.occ_tool_run.specs.occ_base.declared.memory.Memory.{Memory}
use Rattle.occ_tool_run.specs.occ_syntax.declared.scope.Program.{Program as Stored}
use Rattle.occ_tool_run.proofs.Judging.{accepted_file, refused_file, unusable_file}
use Rattle.occ_tool_run.specs.declared.accept.Refusal.{Refusal}
use Rattle.occ_tool_run.specs.declared.accept.Refusal.TheVariants as refusal
use Rattle.occ_tool_run.specs.occ_call.declared.loading.Loaded.{Loaded}
use Rattle.occ_tool_run.specs.occ_call.declared.replying.Reply.{Reply}
use Rattle.occ_tool_run.specs.occ_call.Files.{IsLoaded, most_bytes}
use Rattle.occ_tool_run.specs.Judged.{IsAcceptedFrom, IsRefusedFrom}
use Rattle.occ_tool_run.specs.Stored.{seen}
use Rattle.occ_check.specs.Answers.{Answers, TellsRefusal, passed, refused, unusable}

abbrev AnswersAll : List ℕ → Loaded → Reply → Type 0
AnswersAll name l reply = (file : Option (List ℕ)) → IsLoaded most_bytes file l → Answers name file reply.status reply.text.items

pub all_passed : (r : Result Reply Memory) (name : List ℕ) (l : Loaded) (names : List (List ℕ)) (p : Stored) → IsAcceptedFrom l [] names p
    → IfOk r (λ reply. reply.status ≡ 0) → IfOk r (AnswersAll name l)
all_passed (Err m) name l names p read zero = tt
all_passed (Ok reply) name l names p read zero = λ file h. passed names (seen p) (accepted_file l file [] names p read h) zero

refused_as : (reply : Reply) (name : List ℕ) (l : Loaded) (names : List (List ℕ)) (f : Refusal) → IsRefusedFrom l [] names f → TellsRefusal name names f reply.text.items
    → reply.status ≡ 3 → AnswersAll name l reply
refused_as reply name l names (refusal.Text fault) why told three = λ file h. refused fault (refused_file l file [] names fault why h) told three
refused_as reply name l names (refusal.Usage line fault) why told three = λ file h. unusable names line fault (unusable_file l file [] names line fault why h) told three
refused_as reply name l names refusal.Memory why told three = absurd told

pub all_refused : (r : Result Reply Memory) (shown name : List ℕ) (l : Loaded) (names : List (List ℕ)) (f : Refusal) → shown ≡ name → IsRefusedFrom l [] names f
    → IfOk r (λ reply. TellsRefusal shown names f reply.text.items) → IfOk r (λ reply. reply.status ≡ 3) → IfOk r (AnswersAll name l)
all_refused (Err m) shown name l names f e why told three = tt
all_refused (Ok reply) shown name l names f e why told three = refused_as reply name l names f why (subst (λ n. TellsRefusal n names f reply.text.items) e told) three
