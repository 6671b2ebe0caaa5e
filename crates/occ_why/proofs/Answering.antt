-- How answers are put together.
use Rattle.std.proofs.Common.{ℕ, List, ◌≡◌, ◌≤◌, ◌⊎◌, inl, inr, Option, None, Some, codes, arith, subst}
use Rattle.occ_tool_run.specs.occ_behaviour.declared.behaviour.Behaviour.{Behaviour}
use Rattle.occ_tool_run.specs.occ_behaviour.declared.behaviour.Side.{Side}
use Rattle.occ_tool_run.specs.occ_behaviour.declared.behaviour.Side.TheVariants.{First, Second}
use Rattle.occ_tool_run.specs.occ_behaviour.declared.behaviour.Verdict.{Verdict}
use Rattle.occ_tool_run.specs.occ_behaviour.declared.behaviour.Verdict.TheVariants.{Differ, Same}
use Rattle.occ_tool_run.specs.Answers.{Seeks, Settles}
use Rattle.occ_tool_run.specs.Texts.{status_of}
use Rattle.occ_tool_run.specs.occ_call.Files.{IsLoaded, most_bytes}
use Rattle.occ_tool_run.specs.occ_call.Ran.{IsOwnStatus}
use Rattle.occ_tool_run.specs.occ_call.declared.loading.Loaded.{Loaded}
use Rattle.occ_tool_run.specs.occ_call.declared.replying.Reply.{Reply}
use Rattle.occ_tool_run.specs.declared.answer.Answer.{Answer}
use Rattle.occ_tool_run.specs.declared.answer.Answer.TheVariants.{Compared, InterfacesDiffer, Sought}
use Rattle.occ_tool_run.specs.declared.judge.Question.TheVariants.{WhetherSame}
use Rattle.occ_why.specs.Answers.{IsApart, IsStuck, Replies, RepliesApart, TellsDifference, TellsFound, TellsVerdict, alike, apart, free, stuck, unlike}
use Rattle.occ_why.specs.Told.{AreLinesOf, IsTold, TellApartBy}
use Rattle.occ_why.proofs.Refusing.{OfDeadlock, OfSame, different, of_deadlock, of_same, of_search, of_verdict, refusal, refusal_alone}

-- ---- two programs

abbrev pub SettlesAll : Loaded → Loaded → Answer → Type 0
SettlesAll first second a = (one two : Option (List ℕ)) → IsLoaded most_bytes one first → IsLoaded most_bytes two second → Settles WhetherSame one two a

abbrev pub RepliesAll : Loaded → Loaded → Option Reply → Type 0
RepliesAll first second told = (one two : Option (List ℕ)) → IsLoaded most_bytes one first → IsLoaded most_bytes two second → RepliesApart one two told

settles_as : (first second : Loaded) (a b : Answer) → a ≡ b → SettlesAll first second a → SettlesAll first second b
settles_as first second a b e s = subst (SettlesAll first second) e s

mapped : {A B C : Type 0} → (B → C) → A ⊎ B → A ⊎ C
mapped f (inl a) = inl a
mapped f (inr b) = inr (f b)

apart_so : (side : Side) (first second : Loaded) (known : List (List ℕ)) (b : Behaviour) (lines text : List ℕ) (status : ℕ) → AreLinesOf known b lines
    → TellApartBy side first second lines text → status ≡ 1 → (one two : Option (List ℕ)) → IsLoaded most_bytes one first → IsLoaded most_bytes two second
    → IsApart side one two known b status text
apart_so First first second known b lines text status are t e one two j k =
    record { own = lines; are = are; lines = t.chosen; chosen = mapped (λ tell. tell one two j k) t.choose; told = t.told; status_is = e }
apart_so Second first second known b lines text status are t e one two j k =
    record { own = lines; are = are; lines = t.chosen; chosen = mapped (λ tell. tell two one k j) t.choose; told = t.told; status_is = e }

pub compared_told : (first second : Loaded) (a : Answer) (known : List (List ℕ)) (v : Verdict) (reply : Reply) → SettlesAll first second a
    → a ≡ Compared known v → TellsVerdict known v first second reply → RepliesAll first second (Some reply)
compared_told first second a known Same reply s e t = λ one two j k. alike known (settles_as first second a _ e s one two j k) t.0 t.1
compared_told first second a known (Differ b side) reply s e t = λ one two j k.
    apart known b side (settles_as first second a _ e s one two j k)
    (apart_so side first second known b t.lines reply.text.items reply.status t.are t.told t.status_is one two j k)

pub unlike_told : (first second : Loaded) (a : Answer) (reply : Reply) → SettlesAll first second a → a ≡ InterfacesDiffer → reply.status ≡ 7
    → reply.text.items ≡ codes "INTERFACES DIFFER\n" → RepliesAll first second (Some reply)
unlike_told first second a reply s e status text = λ one two j k. unlike (settles_as first second a _ e s one two j k) status text

refused_so : (a : Answer) → OfSame a → ((known : List (List ℕ)) (v : Verdict) → a ≡ Compared known v → ⊥) → (a ≡ InterfacesDiffer → ⊥) → status_of a ≡ 3
refused_so a (refusal three) compared other = three
refused_so a (different e) compared other = absurd (other e)
refused_so a (of_verdict known v e) compared other = absurd (compared known v e)

-- any other answer refuses a file
pub refused_pair : (first second : Loaded) (a : Answer) → SettlesAll first second a → ((known : List (List ℕ)) (v : Verdict) → a ≡ Compared known v → ⊥)
    → (a ≡ InterfacesDiffer → ⊥) → RepliesAll first second None
refused_pair first second a s compared other = λ one two j k.
    let settled = s one two j k in
    record { answer = a; settles = settled; refused = refused_so a (of_same one two a settled) compared other }

-- ---- replies

pub differs_so : (known : List (List ℕ)) (b : Behaviour) (side : Side) (first second : Loaded) (lines : List ℕ) (reply : Reply) → AreLinesOf known b lines
    → TellApartBy side first second lines reply.text.items → reply.status ≡ 1 → TellsDifference known b side first second reply
differs_so known b side first second lines reply are t e = record { lines = lines; are = are; told = t; status_is = e }

pub stuck_so : (known : List (List ℕ)) (b : Behaviour) (lines text : List ℕ) (status : ℕ) → AreLinesOf known b lines → IsTold (codes "DEADLOCK") lines text
    → status ≡ 1 → IsStuck known b status text
stuck_so known b lines text status are t e = record { lines = lines; are = are; told = t; status_is = e }

pub own_low : (n : ℕ) → n ≤ 1 → IsOwnStatus n
own_low n h = inl (omega (arith, h))

pub own_seven : (n : ℕ) → n ≡ 7 → IsOwnStatus n
own_seven n e = inr e

-- ---- one program

abbrev pub SeeksAll : Loaded → Answer → Type 0
SeeksAll program a = (file : Option (List ℕ)) → IsLoaded most_bytes file program → Seeks file a

abbrev pub RepliesAlone : Loaded → Option Reply → Type 0
RepliesAlone program told = (file : Option (List ℕ)) → IsLoaded most_bytes file program → Replies file told

seeks_as : (program : Loaded) (a b : Answer) → a ≡ b → SeeksAll program a → SeeksAll program b
seeks_as program a b e s = subst (SeeksAll program) e s

pub found_told : (program : Loaded) (a : Answer) (known : List (List ℕ)) (found : Option Behaviour) (reply : Reply) → SeeksAll program a
    → a ≡ Sought known found → TellsFound known found reply → RepliesAlone program (Some reply)
found_told program a known None reply s e t = λ file j. free known (seeks_as program a _ e s file j) t.0 t.1
found_told program a known (Some b) reply s e t = λ file j. stuck known b (seeks_as program a _ e s file j) t

refused_alone_so : (a : Answer) → OfDeadlock a → ((known : List (List ℕ)) (found : Option Behaviour) → a ≡ Sought known found → ⊥) → status_of a ≡ 3
refused_alone_so a (refusal_alone three) sought = three
refused_alone_so a (of_search known b e) sought = absurd (sought known b e)

-- any other answer refuses the file
pub refused_alone : (program : Loaded) (a : Answer) → SeeksAll program a → ((known : List (List ℕ)) (found : Option Behaviour) → a ≡ Sought known found → ⊥)
    → RepliesAlone program None
refused_alone program a s sought = λ file j.
    let settled = s file j in record { answer = a; seeks = settled; refused = refused_alone_so a (of_deadlock file a settled) sought }
