-- The steps that a pair is made of, and the pair as a step of controls at once.
use Rattle.std.proofs.Common.{◌≡◌, ◌+◌, ◌<◌, ◌∷◌, ◌++◌, ℕ, Bool, get_or, subst, List, [], Global, length, true, Option, Some, refl, ap, sym, ◌∙◌, slice_get, zero, suc, arith}
use Rattle.std.proofs.lemmas.Bool.{and_parts}
use Rattle.std.specs.List.{filter}
use Rattle.std.specs.declared.rc.Rc.{Rc}
use mathlib.Core.Path.{fun_ext}
use Rattle.occ_syntax.specs.occ_base.Event.{counterpart}
use Rattle.occ_syntax.specs.occ_base.declared.event.Event.{Event}
use Rattle.occ_syntax.specs.Scopes.{Environment, Values}
use Rattle.occ_run_steps.specs.Control.{Control}
use Rattle.occ_run_steps.specs.Kept.{all_types_held, types_held}
use Rattle.occ_run_steps.specs.Step.{Step, answers, is_event, joint, leaving, same}
use Rattle.occ_run.specs.declared.control.Control.{Control as TheControl}
use Rattle.occ_run.specs.declared.effect.Offer.{Offer}
use Rattle.occ_run.specs.declared.meeting.Met.{Met}
use Rattle.occ_run.specs.Effects.{Effect, both_of, offered, pairs_of}
use Rattle.occ_run.specs.declared.found.Found.{Found}
use Rattle.occ_run.specs.declared.found.Found.TheVariants.{Step as Here, Past}
use Rattle.occ_run.specs.Founds.{IsAt, asked, each_effects, effects}
use Rattle.occ_run.specs.MeetingRuns.{IsMet, events}
use Rattle.occ_run.specs.View.{control, controls}
use Rattle.occ_run.proofs.MeetingPairs.{and_true, answers_same, one_stands}
use Rattle.occ_run.proofs.Meetings.{filter_events, met_is}
use Rattle.occ_run.proofs.Pairing.{PairAt}
use Rattle.occ_run.proofs.Sizes.{size, sizes}
use Rattle.std.proofs.lemmas.Option.{slice_get_read}
use Rattle.occ_syntax.specs.occ_base.declared.names.Name.{Name}
use Rattle.occ_syntax.specs.occ_base.declared.width.Width.{Width}

-- ---- one of controls at once

below : {A : Type 0} (xs : List A) (i : ℕ) (x : A) → slice_get xs i ≡ Some x → i < length xs
below [] i x h = cc
below (y ∷ xs) zero x h = omega arith
below (y ∷ xs) (suc i) x h = let e = below xs i x h in omega (arith, e)

each_length : (Γ : Environment) (s : Values) (parts : List (Rc TheControl Global)) → length (each_effects Γ s (controls parts)) ≡ length parts
each_length Γ s [] = refl
each_length Γ s (part ∷ parts) = ap suc (each_length Γ s parts)

pub part_there : (Γ : Environment) (s : Values) (parts : List (Rc TheControl Global)) (i : ℕ) (ks : List (Step Effect)) → slice_get (each_effects Γ s (controls parts)) i ≡ Some ks → i < length parts
part_there Γ s parts i ks h = let e = below (each_effects Γ s (controls parts)) i ks h in let f = each_length Γ s parts in omega (arith, e, f)

part_effects : (Γ : Environment) (s : Values) (parts : List (Rc TheControl Global)) (i : ℕ) (ks : List (Step Effect)) (part : Rc TheControl Global)
    → slice_get (each_effects Γ s (controls parts)) i ≡ Some ks → slice_get parts i ≡ Some part → effects Γ s (control part.value) ≡ ks
part_effects Γ s [] i ks part h g = cc
part_effects Γ s (x ∷ parts) zero ks part h g =
    let same_part : x ≡ part = cc in
    let same_steps : effects Γ s (control x.value) ≡ ks = cc in
    ap (λ (y : Rc TheControl Global). effects Γ s (control y.value)) (sym same_part) ∙ same_steps
part_effects Γ s (x ∷ parts) (suc i) ks part h g = part_effects Γ s parts i ks part h g

part_held : (Γ : Environment) (parts : List (Rc TheControl Global)) (i : ℕ) (part : Rc TheControl Global) → all_types_held (controls parts) Γ ≡ true → slice_get parts i ≡ Some part
    → types_held (control part.value) Γ ≡ true
part_held Γ [] i part h g = cc
part_held Γ (x ∷ parts) zero part h g =
    let same_part : x ≡ part = cc in
    ap (λ (y : Rc TheControl Global). types_held (control y.value) Γ) (sym same_part) ∙ (and_parts (types_held (control x.value) Γ) (all_types_held (controls parts) Γ) h).0
part_held Γ (x ∷ parts) (suc i) part h g = part_held Γ parts i part (and_parts (types_held (control x.value) Γ) (all_types_held (controls parts) Γ) h).1 g

part_size : (parts : List (Rc TheControl Global)) (i : ℕ) (part : Rc TheControl Global) → slice_get parts i ≡ Some part → size (control part.value) < sizes (controls parts)
part_size [] i part h = cc
part_size (x ∷ parts) zero part h =
    let same_part : x ≡ part = cc in
    let same_size = ap (λ (y : Rc TheControl Global). size (control y.value)) same_part in
    omega (arith, same_size)
part_size (x ∷ parts) (suc i) part h = let later = part_size parts i part h in omega (arith, later)

-- a control is one of those at once: it is smaller than all, it is typed, and its steps are these
pub record IsPart (Γ : Environment) (s : Values) (parts : List (Rc TheControl Global)) (ks : List (Step Effect)) (C : Control) : Type 0 where
  pub less : size C < sizes (controls parts)
  pub typed : types_held C Γ ≡ true
  pub same : effects Γ s C ≡ ks

-- the control of that number
pub part_is : (Γ : Environment) (s : Values) (parts : List (Rc TheControl Global)) (i : ℕ) (ks : List (Step Effect)) (part : Rc TheControl Global) (C : Control) → all_types_held (controls parts) Γ ≡ true
    → slice_get (each_effects Γ s (controls parts)) i ≡ Some ks → part ≡ get_or parts i part → C ≡ control part.value → IsPart Γ s parts ks C
part_is Γ s parts i ks part C held h is same =
    let there : slice_get parts i ≡ Some part = slice_get_read parts (length parts) i part refl (part_there Γ s parts i ks h) is in
    let small = part_size parts i part there in
    let same_size = ap size same in
    record {
      less = omega (arith, small, same_size);
      typed = ap (λ D. types_held D Γ) same ∙ part_held Γ parts i part held there;
      same = ap (effects Γ s) same ∙ part_effects Γ s parts i ks part h there;
    }

-- ---- the two steps

pub first_more : (ks ls : List (Step Effect)) (n : ℕ) (e : Event) (x y : ℕ) → IsMet (events ks) (events ls) n e x y → x < length (filter (is_event e) ks)
first_more ks ls n e x y m =
    let more = one_stands e m.front m.back in
    let before = m.stands in
    let whole : length (filter (same e) (events ks)) ≡ length (filter (same e) (m.front ++ Some e ∷ m.back)) = ap (λ es. length (filter (same e) es)) m.split in
    let count : length (filter (is_event e) ks) ≡ length (filter (same e) (events ks)) = filter_events (same e) ks in
    omega (arith, more, before, whole, count)

pub second_more : (ks ls : List (Step Effect)) (n : ℕ) (e f : Event) (x y : ℕ) → f ≡ counterpart e → IsMet (events ks) (events ls) n e x y → y < length (filter (is_event f) ls)
second_more ks ls n e f x y it m =
    let other : length (filter (is_event f) ls) ≡ length (filter (is_event (counterpart e)) ls) = ap (λ g. length (filter (is_event g) ls)) it in
    let there = m.there in
    let test : length (filter (answers (Some e)) (events ls)) ≡ length (filter (same (counterpart e)) (events ls)) = ap (λ (p : Option Event → Bool). length (filter p (events ls))) (fun_ext (answers_same e)) in
    let count : length (filter (is_event (counterpart e)) ls) ≡ length (filter (same (counterpart e)) (events ls)) = filter_events (same (counterpart e)) ls in
    omega (arith, there, test, count, other)

-- of the same steps so many are an event
pub same_more : (ks ls : List (Step Effect)) (e : Event) (n : ℕ) → ks ≡ ls → n < length (filter (is_event e) ls) → n < length (filter (is_event e) ks)
same_more ks ls e n same below = let count = ap (λ js. length (filter (is_event e) js)) same in omega (arith, below, count)

-- and the step of a number is the same
pub same_step : (ks ls : List (Step Effect)) (e f : Event) (n : ℕ) (x : Offer) → ks ≡ ls → e ≡ f → slice_get (filter (is_event e) ks) n ≡ Some (offered x) → slice_get (filter (is_event f) ls) n ≡ Some (offered x)
same_step ks ls e f n x same it found =
    sym (ap (λ js. slice_get (filter (is_event f) js) n) same) ∙ sym (ap (λ g. slice_get (filter (is_event g) ks) n) it) ∙ found

-- the pair stands at the number
pub pair_stands : (kss : List (List (Step Effect))) (n : ℕ) (m : Met) (it : PairAt kss n m) (a b offer : Offer)
    → slice_get (filter (is_event m.event) it.ones) m.before ≡ Some (offered a) → slice_get (filter (is_event (counterpart m.event)) it.others) m.answer ≡ Some (offered b)
    → offered offer ≡ leaving (both_of m.first m.second) (joint (offered a) (offered b)) → slice_get (pairs_of 0 kss) n ≡ Some (offered offer)
pair_stands kss n m it a b offer f s e =
    it.whole (joint (offered a) (offered b)) (met_is it.ones it.others it.is_met.front it.is_met.back m.event it.inner m.before m.answer (offered a) (offered b)
    it.is_met.split it.is_met.passed it.is_met.stands f s)
    ∙ ap Some (sym e)

-- where those are asked for that are an event, they are these
pub event_asked : (e : Event) (ks : List (Step Effect)) → asked [] (Some e) ks ≡ filter (is_event e) ks
event_asked e ks = ap (λ (p : Step Effect → Bool). filter p ks) (fun_ext (λ k. and_true (is_event e k)))

-- the step that is found is the one of the number
pub event_here : (hidden : List (Name × Width)) (e : Event) (ks : List (Step Effect)) (n : ℕ) (r : Found) (x : Offer) → hidden ≡ [] → r ≡ Here x → IsAt (asked hidden (Some e) ks) n r
    → slice_get (filter (is_event e) ks) n ≡ Some (offered x)
event_here hidden e ks n r x none is h =
    let P : Found → Type 0 = λ f. IsAt (asked hidden (Some e) ks) n f in
    sym (ap (λ js. slice_get js n) (ap (λ cs. asked cs (Some e) ks) none ∙ event_asked e ks)) ∙ subst P is h

-- there are more than that number
pub not_past : (hidden : List (Name × Width)) (e : Event) (ks : List (Step Effect)) (n m : ℕ) (r : Found) → hidden ≡ [] → n < length (filter (is_event e) ks) → r ≡ Past m
    → IsAt (asked hidden (Some e) ks) n r → ⊥
not_past hidden e ks n m r none more is h =
    let P : Found → Type 0 = λ f. IsAt (asked hidden (Some e) ks) n f in
    let past : length (asked hidden (Some e) ks) + m ≡ n = subst P is h in
    let count = ap length (ap (λ cs. asked cs (Some e) ks) none ∙ event_asked e ks) in
    omega (arith, more, past, count)
