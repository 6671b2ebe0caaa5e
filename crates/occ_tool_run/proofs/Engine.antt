-- Programs that were transformed.
use Rattle.std.proofs.Common.{◌≡◌, ◌≢◌, ◌≤◌, ◌<◌, ◌⊎◌, inl, inr, ℕ, true, List, [], ◌∷◌, length, Option, Some, Result, Ok, Err, IfOk, Vec, Global, refl, sym, ap, subst, ◌∙◌, arith}
use Rattle.std.specs.List.{AllByRecursion}
use Rattle.std.proofs.lemmas.List.{length-append}
use Rattle.occ_syntax.specs.occ_base.declared.memory.Memory.{Memory}
use Rattle.occ_syntax.specs.occ_base.declared.names.Name.{Name}
use Rattle.occ_run_schedule.specs.occ_behaviour.declared.behaviour.Side.TheVariants.{First}
use Rattle.occ_derive.specs.occ_derive_search.Derivations.{IsDerived}
use Rattle.occ_derive.specs.occ_derive_moves.Steps.{Steps}
use Rattle.occ_engine_written.specs.occ_engine.declared.fault.EngineFault.{EngineFault}
use Rattle.occ_engine_written.specs.occ_engine.declared.fault.EngineFault.TheVariants as engine
use Rattle.occ_engine_written.specs.occ_engine.declared.outcome.Outcome.{Outcome}
use Rattle.occ_engine_written.specs.occ_engine.Granted.{IsExpansion, IsNotExpanded}
use Rattle.occ_engine_written.specs.occ_engine.Moved.{moves_of, orders_of}
use Rattle.occ_engine_written.specs.occ_engine.Outcomes.{AreStopped, IsLedOut, IsOutcome, IsTabled}
use Rattle.occ_engine_written.specs.occ_engine_known.Known.{IsKnownPart, LeadToKnown, MovesAreKnown, NamesAreBelow}
use Rattle.occ_replay.specs.occ_replay_rules.Expansion.{IsExpanded}
use Rattle.occ_replay.specs.occ_replay_rules.Moves.{Move, Moves}
use Rattle.occ_replay.specs.occ_replay_rules.Orders.{Follows, no_law, no_path, not_accepted, not_applicable}
use Rattle.occ_replay.specs.occ_lex.Symbols.{Extends}
use Rattle.occ_run_schedule.specs.occ_meaning.Context.{put}
use Rattle.occ_tool_words.specs.occ_parse.declared.bound.Bound.{Bound}
use Rattle.occ_tool_words.specs.occ_parse.declared.bound.Bound.TheVariants as bound
use Rattle.occ_tool_words.specs.occ_parse.Reading.{IsRead}
use Rattle.occ_replay.specs.occ_print.Known.{ProgramIsKnown}
use Rattle.occ_replay.specs.occ_script.declared.fault.ScriptFault.{ScriptFault}
use Rattle.occ_replay.specs.occ_script.declared.fault.ScriptFault.TheVariants as script
use Rattle.occ_replay.specs.occ_script.declared.script.Order.{Order}
use Rattle.occ_replay.specs.occ_script.Orders.{IsBadOrder, IsBadRest, IsOrders, IsOrdersFault, bad_head, bad_rest, behind_order, in_lines, in_order, no_line, no_order_line, too_long}
use Rattle.occ_replay.specs.occ_script_lines.declared.section.Format.TheVariants as format
use Rattle.occ_replay.specs.occ_script_lines.Sections.{Section}
use Rattle.occ_replay.specs.occ_script.Lines.{named_in}
use Rattle.occ_derive.specs.occ_script_write.declared.writing.Done.{Done}
use Rattle.occ_derive.specs.occ_script_write.Text.{IsWritable, script_text}
use Rattle.occ_syntax.specs.declared.scope.Kind.{Kind}
use Rattle.occ_syntax.specs.declared.scope.Program.{Program}
use Rattle.occ_syntax.specs.Same.{SAME}
use Rattle.occ_syntax.specs.Scopes.{environment}
use Rattle.occ_syntax.specs.Tree.{Tree}
use Rattle.occ_syntax.specs.Types.{scope_kept, types_kept}
use Rattle.occ_syntax.specs.Usage.{Keeps}
use Rattle.occ_syntax.specs.View.{tree}
use Rattle.occ_run_schedule.specs.occ_usage.Accepted.{IsAccepted as IsAcceptedProgram}
use Rattle.occ_tool_run.specs.declared.accept.Refusal.{Refusal}
use Rattle.occ_tool_run.specs.declared.answer.Answer.{Answer}
use Rattle.occ_tool_run.specs.declared.answer.Answer.TheVariants.{Written}
use Rattle.occ_call.specs.declared.loading.Loaded.{Loaded}
use Rattle.occ_call.specs.declared.loading.Loaded.TheVariants.{Bytes, TooLong}
use Rattle.occ_tool_run.specs.Answers.{Transforms, accepted}
use Rattle.occ_call.specs.Files.{IsLoaded, most_bytes, most_script_bytes}
use Rattle.occ_tool_run.specs.Judged.{IsAcceptedFrom, IsRefusalAnswer, IsRefusedFrom}
use Rattle.occ_tool_run.specs.Transformed.{CanBeWritten, HasKnownNames, IsOfExpansion, IsOrderRefusal, IsOrdersRefusal, IsPathRefusal}
use Rattle.occ_tool_run.specs.Transforms.{IsExpandedTo, IsScriptOf, IsTransformed, blocked, expanded, faulty_orders, followed_orders, no_par, no_part, stopped_orders}
use Rattle.occ_tool_run.specs.Stored.{OfStored, seen}
use Rattle.occ_tool_run.proofs.Judging.{accepted_file, refusal_taken, there}
use Rattle.occ_tool_run.proofs.Scripted.{IsTold, bad_head_told, text_told}

abbrev Table : Type 0
Table = List (List ℕ)

-- ---- two files

abbrev TransformsAll : Loaded → Loaded → Answer → Type 0
TransformsAll first second a = (one two : Option (List ℕ)) → IsLoaded most_bytes one first → IsLoaded most_script_bytes two second
    → Transforms one two a

-- the program is refused
pub refuse_transforming : (r : Result Answer Memory) (first second : Loaded) (old new : Table) (f : Refusal) → old ≡ []
    → IfOk r (IsRefusalAnswer new First f)
    → IsRefusedFrom first old new f → IfOk r (TransformsAll first second)
refuse_transforming (Err m) first second old new f e is why = tt
refuse_transforming (Ok a) first second old new f e is why = λ one two h k.
    let t = there most_script_bytes second two k in
    let P : Table → Type 0 = λ o. IsRefusedFrom first o new f in
    record { bytes = t.0; there = t.1; text = refusal_taken First first one [] new (OfStored (IsTransformed t.0)) f a is (subst P e why) h }

-- or it is accepted
pub take_transforming : (r : Result Answer Memory) (first second : Loaded) (old new : Table) (p : Program) → old ≡ []
    → IsAcceptedFrom first old new p
    → IfOk r (λ a. (bytes : List ℕ) → IsLoaded most_script_bytes (Some bytes) second → IsTransformed bytes new p a)
    → IfOk r (TransformsAll first second)
take_transforming (Err m) first second old new p e read h = tt
take_transforming (Ok a) first second old new p e read h = λ one two j k.
    let t = there most_script_bytes second two k in
    let P : Option (List ℕ) → Type 0 = λ file. IsLoaded most_script_bytes file second in
    let Q : Table → Type 0 = λ o. IsAcceptedFrom first o new p in
    record { bytes = t.0; there = t.1; text = accepted new (seen p) (accepted_file first one [] new p (subst Q e read) j) (record { stored = p; program_is = refl; answered = h t.0 (subst P t.1 k) }) }

abbrev TransformedAll : Table → Program → Loaded → Answer → Type 0
TransformedAll names p l a = (bytes : List ℕ) → IsLoaded most_script_bytes (Some bytes) l → IsTransformed bytes names p a

some_is : {X : Type 0} (x y : X) → Some x ≡ Some y → x ≡ y
some_is x y e = cc

pub transform_bytes : (r : Result Answer Memory) (names : Table) (p : Program) (l : Loaded) (bytes : Vec ℕ Global) (text : List ℕ)
    → l ≡ Bytes bytes → text ≡ bytes.items
    → IfOk r (IsTransformed text names p) → IfOk r (TransformedAll names p l)
transform_bytes (Err m) names p l bytes text e same h = tt
transform_bytes (Ok a) names p l bytes text e same h =
    let P : Loaded → Type 0 = λ k. TransformedAll names p k a in
    let Q : List ℕ → Type 0 = λ b. IsTransformed b names p a in
    subst P (sym e) (λ b k. subst Q (same ∙ sym (some_is b bytes.items k.0)) h)

-- ---- known names

abbrev pub ReadLaw : Type 0
ReadLaw = (b : Bound) (text : List ℕ) (old new : Table) (name : Name) (params : List (Name × Kind)) (body : Tree) (numbers : List ℕ)
    → IsRead b text old new name params body numbers → name.0 < length new

-- the names of a program that is accepted
pub names_from : ReadLaw → (l : Loaded) (old new : Table) (p : Program) → IsAcceptedFrom l old new p → HasKnownNames new p
names_from law (Bytes text) old new p h = record {
  name = law bound.Program text.items old new p.name p.params (tree p.body) h.accepted.numbers h.accepted.read;
  below = record { scope_names = h.known.params; declared = h.known.body };
}
names_from law TooLong old new p h = absurd h

abbrev pub StayLaw : Type 0
StayLaw = (m n : ℕ) (S : List (Name × Kind)) (p : Tree) → m ≤ n → NamesAreBelow m S p → NamesAreBelow n S p

longer : (old new : Table) → Extends old new → length old ≤ length new
longer old new e = omega (arith, ap length e.1 ∙ length-append old e.0)

-- stay known where the table grows
pub names_grown : StayLaw → (old new : Table) (p : Program) → Extends old new → HasKnownNames old p → HasKnownNames new p
names_grown law old new p e h = record {
  name = omega (arith, h.name, longer old new e);
  below = law (length old) (length new) p.params (tree p.body) (longer old new e) h.below;
}

abbrev pub KeptLaw : Type 0
KeptLaw = (n : ℕ) (S : List (Name × Kind)) (p : Tree) → scope_kept S ≡ true → types_kept p (environment S) ≡ true → NamesAreBelow n S p
    → IsKnownPart n S p

program_known : KeptLaw → (names : Table) (p : Program) → IsAcceptedProgram p → HasKnownNames names p
    → ProgramIsKnown names p.name.0 p.params (tree p.body)
program_known law names p a h =
    let k = law (length names) p.params (tree p.body) a.typed.scope a.typed.types h.below in
    record { name_is = h.name; params_are = k.scope_known; body_is = k.known }

steps_writable : (names : Table) (S : List (Name × Kind)) (p : Tree) (steps : List Done) → MovesAreKnown (length names) S p (moves_of steps)
    → AllByRecursion IsTabled steps
    → AllByRecursion (IsWritable names) steps
steps_writable names S p [] m t = tt
steps_writable names S p (s ∷ ss) m t =
    (record { low = t.0.low; high = t.0.high; known = m.0.known }, steps_writable names S (put s.path p (tree s.part)) ss m.1 t.1)

-- moves that lead to known names can be written
can_be_written : KeptLaw → (names : Table) (p : Program) (o : Outcome) → IsAcceptedProgram p → HasKnownNames names p → IsOutcome p o
    → LeadToKnown (length names) p.params (tree p.body) (moves_of o.steps) (tree o.to.body) → CanBeWritten names p o
can_be_written law names p o a h is k =
    let P : List (Name × Kind) → Type 0 = λ ps. AllByRecursion (λ (e : Name × Kind). e.0.0 < length names) ps in
    record {
      first = program_known law names p a h;
      steps = steps_writable names p.params (tree p.body) o.steps k.moves_are is.tabled;
      last = record {
        name_is = subst (λ (n : Name). n.0 < length names) (sym is.name) h.name;
        params_are = subst P (sym is.params) k.result.scope_known;
        body_is = k.result.known;
      };
    }

abbrev pub FollowLaw : Type 0
FollowLaw = (text : List ℕ) (old new : Table) (orders : List Order) (S : List (Name × Kind)) (p q : Tree) (moves : List Move)
    → IsOrders text old new orders → scope_kept S ≡ true
    → Keeps (environment S) p → NamesAreBelow (length new) S p → Follows S p (orders_of orders) moves q
    → LeadToKnown (length new) S p moves q

pub followed_written : KeptLaw → FollowLaw → (text : List ℕ) (old new : Table) (p : Program) (orders items : List Order) (o : Outcome)
    → items ≡ orders → IsAcceptedProgram p → HasKnownNames new p
    → IsOrders text old new orders → IsLedOut p (orders_of items) o → IsOutcome p o → CanBeWritten new p o
followed_written kept law text old new p orders items o e a h read led is =
    let P : List Order → Type 0 = λ os. IsLedOut p (orders_of os) o in
    can_be_written kept new p o a h is
    (law text old new orders p.params (tree p.body) (tree o.to.body) (moves_of o.steps) read a.typed.scope a.keeps h.below (subst P e led).followed)

abbrev pub ExpandLaw : Type 0
ExpandLaw = (n : ℕ) (S : List (Name × Kind)) (p q : Tree) (path : List ℕ) (moves : List Move) → scope_kept S ≡ true
    → Keeps (environment S) p → NamesAreBelow n S p → IsExpanded S p path moves q
    → LeadToKnown n S p moves q

pub expanded_written : KeptLaw → ExpandLaw → (names : Table) (p : Program) (path : List ℕ) (o : Outcome) → IsAcceptedProgram p
    → HasKnownNames names p → IsExpansion p path o → IsOutcome p o
    → CanBeWritten names p o
expanded_written kept law names p path o a h is out =
    can_be_written kept names p o a h out (law (length names) p.params (tree p.body) (tree o.to.body) path (moves_of o.steps) a.typed.scope a.keeps h.below is)

-- ---- scripts

abbrev pub MovesLaw : Type 0
MovesLaw = (S : List (Name × Kind)) (p q : Tree) (moves : List Move) → Moves S p moves q → Steps S p moves q

-- what an engine made is derived by steps
pub derived_of : MovesLaw → (p : Program) (o : Outcome) → IsOutcome p o → IsDerived p o
derived_of law p o is = record {
  name = is.name;
  params = is.params;
  steps = law p.params (tree p.body) (tree o.to.body) (moves_of o.steps) is.moves;
  tabled = is.tabled;
}

abbrev pub SameLaw : Type 0
SameLaw = (S : List (Name × Kind)) (p q : Tree) (moves : List Move) → scope_kept S ≡ true → Keeps (environment S) p → Steps S p moves q
    → SAME (environment S) p q

-- what was written is the script of the steps
pub script_of : SameLaw → (names : Table) (p from : Program) (o : Outcome) (items : List Done) (text : Vec ℕ Global) → from ≡ p
    → items ≡ o.steps → IsAcceptedProgram p → IsDerived p o
    → text.items ≡ script_text names from items o.to → IsScriptOf names p o.steps o.to (Written text)
script_of law names p from o items text e same a is h = record {
  name = is.name;
  params = is.params;
  same = law p.params (tree p.body) (tree o.to.body) (moves_of o.steps) a.typed.scope a.keeps is.steps;
  text = text;
  text_is = h ∙ (λ i. script_text names (e i) (same i) o.to);
  answer_is = refl;
}

pub steps_there : (names : Table) (p : Program) (o : Outcome) (items : List Done) → items ≡ o.steps → CanBeWritten names p o
    → AllByRecursion (IsWritable names) items
steps_there names p o items e h = let P : List Done → Type 0 = λ ss. AllByRecursion (IsWritable names) ss in subst P (sym e) h.steps

pub first_there : (names : Table) (p from : Program) (o : Outcome) → from ≡ p → CanBeWritten names p o
    → ProgramIsKnown names from.name.0 from.params (tree from.body)
first_there names p from o e h = let P : Program
    → Type 0 = λ q. ProgramIsKnown names q.name.0 q.params (tree q.body) in subst P (sym e) h.first

-- ---- orders

-- orders that are followed
pub orders_followed : (r : Result Answer Memory) (bytes : List ℕ) (names new : Table) (p : Program) (orders items : List Order) (o : Outcome)
    → items ≡ orders → length bytes ≤ most_script_bytes
    → IsOrders bytes names new orders → IsLedOut p (orders_of items) o → IfOk r (IsScriptOf new p o.steps o.to)
    → IfOk r (IsTransformed bytes names p)
orders_followed (Err m) bytes names new p orders items o e short read led h = tt
orders_followed (Ok a) bytes names new p orders items o e short read led h =
    let P : List Order → Type 0 = λ os. IsLedOut p (orders_of os) o in
    followed_orders new orders o.steps o.to short read (subst P e led).followed h

pub order_fault : (p : Program) (orders : List Order) (f : EngineFault) → AreStopped p (orders_of orders) f → f ≢ engine.NotPar
order_fault p orders (engine.NoLaw k) h e = cc
order_fault p orders (engine.NoPath k) h e = cc
order_fault p orders (engine.NotAccepted k) h e = cc
order_fault p orders (engine.NotApplicable k) h e = cc
order_fault p orders engine.NotPar h e = absurd h
order_fault p orders engine.Memory h e = cc

stopped : (bytes : List ℕ) (names new : Table) (p : Program) (orders : List Order) (f : EngineFault) (a : Answer)
    → length bytes ≤ most_script_bytes → IsOrders bytes names new orders
    → AreStopped p (orders_of orders) f → IsOrderRefusal f a → IsTransformed bytes names p a
stopped bytes names new p orders (engine.NoLaw k) a short read h is = stopped_orders new orders k no_law short read h is
stopped bytes names new p orders (engine.NoPath k) a short read h is = stopped_orders new orders k no_path short read h is
stopped bytes names new p orders (engine.NotAccepted k) a short read h is = stopped_orders new orders k not_accepted short read h is
stopped bytes names new p orders (engine.NotApplicable k) a short read h is = stopped_orders new orders k not_applicable short read h is
stopped bytes names new p orders engine.NotPar a short read h is = absurd h
stopped bytes names new p orders engine.Memory a short read h is = absurd is

-- or the first that can't be
pub orders_stopped : (r : Result Answer Memory) (bytes : List ℕ) (names new : Table) (p : Program) (orders items : List Order) (f : EngineFault)
    → items ≡ orders → length bytes ≤ most_script_bytes
    → IsOrders bytes names new orders → AreStopped p (orders_of items) f → IfOk r (IsOrderRefusal f) → IfOk r (IsTransformed bytes names p)
orders_stopped (Err m) bytes names new p orders items f e short read h is = tt
orders_stopped (Ok a) bytes names new p orders items f e short read h is =
    let P : List Order → Type 0 = λ os. AreStopped p (orders_of os) f in
    stopped bytes names new p orders f a short read (subst P e h) is

-- or the text is refused
pub orders_refused : (r : Result Answer Memory) (bytes : List ℕ) (names : Table) (p : Program) (f : ScriptFault)
    → length bytes ≤ most_script_bytes → IfOk r (IsOrdersRefusal f)
    → IsOrdersFault bytes names f ⊎ (f ≡ script.Memory) → IfOk r (IsTransformed bytes names p)
orders_refused (Err m) bytes names p f short told why = tt
orders_refused (Ok a) bytes names p f short told (inl read) = faulty_orders f short read told.0
orders_refused (Ok a) bytes names p f short told (inr bad) = absurd (told.1 bad)

-- ---- faults of orders are told

bad_order_told : (old : Table) (s : Section) (e : ScriptFault) → IsBadOrder old s e → IsTold e
bad_order_told old s e (no_order_line a) kept = tt
bad_order_told old s e (in_lines h fault a b) kept = subst IsTold (sym b.is) (text_told b.fault) kept

bad_rest_told : (old : Table) (ss : List Section) (e : ScriptFault) → IsBadRest old ss e → IsTold e
bad_rest_told old ss e (in_order o s others fault b) kept = bad_order_told o s fault b kept
bad_rest_told old ss e (behind_order o t s others order fault i b) kept = bad_rest_told t others fault b kept

orders_fault_told : (text : List ℕ) (old : Table) (e : ScriptFault) → IsOrdersFault text old e → IsTold e
orders_fault_told text old e (too_long a) kept = λ h. cc
orders_fault_told text old e (no_line a b) kept = tt
orders_fault_told text old e (bad_head head rest fault a b c) kept = bad_head_told format.Orders old head fault c kept
orders_fault_told text old e (bad_rest head rest fault a b h c) kept = bad_rest_told (named_in head old) rest fault c kept

pub orders_fault_or_memory_told : (text : List ℕ) (old : Table) (e : ScriptFault) → IsOrdersFault text old e ⊎ (e ≡ script.Memory)
    → IsTold e
orders_fault_or_memory_told text old e (inl h) kept = orders_fault_told text old e h kept
orders_fault_or_memory_told text old e (inr h) kept = absurd (kept h)

-- ---- an expansion

pub par_expanded : (r : Result Answer Memory) (names : Table) (p : Program) (path : List ℕ) (o : Outcome) → IsExpansion p path o
    → IfOk r (IsScriptOf names p o.steps o.to)
    → IfOk r (IsExpandedTo path names p)
par_expanded (Err m) names p path o is h = tt
par_expanded (Ok a) names p path o is h = expanded o.steps o.to is h

pub expansion_fault : (p : Program) (path : List ℕ) (f : EngineFault) → IsNotExpanded p path f → IsOfExpansion f
expansion_fault p path (engine.NoLaw k) h = h
expansion_fault p path (engine.NoPath k) h = tt
expansion_fault p path (engine.NotAccepted k) h = tt
expansion_fault p path (engine.NotApplicable k) h = h
expansion_fault p path engine.NotPar h = tt
expansion_fault p path engine.Memory h = tt

not_expanded : (names : Table) (p : Program) (path : List ℕ) (f : EngineFault) (a : Answer) → IsNotExpanded p path f → IsPathRefusal f a
    → IsExpandedTo path names p a
not_expanded names p path (engine.NoLaw k) a h is = absurd h
not_expanded names p path (engine.NoPath k) a h is = no_part h.1 is
not_expanded names p path (engine.NotAccepted k) a h is = blocked h.1 is
not_expanded names p path (engine.NotApplicable k) a h is = absurd h
not_expanded names p path engine.NotPar a h is = no_par h is
not_expanded names p path engine.Memory a h is = absurd is

pub path_refused : (r : Result Answer Memory) (names : Table) (p : Program) (path : List ℕ) (f : EngineFault) → IsNotExpanded p path f
    → IfOk r (IsPathRefusal f) → IfOk r (IsExpandedTo path names p)
path_refused (Err m) names p path f h is = tt
path_refused (Ok a) names p path f h is = not_expanded names p path f a h is
