-- Spans from the left.
use Rattle.std.proofs.Common.{◌≡◌, ◌<◌, ◌≤◌, ◌-◌, suc, Bool, true, false, cond, ℕ, List, [], ◌∷◌, ◌++◌, length, get_or, take, drop, arith, refl, sym, ap, ◌∙◌, subst, append_assoc}
use Rattle.std.proofs.lemmas.List.{append-nil, take_all}
use Rattle.std.proofs.lemmas.List.Elements.{All-from_recursion, recursion_from_All}
use Rattle.std.specs.List.{AllByRecursion}
use Rattle.occ_syntax.specs.occ_base.declared.event.Event.{Event}
use Rattle.occ_tool_run.specs.occ_behaviour.Members.{AreNamed}
use Rattle.occ_tool_run.specs.occ_behaviour.Texts.{spaced}
use Rattle.occ_draw.specs.Spans.{Span, joined, precedes, span_text, spans_of}
use Rattle.occ_draw.specs.Starting.{begun, spans_from}

-- the first of the spans begins with the first event
record Begins (x : Event) (spans : List Span) : Type 0 where
  last : ℕ
  others : List Span
  is : spans ≡ (x, last) ∷ others

joined_begins : (x : Event) (spans : List Span) → Begins x (joined x spans)
joined_begins x [] = record { last = x.value; others = []; is = refl }
joined_begins x (s ∷ spans) = by (precedes x s.0)
  where
    by : (b : Bool) → Begins x (cond b ((x, s.1) ∷ spans) ((x, x.value) ∷ s ∷ spans))
    by true = record { last = s.1; others = spans; is = refl }
    by false = record { last = x.value; others = s ∷ spans; is = refl }

spans_begin : (x : Event) (rest : List Event) → Begins x (spans_of (x ∷ rest))
unfolding spans_of
spans_begin x rest = joined_begins x (spans_of rest)

-- the event that comes next goes on with the span
pub goes_on : (first last next : Event) (rest : List Event) → precedes last next ≡ true → spans_from first next rest ≡ spans_from first last (next ∷ rest)
unfolding spans_of
goes_on first last next rest h =
    let b = spans_begin next rest in
    let P : List Span → Type 0 = λ spans. begun first spans ≡ begun first (joined last spans) in
    subst P (sym b.is) (ap (λ t. begun first (cond t ((last, b.last) ∷ b.others) ((last, last.value) ∷ (next, b.last) ∷ b.others))) (sym h))

-- the event that comes next begins another span
begins_anew : (first last next : Event) (rest : List Event) → precedes last next ≡ false → spans_from first last (next ∷ rest) ≡ (first, last.value) ∷ spans_from next next rest
unfolding spans_of
begins_anew first last next rest h =
    let b = spans_begin next rest in
    let P : List Span → Type 0 = λ spans. begun first (joined last spans) ≡ (first, last.value) ∷ begun next spans in
    subst P (sym b.is) (ap (λ t. begun first (cond t ((last, b.last) ∷ b.others) ((last, last.value) ∷ (next, b.last) ∷ b.others))) h)

-- a first item, a space, and items of which there is one
spaced_more : (names : List (List ℕ)) (s : Span) (x : Event) (spans : List Span) → Begins x spans
    → span_text names s ++ 32 ∷ spaced (span_text names) spans ≡ spaced (span_text names) (s ∷ spans)
spaced_more names s x spans b =
    let P : List Span → Type 0 = λ spans. span_text names s ++ 32 ∷ spaced (span_text names) spans ≡ spaced (span_text names) (s ∷ spans) in
    subst P (sym b.is) refl

begun_begins : (first : Event) (rest : List Event) → Begins first (spans_from first first rest)
unfolding spans_of
begun_begins first rest =
    let b = spans_begin first rest in
    let P : List Span → Type 0 = λ spans. Begins first (begun first spans) in
    subst P (sym b.is) (record { last = b.last; others = b.others; is = refl })

pub written_anew : (names : List (List ℕ)) (first last next : Event) (rest : List Event) (old t u new : List ℕ) → precedes last next ≡ false
    → t ≡ old ++ span_text names (first, last.value) → u ≡ t ++ 32 ∷ [] → new ≡ u ++ spaced (span_text names) (spans_from next next rest)
    → new ≡ old ++ spaced (span_text names) (spans_from first last (next ∷ rest))
written_anew names first last next rest old t u new h e f g =
    let own = span_text names (first, last.value) in
    let more = spaced (span_text names) (spans_from next next rest) in
    g ∙ ap (λ l. l ++ more) (f ∙ ap (λ l. l ++ 32 ∷ []) e) ∙ append_assoc (old ++ own) (32 ∷ []) more ∙ append_assoc old own (32 ∷ more)
    ∙ ap (λ l. old ++ l) (spaced_more names (first, last.value) next (spans_from next next rest) (begun_begins next rest)
    ∙ ap (spaced (span_text names)) (sym (begins_anew first last next rest h)))

-- nothing comes next
pub written_last : (names : List (List ℕ)) (first last : Event) (old new : List ℕ) → new ≡ old ++ span_text names (first, last.value) → new ≡ old ++ spaced (span_text names) (spans_from first last [])
unfolding spans_of
written_last names first last old new e = e ∙ ap (λ l. old ++ l) (sym (append-nil (span_text names (first, last.value))))

-- events that begin with a first one
pub begun_whole : (first : Event) (rest : List Event) → spans_from first first rest ≡ spans_of (first ∷ rest)
begun_whole first rest =
    let b = spans_begin first rest in
    ap (begun first) b.is ∙ sym b.is

-- a list that isn't empty, in its parts
split : {A : Type 0} (xs : List A) (d : A) → 0 < length xs → xs ≡ get_or xs 0 d ∷ take (length xs - 1) (drop 1 xs)
split [] d some = absurd (omega (arith, some))
split (x ∷ xs) d some =
    let enough : length xs ≤ length (x ∷ xs) - 1 = omega arith in
    ap (λ l. x ∷ l) (sym (take_all (length (x ∷ xs) - 1) xs enough))

-- the same three of a list of events behind the last one
pub none_left : (names : List (List ℕ)) (first last : Event) (rest : List Event) (old new : List ℕ) → length rest < 1 → new ≡ old ++ span_text names (first, last.value)
    → new ≡ old ++ spaced (span_text names) (spans_from first last rest)
none_left names first last [] old new none e = written_last names first last old new e
none_left names first last (x ∷ rest) old new none e = absurd (omega (arith, none))

pub one_goes_on : (names : List (List ℕ)) (first last d : Event) (rest : List Event) (old new : List ℕ) → 0 < length rest → precedes last (get_or rest 0 d) ≡ true
    → new ≡ old ++ spaced (span_text names) (spans_from first (get_or rest 0 d) (take (length rest - 1) (drop 1 rest))) → new ≡ old ++ spaced (span_text names) (spans_from first last rest)
one_goes_on names first last d rest old new some h e =
    let next = get_or rest 0 d in
    let more = take (length rest - 1) (drop 1 rest) in
    e ∙ ap (λ s. old ++ spaced (span_text names) s) (goes_on first last next more h ∙ ap (spans_from first last) (sym (split rest d some)))

pub one_begins : (names : List (List ℕ)) (first last d : Event) (rest : List Event) (old t u new : List ℕ) → 0 < length rest → precedes last (get_or rest 0 d) ≡ false
    → t ≡ old ++ span_text names (first, last.value) → u ≡ t ++ 32 ∷ []
    → new ≡ u ++ spaced (span_text names) (spans_from (get_or rest 0 d) (get_or rest 0 d) (take (length rest - 1) (drop 1 rest))) → new ≡ old ++ spaced (span_text names) (spans_from first last rest)
one_begins names first last d rest old t u new some h e f g =
    let next = get_or rest 0 d in
    let more = take (length rest - 1) (drop 1 rest) in
    written_anew names first last next more old t u new h e f g ∙ ap (λ s. old ++ spaced (span_text names) (spans_from first last s)) (sym (split rest d some))

pub whole_events : (names : List (List ℕ)) (d : Event) (events : List Event) (old new : List ℕ) → 0 < length events
    → new ≡ old ++ spaced (span_text names) (spans_from (get_or events 0 d) (get_or events 0 d) (take (length events - 1) (drop 1 events))) → new ≡ old ++ spaced (span_text names) (spans_of events)
whole_events names d events old new some e =
    let first = get_or events 0 d in
    let more = take (length events - 1) (drop 1 events) in
    e ∙ ap (λ s. old ++ spaced (span_text names) s) (begun_whole first more ∙ ap spans_of (sym (split events d some)))

pub no_events : (names : List (List ℕ)) (events : List Event) (text : List ℕ) → length events < 1 → text ≡ text ++ spaced (span_text names) (spans_of events)
unfolding spans_of
no_events names [] text none = sym (append-nil text)
no_events names (x ∷ events) text none = absurd (omega (arith, none))

pub rest_shorter : (rest : List Event) (d : Event) → 0 < length rest → length (take (length rest - 1) (drop 1 rest)) < length rest
rest_shorter rest d some =
    let one_more : length rest ≡ suc (length (take (length rest - 1) (drop 1 rest))) = ap length (split rest d some) in
    omega (arith, one_more)

pub rest_named : (names : List (List ℕ)) (rest : List Event) (d : Event) → 0 < length rest → AreNamed names rest → AreNamed names (take (length rest - 1) (drop 1 rest))
rest_named names rest d some all =
    let P : Event → Type 0 = λ e. e.chan.0 < length names in
    let Q : List Event → Type 0 = λ l. AllByRecursion P l in
    All-from_recursion P (take (length rest - 1) (drop 1 rest)) (subst Q (split rest d some) (recursion_from_All P rest all)).1
