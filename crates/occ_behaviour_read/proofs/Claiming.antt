-- A text is read as a behaviour where it is written so, and else it is faulty where no behaviour's text goes on.
use Rattle.std.proofs.Common.{◌≡◌, ◌↔◌, ◌∙◌, ℕ, suc, ◌+◌, ◌<◌, Bool, true, false, List, [], ◌∷◌, ◌++◌, length, take, max, slice_get, Option, None, Some, Result, Ok, Err, refl, sym, ap, subst, arith, ⊎_elim}
use Rattle.std.specs.Prelude.{codes}
use Rattle.std.specs.Str.{bytes_eq}
use Rattle.std.proofs.lemmas.Bool.{both_ways, cases_Bool}
use Rattle.std.proofs.lemmas.Option.{none-some, same_Some}
use Rattle.std.proofs.lemmas.Slice.Eq.{bytes_eq-Decides}
use Rattle.occ_syntax.specs.occ_base.Names.{IsDistinct}
use Rattle.occ_syntax.specs.occ_base.declared.event.Event.{Event}
use Rattle.occ_syntax.specs.occ_base.declared.names.Name.{Name}
use Rattle.occ_syntax.specs.declared.scope.Kind.{Kind}
use Rattle.occ_compare.specs.occ_behaviour.declared.behaviour.Behaviour.{Behaviour}
use Rattle.occ_compare.specs.occ_behaviour.declared.behaviour.Last.{Last}
use Rattle.occ_compare.specs.occ_behaviour.declared.behaviour.Last.TheVariants.{Ends}
use Rattle.occ_nform_read.specs.occ_nform_table.Tables.{are_params, IsInterface}
use Rattle.occ_nform_read.specs.occ_nform_table.Texts.{state_at_place}
use Rattle.occ_nform_read.specs.occ_nform_table.Words.{behind, between}
use Rattle.occ_nform_read.proofs.from_nform_table.Names.{apart}
use Rattle.occ_nform_read.proofs.from_nform_table.PlaceNames.{place_is_state}
use Rattle.occ_nform_read.proofs.from_nform_table.ReadWords.{bytes_same}
use Rattle.occ_behaviour_read.specs.Claims.{and_then, bare_lines, claim_in, claim_read, closed, ends_at, first_of, found_at, is_differ, last_line, only_line, read_at, state_line, trace_line}
use Rattle.occ_behaviour_read.proofs.Lists.{err_is, first_is, later_are, no_line, ok_is, ok_not}
use Rattle.occ_compare.specs.Programs.{IsOfInterface}
use Rattle.occ_behaviour_read.specs.Behaviours.{AreBehaviourLines, IsBehaviourText, IsInOrder, alone, told}
use Rattle.occ_behaviour_read.specs.Stops.{GoesOn, StopsAt, within, too_early}
use Rattle.occ_behaviour_read.proofs.ReadTexts.{last_line_inv, only_inv, state_line_inv, trace_line_inv}
use Rattle.occ_behaviour_read.proofs.Stops.{goes_front, goes_whole, no_stop, one_stop}
use Rattle.occ_behaviour_read.proofs.Written.{behaviour_lines, claim_lines, last_body, last_read, only_body, only_read, state_body, state_read, told_lines, trace_body, trace_read, verdict_lines}

-- the line in front of a difference
abbrev mark : List ℕ
mark = codes "DIFFER"

abbrev headed : Bool → List (List ℕ) → List (List ℕ)
headed false rest = rest
headed true rest = mark ∷ rest

-- the lines behind those of the behaviour itself
abbrev Closes : Bool → List (List ℕ) → Type 0
Closes false tail = tail ≡ []
Closes true tail = (line : List ℕ) × (is : Bool) × (tail ≡ line ∷ []) × (only_line line ≡ Some is)

-- where there is no line of a difference in front
abbrev IsOther : Bool → List (List ℕ) → Type 0
IsOther true rest = Unit {0}
IsOther false [] = Unit {0}
IsOther false (line ∷ lines) = bytes_eq line mark ≡ false

still_other : (m : Bool) (n : ℕ) (rest more : List (List ℕ)) → n < length rest → IsOther m rest → IsOther m (take (suc n) rest ++ more)
still_other true n rest more h other = tt
still_other false n [] more h other = absurd (omega (arith, h))
still_other false n (line ∷ lines) more h other = other

record IsSplit (lines : List (List ℕ)) : Type 0 where
  marked : Bool
  rest : List (List ℕ)
  are : lines ≡ headed marked rest
  marked_is : is_differ (slice_get lines 0) ≡ marked
  other : IsOther marked rest

split : (lines : List (List ℕ)) → IsSplit lines
split [] = record { marked = false; rest = []; are = refl; marked_is = refl; other = tt }
split (line ∷ lines) = ⊎_elim
    (λ (t : bytes_eq line mark ≡ true). record { marked = true; rest = lines; are = ap (λ l. l ∷ lines) (bytes_same line mark t); marked_is = t; other = tt })
    (λ (f : bytes_eq line mark ≡ false). record { marked = false; rest = line ∷ lines; are = refl; marked_is = f; other = f })
    (cases_Bool (bytes_eq line mark))

no_state : (params : List (Name × Kind)) → state_line params mark ≡ None
unfolding state_line between behind
no_state params = refl

module _ (names : List (List ℕ)) (params : List (Name × Kind)) (distinct : IsDistinct names) (interface : IsInterface names params) (are : are_params names [] params ≡ true) where
  abbrev Any : List (List ℕ) → Type 0
  Any = AreBehaviourLines names params

  -- the lines are read as a behaviour
  record Reads (m : Bool) (b : Behaviour) (lines : List (List ℕ)) : Type 0 where
    first : List ℕ
    second : List ℕ
    third : List ℕ
    tail : List (List ℕ)
    lines_are : lines ≡ first ∷ second ∷ third ∷ tail
    state : state_line params first ≡ Some b.state
    trace : trace_line names params second ≡ Some b.trace
    last : last_line names params third ≡ Some b.last
    closes : Closes m tail

  abbrev Kind_of : Bool → List (List ℕ) → Type 0
  Kind_of m lines = (b : Behaviour) × Reads m b lines

  -- ---- lines that are read are those that are written

  inside : (m : Bool) (b : Behaviour) (lines : List (List ℕ)) → Reads m b lines → IsOfInterface params b × IsInOrder params b.last
  inside m b lines r =
      let three = last_line_inv names params (apart names [] params are) r.third b.last r.last in (
        record {
          state = (state_line_inv params r.first b.state r.state).1;
          trace = (trace_line_inv names params (apart names [] params are) r.second b.trace r.trace).1;
          last = three.1;
        },
        three.2,
      )

  three_are : (m : Bool) (b : Behaviour) (lines : List (List ℕ)) (r : Reads m b lines) → lines ≡ claim_lines names b ++ r.tail
  three_are m b lines r =
      let one = state_line_inv params r.first b.state r.state in
      let two = trace_line_inv names params (apart names [] params are) r.second b.trace r.trace in
      let three = last_line_inv names params (apart names [] params are) r.third b.last r.last in
      r.lines_are ∙ (λ i. one.0 i ∷ two.0 i ∷ three.0 i ∷ r.tail)

  written : (m : Bool) (b : Behaviour) (lines : List (List ℕ)) → Reads m b lines → IsBehaviourText names params b (headed m lines)
  written false b lines r =
      let own = inside false b lines r in
      alone own.0 own.1 (three_are false b lines r ∙ ap (λ t. claim_lines names b ++ t) r.closes ∙ sym (behaviour_lines names params distinct interface are b own.0))
  written true b lines r =
      let own = inside true b lines r in
      let only = only_inv r.closes.0 r.closes.1 r.closes.3 in
      told only.0 own.0 own.1 (ap (λ t. mark ∷ t) (three_are true b lines r ∙ ap (λ t. claim_lines names b ++ t) (r.closes.2 ∙ ap (λ l. l ∷ []) only.1))
      ∙ sym (verdict_lines names params distinct interface are b only.0 own.0))

  record IsReadBack (b : Behaviour) (lines : List (List ℕ)) : Type 0 where
    marked : Bool
    rest : List (List ℕ)
    are_so : lines ≡ headed marked rest
    reads : Reads marked b rest

  read_back : (b : Behaviour) (lines : List (List ℕ)) → IsBehaviourText names params b lines → IsReadBack b lines
  read_back b lines (alone h o e) = record {
    marked = false;
    rest = claim_lines names b;
    are_so = e ∙ behaviour_lines names params distinct interface are b h;
    reads = record {
      first = state_body b.state;
      second = trace_body names b.trace;
      third = last_body names b.last;
      tail = [];
      lines_are = refl;
      state = state_read names params distinct interface are b.state h.state;
      trace = trace_read names params distinct interface are b.trace h.trace;
      last = last_read names params distinct interface are b.last h.last o;
      closes = refl;
    };
  }
  read_back b lines (told side h o e) = record {
    marked = true;
    rest = told_lines names b side;
    are_so = e ∙ verdict_lines names params distinct interface are b side h;
    reads = record {
      first = state_body b.state;
      second = trace_body names b.trace;
      third = last_body names b.last;
      tail = only_body side ∷ [];
      lines_are = refl;
      state = state_read names params distinct interface are b.state h.state;
      trace = trace_read names params distinct interface are b.trace h.trace;
      last = last_read names params distinct interface are b.last h.last o;
      closes = (only_body side, true, refl, only_read side);
    };
  }

  -- lines that are written so are read so
  lowered : (m n : Bool) (b : Behaviour) (lines rest : List (List ℕ)) → IsOther m lines → headed m lines ≡ headed n rest → Reads n b rest → Reads m b lines
  lowered false false b lines rest other e r = subst (Reads false b) (sym e) r
  lowered true true b lines rest other e r = subst (Reads true b) (sym (later_are e)) r
  lowered false true b [] rest other e r = absurd (no_line e)
  lowered false true b (line ∷ lines) rest other e r = absurd (both_ways (bytes_eq line mark) other ((bytes_eq-Decides line mark).1 (first_is e)))
  lowered true false b lines rest other e r =
      absurd (none-some b.state (sym (no_state params) ∙ ap (state_line params) (first_is (e ∙ r.lines_are)) ∙ r.state))

  reads_from : (m : Bool) (b : Behaviour) (lines : List (List ℕ)) → IsOther m lines → IsBehaviourText names params b (headed m lines) → Reads m b lines
  reads_from m b lines other h = let back = read_back b (headed m lines) h in lowered m back.marked b lines back.rest other back.are_so back.reads

  kind_from : (m : Bool) (lines : List (List ℕ)) → IsOther m lines → Any (headed m lines) → Kind_of m lines
  kind_from m lines other h = (h.0, reads_from m h.0 lines other h.1)

  lifted : (m : Bool) (front : List (List ℕ)) → GoesOn (Kind_of m) front → GoesOn Any (headed m front)
  lifted false front g = (g.0, (g.1.0, written false g.1.0 (front ++ g.0) g.1.1))
  lifted true front g = (g.0, (g.1.0, written true g.1.0 (front ++ g.0) g.1.1))

  lower : (m : Bool) (n : ℕ) (rest : List (List ℕ)) → n < length rest → IsOther m rest → GoesOn Any (headed m (take (suc n) rest)) → GoesOn (Kind_of m) (take (suc n) rest)
  lower false n rest h other g = (g.0, kind_from false (take (suc n) rest ++ g.0) (still_other false n rest g.0 h other) g.1)
  lower true n rest h other g = (g.0, kind_from true (take (suc n) rest ++ g.0) (still_other true n rest g.0 h other) g.1)

  -- ---- fronts that go on

  abbrev some_state : List (Name × ℕ)
  some_state = state_at_place params 0

  abbrev made : List (Name × ℕ) → List Event → Last → Behaviour
  made state trace last = record { state = state; trace = trace; last = last }

  abbrev end_of : Bool → List (List ℕ)
  end_of false = []
  end_of true = codes "ONLY FIRST" ∷ []

  closed_so : (m : Bool) → Closes m (end_of m)
  unfolding only_line
  closed_so false = refl
  closed_so true = (codes "ONLY FIRST", true, refl, refl)

  some_first : state_line params (state_body some_state) ≡ Some some_state
  some_first = state_read names params distinct interface are some_state (place_is_state params 0)

  some_second : trace_line names params (trace_body names []) ≡ Some []
  some_second = trace_read names params distinct interface are [] refl

  some_third : last_line names params (last_body names (Ends some_state)) ≡ Some (Ends some_state)
  some_third = last_read names params distinct interface are (Ends some_state) (place_is_state params 0) tt

  reads_so : (m : Bool) (one two three : List ℕ) (state : List (Name × ℕ)) (trace : List Event) (last : Last) → state_line params one ≡ Some state → trace_line names params two ≡ Some trace
      → last_line names params three ≡ Some last → Kind_of m (one ∷ two ∷ three ∷ end_of m)
  reads_so m one two three state trace last e f g = (
    made state trace last,
    record { first = one; second = two; third = three; tail = end_of m; lines_are = refl; state = e; trace = f; last = g; closes = closed_so m },
  )

  behind_none : (m : Bool) → GoesOn (Kind_of m) []
  behind_none m = (
    state_body some_state ∷ trace_body names [] ∷ last_body names (Ends some_state) ∷ end_of m,
    reads_so m (state_body some_state) (trace_body names []) (last_body names (Ends some_state)) some_state [] (Ends some_state) some_first some_second some_third,
  )

  behind_one : (m : Bool) (one : List ℕ) (state : List (Name × ℕ)) → state_line params one ≡ Some state → GoesOn (Kind_of m) (one ∷ [])
  behind_one m one state e = (
    trace_body names [] ∷ last_body names (Ends some_state) ∷ end_of m,
    reads_so m one (trace_body names []) (last_body names (Ends some_state)) state [] (Ends some_state) e some_second some_third,
  )

  behind_two : (m : Bool) (one two : List ℕ) (state : List (Name × ℕ)) (trace : List Event) → state_line params one ≡ Some state → trace_line names params two ≡ Some trace
      → GoesOn (Kind_of m) (one ∷ two ∷ [])
  behind_two m one two state trace e f = (
    last_body names (Ends some_state) ∷ end_of m,
    reads_so m one two (last_body names (Ends some_state)) state trace (Ends some_state) e f some_third,
  )

  behind_three : (m : Bool) (one two three : List ℕ) (state : List (Name × ℕ)) (trace : List Event) (last : Last) → state_line params one ≡ Some state
      → trace_line names params two ≡ Some trace → last_line names params three ≡ Some last → GoesOn (Kind_of m) (one ∷ two ∷ three ∷ [])
  behind_three m one two three state trace last e f g = (end_of m, reads_so m one two three state trace last e f g)

  -- ---- the reading, line by line

  abbrev after_last : Bool → List (List ℕ) → List (Name × ℕ) → List Event → Last → Result Behaviour ℕ
  after_last m rest state trace last = and_then (closed (headed m rest) m) (λ done. Ok (made state trace last))

  abbrev after_trace : Bool → List (List ℕ) → List (Name × ℕ) → List Event → Result Behaviour ℕ
  after_trace m rest state trace = and_then (read_at (headed m rest) (first_of m + 2) (slice_get rest 2) (last_line names params)) (after_last m rest state trace)

  abbrev after_state : Bool → List (List ℕ) → List (Name × ℕ) → Result Behaviour ℕ
  after_state m rest state = and_then (read_at (headed m rest) (first_of m + 1) (slice_get rest 1) (trace_line names params)) (after_trace m rest state)

  abbrev read_in : Bool → List (List ℕ) → Result Behaviour ℕ
  read_in m rest = and_then (read_at (headed m rest) (first_of m) (slice_get rest 0) (state_line params)) (after_state m rest)

  claim_is : (m : Bool) (rest : List (List ℕ)) → claim_in names params (headed m rest) m ≡ read_in m rest
  claim_is false rest = refl
  claim_is true rest = refl

  data Found (m : Bool) (rest : List (List ℕ)) (r : Result Behaviour ℕ) : Type 0 where
    whole : (b : Behaviour) → Reads m b rest → r ≡ Ok b → Found m rest r
    faulty : (n : ℕ) → n < length rest → GoesOn (Kind_of m) (take n rest) → (GoesOn (Kind_of m) (take (suc n) rest) → ⊥) → r ≡ Err (first_of m + n + 1) → Found m rest r
    short : GoesOn (Kind_of m) rest → (Kind_of m rest → ⊥) → r ≡ Err (max (length (headed m rest)) 1) → Found m rest r

  no_tail : (m : Bool) (b : Behaviour) (one two three : List ℕ) (tail : List (List ℕ)) (r : Reads m b (one ∷ two ∷ three ∷ tail)) → tail ≡ r.tail
  no_tail m b one two three tail r = later_are (later_are (later_are r.lines_are))

  by_only : (one two three line : List ℕ) (more : List (List ℕ)) (state : List (Name × ℕ)) (trace : List Event) (last : Last) (e : state_line params one ≡ Some state)
      (f : trace_line names params two ≡ Some trace) (g : last_line names params three ≡ Some last) (o : Option Bool) → only_line line ≡ o
      → Found true (one ∷ two ∷ three ∷ line ∷ more)
      (and_then (and_then (found_at 4 o) (λ is. ends_at 5 (slice_get more 0))) (λ done. Ok (made state trace last)))
  by_only one two three line more state trace last e f g None h =
      faulty 3 (omega arith) (behind_three true one two three state trace last e f g)
      (λ k. let same = no_tail true k.1.0 one two three (line ∷ k.0) k.1.1 ∙ k.1.1.closes.2 in
      absurd (none-some k.1.1.closes.1 (sym h ∙ ap only_line (first_is same) ∙ k.1.1.closes.3))) refl
  by_only one two three line [] state trace last e f g (Some is) h =
      whole (made state trace last) (record {
        first = one;
        second = two;
        third = three;
        tail = line ∷ [];
        lines_are = refl;
        state = e;
        trace = f;
        last = g;
        closes = (line, is, refl, h);
      }) refl
  by_only one two three line (next ∷ more) state trace last e f g (Some is) h =
      faulty 4 (omega arith)
      ([], (made state trace last, record { first = one; second = two; third = three; tail = line ∷ []; lines_are = refl; state = e; trace = f; last = g; closes = (line, is, refl, h) }))
      (λ k. let same = no_tail true k.1.0 one two three (line ∷ next ∷ k.0) k.1.1 ∙ k.1.1.closes.2 in no_line (sym (later_are same))) refl

  by_tail : (m : Bool) (one two three : List ℕ) (tail : List (List ℕ)) (state : List (Name × ℕ)) (trace : List Event) (last : Last) → state_line params one ≡ Some state
      → trace_line names params two ≡ Some trace → last_line names params three ≡ Some last → Found m (one ∷ two ∷ three ∷ tail) (after_last m (one ∷ two ∷ three ∷ tail) state trace last)
  by_tail false one two three [] state trace last e f g =
      whole (made state trace last) (record { first = one; second = two; third = three; tail = []; lines_are = refl; state = e; trace = f; last = g; closes = refl }) refl
  by_tail false one two three (line ∷ more) state trace last e f g =
      faulty 3 (omega arith) (behind_three false one two three state trace last e f g)
      (λ k. no_line (sym (no_tail false k.1.0 one two three (line ∷ k.0) k.1.1 ∙ k.1.1.closes))) refl
  by_tail true one two three [] state trace last e f g =
      short (behind_three true one two three state trace last e f g) (λ k. no_line (no_tail true k.0 one two three [] k.1 ∙ k.1.closes.2)) refl
  by_tail true one two three (line ∷ more) state trace last e f g = by_only one two three line more state trace last e f g (only_line line) refl

  by_last : (m : Bool) (one two three : List ℕ) (tail : List (List ℕ)) (state : List (Name × ℕ)) (trace : List Event) → state_line params one ≡ Some state
      → trace_line names params two ≡ Some trace → (o : Option Last) → last_line names params three ≡ o
      → Found m (one ∷ two ∷ three ∷ tail) (and_then (found_at (first_of m + 2) o) (after_last m (one ∷ two ∷ three ∷ tail) state trace))
  by_last m one two three tail state trace e f None g =
      faulty 2 (omega arith) (behind_two m one two state trace e f)
      (λ k. absurd (none-some k.1.0.last (sym g ∙ ap (last_line names params) (first_is (later_are (later_are k.1.1.lines_are))) ∙ k.1.1.last))) refl
  by_last m one two three tail state trace e f (Some last) g = by_tail m one two three tail state trace last e f g

  by_trace : (m : Bool) (one two : List ℕ) (tail : List (List ℕ)) (state : List (Name × ℕ)) → state_line params one ≡ Some state → (o : Option (List Event)) → trace_line names params two ≡ o
      → Found m (one ∷ two ∷ tail) (and_then (found_at (first_of m + 1) o) (after_trace m (one ∷ two ∷ tail) state))
  by_trace m one two tail state e None f =
      faulty 1 (omega arith) (behind_one m one state e)
      (λ k. absurd (none-some k.1.0.trace (sym f ∙ ap (trace_line names params) (first_is (later_are k.1.1.lines_are)) ∙ k.1.1.trace))) refl
  by_trace m one two [] state e (Some trace) f = short (behind_two m one two state trace e f) (λ k. no_line (later_are (later_are k.1.lines_are))) refl
  by_trace m one two (three ∷ tail) state e (Some trace) f = by_last m one two three tail state trace e f (last_line names params three) refl

  by_state : (m : Bool) (one : List ℕ) (tail : List (List ℕ)) (o : Option (List (Name × ℕ))) → state_line params one ≡ o
      → Found m (one ∷ tail) (and_then (found_at (first_of m) o) (after_state m (one ∷ tail)))
  by_state m one tail None e =
      faulty 0 (omega arith) (behind_none m)
      (λ k. absurd (none-some k.1.0.state (sym e ∙ ap (state_line params) (first_is k.1.1.lines_are) ∙ k.1.1.state))) (ap Err (omega arith))
  by_state m one [] (Some state) e = short (behind_one m one state e) (λ k. no_line (later_are k.1.lines_are)) refl
  by_state m one (two ∷ tail) (Some state) e = by_trace m one two tail state e (trace_line names params two) refl

  find : (m : Bool) (rest : List (List ℕ)) → Found m rest (read_in m rest)
  find m [] = short (behind_none m) (λ k. no_line k.1.lines_are) refl
  find m (one ∷ tail) = by_state m one tail (state_line params one) refl

  -- ---- the whole

  reads_one : (m : Bool) (b c : Behaviour) (lines : List (List ℕ)) → Reads m b lines → Reads m c lines → b ≡ c
  reads_one m b c lines r q =
      let all = sym r.lines_are ∙ q.lines_are in
      let state = same_Some b.state c.state (sym r.state ∙ ap (state_line params) (first_is all) ∙ q.state) in
      let trace = same_Some b.trace c.trace (sym r.trace ∙ ap (trace_line names params) (first_is (later_are all)) ∙ q.trace) in
      let last = same_Some b.last c.last (sym r.last ∙ ap (last_line names params) (first_is (later_are (later_are all))) ∙ q.last) in
      λ i. record { state = state i; trace = trace i; last = last i }

  ok_written : (m : Bool) (rest : List (List ℕ)) (r : Result Behaviour ℕ) (b : Behaviour) → Found m rest r → r ≡ Ok b → IsBehaviourText names params b (headed m rest)
  ok_written m rest r b (whole c h e) k = subst (λ d. IsBehaviourText names params d (headed m rest)) (ok_is (sym e ∙ k)) (written m c rest h)
  ok_written m rest r b (faulty n h g against e) k = absurd (ok_not (sym k ∙ e))
  ok_written m rest r b (short g against e) k = absurd (ok_not (sym k ∙ e))

  ok_from : (m : Bool) (rest : List (List ℕ)) (r : Result Behaviour ℕ) (b : Behaviour) → Found m rest r → Reads m b rest → r ≡ Ok b
  ok_from m rest r b (whole c h e) k = e ∙ ap Ok (reads_one m c b rest h k)
  ok_from m rest r b (faulty n h g against e) k = absurd (against (goes_front (Kind_of m) (suc n) rest (goes_whole (Kind_of m) rest (b, k))))
  ok_from m rest r b (short g against e) k = absurd (against (b, k))

  err_stops : (m : Bool) (rest : List (List ℕ)) (r : Result Behaviour ℕ) (line : ℕ) → IsOther m rest → Found m rest r → r ≡ Err line → StopsAt Any (headed m rest) line
  err_stops m rest r line other (whole c h e) k = absurd (ok_not (sym e ∙ k))
  err_stops false rest r line other (faulty n h g against e) k =
      let number : first_of false + n + 1 ≡ line = err_is (sym e ∙ k) in
      within n h (lifted false (take n rest) g) (λ f. against (lower false n rest h other f)) (omega (arith, number))
  err_stops true rest r line other (faulty n h g against e) k =
      let number : first_of true + n + 1 ≡ line = err_is (sym e ∙ k) in
      within (suc n) (omega (arith, h)) (lifted true (take n rest) g) (λ f. against (lower true n rest h other f)) (omega (arith, number))
  err_stops m rest r line other (short g against e) k = too_early (lifted m rest g) (λ f. against (kind_from m rest other f)) (err_is (sym k ∙ e))

  err_from : (m : Bool) (rest : List (List ℕ)) (r : Result Behaviour ℕ) → Found m rest r → ((b : Behaviour) → Reads m b rest → ⊥) → (line : ℕ) × (r ≡ Err line)
  err_from m rest r (whole c h e) against = absurd (against c h)
  err_from m rest r (faulty n h g never e) against = (first_of m + n + 1, e)
  err_from m rest r (short g never e) against = (max (length (headed m rest)) 1, e)

  module _ (lines : List (List ℕ)) where
    abbrev parts : IsSplit lines
    parts = split lines

    claim_from : claim_in names params lines (is_differ (slice_get lines 0)) ≡ read_in parts.marked parts.rest
    claim_from = (λ i. claim_in names params (parts.are i) (parts.marked_is i)) ∙ claim_is parts.marked parts.rest

    found : Found parts.marked parts.rest (read_in parts.marked parts.rest)
    found = find parts.marked parts.rest

    lines_written : (b : Behaviour) → claim_in names params lines (is_differ (slice_get lines 0)) ≡ Ok b ↔ IsBehaviourText names params b lines
    lines_written b = (
      λ e. subst (IsBehaviourText names params b) (sym parts.are) (ok_written parts.marked parts.rest (read_in parts.marked parts.rest) b found (sym claim_from ∙ e)),
      λ h. claim_from ∙ ok_from parts.marked parts.rest (read_in parts.marked parts.rest) b found
          (reads_from parts.marked b parts.rest parts.other (subst (IsBehaviourText names params b) parts.are h)),
    )

    stops_so : (line : ℕ) → read_in parts.marked parts.rest ≡ Err line → StopsAt Any lines line
    stops_so line e = subst (λ ls. StopsAt Any ls line) (sym parts.are) (err_stops parts.marked parts.rest (read_in parts.marked parts.rest) line parts.other found e)

    stops_back : (line : ℕ) → StopsAt Any lines line → read_in parts.marked parts.rest ≡ Err line
    stops_back line s =
        let one = err_from parts.marked parts.rest (read_in parts.marked parts.rest) found
        (λ b r. no_stop Any lines line s (b, subst (IsBehaviourText names params b) (sym parts.are) (written parts.marked b parts.rest r))) in
        one.1 ∙ ap Err (one_stop Any lines one.0 line (stops_so one.0 one.1) s)

    lines_stop : (line : ℕ) → claim_in names params lines (is_differ (slice_get lines 0)) ≡ Err line ↔ StopsAt Any lines line
    lines_stop line = (λ e. stops_so line (sym claim_from ∙ e), λ s. claim_from ∙ stops_back line s)

-- a text is read as a behaviour where its lines are those of the behaviour's text
pub read_as_written : (names : List (List ℕ)) (params : List (Name × Kind)) (text : List ℕ) (b : Behaviour) → IsDistinct names → IsInterface names params → are_params names [] params ≡ true
    → (claim_read names params text ≡ Ok b) ↔ IsBehaviourText names params b (bare_lines text)
read_as_written names params text b distinct interface are = lines_written names params distinct interface are (bare_lines text) b

-- a text is faulty on the line behind which no text of a behaviour goes on
pub stops_where_written : (names : List (List ℕ)) (params : List (Name × Kind)) (text : List ℕ) (line : ℕ) → IsDistinct names → IsInterface names params → are_params names [] params ≡ true
    → (claim_read names params text ≡ Err line) ↔ StopsAt (AreBehaviourLines names params) (bare_lines text) line
stops_where_written names params text line distinct interface are = lines_stop names params distinct interface are (bare_lines text) line
