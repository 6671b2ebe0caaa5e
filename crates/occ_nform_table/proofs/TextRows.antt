-- The lines of a row read back.
use Rattle.std.proofs.Common.{◌≡◌, ℕ, ◌^◌, ◌<◌, ◌≤◌, Bool, true, cond, List, [], ◌∷◌, ◌++◌, map, max, Option, None, Some, refl, sym, ap, ◌∙◌, arith, append_assoc}
use Rattle.std.specs.Prelude.{decimal, codes}
use Rattle.std.specs.List.{list_all, AllByRecursion}
use Rattle.std.proofs.lemmas.Bool.{and_parts, cond-true, lt-ltb}
use Rattle.std.proofs.lemmas.List.{append-nil}
use Rattle.occ_lex.specs.occ_base.declared.event.Event.{Event}
use Rattle.occ_lex.specs.occ_base.declared.names.Name.{Name}
use Rattle.occ_lex.specs.occ_base.Names.{IsDistinct}
use Rattle.occ_syntax.specs.declared.scope.Kind.{Kind}
use Rattle.occ_syntax.specs.Scopes.{environment, in_interface}
use Rattle.occ_behaviour.specs.States.{is_state}
use Rattle.occ_behaviour.specs.Texts.{spaced, event_text, set_text}
use Rattle.occ_lex.specs.Rows.{rows}
use Rattle.occ_nform_table.specs.declared.table.TableRow.{TableRow}
use Rattle.occ_nform_table.specs.Words.{then_read, behind, between, cut, number_of}
use Rattle.occ_nform_table.specs.Lines.{event_of, is_rising, set_of, end_of, accept_of, offer_of, below}
use Rattle.occ_nform_table.specs.Judging.{ends_text, accepts_text, offers_text, row_text}
use Rattle.occ_nform_table.specs.Reading.{Lines, kept, taken, row_behind}
use Rattle.occ_nform_table.specs.Tables.{are_params, IsInterface, IsRowOf}
use Rattle.occ_nform_table.proofs.WrittenWords.{lacks, lacks-append, between_parts, cut_at, IsWord, ReadsAs, each_spaced, spaced_lacks, all_more, map_same}
use Rattle.occ_nform_table.proofs.WrittenNumerals.{decimal_lacks, number_read}
use Rattle.occ_nform_table.proofs.Lines.{IsLine, joined, joined-append, rows_joined, are_lines-append, are_lines-map}
use Rattle.occ_nform_table.proofs.TextNamed.{are_named}
use Rattle.occ_nform_table.proofs.WrittenStates.{end_line, end_reads, end_is_line}
use Rattle.occ_nform_table.proofs.WrittenEvents.{IsOwn, is_own, event_reads, event_lacks, event_word}

-- a test that holds of a list holds of each item
pub all_true : {X : Type 0} (p : X → Bool) (xs : List X) → list_all p xs ≡ true → AllByRecursion (λ x. p x ≡ true) xs
all_true p [] h = tt
all_true p (x ∷ xs) h = let parts = and_parts (p x) (list_all p xs) h in (parts.0, all_true p xs parts.1)

-- ---- lines that are taken

-- the first line isn't read
abbrev pub Stops : {A : Type 0} → (List ℕ → Option A) → Lines → Type 0
Stops read [] = Unit {0}
Stops read (line ∷ lines) = read line ≡ None

taken_none : {A : Type 0} (read : List ℕ → Option A) (rest : Lines) → Stops read rest → taken read rest ≡ ([], rest)
unfolding taken
taken_none read [] h = refl
taken_none read (line ∷ lines) h = ap (λ o. kept o (taken read lines) ([], line ∷ lines)) h

pub taken_all : {A : Type 0} (read : List ℕ → Option A) (written : A → List ℕ) (xs : List A) (rest : Lines) → AllByRecursion (λ x. read (written x) ≡ Some x) xs → Stops read rest
    → taken read (map written xs ++ rest) ≡ (xs, rest)
unfolding taken
taken_all read written [] rest h k = taken_none read rest k
taken_all read written (x ∷ xs) rest h k =
    ap (λ o. kept o (taken read (map written xs ++ rest)) ([], written x ∷ (map written xs ++ rest))) h.0 ∙ ap (λ t. (x ∷ t.0, t.1)) (taken_all read written xs rest h.1 k)

-- three lists in front of a rest
three_parts : {X : Type 0} (a b c rest : List X) → (a ++ (b ++ c)) ++ rest ≡ a ++ (b ++ (c ++ rest))
three_parts a b c rest = append_assoc a (b ++ c) rest ∙ ap (λ t. a ++ t) (append_assoc b c rest)

-- ---- the lines of a row

abbrev pub accept_line : List (List ℕ) → List Event → List ℕ
accept_line names set = codes "ACCEPT " ++ set_text names set ++ codes "\n"

abbrev pub offer_line : List (List ℕ) → Event × ℕ → List ℕ
offer_line names offer = codes "OFFER " ++ event_text names offer.0 ++ codes " " ++ decimal offer.1 ++ codes "\n"

abbrev pub row_lines : List (List ℕ) → TableRow → Lines
row_lines names row = map end_line row.ends ++ (map (accept_line names) row.accepts ++ map (offer_line names) row.offers)

ends_joined : (states : List (List (Name × ℕ))) → ends_text states ≡ joined (map end_line states)
unfolding ends_text
ends_joined [] = refl
ends_joined (state ∷ states) = ap (λ t. end_line state ++ t) (ends_joined states)

module _ (names : List (List ℕ)) where
  accepts_joined : (sets : List (List Event)) → accepts_text names sets ≡ joined (map (accept_line names) sets)
  unfolding accepts_text
  accepts_joined [] = refl
  accepts_joined (set ∷ sets) = ap (λ t. accept_line names set ++ t) (accepts_joined sets)

  offers_joined : (offers : List (Event × ℕ)) → offers_text names offers ≡ joined (map (offer_line names) offers)
  unfolding offers_text
  offers_joined [] = refl
  offers_joined (offer ∷ offers) = ap (λ t. offer_line names offer ++ t) (offers_joined offers)

  pub row_joined : (row : TableRow) → row_text names row ≡ joined (row_lines names row)
  row_joined row =
      append_assoc (ends_text row.ends) (accepts_text names row.accepts) (offers_text names row.offers)
      ∙ (λ i. ends_joined row.ends i ++ (accepts_joined row.accepts i ++ offers_joined row.offers i))
      ∙ ap (λ t. joined (map end_line row.ends) ++ t) (sym (joined-append (map (accept_line names) row.accepts) (map (offer_line names) row.offers)))
      ∙ sym (joined-append (map end_line row.ends) (map (accept_line names) row.accepts ++ map (offer_line names) row.offers))

module _ (names : List (List ℕ)) (params : List (Name × Kind)) (distinct : IsDistinct names) (interface : IsInterface names params) (are : are_params names [] params ≡ true) where
  own : (e : Event) → in_interface (environment params) e ≡ true → IsOwn names e
  own e h = is_own names params (are_named names [] params are) interface.named interface.wide e h

  reads : (e : Event) → in_interface (environment params) e ≡ true → event_of names params (event_text names e) ≡ Some e
  reads e h = event_reads names distinct params (are_named names [] params are) interface.named interface.wide e (own e h) h

  lacks_feed : (e : Event) → in_interface (environment params) e ≡ true → lacks 10 (event_text names e) ≡ true
  lacks_feed e h = event_lacks names 10 refl refl refl refl e (own e h)

  abbrev IsSet : List Event → Type 0
  IsSet set = (list_all (in_interface (environment params)) set ≡ true) × (is_rising params 0 set ≡ true)

  accept_reads : (set : List Event) → IsSet set → accept_of names params (accept_line names set) ≡ Some set
  unfolding accept_of set_of
  accept_reads set h =
      let all = all_true (in_interface (environment params)) set h.0 in
      let words = all_more _ (IsWord (event_text names)) (λ e k. event_word names e (own e k)) set all in
      let read = all_more _ (ReadsAs (event_text names) (event_of names params) (λ e. e)) reads set all in
      let rising = λ (events : List Event). cond (is_rising params 0 events) (Some events) None in
      ap (λ t. then_read (between (codes "ACCEPT {") (codes "}\n") (codes "ACCEPT {" ++ t)) (set_of names params)) (append_assoc (spaced (event_text names) set) (codes "}") (codes "\n"))
      ∙ ap (λ o. then_read o (set_of names params)) (between_parts (codes "ACCEPT {") (spaced (event_text names) set) (codes "}\n"))
      ∙ ap (λ o. then_read o rising) (each_spaced (event_text names) (event_of names params) (λ e. e) set words read ∙ ap Some (map_same set))
      ∙ cond-true _ (Some set) None h.1

  accept_is_line : (set : List Event) → IsSet set → IsLine (accept_line names set)
  accept_is_line set h =
      let all = all_true (in_interface (environment params)) set h.0 in
      let quiet = all_more _ (λ e. lacks 10 (event_text names e) ≡ true) lacks_feed set all in
      record {
        body = codes "ACCEPT " ++ set_text names set;
        whole = refl;
        quiet = lacks-append 10 (codes "ACCEPT {") (spaced (event_text names) set ++ codes "}") refl (lacks-append 10 (spaced (event_text names) set) (codes "}") (spaced_lacks (event_text names) 10 refl set quiet) refl);
      }

  module _ (n : ℕ) (most : n ≤ 10 ^ 64) where
    abbrev IsOffer : Event × ℕ → Type 0
    IsOffer o = (in_interface (environment params) o.0 ≡ true) × (o.1 < n)

    offer_reads : (o : Event × ℕ) → IsOffer o → offer_of names params n (offer_line names o) ≡ Some o
    unfolding offer_of
    offer_reads (e, m) h =
        let word = event_text names e in
        let last = λ (row : ℕ). then_read {B = Event × ℕ} (below n row) (λ r. Some (e, r)) in
        let number = λ (f : Event). then_read {B = Event × ℕ} (number_of (decimal m)) (λ row. then_read {B = Event × ℕ} (below n row) (λ r. Some (f, r))) in
        let parted = λ (parts : List ℕ × List ℕ). then_read {B = Event × ℕ} (event_of names params parts.0) (λ event. then_read {B = Event × ℕ} (number_of parts.1) (λ row. then_read {B = Event × ℕ} (below n row) (λ r. Some (event, r)))) in
        let inner = λ (text : List ℕ). then_read (cut 32 text) parted in
        ap (λ t. then_read (between (codes "OFFER ") (codes "\n") (codes "OFFER " ++ (t ++ codes "\n"))) inner) (append_assoc word (codes " ") (decimal m))
        ∙ ap (λ o. then_read o inner) (between_parts (codes "OFFER ") (word ++ 32 ∷ decimal m) (codes "\n"))
        ∙ ap (λ o. then_read o parted) (cut_at 32 word (decimal m) (event_word names e (own e h.0)).1)
        ∙ ap (λ o. then_read o number) (reads e h.0)
        ∙ ap (λ o. then_read o last) (number_read m (omega (arith, h.1, most)))
        ∙ ap (λ o. then_read {B = Event × ℕ} o (λ r. Some (e, r))) (cond-true _ (Some m) None (lt-ltb m n h.1))

    offer_is_line : (o : Event × ℕ) → IsOffer o → IsLine (offer_line names o)
    offer_is_line (e, m) h = record {
      body = codes "OFFER " ++ event_text names e ++ codes " " ++ decimal m;
      whole = refl;
      quiet = lacks-append 10 (codes "OFFER " ++ event_text names e ++ codes " ") (decimal m)
          (lacks-append 10 (codes "OFFER " ++ event_text names e) (codes " ") (lacks-append 10 (codes "OFFER ") (event_text names e) refl (lacks_feed e h.0)) refl) (decimal_lacks 10 refl m (omega (arith, h.1, most)));
    }

    -- a row's lines, and then a line of another kind
    pub record Ends (rest : Lines) : Type 0 where
      pub ends : Stops (end_of params) rest
      pub accepts : Stops (accept_of names params) rest
      pub offers : Stops (offer_of names params n) rest

    offers_stop : {A : Type 0} (read : List ℕ → Option A) → ((o : Event × ℕ) → read (offer_line names o) ≡ None) → (offers : List (Event × ℕ)) (rest : Lines) → Stops read rest → Stops read (map (offer_line names) offers ++ rest)
    offers_stop read none [] rest h = h
    offers_stop read none (o ∷ offers) rest h = none o

    accepts_stop : (sets : List (List Event)) (rest : Lines) → Stops (end_of params) rest → Stops (end_of params) (map (accept_line names) sets ++ rest)
    unfolding end_of between behind
    accepts_stop [] rest h = h
    accepts_stop (set ∷ sets) rest h = refl

    no_end : (o : Event × ℕ) → end_of params (offer_line names o) ≡ None
    unfolding end_of between behind
    no_end o = refl

    no_accept : (o : Event × ℕ) → accept_of names params (offer_line names o) ≡ None
    unfolding accept_of between behind
    no_accept o = refl

    pub row_reads : (row : TableRow) (rest : Lines) → IsRowOf params n row → Ends rest → row_behind names params n (row_lines names row ++ rest) ≡ (row, rest)
    unfolding row_behind
    row_reads row rest h k =
        let offers = map (offer_line names) row.offers in
        let sets = map (accept_line names) row.accepts in
        let one = taken_all (end_of params) end_line row.ends (sets ++ (offers ++ rest)) (all_more _ _ (end_reads params interface.wide) row.ends h.ends)
        (accepts_stop row.accepts (offers ++ rest) (offers_stop (end_of params) no_end row.offers rest k.ends)) in
        let two = taken_all (accept_of names params) (accept_line names) row.accepts (offers ++ rest) (all_more _ _ accept_reads row.accepts h.accepts)
        (offers_stop (accept_of names params) no_accept row.offers rest k.accepts) in
        let three = taken_all (offer_of names params n) (offer_line names) row.offers rest (all_more _ _ offer_reads row.offers h.offers) k.offers in
        let behind_ends : List (List (Name × ℕ)) × Lines → TableRow × Lines = λ t. (
          record { ends = t.0; accepts = (taken (accept_of names params) t.1).0; offers = (taken (offer_of names params n) (taken (accept_of names params) t.1).1).0 },
          (taken (offer_of names params n) (taken (accept_of names params) t.1).1).1,
        ) in
        let behind_sets : List (List Event) × Lines → TableRow × Lines = λ t. (
          record { ends = row.ends; accepts = t.0; offers = (taken (offer_of names params n) t.1).0 },
          (taken (offer_of names params n) t.1).1,
        ) in
        let behind_offers : List (Event × ℕ) × Lines → TableRow × Lines = λ t. (record { ends = row.ends; accepts = row.accepts; offers = t.0 }, t.1) in
        ap (row_behind names params n) (three_parts (map end_line row.ends) sets offers rest) ∙ ap behind_ends one ∙ ap behind_sets two ∙ ap behind_offers three

    pub row_are_lines : (row : TableRow) → IsRowOf params n row → AllByRecursion IsLine (row_lines names row)
    row_are_lines row h =
        are_lines-append (map end_line row.ends) (map (accept_line names) row.accepts ++ map (offer_line names) row.offers)
        (are_lines-map end_line (λ s. is_state params s ≡ true) (end_is_line params interface.wide) row.ends h.ends)
        (are_lines-append (map (accept_line names) row.accepts) (map (offer_line names) row.offers)
        (are_lines-map (accept_line names) IsSet accept_is_line row.accepts h.accepts)
        (are_lines-map (offer_line names) IsOffer offer_is_line row.offers h.offers))

  row_more : (n k : ℕ) (row : TableRow) → n ≤ k → IsRowOf params n row → IsRowOf params k row
  row_more n k row more h = record {
    ends = h.ends;
    accepts = h.accepts;
    offers = all_more (λ o. (in_interface (environment params) o.0 ≡ true) × (o.1 < n)) (λ o. (in_interface (environment params) o.0 ≡ true) × (o.1 < k)) (λ o g. (g.0, omega (arith, g.1, more))) row.offers h.offers;
  }

  nothing_left : (n : ℕ) (most : n ≤ 10 ^ 64) → Ends n most []
  nothing_left n most = record { ends = tt; accepts = tt; offers = tt }

  lines_of_row : (n : ℕ) (most : n ≤ 10 ^ 64) (row : TableRow) → IsRowOf params n row → rows (row_text names row) ≡ row_lines names row
  lines_of_row n most row h = ap rows (row_joined names row) ∙ rows_joined (row_lines names row) (row_are_lines n most row h)

  row_again : (n : ℕ) (most : n ≤ 10 ^ 64) (row : TableRow) → IsRowOf params n row → row_behind names params n (row_lines names row) ≡ (row, [])
  row_again n most row h = ap (row_behind names params n) (sym (append-nil (row_lines names row))) ∙ row_reads n most row [] h (nothing_left n most)

  one_row_below : (k : ℕ) → k ≤ 10 ^ 64 → (one two : TableRow) → IsRowOf params k one → IsRowOf params k two → row_text names one ≡ row_text names two → one ≡ two
  one_row_below k most one two h g e =
      let lines = sym (lines_of_row k most one h) ∙ ap rows e ∙ lines_of_row k most two g in
      ap (λ (t : TableRow × Lines). t.0) (sym (row_again k most one h) ∙ ap (row_behind names params k) lines ∙ row_again k most two g)

-- two rows of one interface have one text only where they are the same
pub one_row : (names : List (List ℕ)) (params : List (Name × Kind)) (n m : ℕ) (one two : TableRow) → IsDistinct names → IsInterface names params → are_params names [] params ≡ true
    → n ≤ 10 ^ 64 → m ≤ 10 ^ 64 → IsRowOf params n one → IsRowOf params m two → row_text names one ≡ row_text names two → one ≡ two
one_row names params n m one two distinct interface are few less h g e =
    let k = max n m in
    let first : n ≤ k = omega arith in
    let second : m ≤ k = omega arith in
    one_row_below names params distinct interface are k (omega arith) one two (row_more names params distinct interface are n k one first h) (row_more names params distinct interface are m k two second g) e
