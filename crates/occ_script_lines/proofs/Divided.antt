-- A text as its sections.
use Rattle.std.proofs.Common.{◌≡◌, ℕ, ◌+◌, ◌-◌, ◌<◌, ◌≤◌, Bool, true, false, cond, List, [], ◌∷◌, ◌++◌, length, map, take, drop, refl, sym, ap, ◌∙◌, arith, append_assoc}
use Rattle.std.specs.List.{AllByRecursion, concat}
use Rattle.std.proofs.lemmas.Bool.{cond-true, cond-false}
use Rattle.std.proofs.lemmas.List.{append-nil, drop-drop, drop-take, drop_all, length-append, length-drop, length-take-le, map-append, take-append-drop, take-take, take_at}
use Rattle.occ_lex.specs.Placed.{IsLineOf}
use Rattle.occ_lex.specs.Rows.{first_row, read_rows, rows}
use Rattle.occ_lex.proofs.RowLemmas.{with_lines}
use Rattle.occ_lex.proofs.Placing.{concat-rows}
use Rattle.occ_script_lines.specs.declared.section.Format.{Format}
use Rattle.occ_script_lines.specs.declared.section.Section.{Section as Seen}
use Rattle.occ_script_lines.specs.Lines.{is_keyword}
use Rattle.occ_script_lines.specs.Sections.{IsBody, Section, beyond, later_sections, reading_in, section, section_at, sections_from, sections_of, until}
use Rattle.occ_script_lines.proofs.Placing.{lines_placed}
use Rattle.occ_script_lines.proofs.Rows.{front_row, row_bytes, row_there, rows-none, rows-step, take-add}

-- ---- the rows up to the next keyword line

until_nil : (f : Format) → until f [] ≡ []
unfolding until
until_nil f = refl

until_stop : (f : Format) (row : List ℕ) (others : List (List ℕ)) → is_keyword f row ≡ true → until f (row ∷ others) ≡ []
unfolding until
until_stop f row others h = cond-true (is_keyword f row) [] (row ∷ until f others) h

until_go : (f : Format) (row : List ℕ) (others : List (List ℕ)) → is_keyword f row ≡ false → until f (row ∷ others) ≡ row ∷ until f others
unfolding until
until_go f row others h = cond-false (is_keyword f row) [] (row ∷ until f others) h

beyond_nil : (f : Format) → beyond f [] ≡ []
unfolding beyond
beyond_nil f = refl

beyond_stop : (f : Format) (row : List ℕ) (others : List (List ℕ)) → is_keyword f row ≡ true → beyond f (row ∷ others) ≡ row ∷ others
unfolding beyond
beyond_stop f row others h = cond-true (is_keyword f row) (row ∷ others) (beyond f others) h

beyond_go : (f : Format) (row : List ℕ) (others : List (List ℕ)) → is_keyword f row ≡ false → beyond f (row ∷ others) ≡ beyond f others
unfolding beyond
beyond_go f row others h = cond-false (is_keyword f row) (row ∷ others) (beyond f others) h

-- both together are all rows
until-beyond : (f : Format) (others : List (List ℕ)) → concat (until f others) ++ concat (beyond f others) ≡ concat others
until-beyond f [] = ap (λ us. concat us ++ concat (beyond f [])) (until_nil f) ∙ ap concat (beyond_nil f)
until-beyond f (row ∷ others) = at (until-beyond f others) (is_keyword f row) refl
  where
    at : concat (until f others) ++ concat (beyond f others) ≡ concat others → (b : Bool) → is_keyword f row ≡ b → concat (until f (row ∷ others)) ++ concat (beyond f (row ∷ others)) ≡ concat (row ∷ others)
    at later true h = ap (λ us. concat us ++ concat (beyond f (row ∷ others))) (until_stop f row others h) ∙ ap concat (beyond_stop f row others h)
    at later false h =
        ap (λ us. concat us ++ concat (beyond f (row ∷ others))) (until_go f row others h) ∙ ap (λ bs. concat (row ∷ until f others) ++ concat bs) (beyond_go f row others h)
        ∙ append_assoc row (concat (until f others)) (concat (beyond f others)) ∙ ap (λ rest. row ++ rest) later

-- how far the rows of a text up to its next keyword line were counted
pub record IsCounted (f : Format) (text : List ℕ) (at count : ℕ) : Type 0 where
  pub within : at ≤ length text
  pub small : count ≤ at
  pub bytes : at + length (concat (until f (rows (drop at text)))) ≡ length (concat (until f (rows text)))
  pub number : count + length (until f (rows (drop at text))) ≡ length (until f (rows text))
  pub rest : beyond f (rows (drop at text)) ≡ beyond f (rows text)

pub counted_none : (f : Format) (text : List ℕ) → IsCounted f text 0 0
counted_none f text = record { within = omega arith; small = omega arith; bytes = omega arith; number = omega arith; rest = refl }

pub counted_more : (f : Format) (text row : List ℕ) (at count : ℕ) → at < length text → row ≡ first_row (drop at text) → is_keyword f row ≡ false → (0 < length row) × (at + length row ≤ length text)
    → IsCounted f text at count → IsCounted f text (at + length row) (count + 1)
counted_more f text row at count within is other fits so_far =
    let rest = rows (drop (at + length row) text) in
    let step : until f (rows (drop at text)) ≡ row ∷ until f rest = ap (until f) (rows-step text row at within is) ∙ until_go f row rest other in
    record {
      within = fits.1;
      small = omega (arith, so_far.small, fits.0);
      bytes = omega (arith, so_far.bytes, ap (λ us. length (concat us)) step, length-append row (concat (until f rest)));
      number = omega (arith, so_far.number, ap length step);
      rest = sym (ap (beyond f) (rows-step text row at within is) ∙ beyond_go f row rest other) ∙ so_far.rest;
    }

front_taken : (text front back : List ℕ) (n : ℕ) → front ++ back ≡ text → n ≡ length front → take n text ≡ front
front_taken text front back n e h = ap (take n) (sym e) ∙ take_at front back n (sym h)

whole : (f : Format) (text : List ℕ) (at count : ℕ) (us : until f (rows (drop at text)) ≡ []) (bs : beyond f (rows (drop at text)) ≡ rows (drop at text)) → IsCounted f text at count → IsBody f text at count
whole f text at count us bs so_far = record {
  body = front_taken text (concat (until f (rows text))) (concat (beyond f (rows text))) at (until-beyond f (rows text) ∙ concat-rows text) (omega (arith, so_far.bytes, ap (λ rs. length (concat rs)) us));
  counted = omega (arith, so_far.number, ap length us);
  rest = sym bs ∙ so_far.rest;
}

pub counted_stop : (f : Format) (text row : List ℕ) (at count : ℕ) → at < length text → row ≡ first_row (drop at text) → is_keyword f row ≡ true → IsCounted f text at count → IsBody f text at count
counted_stop f text row at count within is key so_far =
    let rest = rows (drop (at + length row) text) in
    let step = rows-step text row at within is in
    whole f text at count (ap (until f) step ∙ until_stop f row rest key) (ap (beyond f) step ∙ beyond_stop f row rest key ∙ sym step) so_far

pub counted_all : (f : Format) (text : List ℕ) (at count : ℕ) → length text ≤ at → IsCounted f text at count → IsBody f text at count
counted_all f text at count past so_far =
    let none = rows-none text at past in
    whole f text at count (ap (until f) none ∙ until_nil f) (ap (beyond f) none ∙ beyond_nil f ∙ sym none) so_far

-- ---- sections

later_nil : (f : Format) (n : ℕ) (front : List ℕ) → later_sections f n front [] ≡ []
unfolding later_sections
later_nil f n front = refl

later_stop : (f : Format) (n : ℕ) (front row : List ℕ) (others : List (List ℕ)) → is_keyword f row ≡ true
    → later_sections f n front (row ∷ others) ≡ section_at f n front row others ∷ later_sections f (n + 1) (front ++ row) others
unfolding later_sections
later_stop f n front row others h = cond-true (is_keyword f row) _ _ h

later_go : (f : Format) (n : ℕ) (front row : List ℕ) (others : List (List ℕ)) → is_keyword f row ≡ false
    → later_sections f n front (row ∷ others) ≡ later_sections f (n + 1) (front ++ row) others
unfolding later_sections
later_go f n front row others h = cond-false (is_keyword f row) _ _ h

same_from : (f : Format) (n m : ℕ) (a b : List ℕ) (rs : List (List ℕ)) → n ≡ m → a ≡ b → sections_from f n a rs ≡ sections_from f m b rs
same_from f n m a b rs e g = ap (λ k. sections_from f k a rs) e ∙ ap (λ c. sections_from f m c rs) g

-- the later sections begin at the next keyword line
pub later-from : (f : Format) (n : ℕ) (front : List ℕ) (rs : List (List ℕ)) → later_sections f n front rs ≡ sections_from f (n + length (until f rs)) (front ++ concat (until f rs)) (beyond f rs)
later-from f n front [] =
    later_nil f n front ∙ sym (ap (sections_from f (n + length (until f [])) (front ++ concat (until f []))) (beyond_nil f))
later-from f n front (row ∷ others) = at (later-from f (n + 1) (front ++ row) others) (is_keyword f row) refl
  where
    at : later_sections f (n + 1) (front ++ row) others ≡ sections_from f (n + 1 + length (until f others)) ((front ++ row) ++ concat (until f others)) (beyond f others) → (b : Bool) → is_keyword f row ≡ b → later_sections f n front (row ∷ others) ≡ sections_from f (n + length (until f (row ∷ others))) (front ++ concat (until f (row ∷ others))) (beyond f (row ∷ others))
    at later true h =
        later_stop f n front row others h
        ∙ same_from f n (n + length (until f (row ∷ others))) front (front ++ concat (until f (row ∷ others))) (row ∷ others) (omega (arith, ap length (until_stop f row others h)))
        (sym (append-nil front) ∙ ap (λ us. front ++ concat us) (sym (until_stop f row others h)))
        ∙ ap (sections_from f (n + length (until f (row ∷ others))) (front ++ concat (until f (row ∷ others)))) (sym (beyond_stop f row others h))
    at later false h =
        later_go f n front row others h ∙ later
        ∙ same_from f (n + 1 + length (until f others)) (n + length (until f (row ∷ others))) ((front ++ row) ++ concat (until f others)) (front ++ concat (until f (row ∷ others))) (beyond f others)
        (omega (arith, ap length (until_go f row others h)))
        (append_assoc front row (concat (until f others)) ∙ ap (λ us. front ++ concat us) (sym (until_go f row others h)))
        ∙ ap (sections_from f (n + length (until f (row ∷ others))) (front ++ concat (until f (row ∷ others)))) (sym (beyond_go f row others h))

-- a row in the text up to the end of its section
row_in : (text row : List ℕ) (at len : ℕ) → at < length text → row ≡ first_row (drop at text) → take (at + length row - at) (drop at (take (at + length row + len) text)) ≡ row
row_in text row at len within is =
    let small : at + length row - at ≡ length row = omega arith in
    let all : at + length row + len ≡ at + (length row + len) = omega arith in
    ap (λ (k : ℕ). take k (drop at (take (at + length row + len) text))) small ∙ ap (λ (k : ℕ). take (length row) (drop at (take k text))) all
    ∙ ap (take (length row)) (drop-take at (length row + len) text) ∙ take-take (length row) (length row + len) (drop at text) (omega arith) ∙ row_there text row at within is

-- the first of the sections that are left, and those behind it
pub section_next : (f : Format) (text row upto : List ℕ) (n at end len count : ℕ) → at < length text → row ≡ first_row (drop at text) → end ≡ at + length row → end + len ≤ length text
    → IsBody f (drop end text) len count → upto ≡ take (end + len) text
    → sections_from f n (take at text) (rows (drop at text))
    ≡ record { number = n; row = take (end - at) (drop at upto); front = take end upto; body = drop end upto } ∷ sections_from f (n + (1 + count)) (take (end + len) text) (rows (drop (end + len) text))
section_next f text row upto n at end len count all is ends fits b e_upto =
    let rest = rows (drop end text) in
    let front = take at text in
    let us = until f rest in
    let upto_end : front ++ row ≡ take end text = sym (front_row text row at all is) ∙ ap (λ (k : ℕ). take k text) (sym ends) in
    let row_of : take (end - at) (drop at (take (end + len) text)) ≡ row = ap (λ (k : ℕ). take (k - at) (drop at (take (k + len) text))) ends ∙ row_in text row at len all is in
    let here : section_at f n front row rest ≡ record { number = n; row = take (end - at) (drop at upto); front = take end upto; body = drop end upto } = λ i. record {
      number = n;
      row = sym (ap (λ t. take (end - at) (drop at t)) e_upto ∙ row_of) i;
      front = sym (ap (take end) e_upto ∙ take-take end (end + len) text (omega arith) ∙ sym upto_end) i;
      body = sym (ap (drop end) e_upto ∙ drop-take end len text ∙ b.body) i;
    } in
    let whole_front : take (end + len) text ≡ (front ++ row) ++ concat us = take-add end len text ∙ ap (λ t. t ++ take len (drop end text)) (sym upto_end) ∙ ap (λ t. (front ++ row) ++ t) b.body in
    let left : rows (drop (end + len) text) ≡ beyond f rest = ap rows (sym (drop-drop len end text)) ∙ b.rest in
    let later : sections_from f (n + (1 + count)) (take (end + len) text) (rows (drop (end + len) text)) ≡ later_sections f (n + 1) (front ++ row) rest =
    same_from f (n + (1 + count)) (n + 1 + length us) (take (end + len) text) ((front ++ row) ++ concat us) (rows (drop (end + len) text)) (omega (arith, b.counted)) whole_front
    ∙ ap (sections_from f (n + 1 + length us) ((front ++ row) ++ concat us)) left ∙ sym (later-from f (n + 1) (front ++ row) rest) in
    let split : rows (drop at text) ≡ row ∷ rest = rows-step text row at all is ∙ ap (λ (k : ℕ). row ∷ rows (drop k text)) (sym ends) in
    ap (sections_from f n front) split ∙ (λ i. here i ∷ sym later i)

-- as code has it
pub next_is : (f : Format) (text : List ℕ) (s : Seen) (n m at end e len count : ℕ) → at < length text → end ≡ at + length (first_row (drop at text)) → end + len ≤ length text → IsBody f (drop end text) len count
    → m ≡ n + (1 + count) → e ≡ end + len → s.number ≡ n → s.start ≡ at → s.end ≡ end → s.upto.now ≡ take (end + len) text
    → sections_from f n (take at text) (rows (drop at text)) ≡ section s ∷ sections_from f m (take e text) (rows (drop e text))
next_is f text s n m at end e len count all ends fits b e_m e_e e_number e_start e_end e_upto =
    let seen : record { number = n; row = take (end - at) (drop at s.upto.now); front = take end s.upto.now; body = drop end s.upto.now } ≡ section s = λ i. record {
      number = sym e_number i;
      row = take (sym e_end i - sym e_start i) (drop (sym e_start i) s.upto.now);
      front = take (sym e_end i) s.upto.now;
      body = drop (sym e_end i) s.upto.now;
    } in
    section_next f text (first_row (drop at text)) s.upto.now n at end len count all refl ends fits b e_upto
    ∙ (λ i. seen i ∷ sections_from f (sym e_m i) (take (sym e_e i) text) (rows (drop (sym e_e i) text)))

-- no section is left
pub sections_none : (f : Format) (text : List ℕ) (n at : ℕ) → length text ≤ at → sections_from f n (take at text) (rows (drop at text)) ≡ []
sections_none f text n at past = ap (sections_from f n (take at text)) (rows-none text at past)

-- ---- the lines of a section

-- no line of the section is read yet
pub lines_start : (s : Seen) → s.end ≤ length s.upto.now → with_lines [] (read_rows (s.number + 1) s.end (rows (drop s.end s.upto.now))) ≡ reading_in (section s)
lines_start s h = ap (λ at. read_rows (s.number + 1) at (rows (drop s.end s.upto.now))) (sym (length-take-le s.end s.upto.now h))

-- the lines of a section are lines of the text up to its end
pub section_lines : (s : Seen) → s.end ≤ length s.upto.now → AllByRecursion (IsLineOf s.upto.now) (reading_in (section s)).0
section_lines s h =
    lines_placed s.upto.now [] (s.number + 1) (length (take s.end s.upto.now)) (rows (drop s.end s.upto.now))
    (ap (λ k. drop k s.upto.now) (length-take-le s.end s.upto.now h) ∙ sym (concat-rows (drop s.end s.upto.now)) ∙ sym (append-nil (concat (rows (drop s.end s.upto.now)))))
