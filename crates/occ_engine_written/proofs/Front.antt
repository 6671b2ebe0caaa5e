-- By exchanges one after the other, texts of a table come to its front.
use Rattle.std.proofs.Common.{◌≡◌, ⊎_elim, ℕ, zero, suc, ◌<◌, ◌≤◌, List, [], ◌∷◌, ◌++◌, length, Option, Some, None, slice_get, refl, sym, ap, subst, ◌∙◌, arith}
use Rattle.std.proofs.lemmas.Bool.{cases_lt}
use Rattle.std.proofs.lemmas.List.{length-map}
use Rattle.occ_engine_known.specs.occ_base.Names.{IsDistinct}
use Rattle.occ_renamed.specs.occ_meaning.Rename.{exchanging}
use Rattle.occ_renamed.specs.occ_parse_rules.Places.{Place}
use Rattle.occ_renamed.specs.occ_print.Spelled.{name_text}
use Rattle.occ_script_table.specs.occ_script_back.Joined.{AreWrittenMoves}
use Rattle.occ_engine_written.specs.Exchanged.{names_exchanged, places_renamed}
use Rattle.occ_engine_written.specs.Front.{AllStandIn, AreWrittenBehind}
use Rattle.occ_engine_written.specs.Renamed.{done_renamed, program_renamed, steps_renamed}
use Rattle.occ_engine_written.proofs.Staying.{moves_exchanged, text_exchanged}
use Rattle.occ_engine_written.proofs.Tables.{exchanged_length, exchanged_other, exchanged_second, exchanged_within, renumbered, text_at, there, within_of}
use Rattle.occ_engine_known.specs.occ_script_write.declared.writing.Done.{Done}
use Rattle.occ_engine_known.specs.occ_script_write.Text.{script_text}
use Rattle.occ_engine_known.specs.occ_syntax.declared.scope.Program.{Program}

pub one_text : (s t : List ℕ) (o : Option (List ℕ)) → o ≡ Some s → o ≡ Some t → s ≡ t
one_text s t o a b = let e : Some s ≡ Some t = sym a ∙ b in cc

-- where each text of one list stands at its place in another, the other begins with the one
pub begins : (front names : List (List ℕ)) → ((k : ℕ) (text : List ℕ) → slice_get front k ≡ Some text → slice_get names k ≡ Some text)
    → (rest : List (List ℕ)) × (names ≡ front ++ rest)
begins [] names h = (names, refl)
begins (t ∷ front) [] h = absurd (let bad : ◌≡◌ {A = Option (List ℕ)} None (Some t) = h zero t refl in cc)
begins (t ∷ front) (u ∷ names) h =
    let first : u ≡ t = one_text u t (Some u) refl (h zero t refl) in
    let later = begins front names (λ k text e. h (suc k) text e) in
    (later.0, λ i. first i ∷ later.1 i)

module _ (a b : ℕ) (names : List (List ℕ)) (p : a < length names) (q : b < length names) where
  -- a text stands at the exchanged place
  pub forth : (x : ℕ) (text : List ℕ) → slice_get names x ≡ Some text → slice_get (names_exchanged a b names) (exchanging a b x) ≡ Some text
  forth x text e =
      let other = names_exchanged a b names in
      let y = exchanging a b x in
      let small : y < length other = subst (λ n. y < n) (sym (exchanged_length a b names)) (exchanged_within a b (length names) p q x (within_of names x text e)) in
      there other y small ∙ ap Some (renumbered a b names p q x ∙ text_at names x text e)

-- written moves in whose table so many texts of a list stand at their places
record AreArranged (front : List (List ℕ)) (text : List ℕ) (count n : ℕ) : Type 0 where
  names : List (List ℕ)
  places : ℕ → Place
  from : Program
  steps : List Done
  to : Program
  moves : AreWrittenMoves names places from steps to
  text_is : script_text names from steps to ≡ text
  as_many : length steps ≡ count
  has : AllStandIn front names
  begun : (k : ℕ) (t : List ℕ) → k < n → slice_get front k ≡ Some t → slice_get names k ≡ Some t

module _ (front : List (List ℕ)) (distinct : IsDistinct front) (text : List ℕ) (count : ℕ) where
  -- a text comes to its place
  put_next : (n : ℕ) → AreArranged front text count n → (t : List ℕ) → slice_get front n ≡ Some t → AreArranged front text count (suc n)
  put_next n A t e =
      let found = A.has n t e in
      let j = found.0 in
      let names = A.names in
      let q : j < length names = within_of names j t found.1 in
      let far : n ≤ j = ⊎_elim
      (λ (l : j < n).
      let front_long : n < length front = within_of front n t e in
      let here : slice_get front j ≡ Some (name_text front j) = there front j (omega (arith, l, front_long)) in
      let same : name_text front j ≡ t = one_text (name_text front j) t (slice_get names j) (A.begun j (name_text front j) l here) found.1 in
      let equal : j ≡ n = distinct j n t (here ∙ ap Some same) e in omega (arith, l, equal))
      (λ (l : n ≤ j). l) (cases_lt j n) in
      let p : n < length names = omega (arith, far, q) in
      record {
        names = names_exchanged n j names;
        places = places_renamed (exchanging n j) A.places;
        from = program_renamed (exchanging n j) A.from;
        steps = steps_renamed (exchanging n j) A.steps;
        to = program_renamed (exchanging n j) A.to;
        moves = moves_exchanged n j names p q A.places A.from A.to A.steps A.moves;
        text_is = text_exchanged n j names p q A.from A.to A.steps ∙ A.text_is;
        as_many = length-map A.steps (done_renamed (exchanging n j)) ∙ A.as_many;
        has = λ i s h. let where_is = A.has i s h in (exchanging n j where_is.0, forth n j names p q where_is.0 s where_is.1);
        begun = λ k s l h. ⊎_elim
            (λ (m : k < n).
            subst (λ x. slice_get (names_exchanged n j names) x ≡ Some s)
            (exchanged_other n j k (λ (u : k ≡ n). omega (arith, u, m)) (λ (u : k ≡ j). omega (arith, u, m, far)))
            (forth n j names p q k s (A.begun k s m h)))
            (λ (m : n ≤ k).
            let last : k ≡ n = omega (arith, m, l) in
            let same : s ≡ t = one_text s t (slice_get front n) (ap (slice_get front) (sym last) ∙ h) e in
            ap (slice_get (names_exchanged n j names)) (last ∙ sym (exchanged_second n j)) ∙ forth n j names p q j t found.1 ∙ ap Some (sym same))
            (cases_lt k n);
      }

  past : (n : ℕ) → AreArranged front text count n → length front ≤ n → AreArranged front text count (suc n)
  past n A far = record {
    names = A.names;
    places = A.places;
    from = A.from;
    steps = A.steps;
    to = A.to;
    moves = A.moves;
    text_is = A.text_is;
    as_many = A.as_many;
    has = A.has;
    begun = λ k s l h. A.begun k s (let small : k < length front = within_of front k s h in omega (arith, small, far)) h;
  }

  arranged : (n : ℕ) → AreArranged front text count zero → AreArranged front text count n
  arranged zero A = A
  arranged (suc n) A =
      let B = arranged n A in
      ⊎_elim (λ (l : n < length front). put_next n B (name_text front n) (there front n l)) (λ (l : length front ≤ n). past n B l) (cases_lt n (length front))

pub in_front : (names : List (List ℕ)) (P : ℕ → Place) (from to : Program) (steps : List Done) (front : List (List ℕ)) → AreWrittenMoves names P from steps to
    → IsDistinct front → AllStandIn front names → AreWrittenBehind front (script_text names from steps to) (length steps)
in_front names P from to steps front w d h =
    let text = script_text names from steps to in
    let A : AreArranged front text (length steps) (length front) = arranged front d text (length steps) (length front) (record {
      names = names;
      places = P;
      from = from;
      steps = steps;
      to = to;
      moves = w;
      text_is = refl;
      as_many = refl;
      has = h;
      begun = λ k t l e. absurd (omega (arith, l));
    }) in
    let b = begins front A.names (λ k t e. A.begun k t (within_of front k t e) e) in
    record {
      rest = b.0;
      places = A.places;
      from = A.from;
      steps = A.steps;
      to = A.to;
      moves = subst (λ ns. AreWrittenMoves ns A.places A.from A.steps A.to) b.1 A.moves;
      text_is = ap (λ ns. script_text ns A.from A.steps A.to) (sym b.1) ∙ A.text_is;
      as_many = A.as_many;
    }
