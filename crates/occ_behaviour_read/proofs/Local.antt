-- What is read of a normal text up to a line that isn't read, is read whatever stands behind that line.
use Rattle.std.proofs.Common.{◌≡◌, ◌∙◌, ℕ, zero, suc, ◌+◌, ◌≤◌, true, false, List, [], ◌∷◌, ◌++◌, length, Option, None, Some, Err, eqb, ◌^◌, refl, sym, ap, arith, append_assoc, length-append, le_refl, ⊎_elim}
use Rattle.std.proofs.lemmas.Bool.{cases_Bool, cond-true, cond-false}
use Rattle.occ_syntax.specs.occ_base.Names.{place_of, with_text}
use Rattle.occ_syntax.specs.occ_base.declared.event.Event.{Event}
use Rattle.occ_syntax.specs.occ_base.declared.names.Name.{Name}
use Rattle.occ_syntax.specs.Counts.{bits_of_scope}
use Rattle.occ_syntax.specs.declared.scope.Kind.{Kind}
use Rattle.occ_nform_read.specs.occ_nform_table.Lines.{accept_of, end_of, is_row, next_param, offer_of, row_of_state}
use Rattle.occ_nform_read.specs.occ_nform_table.Normal.{behind_params, finished, is_whole, judged, line_at, lines_read, table_fault}
use Rattle.occ_nform_read.specs.occ_nform_table.Reading.{Header, Lines, either, kept, params_in, row_behind, rows_in, states_in, taken, with_row}
use Rattle.occ_nform_read.specs.occ_nform_table.declared.table.TableFault.TheVariants as fault
use Rattle.occ_nform_read.specs.occ_nform_table.declared.table.TableRow.{TableRow}
use Rattle.occ_nform_read.proofs.from_nform_table.TextTables.{version}
use Rattle.occ_behaviour_read.proofs.Lists.{and_off, first_is, no_line}

-- a list whose first line is this, whatever stands behind another line of it
pub record IsHeaded (front : Lines) (line head : List ℕ) : Type 0 where
  rest : Lines → Lines
  are : (m : Lines) → front ++ line ∷ m ≡ head ∷ rest m

headed : (front : Lines) (line head : List ℕ) (more rest : Lines) → head ∷ rest ≡ front ++ line ∷ more → IsHeaded front line head
headed [] line head more rest e = record { rest = λ m. m; are = λ m. ap (λ l. l ∷ m) (sym (first_is e)) }
headed (first ∷ front) line head more rest e = record { rest = λ m. front ++ line ∷ m; are = λ m. ap (λ l. l ∷ (front ++ line ∷ m)) (sym (first_is e)) }

-- the reading stops at the line, whatever stands behind it
record IsLocal {A : Type 0} (read : Lines → A × Lines) (xs : Lines) (line : List ℕ) (more : Lines) : Type 0 where
  front : Lines
  are : xs ≡ front ++ line ∷ more
  stays : (m : Lines) → read (front ++ line ∷ m) ≡ ((read xs).0, line ∷ m)

abbrev Local : {A : Type 0} → (Lines → A × Lines) → Type 0
Local read = (xs : Lines) (line : List ℕ) (more : Lines) → (read xs).1 ≡ line ∷ more → IsLocal read xs line more

taken_local : {A : Type 0} (read : List ℕ → Option A) → Local (taken read)
unfolding taken
taken_local read [] line more e = absurd (no_line e)
taken_local {A = A} read (x ∷ xs) line more e = at (read x) refl e (taken_local read xs line more)
  where
    at : (o : Option A) → read x ≡ o → (kept o (taken read xs) ([], x ∷ xs)).1 ≡ line ∷ more → ((taken read xs).1 ≡ line ∷ more → IsLocal (taken read) xs line more) → IsLocal (taken read) (x ∷ xs) line more
    at None f e later =
        let none : read line ≡ None = ap read (sym (first_is e)) ∙ f in
        record {
          front = [];
          are = e;
          stays = λ m. ap (λ o. kept o (taken read m) ([], line ∷ m)) none ∙ ap (λ z. (z, line ∷ m)) (sym (ap (λ o. (kept o (taken read xs) ([], x ∷ xs)).0) f));
        }
    at (Some a) f e later =
        let rest = later e in
        record {
          front = x ∷ rest.front;
          are = ap (λ t. x ∷ t) rest.are;
          stays = λ m. ap (λ o. kept o (taken read (rest.front ++ line ∷ m)) ([], x ∷ (rest.front ++ line ∷ m))) f ∙ ap (λ (t : List A × Lines). (a ∷ t.0, t.1)) (rest.stays m)
              ∙ ap (λ z. (z, line ∷ m)) (sym (ap (λ o. (kept o (taken read xs) ([], x ∷ xs)).0) f));
        }

-- one reading behind another
abbrev then_both : {A B : Type 0} → (Lines → A × Lines) → (Lines → B × Lines) → Lines → (A × B) × Lines
then_both one two xs = (((one xs).0, (two (one xs).1).0), (two (one xs).1).1)

both_local : {A B : Type 0} (one : Lines → A × Lines) (two : Lines → B × Lines) → Local one → Local two → Local (then_both one two)
both_local {A = A} {B = B} one two r s xs line more e = at (one xs).1 refl
  where
    at : (ys : Lines) → (one xs).1 ≡ ys → IsLocal (then_both one two) xs line more
    at [] f =
        let second = s (one xs).1 line more e in
        absurd (empty second.front (sym f ∙ second.are))
      where
        empty : (front : Lines) → [] ≡ front ++ line ∷ more → ⊥
        empty [] k = no_line k
        empty (l ∷ front) k = no_line k
    at (y ∷ ys) f =
        let second = s (one xs).1 line more e in
        let first = r xs y ys f in
        let head = headed second.front line y more ys (sym f ∙ second.are) in
        record {
          front = first.front ++ second.front;
          are = first.are ∙ ap (λ t. first.front ++ t) (sym f ∙ second.are) ∙ sym (append_assoc first.front second.front (line ∷ more));
          stays = λ m. ap (then_both one two) (append_assoc first.front second.front (line ∷ m) ∙ ap (λ t. first.front ++ t) (head.are m))
              ∙ ap (λ (p : A × Lines). ((p.0, (two p.1).0), (two p.1).1)) (first.stays (head.rest m))
              ∙ ap (λ (q : B × Lines). (((one xs).0, q.0), q.1)) (ap two (sym (head.are m)) ∙ second.stays m);
        }

module _ (names : List (List ℕ)) (params : List (Name × Kind)) where
  row_local : (n : ℕ) → Local (row_behind names params n)
  unfolding row_behind
  row_local n xs line more e =
      let ends = taken (end_of params) in
      let accepts = taken (accept_of names params) in
      let offers = taken (offer_of names params n) in
      let all = both_local (then_both ends accepts) offers (both_local ends accepts (taken_local (end_of params)) (taken_local (accept_of names params))) (taken_local (offer_of names params n)) xs line more e in
      record {
        front = all.front;
        are = all.are;
        stays = λ m. ap (λ (p : ((List (List (Name × ℕ)) × List (List Event)) × List (Event × ℕ)) × Lines). (record { ends = p.0.0.0; accepts = p.0.0.1; offers = p.0.1 }, p.1)) (all.stays m);
      }

  rows_stop : (fuel n : ℕ) (line : List ℕ) (m : Lines) → is_row n line ≡ false → rows_in names params fuel n (line ∷ m) ≡ ([], line ∷ m)
  unfolding rows_in
  rows_stop zero n line m h = refl
  rows_stop (suc fuel) n line m h = cond-false _ (with_row (row_behind names params n m) (rows_in names params fuel (n + 1))) ([], line ∷ m) h

  no_rows : (fuel n : ℕ) → (rows_in names params fuel n []).1 ≡ []
  unfolding rows_in
  no_rows zero n = refl
  no_rows (suc fuel) n = refl

  -- so do rows, with as much as there are lines to go on by
  pub record AreLocal (most n : ℕ) (xs : Lines) (line : List ℕ) (more : Lines) : Type 0 where
    pub front : Lines
    pub are : xs ≡ front ++ line ∷ more
    pub stays : (fuel : ℕ) (m : Lines) → length (front ++ line ∷ m) ≤ fuel → rows_in names params fuel n (front ++ line ∷ m) ≡ ((rows_in names params most n xs).0, line ∷ m)

  row_step : (fuel n : ℕ) (x : List ℕ) (xs : Lines) → is_row n x ≡ true → rows_in names params (suc fuel) n (x ∷ xs) ≡ with_row (row_behind names params n xs) (rows_in names params fuel (n + 1))
  unfolding rows_in
  row_step fuel n x xs h = cond-true _ (with_row (row_behind names params n xs) (rows_in names params fuel (n + 1))) ([], x ∷ xs) h

  one_more : (most n : ℕ) (x : List ℕ) (xs : Lines) (line : List ℕ) (more : Lines) → is_row n x ≡ true → length xs ≤ most → (y : List ℕ) (ys : Lines) → (row_behind names params n xs).1 ≡ y ∷ ys
      → (length (y ∷ ys) ≤ most → AreLocal most (n + 1) (y ∷ ys) line more) → AreLocal (suc most) n (x ∷ xs) line more
  one_more most n x xs line more h small y ys f later =
      let first = row_local n xs y ys f in
      let short : length xs ≡ length first.front + length (y ∷ ys) = ap (λ (t : Lines). length t) first.are ∙ length-append first.front (y ∷ ys) in
      let rest = later (omega (arith, short, small)) in
      let head = headed rest.front line y more ys rest.are in
      let next : ℕ → Lines → List TableRow × Lines = λ fuel. rows_in names params fuel (n + 1) in
      record {
        front = x ∷ (first.front ++ rest.front);
        are = ap (λ t. x ∷ t) (first.are ∙ ap (λ t. first.front ++ t) rest.are ∙ sym (append_assoc first.front rest.front (line ∷ more)));
        stays = stays first.front rest.front rest.stays (λ m. ap (row_behind names params n) (append_assoc first.front rest.front (line ∷ m) ∙ ap (λ t. first.front ++ t) (head.are m)) ∙ first.stays (head.rest m)) (λ m. head.are m);
      }
    where
      stays : (one two : Lines) → ((fuel : ℕ) (m : Lines) → length (two ++ line ∷ m) ≤ fuel → rows_in names params fuel (n + 1) (two ++ line ∷ m) ≡ ((rows_in names params most (n + 1) (y ∷ ys)).0, line ∷ m))
          → {rest : Lines → Lines} → ((m : Lines) → row_behind names params n ((one ++ two) ++ line ∷ m) ≡ ((row_behind names params n xs).0, y ∷ rest m)) → ((m : Lines) → two ++ line ∷ m ≡ y ∷ rest m)
          → (fuel : ℕ) (m : Lines) → length (x ∷ ((one ++ two) ++ line ∷ m)) ≤ fuel → rows_in names params fuel n (x ∷ ((one ++ two) ++ line ∷ m)) ≡ ((rows_in names params (suc most) n (x ∷ xs)).0, line ∷ m)
      stays one two behind row are zero m few = absurd (omega (arith, few))
      stays one two behind {rest} row are (suc fuel) m few =
          let first : TableRow = (row_behind names params n xs).0 in
          let enough : length (two ++ line ∷ m) ≤ fuel = omega (arith, few, length-append (one ++ two) (line ∷ m), length-append one two, length-append two (line ∷ m)) in
          row_step fuel n x ((one ++ two) ++ line ∷ m) h
          ∙ ap (λ (r : TableRow × Lines). with_row r (rows_in names params fuel (n + 1))) (row m)
          ∙ ap (λ (t : List TableRow × Lines). (first ∷ t.0, t.1)) (ap (rows_in names params fuel (n + 1)) (sym (are m)) ∙ behind fuel m enough)
          ∙ ap (λ z. (z, line ∷ m)) (sym (ap (λ (t : List TableRow × Lines). t.0) (row_step most n x xs h) ∙ ap (λ z. first ∷ (rows_in names params most (n + 1) z).0) f))

  pub rows_local : (most n : ℕ) (xs : Lines) (line : List ℕ) (more : Lines) → length xs ≤ most → (rows_in names params most n xs).1 ≡ line ∷ more → AreLocal most n xs line more
  rows_local zero n [] line more small e = absurd (no_line (sym (no_rows 0 n) ∙ e))
  rows_local zero n (x ∷ xs) line more small e = absurd (omega (arith, small))
  rows_local (suc most) n [] line more small e = absurd (no_line (sym (no_rows (suc most) n) ∙ e))
  rows_local (suc most) n (x ∷ xs) line more small e = ⊎_elim
      (λ (t : is_row n x ≡ true). by_rest t (row_behind names params n xs).1 refl (rows_local most (n + 1)))
      (λ (f : is_row n x ≡ false).
      let stop = rows_stop (suc most) n x xs f in
      let same : x ∷ xs ≡ line ∷ more = sym (ap (λ (t : List TableRow × Lines). t.1) stop) ∙ e in
      record {
        front = [];
        are = same;
        stays = λ fuel m few. rows_stop fuel n line m (ap (is_row n) (sym (first_is same)) ∙ f) ∙ ap (λ z. (z, line ∷ m)) (sym (ap (λ (t : List TableRow × Lines). t.0) stop));
      })
      (cases_Bool (is_row n x))
    where
      by_rest : is_row n x ≡ true → (ys : Lines) → (row_behind names params n xs).1 ≡ ys
          → ((zs : Lines) (l : List ℕ) (m : Lines) → length zs ≤ most → (rows_in names params most (n + 1) zs).1 ≡ l ∷ m → AreLocal most (n + 1) zs l m) → AreLocal (suc most) n (x ∷ xs) line more
      by_rest t [] f later =
          absurd (no_line (sym (no_rows most (n + 1)) ∙ ap (λ z. (rows_in names params most (n + 1) z).1) (sym f) ∙ sym (ap (λ (r : List TableRow × Lines). r.1) (row_step most n x xs t)) ∙ e))
      by_rest t (y ∷ ys) f later =
          one_more most n x xs line more t (omega (arith, small)) y ys f
          (λ few. later (y ∷ ys) line more few (ap (λ z. (rows_in names params most (n + 1) z).1) (sym f) ∙ sym (ap (λ (r : List TableRow × Lines). r.1) (row_step most n x xs t)) ∙ e))

states_local : (params : List (Name × Kind)) (n k : ℕ) → Local (states_in params n k)
unfolding states_in
states_local params n k [] line more e = absurd (no_line e)
states_local params n k (x ∷ xs) line more e = at (row_of_state params n k x) refl e (states_local params n (k + 1) xs line more)
  where
    at : (o : Option ℕ) → row_of_state params n k x ≡ o → (kept o (states_in params n (k + 1) xs) ([], x ∷ xs)).1 ≡ line ∷ more
        → ((states_in params n (k + 1) xs).1 ≡ line ∷ more → IsLocal (states_in params n (k + 1)) xs line more) → IsLocal (states_in params n k) (x ∷ xs) line more
    at None f e later =
        let none : row_of_state params n k line ≡ None = ap (row_of_state params n k) (sym (first_is e)) ∙ f in
        record {
          front = [];
          are = e;
          stays = λ m. ap (λ o. kept o (states_in params n (k + 1) m) ([], line ∷ m)) none ∙ ap (λ z. (z, line ∷ m)) (sym (ap (λ o. (kept o (states_in params n (k + 1) xs) ([], x ∷ xs)).0) f));
        }
    at (Some a) f e later =
        let rest = later e in
        record {
          front = x ∷ rest.front;
          are = ap (λ t. x ∷ t) rest.are;
          stays = λ m. ap (λ o. kept o (states_in params n (k + 1) (rest.front ++ line ∷ m)) ([], x ∷ (rest.front ++ line ∷ m))) f ∙ ap (λ (t : List ℕ × Lines). (a ∷ t.0, t.1)) (rest.stays m)
              ∙ ap (λ z. (z, line ∷ m)) (sym (ap (λ o. (kept o (states_in params n (k + 1) xs) ([], x ∷ xs)).0) f));
        }

-- so do parameters
record IsLocalHeader (names : List (List ℕ)) (params : List (Name × Kind)) (xs : Lines) (line : List ℕ) (more : Lines) : Type 0 where
  front : Lines
  are : xs ≡ front ++ line ∷ more
  stays : (m : Lines) → params_in names params (front ++ line ∷ m) ≡ record { names = (params_in names params xs).names; params = (params_in names params xs).params; rest = line ∷ m }

params_local : (names : List (List ℕ)) (params : List (Name × Kind)) (xs : Lines) (line : List ℕ) (more : Lines) → (params_in names params xs).rest ≡ line ∷ more → IsLocalHeader names params xs line more
unfolding params_in
params_local names params [] line more e = absurd (no_line e)
params_local names params (x ∷ xs) line more e = at (next_param names params x) refl e (λ p. params_local (with_text names p.0) (params ++ numbered p ∷ []) xs line more)
  where
    numbered : List ℕ × Kind → Name × Kind
    numbered p = (record { 0 = place_of names p.0 }, p.1)

    next : Lines → List ℕ × Kind → Header
    next lines p = params_in (with_text names p.0) (params ++ numbered p ∷ []) lines

    stop : Lines → Header
    stop lines = record { names = names; params = params; rest = lines }

    at : (o : Option (List ℕ × Kind)) → next_param names params x ≡ o → (either o (stop (x ∷ xs)) (next xs)).rest ≡ line ∷ more
        → ((p : List ℕ × Kind) → (next xs p).rest ≡ line ∷ more → IsLocalHeader (with_text names p.0) (params ++ numbered p ∷ []) xs line more) → IsLocalHeader names params (x ∷ xs) line more
    at None f e later =
        let none : next_param names params line ≡ None = ap (next_param names params) (sym (first_is e)) ∙ f in
        record {
          front = [];
          are = e;
          stays = λ m. ap (λ o. either o (stop (line ∷ m)) (next m)) none ∙ ap (λ (h : Header). record { names = h.names; params = h.params; rest = line ∷ m }) (sym (ap (λ o. either o (stop (x ∷ xs)) (next xs)) f));
        }
    at (Some p) f e later =
        let rest = later p e in
        record {
          front = x ∷ rest.front;
          are = ap (λ t. x ∷ t) rest.are;
          stays = λ m. ap (λ o. either o (stop (x ∷ (rest.front ++ line ∷ m))) (next (rest.front ++ line ∷ m))) f ∙ rest.stays m
              ∙ ap (λ (h : Header). record { names = h.names; params = h.params; rest = line ∷ m }) (sym (ap (λ o. either o (stop (x ∷ xs)) (next xs)) f));
        }

-- ---- the whole text

-- a text with the line behind that front isn't read, whatever stands behind the line
pub record IsWholeLocal (names : List (List ℕ)) (xs : Lines) (line : List ℕ) (more : Lines) : Type 0 where
  pub front : Lines
  pub are : xs ≡ front ++ line ∷ more
  pub refused : (m : Lines) → (k : ℕ) × (lines_read names (version ∷ (front ++ line ∷ m)) ≡ Err (fault.Form k))

no_end : (front : Lines) (line : List ℕ) (more : Lines) → [] ≡ front ++ line ∷ more → ⊥
no_end [] line more e = no_line e
no_end (first ∷ front) line more e = no_line e

module _ (names : List (List ℕ)) (xs : Lines) where
  abbrev h : Header
  h = params_in names [] xs

  abbrev rs : List TableRow × Lines
  rs = rows_in h.names h.params (length h.rest) 0 h.rest

  abbrev ss : List ℕ × Lines
  ss = states_in h.params (length rs.0) 0 rs.1

  abbrev with_rest : Lines → Header
  with_rest rest = record { names = h.names; params = h.params; rest = rest }

  not_whole : (all : ℕ) (rest : Lines) (line : List ℕ) (m : Lines) → finished all (with_rest rest) (rs.0, line ∷ m) (ss.0, line ∷ m) ≡ Err (fault.Form (line_at all (suc (length m))))
  not_whole all rest line m =
      cond-false (is_whole h.params (ss.0, line ∷ m)) (judged (record { names = h.names; params = h.params; rows = rs.0; states = ss.0 })
      (table_fault (record { names = h.names; params = h.params; rows = rs.0; states = ss.0 }))) (Err (fault.Form (line_at all (suc (length m))))) (and_off (eqb (length ss.0) (2 ^ bits_of_scope h.params)))

  by_parts : (line : List ℕ) (more : Lines) (y : List ℕ) (ys : Lines) (x : List ℕ) (ws : Lines) → ss.1 ≡ line ∷ more → rs.1 ≡ y ∷ ys → h.rest ≡ x ∷ ws → IsWholeLocal names xs line more
  unfolding lines_read
  by_parts line more y ys x ws e f g =
      let third = states_local h.params (length rs.0) 0 rs.1 line more e in
      let second = rows_local h.names h.params (length h.rest) 0 h.rest y ys (le_refl (length h.rest)) f in
      let first = params_local names [] xs x ws g in
      let three = headed third.front line y more ys (sym f ∙ third.are) in
      let two = headed second.front y x ys ws (sym g ∙ second.are) in
      let front : Lines = first.front ++ (second.front ++ third.front) in
      let parted : (m : Lines) → front ++ line ∷ m ≡ first.front ++ (second.front ++ (third.front ++ line ∷ m)) =
      λ m. append_assoc first.front (second.front ++ third.front) (line ∷ m) ∙ ap (λ t. first.front ++ t) (append_assoc second.front third.front (line ∷ m)) in
      record {
        front = front;
        are = first.are ∙ ap (λ t. first.front ++ t) (sym g ∙ second.are ∙ ap (λ t. second.front ++ t) (sym f ∙ third.are)) ∙ sym (parted more);
        refused = λ m.
            let all : ℕ = 1 + length (front ++ line ∷ m) in
            let last : Lines = three.rest m in
            let rest : Lines = x ∷ two.rest last in
            let header : params_in names [] (front ++ line ∷ m) ≡ with_rest rest =
            ap (params_in names []) (parted m ∙ ap (λ t. first.front ++ t) (ap (λ t. second.front ++ t) (three.are m) ∙ two.are last)) ∙ first.stays (two.rest last) in
            let rows : rows_in h.names h.params (length rest) 0 rest ≡ (rs.0, y ∷ last) =
            ap (rows_in h.names h.params (length rest) 0) (sym (two.are last)) ∙ second.stays (length rest) last (le_of (ap (λ (ls : Lines). length ls) (two.are last))) in
            let states : states_in h.params (length rs.0) 0 (y ∷ last) ≡ (ss.0, line ∷ m) = ap (states_in h.params (length rs.0) 0) (sym (three.are m)) ∙ third.stays m in (
              line_at all (suc (length m)),
              ap (behind_params all) header
                  ∙ ap (λ (r : List TableRow × Lines). finished all (with_rest rest) r (states_in h.params (length r.0) 0 r.1)) rows
                  ∙ ap (λ (s : List ℕ × Lines). finished all (with_rest rest) (rs.0, y ∷ last) s) states ∙ not_whole all rest line m,
            );
      }
    where
      le_of : {a b : ℕ} → a ≡ b → a ≤ b
      le_of k = omega (arith, k)

  -- where the reading stops at a line
  pub whole_local : (line : List ℕ) (more : Lines) → ss.1 ≡ line ∷ more → IsWholeLocal names xs line more
  whole_local line more e = by_rows rs.1 refl
    where
      by_header : (y : List ℕ) (ys : Lines) → rs.1 ≡ y ∷ ys → (left : Lines) → h.rest ≡ left → IsWholeLocal names xs line more
      by_header y ys f [] g =
          let second = rows_local h.names h.params (length h.rest) 0 h.rest y ys (le_refl (length h.rest)) f in
          absurd (no_end second.front y ys (sym g ∙ second.are))
      by_header y ys f (x ∷ ws) g = by_parts line more y ys x ws e f g

      by_rows : (left : Lines) → rs.1 ≡ left → IsWholeLocal names xs line more
      by_rows [] f =
          let third = states_local h.params (length rs.0) 0 rs.1 line more e in
          absurd (no_end third.front line more (sym f ∙ third.are))
      by_rows (y ∷ ys) f = by_header y ys f h.rest refl
