-- What reading brings into a table stands in one that moves are written from.
use Rattle.std.proofs.Common.{◌≡◌, ⊎_elim, ℕ, zero, suc, ◌+◌, ◌<◌, ◌≤◌, Bool, true, false, cond, nat_lt, nat_le, List, [], ◌∷◌, ◌++◌, length, length-append, get_or, Option, Some, None, Ok, Err, is_ok, slice_get, IsTrue, decimal, refl, sym, ap, subst, ◌∙◌, arith}
use Rattle.std.specs.List.{AllByRecursion, list_all}
use Rattle.std.proofs.lemmas.Bool.{and_parts, ltb-true}
use Rattle.std.proofs.lemmas.Option.{slice_get-get_or}
use Rattle.occ_engine_known.specs.occ_base.declared.names.Name.{Name}
use Rattle.occ_engine_known.specs.occ_base.Names.{IsDistinct, with_text}
use Rattle.occ_engine_known.proofs.from_base.Naming.{naming}
use Rattle.occ_renamed.specs.occ_lex.declared.token.Line.{Line}
use Rattle.occ_renamed.specs.occ_lex.declared.token.Token.{Token}
use Rattle.occ_renamed.specs.occ_lex.declared.token.TokenKind.{TokenKind}
use Rattle.occ_renamed.specs.occ_lex.declared.token.TokenKind.TheVariants as token
use Rattle.occ_renamed.specs.occ_lex.declared.fault.LineFault.TheVariants as fault
use Rattle.occ_renamed.specs.occ_lex.Placed.{IsLineOf, IsTokenOf}
use Rattle.occ_renamed.specs.occ_lex.Spelling.{is_letter, is_name, is_name_byte, kind_of}
use Rattle.occ_renamed.specs.occ_lex.Token.{text_of}
use Rattle.occ_renamed.specs.occ_lex.Tokens.{judged}
use Rattle.occ_renamed.specs.occ_lex.Symbols.{Extends, names_with, with_names, with_names_of_all}
use Rattle.occ_renamed.proofs.from_lex.Interned.{extends_text}
use Rattle.occ_renamed.proofs.from_parse.Texts.{is_plain, plain_table, stays}
use Rattle.occ_renamed.specs.occ_parse_part.Elements.{element_count, with_arrays}
use Rattle.occ_renamed.proofs.from_parse_part.Counted.{count_is}
use Rattle.occ_renamed.specs.occ_parse_rules.Places.{Place, elements_from}
use Rattle.occ_renamed.specs.occ_parse_unroll.Elements.{with_places}
use Rattle.occ_renamed.specs.occ_parse_unroll.Numbers.{element_text}
use Rattle.occ_renamed.proofs.from_parse_unroll.Elements.{places_extend}
use Rattle.occ_renamed.specs.occ_print.Spelled.{name_text}
use Rattle.occ_script_table.specs.occ_print_back.Placed.{IsPlace, IsTable, place_text}
use Rattle.occ_script_table.proofs.from_print_back.Stable.{element_is}
use Rattle.occ_script_table.specs.occ_script_back.Tables.{IsGrown}
use Rattle.occ_script_table.specs.occ_script_back.Joined.{AreWrittenMoves}
use Rattle.occ_engine_written.specs.Front.{AllStandIn, with_texts}
use Rattle.occ_engine_written.proofs.Behind.{AreGood, moves_stay, text_stays}
use Rattle.occ_engine_written.proofs.Front.{one_text}
use Rattle.occ_engine_written.proofs.NumberedGrown.{grown_places, one_from, texts_extend, texts_grown, texts_there}
use Rattle.occ_engine_written.proofs.Tables.{text_at, within_of}
use Rattle.occ_engine_known.specs.occ_script_write.declared.writing.Done.{Done}
use Rattle.occ_engine_known.specs.occ_script_write.Text.{script_text}
use Rattle.occ_engine_known.specs.occ_syntax.declared.scope.Program.{Program}

abbrev Table : Type 0
Table = List (List ℕ)

-- Moves with this text, so many steps of them, are written from a table in which all texts of another stand. In that one each stands once.
pub record IsCovered (text : List ℕ) (count : ℕ) (t : Table) : Type 0 where
  pub single : IsDistinct t
  pub names : Table
  pub places : ℕ → Place
  pub from : Program
  pub steps : List Done
  pub to : Program
  pub moves : AreWrittenMoves names places from steps to
  pub text_is : script_text names from steps to ≡ text
  pub as_many : length steps ≡ count
  pub has : AllStandIn t names

-- ---- small tables of places

-- a text that may stand as a name
abbrev pub IsNameText : List ℕ → Type 0
IsNameText s = (kind_of s ≡ Some token.Name) × (nat_le (length s) 32 ≡ true)

pub nowhere : {A : Type 0} (text : List ℕ) → ◌≡◌ {A = Option (List ℕ)} None (Some text) → A
nowhere text e = absurd cc

name_table : (s : List ℕ) → IsNameText s → IsTable (s ∷ []) (λ x. record { name = 0; element = None })
name_table s n = record { distinct = one; places = at }
  where
    one : IsDistinct (s ∷ [])
    one zero zero text h k = refl
    one zero (suc j) text h k = nowhere text k
    one (suc i) j text h k = nowhere text h

    at : (x : ℕ) → x < length (s ∷ []) → IsPlace (s ∷ []) (record { name = 0; element = None }) (name_text (s ∷ []) x)
    at zero h = record { there = omega arith; kind = n.0; short = n.1; index = tt; text_is = refl }
    at (suc x) h = absurd (omega (arith, h))

abbrev two_places : ℕ → ℕ → Place
two_places k zero = record { name = 0; element = None }
two_places k (suc x) = record { name = 0; element = Some k }

element_table : (s : List ℕ) (k : ℕ) → IsNameText s → k < 256 → IsTable (s ∷ element_text s k ∷ []) (two_places k)
element_table s k n small = record { distinct = two; places = at }
  where
    apart : s ≡ element_text s k → ⊥
    apart e = omega (arith, ap (λ (t : List ℕ). length t) (e ∙ element_is s k), length-append s (91 ∷ (decimal k ++ 93 ∷ [])))

    two : IsDistinct (s ∷ element_text s k ∷ [])
    two zero zero text h k' = refl
    two zero (suc zero) text h k' = absurd (apart (one_text s (element_text s k) (Some (element_text s k)) (h' ∙ sym (k'')) refl))
      where
        h' : Some (element_text s k) ≡ Some text
        h' = k'

        k'' : Some s ≡ Some text
        k'' = h
    two zero (suc (suc j)) text h k' = nowhere text k'
    two (suc zero) zero text h k' = absurd (apart (one_text s (element_text s k) (Some text) (sym k') (sym h)))
    two (suc zero) (suc zero) text h k' = refl
    two (suc zero) (suc (suc j)) text h k' = nowhere text k'
    two (suc (suc i)) j text h k' = nowhere text h

    at : (x : ℕ) → x < length (s ∷ element_text s k ∷ []) → IsPlace (s ∷ element_text s k ∷ []) (two_places k x) (name_text (s ∷ element_text s k ∷ []) x)
    at zero h = record { there = omega arith; kind = n.0; short = n.1; index = tt; text_is = refl }
    at (suc zero) h = record { there = omega arith; kind = n.0; short = n.1; index = small; text_is = element_is s k }
    at (suc (suc x)) h = absurd (omega (arith, h))

-- ---- a name among places is one by itself

in_middle : (p : ℕ → Bool) (xs ys : List ℕ) (y : ℕ) → list_all p (xs ++ y ∷ ys) ≡ true → p y ≡ true
in_middle p [] ys y h = (and_parts (p y) (list_all p ys) h).0
in_middle p (x ∷ xs) ys y h = in_middle p xs ys y (and_parts (p x) (list_all p (xs ++ y ∷ ys)) h).1

no_element : (base more : List ℕ) → is_name (base ++ 91 ∷ more) ≡ true → ⊥
unfolding is_name
no_element [] more h = let bad : is_letter 91 ≡ true = (and_parts (is_letter 91) (list_all is_name_byte more) h).0 in absurd cc
no_element (x ∷ base) more h =
    let bad : is_name_byte 91 ≡ true = in_middle is_name_byte base more 91 (and_parts (is_letter x) (list_all is_name_byte (base ++ 91 ∷ more)) h).1 in absurd cc

name_at : (base s : List ℕ) (o : Option ℕ) → s ≡ place_text base o → is_name s ≡ true → IsNameText base → IsNameText s
name_at base s None e h n = subst IsNameText (sym e) n
name_at base s (Some k) e h n = absurd (no_element base (decimal k ++ 93 ∷ []) (ap is_name (sym e) ∙ h))

-- ---- one text more

module _ (good : AreGood) (text : List ℕ) (count : ℕ) where
  abbrev pub Covered : Table → Type 0
  Covered t = IsCovered text count t

  with_front : (t : Table) → Covered t → (front : Table) (Q : ℕ → Place) → IsTable front Q → (s : List ℕ) (i : ℕ) → slice_get front i ≡ Some s → Covered (with_text t s)
  with_front t c front Q table s i e =
      let all = with_texts c.names front in
      let R = grown_places c.names c.places c.moves.from_is.table front Q table in
      let g : IsGrown c.names c.places all R = texts_grown c.names c.places c.moves.from_is.table front Q table in
      record {
        single = (naming t s).distinct c.single;
        names = all;
        places = R;
        from = c.from;
        steps = c.steps;
        to = c.to;
        moves = moves_stay c.names all c.places R g c.from c.to c.steps c.moves;
        text_is = text_stays c.names all c.places R g c.from c.to c.steps (good c.names c.places c.from c.to c.steps c.moves) ∙ c.text_is;
        as_many = c.as_many;
        has = λ j u h. ⊎_elim
            (λ (k : slice_get t j ≡ Some u). let w = c.has j u k in (w.0, stays c.names all w.0 u (texts_extend c.names front) w.1))
            (λ (k : s ≡ u). let w = texts_there c.names front i s e in (w.0, w.1 ∙ ap Some k))
            (one_from t s u j h);
      }

  name_covered : (t : Table) → Covered t → (s : List ℕ) → IsNameText s → Covered (with_text t s)
  name_covered t c s n = with_front t c (s ∷ []) (λ x. record { name = 0; element = None }) (name_table s n) s 0 refl

  -- a name of the table that is one by itself
  name_there : (t : Table) → Covered t → (x : ℕ) → is_plain t x ≡ true → IsNameText (get_or t x [])
  name_there t c x h =
      let parts = and_parts (nat_lt x (length t)) (is_name (get_or t x [])) h in
      let s = get_or t x [] in
      let w = c.has x s (slice_get-get_or t x [] (ltb-true _ _ parts.0)) in
      let table = c.moves.from_is.table in
      let p = table.places w.0 (within_of c.names w.0 s w.1) in
      let is = text_at c.names w.0 s w.1 in
      name_at (name_text c.names (c.places w.0).name) s (c.places w.0).element (sym is ∙ p.text_is) parts.1 (p.kind, p.short)

  element_covered : (t : Table) → Covered t → (x k : ℕ) → is_plain t x ≡ true → k < 256 → Covered (with_text t (element_text (get_or t x []) k))
  element_covered t c x k h small =
      let s = get_or t x [] in
      with_front t c (s ∷ element_text s k ∷ []) (two_places k) (element_table s k (name_there t c x h) small) (element_text s k) 1 refl

  plain_later : (t u : Table) (x : ℕ) → Extends t u → is_plain t x ≡ true → is_plain u x ≡ true
  plain_later t u x e h =
      let parts = and_parts (nat_lt x (length t)) (is_name (get_or t x [])) h in
      plain_table u x (get_or t x []) (stays t u x (get_or t x []) e (slice_get-get_or t x [] (ltb-true _ _ parts.0))) parts.1

  all_plain_later : (t u : Table) (xs : List Name) → Extends t u → AllByRecursion (λ (x : Name). is_plain t x.0 ≡ true) xs → AllByRecursion (λ (x : Name). is_plain u x.0 ≡ true) xs
  all_plain_later t u [] e h = tt
  all_plain_later t u (x ∷ xs) e h = (plain_later t u x.0 e h.0, all_plain_later t u xs e h.1)

  elements_covered : (t : Table) → Covered t → (x k n : ℕ) → is_plain t x ≡ true → k + n ≤ 256 → Covered (with_places t (elements_from x k n))
  elements_covered t c x k zero h l = c
  elements_covered t c x k (suc n) h l =
      let e = element_text (get_or t x []) k in
      let next = with_text t e in
      elements_covered next (element_covered t c x k h (omega (arith, l))) x (k + 1) n (plain_later t next x (extends_text t e) h) (omega (arith, l))

  pub arrays_covered : (t : Table) → Covered t → (xs : List Name) → AllByRecursion (λ (x : Name). is_plain t x.0 ≡ true) xs → Covered (with_arrays t xs)
  arrays_covered t c [] h = c
  arrays_covered t c (x ∷ xs) h =
      let first = elements_from x.0 0 element_count in
      let next = with_places t first in
      arrays_covered next (elements_covered t c x.0 0 element_count h.0 (omega (arith, count_is))) xs (all_plain_later t next xs (places_extend t first) h.1)

  -- ---- the names of lines

  short_of : {A E : Type 0} (b : Bool) (x : A) (e : E) → is_ok (cond b (Ok x) (Err e)) ≡ true → b ≡ true
  short_of true x e h = refl
  short_of false x e h = absurd cc

  token_covered : (source : List ℕ) (t : Table) → Covered t → (it : Token) (k : TokenKind) → it.kind ≡ k → IsTokenOf source it → Covered (names_with t k (text_of it source))
  token_covered source t c it token.Name e h =
      let s = text_of it source in
      let good_name = subst (λ k. IsTrue (is_ok (judged (Some k) s))) e h.good in
      name_covered t c s (h.spelled ∙ ap Some e, short_of (nat_le (length s) 32) (token.Name, length s) fault.Name good_name)
  token_covered source t c it token.Numeral e h = c
  token_covered source t c it token.Word e h = c
  token_covered source t c it token.Sign e h = c

  tokens_covered : (source : List ℕ) (t : Table) → Covered t → (its : List Token) → AllByRecursion (IsTokenOf source) its → Covered (with_names source t its)
  tokens_covered source t c [] h = c
  tokens_covered source t c (it ∷ its) h = tokens_covered source (names_with t it.kind (text_of it source)) (token_covered source t c it it.kind refl h.0) its h.1

  pub lines_covered : (source : List ℕ) (t : Table) → Covered t → (lines : List Line) → AllByRecursion (IsLineOf source) lines → Covered (with_names_of_all source t lines)
  lines_covered source t c [] h = c
  lines_covered source t c (line ∷ lines) h = lines_covered source (with_names source t line.tokens) (tokens_covered source t c line.tokens h.0.tokens) lines h.1
