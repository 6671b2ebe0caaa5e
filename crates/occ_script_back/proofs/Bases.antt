-- The arrays of a printed part are names of the table by themselves.
use Rattle.std.proofs.Common.{◌≡◌, ℕ, ◌<◌, ◌+◌, Bool, true, false, ◌&&◌, nat_lt, List, [], ◌∷◌, length, map, Option, None, Some, refl, ap, ◌∙◌}
use Rattle.std.specs.Prelude.{nat_le}
use Rattle.std.specs.List.{AllByRecursion, list_all}
use Rattle.std.proofs.lemmas.Bool.{and_parts, and_from, ltb-true, lt-ltb}
use Rattle.std.proofs.lemmas.List.Folds.{list_all-append}
use Rattle.occ_script_write.specs.occ_base.declared.names.Name.{Name}
use Rattle.occ_script_write.specs.occ_lex.declared.token.TokenKind.{TokenKind}
use Rattle.occ_script_write.specs.occ_lex.declared.token.TokenKind.TheVariants as token
use Rattle.occ_script_write.specs.occ_lex.Spelling.{kind_of}
use Rattle.occ_script_write.specs.occ_lex.declared.symbol.Keyword.{Keyword}
use Rattle.occ_script_write.specs.occ_lex.declared.symbol.Keyword.TheVariants as word
use Rattle.occ_script_write.specs.occ_lex.declared.symbol.Symbol.{Symbol}
use Rattle.occ_script_write.specs.occ_lex.declared.symbol.Symbol.TheVariants as symbol
use Rattle.occ_script_write.specs.occ_parse_forms.Written.{item_words}
use Rattle.occ_script.specs.occ_parse_part.Arrays.{array_names, arrays_of}
use Rattle.occ_script.proofs.from_parse_part.Known.{arrays_pass}
use Rattle.occ_print_back.specs.occ_parse_rules.Forest.{Laid}
use Rattle.occ_print_back.specs.occ_parse_rules.Places.{Place}
use Rattle.occ_print_back.specs.occ_parse_rules.Passing.{keyword_passes, shape_passes, symbol_passes}
use Rattle.occ_print_back.proofs.from_parse_rules.Forms.{form_in}
use Rattle.occ_script_write.specs.occ_print.Lines.{TextLine}
use Rattle.occ_script_write.specs.occ_print.Spelled.{name_text}
use Rattle.occ_print_back.specs.Formed.{AreFormed}
use Rattle.occ_print_back.specs.Placed.{AreSayable, IsTable, IsWord, LinesAreSayable}
use Rattle.occ_print_back.specs.Read.{symbol_read, symbols_read}
use Rattle.occ_print_back.specs.Said.{item_of}
use Rattle.occ_script_back.specs.Tables.{IsBase}

abbrev is_name_kind : Option TokenKind → Bool
is_name_kind (Some token.Name) = true
is_name_kind (Some token.Word) = false
is_name_kind (Some token.Numeral) = false
is_name_kind (Some token.Sign) = false
is_name_kind None = false

name_kind : (k : Option TokenKind) → is_name_kind k ≡ true → k ≡ Some token.Name
name_kind (Some token.Name) h = refl
name_kind (Some token.Word) h = absurd cc
name_kind (Some token.Numeral) h = absurd cc
name_kind (Some token.Sign) h = absurd cc
name_kind None h = absurd cc

module _ (names : List (List ℕ)) (P : ℕ → Place) (table : IsTable names P) where
  abbrev is_base : ℕ → Bool
  is_base x = nat_lt x (length names) && (is_name_kind (kind_of (name_text names x)) && nat_le (length (name_text names x)) 32)

  base_is : (x : ℕ) → is_base x ≡ true → IsBase names x
  base_is x h =
      let parts = and_parts (nat_lt x (length names)) _ h in
      let more = and_parts (is_name_kind (kind_of (name_text names x))) _ parts.1 in
      record { there = ltb-true _ _ parts.0; kind = name_kind _ more.0; short = more.1 }

  place_base : (x : ℕ) → x < length names → is_base (P x).name ≡ true
  place_base x h =
      let p = table.places x h in
      and_from (nat_lt (P x).name (length names)) _ (lt-ltb _ _ p.there)
      (and_from (is_name_kind (kind_of (name_text names (P x).name))) _ (ap is_name_kind p.kind) p.short)

  item_passes_at : (y : ℕ) (k : Option ℕ) → is_base y ≡ true → list_all (symbol_passes is_base) (item_words (item_of (record { name = y; element = k }))) ≡ true
  item_passes_at y None h = and_from (is_base y) true h refl
  item_passes_at y (Some k) h = and_from (is_base y) true h refl

  word_passes : (k : Keyword) → IsWord k → keyword_passes k ≡ true
  word_passes (word.Width w) h = h
  word_passes word.Skip h = refl
  word_passes word.Stop h = refl
  word_passes word.Seq h = refl
  word_passes word.Par h = refl
  word_passes word.Alt h = refl
  word_passes word.If h = refl
  word_passes word.For h = refl
  word_passes word.Proc h = refl
  word_passes word.Chan h = refl
  word_passes word.Of h = refl
  word_passes word.True h = refl
  word_passes word.False h = refl
  word_passes word.And h = refl
  word_passes word.Or h = refl
  word_passes word.Not h = refl
  word_passes word.Plus h = refl
  word_passes word.Minus h = refl

  symbols_pass : (ss : List Symbol) → AreSayable (length names) ss → list_all (symbol_passes is_base) (symbols_read P ss) ≡ true
  symbols_pass [] h = refl
  symbols_pass (symbol.Name name ∷ ss) h =
      list_all-append (symbol_passes is_base) (symbol_read P (symbol.Name name)) (symbols_read P ss)
      ∙ and_from (list_all (symbol_passes is_base) (item_words (item_of (P name.0)))) _ (item_passes_at (P name.0).name (P name.0).element (place_base name.0 h.0)) (symbols_pass ss h.1)
  symbols_pass (symbol.Numeral v ∷ ss) h = symbols_pass ss h.1
  symbols_pass (symbol.Keyword k ∷ ss) h = and_from (keyword_passes k) _ (word_passes k h.0) (symbols_pass ss h.1)
  symbols_pass (symbol.Sign s ∷ ss) h = symbols_pass ss h.1

  shapes_pass : (n : ℕ) (ts : List TextLine) (ls : List Laid) → LinesAreSayable (length names) ts → AreFormed P n ts ls → AllByRecursion (λ (l : Laid). shape_passes is_base l.shape ≡ true) ls
  shapes_pass n [] [] s f = tt
  shapes_pass n [] (l ∷ ls) s f = absurd f
  shapes_pass n (t ∷ ts) [] s f = tt
  shapes_pass n (t ∷ ts) (l ∷ ls) s f =
      (form_in is_base (symbols_read P t.symbols) l.shape f.2 (symbols_pass t.symbols s.0.1), shapes_pass (n + 1) ts ls s.1 f.3)

  bases_are : (xs : List ℕ) → list_all is_base xs ≡ true → AllByRecursion (λ (x : Name). IsBase names x.0) (map (λ x. record { 0 = x }) xs)
  bases_are [] h = tt
  bases_are (x ∷ xs) h = let parts = and_parts (is_base x) (list_all is_base xs) h in (base_is x parts.0, bases_are xs parts.1)

  pub arrays_are_bases : (n : ℕ) (ts : List TextLine) (ls : List Laid) → LinesAreSayable (length names) ts → AreFormed P n ts ls → AllByRecursion (λ (x : Name). IsBase names x.0) (array_names ls)
  arrays_are_bases n ts ls s f = bases_are (arrays_of ls) (arrays_pass is_base ls (shapes_pass n ts ls s f))
