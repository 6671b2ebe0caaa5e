-- Items are read as they are spelled.
use Rattle.std.proofs.Common.{◌≡◌, inl, inr, List, [], ◌∷◌, ◌++◌, Some, None, sym, ap, ◌∙◌, append_assoc}
use Rattle.std.proofs.lemmas.List.{append-nil}
use Rattle.occ_lex.specs.occ_base.declared.names.Name.{Name}
use Rattle.occ_lex.specs.declared.symbol.Keyword.TheVariants as word
use Rattle.occ_lex.specs.declared.symbol.Sign.TheVariants as sign
use Rattle.occ_lex.specs.declared.symbol.Symbol.{Symbol}
use Rattle.occ_lex.specs.declared.symbol.Symbol.TheVariants as symbol
use Rattle.occ_parse_forms.specs.declared.form.Item.{Item}
use Rattle.occ_parse_forms.specs.declared.phrase.Index.{Index}
use Rattle.occ_parse_forms.specs.declared.phrase.Index.TheVariants as index
use Rattle.occ_parse_forms.specs.Reading.{moved, index_first, item_behind, item_of}
use Rattle.occ_parse_forms.specs.Symbols.{then_read, alone, behind_sign, behind_word, name_first, numeral_first}
use Rattle.occ_parse_forms.specs.Written.{index_words, item_words}
use Rattle.occ_parse_forms.proofs.Basics.{inspect, read_ok, alone_ok, some_is, behind_ok, name_ok, numeral_ok}

abbrev spelled_index : Index × List Symbol → List Symbol
spelled_index f = index_words f.0 ++ f.1

moved_ok : (name : Name) (symbols : List Symbol) (f : Index × List Symbol) → moved name symbols ≡ Some f → symbol.Name name ∷ symbols ≡ spelled_index f
moved_ok name symbols f h = elim (inspect (behind_word word.Plus symbols)) [
  | inr a ↦
      let n = read_ok (numeral_first a.0) (λ n. Some (index.Plus name n.0, n.1)) f (rw a.1 at h) in
      ap (λ r. symbol.Name name ∷ r) (behind_ok (symbol.Keyword word.Plus) symbols a.0 a.1 ∙ ap (λ r. symbol.Keyword word.Plus ∷ r) (numeral_ok a.0 n.0 n.1))
      ∙ ap spelled_index (some_is (index.Plus name n.0.0, n.0.1) f n.2)
  | inl b ↦
      let h2 = rw b at h in
      elim (inspect (behind_word word.Minus symbols)) [
        | inr a ↦
            let n = read_ok (numeral_first a.0) (λ n. Some (index.Minus name n.0, n.1)) f (rw a.1 at h2) in
            ap (λ r. symbol.Name name ∷ r) (behind_ok (symbol.Keyword word.Minus) symbols a.0 a.1 ∙ ap (λ r. symbol.Keyword word.Minus ∷ r) (numeral_ok a.0 n.0 n.1))
            ∙ ap spelled_index (some_is (index.Minus name n.0.0, n.0.1) f n.2)
        | inl c ↦ ap spelled_index (some_is (index.Name name, symbols) f (rw c at h2))
      ]
]

index_ok : (symbols : List Symbol) (f : Index × List Symbol) → index_first symbols ≡ Some f → symbols ≡ spelled_index f
unfolding index_first
index_ok symbols f h = elim (inspect (numeral_first symbols)) [
  | inr a ↦ numeral_ok symbols a.0 a.1 ∙ ap spelled_index (some_is (index.Number a.0.0, a.0.1) f (rw a.1 at h))
  | inl b ↦
      let n = read_ok (name_first symbols) (λ n. moved n.0 n.1) f (rw b at h) in
      name_ok symbols n.0 n.1 ∙ moved_ok n.0.0 n.0.1 f n.2
]

abbrev spelled_item : Item × List Symbol → List Symbol
spelled_item f = item_words f.0 ++ f.1

pub item_behind_ok : (name : Name) (symbols : List Symbol) (f : Item × List Symbol) → item_behind name symbols ≡ Some f → symbol.Name name ∷ symbols ≡ item_words f.0 ++ f.1
unfolding item_behind
item_behind_ok name symbols f h = elim (inspect (behind_sign sign.OpenIndex symbols)) [
  | inr a ↦
      let i = read_ok (index_first a.0) (λ i. then_read (behind_sign sign.CloseIndex i.1) (λ rest. Some (record { name = name; index = Some i.0 }, rest))) f (rw a.1 at h) in
      let z = read_ok (behind_sign sign.CloseIndex i.0.1) (λ rest. Some (record { name = name; index = Some i.0.0 }, rest)) f i.2 in
      ap (λ r. symbol.Name name ∷ r) (behind_ok (symbol.Sign sign.OpenIndex) symbols a.0 a.1
      ∙ ap (λ r. symbol.Sign sign.OpenIndex ∷ r) (index_ok a.0 i.0 i.1 ∙ ap (λ r. index_words i.0.0 ++ r) (behind_ok (symbol.Sign sign.CloseIndex) i.0.1 z.0 z.1) ∙ sym (append_assoc (index_words i.0.0) (symbol.Sign sign.CloseIndex ∷ []) z.0)))
      ∙ ap spelled_item (some_is (record { name = name; index = Some i.0.0 }, z.0) f z.2)
  | inl b ↦ ap spelled_item (some_is (record { name = name; index = None }, symbols) f (rw b at h))
]

pub item_ok : (symbols : List Symbol) (i : Item) → item_of symbols ≡ Some i → symbols ≡ item_words i
unfolding item_of
item_ok symbols i h =
    let n = read_ok (name_first symbols) (λ n. then_read (item_behind n.0 n.1) (λ i. alone i.0 i.1)) i h in
    let j = read_ok (item_behind n.0.0 n.0.1) (λ i. alone i.0 i.1) i n.2 in
    let a = alone_ok j.0.0 i j.0.1 j.2 in
    name_ok symbols n.0 n.1 ∙ item_behind_ok n.0.0 n.0.1 j.0 j.1 ∙ ap (λ r. item_words j.0.0 ++ r) a.0 ∙ append-nil (item_words j.0.0) ∙ ap item_words a.1
