-- A table of names in which a text was put last.
use Rattle.std.proofs.Common.{ℕ, ◌≡◌, ◌<◌, List, length, ap, arith}
use Rattle.std.proofs.lemmas.Option.{slice_get_within}
use Rattle.occ_syntax.proofs.from_base.Naming.{naming}
use Rattle.occ_syntax.specs.occ_base.Names.{place_of, with_text}

-- the numbers up to the text's are numbers of names
pub interned_within : (old new : List (List ℕ)) (text : List ℕ) (last number : ℕ) → last ≡ place_of old text → new ≡ with_text old text → number < last → number < length new
interned_within old new text last number e t h =
    let there = slice_get_within (with_text old text) (place_of old text) text (naming old text).there in omega (arith, there, e, ap length t, h)
