-- What is asked of the reading of texts for an answer to be one, and what one answer is.
use Rattle.std.proofs.Common.{◌≡◌, ◌∙◌, ap, sym, ℕ, List, Option, Some}
use Rattle.occ_tool_words.specs.occ_parse.Reading.{IsRefused as IsRefusedText}
use Rattle.occ_tool_words.specs.occ_parse.declared.bound.Bound.TheVariants as bound
use Rattle.occ_tool_words.specs.occ_parse.declared.fault.ParseFault.{ParseFault}
use Rattle.occ_tool_run.specs.declared.answer.Answer.{Answer}
use Rattle.occ_tool_run.specs.Accepts.{Program, ReadsAs}
use Rattle.occ_tool_run.specs.Texts.{status_of, text_of}

-- answers that are written alike
pub record AreAlike (a b : Answer) : Type 0 where
  pub status : status_of a ≡ status_of b
  pub text : text_of a ≡ text_of b

pub alike : (a b c d : Answer) → a ≡ c → c ≡ d → b ≡ d → AreAlike a b
alike a b c d e f g = let h : a ≡ b = e ∙ f ∙ sym g in record { status = ap status_of h; text = ap text_of h }

some_is : {X : Type 0} (x y : X) → Some x ≡ Some y → x ≡ y
some_is x y e = cc

-- the bytes of a file are one list
pub same_bytes : (file : Option (List ℕ)) (a b : List ℕ) → file ≡ Some a → file ≡ Some b → a ≡ b
same_bytes file a b e f = some_is a b (sym e ∙ f)

pub record IsOneReading (m n : List (List ℕ)) (p q : Program) (ls ks : List ℕ) : Type 0 where
  pub names : m ≡ n
  pub name : p.name ≡ q.name
  pub params : p.params ≡ q.params
  pub body : p.body ≡ q.body
  pub numbers : ls ≡ ks

-- a text reads as one program or is refused for one fault, and not both
pub record IsOnce : Type 0 where
  pub one_reading : (text : List ℕ) (old m n : List (List ℕ)) (p q : Program) (ls ks : List ℕ) → ReadsAs text old m p ls → ReadsAs text old n q ks → IsOneReading m n p q ls ks
  pub one_fault : (text : List ℕ) (old : List (List ℕ)) (f g : ParseFault) → IsRefusedText bound.Program text old f → IsRefusedText bound.Program text old g → f ≡ g
  pub not_both : (text : List ℕ) (old m : List (List ℕ)) (p : Program) (ls : List ℕ) (f : ParseFault) → ReadsAs text old m p ls → IsRefusedText bound.Program text old f → ⊥
