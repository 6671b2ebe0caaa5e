-- What becomes of a text is one.
use Rattle.std.proofs.Common.{◌≡◌, ℕ, List, [], ◌∷◌, Option, sym, ◌∙◌, ap, subst, slice_index_or}
use Rattle.occ_syntax.specs.declared.scope.Program.{Program as Stored}
use Rattle.occ_tool_words.specs.occ_parse.Reading.{IsRefused as IsRefusedText}
use Rattle.occ_tool_words.specs.occ_parse.declared.bound.Bound.TheVariants as bound
use Rattle.occ_tool_words.specs.occ_parse.declared.fault.ParseFault.{ParseFault}
use Rattle.occ_run_schedule.specs.occ_usage.Faults.{faults, names_of}
use Rattle.occ_run_schedule.specs.occ_usage.declared.fault.UsageFault.{UsageFault}
use Rattle.occ_run_schedule.specs.occ_behaviour.declared.behaviour.Side.{Side}
use Rattle.occ_tool_run.specs.declared.answer.Answer.{Answer}
use Rattle.occ_tool_run.specs.declared.answer.Answer.TheVariants.{Refused, Unusable}
use Rattle.occ_tool_run.specs.Accepts.{IsAccepted, IsRefused, IsUnusable, Program, ReadsAs, node_of, usage_faults}
use Rattle.occ_tool_run.specs.Stored.{OfStored, seen}
use Rattle.occ_tool_run.specs.Answers.{Takes, refused, unusable, accepted}
use Rattle.occ_tool_run.proofs.Once.{AreAlike, IsOneReading, IsOnce, alike, same_bytes}

pub data Outcome : Type 0 where
  as_taken : List (List ℕ) → Program → Outcome
  as_refused : ParseFault → Outcome
  as_unusable : List (List ℕ) → ℕ → UsageFault → Outcome

abbrev pub Comes : Option (List ℕ) → List (List ℕ) → Outcome → Type 0
Comes file old (as_taken new program) = IsAccepted file old new program
Comes file old (as_refused fault) = IsRefused file old fault
Comes file old (as_unusable new line fault) = IsUnusable file old new line fault

pub record AreOne (m n : List (List ℕ)) (p q : Program) : Type 0 where
  pub names : m ≡ n
  pub name : p.name ≡ q.name
  pub params : p.params ≡ q.params
  pub body : p.body ≡ q.body

pub record AreOneFault (m n : List (List ℕ)) (k l : ℕ) (f g : UsageFault) : Type 0 where
  pub names : m ≡ n
  pub lines : k ≡ l
  pub faults : f ≡ g

abbrev pub Agree : Outcome → Outcome → Type 0
Agree (as_taken m p) (as_taken n q) = AreOne m n p q
Agree (as_taken m p) (as_refused g) = ⊥
Agree (as_taken m p) (as_unusable n l g) = ⊥
Agree (as_refused f) (as_taken n q) = ⊥
Agree (as_refused f) (as_refused g) = f ≡ g
Agree (as_refused f) (as_unusable n l g) = ⊥
Agree (as_unusable m k f) (as_taken n q) = ⊥
Agree (as_unusable m k f) (as_refused g) = ⊥
Agree (as_unusable m k f) (as_unusable n l g) = AreOneFault m n k l f g

-- answers to programs are alike where those to the programs in memory are
pub of_stored : (R S : List (List ℕ) → Stored → Answer → Type 0) (m n : List (List ℕ)) (p q : Program) (a b : Answer) → AreOne m n p q
    → ((x y : Stored) → AreOne m n (seen x) (seen y) → R m x a → S n y b → AreAlike a b) → OfStored R m p a → OfStored S n q b → AreAlike a b
of_stored R S m n p q a b d rest f g =
    let P : Program → Type 0 = λ r. AreOne m n r q in
    let Q : Program → Type 0 = λ r. AreOne m n (seen f.stored) r in
    rest f.stored g.stored (subst Q g.program_is (subst P f.program_is d)) f.answered g.answered

head_is : {X : Type 0} (x y : X) (xs ys : List X) → x ∷ xs ≡ y ∷ ys → x ≡ y
head_is x y xs ys e = cc

-- what follows stands on the reading of a text being one
module _ (once : IsOnce) where
  reads : (a b : List ℕ) (old m n : List (List ℕ)) (p q : Program) (ls ks : List ℕ) → b ≡ a → ReadsAs a old m p ls → ReadsAs b old n q ks → IsOneReading m n p q ls ks
  reads a b old m n p q ls ks alike r s =
      let P : List ℕ → Type 0 = λ t. ReadsAs t old n q ks in
      once.one_reading a old m n p q ls ks r (subst P alike s)

  not_refused : (a b : List ℕ) (old m : List (List ℕ)) (p : Program) (ls : List ℕ) (f : ParseFault) → b ≡ a → ReadsAs a old m p ls → IsRefusedText bound.Program b old f → ⊥
  not_refused a b old m p ls f alike r s =
      let P : List ℕ → Type 0 = λ t. IsRefusedText bound.Program t old f in
      once.not_both a old m p ls f r (subst P alike s)

  one_fault_of : (p q : Program) (f g : UsageFault) (fs gs : List UsageFault) → p.params ≡ q.params → p.body ≡ q.body → usage_faults p ≡ f ∷ fs → usage_faults q ≡ g ∷ gs → f ≡ g
  one_fault_of p q f g fs gs params body x y =
      let alike : usage_faults p ≡ usage_faults q = λ i. faults (body i) 0 (names_of (params i)) in
      head_is f g fs gs (sym x ∙ alike ∙ y)

  no_fault : (p q : Program) (f : UsageFault) (fs : List UsageFault) → p.params ≡ q.params → p.body ≡ q.body → usage_faults p ≡ [] → usage_faults q ≡ f ∷ fs → ⊥
  no_fault p q f fs params body none found =
      let alike : usage_faults p ≡ usage_faults q = λ i. faults (body i) 0 (names_of (params i)) in
      let bad : [] ≡ f ∷ fs = sym none ∙ alike ∙ found in
      cc

  pub agree : (file : Option (List ℕ)) (old : List (List ℕ)) (x y : Outcome) → Comes file old x → Comes file old y → Agree x y
  agree file old (as_taken m p) (as_taken n q) a b =
      let e = reads a.bytes b.bytes old m n p q a.text.numbers b.text.numbers (same_bytes file b.bytes a.bytes b.there a.there) a.text.read b.text.read in
      record { names = e.names; name = e.name; params = e.params; body = e.body }
  agree file old (as_taken m p) (as_refused g) a b =
      not_refused a.bytes b.bytes old m p a.text.numbers g (same_bytes file b.bytes a.bytes b.there a.there) a.text.read b.text
  agree file old (as_taken m p) (as_unusable n l g) a b =
      let e = reads a.bytes b.bytes old m n p b.text.program a.text.numbers b.text.numbers (same_bytes file b.bytes a.bytes b.there a.there) a.text.read b.text.read in
      no_fault p b.text.program g b.text.later e.params e.body a.text.usage b.text.found
  agree file old (as_refused f) (as_taken n q) a b =
      not_refused b.bytes a.bytes old n q b.text.numbers f (same_bytes file a.bytes b.bytes a.there b.there) b.text.read a.text
  agree file old (as_refused f) (as_refused g) a b =
      let P : List ℕ → Type 0 = λ t. IsRefusedText bound.Program t old g in
      once.one_fault a.bytes old f g a.text (subst P (same_bytes file b.bytes a.bytes b.there a.there) b.text)
  agree file old (as_refused f) (as_unusable n l g) a b =
      not_refused b.bytes a.bytes old n b.text.program b.text.numbers f (same_bytes file a.bytes b.bytes a.there b.there) b.text.read a.text
  agree file old (as_unusable m k f) (as_taken n q) a b =
      let e = reads b.bytes a.bytes old n m q a.text.program b.text.numbers a.text.numbers (same_bytes file a.bytes b.bytes a.there b.there) b.text.read a.text.read in
      no_fault q a.text.program f a.text.later e.params e.body b.text.usage a.text.found
  agree file old (as_unusable m k f) (as_refused g) a b =
      not_refused a.bytes b.bytes old m a.text.program a.text.numbers g (same_bytes file b.bytes a.bytes b.there a.there) a.text.read b.text
  agree file old (as_unusable m k f) (as_unusable n l g) a b =
      let e = reads a.bytes b.bytes old m n a.text.program b.text.program a.text.numbers b.text.numbers (same_bytes file b.bytes a.bytes b.there a.there) a.text.read b.text.read in
      let alike : f ≡ g = one_fault_of a.text.program b.text.program f g a.text.later b.text.later e.params e.body a.text.found b.text.found in
      let at : slice_index_or a.text.numbers (node_of f) 1 ≡ slice_index_or b.text.numbers (node_of g) 1 = λ i. slice_index_or (e.numbers i) (node_of (alike i)) 1 in
      record { names = e.names; lines = a.text.line_is ∙ at ∙ sym b.text.line_is; faults = alike }

  -- two answers where a text is taken, and where so are those of the rest
  pub takes_alike : (place : Side) (file : Option (List ℕ)) (old : List (List ℕ)) (R S : List (List ℕ) → Program → Answer → Type 0) (a b : Answer)
      → ((m n : List (List ℕ)) (p q : Program) → IsAccepted file old m p → AreOne m n p q → R m p a → S n q b → AreAlike a b)
      → Takes place file old R a → Takes place file old S b → AreAlike a b
  takes_alike place file old R S a b rest (refused f r e) (refused g s h) = alike a b (Refused place f) (Refused place g) e (ap (Refused place) (agree file old (as_refused f) (as_refused g) r s)) h
  takes_alike place file old R S a b rest (refused f r e) (unusable n l g s h) = absurd (agree file old (as_refused f) (as_unusable n l g) r s)
  takes_alike place file old R S a b rest (refused f r e) (accepted n q s y) = absurd (agree file old (as_refused f) (as_taken n q) r s)
  takes_alike place file old R S a b rest (unusable m k f r e) (refused g s h) = absurd (agree file old (as_unusable m k f) (as_refused g) r s)
  takes_alike place file old R S a b rest (unusable m k f r e) (unusable n l g s h) =
      let d = agree file old (as_unusable m k f) (as_unusable n l g) r s in
      alike a b (Unusable m place k f) (Unusable n place l g) e (λ i. Unusable (d.names i) place (d.lines i) (d.faults i)) h
  takes_alike place file old R S a b rest (unusable m k f r e) (accepted n q s y) = absurd (agree file old (as_unusable m k f) (as_taken n q) r s)
  takes_alike place file old R S a b rest (accepted m p r x) (refused g s h) = absurd (agree file old (as_taken m p) (as_refused g) r s)
  takes_alike place file old R S a b rest (accepted m p r x) (unusable n l g s h) = absurd (agree file old (as_taken m p) (as_unusable n l g) r s)
  takes_alike place file old R S a b rest (accepted m p r x) (accepted n q s y) = rest m n p q r (agree file old (as_taken m p) (as_taken n q) r s) x y
