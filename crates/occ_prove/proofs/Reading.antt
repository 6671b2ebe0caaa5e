-- Two programs that were read one behind the other.
use Rattle.std.proofs.Common.{◌≡◌, ◌∙◌, ℕ, Bool, true, false, List, [], Option, Some, None, Result, Ok, Err, IfOk, refl, sym, subst}
use Rattle.std.specs.Prelude.{◌≢◌, IfNone}
use Rattle.std.proofs.lemmas.Bool.{false≢true}
use Rattle.occ_syntax.specs.occ_base.declared.memory.Memory.{Memory}
use Rattle.occ_syntax.specs.occ_base.declared.names.Name.{Name}
use Rattle.occ_syntax.specs.occ_base.Names.{IsDistinct}
use Rattle.occ_tool_run.specs.occ_behaviour.declared.behaviour.Side.{Side}
use Rattle.occ_tool_run.specs.occ_behaviour.declared.behaviour.Side.TheVariants.{First, Second}
use Rattle.occ_tool_run.specs.occ_nform_table.Tables.{IsInterface, are_params}
use Rattle.occ_prove.specs.declared.pair.Pair.{Pair}
use Rattle.occ_prove.specs.Pairs.{AreApartAll, IsPairOf}
use Rattle.occ_prove.specs.Proofs.{AreHeadedAlike}
use Rattle.occ_prove.specs.Joined.{HaveOneHeader}
use Rattle.occ_syntax.specs.declared.scope.Kind.{Kind}
use Rattle.occ_syntax.specs.declared.scope.Program.{Program}
use Rattle.occ_syntax.specs.View.{tree}
use Rattle.occ_tool_run.proofs.Judging.{Law, accepted_file, names_once, refusal_taken}
use Rattle.occ_tool_run.specs.declared.accept.Refusal.{Refusal}
use Rattle.occ_tool_run.specs.declared.accept.Refusal.TheVariants as refusal
use Rattle.occ_tool_run.specs.declared.answer.Answer.{Answer}
use Rattle.occ_tool_run.specs.declared.answer.Answer.TheVariants.{Refused, Unusable, Usage}
use Rattle.occ_tool_run.specs.occ_call.declared.loading.Loaded.{Loaded}
use Rattle.occ_tool_run.specs.occ_call.declared.loading.Loaded.TheVariants.{Bytes, TooLong}
use Rattle.occ_tool_run.specs.Answers.{Takes, accepted}
use Rattle.occ_tool_run.specs.Stored.{seen}
use Rattle.occ_tool_run.specs.Judged.{HasInterface, IsAcceptedFrom, IsRefusalAnswer, IsRefusedFrom}

abbrev Table : Type 0
Table = List (List ℕ)

-- where the names of the first stand once, the parameters of the second are an interface
interface : Law → (l : Loaded) (old new : List (List ℕ)) (q : Program) → IsDistinct old → IsAcceptedFrom l old new q → HasInterface new q
interface law (Bytes text) old new q d read =
    let h = law text.items old new q.name q.params (tree q.body) read.accepted.numbers d read.accepted.read in
    record { interface = h.1; params = h.2 }
interface law TooLong old new q d read = absurd read

of_params : (names : List (List ℕ)) (p q : Program) → p.params ≡ q.params → HasInterface names q → HasInterface names p
of_params names p q e h = record {
  interface = subst (IsInterface names) (sym e) h.interface;
  params = let P : List (Name × Kind) → Type 0 = λ ps. are_params names [] ps ≡ true in subst P (sym e) h.params;
}

pub pair_of : Law → (one two : Loaded) (pair : Pair) (between : List (List ℕ)) → IsAcceptedFrom one [] between pair.left.program
    → IsAcceptedFrom two between pair.names pair.right.program → HaveOneHeader pair.left.program pair.right.program → IsPairOf one two pair
pair_of law one two pair between first second header =
    let right = interface law two between pair.names pair.right.program (names_once law one between pair.left.program first) second in
    record {
      between = between;
      first = first;
      second = second;
      ready = record { header = header; interface = of_params pair.names pair.left.program pair.right.program header.1 right };
    }

-- ---- no pair

abbrev Found : Type 0
Found = Result (Option Pair) Memory

-- what is said of a refusal
told : (names : Table) (place : Side) (f : Refusal) → f ≢ refusal.Memory → (a : Answer) × IsRefusalAnswer names place f a
told names place (refusal.Text fault) k = (Refused place fault, refl)
told names place (refusal.Usage line fault) k = (Unusable names place line fault, refl)
told names place refusal.Memory k = absurd (k refl)

none_if : (r : Found) (P : Type 0) → (f : Refusal) → IfOk r (λ found. f ≢ refusal.Memory) → (f ≢ refusal.Memory → P) → IfOk r (λ found. IfNone found P)
none_if (Err m) P f k h = tt
none_if (Ok None) P f k h = h k
none_if (Ok (Some pair)) P f k h = tt

-- the first is refused
pub first_refused : (r : Found) (one two : Loaded) (new : Table) (f : Refusal) → IfOk r (λ found. f ≢ refusal.Memory) → IsRefusedFrom one [] new f
    → IfOk r (λ found. IfNone found (AreApartAll one two))
first_refused r one two new f k why = none_if r (AreApartAll one two) f k (λ known x y j l.
    let t = told new First f known in
    (t.0, refusal_taken First one x [] new (λ between p. Takes Second y between (λ names q a. AreHeadedAlike p q → ⊥)) f t.0 t.1 why j))

-- the second is
pub second_refused : (r : Found) (one two : Loaded) (between new : Table) (p : Program) (f : Refusal) → IfOk r (λ found. f ≢ refusal.Memory) → IsAcceptedFrom one [] between p
    → IsRefusedFrom two between new f → IfOk r (λ found. IfNone found (AreApartAll one two))
second_refused r one two between new p f k first why = none_if r (AreApartAll one two) f k (λ known x y j l.
    let t = told new Second f known in
    (t.0, accepted between (seen p) (accepted_file one x [] between p first j) (refusal_taken Second two y between new (λ names q a. AreHeadedAlike (seen p) q → ⊥) f t.0 t.1 why l)))

-- or the headers differ
headers_differ : (one two : Loaded) (between names : Table) (p q : Program) → IsAcceptedFrom one [] between p → IsAcceptedFrom two between names q → (HaveOneHeader p q → ⊥)
    → AreApartAll one two
headers_differ one two between names p q first second apart x y j l =
    (Usage, accepted between (seen p) (accepted_file one x [] between p first j) (accepted names (seen q) (accepted_file two y between names q second l) apart))

pub header_there : (p q left right : Program) → left ≡ p → right ≡ q → HaveOneHeader left right → HaveOneHeader p q
header_there p q left right e f h = subst (HaveOneHeader p) f (subst (λ x. HaveOneHeader x right) e h)

pub no_header_there : (one two : Loaded) (between names : Table) (p q left right : Program) (b : Bool) → IsAcceptedFrom one [] between p → IsAcceptedFrom two between names q
    → left ≡ p → right ≡ q → b ≡ false → (HaveOneHeader left right → b ≡ true) → AreApartAll one two
no_header_there one two between names p q left right b first second e f not is =
    headers_differ one two between names p q first second (λ h. false≢true (sym not ∙ is (header_there left right p q (sym e) (sym f) h)))
