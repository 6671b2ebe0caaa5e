-- Normal texts and behaviours that were read.
use Rattle.std.proofs.Common.{◌≡◌, ◌≤◌, ◌↔◌, ◌⊎◌, ◌≢◌, ◌∙◌, inl, inr, ℕ, Bool, IsTrue, List, [], length, Option, Some, Result, Ok, Err, IfOk, Vec, Global, refl, sym, ap, subst}
use Rattle.occ_syntax.specs.occ_base.Names.{IsDistinct}
use Rattle.occ_syntax.specs.occ_base.declared.memory.Memory.{Memory}
use Rattle.occ_syntax.specs.occ_base.declared.names.Name.{Name}
use Rattle.occ_syntax.specs.declared.scope.Kind.{Kind}
use Rattle.occ_syntax.specs.declared.scope.Program.{Program}
use Rattle.occ_syntax.specs.View.{tree}
use Rattle.occ_run_schedule.specs.occ_behaviour.declared.behaviour.Behaviour.{Behaviour}
use Rattle.occ_run_schedule.specs.occ_behaviour.Members.{IsMember}
use Rattle.occ_run_schedule.specs.occ_nform_table.Normal.{Parts, text_read}
use Rattle.occ_run_schedule.specs.occ_nform_table.declared.table.TableFault.{TableFault}
use Rattle.occ_run_schedule.specs.occ_nform_table.declared.table.TableFault.TheVariants as table
use Rattle.occ_run_schedule.specs.occ_behaviour_read.Claims.{claim_read, IsFaultOf}
use Rattle.occ_run_schedule.specs.occ_behaviour_read.declared.claim.ClaimFault.{ClaimFault}
use Rattle.occ_run_schedule.specs.occ_behaviour_read.declared.claim.ClaimFault.TheVariants as claim
use Rattle.occ_tool_run.proofs.AsWritten.{BehaviourFaultsLaw, BehavioursLaw, TableFaultsLaw, TablesLaw, few_bytes}
use Rattle.occ_tool_run.specs.declared.answer.Answer.{Answer}
use Rattle.occ_tool_run.specs.declared.answer.Answer.TheVariants.{RefusedTable, Counted, Member}
use Rattle.occ_call.specs.declared.loading.Loaded.{Loaded}
use Rattle.occ_call.specs.declared.loading.Loaded.TheVariants.{Bytes}
use Rattle.occ_call.specs.Files.{IsLoaded, most_bytes, most_table_bytes}
use Rattle.occ_tool_run.specs.Judged.{HasInterface, IsClaimRefusal}
use Rattle.occ_tool_run.specs.Stored.{seen}
use Rattle.occ_tool_run.specs.Answers.{IsChecked, faulty_table, normal_table, Checks, IsJudged, faulty_claim, judged_claim}

-- ---- normal texts

abbrev pub ChecksAll : Loaded → Answer → Type 0
ChecksAll l a = (file : Option (List ℕ)) → IsLoaded most_table_bytes file l → Checks file a

pub check_bytes : (r : Result Answer Memory) (l : Loaded) (bytes : Vec ℕ Global) (text : List ℕ) → l ≡ Bytes bytes → text ≡ bytes.items → IfOk r (IsChecked text) → IfOk r (ChecksAll l)
check_bytes (Err m) l bytes text e same h = tt
check_bytes (Ok a) l bytes text e same h =
    let P : Loaded → Type 0 = λ k. ChecksAll k a in
    let Q : List ℕ → Type 0 = λ t. IsChecked t a in
    subst P (sym e) (λ file k. record { bytes = bytes.items; there = k.0; text = subst Q same h })

-- a table was read, with no names so far
pub table_read : TablesLaw → (bytes : List ℕ) (start : List (List ℕ)) (t : Parts) (n : ℕ) → start ≡ [] → length bytes ≤ most_table_bytes → text_read start bytes ≡ Ok t → n ≡ length t.rows
    → IsChecked bytes (Counted n)
table_read law bytes start t n e short read is =
    let P : List (List ℕ) → Type 0 = λ o. text_read o bytes ≡ Ok t in
    let w = (law bytes t (few_bytes bytes short)).0 (subst P e read) in
    normal_table t short w.0 w.1 (ap Counted is)

pub table_refused : TableFaultsLaw → (r : Result Answer Memory) (bytes : List ℕ) (start : List (List ℕ)) (f : TableFault) → start ≡ [] → length bytes ≤ most_table_bytes
    → IfOk r (λ a. a ≡ RefusedTable f) → IfOk r (λ a. f ≢ table.Memory) → (text_read start bytes ≡ Err f) ⊎ (f ≡ table.Memory) → IfOk r (IsChecked bytes)
table_refused law (Err m) bytes start f e short told sound why = tt
table_refused law (Ok a) bytes start f e short told sound (inl read) =
    let P : List (List ℕ) → Type 0 = λ o. text_read o bytes ≡ Err f in
    faulty_table f short ((law bytes f (few_bytes bytes short)).0 (subst P e read)) told
table_refused law (Ok a) bytes start f e short told sound (inr bad) = absurd (sound bad)

-- ---- behaviours

abbrev pub JudgedAll : List (List ℕ) → Program → Loaded → Answer → Type 0
JudgedAll names p l a = (bytes : List ℕ) → IsLoaded most_bytes (Some bytes) l → IsJudged bytes names (seen p) a

some_is : {X : Type 0} (x y : X) → Some x ≡ Some y → x ≡ y
some_is x y e = cc

pub judge_bytes : (r : Result Answer Memory) (names : List (List ℕ)) (p : Program) (l : Loaded) (bytes : Vec ℕ Global) (text : List ℕ) → l ≡ Bytes bytes → text ≡ bytes.items
    → IfOk r (IsJudged text names (seen p)) → IfOk r (JudgedAll names p l)
judge_bytes (Err m) names p l bytes text e same h = tt
judge_bytes (Ok a) names p l bytes text e same h =
    let P : Loaded → Type 0 = λ k. JudgedAll names p k a in
    let Q : List ℕ → Type 0 = λ b. IsJudged b names (seen p) a in
    subst P (sym e) (λ b k. subst Q (same ∙ sym (some_is b bytes.items k.0)) h)

pub claim_judged : BehavioursLaw → (bytes : List ℕ) (names : List (List ℕ)) (params : List (Name × Kind)) (p : Program) (b : Behaviour) (is : Bool) → params ≡ p.params → length bytes ≤ most_bytes
    → IsDistinct names → HasInterface names p → claim_read names params bytes ≡ Ok b → IsTrue is ↔ IsMember p.params (tree p.body) b → IsJudged bytes names (seen p) (Member is)
claim_judged law bytes names params p b is e short d i read h =
    let P : List (Name × Kind) → Type 0 = λ ps. claim_read names ps bytes ≡ Ok b in
    judged_claim b is short ((law names p.params bytes b d i.interface i.params).0 (subst P e read)) h refl

pub claim_refused : BehaviourFaultsLaw → (r : Result Answer Memory) (bytes : List ℕ) (names : List (List ℕ)) (params : List (Name × Kind)) (p : Program) (f : ClaimFault) → params ≡ p.params
    → length bytes ≤ most_bytes → IsDistinct names → HasInterface names p → IfOk r (IsClaimRefusal f) → IsFaultOf (claim_read names params bytes) f → IfOk r (IsJudged bytes names (seen p))
claim_refused law (Err m) bytes names params p f e short d i told read = tt
claim_refused law (Ok a) bytes names params p (claim.Form line) e short d i told read =
    let P : List (Name × Kind) → Type 0 = λ ps. claim_read names ps bytes ≡ Err line in
    faulty_claim line short ((law names p.params bytes line d i.interface i.params).0 (subst P e read)) told
claim_refused law (Ok a) bytes names params p claim.Memory e short d i told read = absurd told
