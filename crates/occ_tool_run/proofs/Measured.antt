-- A generated program is accepted, and so it is measured.
use Rattle.std.proofs.Common.{◌≡◌, ℕ, ◌∷◌, List, [], Some, Result, Ok, Err, IfOk, refl, sym, subst, ◌∙◌}
use Rattle.occ_syntax.specs.occ_base.declared.memory.Memory.{Memory}
use Rattle.occ_syntax.specs.occ_base.declared.names.Name.{Name}
use Rattle.occ_tool_words.specs.occ_gen.Programs.{program_text}
use Rattle.occ_tool_words.specs.occ_gen.declared.shape.Shape.{Shape}
use Rattle.occ_tool_words.specs.occ_gen.Accepted.{IsTextOfAccepted}
use Rattle.occ_tool_words.specs.occ_parse.Reading.{IsRead, IsRefused as IsRefusedText}
use Rattle.occ_tool_words.specs.occ_parse.declared.bound.Bound.TheVariants as bound
use Rattle.occ_tool_words.specs.occ_parse.declared.fault.ParseFault.{ParseFault}
use Rattle.occ_syntax.specs.Tree.{Tree}
use Rattle.occ_syntax.specs.Usage.{KeepsUsage}
use Rattle.occ_syntax.specs.declared.scope.Kind.{Kind}
use Rattle.occ_syntax.specs.declared.scope.Program.{Program as Stored}
use Rattle.occ_tool_run.specs.Accepts.{IsAcceptedText, Program, usage_faults}
use Rattle.occ_tool_run.specs.Stored.{seen}
use Rattle.occ_tool_run.specs.Answers.{IsStressed, Stresses}
use Rattle.occ_call.specs.Files.{IsLoaded, most_bytes}
use Rattle.occ_tool_run.specs.Judged.{IsAcceptedFrom, IsRefusedFrom}
use Rattle.occ_tool_run.specs.declared.accept.Refusal.{Refusal}
use Rattle.occ_tool_run.specs.declared.accept.Refusal.TheVariants as refusal
use Rattle.occ_tool_run.specs.declared.answer.Answer.{Answer}
use Rattle.occ_call.specs.declared.loading.Loaded.{Loaded}
use Rattle.occ_tool_run.proofs.Judging.{accepted_file, refused_file, unusable_file}
use Rattle.occ_run_schedule.proofs.from_usage.Law.{keeps_no_fault}
use Rattle.occ_run_schedule.specs.occ_usage.Faults.{names_of}
use Rattle.occ_run_schedule.specs.occ_usage.declared.fault.UsageFault.{UsageFault}

-- the same bytes
some_is : (a b : List ℕ) → Some a ≡ Some b → a ≡ b
some_is a b e = cc

pub stressed_from : (shape : Shape) (stages : ℕ) (r : Result Answer Memory) (l : Loaded) {text : List ℕ} (names : List (List ℕ)) (p : Stored) → text ≡ program_text shape stages
    → IsLoaded most_bytes (Some text) l → IsAcceptedFrom l [] names p → IfOk r (IsStressed shape stages names (seen p)) → IfOk r (Stresses shape stages)
stressed_from shape stages (Err m) l names p same loaded read stressed = tt
stressed_from shape stages (Ok answer) l {text = text} names p same loaded read stressed =
    let a = accepted_file l (Some text) [] names p read loaded in
    let e : a.bytes ≡ program_text shape stages = sym (some_is text a.bytes a.there) ∙ same in
    record { names = names; program = seen p; text = subst (λ (t : List ℕ). IsAcceptedText t [] names (seen p)) e a.text; stressed = stressed }

-- a refusal for another reason than memory can't be
no_faults : (f : UsageFault) (fs : List UsageFault) → f ∷ fs ≡ [] → ⊥
no_faults f fs e = cc

pub refusal_absurd : (shape : Shape) (stages : ℕ) (l : Loaded) {text : List ℕ} (names : List (List ℕ)) (r : Refusal) → text ≡ program_text shape stages
    → IsLoaded most_bytes (Some text) l → IsRefusedFrom l [] names r → (r ≡ refusal.Memory → ⊥)
    → ((fault : ParseFault) → IsRefusedText bound.Program (program_text shape stages) [] fault → ⊥)
    → ((new : List (List ℕ)) (program : Program) (lines : List ℕ)
    → IsRead bound.Program (program_text shape stages) [] new program.name program.params program.body lines → usage_faults program ≡ []) → ⊥
refusal_absurd shape stages l {text = text} names (refusal.Text fault) same loaded why other read used =
    let a = refused_file l (Some text) [] names fault why loaded in
    read fault (subst (λ (t : List ℕ). IsRefusedText bound.Program t [] fault) (sym (some_is text a.bytes a.there) ∙ same) a.text)
refusal_absurd shape stages l {text = text} names (refusal.Usage line fault) same loaded why other read used =
    let a = unusable_file l (Some text) [] names line fault why loaded in
    let p = a.text.program in
    let there = subst (λ (t : List ℕ). IsRead bound.Program t [] names p.name p.params p.body a.text.numbers) (sym (some_is text a.bytes a.there) ∙ same) a.text.read in
    no_faults fault a.text.later (sym a.text.found ∙ used names p a.text.numbers there)
refusal_absurd shape stages l names refusal.Memory same loaded why other read used = other refl

-- what is asked of reading for that: a text is read as one program
abbrev pub OneReading : List ℕ → Type 0
OneReading text = (names new : List (List ℕ)) (n m : Name) (ps qs : List (Name × Kind)) (p q : Tree) (ks ls : List ℕ) → IsRead bound.Program text [] names n ps p ks
    → IsRead bound.Program text [] new m qs q ls → (p ≡ q)

pub unshared : (text : List ℕ) → OneReading text → IsTextOfAccepted text → (new : List (List ℕ)) (program : Program) (lines : List ℕ)
    → IsRead bound.Program text [] new program.name program.params program.body lines → usage_faults program ≡ []
unshared text one a new program lines r =
    let same = one a.names new a.name program.name a.params program.params a.body program.body a.lines lines a.read r in
    keeps_no_fault program.body 0 (names_of program.params) (subst KeepsUsage same a.usage)

pub text_other : (fault : ParseFault) → refusal.Text fault ≡ refusal.Memory → ⊥
text_other fault e = cc

pub usage_other : (line : ℕ) (fault : UsageFault) → refusal.Usage line fault ≡ refusal.Memory → ⊥
usage_other line fault e = cc
