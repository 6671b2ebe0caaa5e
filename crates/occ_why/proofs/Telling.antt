-- How what is told of a behaviour is put together.
use Rattle.std.proofs.Common.{ℕ, Bool, true, false, inl, inr, List, [], ◌∷◌, ◌++◌, ◌≡◌, ◌≤◌, ◌↔◌, ◌∙◌, Ok, Option, Some, codes, ap, length, refl, subst, sym, append_assoc}
use Rattle.std.specs.Prelude.{IfSome}
use Rattle.std.proofs.lemmas.List.{same_from_push}
use Rattle.std.specs.List.{flat_map}
use Rattle.occ_tool_run.specs.occ_behaviour.Texts.{event_text, last_text, set_text, state_text, text_of_behaviour}
use Rattle.occ_tool_run.specs.occ_behaviour.declared.behaviour.Behaviour.{Behaviour}
use Rattle.occ_tool_run.specs.occ_behaviour.declared.behaviour.Last.{Last}
use Rattle.occ_tool_run.specs.occ_behaviour.declared.behaviour.Last.TheVariants.{Refuses, Ends}
use Rattle.occ_why_text.specs.occ_base.Names.{IsDistinct}
use Rattle.occ_why_text.specs.occ_base.declared.names.Name.{Name}
use Rattle.occ_why_text.specs.occ_syntax.declared.scope.Kind.{Kind}
use Rattle.occ_why_text.specs.occ_syntax.declared.scope.Program.{Program}
use Rattle.occ_tool_run.proofs.AsWritten.{BehavioursLaw}
use Rattle.occ_tool_run.proofs.Judging.{accepted_file}
use Rattle.occ_tool_run.specs.occ_call.Files.{IsLoaded, most_bytes}
use Rattle.occ_tool_run.proofs.from_run_schedule.Inside.{claim_within}
use Rattle.occ_tool_run.specs.Judged.{HasInterface, IsAcceptedFrom}
use Rattle.occ_tool_run.specs.occ_behaviour_read.Claims.{IsOf, claim_read}
use Rattle.occ_tool_run.specs.occ_call.declared.loading.Loaded.{Loaded}
use Rattle.occ_tool_run.specs.occ_run_schedule.Witnesses.{HasIt, IsWithin}
use Rattle.occ_why.specs.Told.{AreLinesOf, Choose, IsClaimOf, IsTold, TellAlone, TellFiles, set_in}

-- ---- the lines of a behaviour

last_ends : (names : List (List ℕ)) (l : Last) → (g : List ℕ) × (last_text names l ≡ g ++ codes "\n")
last_ends names (Refuses events) = (codes "REFUSES " ++ set_text names events, refl)
last_ends names (Ends state) = (codes "ENDS " ++ state_text state, refl)

-- its text ends with a line's end
pub behaviour_ends : (names : List (List ℕ)) (b : Behaviour) → (g : List ℕ) × (text_of_behaviour names b ≡ g ++ codes "\n")
behaviour_ends names b =
    let l = last_ends names b.last in
    let f = codes "STATE " ++ state_text b.state ++ codes "\n" ++ codes "TRACE" ++ flat_map (λ e. 32 ∷ event_text names e) b.trace ++ codes "\n" in
    (f ++ l.0, ap (λ t. f ++ t) l.1 ∙ sym (append_assoc f l.0 (codes "\n")))

-- and without its last byte it is the lines
pub lines_left : (names : List (List ℕ)) (b : Behaviour) (text left : List ℕ) (x : ℕ) → text ≡ text_of_behaviour names b → text ≡ left ++ x ∷ []
    → AreLinesOf names b left
lines_left names b text left x written popped =
    let g = behaviour_ends names b in
    let same = same_from_push left g.0 x 10 (sym popped ∙ written ∙ g.1) in
    g.1 ∙ ap (λ k. k ++ codes "\n") (sym same.0)

-- ---- a whole text

pub told_in_turn : (word behind lines a b c d e : List ℕ) → a ≡ word → b ≡ a ++ behind
    → c ≡ b ++ codes "\nAs a behaviour, for belongs and witness:\n\n  " → d ≡ c ++ flat_map set_in lines → e ≡ d ++ codes "\n" → IsTold word lines e
told_in_turn word behind lines a b c d e p q r s t =
    let head = codes "\nAs a behaviour, for belongs and witness:\n\n  " in
    record {
      behind = behind;
      is = t ∙ ap (λ k. k ++ codes "\n") (s ∙ ap (λ k. k ++ flat_map set_in lines) (r ∙ ap (λ k. k ++ head) (q ∙ ap (λ k. k ++ behind) p)));
    }

-- ---- a program's file and the lines of a behaviour

pub claim_of : BehavioursLaw → (loaded : Loaded) (lines : List ℕ) (names : List (List ℕ)) (params : List (Name × Kind)) (p : Program) (b : Behaviour) → params ≡ p.params
    → length lines ≤ 65536 → IsDistinct names → HasInterface names p → IsAcceptedFrom loaded [] names p → claim_read names params lines ≡ Ok b
    → (file : Option (List ℕ)) → IsLoaded most_bytes file loaded → IsClaimOf file lines p b
claim_of law loaded lines names params p b e short d i accepted read = λ file h.
    let P : List (Name × Kind) → Type 0 = λ ps. claim_read names ps lines ≡ Ok b in
    record {
      names = names;
      accepted = accepted_file loaded file [] names p accepted h;
      short = short;
      written = (law names p.params lines b d i.interface i.params).0 (subst P e read);
    }

-- its events are of the interface
pub claim_inside : (lines : List ℕ) (names : List (List ℕ)) (shown params : List (Name × Kind)) (b : Behaviour) → shown ≡ params → claim_read names shown lines ≡ Ok b
    → IsWithin params b.last
claim_inside lines names shown params b e read =
    let P : List (Name × Kind) → Type 0 = λ ps. claim_read names ps lines ≡ Ok b in claim_within names params lines b (subst P e read)

pub states_inside : (shown params : List (Name × Kind)) (b : Behaviour) → shown ≡ params → IsOf shown b → IsOf params b
states_inside shown params b e is = let P : List (Name × Kind) → Type 0 = λ ps. IsOf ps b in subst P e is

pub some_so : {X : Type 0} (P : X → Type 0) (o : Option X) (x : X) → IfSome o P → o ≡ Some x → P x
some_so {X} P o x h e = let Q : Option X → Type 0 = λ q. IfSome q P in subst Q e h

-- ---- lines that tell two files apart

abbrev Claims : Loaded → List ℕ → Program → Behaviour → Type 0
Claims loaded lines p b = (file : Option (List ℕ)) → IsLoaded most_bytes file loaded → IsClaimOf file lines p b

claims_as : (loaded : Loaded) (shown lines : List ℕ) (p : Program) (b : Behaviour) → shown ≡ lines → Claims loaded shown p b → Claims loaded lines p b
claims_as loaded shown lines p b e claims = let P : List ℕ → Type 0 = λ ls. Claims loaded ls p b in subst P e claims

never : (has : Bool) → has ≡ false → has ≡ true → ⊥
never true e h = cc
never false e h = cc

pub tells_apart : (owner other : Loaded) (shown again found : List ℕ) (p q : Program) (b c : Behaviour) (has other_has : Bool) → shown ≡ found → again ≡ found
    → Claims owner shown p b → Claims other again q c → (has ≡ true) ↔ HasIt p b → (other_has ≡ true) ↔ HasIt q c → has ≡ true → other_has ≡ false
    → TellFiles owner other found
tells_apart owner other shown again found p q b c has other_has e f own others h k holds no_more = λ one two i j. (
  record { program = p; behaviour = b; claim = claims_as owner shown found p b e own one i; has = h.0 holds },
  record { program = q; behaviour = c; claim = claims_as other again found q c f others two j; lacks = λ it. never other_has no_more (k.1 it) },
)

pub choose_given : (owner other : Loaded) (lines chosen : List ℕ) → chosen ≡ lines → Choose owner other lines chosen
choose_given owner other lines chosen e = inl e

pub choose_found : (owner other : Loaded) (lines found : List ℕ) → TellFiles owner other found → Choose owner other lines found
choose_found owner other lines found t = inr t

pub told_as : (word shown lines text : List ℕ) → shown ≡ lines → IsTold word shown text → IsTold word lines text
told_as word shown lines text e told = let P : List ℕ → Type 0 = λ ls. IsTold word ls text in subst P e told

pub alone_so : (owner other : Loaded) (lines chosen text : List ℕ) → Choose owner other lines chosen → IsTold (codes "DIFFER") chosen text
    → TellAlone owner other lines text
alone_so owner other lines chosen text c t = record { chosen = chosen; choose = c; told = t }
