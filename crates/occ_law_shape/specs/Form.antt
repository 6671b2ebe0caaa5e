-- The tree that a form stands for, and the lists that a process has.
use Rattle.occ_syntax.specs.Tree.{Tree, skip, stop, assign, receive, send, seq, par, select, alt, declare, connect, Trees, Cases, Branches}
use Rattle.occ_syntax.specs.View.{numbers, exp, exps, tree, trees, cases, branches}
use Rattle.occ_law_shape.specs.declared.form.Form.{Form}
use Rattle.occ_law_shape.specs.declared.form.Form.TheVariants as form
use Rattle.std.specs.Prelude.{◌≡◌, List, Option, None, Some}
use Rattle.std.specs.Borrow.{Bor}
use Rattle.occ_syntax.specs.declared.expr.Expr.{Expr}
use Rattle.occ_syntax.specs.declared.expr.Guard.{Guard}
use Rattle.occ_syntax.specs.declared.proc.Proc.{Proc}

abbrev pub form_tree : Form → Tree
form_tree form.Skip = skip
form_tree form.Stop = stop
form_tree (form.Assign vars values) = assign (numbers vars.now) (exps values.now)
form_tree (form.Input chan var) = receive chan.0 var.0
form_tree (form.Output chan value) = send chan.0 (exp value.now)
form_tree (form.Seq parts) = seq (trees parts.now)
form_tree (form.Par parts) = par (trees parts.now)
form_tree (form.If choices) = select (cases choices.now)
form_tree (form.Alt alternatives) = alt (branches alternatives.now)
form_tree (form.Var name width body) = declare name.0 width (tree body.now)
form_tree (form.Chan name width body) = connect name.0 width (tree body.now)

-- the parts of a SEQ; or it isn't one
abbrev pub AreInSeq : Tree → Option (Bor (List Proc)) → Type 0
AreInSeq l None = (ps : Trees) → l ≡ seq ps → ⊥
AreInSeq l (Some found) = l ≡ seq (trees found.now)

-- the parts of a PAR; or it isn't one
abbrev pub AreInPar : Tree → Option (Bor (List Proc)) → Type 0
AreInPar l None = (ps : Trees) → l ≡ par ps → ⊥
AreInPar l (Some found) = l ≡ par (trees found.now)

-- the choices of an IF; or it isn't one
abbrev pub AreChoices : Tree → Option (Bor (List (Expr × Proc))) → Type 0
AreChoices l None = (cs : Cases) → l ≡ select cs → ⊥
AreChoices l (Some found) = l ≡ select (cases found.now)

-- the branches of an ALT; or it isn't one
abbrev pub AreBranches : Tree → Option (Bor (List (Guard × Proc))) → Type 0
AreBranches l None = (gs : Branches) → l ≡ alt gs → ⊥
AreBranches l (Some found) = l ≡ alt (branches found.now)
