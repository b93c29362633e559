-- The tree of each command, and that of a list of commands or cases behind its first one.
use Rattle.std.proofs.Common.{◌≡◌, ℕ, suc, ◌+◌, ◌<◌, List, drop, get_or, length, option_map, Vec, Global, Option, Some}
use Rattle.std.proofs.Common.{None, sym, ap, ◌∙◌, add-one}
use Rattle.std.proofs.Math.Seq.{drop-cons}
use Rattle.prg_expr.specs.Tree.{tree_of}
use Rattle.prg_expr.specs.declared.tree.Expr.{Expr}
use Rattle.prg_parser.specs.Commands.{Cmd, Cases, Part, If, DoCase, DoWhile, Scan, Then, When, Otherwise}
use Rattle.prg_parser.specs.Commands.{form_node, branch_node, case_node, command_node, form_command, command_of}
use Rattle.prg_parser.specs.Commands.{case_of, branch_of, commands_of, cases_of, part_of}
use Rattle.prg_parser.specs.declared.command.Branch.{Branch}
use Rattle.prg_parser.specs.declared.command.Case.{Case}
use Rattle.prg_parser.specs.declared.command.Command.{Command}
use Rattle.prg_parser.specs.declared.command.Form.{Form-F, fold-roll-Form}
use Rattle.prg_parser.specs.declared.command.Form.TheFolds.{fold_out-Case, fold_out-Branch}
use Rattle.prg_parser.specs.declared.command.Form.TheVariants as form
use Rattle.prg_parser.specs.declared.command.Form.TheViews.{out-Case, out-Branch}
use Rattle.prg_parser.specs.declared.command.Form.TheVariants.{rolls-If, rolls-DoCase, rolls-DoWhile, rolls-Scan}

pub form_if : (e : Expr) (then : Vec Command Global) (b : Option Branch) (end n : ℕ)
    → form_command (form.If e then b end) n ≡ If n (tree_of e) (commands_of then.items) (part_of b) end
form_if e then None end n = ap (λ f. form_command f n) (sym (rolls-If e then None end))
    ∙ ap (λ f. f n) (fold-roll-Form (ℕ → Cmd) Part (Cases → Cases) Cmd form_node branch_node case_node command_node
    (Form-F.If e then None end))
form_if e then (Some b) end n =
    ap (λ f. form_command f n) (sym (rolls-If e then (Some b) end))
    ∙ ap (λ f. f n) (fold-roll-Form (ℕ → Cmd) Part (Cases → Cases) Cmd form_node branch_node case_node command_node
    (Form-F.If e then (Some b) end))

pub form_do_case : (cases : Vec Case Global) (b : Option Branch) (end n : ℕ)
    → form_command (form.DoCase cases b end) n ≡ DoCase n (cases_of cases.items) (part_of b) end
form_do_case cases None end n =
    ap (λ f. form_command f n) (sym (rolls-DoCase cases None end))
    ∙ ap (λ f. f n) (fold-roll-Form (ℕ → Cmd) Part (Cases → Cases) Cmd form_node branch_node case_node command_node
    (Form-F.DoCase cases None end))
form_do_case cases (Some b) end n =
    ap (λ f. form_command f n) (sym (rolls-DoCase cases (Some b) end))
    ∙ ap (λ f. f n) (fold-roll-Form (ℕ → Cmd) Part (Cases → Cases) Cmd form_node branch_node case_node command_node
    (Form-F.DoCase cases (Some b) end))

pub form_do_while : (e : Expr) (body : Vec Command Global) (end n : ℕ)
    → form_command (form.DoWhile e body end) n ≡ DoWhile n (tree_of e) (commands_of body.items) end
form_do_while e body end n = ap (λ f. form_command f n) (sym (rolls-DoWhile e body end))
    ∙ ap (λ f. f n) (fold-roll-Form (ℕ → Cmd) Part (Cases → Cases) Cmd form_node branch_node case_node command_node
    (Form-F.DoWhile e body end))

pub form_scan : (e : Option Expr) (body : Vec Command Global) (end n : ℕ)
    → form_command (form.Scan e body end) n ≡ Scan n (option_map tree_of e) (commands_of body.items) end
form_scan e body end n = ap (λ f. form_command f n) (sym (rolls-Scan e body end))
    ∙ ap (λ f. f n) (fold-roll-Form (ℕ → Cmd) Part (Cases → Cases) Cmd form_node branch_node case_node command_node
    (Form-F.Scan e body end))

pub case_is : (c : Case) (others : Cases)
    → case_of c others ≡ When (out-Case c).line (tree_of (out-Case c).condition) (commands_of (out-Case c).body.items)
    others
case_is c others = ap (λ f. f others)
    (fold_out-Case (ℕ → Cmd) Part (Cases → Cases) Cmd form_node branch_node case_node command_node c)

pub branch_is : (b : Branch) → branch_of b ≡ Otherwise (out-Branch b).line (commands_of (out-Branch b).body.items)
branch_is b = fold_out-Branch (ℕ → Cmd) Part (Cases → Cases) Cmd form_node branch_node case_node command_node b

pub next_command : (xs : List Command) (i : ℕ) (x : Command) → i < length xs → x ≡ get_or xs i x
    → commands_of (drop i xs) ≡ Then (command_of x) (commands_of (drop (i + 1) xs))
next_command xs i x low is = rw add-one
    (ap commands_of (drop-cons xs i x low) ∙ ap (λ y. Then (command_of y) (commands_of (drop (suc i) xs))) (sym is))

pub next_case : (xs : List Case) (i : ℕ) (x : Case) → i < length xs → x ≡ get_or xs i x
    → cases_of (drop i xs) ≡ When (out-Case x).line (tree_of (out-Case x).condition)
    (commands_of (out-Case x).body.items) (cases_of (drop (i + 1) xs))
next_case xs i x low is =
    rw add-one (ap cases_of (drop-cons xs i x low)
    ∙ (ap (λ y. case_of y (cases_of (drop (suc i) xs))) (sym is) ∙ case_is x (cases_of (drop (suc i) xs))))
