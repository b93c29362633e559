-- Which commands name parameters, one equation for each form.
use Rattle.std.proofs.Common.{◌≡◌, ℕ, Option, Some, None, Vec, Global, ap, sym, ◌∙◌}
use Rattle.prg_expr.specs.declared.tree.Expr.{Expr}
use Rattle.prg_line.specs.Act.{act_of}
use Rattle.prg_line.specs.declared.statement.Statement.{Statement as Line}
use Rattle.prg_parser.specs.Commands.{Cmd, Cases, Part, form_node, branch_node, case_node, command_node, form_command}
use Rattle.prg_parser.specs.Commands.{command_of}
use Rattle.prg_parser.specs.declared.command.Branch.{Branch}
use Rattle.prg_parser.specs.declared.command.Case.{Case}
use Rattle.prg_parser.specs.declared.command.Command.{Command}
use Rattle.prg_parser.specs.declared.command.Form.{Form-F, fold-roll-Form}
use Rattle.prg_parser.specs.declared.command.Form.TheFolds.{fold_out-Command}
use Rattle.prg_parser.specs.declared.command.Form.TheVariants as form
use Rattle.prg_parser.specs.declared.command.Form.TheVariants.{rolls-Statement, rolls-If, rolls-DoCase, rolls-DoWhile}
use Rattle.prg_parser.specs.declared.command.Form.TheVariants.{rolls-Scan}
use Rattle.prg_commands.specs.Programs.{parameters_said, parameters_named}

pub of_statement : (s : Line) (n : ℕ)
    → parameters_named (form_command (form.Statement s) n) ≡ parameters_said (act_of s)
of_statement s n =
    ap (λ f. parameters_named (form_command f n)) (sym (rolls-Statement s))
    ∙ ap (λ f. parameters_named (f n))
    (fold-roll-Form (ℕ → Cmd) Part (Cases → Cases) Cmd form_node branch_node case_node command_node
    (Form-F.Statement s))

pub of_if : (e : Expr) (then : Vec Command Global) (b : Option Branch) (end n : ℕ)
    → parameters_named (form_command (form.If e then b end) n) ≡ None
of_if e then None end n =
    ap (λ f. parameters_named (form_command f n)) (sym (rolls-If e then None end))
    ∙ ap (λ f. parameters_named (f n))
    (fold-roll-Form (ℕ → Cmd) Part (Cases → Cases) Cmd form_node branch_node case_node command_node
    (Form-F.If e then None end))
of_if e then (Some b) end n =
    ap (λ f. parameters_named (form_command f n)) (sym (rolls-If e then (Some b) end))
    ∙ ap (λ f. parameters_named (f n))
    (fold-roll-Form (ℕ → Cmd) Part (Cases → Cases) Cmd form_node branch_node case_node command_node
    (Form-F.If e then (Some b) end))

pub of_do_case : (cases : Vec Case Global) (b : Option Branch) (end n : ℕ)
    → parameters_named (form_command (form.DoCase cases b end) n) ≡ None
of_do_case cases None end n =
    ap (λ f. parameters_named (form_command f n)) (sym (rolls-DoCase cases None end))
    ∙ ap (λ f. parameters_named (f n))
    (fold-roll-Form (ℕ → Cmd) Part (Cases → Cases) Cmd form_node branch_node case_node command_node
    (Form-F.DoCase cases None end))
of_do_case cases (Some b) end n =
    ap (λ f. parameters_named (form_command f n)) (sym (rolls-DoCase cases (Some b) end))
    ∙ ap (λ f. parameters_named (f n))
    (fold-roll-Form (ℕ → Cmd) Part (Cases → Cases) Cmd form_node branch_node case_node command_node
    (Form-F.DoCase cases (Some b) end))

pub of_do_while : (e : Expr) (body : Vec Command Global) (end n : ℕ)
    → parameters_named (form_command (form.DoWhile e body end) n) ≡ None
of_do_while e body end n =
    ap (λ f. parameters_named (form_command f n)) (sym (rolls-DoWhile e body end))
    ∙ ap (λ f. parameters_named (f n))
    (fold-roll-Form (ℕ → Cmd) Part (Cases → Cases) Cmd form_node branch_node case_node command_node
    (Form-F.DoWhile e body end))

pub of_scan : (e : Option Expr) (body : Vec Command Global) (end n : ℕ)
    → parameters_named (form_command (form.Scan e body end) n) ≡ None
of_scan e body end n =
    ap (λ f. parameters_named (form_command f n)) (sym (rolls-Scan e body end))
    ∙ ap (λ f. parameters_named (f n))
    (fold-roll-Form (ℕ → Cmd) Part (Cases → Cases) Cmd form_node branch_node case_node command_node
    (Form-F.Scan e body end))

pub of_command : (c : Command) → parameters_named (command_of c) ≡ parameters_named (form_command c.form c.line)
of_command c =
    ap parameters_named (fold_out-Command (ℕ → Cmd) Part (Cases → Cases) Cmd form_node branch_node case_node
    command_node c)

pub ruleset forms = (of_statement, of_if, of_do_case, of_do_while, of_scan, of_command)
