-- The lines of a tree, one equation for each kind of command.
use Rattle.std.proofs.Common.{◌≡◌, ℕ, List, [], ◌∷◌, ◌++◌, Option, Some, None, Vec, Global, refl, sym, ap, ◌∙◌}
use Rattle.std.proofs.Common.{append_assoc}
use Rattle.std.specs.Prelude.{option_map}
use Rattle.std.proofs.lemmas.List.{append-nil}
use Rattle.prg_expr.specs.Tree.{Tree, tree_of}
use Rattle.prg_expr.specs.declared.tree.Expr.{Expr}
use Rattle.prg_line.specs.Act.{act_of}
use Rattle.prg_line.specs.Saying.{Saying, line}
use Rattle.prg_line.specs.Saying as saying
use Rattle.prg_parser.specs.Commands.{Cmd, Cmds, Cases, Neither, When, Part, form_node, branch_node, case_node}
use Rattle.prg_parser.specs.Commands.{command_node, case_of}
use Rattle.prg_parser.specs.Layout.{Lines, laid, laid_in_turn, laid_cases, laid_part, form_lines, part_lines}
use Rattle.prg_parser.specs.Layout.{case_lines, command_lines, body_lines, cases_lines, procedure_lines}
use Rattle.prg_parser.specs.Layout.{procedures_lines}
use Rattle.prg_line.specs.declared.statement.Statement.{Statement as Single}
use Rattle.prg_parser.specs.declared.command.Command.{Command}
use Rattle.prg_parser.specs.declared.command.Case.{Case}
use Rattle.prg_parser.specs.declared.command.Branch.{Branch}
use Rattle.prg_parser.specs.declared.command.Form.{Form, Form-F, fold-roll-Form}
use Rattle.prg_parser.specs.declared.command.Form.TheFolds.{fold-roll-Branch, fold-roll-Case, fold_out-Command}
use Rattle.prg_parser.specs.declared.command.Form.TheFolds.{fold_out-Case}
use Rattle.prg_parser.specs.declared.command.Form.TheViews.{roll-Branch, roll-Case}
use Rattle.prg_parser.specs.declared.command.Form.TheOpen.{Case-F, Branch-F}
use Rattle.prg_parser.specs.declared.command.Form.TheVariants.{Statement, If, DoCase, DoWhile, Scan, rolls-Statement}
use Rattle.prg_parser.specs.declared.command.Form.TheVariants.{rolls-If, rolls-DoCase, rolls-DoWhile, rolls-Scan}
use Rattle.prg_parser.specs.declared.program.Procedure.{Procedure}

pub form_statement : (s : Single) (n : ℕ) → form_lines (Statement s) n ≡ line n (saying.Whole (act_of s)) ∷ []
form_statement s n =
    ap (λ f. form_lines f n) (sym (rolls-Statement s)) ∙ ap (λ f. laid (f n))
    (fold-roll-Form (ℕ → Cmd) Part (Cases → Cases) Cmd form_node branch_node case_node command_node
    (Form-F.Statement s))

pub form_if : (e : Expr) (then : Vec Command Global) (otherwise : Option Branch) (end n : ℕ)
    → form_lines (If e then otherwise end) n
    ≡ line n (saying.If (tree_of e))
    ∷ (body_lines then.items ++ (part_lines saying.Else otherwise ++ line end saying.EndIf ∷ []))
form_if e then None end n =
    ap (λ f. form_lines f n) (sym (rolls-If e then None end))
    ∙ ap (λ f. laid (f n)) (fold-roll-Form (ℕ → Cmd) Part (Cases → Cases) Cmd form_node branch_node case_node
    command_node (Form-F.If e then None end))
form_if e then (Some b) end n =
    ap (λ f. form_lines f n) (sym (rolls-If e then (Some b) end))
    ∙ ap (λ f. laid (f n)) (fold-roll-Form (ℕ → Cmd) Part (Cases → Cases) Cmd form_node branch_node case_node
    command_node (Form-F.If e then (Some b) end))

pub form_do_case : (cases : Vec Case Global) (otherwise : Option Branch) (end n : ℕ)
    → form_lines (DoCase cases otherwise end) n
    ≡ line n saying.DoCase ∷ (cases_lines cases.items
    ++ (part_lines saying.Otherwise otherwise ++ line end saying.EndCase ∷ []))
form_do_case cases None end n =
    ap (λ f. form_lines f n) (sym (rolls-DoCase cases None end))
    ∙ ap (λ f. laid (f n)) (fold-roll-Form (ℕ → Cmd) Part (Cases → Cases) Cmd form_node branch_node case_node
    command_node (Form-F.DoCase cases None end))
form_do_case cases (Some b) end n =
    ap (λ f. form_lines f n) (sym (rolls-DoCase cases (Some b) end))
    ∙ ap (λ f. laid (f n)) (fold-roll-Form (ℕ → Cmd) Part (Cases → Cases) Cmd form_node branch_node case_node
    command_node (Form-F.DoCase cases (Some b) end))

pub form_do_while : (e : Expr) (body : Vec Command Global) (end n : ℕ)
    → form_lines (DoWhile e body end) n
    ≡ line n (saying.DoWhile (tree_of e)) ∷ (body_lines body.items ++ line end saying.EndDo ∷ [])
form_do_while e body end n =
    ap (λ f. form_lines f n) (sym (rolls-DoWhile e body end))
    ∙ ap (λ f. laid (f n)) (fold-roll-Form (ℕ → Cmd) Part (Cases → Cases) Cmd form_node branch_node case_node
    command_node (Form-F.DoWhile e body end))

pub form_scan : (e : Option Expr) (body : Vec Command Global) (end n : ℕ)
    → form_lines (Scan e body end) n
    ≡ line n (saying.Scan (option_map tree_of e)) ∷ (body_lines body.items ++ line end saying.EndScan ∷ [])
form_scan e body end n =
    ap (λ f. form_lines f n) (sym (rolls-Scan e body end))
    ∙ ap (λ f. laid (f n)) (fold-roll-Form (ℕ → Cmd) Part (Cases → Cases) Cmd form_node branch_node case_node
    command_node (Form-F.Scan e body end))

pub of_command : (c : Command) → command_lines c ≡ form_lines c.form c.line
of_command c =
    ap laid (fold_out-Command (ℕ → Cmd) Part (Cases → Cases) Cmd form_node branch_node case_node command_node c)

pub branch_roll : (x : Branch-F Form Branch Case Command) (s : Saying)
    → part_lines s (Some (roll-Branch x)) ≡ line x.line s ∷ body_lines x.body.items
branch_roll x s =
    ap (laid_part s) (fold-roll-Branch (ℕ → Cmd) Part (Cases → Cases) Cmd form_node branch_node case_node command_node
    x)

pub case_roll : (x : Case-F Form Branch Case Command)
    → case_lines (roll-Case x) ≡ line x.line (saying.Case (tree_of x.condition)) ∷ body_lines x.body.items
case_roll x =
    ap (λ (f : Cases → Cases). laid_cases (f Neither))
    (fold-roll-Case (ℕ → Cmd) Part (Cases → Cases) Cmd form_node branch_node case_node command_node x)
    ∙ append-nil (line x.line (saying.Case (tree_of x.condition)) ∷ body_lines x.body.items)

-- a case in front of further ones
front_by : {n : ℕ} {e : Tree} {body : Cmds} (put : Cases → Cases)
    → ((others : Cases) → put others ≡ When n e body others) → (others : Cases)
    → laid_cases (put others) ≡ laid_cases (put Neither) ++ laid_cases others
front_by {n} {e} {body} put h others =
    let ls : Lines = line n (saying.Case e) ∷ laid_in_turn body in
    ap laid_cases (h others) ∙ ap (λ (l : Lines). l ++ laid_cases others)
    (sym (ap laid_cases (h Neither) ∙ append-nil ls))

case_front : (c : Case) (others : Cases) → laid_cases (case_of c others) ≡ case_lines c ++ laid_cases others
case_front c others =
    front_by (case_of c) (λ o. ap (λ (f : Cases → Cases). f o)
    (fold_out-Case (ℕ → Cmd) Part (Cases → Cases) Cmd form_node branch_node case_node command_node c)) others

-- one more behind others

pub bodies_more : (cs : List Command) (c : Command) → body_lines (cs ++ c ∷ []) ≡ body_lines cs ++ command_lines c
bodies_more [] c = append-nil (command_lines c)
bodies_more (d ∷ cs) c =
    ap (λ (ls : Lines). command_lines d ++ ls) (bodies_more cs c)
    ∙ sym (append_assoc (command_lines d) (body_lines cs) (command_lines c))

pub cases_more : (cs : List Case) (c : Case) → cases_lines (cs ++ c ∷ []) ≡ cases_lines cs ++ case_lines c
cases_more [] c = refl
cases_more (d ∷ cs) c =
    case_front d _ ∙ ap (λ (ls : Lines). case_lines d ++ ls) (cases_more cs c)
    ∙ sym (append_assoc (case_lines d) (cases_lines cs) (case_lines c))
    ∙ ap (λ (ls : Lines). ls ++ case_lines c) (sym (case_front d _))

pub procedures_more : (ps : List Procedure) (p : Procedure)
    → procedures_lines (ps ++ p ∷ []) ≡ procedures_lines ps ++ procedure_lines p
procedures_more [] p = append-nil (procedure_lines p)
procedures_more (q ∷ ps) p =
    ap (λ (ls : Lines). procedure_lines q ++ ls) (procedures_more ps p)
    ∙ sym (append_assoc (procedure_lines q) (procedures_lines ps) (procedure_lines p))

pub ruleset layouts =
    (form_statement, form_if, form_do_case, form_do_while, form_scan, of_command, branch_roll, case_roll)
