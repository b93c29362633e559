-- The equations of `tree_of`, one for each variant, and of a name that is cut.
use Rattle.std.proofs.Common.{◌≡◌, ℕ, suc, List, [], ◌∷◌, length, take, map, Bool, Vec, Box, Global, refl, sym, ap, ◌∙◌}
use Rattle.std.specs.Char.{to_ascii_uppercase}
use Rattle.std.proofs.lemmas.List.{take-map}
use Rattle.arrayvec.specs.ArrayVec.{ArrayVec}
use Rattle.fixed_num.specs.Number.{Number as Decimal}
use Rattle.prg_expr.specs.Tree.{Tree, tree_of, node_tree, trees_of, count}
use Rattle.prg_expr.specs.Tree as tree
use Rattle.prg_expr.specs.declared.function.Function.{Function}
use Rattle.prg_expr.specs.declared.tree.BinaryOperator.{BinaryOperator}
use Rattle.prg_expr.specs.declared.tree.Prefix.{Prefix}
use Rattle.prg_expr.specs.declared.tree.AliasedName.{AliasedName}
use Rattle.prg_expr.specs.declared.tree.Expr.{Expr, Expr-F, fold-roll-Expr}
use Rattle.prg_expr.specs.declared.tree.Expr.TheVariants.{Number, Text, Logical, Name, Qualified, Call, Parentheses}
use Rattle.prg_expr.specs.declared.tree.Expr.TheVariants.{Prefixed, Binary, rolls-Number, rolls-Text, rolls-Logical}
use Rattle.prg_expr.specs.declared.tree.Expr.TheVariants.{rolls-Name, rolls-Qualified, rolls-Call, rolls-Parentheses}
use Rattle.prg_expr.specs.declared.tree.Expr.TheVariants.{rolls-Prefixed, rolls-Binary}

pub tree_logical : (b : Bool) → tree_of (Logical b) ≡ tree.Logical b
tree_logical b = ap tree_of (sym (rolls-Logical b)) ∙ fold-roll-Expr Tree node_tree (Expr-F.Logical b)

pub tree_number : (n : Decimal) → tree_of (Number n) ≡ tree.Number n
tree_number n = ap tree_of (sym (rolls-Number n)) ∙ fold-roll-Expr Tree node_tree (Expr-F.Number n)

pub tree_call : (f : Function) (es : Vec Expr Global) → tree_of (Call f es) ≡ tree.Call f (trees_of es.items)
tree_call f es = ap tree_of (sym (rolls-Call f es)) ∙ fold-roll-Expr Tree node_tree (Expr-F.Call f es)

pub tree_parentheses : (b : Box Expr Global) → tree_of (Parentheses b) ≡ tree.Parentheses (tree_of b.value)
tree_parentheses b = ap tree_of (sym (rolls-Parentheses b)) ∙ fold-roll-Expr Tree node_tree (Expr-F.Parentheses b)

pub tree_prefixed : (p : Prefix) (b : Box Expr Global) → tree_of (Prefixed p b) ≡ tree.Prefixed p (tree_of b.value)
tree_prefixed p b = ap tree_of (sym (rolls-Prefixed p b)) ∙ fold-roll-Expr Tree node_tree (Expr-F.Prefixed p b)

pub tree_binary : (o : BinaryOperator) (a b : Box Expr Global)
    → tree_of (Binary o a b) ≡ tree.Binary o (tree_of a.value) (tree_of b.value)
tree_binary o a b = ap tree_of (sym (rolls-Binary o a b)) ∙ fold-roll-Expr Tree node_tree (Expr-F.Binary o a b)

pub tree_text : (s : List ℕ) → tree_of (Text s) ≡ tree.Text s
tree_text s = ap tree_of (sym (rolls-Text s)) ∙ fold-roll-Expr Tree node_tree (Expr-F.Text s)

pub tree_name : (s : ArrayVec ℕ) → tree_of (Name s) ≡ tree.Name s.items
tree_name s = ap tree_of (sym (rolls-Name s)) ∙ fold-roll-Expr Tree node_tree (Expr-F.Name s)

pub tree_qualified : (b : Box AliasedName Global)
    → tree_of (Qualified b) ≡ tree.Qualified b.value.alias.items b.value.name.items
tree_qualified b = ap tree_of (sym (rolls-Qualified b)) ∙ fold-roll-Expr Tree node_tree (Expr-F.Qualified b)

pub count_trees : (es : List Expr) → count (trees_of es) ≡ length es
count_trees [] = refl
count_trees (e ∷ es) = ap suc (count_trees es)

pub ruleset tree_equations = (
  tree_logical,
  tree_number,
  tree_text,
  tree_name,
  tree_qualified,
  tree_call,
  tree_parentheses,
  tree_prefixed,
  tree_binary,
)

-- of the call of a function, and how many arguments it has
pub ruleset call_equations = (tree_call, count_trees)

pub capitals_cut : (n : ℕ) (s : List ℕ) → take n (map to_ascii_uppercase s) ≡ map to_ascii_uppercase (take n s)
capitals_cut n s = take-map to_ascii_uppercase n s
