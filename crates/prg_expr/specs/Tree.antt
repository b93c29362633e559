-- A tree, without where it lies in memory.
use Rattle.std.specs.Prelude.{ℕ, zero, suc, List, [], ◌∷◌, Bool, map}
use Rattle.fixed_num.specs.Number.{Number as Decimal}
use Rattle.prg_expr.specs.declared.tree.BinaryOperator.{BinaryOperator}
use Rattle.prg_expr.specs.declared.tree.Prefix.{Prefix}
use Rattle.prg_expr.specs.declared.function.Function.{Function}
use Rattle.prg_expr.specs.declared.tree.Expr.{Expr}
use Rattle.prg_expr.specs.declared.tree.Expr.TheOpen.{Expr-F}
use Rattle.prg_expr.specs.declared.tree.Expr.TheFolds.{fold-Expr}

mutual
  pub data Tree : Type 0 where
    Number : Decimal → Tree
    Text : List ℕ → Tree
    Logical : Bool → Tree
    Name : List ℕ → Tree
    -- the alias, then the name
    Qualified : List ℕ → List ℕ → Tree
    Call : Function → Trees → Tree
    -- an expression in parentheses
    Parentheses : Tree → Tree
    Prefixed : Prefix → Tree → Tree
    Binary : BinaryOperator → Tree → Tree → Tree

  pub data Trees : Type 0 where
    None : Trees
    More : Tree → Trees → Trees

abbrev pub trees : List Tree → Trees
trees [] = None
trees (t ∷ ts) = More t (trees ts)

abbrev pub count : Trees → ℕ
count None = zero
count (More t ts) = suc (count ts)

-- one node, with the tree of each child in its place
abbrev pub node_tree : Expr-F Tree → Tree
node_tree (Expr-F.Number n) = Number n
node_tree (Expr-F.Text s) = Text s
node_tree (Expr-F.Logical b) = Logical b
node_tree (Expr-F.Name s) = Name s.items
node_tree (Expr-F.Qualified q) = Qualified q.value.alias.items q.value.name.items
node_tree (Expr-F.Call f es) = Call f (trees es.items)
node_tree (Expr-F.Parentheses e) = Parentheses e.value
node_tree (Expr-F.Prefixed p e) = Prefixed p e.value
node_tree (Expr-F.Binary o a b) = Binary o a.value b.value

abbrev pub tree_of : Expr → Tree
tree_of = fold-Expr Tree node_tree

abbrev pub trees_of : List Expr → Trees
trees_of es = trees (map tree_of es)
