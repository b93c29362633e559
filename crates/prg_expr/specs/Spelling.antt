-- How bytes spell a tree.
use Rattle.std.specs.Prelude.{◌≡◌, ◌≤◌, ℕ, List, ◌++◌, length, map, Option, Some, None, Result, Ok, Err, nat_lt}
use Rattle.std.specs.Prelude.{if◌then◌else◌}
use Rattle.prg_expr.specs.declared.fault.ParseFaultKind.{ParseFaultKind}
use Rattle.prg_expr.specs.declared.fault.ParseFaultKind.TheVariants as fault
use Rattle.prg_expr.specs.declared.fault.ParseFault.{ParseFault}
use Rattle.prg_expr.specs.declared.fault.ParseRefusal.{ParseRefusal}
use Rattle.prg_expr.specs.declared.fault.ParseRefusal.TheVariants as refusal
use Rattle.prg_expr.specs.declared.tree.Expr.{Expr}
use Rattle.prg_expr.specs.Faults.{least, least_of, length_fault, Tells}
use Rattle.prg_expr.specs.Tree.{Tree, tree_of}
use Rattle.prg_expr.specs.Word.{Word}
use Rattle.prg_expr.specs.Grammar as grammar
use Rattle.prg_expr.specs.Lexicon.{IsText, spot_word, spot_fault}
use Rattle.prg_expr.specs.Reading.{parse}
use Rattle.prg_expr.specs.Scanning.{scan}

-- the text is a spelling of the tree, all of the text, which is no longer than a line
abbrev pub Spells : Tree → List ℕ → Type 0
Spells e text = (ws : List Word) × (length text ≤ 1024) × IsText ws text × grammar.Spells e ws

-- The words in front, up to the rest, spell the tree.
abbrev pub InFront : Tree → List Word → List Word → Type 0
InFront e ws rest = (front : List Word) × grammar.Spells e front × (ws ≡ front ++ rest)

-- No words in front that reach further than up to the rest spell a tree.
abbrev pub NoneLonger : List Word → List Word → Type 0
NoneLonger ws rest =
    (e : Tree) (front others : List Word) → grammar.Spells e front → ws ≡ front ++ others → length rest ≤ length others

-- a fault in place of what was read
abbrev pub refuse : Option ParseFaultKind → Result Tree ParseFaultKind → Result Tree ParseFaultKind
refuse None read = read
refuse (Some f) read = Err f

-- what was read, or the least of its fault and another
abbrev pub told_of : Option ParseFaultKind → Result Tree ParseFaultKind → Result Tree ParseFaultKind
told_of fault (Ok e) = refuse fault (Ok e)
told_of fault (Err g) = refuse (least fault (Some g)) (Err g)

-- What reading the words of a text finds. More than 4,096 words, which are too long anyway, aren't read.
abbrev pub tree_of_words : List Word → Result Tree ParseFaultKind
tree_of_words ws = if nat_lt 4096 (length ws) then Err fault.TooLong else parse ws

-- the least fault of a text's words and of its length
abbrev pub text_fault : List ℕ → Option ParseFaultKind
text_fault text = least (least_of None (map spot_fault (scan text))) (length_fault (length text))

-- what reading finds, from left to right
unfoldable pub read : List ℕ → Result Tree ParseFaultKind
read text = told_of (text_fault text) (tree_of_words (map spot_word (scan text)))

-- the fault of a text, which is one line
abbrev pub in_first_line : Result Tree ParseFaultKind → Option ParseFault
in_first_line (Ok e) = None
in_first_line (Err k) = Some (record { line = 1; kind = k })

-- the least of the faults of a text's words, of its form and of its length, if it has any
abbrev pub fault_told : List ℕ → Option ParseFault
fault_told text = in_first_line (read text)

-- the tree was answered, unless memory ran out
abbrev pub Answered : Tree → Result Expr ParseRefusal → Type 0
Answered e (Ok x) = tree_of x ≡ e
Answered e (Err refusal.Memory) = Unit {0}
Answered e (Err (refusal.Fault f)) = ⊥

-- what was answered is what reading finds, unless memory ran out
abbrev pub Answers : Result Expr ParseRefusal → Result Tree ParseFaultKind → Type 0
Answers (Ok e) read = read ≡ Ok (tree_of e)
Answers (Err refusal) read = Tells (in_first_line read) refusal
