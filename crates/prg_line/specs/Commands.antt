-- The form of each command on its words: a grammar, in which a phrase is a relation between what is said and all of its
-- words.
use Rattle.std.specs.Prelude.{◌≡◌, ◌≤◌, ◌⊎◌, ℕ, List, [], ◌∷◌, ◌++◌, take, codes, true, false, Option, Some, None, Ok}
use Rattle.fixed_num.specs.Number.{Number as Decimal}
use Rattle.prg_expr.specs.declared.tree.BinaryOperator.TheVariants.{Equal}
use Rattle.prg_expr.specs.Functions.{is_cut}
use Rattle.prg_expr.specs.Grammar.{Spells}
use Rattle.prg_expr.specs.Tree.{Tree}
use Rattle.prg_expr.specs.Word.{Word}
use Rattle.prg_expr.specs.Word as word
use Rattle.prg_line.specs.declared.statement.Toggle.{Toggle}
use Rattle.prg_line.specs.declared.statement.Toggle.TheVariants.{Exact, Deleted, Century}
use Rattle.prg_line.specs.declared.verb.Verb.{Verb}
use Rattle.prg_line.specs.declared.verb.Verb.TheVariants as verb
use Rattle.prg_line.specs.Act.{Act, Letters, Change}
use Rattle.prg_line.specs.Act as act
use Rattle.prg_line.specs.Forms.{single, change, whole_of, is_word_in}
use Rattle.prg_line.specs.Saying.{Saying}
use Rattle.prg_line.specs.Saying as saying

-- what is said, and all the words that say it
abbrev pub Phrase : Type 0 → Type 1
Phrase A = A → List Word → Type 0

-- no further word: this is what was said
abbrev pub Is : {A : Type 0} → A → Phrase A
Is x y ws = (y ≡ x) × (ws ≡ [])

-- the words of one phrase, then those of another that depends on what the first one says
abbrev pub Then : {A B : Type 0} → Phrase A → (A → Phrase B) → Phrase B
Then {A} P Q y ws = (x : A) × (front : List Word) × (rest : List Word) × P x front × Q x y rest × (ws ≡ front ++ rest)

-- a word of the command, perhaps cut, then a phrase
abbrev pub Key : {B : Type 0} → List ℕ → Phrase B → Phrase B
Key whole P y ws = (s : List ℕ) × (rest : List Word) × (is_cut s whole ≡ true) × P y rest × (ws ≡ word.Name s ∷ rest)

-- a mark, then a phrase
abbrev pub MarkThen : {B : Type 0} → Word → Phrase B → Phrase B
MarkThen mark P y ws = (rest : List Word) × P y rest × (ws ≡ mark ∷ rest)

-- one phrase or another
abbrev pub Either : {B : Type 0} → Phrase B → Phrase B → Phrase B
Either P Q y ws = P y ws ⊎ Q y ws

-- a phrase that doesn't begin with this word
abbrev pub But : {B : Type 0} → List ℕ → Phrase B → Phrase B
But whole P y ws = (is_word_in whole ws ≡ false) × P y ws

-- what follows this word, or a phrase that doesn't begin with it
abbrev pub Where : {B : Type 0} → List ℕ → Phrase B → Phrase B → Phrase B
Where whole P Q = Either (Key whole P) (But whole Q)

-- a name, of at most ten letters where the line has no fault
abbrev pub Name : Phrase Letters
Name n ws = (s : List ℕ) × (n ≡ take 10 s) × (ws ≡ word.Name s ∷ [])

-- a number that is whole and below 2^16
abbrev pub Whole : Phrase ℕ
Whole n ws = (d : Decimal) × (whole_of d ≡ Ok n) × (ws ≡ word.Number d ∷ [])

-- one or more, with commas between
pub data Several {A : Type 0} (One : A → List Word → Type 0) : List A → List Word → Type 0 where
  last : {x : A} {ws : List Word} → One x ws → Several One (x ∷ []) ws
  next : {x : A} {xs : List A} {aw bw : List Word} → One x aw → Several One xs bw
      → Several One (x ∷ xs) (aw ++ word.Comma ∷ bw)

abbrev pub Expressions : Phrase (List Tree)
Expressions = Several Spells

abbrev pub Names : Phrase (List Letters)
Names = Several Name

-- field WITH value
abbrev pub Replacement : Phrase Change
Replacement = Then Name (λ f. Key (codes "WITH") (Then Spells (λ e. Is (change f e))))

abbrev pub Show : Phrase Act
Show = Either (Is (act.Show [])) (Then Expressions (λ es. Is (act.Show es)))

abbrev pub ShowOn : Phrase Act
ShowOn = Then Expressions (λ es. Is (act.ShowOn es))

-- SAY value [GET variable], behind a place
abbrev pub Say : Tree → Tree → Phrase Act
Say row column =
    Key (codes "SAY") (Then Spells (λ e. Where (codes "GET") (Then Name (λ v. Is (act.SayGet row column e v)))
    (Is (act.Say row column e))))

-- @ row,column and what stands there
abbrev pub At : Phrase Act
At = Then Spells (λ row. MarkThen word.Comma
    (Then Spells (λ column. Where (codes "GET") (Then Name (λ v. Is (act.Get row column v))) (Say row column))))

-- a text to be shown; TO is never its first word
abbrev pub Prompt : Phrase (Option Tree)
Prompt = Either (Is None) (But (codes "TO") (Then Spells (λ e. Is (Some e))))

abbrev pub Accept : Phrase Act
Accept = Then Prompt (λ p. Key (codes "TO") (Then Name (λ v. Is (act.Accept p v))))

abbrev pub Wait : Phrase Act
Wait = Then Prompt (λ p. Where (codes "TO") (Then Name (λ v. Is (act.Wait p (Some v)))) (Is (act.Wait p None)))

abbrev pub Assign : Phrase Act
Assign = Then Name (λ v. MarkThen (word.Sign Equal) (Then Spells (λ e. Is (act.Assign v e))))

abbrev pub Store : Phrase Act
Store = Then Spells (λ e. Key (codes "TO") (Then Names (λ vs. Is (act.Store e vs))))

-- ALL is no variable here
abbrev pub Release : Phrase Act
Release = But (codes "ALL") (Then Names (λ vs. Is (act.Release vs)))

abbrev pub Private : Phrase Act
Private = Then Names (λ vs. Is (act.Private vs))

abbrev pub Parameters : Phrase Act
Parameters = Then Names (λ vs. Is (act.Parameters vs))

abbrev pub Do : Phrase Act
Do = Then Name (λ p. Where (codes "WITH") (Then Expressions (λ es. Is (act.Do p es))) (Is (act.Do p [])))

abbrev pub ScanFor : Phrase (Option Tree)
ScanFor = Where (codes "FOR") (Then Spells (λ e. Is (Some e))) (Is None)

abbrev pub Use : Phrase Act
Use = Either (Is act.Close) (Then Name
    (λ t. Where (codes "INDEX") (Then Names (λ is. Is (act.Use t is))) (Is (act.Use t []))))

-- a work area by its number, 1 to 10, or by a name
abbrev pub SelectNumber : ℕ → Phrase Act
SelectNumber n y ws = (1 ≤ n) × (n ≤ 10) × Is (act.Select (act.Number n)) y ws

abbrev pub Select : Phrase Act
Select = Either (Then Whole SelectNumber) (Then Name (λ s. Is (act.Select (act.Named s))))

abbrev pub Close : Phrase Act
Close = Where (codes "ALL") (Is act.CloseAll) (Key (codes "DATABASES") (Is act.CloseAll))

abbrev pub Order : Phrase Act
Order = Key (codes "TO") (Then Whole (λ n. Is (act.SetOrder n)))

abbrev pub Filter : Phrase Act
Filter = Key (codes "TO") (Either (Is (act.SetFilter None)) (Then Spells (λ e. Is (act.SetFilter (Some e)))))

abbrev pub Switch : Toggle → Phrase Act
Switch s = Where (codes "ON") (Is (act.Set s true)) (Key (codes "OFF") (Is (act.Set s false)))

abbrev pub Set : Phrase Act
Set =
    Where (codes "ORDER") Order (Where (codes "FILTER") Filter
    (Where (codes "EXACT") (Switch Exact)
    (Where (codes "DELETED") (Switch Deleted) (Key (codes "CENTURY") (Switch Century)))))

abbrev pub Go : Phrase Act
Go = Where (codes "TOP") (Is (act.Go act.Top))
    (Where (codes "BOTTOM") (Is (act.Go act.Bottom)) (Then Spells (λ e. Is (act.Go (act.Record e)))))

abbrev pub Skip : Phrase Act
Skip = Either (Is (act.Skip None)) (Then Spells (λ e. Is (act.Skip (Some e))))

abbrev pub Seek : Phrase Act
Seek = Then Spells (λ e. Is (act.Seek e))

abbrev pub Append : Phrase Act
Append = Key (codes "BLANK") (Is act.AppendBlank)

abbrev pub Replace : Phrase Act
Replace = Then (Several Replacement) (λ cs. Is (act.Replace cs))

abbrev pub Index : Phrase Act
Index = Key (codes "ON") (Then Spells (λ e. Key (codes "TO") (Then Name (λ s. Is (act.IndexOn e s)))))

-- a command of more words than one, behind its first words
abbrev pub Longer : Verb → Phrase Act
Longer verb.Show = Show
Longer verb.ShowOn = ShowOn
Longer verb.At = At
Longer verb.Accept = Accept
Longer verb.Wait = Wait
Longer verb.Assign = Assign
Longer verb.Store = Store
Longer verb.Release = Release
Longer verb.Private = Private
Longer verb.Parameters = Parameters
Longer verb.Do = Do
Longer verb.Use = Use
Longer verb.Select = Select
Longer verb.Close = Close
Longer verb.Set = Set
Longer verb.Go = Go
Longer verb.Skip = Skip
Longer verb.Seek = Seek
Longer verb.Append = Append
Longer verb.Replace = Replace
Longer verb.Index = Index
Longer _ = λ x ws. ⊥

abbrev pub OneWord : Option Act → Verb → Phrase Act
OneWord (Some s) v = Is s
OneWord None v = Longer v

-- a command of one line, behind its first words
abbrev pub Command : Verb → Phrase Act
Command v = OneWord (single v) v

abbrev pub CommandLine : Verb → Phrase Saying
CommandLine v = Then (Command v) (λ c. Is (saying.Whole c))

-- a line of which all words count, behind its first words
abbrev pub Line : Verb → Phrase Saying
Line verb.If = Then Spells (λ e. Is (saying.If e))
Line verb.Else = Is saying.Else
Line verb.DoCase = Is saying.DoCase
Line verb.Case = Then Spells (λ e. Is (saying.Case e))
Line verb.Otherwise = Is saying.Otherwise
Line verb.DoWhile = Then Spells (λ e. Is (saying.DoWhile e))
Line verb.Scan = Then ScanFor (λ e. Is (saying.Scan e))
Line verb.Procedure = Then Name (λ s. Is (saying.Procedure s))
Line v = CommandLine v

-- what a line says, behind its first words; of some lines these are all that counts
abbrev pub Says : Verb → Phrase Saying
Says verb.Nothing s ws = s ≡ saying.Nothing
Says verb.Ignored s ws = s ≡ saying.Nothing
Says verb.EndIf s ws = s ≡ saying.EndIf
Says verb.EndCase s ws = s ≡ saying.EndCase
Says verb.EndDo s ws = s ≡ saying.EndDo
Says verb.EndScan s ws = s ≡ saying.EndScan
Says verb.Macro s ws = ⊥
Says v s ws = Line v s ws
