-- Reading the words of a line from left to right: what it says, or what is wrong with it.
use Rattle.std.specs.Prelude.{ℕ, zero, suc, List, [], ◌∷◌, ◌++◌, length, take, codes, Bool, true, false, ◌&&◌, ◌||◌}
use Rattle.std.specs.Prelude.{nat_lt, nat_le, Option, Some, None, Result, Ok, Err, if◌then◌else◌, unsigned_abs, ◌==◌}
use Rattle.fixed_num.specs.Number.{Number as Decimal, asterisk, finite}
use Rattle.prg_expr.specs.declared.tree.BinaryOperator.TheVariants.{Equal}
use Rattle.prg_expr.specs.Functions.{is_cut}
use Rattle.prg_expr.specs.Reading.{front, ◌>>=◌}
use Rattle.prg_expr.specs.Tree.{Tree}
use Rattle.prg_expr.specs.Word.{Word}
use Rattle.prg_expr.specs.Word as word
use Rattle.prg_expr.specs.declared.fault.ParseFaultKind.{ParseFaultKind}
use Rattle.prg_expr.specs.declared.fault.ParseFaultKind.TheVariants as kind
use Rattle.prg_line.specs.declared.statement.Toggle.{Toggle}
use Rattle.prg_line.specs.declared.statement.Toggle.TheVariants.{Exact, Deleted, Century}
use Rattle.prg_line.specs.declared.verb.Verb.{Verb}
use Rattle.prg_line.specs.declared.verb.Verb.TheVariants as verb
use Rattle.prg_line.specs.Act.{Act, Letters, Change}
use Rattle.prg_line.specs.Act as act
use Rattle.prg_line.specs.Saying.{Saying}
use Rattle.prg_line.specs.Saying as saying

-- where reading stands: the words that are left, and whether an expression ended just before them
pub record At : Type 0 where
  pub words : List Word
  pub behind : Bool

abbrev pub at : List Word → Bool → At
at ws b = record { words = ws; behind = b }

-- what was read, and where reading goes on
abbrev pub FormRead : Type 0 → Type 0
FormRead A = Result (A × At) ParseFaultKind

abbrev pub FormReader : Type 0 → Type 0
FormReader A = At → FormRead A

abbrev pub is_nil : List Word → Bool
is_nil [] = true
is_nil (w ∷ ws) = false

abbrev pub is_at_end : At → Bool
is_at_end a = is_nil a.words

-- the fault of what stands where only a clause or the line's end may: what can't be a clause is taken for more of the
-- expression before it
unfoldable pub unexpected_in : Bool → List Word → ParseFaultKind
unexpected_in behind [] = kind.Word
unexpected_in behind (word.Name s ∷ ws) = kind.Word
unexpected_in behind (word.Outside word.Macro ∷ ws) = kind.Macro
unexpected_in behind ws = if behind then kind.Expression else kind.Word

abbrev pub unexpected : At → ParseFaultKind
unexpected a = unexpected_in a.behind a.words

-- the fault where a name or a number must stand
unfoldable pub no_constant : List Word → ParseFaultKind
no_constant (word.Outside word.Macro ∷ ws) = kind.Macro
no_constant ws = kind.Word

-- the longest expression at the front
unfoldable pub expression : FormReader Tree
expression a = front a.words >>= λ x. Ok (x.0, at x.1 true)

unfoldable pub name_in : List Word → FormRead Letters
name_in (word.Name s ∷ ws) = Ok (take 10 s, at ws false)
name_in ws = Err (no_constant ws)

abbrev pub name : FormReader Letters
name a = name_in a.words

-- a number that is whole and below 2^16 (the number of a word has no sign)
abbrev pub whole_of : Decimal → Result ℕ ParseFaultKind
whole_of asterisk = Err kind.Word
whole_of (finite m d) = if d == 0 && nat_lt (unsigned_abs m) 65536 then Ok (unsigned_abs m) else Err kind.Word

unfoldable pub whole_number_in : List Word → FormRead ℕ
whole_number_in (word.Number n ∷ ws) = whole_of n >>= λ k. Ok (k, at ws false)
whole_number_in ws = Err (no_constant ws)

abbrev pub whole_number : FormReader ℕ
whole_number a = whole_number_in a.words

abbrev pub is_number : List Word → Bool
is_number (word.Number n ∷ ws) = true
is_number ws = false

abbrev pub is_at_number : At → Bool
is_at_number a = is_number a.words

abbrev pub is_it : List ℕ → Word → Bool
is_it whole_line (word.Name s) = is_cut s whole_line
is_it whole_line w = false

-- whether the first word is this one of the command, perhaps cut
abbrev pub is_word_in : List ℕ → List Word → Bool
is_word_in whole_line [] = false
is_word_in whole_line (w ∷ ws) = is_it whole_line w

abbrev pub is_at : List ℕ → At → Bool
is_at whole_line a = is_word_in whole_line a.words

-- whether a word was there, and where reading goes on
abbrev pub WordTaken : Type 0
WordTaken = Bool × At

unfoldable pub takes_in : List ℕ → At → List Word → WordTaken
takes_in whole_line a (word.Name s ∷ ws) = if is_cut s whole_line then (true, at ws false) else (false, a)
takes_in whole_line a ws = (false, a)

-- a word of the command, if it stands in front
abbrev pub takes : List ℕ → At → WordTaken
takes whole_line a = takes_in whole_line a a.words

abbrev pub on_taken : {B : Type 0} → WordTaken → (At → B) → (At → B) → B
on_taken t there absent = if t.0 then there t.1 else absent t.1

-- a word of the command, which must stand in front
unfoldable pub clause : List ℕ → At → Result At ParseFaultKind
clause whole_line a = on_taken (takes whole_line a) (λ b. Ok b) (λ b. Err (unexpected b))

unfoldable pub comma_in : At → List Word → WordTaken
comma_in a (word.Comma ∷ ws) = (true, at ws false)
comma_in a ws = (false, a)

abbrev pub comma : At → WordTaken
comma a = comma_in a a.words

-- the comma that must stand between two expressions
unfoldable pub comma_between : At → Result At ParseFaultKind
comma_between a = on_taken (comma a) (λ b. Ok b) (λ b. if is_at_end b then Err kind.Expression else Err (unexpected b))

unfoldable pub equal_in : At → List Word → Result At ParseFaultKind
equal_in a (word.Sign Equal ∷ ws) = Ok (at ws a.behind)
equal_in a ws = Err (unexpected a)

-- the equal sign of an assignment
abbrev pub equal : At → Result At ParseFaultKind
equal a = equal_in a a.words

-- further ones, each behind a comma; the number bounds how many
unfoldable pub more : {A : Type 0} → FormReader A → ℕ → List A → FormReader (List A)
more one zero found a = Err kind.Word
more one (suc n) found a =
    on_taken (comma a) (λ b. one b >>= λ x. more one n (found ++ x.0 ∷ []) x.1) (λ b. Ok (found, b))

-- one or more with commas between
unfoldable pub several_forms : {A : Type 0} → FormReader A → FormReader (List A)
several_forms one a = one a >>= λ x. more one (suc (length x.1.words)) (x.0 ∷ []) x.1

abbrev pub expressions : FormReader (List Tree)
expressions = several_forms expression

abbrev pub names : FormReader (List Letters)
names = several_forms name

-- a command of the screen

unfoldable pub show : FormReader Act
show a = if is_at_end a then Ok (act.Show [], a) else (expressions a >>= λ x. Ok (act.Show x.0, x.1))

unfoldable pub show_on : FormReader Act
show_on a = expressions a >>= λ x. Ok (act.ShowOn x.0, x.1)

unfoldable pub get : Tree → Tree → FormReader Act
get row column a = name a >>= λ x. Ok (act.Get row column x.0, x.1)

unfoldable pub say_get : Tree → Tree → Tree → FormReader Act
say_get row column value a = name a >>= λ x. Ok (act.SayGet row column value x.0, x.1)

unfoldable pub say : Tree → Tree → FormReader Act
say row column a =
    clause (codes "SAY") a >>= λ b. expression b >>= λ x.
    on_taken (takes (codes "GET") x.1) (say_get row column x.0) (λ c. Ok (act.Say row column x.0, c))

unfoldable pub at_place : FormReader Act
at_place a =
    expression a >>= λ row. comma_between row.1 >>= λ b. expression b >>= λ column.
    on_taken (takes (codes "GET") column.1) (get row.0 column.0) (say row.0 column.0)

-- a text to be shown, unless the line ends or goes on with TO
unfoldable pub prompt : FormReader (Option Tree)
prompt a = if is_at (codes "TO") a || is_at_end a then Ok (None, a) else (expression a >>= λ x. Ok (Some x.0, x.1))

unfoldable pub accept : FormReader Act
accept a = prompt a >>= λ p. clause (codes "TO") p.1 >>= λ b. name b >>= λ v. Ok (act.Accept p.0 v.0, v.1)

unfoldable pub wait : FormReader Act
wait a = prompt a >>= λ p. on_taken (takes (codes "TO") p.1) (λ b. name b >>= λ v. Ok (act.Wait p.0 (Some v.0), v.1))
    (λ b. Ok (act.Wait p.0 None, b))

-- a command of variables

unfoldable pub assign : FormReader Act
assign a = name a >>= λ v. equal v.1 >>= λ b. expression b >>= λ x. Ok (act.Assign v.0 x.0, x.1)

unfoldable pub store : FormReader Act
store a = expression a >>= λ x. clause (codes "TO") x.1 >>= λ b. names b >>= λ vs. Ok (act.Store x.0 vs.0, vs.1)

unfoldable pub release : FormReader Act
release a = if is_at (codes "ALL") a then Err kind.Word else (names a >>= λ vs. Ok (act.Release vs.0, vs.1))

unfoldable pub private : FormReader Act
private a = names a >>= λ vs. Ok (act.Private vs.0, vs.1)

unfoldable pub parameters : FormReader Act
parameters a = names a >>= λ vs. Ok (act.Parameters vs.0, vs.1)

-- a command that leads elsewhere

unfoldable pub call : FormReader Act
call a = name a >>= λ p. on_taken (takes (codes "WITH") p.1) (λ b. expressions b >>= λ xs. Ok (act.Do p.0 xs.0, xs.1))
    (λ b. Ok (act.Do p.0 [], b))

unfoldable pub scan_condition : FormReader (Option Tree)
scan_condition a = on_taken (takes (codes "FOR") a) (λ b. expression b >>= λ x. Ok (Some x.0, x.1)) (λ b. Ok (None, b))

-- a command of work areas and settings

unfoldable pub use_table : FormReader Act
use_table a =
    if is_at_end a then Ok (act.Close, a)
    else (name a >>= λ t. on_taken (takes (codes "INDEX") t.1) (λ b. names b >>= λ is. Ok (act.Use t.0 is.0, is.1))
    (λ b. Ok (act.Use t.0 [], b)))

-- work areas have the numbers 1 to 10
abbrev pub area_number : ℕ → Result ℕ ParseFaultKind
area_number n = if nat_le 1 n && nat_le n 10 then Ok n else Err kind.Word

unfoldable pub select : FormReader Act
select a =
    if is_at_number a then (whole_number a >>= λ n. area_number n.0 >>= λ k. Ok (act.Select (act.Number k), n.1))
    else (name a >>= λ s. Ok (act.Select (act.Named s.0), s.1))

unfoldable pub close : FormReader Act
close a = on_taken (takes (codes "ALL") a) (λ b. Ok (act.CloseAll, b))
    (λ b. clause (codes "DATABASES") b >>= λ c. Ok (act.CloseAll, c))

unfoldable pub order : FormReader Act
order a = clause (codes "TO") a >>= λ b. whole_number b >>= λ n. Ok (act.SetOrder n.0, n.1)

unfoldable pub filter : FormReader Act
filter a = clause (codes "TO") a >>= λ b. if is_at_end b then Ok (act.SetFilter None, b)
    else (expression b >>= λ x. Ok (act.SetFilter (Some x.0), x.1))

unfoldable pub switch : Toggle → FormReader Act
switch s a = on_taken (takes (codes "ON") a) (λ b. Ok (act.Set s true, b))
    (λ b. clause (codes "OFF") b >>= λ c. Ok (act.Set s false, c))

unfoldable pub century : FormReader Act
century a = clause (codes "CENTURY") a >>= λ b. switch Century b

unfoldable pub set_switch : FormReader Act
set_switch a = on_taken (takes (codes "EXACT") a) (switch Exact)
    (λ b. on_taken (takes (codes "DELETED") b) (switch Deleted) century)

unfoldable pub set : FormReader Act
set a = on_taken (takes (codes "ORDER") a) order (λ b. on_taken (takes (codes "FILTER") b) filter set_switch)

-- a command of records

unfoldable pub go_record : FormReader Act
go_record a = expression a >>= λ x. Ok (act.Go (act.Record x.0), x.1)

unfoldable pub go : FormReader Act
go a = on_taken (takes (codes "TOP") a) (λ b. Ok (act.Go act.Top, b))
    (λ b. on_taken (takes (codes "BOTTOM") b) (λ c. Ok (act.Go act.Bottom, c)) go_record)

unfoldable pub skip : FormReader Act
skip a = if is_at_end a then Ok (act.Skip None, a) else (expression a >>= λ x. Ok (act.Skip (Some x.0), x.1))

unfoldable pub seek : FormReader Act
seek a = expression a >>= λ x. Ok (act.Seek x.0, x.1)

unfoldable pub append : FormReader Act
append a = clause (codes "BLANK") a >>= λ b. Ok (act.AppendBlank, b)

abbrev pub change : Letters → Tree → Change
change s e = record { field = s; value = e }

unfoldable pub replacement : FormReader Change
replacement a = name a >>= λ f. clause (codes "WITH") f.1 >>= λ b. expression b >>= λ x. Ok (change f.0 x.0, x.1)

unfoldable pub replace : FormReader Act
replace a = several_forms replacement a >>= λ cs. Ok (act.Replace cs.0, cs.1)

unfoldable pub index : FormReader Act
index a = clause (codes "ON") a >>= λ b. expression b >>= λ k. clause (codes "TO") k.1 >>= λ c. name c >>= λ s. Ok
    (act.IndexOn k.0 s.0, s.1)

-- a command that is one word
abbrev pub single : Verb → Option Act
single verb.Read = Some act.Read
single verb.Clear = Some act.Clear
single verb.Loop = Some act.Loop
single verb.Exit = Some act.Exit
single verb.Return = Some act.Return
single verb.Quit = Some act.Quit
single verb.Cancel = Some act.Cancel
single verb.Delete = Some act.Delete
single verb.Recall = Some act.Recall
single verb.Pack = Some act.Pack
single verb.Zap = Some act.Zap
single verb.Reindex = Some act.Reindex
single _ = None

-- a command of more words
unfoldable pub phrase : Verb → FormReader Act
phrase verb.Show = show
phrase verb.ShowOn = show_on
phrase verb.At = at_place
phrase verb.Accept = accept
phrase verb.Wait = wait
phrase verb.Assign = assign
phrase verb.Store = store
phrase verb.Release = release
phrase verb.Private = private
phrase verb.Parameters = parameters
phrase verb.Do = call
phrase verb.Use = use_table
phrase verb.Select = select
phrase verb.Close = close
phrase verb.Set = set
phrase verb.Go = go
phrase verb.Skip = skip
phrase verb.Seek = seek
phrase verb.Append = append
phrase verb.Replace = replace
phrase verb.Index = index
phrase _ = λ a. Err kind.Word

abbrev pub or_phrase : Option Act → Verb → FormReader Act
or_phrase (Some s) v a = Ok (s, a)
or_phrase None v a = phrase v a

-- a command of one line, behind its first words
unfoldable pub statement : Verb → FormReader Act
statement v a = or_phrase (single v) v a

abbrev pub whole_line : Verb → FormReader Saying
whole_line v a = statement v a >>= λ s. Ok (saying.Whole s.0, s.1)

-- a line of a block or of a procedure or a command, behind its first words
unfoldable pub block_line : Verb → FormReader Saying
block_line verb.If a = expression a >>= λ x. Ok (saying.If x.0, x.1)
block_line verb.Else a = Ok (saying.Else, a)
block_line verb.DoCase a = Ok (saying.DoCase, a)
block_line verb.Case a = expression a >>= λ x. Ok (saying.Case x.0, x.1)
block_line verb.Otherwise a = Ok (saying.Otherwise, a)
block_line verb.DoWhile a = expression a >>= λ x. Ok (saying.DoWhile x.0, x.1)
block_line verb.Scan a = scan_condition a >>= λ x. Ok (saying.Scan x.0, x.1)
block_line verb.Procedure a = name a >>= λ s. Ok (saying.Procedure s.0, s.1)
block_line v a = whole_line v a

-- nothing may be left of the line
unfoldable pub ended : Saying × At → Result Saying ParseFaultKind
ended x = if is_at_end x.1 then Ok x.0 else Err (unexpected x.1)

-- a line of which all words are read
abbrev pub read_whole : Verb → At → Result Saying ParseFaultKind
read_whole v a = block_line v a >>= ended

-- what a line says, of which the first words are read; what follows the word that ends a block isn't looked at
unfoldable pub sentence : Verb → At → Result Saying ParseFaultKind
sentence verb.Nothing a = Ok saying.Nothing
sentence verb.Ignored a = Ok saying.Nothing
sentence verb.EndIf a = Ok saying.EndIf
sentence verb.EndCase a = Ok saying.EndCase
sentence verb.EndDo a = Ok saying.EndDo
sentence verb.EndScan a = Ok saying.EndScan
sentence verb.Macro a = Err kind.Macro
sentence v a = read_whole v a
