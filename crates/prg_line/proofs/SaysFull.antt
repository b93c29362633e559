-- What the phrase of a line says is what the line is read to say.
use Rattle.std.proofs.Common.{◌≡◌, List, [], Bool, true, Option, Some, None, refl, sym, ap}
use Rattle.std.specs.Prelude.{if◌then◌else◌}
use Rattle.std.proofs.lemmas.List.{append-nil}
use Rattle.prg_expr.specs.Word.{Word}
use Rattle.prg_line.specs.declared.verb.Verb.{Verb}
use Rattle.prg_line.specs.declared.verb.Verb.TheVariants as verb
use Rattle.prg_line.specs.Act.{Act}
use Rattle.prg_line.specs.Saying.{Saying}
use Rattle.prg_line.specs.Saying as saying
use Rattle.prg_line.specs.Forms as f
use Rattle.prg_line.specs.Forms.{At, is_nil, unexpected}
use Rattle.prg_line.specs.Commands as c
use Rattle.prg_line.specs.Commands.{Phrase}
use Rattle.prg_line.proofs.Sound.{fine, failed}
use Rattle.prg_line.proofs.Full.{Full, Ended, is_full, bind_to}
use Rattle.prg_line.proofs.PartsFull.{FoundLaw, expression_full, name_full, any_begins, is_begins, end_begins}
use Rattle.prg_line.proofs.PartsFull.{free_open, both_full}
use Rattle.prg_line.proofs.FormsFull as form

-- what nothing says
never : {P : Phrase Act} {r : f.FormReader Act} → ((y : Act) (ws : List Word) → P y ws → ⊥) → Full r P Ended
never h = record { finds = λ a y front rest p w g. absurd (h y front p) }

pub phrase_full : FoundLaw → (v : Verb) → Full (f.phrase v) (c.Longer v) Ended
unfolding f.phrase
phrase_full law verb.Nothing = never (λ y ws p. p)
phrase_full law verb.Ignored = never (λ y ws p. p)
phrase_full law verb.Unknown = never (λ y ws p. p)
phrase_full law verb.Macro = never (λ y ws p. p)
phrase_full law verb.Show = form.show_full law
phrase_full law verb.ShowOn = form.show_on_full law
phrase_full law verb.At = form.at_place_full law
phrase_full law verb.Read = never (λ y ws p. p)
phrase_full law verb.Accept = form.accept_full law
phrase_full law verb.Wait = form.wait_full law
phrase_full law verb.Clear = never (λ y ws p. p)
phrase_full law verb.Assign = form.assign_full law
phrase_full law verb.Store = form.store_full law
phrase_full law verb.Release = form.release_full law
phrase_full law verb.Private = form.private_full law
phrase_full law verb.Parameters = form.parameters_full law
phrase_full law verb.If = never (λ y ws p. p)
phrase_full law verb.Else = never (λ y ws p. p)
phrase_full law verb.EndIf = never (λ y ws p. p)
phrase_full law verb.DoCase = never (λ y ws p. p)
phrase_full law verb.Case = never (λ y ws p. p)
phrase_full law verb.Otherwise = never (λ y ws p. p)
phrase_full law verb.EndCase = never (λ y ws p. p)
phrase_full law verb.DoWhile = never (λ y ws p. p)
phrase_full law verb.EndDo = never (λ y ws p. p)
phrase_full law verb.Scan = never (λ y ws p. p)
phrase_full law verb.EndScan = never (λ y ws p. p)
phrase_full law verb.Loop = never (λ y ws p. p)
phrase_full law verb.Exit = never (λ y ws p. p)
phrase_full law verb.Procedure = never (λ y ws p. p)
phrase_full law verb.Do = form.call_full law
phrase_full law verb.Return = never (λ y ws p. p)
phrase_full law verb.Quit = never (λ y ws p. p)
phrase_full law verb.Cancel = never (λ y ws p. p)
phrase_full law verb.Use = form.use_table_full law
phrase_full law verb.Select = form.select_full law
phrase_full law verb.Close = form.close_full law
phrase_full law verb.Set = form.set_full law
phrase_full law verb.Go = form.go_full law
phrase_full law verb.Skip = form.skip_full law
phrase_full law verb.Seek = form.seek_full law
phrase_full law verb.Append = form.append_full law
phrase_full law verb.Replace = form.replace_full law
phrase_full law verb.Delete = never (λ y ws p. p)
phrase_full law verb.Recall = never (λ y ws p. p)
phrase_full law verb.Pack = never (λ y ws p. p)
phrase_full law verb.Zap = never (λ y ws p. p)
phrase_full law verb.Reindex = never (λ y ws p. p)
phrase_full law verb.Index = form.index_full law

or_phrase_full : FoundLaw → (v : Verb) (o : Option Act) → Full (f.or_phrase o v) (c.OneWord o v) Ended
or_phrase_full law v (Some s) = is_full s
or_phrase_full law v None = phrase_full law v

statement_full : FoundLaw → (v : Verb) → Full (f.statement v) (c.Command v) Ended
unfolding f.statement
statement_full law v = or_phrase_full law v (f.single v)

whole_full : FoundLaw → (v : Verb) → Full (f.whole_line v) (c.CommandLine v) Ended
whole_full law v = both_full (statement_full law v) (λ s. is_full (saying.Whole s)) (λ s. end_begins)

pub line_full : FoundLaw → (v : Verb) → Full (f.block_line v) (c.Line v) Ended
unfolding f.block_line
line_full law verb.Nothing = whole_full law verb.Nothing
line_full law verb.Ignored = whole_full law verb.Ignored
line_full law verb.Unknown = whole_full law verb.Unknown
line_full law verb.Macro = whole_full law verb.Macro
line_full law verb.Show = whole_full law verb.Show
line_full law verb.ShowOn = whole_full law verb.ShowOn
line_full law verb.At = whole_full law verb.At
line_full law verb.Read = whole_full law verb.Read
line_full law verb.Accept = whole_full law verb.Accept
line_full law verb.Wait = whole_full law verb.Wait
line_full law verb.Clear = whole_full law verb.Clear
line_full law verb.Assign = whole_full law verb.Assign
line_full law verb.Store = whole_full law verb.Store
line_full law verb.Release = whole_full law verb.Release
line_full law verb.Private = whole_full law verb.Private
line_full law verb.Parameters = whole_full law verb.Parameters
line_full law verb.If = both_full (expression_full law) (λ e. is_full (saying.If e)) (λ e. is_begins free_open)
line_full law verb.Else = is_full saying.Else
line_full law verb.EndIf = whole_full law verb.EndIf
line_full law verb.DoCase = is_full saying.DoCase
line_full law verb.Case = both_full (expression_full law) (λ e. is_full (saying.Case e)) (λ e. is_begins free_open)
line_full law verb.Otherwise = is_full saying.Otherwise
line_full law verb.EndCase = whole_full law verb.EndCase
line_full law verb.DoWhile =
    both_full (expression_full law) (λ e. is_full (saying.DoWhile e)) (λ e. is_begins free_open)
line_full law verb.EndDo = whole_full law verb.EndDo
line_full law verb.Scan = both_full (form.scan_condition_full law) (λ e. is_full (saying.Scan e)) (λ e. end_begins)
line_full law verb.EndScan = whole_full law verb.EndScan
line_full law verb.Loop = whole_full law verb.Loop
line_full law verb.Exit = whole_full law verb.Exit
line_full law verb.Procedure = both_full name_full (λ s. is_full (saying.Procedure s)) (λ s. any_begins)
line_full law verb.Do = whole_full law verb.Do
line_full law verb.Return = whole_full law verb.Return
line_full law verb.Quit = whole_full law verb.Quit
line_full law verb.Cancel = whole_full law verb.Cancel
line_full law verb.Use = whole_full law verb.Use
line_full law verb.Select = whole_full law verb.Select
line_full law verb.Close = whole_full law verb.Close
line_full law verb.Set = whole_full law verb.Set
line_full law verb.Go = whole_full law verb.Go
line_full law verb.Skip = whole_full law verb.Skip
line_full law verb.Seek = whole_full law verb.Seek
line_full law verb.Append = whole_full law verb.Append
line_full law verb.Replace = whole_full law verb.Replace
line_full law verb.Delete = whole_full law verb.Delete
line_full law verb.Recall = whole_full law verb.Recall
line_full law verb.Pack = whole_full law verb.Pack
line_full law verb.Zap = whole_full law verb.Zap
line_full law verb.Reindex = whole_full law verb.Reindex
line_full law verb.Index = whole_full law verb.Index

ended_to : (s : Saying) (a : At) (x : Bool) → x ≡ true → (if x then fine s else failed (unexpected a)) ≡ fine s
ended_to s a x e = ap (λ (z : Bool). if z then fine s else failed (unexpected a)) e

ended_at : (s : Saying) (a : At) → a.words ≡ [] → f.ended (s, a) ≡ fine s
unfolding f.ended
ended_at s a e = ended_to s a (is_nil a.words) (ap is_nil e)

all_found : FoundLaw → (v : Verb) (a : At) (t : Saying) → c.Line v t a.words → f.read_whole v a ≡ fine t
all_found law v a t p =
    let r = (line_full law v).finds a t a.words [] p (sym (append-nil a.words)) refl in
    bind_to (f.block_line v a) f.ended (t, r.place) t r.reads (ended_at t r.place r.left)

pub says_full : FoundLaw → (v : Verb) (a : At) (t : Saying) → c.Says v t a.words → f.sentence v a ≡ fine t
unfolding f.sentence
says_full law verb.Nothing a t p = ap (λ (s : Saying). fine s) (sym p)
says_full law verb.Ignored a t p = ap (λ (s : Saying). fine s) (sym p)
says_full law verb.Unknown a t p = all_found law verb.Unknown a t p
says_full law verb.Macro a t p = absurd p
says_full law verb.Show a t p = all_found law verb.Show a t p
says_full law verb.ShowOn a t p = all_found law verb.ShowOn a t p
says_full law verb.At a t p = all_found law verb.At a t p
says_full law verb.Read a t p = all_found law verb.Read a t p
says_full law verb.Accept a t p = all_found law verb.Accept a t p
says_full law verb.Wait a t p = all_found law verb.Wait a t p
says_full law verb.Clear a t p = all_found law verb.Clear a t p
says_full law verb.Assign a t p = all_found law verb.Assign a t p
says_full law verb.Store a t p = all_found law verb.Store a t p
says_full law verb.Release a t p = all_found law verb.Release a t p
says_full law verb.Private a t p = all_found law verb.Private a t p
says_full law verb.Parameters a t p = all_found law verb.Parameters a t p
says_full law verb.If a t p = all_found law verb.If a t p
says_full law verb.Else a t p = all_found law verb.Else a t p
says_full law verb.EndIf a t p = ap (λ (s : Saying). fine s) (sym p)
says_full law verb.DoCase a t p = all_found law verb.DoCase a t p
says_full law verb.Case a t p = all_found law verb.Case a t p
says_full law verb.Otherwise a t p = all_found law verb.Otherwise a t p
says_full law verb.EndCase a t p = ap (λ (s : Saying). fine s) (sym p)
says_full law verb.DoWhile a t p = all_found law verb.DoWhile a t p
says_full law verb.EndDo a t p = ap (λ (s : Saying). fine s) (sym p)
says_full law verb.Scan a t p = all_found law verb.Scan a t p
says_full law verb.EndScan a t p = ap (λ (s : Saying). fine s) (sym p)
says_full law verb.Loop a t p = all_found law verb.Loop a t p
says_full law verb.Exit a t p = all_found law verb.Exit a t p
says_full law verb.Procedure a t p = all_found law verb.Procedure a t p
says_full law verb.Do a t p = all_found law verb.Do a t p
says_full law verb.Return a t p = all_found law verb.Return a t p
says_full law verb.Quit a t p = all_found law verb.Quit a t p
says_full law verb.Cancel a t p = all_found law verb.Cancel a t p
says_full law verb.Use a t p = all_found law verb.Use a t p
says_full law verb.Select a t p = all_found law verb.Select a t p
says_full law verb.Close a t p = all_found law verb.Close a t p
says_full law verb.Set a t p = all_found law verb.Set a t p
says_full law verb.Go a t p = all_found law verb.Go a t p
says_full law verb.Skip a t p = all_found law verb.Skip a t p
says_full law verb.Seek a t p = all_found law verb.Seek a t p
says_full law verb.Append a t p = all_found law verb.Append a t p
says_full law verb.Replace a t p = all_found law verb.Replace a t p
says_full law verb.Delete a t p = all_found law verb.Delete a t p
says_full law verb.Recall a t p = all_found law verb.Recall a t p
says_full law verb.Pack a t p = all_found law verb.Pack a t p
says_full law verb.Zap a t p = all_found law verb.Zap a t p
says_full law verb.Reindex a t p = all_found law verb.Reindex a t p
says_full law verb.Index a t p = all_found law verb.Index a t p
