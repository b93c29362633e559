-- What a line is read to say is what its phrase says.
use Rattle.std.proofs.Common.{◌≡◌, List, [], ◌∷◌, ◌++◌, Bool, true, false, Option, Some, None, Ok, refl, sym, ap, ◌∙◌}
use Rattle.std.proofs.Common.{subst}
use Rattle.std.specs.Prelude.{if◌then◌else◌}
use Rattle.std.proofs.lemmas.List.{append-nil}
use Rattle.prg_expr.specs.Word.{Word}
use Rattle.prg_expr.specs.declared.fault.ParseFaultKind.TheVariants as kind
use Rattle.prg_line.specs.declared.verb.Verb.{Verb}
use Rattle.prg_line.specs.declared.verb.Verb.TheVariants as verb
use Rattle.prg_line.specs.Act.{Act}
use Rattle.prg_line.specs.Saying.{Saying}
use Rattle.prg_line.specs.Saying as saying
use Rattle.prg_line.specs.Forms as f
use Rattle.prg_line.specs.Forms.{At, is_nil, unexpected}
use Rattle.prg_line.specs.Commands as c
use Rattle.prg_line.proofs.Sound.{Sound, fine, failed, not_ok, ok_same, bind_ok, is_sound, then_sound, fails_sound}
use Rattle.prg_line.proofs.Sound.{apart}
use Rattle.prg_line.proofs.PartsSound.{Law, expression_sound, name_sound}
use Rattle.prg_line.proofs.FormsSound as form

pub phrase_sound : Law → (v : Verb) → Sound (f.phrase v) (c.Longer v)
unfolding f.phrase
phrase_sound law verb.Nothing = fails_sound kind.Word (c.Longer verb.Nothing)
phrase_sound law verb.Ignored = fails_sound kind.Word (c.Longer verb.Ignored)
phrase_sound law verb.Unknown = fails_sound kind.Word (c.Longer verb.Unknown)
phrase_sound law verb.Macro = fails_sound kind.Word (c.Longer verb.Macro)
phrase_sound law verb.Show = form.show_sound law
phrase_sound law verb.ShowOn = form.show_on_sound law
phrase_sound law verb.At = form.at_place_sound law
phrase_sound law verb.Read = fails_sound kind.Word (c.Longer verb.Read)
phrase_sound law verb.Accept = form.accept_sound law
phrase_sound law verb.Wait = form.wait_sound law
phrase_sound law verb.Clear = fails_sound kind.Word (c.Longer verb.Clear)
phrase_sound law verb.Assign = form.assign_sound law
phrase_sound law verb.Store = form.store_sound law
phrase_sound law verb.Release = form.release_sound law
phrase_sound law verb.Private = form.private_sound law
phrase_sound law verb.Parameters = form.parameters_sound law
phrase_sound law verb.If = fails_sound kind.Word (c.Longer verb.If)
phrase_sound law verb.Else = fails_sound kind.Word (c.Longer verb.Else)
phrase_sound law verb.EndIf = fails_sound kind.Word (c.Longer verb.EndIf)
phrase_sound law verb.DoCase = fails_sound kind.Word (c.Longer verb.DoCase)
phrase_sound law verb.Case = fails_sound kind.Word (c.Longer verb.Case)
phrase_sound law verb.Otherwise = fails_sound kind.Word (c.Longer verb.Otherwise)
phrase_sound law verb.EndCase = fails_sound kind.Word (c.Longer verb.EndCase)
phrase_sound law verb.DoWhile = fails_sound kind.Word (c.Longer verb.DoWhile)
phrase_sound law verb.EndDo = fails_sound kind.Word (c.Longer verb.EndDo)
phrase_sound law verb.Scan = fails_sound kind.Word (c.Longer verb.Scan)
phrase_sound law verb.EndScan = fails_sound kind.Word (c.Longer verb.EndScan)
phrase_sound law verb.Loop = fails_sound kind.Word (c.Longer verb.Loop)
phrase_sound law verb.Exit = fails_sound kind.Word (c.Longer verb.Exit)
phrase_sound law verb.Procedure = fails_sound kind.Word (c.Longer verb.Procedure)
phrase_sound law verb.Do = form.call_sound law
phrase_sound law verb.Return = fails_sound kind.Word (c.Longer verb.Return)
phrase_sound law verb.Quit = fails_sound kind.Word (c.Longer verb.Quit)
phrase_sound law verb.Cancel = fails_sound kind.Word (c.Longer verb.Cancel)
phrase_sound law verb.Use = form.use_table_sound law
phrase_sound law verb.Select = form.select_sound law
phrase_sound law verb.Close = form.close_sound law
phrase_sound law verb.Set = form.set_sound law
phrase_sound law verb.Go = form.go_sound law
phrase_sound law verb.Skip = form.skip_sound law
phrase_sound law verb.Seek = form.seek_sound law
phrase_sound law verb.Append = form.append_sound law
phrase_sound law verb.Replace = form.replace_sound law
phrase_sound law verb.Delete = fails_sound kind.Word (c.Longer verb.Delete)
phrase_sound law verb.Recall = fails_sound kind.Word (c.Longer verb.Recall)
phrase_sound law verb.Pack = fails_sound kind.Word (c.Longer verb.Pack)
phrase_sound law verb.Zap = fails_sound kind.Word (c.Longer verb.Zap)
phrase_sound law verb.Reindex = fails_sound kind.Word (c.Longer verb.Reindex)
phrase_sound law verb.Index = form.index_sound law

or_phrase_sound : Law → (v : Verb) (o : Option Act) → Sound (f.or_phrase o v) (c.OneWord o v)
or_phrase_sound law v (Some s) = is_sound s
or_phrase_sound law v None = phrase_sound law v

statement_sound : Law → (v : Verb) → Sound (f.statement v) (c.Command v)
unfolding f.statement
statement_sound law v = or_phrase_sound law v (f.single v)

whole_sound : Law → (v : Verb) → Sound (f.whole_line v) (c.CommandLine v)
whole_sound law v = then_sound (statement_sound law v) (λ s. is_sound (saying.Whole s))

pub line_sound : Law → (v : Verb) → Sound (f.block_line v) (c.Line v)
unfolding f.block_line
line_sound law verb.Nothing = whole_sound law verb.Nothing
line_sound law verb.Ignored = whole_sound law verb.Ignored
line_sound law verb.Unknown = whole_sound law verb.Unknown
line_sound law verb.Macro = whole_sound law verb.Macro
line_sound law verb.Show = whole_sound law verb.Show
line_sound law verb.ShowOn = whole_sound law verb.ShowOn
line_sound law verb.At = whole_sound law verb.At
line_sound law verb.Read = whole_sound law verb.Read
line_sound law verb.Accept = whole_sound law verb.Accept
line_sound law verb.Wait = whole_sound law verb.Wait
line_sound law verb.Clear = whole_sound law verb.Clear
line_sound law verb.Assign = whole_sound law verb.Assign
line_sound law verb.Store = whole_sound law verb.Store
line_sound law verb.Release = whole_sound law verb.Release
line_sound law verb.Private = whole_sound law verb.Private
line_sound law verb.Parameters = whole_sound law verb.Parameters
line_sound law verb.If = then_sound (expression_sound law) (λ e. is_sound (saying.If e))
line_sound law verb.Else = is_sound saying.Else
line_sound law verb.EndIf = whole_sound law verb.EndIf
line_sound law verb.DoCase = is_sound saying.DoCase
line_sound law verb.Case = then_sound (expression_sound law) (λ e. is_sound (saying.Case e))
line_sound law verb.Otherwise = is_sound saying.Otherwise
line_sound law verb.EndCase = whole_sound law verb.EndCase
line_sound law verb.DoWhile = then_sound (expression_sound law) (λ e. is_sound (saying.DoWhile e))
line_sound law verb.EndDo = whole_sound law verb.EndDo
line_sound law verb.Scan = then_sound (form.scan_condition_sound law) (λ e. is_sound (saying.Scan e))
line_sound law verb.EndScan = whole_sound law verb.EndScan
line_sound law verb.Loop = whole_sound law verb.Loop
line_sound law verb.Exit = whole_sound law verb.Exit
line_sound law verb.Procedure = then_sound name_sound (λ s. is_sound (saying.Procedure s))
line_sound law verb.Do = whole_sound law verb.Do
line_sound law verb.Return = whole_sound law verb.Return
line_sound law verb.Quit = whole_sound law verb.Quit
line_sound law verb.Cancel = whole_sound law verb.Cancel
line_sound law verb.Use = whole_sound law verb.Use
line_sound law verb.Select = whole_sound law verb.Select
line_sound law verb.Close = whole_sound law verb.Close
line_sound law verb.Set = whole_sound law verb.Set
line_sound law verb.Go = whole_sound law verb.Go
line_sound law verb.Skip = whole_sound law verb.Skip
line_sound law verb.Seek = whole_sound law verb.Seek
line_sound law verb.Append = whole_sound law verb.Append
line_sound law verb.Replace = whole_sound law verb.Replace
line_sound law verb.Delete = whole_sound law verb.Delete
line_sound law verb.Recall = whole_sound law verb.Recall
line_sound law verb.Pack = whole_sound law verb.Pack
line_sound law verb.Zap = whole_sound law verb.Zap
line_sound law verb.Reindex = whole_sound law verb.Reindex
line_sound law verb.Index = whole_sound law verb.Index

ended_by : (s t : Saying) (a : At) (ws : List Word) (x : Bool) → is_nil ws ≡ x
    → (if x then fine s else failed (unexpected a)) ≡ Ok t → (s ≡ t) × (ws ≡ [])
ended_by s t a [] true n h = (ok_same s t h, refl)
ended_by s t a [] false n h = absurd (not_ok (unexpected a) t h)
ended_by s t a (w ∷ ws) true n h = absurd (apart n)
ended_by s t a (w ∷ ws) false n h = absurd (not_ok (unexpected a) t h)

ended_in : (x : Saying × At) (t : Saying) → f.ended x ≡ Ok t → (x.0 ≡ t) × (x.1.words ≡ [])
unfolding f.ended
ended_in x t h = ended_by x.0 t x.1 x.1.words (is_nil x.1.words) refl h

all_read : Law → (v : Verb) (a : At) (t : Saying) → f.read_whole v a ≡ Ok t → c.Line v t a.words
all_read law v a t h =
    let x = bind_ok (f.block_line v a) f.ended t h in
    let e = ended_in x.0 t x.2 in
    let p = (line_sound law v).reads a x.0.0 x.0.1 x.1 in
    let words : a.words ≡ p.front = p.splits ∙ ap (λ (l : List Word). p.front ++ l) e.1 ∙ append-nil p.front in
    subst (λ (s : Saying). c.Line v s a.words) e.0 (subst (λ (l : List Word). c.Line v x.0.0 l) (sym words) p.holds)

pub says_sound : Law → (v : Verb) (a : At) (t : Saying) → f.sentence v a ≡ Ok t → c.Says v t a.words
unfolding f.sentence
says_sound law verb.Nothing a t h = sym (ok_same saying.Nothing t h)
says_sound law verb.Ignored a t h = sym (ok_same saying.Nothing t h)
says_sound law verb.Unknown a t h = all_read law verb.Unknown a t h
says_sound law verb.Macro a t h = not_ok kind.Macro t h
says_sound law verb.Show a t h = all_read law verb.Show a t h
says_sound law verb.ShowOn a t h = all_read law verb.ShowOn a t h
says_sound law verb.At a t h = all_read law verb.At a t h
says_sound law verb.Read a t h = all_read law verb.Read a t h
says_sound law verb.Accept a t h = all_read law verb.Accept a t h
says_sound law verb.Wait a t h = all_read law verb.Wait a t h
says_sound law verb.Clear a t h = all_read law verb.Clear a t h
says_sound law verb.Assign a t h = all_read law verb.Assign a t h
says_sound law verb.Store a t h = all_read law verb.Store a t h
says_sound law verb.Release a t h = all_read law verb.Release a t h
says_sound law verb.Private a t h = all_read law verb.Private a t h
says_sound law verb.Parameters a t h = all_read law verb.Parameters a t h
says_sound law verb.If a t h = all_read law verb.If a t h
says_sound law verb.Else a t h = all_read law verb.Else a t h
says_sound law verb.EndIf a t h = sym (ok_same saying.EndIf t h)
says_sound law verb.DoCase a t h = all_read law verb.DoCase a t h
says_sound law verb.Case a t h = all_read law verb.Case a t h
says_sound law verb.Otherwise a t h = all_read law verb.Otherwise a t h
says_sound law verb.EndCase a t h = sym (ok_same saying.EndCase t h)
says_sound law verb.DoWhile a t h = all_read law verb.DoWhile a t h
says_sound law verb.EndDo a t h = sym (ok_same saying.EndDo t h)
says_sound law verb.Scan a t h = all_read law verb.Scan a t h
says_sound law verb.EndScan a t h = sym (ok_same saying.EndScan t h)
says_sound law verb.Loop a t h = all_read law verb.Loop a t h
says_sound law verb.Exit a t h = all_read law verb.Exit a t h
says_sound law verb.Procedure a t h = all_read law verb.Procedure a t h
says_sound law verb.Do a t h = all_read law verb.Do a t h
says_sound law verb.Return a t h = all_read law verb.Return a t h
says_sound law verb.Quit a t h = all_read law verb.Quit a t h
says_sound law verb.Cancel a t h = all_read law verb.Cancel a t h
says_sound law verb.Use a t h = all_read law verb.Use a t h
says_sound law verb.Select a t h = all_read law verb.Select a t h
says_sound law verb.Close a t h = all_read law verb.Close a t h
says_sound law verb.Set a t h = all_read law verb.Set a t h
says_sound law verb.Go a t h = all_read law verb.Go a t h
says_sound law verb.Skip a t h = all_read law verb.Skip a t h
says_sound law verb.Seek a t h = all_read law verb.Seek a t h
says_sound law verb.Append a t h = all_read law verb.Append a t h
says_sound law verb.Replace a t h = all_read law verb.Replace a t h
says_sound law verb.Delete a t h = all_read law verb.Delete a t h
says_sound law verb.Recall a t h = all_read law verb.Recall a t h
says_sound law verb.Pack a t h = all_read law verb.Pack a t h
says_sound law verb.Zap a t h = all_read law verb.Zap a t h
says_sound law verb.Reindex a t h = all_read law verb.Reindex a t h
says_sound law verb.Index a t h = all_read law verb.Index a t h
