-- What a line is to the blocks around it, by its command and by what it says: the same.
use Rattle.std.proofs.Common.{◌≡◌, ℕ, List, [], ◌⊎◌, inl, inr, true, false, Some, None, refl, sym, ap, ◌∙◌}
use Rattle.prg_expr.specs.Word.{Word}
use Rattle.prg_line.specs.declared.role.Role.{Role}
use Rattle.prg_line.specs.declared.role.Role.TheVariants as role
use Rattle.prg_line.specs.declared.statement.Toggle.TheVariants.{Exact, Deleted, Century}
use Rattle.prg_line.specs.declared.verb.Verb.{Verb}
use Rattle.prg_line.specs.declared.verb.Verb.TheVariants as verb
use Rattle.prg_line.specs.Act.{Act}
use Rattle.prg_line.specs.Act as act
use Rattle.prg_line.specs.Saying.{Saying, role_of}
use Rattle.prg_line.specs.Saying as saying
use Rattle.prg_line.specs.Verbs as verbs
use Rattle.prg_line.specs.Commands as c
use Rattle.prg_line.specs.Commands.{Phrase, Is, Then, Key, MarkThen, Either, But, Where}

-- a phrase that says no LOOP and no EXIT
record Plain (P : Phrase Act) : Type 0 where
  plain : (y : Act) (ws : List Word) → P y ws → role_of (saying.Whole y) ≡ role.Plain

abbrev role_said : Act → Role
role_said y = role_of (saying.Whole y)

is_plain : (x : Act) → role_of (saying.Whole x) ≡ role.Plain → Plain (Is x)
is_plain x h = record { plain = λ y ws p. ap role_said p.0 ∙ h }

then_plain : {A : Type 0} {P : Phrase A} {Q : A → Phrase Act} → ((x : A) → Plain (Q x)) → Plain (Then P Q)
then_plain h = record { plain = λ y ws p. (h p.0).plain y p.2 p.4 }

key_plain : (whole : List ℕ) {P : Phrase Act} → Plain P → Plain (Key whole P)
key_plain whole h = record { plain = λ y ws p. h.plain y p.1 p.3 }

mark_plain : (w : Word) {P : Phrase Act} → Plain P → Plain (MarkThen w P)
mark_plain w h = record { plain = λ y ws p. h.plain y p.0 p.1 }

but_plain : (whole : List ℕ) {P : Phrase Act} → Plain P → Plain (But whole P)
but_plain whole h = record { plain = λ y ws p. h.plain y ws p.1 }

one_of : (P Q : Phrase Act) → Plain P → Plain Q → (y : Act) (ws : List Word) → P y ws ⊎ Q y ws
    → role_of (saying.Whole y) ≡ role.Plain
one_of P Q g h y ws (inl p) = g.plain y ws p
one_of P Q g h y ws (inr q) = h.plain y ws q

either_plain : {P Q : Phrase Act} → Plain P → Plain Q → Plain (Either P Q)
either_plain {P} {Q} g h = record { plain = one_of P Q g h }

where_plain : (whole : List ℕ) {P Q : Phrase Act} → Plain P → Plain Q → Plain (Where whole P Q)
where_plain whole {P} {Q} g h = either_plain (key_plain whole g) (but_plain whole h)

number_plain : (n : ℕ) → Plain (c.SelectNumber n)
number_plain n = record { plain = λ y ws p. ap role_said p.2.0 }

impossible : {P : Phrase Act} → ((y : Act) (ws : List Word) → P y ws → ⊥) → Plain P
impossible h = record { plain = λ y ws p. absurd (h y ws p) }

longer_plain : (v : Verb) → Plain (c.Longer v)
longer_plain verb.Nothing = impossible (λ y ws p. p)
longer_plain verb.Ignored = impossible (λ y ws p. p)
longer_plain verb.Unknown = impossible (λ y ws p. p)
longer_plain verb.Macro = impossible (λ y ws p. p)
longer_plain verb.Show = either_plain (is_plain (act.Show []) refl) (then_plain (λ es. is_plain (act.Show es) refl))
longer_plain verb.ShowOn = then_plain (λ es. is_plain (act.ShowOn es) refl)
longer_plain verb.At =
    then_plain (λ row. mark_plain _
    (then_plain (λ column. where_plain _ (then_plain (λ v. is_plain (act.Get row column v) refl))
    (key_plain _ (then_plain
    (λ e. where_plain _ (then_plain (λ v. is_plain (act.SayGet row column e v) refl))
    (is_plain (act.Say row column e) refl)))))))
longer_plain verb.Read = impossible (λ y ws p. p)
longer_plain verb.Accept = then_plain (λ p. key_plain _ (then_plain (λ v. is_plain (act.Accept p v) refl)))
longer_plain verb.Wait =
    then_plain (λ p. where_plain _ (then_plain (λ v. is_plain (act.Wait p (Some v)) refl))
    (is_plain (act.Wait p None) refl))
longer_plain verb.Clear = impossible (λ y ws p. p)
longer_plain verb.Assign = then_plain (λ v. mark_plain _ (then_plain (λ e. is_plain (act.Assign v e) refl)))
longer_plain verb.Store = then_plain (λ e. key_plain _ (then_plain (λ vs. is_plain (act.Store e vs) refl)))
longer_plain verb.Release = but_plain _ (then_plain (λ vs. is_plain (act.Release vs) refl))
longer_plain verb.Private = then_plain (λ vs. is_plain (act.Private vs) refl)
longer_plain verb.Parameters = then_plain (λ vs. is_plain (act.Parameters vs) refl)
longer_plain verb.If = impossible (λ y ws p. p)
longer_plain verb.Else = impossible (λ y ws p. p)
longer_plain verb.EndIf = impossible (λ y ws p. p)
longer_plain verb.DoCase = impossible (λ y ws p. p)
longer_plain verb.Case = impossible (λ y ws p. p)
longer_plain verb.Otherwise = impossible (λ y ws p. p)
longer_plain verb.EndCase = impossible (λ y ws p. p)
longer_plain verb.DoWhile = impossible (λ y ws p. p)
longer_plain verb.EndDo = impossible (λ y ws p. p)
longer_plain verb.Scan = impossible (λ y ws p. p)
longer_plain verb.EndScan = impossible (λ y ws p. p)
longer_plain verb.Loop = impossible (λ y ws p. p)
longer_plain verb.Exit = impossible (λ y ws p. p)
longer_plain verb.Procedure = impossible (λ y ws p. p)
longer_plain verb.Do =
    then_plain (λ p. where_plain _ (then_plain (λ es. is_plain (act.Do p es) refl)) (is_plain (act.Do p []) refl))
longer_plain verb.Return = impossible (λ y ws p. p)
longer_plain verb.Quit = impossible (λ y ws p. p)
longer_plain verb.Cancel = impossible (λ y ws p. p)
longer_plain verb.Use =
    either_plain (is_plain act.Close refl)
    (then_plain (λ t. where_plain _ (then_plain (λ is. is_plain (act.Use t is) refl)) (is_plain (act.Use t []) refl)))
longer_plain verb.Select =
    either_plain (then_plain (λ n. number_plain n)) (then_plain (λ s. is_plain (act.Select (act.Named s)) refl))
longer_plain verb.Close = where_plain _ (is_plain act.CloseAll refl) (key_plain _ (is_plain act.CloseAll refl))
longer_plain verb.Set =
    where_plain _ (key_plain _ (then_plain (λ n. is_plain (act.SetOrder n) refl)))
    (where_plain _ (key_plain _
    (either_plain (is_plain (act.SetFilter None) refl) (then_plain (λ e. is_plain (act.SetFilter (Some e)) refl))))
    (where_plain _ (where_plain _ (is_plain (act.Set Exact true) refl)
    (key_plain _ (is_plain (act.Set Exact false) refl)))
    (where_plain _ (where_plain _ (is_plain (act.Set Deleted true) refl)
    (key_plain _ (is_plain (act.Set Deleted false) refl)))
    (key_plain _ (where_plain _ (is_plain (act.Set Century true) refl)
    (key_plain _ (is_plain (act.Set Century false) refl)))))))
longer_plain verb.Go =
    where_plain _ (is_plain (act.Go act.Top) refl)
    (where_plain _ (is_plain (act.Go act.Bottom) refl) (then_plain (λ e. is_plain (act.Go (act.Record e)) refl)))
longer_plain verb.Skip =
    either_plain (is_plain (act.Skip None) refl) (then_plain (λ e. is_plain (act.Skip (Some e)) refl))
longer_plain verb.Seek = then_plain (λ e. is_plain (act.Seek e) refl)
longer_plain verb.Append = key_plain _ (is_plain act.AppendBlank refl)
longer_plain verb.Replace = then_plain (λ cs. is_plain (act.Replace cs) refl)
longer_plain verb.Delete = impossible (λ y ws p. p)
longer_plain verb.Recall = impossible (λ y ws p. p)
longer_plain verb.Pack = impossible (λ y ws p. p)
longer_plain verb.Zap = impossible (λ y ws p. p)
longer_plain verb.Reindex = impossible (λ y ws p. p)
longer_plain verb.Index =
    key_plain _ (then_plain (λ e. key_plain _ (then_plain (λ s. is_plain (act.IndexOn e s) refl))))

-- a command that is one word
one_word : (x : Act) (s : Saying) (ws : List Word) → Then (Is x) (λ y. Is (saying.Whole y)) s ws
    → role_said x ≡ role_of s
one_word x s ws (y, front, rest, p, q, e) = sym (ap role_of q.0 ∙ ap role_said p.0)

-- a command of more words
longer : (v : Verb) (s : Saying) (ws : List Word) → Then (c.Longer v) (λ y. Is (saying.Whole y)) s ws
    → role.Plain ≡ role_of s
longer v s ws (y, front, rest, p, q, e) = sym (ap role_of q.0 ∙ (longer_plain v).plain y front p)

-- a line with one part
with_part : {A : Type 0} (P : Phrase A) (f : A → Saying) (r : Role) → ((x : A) → role_of (f x) ≡ r)
    → (s : Saying) (ws : List Word) → Then P (λ x. Is (f x)) s ws → r ≡ role_of s
with_part P f r h s ws (x, front, rest, p, q, e) = sym (ap role_of q.0 ∙ h x)

pub role_agrees : (v : Verb) (s : Saying) (ws : List Word) → c.Says v s ws → verbs.role_of v ≡ role_of s
role_agrees verb.Nothing s ws p = sym (ap role_of p)
role_agrees verb.Ignored s ws p = sym (ap role_of p)
role_agrees verb.Unknown s ws p = longer verb.Unknown s ws p
role_agrees verb.Macro s ws p = absurd p
role_agrees verb.Show s ws p = longer verb.Show s ws p
role_agrees verb.ShowOn s ws p = longer verb.ShowOn s ws p
role_agrees verb.At s ws p = longer verb.At s ws p
role_agrees verb.Read s ws p = one_word act.Read s ws p
role_agrees verb.Accept s ws p = longer verb.Accept s ws p
role_agrees verb.Wait s ws p = longer verb.Wait s ws p
role_agrees verb.Clear s ws p = one_word act.Clear s ws p
role_agrees verb.Assign s ws p = longer verb.Assign s ws p
role_agrees verb.Store s ws p = longer verb.Store s ws p
role_agrees verb.Release s ws p = longer verb.Release s ws p
role_agrees verb.Private s ws p = longer verb.Private s ws p
role_agrees verb.Parameters s ws p = longer verb.Parameters s ws p
role_agrees verb.If s ws p = with_part _ saying.If role.If (λ x. refl) s ws p
role_agrees verb.Else s ws p = sym (ap role_of p.0)
role_agrees verb.EndIf s ws p = sym (ap role_of p)
role_agrees verb.DoCase s ws p = sym (ap role_of p.0)
role_agrees verb.Case s ws p = with_part _ saying.Case role.Case (λ x. refl) s ws p
role_agrees verb.Otherwise s ws p = sym (ap role_of p.0)
role_agrees verb.EndCase s ws p = sym (ap role_of p)
role_agrees verb.DoWhile s ws p = with_part _ saying.DoWhile role.DoWhile (λ x. refl) s ws p
role_agrees verb.EndDo s ws p = sym (ap role_of p)
role_agrees verb.Scan s ws p = with_part _ saying.Scan role.Scan (λ x. refl) s ws p
role_agrees verb.EndScan s ws p = sym (ap role_of p)
role_agrees verb.Loop s ws p = one_word act.Loop s ws p
role_agrees verb.Exit s ws p = one_word act.Exit s ws p
role_agrees verb.Procedure s ws p = with_part _ saying.Procedure role.Procedure (λ x. refl) s ws p
role_agrees verb.Do s ws p = longer verb.Do s ws p
role_agrees verb.Return s ws p = one_word act.Return s ws p
role_agrees verb.Quit s ws p = one_word act.Quit s ws p
role_agrees verb.Cancel s ws p = one_word act.Cancel s ws p
role_agrees verb.Use s ws p = longer verb.Use s ws p
role_agrees verb.Select s ws p = longer verb.Select s ws p
role_agrees verb.Close s ws p = longer verb.Close s ws p
role_agrees verb.Set s ws p = longer verb.Set s ws p
role_agrees verb.Go s ws p = longer verb.Go s ws p
role_agrees verb.Skip s ws p = longer verb.Skip s ws p
role_agrees verb.Seek s ws p = longer verb.Seek s ws p
role_agrees verb.Append s ws p = longer verb.Append s ws p
role_agrees verb.Replace s ws p = longer verb.Replace s ws p
role_agrees verb.Delete s ws p = one_word act.Delete s ws p
role_agrees verb.Recall s ws p = one_word act.Recall s ws p
role_agrees verb.Pack s ws p = one_word act.Pack s ws p
role_agrees verb.Zap s ws p = one_word act.Zap s ws p
role_agrees verb.Reindex s ws p = one_word act.Reindex s ws p
role_agrees verb.Index s ws p = longer verb.Index s ws p
