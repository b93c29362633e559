-- How commands are put together.
use Rattle.std.proofs.Common.{◌≡◌, ◌∙◌, ◌&&◌, ap, ap₂, Bool, true, false, not, subst, sym}
use Rattle.std.specs.Prelude.{Result, Ok, Err, IfOk, is_some}
use Rattle.std.proofs.lemmas.Bool.{and_parts, not-true}
use Rattle.std.proofs.lemmas.Result.{IfOk-weaker}
use Rattle.clap.specs.Built.{AddsArg, AddsSubcommand}
use Rattle.clap.specs.Simple.{App, Shape, app_of, with_rule, with_subcommand}
use Rattle.clap.specs.Walk.{is_empty, rule_of}
use Rattle.clap.specs.declared.builder.arg.Arg.{Arg}
use Rattle.clap.specs.declared.builder.command.Command.{Command}
use Rattle.clap.specs.declared.builder.command.Command.TheViews.{out-Command as fields_of}
use Rattle.command_words.specs.CommandLine.{alone}
use Rattle.command_words.specs.Made.{AddsMade, IsPlainCommand}

-- a word whose rule is simple is no global one
is_local : (a : Arg) → (rule_of a).is_simple ≡ true → a.global ≡ false
is_local a e = not-true a.global (last (is_empty a.overrides.items) (is_empty a.default_vals_ifs.items)
    (is_empty a.groups.items) (not (is_some a.val_delim)) (not (is_some a.terminator)) (not a.allow_hyphen_values)
    (not a.allow_negative_numbers) (not a.require_equals) (not a.last) (not a.global) e)
  where
    -- what stands behind the other nine of a list of tests
    last : (a b c d e f g h i j : Bool)
        → (a && (b && (c && (d && (e && (f && (g && (h && (i && j))))))))) ≡ true → j ≡ true
    last a b c d e f g h i j all = (and_parts i j (and_parts h _ (and_parts g _ (and_parts f _ (and_parts e _
        (and_parts d _ (and_parts c _ (and_parts b _ (and_parts a _ all).1).1).1).1).1).1).1).1).1

-- nor has a plain command one
has_no_globals : (c : Command) → IsPlainCommand c → (fields_of c).has_globals ≡ false
has_no_globals c e =
    let two = (and_parts (is_empty (fields_of c).groups.items) _ e).1 in
    let one = (and_parts (not (fields_of c).allow_external_subcommands) _ two).1 in
    not-true (fields_of c).has_globals (and_parts (not (fields_of c).has_globals) _ one).0

pub word_put : {E : Type 0} (r : Result Command E) (old : Command) (a : Arg) → (rule_of a).is_simple ≡ true
    → IfOk r (λ new. AddsArg old a new) → IfOk r (λ new. app_of new ≡ with_rule (app_of old) (rule_of a))
word_put r old a simple h = IfOk-weaker r _ _ (λ new adds. adds.shape (is_local a simple)) h

pub made_put : {E F : Type 0} (r : Result Command E) (old below : Command) (made : Result Command F)
    → IfOk made IsPlainCommand → made ≡ Ok below → IfOk r (λ new. AddsSubcommand old below new)
    → IfOk r (λ new. AddsMade old made new)
made_put r old below made plain was h =
    let here = subst (λ m. IfOk m IsPlainCommand) was plain in
    IfOk-weaker r _ _ (λ new adds. subst (λ m. AddsMade old m new) (sym was) (adds.shape (has_no_globals below here))) h

-- a command that was made of this shape keeps how words are read
pub is_plain_made : {E : Type 0} (made : Result Command E) (s : Shape) → s.is_plain ≡ true
    → IfOk made (λ c. app_of c ≡ alone s) → IfOk made IsPlainCommand
is_plain_made made s plain h = IfOk-weaker made _ _ (λ c e. ap (λ (a : App). a.top.is_plain) e ∙ plain) h

-- the command with it
pub with_made : {E : Type 0} (made : Result Command E) (old new : Command) (s : Shape) (app : App)
    → AddsMade old made new → IfOk made (λ c. app_of c ≡ alone s) → app_of old ≡ app
    → app_of new ≡ with_subcommand app s
with_made (Ok below) old new s app h e was = h ∙ ap₂ with_subcommand was (ap (λ (a : App). a.top) e)
with_made (Err fault) old new s app h e was = absurd h
