use Rattle.std.proofs.Common.{◌≡◌, ◌++◌, ◌∷◌, [], ◌∙◌, ap, rules, sym, append-nil}
use Rattle.std.proofs.lemmas.Str.{chars_past_char, IsUtf8-past_char}
use Rattle.code_pages.specs.Pages.{page_letters}
use Rattle.code_pages.proofs.Typed.{no_letters, typed_more}
use Rattle.code_pages.proofs.pages.in_page.Goals as goal

pub loop-letter-preserved : goal.loop-letter-preserved
loop-letter-preserved c =
    let held = c.loop-letter.invariant in
    let parts = c.in-Some.ensures.steps.0 in
    let put : c.push.new.self.items ≡ c.loop-letter.bytes.items ++ c.in-Some-byte_of.byte ∷ [] = search rules in (
      IsUtf8-past_char _ _ c.in-Some.letter held.0 parts,
      typed_more c.args.page c.loop-letter.bytes.items c.push.new.self.items _ _ _ c.in-Some.letter
          c.in-Some-byte_of.byte
          (chars_past_char _ _ c.in-Some.letter held.0 parts) c.in-Some-byte_of.ensures.found put held.1,
    )

pub returns-in_default-clause-lacks : goal.returns-in_default-clause-lacks
returns-in_default-clause-lacks c =
    let held = c.loop-letter.invariant in
    let parts = c.in-Some.ensures.steps.0 in (
      c.loop-letter.bytes.items,
      _,
      sym held.1 ∙ ap (λ l. page_letters c.args.page c.loop-letter.bytes.items ++ l)
          (chars_past_char _ _ c.in-Some.letter held.0 parts),
      c.byte_of.ensures.only (search rules),
    )

pub returns-clause-letters : goal.returns-clause-letters
returns-clause-letters c =
    let held = c.loop-letter.invariant in
    sym (append-nil _) ∙ ap (λ l. page_letters c.args.page c.loop-letter.bytes.items ++ l)
    (sym (no_letters _ c.in-None.ensures.steps.0.0)) ∙ held.1
