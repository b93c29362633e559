use Rattle.std.proofs.Common.{◌≡◌, ◌++◌}
use Rattle.std.specs.Str.{IsUtf8, chars}
use Rattle.std.specs.Str.Iter.{chars_rest}
use Rattle.code_pages.specs.Pages.{page_letters}
use Rattle.code_pages.proofs.pages.in_page.Given as goal

abbrev pub invariant-loop-letter : goal.invariant-loop-letter
invariant-loop-letter l = IsUtf8 (chars_rest l.letter-iterator)
    × (page_letters l.page l.bytes.items ++ chars (chars_rest l.letter-iterator) ≡ chars l.text)
