use Rattle.std.proofs.Common.{◌≡◌, take}
use Rattle.std.specs.Prelude.{string_bytes}
use Rattle.std.specs.List.{flat_map}
use Rattle.code_pages.specs.Pages.{utf8_of}
use Rattle.code_pages.proofs.pages.in_utf8.Given as goal

abbrev pub invariant-loop-byte : goal.invariant-loop-byte
invariant-loop-byte l = string_bytes l.shown ≡ flat_map (utf8_of l.page) (take l.byte-index l.text)
