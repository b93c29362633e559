-- Whether a conversation may begin or go on.
use Rattle.std.specs.Prelude.{◌≡◌, ◌⊎◌, Bool, None, Option, is_some, true}
use Rattle.operator_desk.specs.declared.record.Record.{Record}

-- the text of the beginning was written, or each file was found as it says
abbrev pub is_opened : {R : Type 0} → Record R → Bool
is_opened beside = beside.opened

-- one of two names at least is known: that of a file that has changed, or of one that couldn't be written
abbrev pub NamesOne : {S : Type 0} → Option S → Option S → Type 0
NamesOne changed unwritten = (is_some changed ≡ true) ⊎ (is_some unwritten ≡ true)

-- a name isn't known that wasn't known before
abbrev pub NamesNoMore : {S : Type 0} → Option S → Option S → Type 0
NamesNoMore before after = before ≡ None → after ≡ None
