-- What the verifier holds of a place, as the rules see it.
use Rattle.std.specs.Prelude.{◌≡◌, ◌+◌, ◌<◌, ◌^◌}
use Rattle.code_items.specs.Legal.{IsCode}
use Rattle.code_rules.specs.Places.{start_of}
use Rattle.code_rules.specs.Rules.{Here as Place}
use Rattle.xverify.specs.declared.here.Here.{Here}

abbrev pub place_told : Here → Place
place_told h = record { place = h.place; block = h.block; instr = h.instr; before = h.before.now; after = h.after.now }

-- it is a place of a legal code, and where the block begins there, what is known there is told
pub record IsPlace (h : Here) : Type 0 where
  pub legal : IsCode h.code.now
  pub start : h.block.first ≡ h.place → h.start.now ≡ start_of h.code.now h.block.number
  pub small : h.place + 1 < 2 ^ 64
