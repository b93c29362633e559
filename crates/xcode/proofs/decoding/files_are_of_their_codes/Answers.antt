use Rattle.xcode.proofs.CodeLaws.{ItemLaws}
use Rattle.xcode.proofs.FileLaws.{code_found}
use Rattle.xcode.proofs.AgainLaws.{code_only}
use Rattle.xcode.proofs.decoding.files_are_of_their_codes.Goals as goal

pub returns : goal.returns
returns c =
    let laws : ItemLaws = record {
      numbers = record { two = c.numbers_are_spelled.ensures.two; four = c.numbers_are_spelled.ensures.four };
      tables = c.declarations_are_spelled.ensures.tables;
      indexes = c.declarations_are_spelled.ensures.indexes;
      lists = c.declarations_are_spelled.ensures.lists;
      constants = c.constants_and_filters_are_spelled.ensures.constants;
      filters = c.constants_and_filters_are_spelled.ensures.filters;
      procedures = c.procedures_and_maps_are_spelled.ensures.procedures;
      maps = c.procedures_and_maps_are_spelled.ensures.maps;
      instructions = c.instructions_are_spelled.ensures;
    } in
    record { found = code_found laws; only = code_only laws }
