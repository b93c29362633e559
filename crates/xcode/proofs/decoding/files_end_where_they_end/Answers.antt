use Rattle.xcode.proofs.CodeLaws.{ItemLaws}
use Rattle.xcode.proofs.AgainLaws.{behind_extra, cut_short}
use Rattle.xcode.proofs.decoding.files_end_where_they_end.Goals as goal

pub returns : goal.returns
returns c =
    let laws : ItemLaws = record {
      numbers = record { two = c.numbers_are_spelled.ensures.two; four = c.numbers_are_spelled.ensures.four };
      tables = c.declarations_are_spelled.ensures.tables;
      indexes = c.declarations_are_spelled.ensures.indexes;
      lists = c.declarations_are_spelled.ensures.lists;
      constants = c.constants_and_filters_are_spelled.ensures.constants;
      filters = c.constants_and_filters_are_spelled.ensures.filters;
      procedures = c.procedures_and_maps_are_spelled.ensures.procedures;
      maps = c.procedures_and_maps_are_spelled.ensures.maps;
      instructions = c.instructions_are_spelled.ensures;
    } in
    record { behind = behind_extra laws; cut = cut_short laws }
