use Rattle.std.proofs.Common.{List, map, option_map, arith}
use Rattle.prg_parser.specs.Lines.{joined}
use Rattle.prg_parser.proofs.JoinLemmas.{is_nothing, none_left}
use Rattle.text_lines.specs.Lines.{lines}
use Rattle.folder_shapes.specs.Programs.{Named, as_joined, in_use, named_in, names_of_file, with_all_named}
use Rattle.folder_shapes.proofs.MentionLemmas.{done, goes_on}
use Rattle.folder_shapes.proofs.mentions.take_lines.Goals as goal

pub loop-rest-preserved : goal.loop-rest-preserved
loop-rest-preserved c =
    let found = c.in_ok-found.found in
    let wanted : List Named = with_all_named (names_of_file c.args.file c.args.bytes.now)
    (map named_in c.args.mentions.now.items) in
    record {
      named = goes_on c.args.file (option_map in_use c.loop-rest.used) (option_map in_use c.in_ok-used.used)
          (as_joined found.joined) (joined c.loop-rest.line (lines c.loop-rest.rest.now))
          (joined found.line (lines found.rest.now)) (map named_in c.loop-rest.mentions.items)
          (map named_in c.take_line.new.mentions.items) wanted c.in_ok-found.ensures.joined c.in_ok-used.ensures.used
          c.in_ok-used.ensures.named c.loop-rest.invariant.named;
      numbered = omega (arith, c.in_ok-found.ensures.numbered, c.loop-rest.invariant.numbered);
    }

pub returns : goal.returns
returns c =
    let rest = c.loop-rest.rest.now in
    let wanted : List Named = with_all_named (names_of_file c.args.file c.args.bytes.now)
    (map named_in c.args.mentions.now.items) in
    done c.args.file (option_map in_use c.loop-rest.used) (joined c.loop-rest.line (lines rest))
    (map named_in c.loop-rest.mentions.items) wanted
    (none_left c.loop-rest.line rest (is_nothing rest c.is_empty.result c.loop-rest-test.false c.is_empty.ensures))
    c.loop-rest.invariant.named
