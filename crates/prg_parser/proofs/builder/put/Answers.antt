use Rattle.prg_parser.specs.Layout.{command_lines, body_lines, form_lines}
use Rattle.prg_parser.proofs.BuildLemmas.{put_by}
use Rattle.prg_parser.proofs.LayoutLemmas.{bodies_more}
use Rattle.prg_parser.proofs.builder.put.Goals as goal

pub returns : goal.returns
returns c =
    put_by body_lines command_lines bodies_more c.args.commands.items c.push.new.self.items c.command_of.result
    (form_lines c.args.form c.args.line) c.in_ok-push.ensures.items c.command_of.ensures
