use Rattle.std.proofs.Common.{◌∙◌, ap}
use Rattle.toml.specs.Data.{string}
use Rattle.toml.proofs.Views.{table_insert}
use Rattle.journal_papers.proofs.OtherWords.{others_kept}
use Rattle.journal_papers.proofs.paper.JournalPaper.put.Goals as goal

pub returns-clause-stands : goal.returns-clause-stands
returns-clause-stands c =
    rw c.in_ok-insert.ensures.entries
    (table_insert c.in_ok-key.key _ c.from.result _ c.args.self.now.table.entries c.in_ok-key.ensures.ok
    (c.from.ensures ∙ ap string c.in_ok-word.ensures.ok))

pub returns-clause-others : goal.returns-clause-others
returns-clause-others c = λ other apart.
    rw c.in_ok-insert.ensures.entries (others_kept other c.in_ok-key.key c.from.result c.args.self.now.table.entries
    (λ same. apart (same ∙ c.in_ok-key.ensures.ok)))
