use Rattle.std.proofs.Common.{rules, ◌≡◌, length, min}
use Rattle.ndx_page.proofs.EntryLemmas.{entry_written}
use Rattle.ndx_page.proofs.page_bytes.append_entry.Goals as goal

pub returns-clause-items : goal.returns-clause-items
returns-clause-items c =
    let shown : c.min-shown.result ≡ min (length c.args.entry.now.key.items) c.args.key_length =
    search (rules, c.len.ensures.value) in
    let written = entry_written c.args.sheet.now.items c.args.key_length c.min-shown.result c.args.entry.now shown in
    cc
