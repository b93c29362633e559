use Rattle.std.proofs.Common.{◌≡◌, ◌++◌, ◌∙◌, ap, rules, string_bytes, true}
use Rattle.folder_files.specs.Paths.{folder_of_path}
use Rattle.folder_files.proofs.SameFolder.{folder_stays, has_no_slash}
use Rattle.folder_files.proofs.targets.named_by.Goals as goal
use Rattle.save_rules.specs.Rules.{is_in_folder}

pub returns : goal.returns
returns c =
    let link = c.unwrap_or-link.result.now in
    let inside : is_in_folder link ≡ true = search rules in
    let text : string_bytes c.in_ok-format.field-0 ≡ folder_of_path c.args.name.now ++ link = search rules in
    ap folder_of_path text ∙ folder_stays c.args.name.now link (has_no_slash link inside)
