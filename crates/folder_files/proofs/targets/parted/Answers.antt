use Rattle.std.proofs.Common.{◌∙◌, None, Some, arith, lit<}
use Rattle.std.proofs.lemmas.Str.Pattern.{rfind_char}
use Rattle.folder_files.proofs.LastSlash.{folder_none, folder_to, name_from, name_whole}
use Rattle.folder_files.proofs.targets.parted.Goals as goal

pub returns-in-Some-clause-folder : goal.returns-in-Some-clause-folder
returns-in-Some-clause-folder c =
    let found = rfind_char 47 c.args.path.now (Some c.in-Some.slash) c.in-Some.ensures.cases (lit< tt) in
    c.split_at.ensures.front ∙ folder_to c.args.path.now c.in-Some.slash c.saturating_add.result found.0 found.1 found.2
    (omega (arith, found.0))

pub returns-in-Some-clause-name : goal.returns-in-Some-clause-name
returns-in-Some-clause-name c =
    let found = rfind_char 47 c.args.path.now (Some c.in-Some.slash) c.in-Some.ensures.cases (lit< tt) in
    c.split_at.ensures.back ∙ name_from c.args.path.now c.in-Some.slash c.saturating_add.result found.0 found.1 found.2
    (omega (arith, found.0))

pub returns-in-None-clause-folder : goal.returns-in-None-clause-folder
returns-in-None-clause-folder c =
    folder_none c.args.path.now (rfind_char 47 c.args.path.now None c.in-None.ensures.cases (lit< tt))

pub returns-in-None-clause-name : goal.returns-in-None-clause-name
returns-in-None-clause-name c =
    name_whole c.args.path.now (rfind_char 47 c.args.path.now None c.in-None.ensures.cases (lit< tt))
