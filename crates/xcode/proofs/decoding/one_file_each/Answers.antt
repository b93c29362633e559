use Rattle.std.proofs.Common.{sym, ◌∙◌}
use Rattle.xcode.proofs.AgainLaws.{one_code}
use Rattle.xcode.proofs.decoding.one_file_each.Goals as goal

pub returns : goal.returns
returns c =
    let only = c.files_are_of_their_codes.ensures.only in
    record {
      text = λ a b code s t. s.spelled ∙ sym t.spelled;
      code = λ bytes a b s t. one_code _ a b (only bytes a s) (only bytes b t);
    }
