use Rattle.std.proofs.Common.{◌∙◌, ◌+◌, List, sym, ap, subst, drop}
use Rattle.key_lists.specs.Pairs.{Pair}
use Rattle.row_moves.specs.Moves.{IsScan, first_shown, is_all_blanks, matching, met}
use Rattle.row_moves.specs.Seeking.{all_starting, cut_or_filled}
use Rattle.row_moves.proofs.Seeking.{matching_cut_or_filled, matching_none}
use Rattle.row_moves.proofs.key_search.seek_matching.Goals as goal

pub returns-then-not-exact-clause-scan : goal.returns-then-not-exact-clause-scan
returns-then-not-exact-clause-scan g c = λ shown sees.
    let pairs : List Pair = g.K.KeyList.pairs c.args.keys.now in
    subst (λ b. IsScan shown (matching b c.args.text.now pairs) 1 c.args.budget c.seek_start.result)
    (sym c.if-not-exact.true) (c.seek_start.ensures.scan shown sees)

pub returns-then-not-is_blank_behind-clause-scan : goal.returns-then-not-is_blank_behind-clause-scan
returns-then-not-is_blank_behind-clause-scan g c = λ shown sees.
    let pairs : List Pair = g.K.KeyList.pairs c.args.keys.now in
    let length = (g.K.KeyList.form c.args.keys.now).key_length in
    let more = ap (λ n. is_all_blanks (drop n c.args.text.now)) (sym c.key_length-length.ensures)
    ∙ sym c.is_blank_behind.ensures ∙ c.if-not-is_blank_behind.true in
    let none = ap (λ b. matching b c.args.text.now pairs) c.if-not-exact.false
    ∙ matching_none length c.args.text.now pairs c.requires.sound.keys more in
    (sym (ap (first_shown shown) none), sym (ap (λ ps. 1 + met shown ps) none), c.requires.in_budget)

pub returns-clause-scan : goal.returns-clause-scan
returns-clause-scan g c = λ shown sees.
    let pairs : List Pair = g.K.KeyList.pairs c.args.keys.now in
    let length = (g.K.KeyList.form c.args.keys.now).key_length in
    let more = ap (λ n. is_all_blanks (drop n c.args.text.now)) (sym c.key_length-length.ensures)
    ∙ sym c.is_blank_behind.ensures ∙ c.if-not-is_blank_behind.false in
    let all = ap (λ b. matching b c.args.text.now pairs) c.if-not-exact.false
    ∙ matching_cut_or_filled length c.args.text.now pairs c.requires.sound.keys more in
    let key = c.as_slice.ensures.value ∙ c.cut_or_filled.ensures ∙ ap (λ n. cut_or_filled n c.args.text.now)
    c.key_length-length.ensures in
    subst (λ ps. IsScan shown ps 1 c.args.budget c.seek_start-2.result) (ap (λ bs. all_starting bs pairs) key ∙ sym all)
    (c.seek_start-2.ensures.scan shown sees)
