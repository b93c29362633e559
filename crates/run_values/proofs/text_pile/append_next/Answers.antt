use Rattle.std.proofs.Common.{◌≡◌, ◌+◌, ◌++◌, ◌<◌, length, ap, sym, ◌∙◌, arith}
use Rattle.std.specs.Prelude.{get_or, slice_set}
use Rattle.std.proofs.lemmas.List.{get_or-take, get_or-drop, set-append_left}
use Rattle.std.proofs.lemmas.Option.{get_or_from_slice_get}
use Rattle.xvalue.specs.Texts.{fitting}
use Rattle.run_values.proofs.text_pile.append_next.Goals as goal

pub returns-clause-appended : goal.returns-clause-appended
returns-clause-appended c first second there next =
    let texts = c.args.texts.now in
    let place = c.args.place in
    let split = c.split_at_mut-front in
    let front = split.result.0.now in
    let behind = split.result.1.now in
    let inside : place < length front = omega (arith, split.ensures.front_len) in
    let one = c.index-front-place.result in
    let other = c.index-behind-0.result in
    let lower : get_or front place one ≡ first =
    ap (λ l. get_or l place one) split.ensures.front ∙ get_or-take (place + 1) texts place one (omega arith)
    ∙ get_or_from_slice_get texts place first one there in
    let upper : get_or behind 0 other ≡ second =
    ap (λ l. get_or l 0 other) split.ensures.back ∙ get_or-drop (place + 1) texts 0 other
    ∙ ap (λ n. get_or texts n other) (omega arith) ∙ get_or_from_slice_get texts (place + 1) second other next in
    let items : c.append.new.text.items ≡ fitting (first.items ++ second.items) =
    c.append.ensures ∙ ap (λ t. fitting (t.items ++ c.as_slice.result.now)) lower
    ∙ ap (λ bytes. fitting (first.items ++ bytes)) (c.as_slice.ensures.value ∙ ap (λ t. t.items) upper) in
    sym (set-append_left front behind place c.append.new.text inside)
    ∙ ap (λ l. slice_set l place c.append.new.text) (sym split.ensures.value)
    ∙ ap (λ bytes. slice_set texts place (record { items = bytes })) items
