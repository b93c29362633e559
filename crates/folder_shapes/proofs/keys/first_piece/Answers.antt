use Rattle.std.proofs.Common.{◌≡◌, ◌+◌, ◌<◌, length, take, drop, ap, ◌∙◌, rules}
use Rattle.std.proofs.lemmas.List.Splits.{slice_split_first}
use Rattle.std.specs.List.{position_or_len}
use Rattle.folder_shapes.specs.Keys.{is_plus}
use Rattle.folder_shapes.proofs.KeyLemmas.{whole_piece}
use Rattle.folder_shapes.proofs.keys.first_piece.Goals as goal

pub returns-then-length-text-clause-pieces : goal.returns-then-length-text-clause-pieces
returns-then-length-text-clause-pieces c =
    let all : position_or_len is_plus c.args.text.now ≡ length c.args.text.now = search rules in
    whole_piece is_plus c.args.text.now all

pub returns-clause-pieces : goal.returns-clause-pieces
returns-clause-pieces c =
    let text = c.args.text.now in
    let n = c.piece_length-length.ensures.value in
    let below : position_or_len is_plus text < length text = search rules in
    let front : c.split_at.result.0.now ≡ take (position_or_len is_plus text) text =
    c.split_at.ensures.front ∙ ap (λ k. take k text) n in
    let behind : c.split_at-2.result.1.now ≡ drop (position_or_len is_plus text + 1) text =
    c.split_at-2.ensures.back ∙ ap (λ k. drop (k + 1) text) n in
    rw (front, behind) (slice_split_first is_plus text 0 below)
