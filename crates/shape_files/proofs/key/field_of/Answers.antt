use Rattle.std.proofs.Common.{◌≡◌, ◌≤◌, ◌∙◌, length, refl, sym, ap, arith}
use Rattle.std.specs.Prelude.{slice_get}
use Rattle.std.specs.Str.{bytes_eq}
use Rattle.std.proofs.lemmas.Option.{slice_get_read}
use Rattle.shape.specs.Keys.{name_of}
use Rattle.shape_files.proofs.NameLemmas.{byte_found, byte_past, lacks_field, none_at_all, none_before, same_bytes}
use Rattle.shape_files.proofs.key.field_of.Goals as goal

pub returns-then-is_word-clause-found : goal.returns-then-is_word-clause-found
returns-then-is_word-clause-found c =
    let fields = c.args.fields.now in
    let there = slice_get_read fields (length fields) c.loop-n.n c.index-fields-n.result refl (search)
    (c.index-fields-n.is) in
    byte_found c.as_byte.result c.loop-n.n (λ n. name_of (slice_get fields n) ≡ c.args.name.now) c.as_byte.ensures
    (ap name_of there ∙ same_bytes _ _ (sym c.is_word.ensures ∙ c.if-is_word.true))

pub returns-then-is_word-clause-none : goal.returns-then-is_word-clause-none
returns-then-is_word-clause-none c = λ none.
    let past = byte_past c.as_byte.result c.loop-n.n c.as_byte.ensures none in
    lacks_field c.args.fields.now c.args.name.now
    (none_before (λ f. bytes_eq f.name.items c.args.name.now) c.args.fields.now 256 c.loop-n.n (omega (arith, past))
    c.loop-n.invariant)

pub returns-clause-none : goal.returns-clause-none
returns-clause-none c = λ _.
    let all : length c.args.fields.now ≤ c.loop-n.n = search in
    lacks_field c.args.fields.now c.args.name.now
    (none_at_all (λ f. bytes_eq f.name.items c.args.name.now) c.args.fields.now 256 c.loop-n.n all c.loop-n.invariant)
