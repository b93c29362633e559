use Rattle.std.proofs.Common.{ℕ, List, [], get_or, refl, sym, ◌∙◌, Bor}
use Rattle.std.proofs.lemmas.Option.{slice_get-get_or}
use Rattle.save_rules.proofs.ApartLemmas.{all_apart, not_apart, one_more}
use Rattle.save_rules.proofs.recorded.are_different.Goals as goal

-- a name, where there is none
abbrev d : Bor (List ℕ)
d = record { ref_ptr = (0, 0); now = [] }

pub returns-then-is_named_among : goal.returns-then-is_named_among
returns-then-is_named_among c =
    let names = c.args.names.now in
    let n = c.loop-place.place in
    let here = slice_get-get_or names n d c.loop-place-test.true in (
      λ no. absurd cc,
      λ apart. absurd (not_apart names n (get_or names n d) here (sym c.is_named_among.ensures ∙ c.if-is_named_among.true) apart),
    )

pub loop-place-preserved : goal.loop-place-preserved
loop-place-preserved c =
    let names = c.args.names.now in
    let n = c.loop-place.place in
    let here = slice_get-get_or names n d c.loop-place-test.true in
    one_more names n (get_or names n d) c.loop-place.invariant here (sym c.is_named_among.ensures ∙ c.if-is_named_among.false)

pub returns : goal.returns
returns c = (λ _. all_apart c.args.names.now c.loop-place.place c.loop-place-test.false c.loop-place.invariant, λ _. refl)
