use Rattle.std.proofs.Common.{◌≡◌, ◌∙◌, ap, length, refl, sym, List, ℕ, Some}
use Rattle.std.specs.Prelude.{slice_get}
use Rattle.std.proofs.lemmas.Option.{slice_get_read}
use Rattle.code_items.specs.declared.state.State.{State}
use Rattle.prg_laid.proofs.Numbered.{found}
use Rattle.prg_laid.proofs.known.KnownStates.get.Goals as goal

pub returns : goal.returns
returns c =
    let number : slice_get c.deref.result.now c.args.place ≡ Some c.in-Some.number.now =
    slice_get_read c.deref.result.now (length c.deref.result.now) c.args.place c.in-Some.number.now refl
    c.in-Some.ensures.lookup.3.0 c.in-Some.ensures.lookup.1 in
    let state : slice_get c.deref-2.result.now c.in-Some.number.now ≡ Some c.in-Some-get.state.now =
    slice_get_read c.deref-2.result.now (length c.deref-2.result.now) c.in-Some.number.now c.in-Some-get.state.now refl
    c.in-Some-get.ensures.lookup.3.0 c.in-Some-get.ensures.lookup.1 in
    ap (λ (ss : List State). slice_get ss c.args.place) (sym c.self.view_is)
    ∙ found c.self.inside.kept.items c.self.inside.numbers.items c.args.place c.in-Some.number.now
    c.in-Some-get.state.now c.self.invariant
    (ap (λ (ns : List ℕ). slice_get ns c.args.place) (sym c.deref.ensures.value) ∙ number)
    (ap (λ (ss : List State). slice_get ss c.in-Some.number.now) (sym c.deref-2.ensures.value) ∙ state)
