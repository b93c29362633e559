use Rattle.std.proofs.Common.{◌≡◌, ◌∙◌, ◌++◌, ◌∷◌, [], ℕ, List, length, ap, refl, arith}
use Rattle.ndx_tree.specs.declared.walk.Separator.{Separator}
use Rattle.ndx_tree.proofs.Reading.{shows_separator}
use Rattle.ndx_tree.proofs.walk.take_separator.Goals as goal

pub returns-clause-shown : goal.returns-clause-shown
returns-clause-shown c = λ k count s h.
    let place : c.len-place.result ≡ length c.args.found.now.entries.items = omega arith in
    shows_separator k count c.args.found.now _ s c.args.key.now h refl refl refl
    (c.in_ok-push.ensures.items
    ∙ ap (λ n. c.args.found.now.separators.items ++ (let x : Separator = record { place = n; key = c.held.result } in x)
    ∷ []) place
    ∙ ap (λ (m : List ℕ). c.args.found.now.separators.items
    ++ (let x : Separator = record { place = length c.args.found.now.entries.items; key = record { items = m } } in
    x) ∷ []) c.held.ensures)
