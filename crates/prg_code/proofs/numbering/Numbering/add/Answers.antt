use Rattle.std.proofs.Common.{◌≡◌, ◌∷◌, ◌++◌, [], false, ap, sym, subst, ◌∙◌}
use Rattle.std.specs.List.{list_any}
use Rattle.prg_code.proofs.Numbers.{added, last_number}
use Rattle.prg_code.proofs.numbering.Numbering.add.Goals as goal

pub returns-clause-next : goal.returns-clause-next
returns-clause-next g c =
    c.in_ok-insert.ensures.keys
    ∙ added g.T.PartialEq.eq c.self.inside.items.keys c.args.item
    (subst (λ xs. list_any (g.T.PartialEq.eq c.args.item) xs ≡ false) (sym c.self.view_is) c.requires)
    ∙ ap (λ xs. xs ++ c.args.item ∷ []) c.self.view_is

pub returns-clause-there : goal.returns-clause-there
returns-clause-there g c =
    rw (
      c.in_ok-insert.ensures.keys,
      added g.T.PartialEq.eq c.self.inside.items.keys c.args.item
          (subst (λ xs. list_any (g.T.PartialEq.eq c.args.item) xs ≡ false) (sym c.self.view_is) c.requires),
      c.len-number.ensures.len,
    )
    (last_number c.self.inside.items.keys c.args.item)
