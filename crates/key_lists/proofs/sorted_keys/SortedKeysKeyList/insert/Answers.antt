use Rattle.std.proofs.Common.{sym, ap, subst, ◌∙◌}
use Rattle.std.specs.List.{Contains}
use Rattle.key_lists.specs.Pairs.{Pair}
use Rattle.key_lists.specs.KeyForm.{IsKeyList}
use Rattle.key_lists.proofs.Sound.{IsKeyList-inserted}
use Rattle.key_lists.proofs.sorted_keys.SortedKeysKeyList.insert.Goals as goal

-- the pair at its place keeps the order
kept : (c : goal.After-put_in) → IsKeyList
    (record { key_length = c.self.inside.key_length; key_text = c.self.inside.key_text.items })
    c.put_in.new.entries.items
kept c =
    let x : Pair = (c.args.key.now, c.args.number) in
    rw c.put_in.ensures.pairs
    (IsKeyList-inserted _ x _ (
      c.requires.key_length ∙ ap (λ s. s.form.key_length) (sym c.self.view_is),
      c.requires.number,
    ) (λ there. c.requires.absent (subst (λ s. Contains s.pairs x) c.self.view_is there))
    c.self.invariant)

pub invariant_of-self : goal.invariant_of-self
invariant_of-self c = kept c

pub returns-clause-sound : goal.returns-clause-sound
returns-clause-sound c = kept c
