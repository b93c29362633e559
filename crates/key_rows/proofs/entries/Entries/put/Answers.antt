use Rattle.std.proofs.Common.{◌+◌, ◌*◌, ◌≤◌, ℕ, List, length, refl, sym, subst, ◌∙◌}
use Rattle.key_rows.specs.Flat.{HaveKeys}
use Rattle.key_rows.proofs.entries.Entries.put.Goals as goal

pub put_pair-requires-clause-short : goal.put_pair-requires-clause-short
put_pair-requires-clause-short c = subst (λ (m : List ℕ). length m ≤ 100) (sym c.key.ensures.value) c.key.ensures.bound

pub put_pair-requires-clause-alike : goal.put_pair-requires-clause-alike
put_pair-requires-clause-alike c =
    subst (λ (m : List ℕ). HaveKeys (length m) c.args.self.now.items) (sym c.key.ensures.value) c.requires.alike

pub put_pair-requires-clause-room : goal.put_pair-requires-clause-room
put_pair-requires-clause-room c = subst
    (λ (m : List ℕ). (length c.args.self.now.items + 1) * (length m + 4) ≤ c.args.self.now.room)
    (sym c.key.ensures.value) c.requires.room

pub returns-clause-items : goal.returns-clause-items
returns-clause-items c = c.put_pair.ensures.items ∙ rw (c.key.ensures.value, c.number.ensures) refl
