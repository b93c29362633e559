use Rattle.std.proofs.Common.{◌≡◌, ℕ, None, sym, subst, ◌∙◌}
use Rattle.arrayvec.specs.ArrayVec.{ArrayVec}
use Rattle.indexmap.proofs.CallerLemmas.{insert_entry-new}
use Rattle.prg_writer.specs.Targets.{target_named}
use Rattle.prg_writer.proofs.Adding.{none_from, added}
use Rattle.prg_writer.proofs.procedures.NamedProcedures.add.Goals as goal

pub returns : goal.returns
returns c =
    let none : target_named c.args.name.now.items c.self.inside.first.entries ≡ None =
    none_from (target_named c.args.name.now.items c.self.inside.first.entries)
    (sym c.contains_key.ensures ∙ c.if-contains_key.false) in
    c.in_ok-insert.ensures.entries
    ∙ insert_entry-new _ c.self.inside.first c.copy_of_name.result c.args.target
    (subst (λ (n : ArrayVec ℕ). target_named n.items c.self.inside.first.entries ≡ None) (sym c.copy_of_name.ensures)
    none)
    ∙ added c.self.inside.first.entries c.args.self.now c.copy_of_name.result c.args.name.now c.args.target
    c.self.view_is c.copy_of_name.ensures none
