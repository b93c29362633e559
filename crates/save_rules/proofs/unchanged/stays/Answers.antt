-- A file that is to hold other bytes than were read stays where unchanged files are kept and it holds what it held.
use Rattle.std.proofs.Common.{◌≡◌, ◌↔◌, ℕ, Bool, true, List, Option, Some, IsTrue, MatchOption, Bor, ◌⊎◌, inr, ⊎_elim, sym, ◌∙◌, subst}
use Rattle.std.proofs.lemmas.Bool.Decides.{not_from_Decides}
use Rattle.std.proofs.lemmas.Result.{IfOk-weaker}
use Rattle.std.proofs.lemmas.Slice.Eq.{bytes_eq-Decides}
use Rattle.std.specs.Str.{bytes_eq}
use Rattle.save_rules.specs.declared.unchanged.HandedIn.{HandedIn}
use Rattle.save_rules.specs.Unchanged.{HoldTheSame, Stays}
use Rattle.save_rules.proofs.NameLemmas.{through}
use Rattle.save_rules.proofs.unchanged.stays.Goals as goal

by_records : (keeps : Bool) (file : HandedIn) (read : Bor (List ℕ)) → file.read ≡ Some read → keeps ≡ true
    → (read.now ≡ file.new.now → ⊥) → Stays keeps file ↔ HoldTheSame file.name.now read.now file.new.now
by_records keeps file read is kept differ =
    let P : Option (Bor (List ℕ)) → Type 0 = λ o. MatchOption o ⊥ (λ (r : Bor (List ℕ)). (r.now ≡ file.new.now)
    ⊎ ((keeps ≡ true) × HoldTheSame file.name.now r.now file.new.now)) in (
      λ stays. ⊎_elim (λ e. absurd (differ e)) (λ (k, same). same) (subst P is stays),
      λ same. subst P (sym is) (inr (kept, same)),
    )

pub returns : goal.returns
returns c =
    let file = c.args.file.now in
    let read = c.in-Some.read in
    let differ = not_from_Decides (bytes_eq read.now file.new.now) (bytes_eq-Decides read.now file.new.now)
    (sym c.eq.ensures ∙ c.if-eq.false) in
    let both = by_records c.args.keep_unchanged file read c.in-Some.is c.if-not-keep_unchanged.false differ in
    IfOk-weaker c.hold_the_same.result (λ same. IsTrue same ↔ HoldTheSame file.name.now read.now file.new.now)
    (λ same. IsTrue same ↔ Stays c.args.keep_unchanged file)
    (through (HoldTheSame file.name.now read.now file.new.now) (Stays c.args.keep_unchanged file) both)
    c.hold_the_same.ensures
