use Rattle.std.proofs.Common.{◌≡◌, List, [], ℕ, length, map, Bor, inl, inr, refl, sym, ◌∙◌, arith}
use Rattle.std.proofs.lemmas.Bool.{eqb-true}
use Rattle.std.proofs.lemmas.List.{nil_from_length}
use Rattle.compile_commands.proofs.ListingLemmas.{all_listed_before}
use Rattle.compile_commands.proofs.listing.faults_of.Goals as goal

pub returns-then-not-is_empty-clause-lines : goal.returns-then-not-is_empty-clause-lines
returns-then-not-is_empty-clause-lines g c = (
  c.in_ok-lines.lines.items,
  all_listed_before (g.F.Files.holds c.args.files.now)
      (g.F.Files.holds c.list_shape.new.files) (map (λ (name : Bor (List ℕ)). name.now) c.args.names.now)
      (length c.args.names.now) c.in_ok-lines.lines.items c.in-Ok.ensures.kept c.in_ok-lines.ensures.listed,
  inl refl,
)

pub returns-in-Ok-faults_of_commands-clause-lines : goal.returns-in-Ok-faults_of_commands-clause-lines
returns-in-Ok-faults_of_commands-clause-lines g c =
    let lines : c.in_ok-lines.lines.items ≡ [] =
    nil_from_length _ (omega
    (arith, eqb-true _ 0 (sym c.is_empty-else-not-is_empty.ensures ∙ c.if-not-is_empty-2.false))) in (
      c.in_ok-lines.lines.items,
      all_listed_before (g.F.Files.holds c.args.files.now) (g.F.Files.holds c.list_shape.new.files)
          (map (λ (name : Bor (List ℕ)). name.now) c.args.names.now) (length c.args.names.now) c.in_ok-lines.lines.items
          c.in-Ok.ensures.kept c.in_ok-lines.ensures.listed,
      inr (lines, nil_from_length _ (omega (arith, eqb-true _ 0 (sym c.is_empty.ensures ∙ c.if-not-is_empty.false)))),
    )
