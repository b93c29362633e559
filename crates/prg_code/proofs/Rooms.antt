-- Room of pieces, counted one after another.
use Rattle.std.proofs.Common.{◌≡◌, ℕ, ◌+◌, ◌<◌, ◌^◌, List, [], map, arith, subst}
use Rattle.prg_code.specs.declared.block.BlockPiece.{BlockPiece}
use Rattle.prg_code.specs.declared.block.Label.{Label}
use Rattle.prg_code.specs.Rooms.{in_64_bits, sizes_of, maps_of}

held : (n m : ℕ) → n < 2 ^ 64 → in_64_bits (n + 0) ≡ m → n ≡ m
held n m low h = omega arith

-- all pieces are counted where none is left
pub all_sizes : (own n m : ℕ) (ps : List BlockPiece) → n < 2 ^ 64 → ps ≡ []
    → in_64_bits (n + sizes_of own (map (λ p. p.draft) ps)) ≡ m → n ≡ m
all_sizes own n m ps low none h =
    held n m low (subst (λ (qs : List BlockPiece). in_64_bits (n + sizes_of own (map (λ p. p.draft) qs)) ≡ m) none h)

pub all_maps : (labels : List Label) (n m : ℕ) (ps : List BlockPiece) → n < 2 ^ 64 → ps ≡ []
    → in_64_bits (n + maps_of labels (map (λ p. p.draft) ps)) ≡ m → n ≡ m
all_maps labels n m ps low none h =
    held n m low (subst (λ (qs : List BlockPiece). in_64_bits (n + maps_of labels (map (λ p. p.draft) qs)) ≡ m) none h)
