-- Keys are ordered by their first different bytes, and pairs of one key by their records.
use Rattle.std.proofs.Common.{◌≡◌, ℕ, ◌<◌, List, [], ◌∷◌, ◌++◌, refl, ap}
use Rattle.std.specs.declared.cmp.Ordering.TheVariants.{Less}
use Rattle.std.specs.Ordering.{is_lt, nat_cmp}
use Rattle.std.specs.Cmp.Lexicographic.{slice_cmp}
use Rattle.std.proofs.lemmas.Bool.{lt-ltb}
use Rattle.std.proofs.lemmas.Cmp.{nat_list_cmp_total, nat_cmp_total, tied_itself}
use Rattle.key_lists.specs.Pairs.{is_before, key_before}
use Rattle.key_lists.specs.Laws.{OrdersPairs}
use Rattle.key_lists.proofs.PairOrder.{is_before_strict, is_lt-less}

slice_cmp-start : (start k l : List ℕ) → slice_cmp nat_cmp (start ++ k) (start ++ l) ≡ slice_cmp nat_cmp k l
slice_cmp-start [] k l = refl
slice_cmp-start (b ∷ start) k l = rw (tied_itself nat_cmp_total b) (slice_cmp-start start k l)

slice_cmp-prefix : (k : List ℕ) (b : ℕ) (rest : List ℕ) → slice_cmp nat_cmp k (k ++ b ∷ rest) ≡ Less
slice_cmp-prefix [] b rest = refl
slice_cmp-prefix (a ∷ k) b rest = rw (tied_itself nat_cmp_total a) (slice_cmp-prefix k b rest)

pub nat_cmp-less : (a b : ℕ) → a < b → nat_cmp a b ≡ Less
nat_cmp-less a b lt = rw (lt-ltb a b lt) refl

pub orders_pairs : OrdersPairs
unfolding is_before key_before
orders_pairs = record {
  strict = is_before_strict;
  by_key = λ k l m n e. let less = is_lt-less _ e in rw less refl;
  by_record = λ k m n lt. rw (tied_itself nat_list_cmp_total k, nat_cmp-less m n lt) refl;
  by_byte = λ k l a b lt. rw (nat_cmp-less a b lt) refl;
  same_start = λ start k l. ap is_lt (slice_cmp-start start k l);
  prefix = λ k b rest. ap is_lt (slice_cmp-prefix k b rest);
}
