use Rattle.std.proofs.Common.{arith}
use Rattle.dbf_file.proofs.TableLemmas.{places_fit}
use Rattle.dbf_file.proofs.table.row_place.Goals as goal

pub overflow_mul-result : goal.overflow_mul-result
overflow_mul-result c = let most = places_fit c.args.r c.args.size (omega arith) c.requires.small in omega (arith, most)
