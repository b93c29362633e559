-- What a writer of comma-separated values has written.
use Rattle.std.specs.Prelude.{◌≡◌, ℕ, false, List, Some}
use Rattle.std.specs.declared.alloc.Global.{Global}
use Rattle.std.specs.declared.vec.Vec.{Vec}
use Rattle.csv.specs.Writing.{default_writer, text_written, writer_setup, fields_written, has_written}
use Rattle.csv.specs.declared.writer.Writer.{Writer}

-- the text, whole lines alone, written as the crate's defaults say
pub record HasWritten (text : List ℕ) (w : Writer (Vec ℕ Global)) : Type 0 where
  pub written : text_written (λ v. Some v.items) w ≡ Some text
  pub setup : writer_setup w ≡ default_writer
  pub no_field : fields_written w ≡ 0
  pub no_byte : has_written w ≡ false
