use Rattle.std.proofs.Common.{arith}
use Rattle.ndx_tree.proofs.page_file.append_page.Goals as goal

pub returns-clause-text : goal.returns-clause-text
returns-clause-text c = record {
  text = c.write_page.result;
  whole = omega arith;
  is = c.write_page.ensures.exact;
  stands = c.write_page.ensures.reads c.requires.fits;
  items = c.in_ok-extend_from_slice.ensures.items;
}
