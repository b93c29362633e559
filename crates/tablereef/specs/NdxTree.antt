-- What the contracts of `ndx_tree` say.
pub use Rattle.ndx_tree.specs.Pages
pub use Rattle.ndx_tree.specs.Falls
pub use Rattle.ndx_tree.specs.Rooms
pub use Rattle.ndx_tree.specs.Blanks
pub use Rattle.ndx_tree.specs.Trees
pub use Rattle.ndx_tree.specs.Levels
pub use Rattle.ndx_tree.specs.IndexFile
pub use Rattle.ndx_tree.specs.IndexText
pub use Rattle.ndx_tree.specs.Walk
pub use Rattle.ndx_tree.specs.Reads
pub use Rattle.ndx_tree.specs.Writes
pub use Rattle.ndx_tree.specs.Pairs
pub use Rattle.ndx_tree.specs.SortedList
pub use Rattle.key_lists.specs.KeyForm
pub use Rattle.key_lists.specs.Order
pub use Rattle.key_lists.specs.Rising
