pub mod Order
pub mod Pairs
pub mod KeyForm
pub mod SortedList
pub mod Laws
pub mod Rising
