pub mod PairLists
pub mod Calls
pub mod SlotLists
pub mod Fresh
pub mod Apart
pub mod InOrder
pub mod Rooms
