pub mod RoomBits
pub mod Takes
