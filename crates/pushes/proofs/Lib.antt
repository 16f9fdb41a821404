pub mod PushLaws
pub mod PushedLaws
pub mod RoomLaws
pub mod SweepLaws
pub mod SweptLaws
