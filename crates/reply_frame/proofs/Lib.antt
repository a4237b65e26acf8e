pub mod FrameLaws
pub mod Puts
pub mod ReplyLaws
