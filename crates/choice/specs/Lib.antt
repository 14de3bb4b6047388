pub mod Within
pub mod Order
