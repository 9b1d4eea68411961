pub mod Asked
pub mod Basket
pub mod History
pub mod Link
pub mod Links
pub mod MemBasket
pub mod MemLink
pub mod Pages
