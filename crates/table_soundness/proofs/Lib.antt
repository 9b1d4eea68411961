pub mod BothParts
