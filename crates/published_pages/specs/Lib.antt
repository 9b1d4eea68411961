pub mod ThreeLines
