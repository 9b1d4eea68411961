pub mod ReadInput
