pub mod SetFor
