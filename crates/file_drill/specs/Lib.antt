pub mod FileDrilled
