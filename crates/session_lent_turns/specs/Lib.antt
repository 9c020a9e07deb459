pub mod LentTurns
