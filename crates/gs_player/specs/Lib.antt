pub mod Ended
pub mod Words
pub mod Playing
pub mod Agendas
