mod CalendarLemmas
mod ClockLemmas
mod DayLemmas
mod HeldLemmas
pub mod LawLemmas
mod Places
mod Rt11Lemmas
mod TextLemmas
