-- Lemmas of the script language.
pub mod WordLemmas
pub mod DigitLemmas
pub mod AskLemmas
pub mod LineLemmas
pub mod AskingLemmas
pub mod AnswerLemmas
pub mod OutputLemmas
pub mod PieceLemmas
pub mod InputLemmas
pub mod SpellingLemmas
pub mod JoinedLemmas
