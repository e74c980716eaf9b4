pub mod WordLemmas
pub mod SentenceLemmas
pub mod OneSentence
pub mod LineFound
pub mod ScanLemmas
pub mod LineWords
