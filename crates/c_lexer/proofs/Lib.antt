pub mod OneAnswer
pub mod CharacterLemmas
pub mod ScannerLemmas
pub mod LexerLemmas
pub mod TokenTexts
pub mod SpelledTokens
