pub mod TextLines
pub mod Numbers
pub mod FilledTexts
