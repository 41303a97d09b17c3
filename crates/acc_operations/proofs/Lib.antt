pub mod ItemLemmas
mod WordExamples
