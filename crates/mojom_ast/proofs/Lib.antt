pub mod ClassFacts
