pub mod Sample
pub mod CrowdLemmas
