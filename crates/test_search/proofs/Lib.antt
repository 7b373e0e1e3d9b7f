pub mod PortCalls
pub mod AnalysisTrails
pub mod EmptyTrails
pub mod SampledLemmas
