pub mod SeenLemmas
pub mod StepLemmas
pub mod EvaluationLemmas
pub mod LiveLemmas
pub mod KindLemmas
