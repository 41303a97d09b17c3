pub mod DebugLemmas
pub mod PreLemmas
pub mod JoinLemmas
pub mod PlainLemmas
pub mod LayoutLemmas
pub mod BuildLemmas
pub mod AssemblyLemmas
pub mod PbuildLemmas
