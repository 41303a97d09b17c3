-- The first node of a walk that breaks a rule is the one that the rules of names and types find.
pub mod Finding
pub mod Mismatching
pub mod MoreMismatching
pub mod Nodes
pub mod ExpressionNodes
pub mod ConstantsWalked
pub mod ExpressionsWalked
pub mod DeclarationsWalked
pub mod StatementNodes
pub mod StatementsWalked
pub mod SourceWalked
