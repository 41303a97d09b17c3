pub mod KeywordRows
