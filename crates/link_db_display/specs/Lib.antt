pub mod SymbolText
pub mod DebugText
