pub mod LiveSections
pub mod SectionText
