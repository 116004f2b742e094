mod Keys
mod OneKey
mod PassingTables
mod PassingBatches
mod Distinct
mod Rests
mod Gathering
