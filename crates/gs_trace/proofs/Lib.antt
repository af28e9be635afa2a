pub mod Appended
pub mod Writing
mod Named
mod Starts
mod Seeing
mod Wanting
mod TurnTexts
mod Prefixes
mod Numbers
mod Quotes
mod Values
mod RpcTexts
mod EventTexts
mod MarkTexts
mod FallenTexts
mod FallenStored
mod LineTexts
mod Rounds
mod Traces
mod OneText
mod ToldRefusals
mod FallenLaws
