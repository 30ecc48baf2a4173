mod HostOutcomes
mod Hosted
mod LedOpenings
mod OpenDoors
