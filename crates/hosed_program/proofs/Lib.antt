mod Ruled
mod WordsTaken
mod HostAsked
