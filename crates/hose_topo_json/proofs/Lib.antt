mod Fronts
mod LinkEnds
mod Names
mod OneAnswer
mod OneLink
mod OneNode
mod Values
