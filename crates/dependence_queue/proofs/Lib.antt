mod ChainsOfEdges
mod CodeSteps
pub mod EdgeKinds
pub mod EdgeLists
pub mod EdgesBetween
pub mod EdgesOfLists
mod FoundEdges
mod FoundRows
mod IndexedEdges
mod KeptUses
pub mod ListedEdges
mod MarkedRows
mod WorkedEdges
