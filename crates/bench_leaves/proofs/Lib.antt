pub mod OneEdge
