mod Images
mod Nodes
mod Faces
mod Lanes
mod Batches
