mod Nodes
mod Faces
mod Placed
mod Copies
mod Audits
mod Stores
