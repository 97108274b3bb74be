mod Ties
mod Arcs
