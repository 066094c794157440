-- Particles: a step of a single-particle cell, on its parts, over plain values.
pub mod Particles
