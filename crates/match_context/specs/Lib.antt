pub mod Envs
pub mod Contexts
pub mod Runs
pub mod Places
