pub mod Looks
pub mod Said
pub mod Steps
pub mod Stages
pub mod Laying
