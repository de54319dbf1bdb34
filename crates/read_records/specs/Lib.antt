pub mod Firsts
pub mod Fields
pub mod Axes
pub mod Words
pub mod Digits
pub mod Tables
