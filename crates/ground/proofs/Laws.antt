-- Theorems about the definitions of specs/, each with the noun it speaks of; and, in Choice, Lists and Table, about what the kit's
-- libraries define.
pub mod Choice
pub mod Lists
pub mod Table
pub mod Refusals
pub mod Laying
pub mod Unique
