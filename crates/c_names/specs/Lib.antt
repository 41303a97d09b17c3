-- The scopes that tables stand for, and the objects of file scope.
pub mod Tables
pub mod Statics
