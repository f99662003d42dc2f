mod Along
mod Trees
mod Texts
mod Lines
