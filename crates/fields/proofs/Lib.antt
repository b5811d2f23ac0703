mod Conjugates
mod EachLawful
