mod Answers
mod Lengths
