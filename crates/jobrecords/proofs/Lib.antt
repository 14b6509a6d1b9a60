mod Fronts
mod Records
mod Counting
mod Steps
mod Likes
mod Copies
mod Uneven
mod Answers
