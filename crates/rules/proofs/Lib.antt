mod Deciding
mod Followed
mod Levels
mod Postfix
mod Searches
