mod Entering
mod Listing
mod Reading
mod Spelling
