mod Counted
mod Free
mod Numbered
mod Sorted
