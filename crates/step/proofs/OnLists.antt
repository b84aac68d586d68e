-- Lists, arrays that hold them, and the loops over both.
pub mod Alike
pub mod Lists
pub mod Keeping
pub mod Sums
pub mod Filling
pub mod Turns
pub mod Rising
pub mod Rooms
pub mod Searching
