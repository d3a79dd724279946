-- What the entries of tables are, and what the views need of them.
pub mod Cursors
pub mod Trees
pub mod Views
pub mod Rows
pub mod Passing
pub mod Listing
pub mod SameViews
