-- What the calls that hang, hold and cut leave of a table, and what any list of them keeps of an accepted one (document 02, Papers 5, 6 and 8): a leaf more
-- and a leaf fewer (Leaf), the two halves of hanging (Halves), and any list of calls (Calls).
pub mod Leaf
pub mod Halves
pub mod Calls
