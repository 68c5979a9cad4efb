-- For the contracts between functions only: what a walk leaves to the next step (Listing).
pub mod Listing
