-- What the requests keep of the answers before them. WidePlans rests on Tables, and so does Plans.
pub mod Tables
pub mod Plans
pub mod WidePlans
pub mod Verdicts
